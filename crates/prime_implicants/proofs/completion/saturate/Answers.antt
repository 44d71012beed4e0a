use Rattle.prime_implicants.specs.DenseClauses.{is_pure, is_wide, is_zero, mentions}
use Rattle.std.proofs.Common.{rules, length, ◌≡◌, true, get_or}
use Rattle.std.specs.List.{list_all, filter}
use Rattle.prime_implicants.proofs.DenseClauseLaws.{rows_in, list_all-filter, zeros_stay}
use Rattle.prime_implicants.proofs.PureSubjects.{pure_adds_nothing}
use Rattle.prime_implicants.proofs.completion.saturate.Goals as goal

pub naming-requires : goal.naming-requires
naming-requires c = rw c.as_slice-2.ensures.value (rows_in (length c.args.sizes.now) c.args.x c.args.rows.now.items c.requires.subject c.requires.wide)

pub gather-requires-clause-wide : goal.gather-requires-clause-wide
gather-requires-clause-wide c =
    let items : c.as_slice-3.result.now ≡ filter (mentions c.args.x) c.args.rows.now.items = search rules in
    rw items (list_all-filter (is_wide (length c.args.sizes.now)) (mentions c.args.x) c.args.rows.now.items c.requires.wide)

pub returns-clause-zero : goal.returns-clause-zero
returns-clause-zero c = λ y h.
    let with : c.as_slice-3.result.now ≡ filter (mentions c.args.x) c.args.rows.now.items = search rules in
    let named : list_all (is_zero y) c.as_slice-3.result.now ≡ true = rw with (list_all-filter (is_zero y) (mentions c.args.x) c.args.rows.now.items h) in
    let more : list_all (is_zero y) c.in_ok-more.more.items ≡ true = c.in_ok-more.ensures.zero y (zeros_stay c.args.x y c.as_slice-3.result.now named) in
    c.in_ok-add_all.ensures.same (is_zero y) h (rw c.as_slice-4.ensures.value more)

pub returns-then-is_pure-clause-unfalsified : goal.returns-then-is_pure-clause-unfalsified
returns-then-is_pure-clause-unfalsified c = λ q w.
    let x = c.args.x in
    let rows = c.args.rows.now.items in
    let pure : is_pure (get_or c.args.sizes.now x 0) x rows ≡ true = search rules in
    pure_adds_nothing c.args.sizes.now x q rows w c.requires.subject c.requires.wide pure
