use Rattle.std.proofs.Common.{rules, ◌≡◌, ◌∙◌, ap, sym, ◌&&◌, true, length, subst}
use Rattle.std.specs.List.{list_all}
use Rattle.list_laws.proofs.Tests.{and_with}
use Rattle.prime_implicants.specs.DenseClauses.{all_unfalsified, row_unfalsified, is_wide, union_rows, is_always}
use Rattle.prime_implicants.proofs.DenseClauseLaws.{row_unfalsified-always, union_unfalsified, wide-union, widths}
use Rattle.prime_implicants.proofs.gathering.join_one.Goals as goal

pub returns-then-is_always-clause-unfalsified : goal.returns-then-is_always-clause-unfalsified
returns-then-is_always-clause-unfalsified c = λ q w.
    let r : c.in_ok-both.both ≡ union_rows c.args.a.now c.args.b.now = search rules in
    let always : is_always c.args.sizes.now (union_rows c.args.a.now c.args.b.now) ≡ true = cc in
    and_with _ _ (sym (union_unfalsified _ q _ _ c.requires.a c.requires.b) ∙ row_unfalsified-always c.args.sizes.now q _ w always)

pub insert_minimal-requires : goal.insert_minimal-requires
insert_minimal-requires c =
    let r : c.in_ok-both.both ≡ union_rows c.args.a.now c.args.b.now = search rules in
    let long : length c.in_ok-both.both ≡ length c.args.sizes.now = ap length r ∙ widths _ _ (wide-union _ c.args.a.now c.args.b.now c.requires.a c.requires.b) in
    subst (λ n. list_all (is_wide n) c.args.out.now.items ≡ true) (sym long) c.requires.out

pub returns-clause-unfalsified : goal.returns-clause-unfalsified
returns-clause-unfalsified c = λ q w.
    let r : c.in_ok-both.both ≡ union_rows c.args.a.now c.args.b.now = search rules in
    let added : all_unfalsified q c.insert_minimal.new.rows.items ≡ (all_unfalsified q c.args.out.now.items && row_unfalsified q c.in_ok-both.both) = search rules in
    added ∙ ap (λ x. all_unfalsified q c.args.out.now.items && row_unfalsified q x) r ∙ ap (λ x. all_unfalsified q c.args.out.now.items && x) (union_unfalsified _ q _ _ c.requires.a c.requires.b)
