use Rattle.std.proofs.Common.{◌≡◌, ◌≢◌, ℕ, ◌-◌, ◌*◌, ◌%◌, ◌^◌, ◌<◌, true, length, slice_index, bit_and, refl, subst, arith}
use Rattle.std.proofs.lemmas.List.{get_or_read}
use Rattle.cca_base.specs.Sets.{has}
use Rattle.clash_analysis.specs.declared.entry.Why.TheVariants.{Assumed}
use Rattle.world_search.proofs.AssumeLaws.{alone_left, fewer_left, kept_left, lost_apart, lost_learned, not_left, one_only, one_small}
use Rattle.world_search.proofs.ClauseLaws.{some_common, some_more}
use Rattle.world_search.proofs.WorkLaws.{one_has}
use Rattle.world_search.proofs.assume.assume.Goals as goal

pub returns-then-left-one-eq0-clause-lost : goal.returns-then-left-one-eq0-clause-lost
returns-then-left-one-eq0-clause-lost c _ =
    let old = c.args.work.now in
    let p = c.args.pair in
    let left : c.index-left.result.now ≡ slice_index old.dom.items p.item = get_or_read old.dom.items p.item c.index-left.result.now c.requires.subject c.index-left.ensures 0 in
    let inside : p.item < length old.learn.items = omega (arith, c.requires.subject, c.requires.ready.shape.dom, c.requires.ready.shape.learn) in
    let here : p.item < length old.start.items = omega (arith, c.requires.subject, c.requires.ready.shape.dom) in
    let start : c.index-start.result.now ≡ slice_index old.start.items p.item = get_or_read old.start.items p.item c.index-start.result.now here c.index-start.ensures 0 in
    let out = not_left p.value c.requires.value (slice_index old.dom.items p.item) (subst (λ (n : ℕ). bit_and n (1 * 2 ^ p.value % 2 ^ 64) ≡ 0) left c.if-left-one-eq0.true) in
    record {
      learned = λ is. rw start (lost_learned old.start.items old.dom.items old.learn.items p c.requires.value inside c.requires.clear is);
      apart = rw start (lost_apart old.start.items old.dom.items old.learn.items p c.requires.value inside c.requires.clear out);
    }

pub narrow-requires-clause-some : goal.narrow-requires-clause-some
narrow-requires-clause-some c =
    let old = c.args.work.now in
    let p = c.args.pair in
    let left : c.index-left.result.now ≡ slice_index old.dom.items p.item = get_or_read old.dom.items p.item c.index-left.result.now c.requires.subject c.index-left.ensures 0 in
    some_common (slice_index old.dom.items p.item) (1 * 2 ^ p.value % 2 ^ 64) (omega (arith, left, c.type_inv.left)) (subst (λ (n : ℕ). bit_and n (1 * 2 ^ p.value % 2 ^ 64) ≢ 0) left c.if-left-one-eq0.false)

pub narrow-requires-clause-more : goal.narrow-requires-clause-more
narrow-requires-clause-more c =
    let old = c.args.work.now in
    let p = c.args.pair in
    let left : c.index-left.result.now ≡ slice_index old.dom.items p.item = get_or_read old.dom.items p.item c.index-left.result.now c.requires.subject c.index-left.ensures 0 in
    some_more (slice_index old.dom.items p.item) (1 * 2 ^ p.value % 2 ^ 64) (omega (arith, left, c.type_inv.left)) (one_small p.value c.requires.value)
    (subst (λ (n : ℕ). bit_and n (18446744073709551615 - 1 * 2 ^ p.value % 2 ^ 64) ≢ 0) left c.if-left-one-ne0.true)

pub returns-then-left-one-ne0-clause-fewer : goal.returns-then-left-one-ne0-clause-fewer
returns-then-left-one-ne0-clause-fewer c v a held =
    let old = c.args.work.now in
    let p = c.args.pair in
    fewer_left old.dom.items p.item (1 * 2 ^ p.value % 2 ^ 64) Assumed c.requires.subject v a (subst (λ d. has (slice_index d v) a ≡ true) c.narrow.ensures.put.dom held)

pub returns-then-left-one-ne0-clause-right : goal.returns-then-left-one-ne0-clause-right
returns-then-left-one-ne0-clause-right c want pairs among t =
    c.narrow.ensures.right want pairs (c.args.pair, among, refl, one_has c.args.pair.value c.requires.value) t

pub returns-then-left-one-ne0-clause-alone : goal.returns-then-left-one-ne0-clause-alone
returns-then-left-one-ne0-clause-alone c _ a held =
    let old = c.args.work.now in
    let p = c.args.pair in
    one_only p.value c.requires.value a (kept_left old.dom.items p.item (1 * 2 ^ p.value % 2 ^ 64) Assumed c.requires.subject a (subst (λ d. has (slice_index d p.item) a ≡ true) c.narrow.ensures.put.dom held))

pub returns-else-left-one-ne0-clause-alone : goal.returns-else-left-one-ne0-clause-alone
returns-else-left-one-ne0-clause-alone c _ =
    let old = c.args.work.now in
    let p = c.args.pair in
    let left : c.index-left.result.now ≡ slice_index old.dom.items p.item = get_or_read old.dom.items p.item c.index-left.result.now c.requires.subject c.index-left.ensures 0 in
    alone_left p.value c.requires.value (slice_index old.dom.items p.item) (c.requires.ready.sets.small p.item)
    (subst (λ (n : ℕ). bit_and n (18446744073709551615 - 1 * 2 ^ p.value % 2 ^ 64) ≡ 0) left c.if-left-one-ne0.false)
