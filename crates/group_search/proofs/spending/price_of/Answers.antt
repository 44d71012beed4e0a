use Rattle.std.proofs.Common.{◌≡◌, ◌≢◌, ℕ, true, Option, None, Some, IfSome, slice_index, sym, subst, arith}
use Rattle.std.proofs.lemmas.List.{get_or_read}
use Rattle.cca_base.specs.Sets.{has}
use Rattle.group_search.specs.Bounds.{Leaves}
use Rattle.group_search.proofs.PriceLaws.{held_leaves, held_value, held_word}
use Rattle.group_search.proofs.ValueLaws.{another_value, low_member}
use Rattle.group_search.proofs.spending.price_of.Goals as goal

pub returns-then-without-eq0-clause-value : goal.returns-then-without-eq0-clause-value
returns-then-without-eq0-clause-value g c = held_value (g.P.Paths.means.question c.args.problem.now) c.args.boxed.now c.args.pair (g.met.P.Paths.owned c.args.problem.now) c.requires.ready c.requires.held.place c.requires.held.value c.requires.stands

pub returns-clause-value : goal.returns-clause-value
returns-clause-value g c = held_value (g.P.Paths.means.question c.args.problem.now) c.args.boxed.now c.args.pair (g.met.P.Paths.owned c.args.problem.now) c.requires.ready c.requires.held.place c.requires.held.value c.requires.stands

pub without-requires-clause-has : goal.without-requires-clause-has
without-requires-clause-has g c =
    let b = c.args.boxed.now in
    let p = c.args.pair in
    let read = get_or_read b.masks p.item c.get.result.now (omega (arith, c.requires.held.place, c.requires.ready.masks)) c.get.ensures.item 0 in
    let value = held_value (g.P.Paths.means.question c.args.problem.now) b p (g.met.P.Paths.owned c.args.problem.now) c.requires.ready c.requires.held.place c.requires.held.value c.requires.stands in
    subst (λ w. has w p.value ≡ true) (sym read) value

pub without-requires-clause-small : goal.without-requires-clause-small
without-requires-clause-small g c =
    let q = g.P.Paths.means.question c.args.problem.now in
    let b = c.args.boxed.now in
    let p = c.args.pair in
    let own = g.met.P.Paths.owned c.args.problem.now in
    let held = c.requires.held in
    low_member (slice_index b.masks p.item) p.value (held_word q b p own c.requires.ready held.place held.value c.requires.stands) (held_value q b p own c.requires.ready held.place held.value c.requires.stands)

pub returns-clause-more : goal.returns-clause-more
returns-clause-more g c =
    let q = g.P.Paths.means.question c.args.problem.now in
    let b = c.args.boxed.now in
    let p = c.args.pair in
    let held = c.requires.held in
    let read = get_or_read b.columns.prices p.item c.get-2.result.now (omega (arith, held.place, c.requires.ready.shape.prices)) c.get-2.ensures.item None in
    subst (λ o. Leaves q b o p) (sym read) (held_leaves q b p (g.met.P.Paths.owned c.args.problem.now) c.requires.ready held.place held.value c.requires.stands)

pub returns-clause-other : goal.returns-clause-other
returns-clause-other g c =
    let q = g.P.Paths.means.question c.args.problem.now in
    let b = c.args.boxed.now in
    let p = c.args.pair in
    let held = c.requires.held in
    let small = held_word q b p (g.met.P.Paths.owned c.args.problem.now) c.requires.ready held.place held.value c.requires.stands in
    let read = get_or_read b.masks p.item c.get.result.now (omega (arith, held.place, c.requires.ready.masks)) c.get.ensures.item 0 in
    let found = another_value c.get.result.now c.without.result p.value c.without.ensures.sum c.without.ensures.kept c.without.ensures.within (omega (arith, small, read)) (omega (arith, c.if-without-eq0.false)) in
    let other : (a : ℕ) × (a ≢ p.value) × (has (slice_index b.masks p.item) a ≡ true) = subst (λ w. (a : ℕ) × (a ≢ p.value) × (has w a ≡ true)) read found in
    always c.get-2.result.now other
  where
    always : {P : Type 0} (o : Option ℕ) → P → IfSome o (λ n. P)
    always None p = tt
    always (Some n) p = p
