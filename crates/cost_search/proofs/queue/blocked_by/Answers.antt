use Rattle.std.proofs.Common.{◌≡◌, ◌<◌, inl, inr, ℕ, List, All, Contains, Some, length, map, sym, ap, subst, ◌∙◌, refl, arith}
use Rattle.std.specs.List.{slice_get}
use Rattle.std.proofs.lemmas.List.{take_all}
use Rattle.std.proofs.lemmas.List.Elements.{All-more, All-map, All-contains, Contains-get_or}
use Rattle.std.proofs.lemmas.Option.{slice_get_within}
use Rattle.list_laws.proofs.Members.{all_from}
use Rattle.cca_base.proofs.PathLaws.{below_contains, numbers_are_below}
use Rattle.cca_base.specs.declared.cube.Pair.{Pair}
use Rattle.cca_base.specs.Relations.{numbers_below}
use Rattle.cca_base.specs.State.{Extends}
use Rattle.cost_search.specs.Search.{IsUncut}
use Rattle.cost_search.proofs.Queues.{item_among}
use Rattle.cost_search.proofs.queue.blocked_by.Goals as goal

pub returns-then-not-is_after-clause-some : goal.returns-then-not-is_after-clause-some
returns-then-not-is_after-clause-some c =
    let modes = c.args.part.now.modes in
    let e = c.in_ok-numbers_below.ensures ∙ ap (λ (m : List ℕ). numbers_below (length m)) c.as_slice-modes.ensures in
    let h = c.if-not-is_after.ensures in
    inl (λ a. (let no = h.1 a in absurd (cc)), λ x k. subst (λ cs. Contains cs x) (sym e) (below_contains (length modes) x k))

pub returns-then-not-is_after-clause-within : goal.returns-then-not-is_after-clause-within
returns-then-not-is_after-clause-within c =
    let e = c.in_ok-numbers_below.ensures ∙ ap (λ (m : List ℕ). numbers_below (length m)) c.as_slice-modes.ensures in
    subst (All (λ x. x < length c.args.part.now.modes)) (sym e) (numbers_are_below (length c.args.part.now.modes))

-- the cube that the state holds
held : (c : goal.In_ok-components_of) → Extends c.args.part.now.modes c.cube-item.result
held c =
    let h = c.if-stands_in.ensures in
    subst (λ m. Extends m c.cube-item.result) c.as_slice-modes.ensures (h.0 refl)

items : (c : goal.In_ok-components_of) → c.in_ok-components_of.field-0.items ≡ map (λ (p : Pair). p.item) c.cube-item.result
items c = c.in_ok-components_of.ensures ∙ ap (map (λ (p : Pair). p.item)) c.as_slice.ensures.pairs

pub returns-then-stands_in-clause-some : goal.returns-then-stands_in-clause-some
returns-then-stands_in-clause-some c =
    let among = subst (Contains c.args.cuts.now) (sym c.cube-item.is) (Contains-get_or c.args.cuts.now c.loop-cube.cube-index c.cube-item.result c.loop-cube-test.true) in
    inr (
      c.cube-item.result,
      among,
      held c,
      all_from (λ p. Contains c.in_ok-components_of.field-0.items p.item) c.cube-item.result
          (λ p inside. subst (λ cs. Contains cs p.item) (sym (items c)) (item_among c.cube-item.result p inside)),
    )

pub returns-then-stands_in-clause-within : goal.returns-then-stands_in-clause-within
returns-then-stands_in-clause-within c =
    subst (All (λ x. x < length c.args.part.now.modes)) (sym (items c))
    (All-map (λ x. x < length c.args.part.now.modes) (λ (p : Pair). p.item) c.cube-item.result
    (all_from (λ p. p.item < length c.args.part.now.modes) c.cube-item.result
    (λ p inside. slice_get_within c.args.part.now.modes p.item p.value (All-contains (λ q. slice_get c.args.part.now.modes q.item ≡ Some q.value) c.cube-item.result p (held c) inside))))

pub loop-cube-preserved : goal.loop-cube-preserved
loop-cube-preserved c =
    let h = c.if-stands_in.ensures in
    All-more (λ cube. Extends c.args.part.now.modes cube → ⊥) c.args.cuts.now c.loop-cube.cube-index c.cube-item.result c.loop-cube-test.true c.loop-cube.invariant
    (λ stands. (let no = h.1 (subst (λ m. Extends m c.cube-item.result) (sym c.as_slice-modes.ensures) (subst (Extends c.args.part.now.modes) (sym c.cube-item.is) stands)) in absurd (cc)))

pub returns-clause-none : goal.returns-clause-none
returns-clause-none c e =
    let h = c.if-not-is_after.ensures in
    record { after = h.0 refl; uncut = subst (λ cs. IsUncut cs c.args.part.now.modes) (take_all c.loop-cube.cube-index c.args.cuts.now (omega arith)) c.loop-cube.invariant }
