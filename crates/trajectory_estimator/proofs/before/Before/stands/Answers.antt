use Rattle.std.proofs.Common.{◌<◌, All, List, get_or, length, refl, sym, subst, ◌∙◌, arith}
use Rattle.std.proofs.lemmas.List.Elements.{All-more}
use Rattle.list_laws.proofs.GoneThrough.{all_gone}
use Rattle.cca_base.specs.declared.cube.Pair.{Pair}
use Rattle.trajectory_estimator.specs.Clashes.{IsKnown}
use Rattle.trajectory_estimator.proofs.before.Before.stands.Goals as goal

pub loop-pair-preserved : goal.loop-pair-preserved
loop-pair-preserved c =
    let b = c.args.self.now in
    let pairs = c.as_slice-pair-items.result.now in
    let i = c.loop-pair.pair-index in
    let none : Pair = record { item = 0; value = 0 } in
    let inside : i < length c.args.cube.now = subst (λ (l : List Pair). i < length l) c.as_slice-pair-items.ensures.pairs c.loop-pair-test.true in
    let within : (get_or pairs i none).item < length b.modes.now = subst (λ (l : List Pair). (get_or l i none).item < length b.modes.now) (sym c.as_slice-pair-items.ensures.pairs) (c.requires i none inside) in
    All-more (IsKnown b) pairs i none c.loop-pair-test.true c.loop-pair.invariant (record { component = within; known = sym c.knows.ensures ∙ c.if-not-knows.false; stands = c.if-self-pair.false })

pub returns : goal.returns
returns c =
    let all = all_gone (IsKnown c.args.self.now) c.as_slice-pair-items.result.now c.loop-pair.pair-index (omega arith) c.loop-pair.invariant in
    ((λ t. subst (λ (l : List Pair). All (IsKnown c.args.self.now) l) c.as_slice-pair-items.ensures.pairs all), (λ h. refl))
