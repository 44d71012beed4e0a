use Rattle.std.proofs.Common.{◌≡◌, ◌+◌, ◌*◌, length, slice_index, sym, ap, subst, ◌∙◌, arith}
use Rattle.cca_base.specs.Model.{mode_counts}
use Rattle.reversibility.specs.ClassParts.{ClassParts}
use Rattle.policy_tables.proofs.Filled.{modes_read}
use Rattle.policy_tables.proofs.Places.{ArePlacesTo, places_none, places_next, places_all}
use Rattle.policy_tables.proofs.tables.places_of.Goals as goal

pub loop-c-init : goal.loop-c-init
loop-c-init c = subst (λ l. ArePlacesTo c.args.classes.now l 0) (sym c.new-tables.ensures.items) (places_none c.args.classes.now)

pub loop-c-preserved : goal.loop-c-preserved
loop-c-preserved c =
    let p : ClassParts = c.args.classes.now in
    let n = c.loop-c.c in
    let counted : c.len-modes.result ≡ slice_index (mode_counts p.compiled.model) n = modes_read p.compiled.model n
    (c.components-components.ensures.value ∙ ap (λ z. z.components) (c.model.ensures.value ∙ ap (λ z. z.model) c.compiled.ensures.value)) c.get.ensures.value c.len-modes.ensures in
    let full : length c.of.result ≡ c.len-modes.result * c.len-modes.result = ap length c.of.ensures ∙ sym c.in_ok-vec.field-0.ok.0 ∙ c.in_ok-vec.ensures.len in
    subst (λ l. ArePlacesTo p l (n + 1)) (sym c.in_ok-push.ensures.items)
    (places_next p c.loop-c.tables.items n c.loop-c.invariant c.of.result (full ∙ ap (λ k. k * k) counted))

pub returns : goal.returns
returns c =
    let p : ClassParts = c.args.classes.now in
    let whole = ap length (c.components-components.ensures.value ∙ ap (λ z. z.components) (c.model.ensures.value ∙ ap (λ z. z.model) c.compiled.ensures.value)) in
    places_all p c.loop-c.tables.items c.loop-c.c c.loop-c.invariant (omega (arith, c.loop-c.auto.c-end, c.loop-c-test.false, c.len-c-end.ensures, whole))
