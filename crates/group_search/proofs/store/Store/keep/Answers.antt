use Rattle.std.proofs.Common.{◌≡◌, ◌<◌, ◌++◌, Contains, length, map, set, inl, inr, ap, subst, sym, ◌∙◌, arith}
use Rattle.std.proofs.lemmas.List.{length-map, length-set, map-set}
use Rattle.std.proofs.lemmas.List.Elements.{All-contains, Contains-get_or}
use Rattle.group_search.specs.Stores.{cuts_in}
use Rattle.group_search.specs.declared.store.TheConstants.{MAX_CUTS}
use Rattle.group_search.proofs.StoreLaws.{written_cases}
use Rattle.group_search.proofs.store.Store.keep.Goals as goal

pub invariant_of-self : goal.invariant_of-self
invariant_of-self c = (
  length-set c.self.inside.slots.items c.free_slot-slot.result c.try_extend_from_slice.new.self ∙ c.self.invariant.0,
  c.insert.ensures.room ∙ c.self.invariant.1,
  (λ k d under. elim (c.insert.ensures.members _ (Contains-get_or c.insert.new.order.items k d under)) [
    | inl before ↦ All-contains (λ i. i < MAX_CUTS) c.self.inside.order.items _ c.self.invariant.2 before
    | inr same ↦ subst (λ i. i < MAX_CUTS) (sym same) c.free_slot-slot.ensures.slot
  ]),
)

pub returns : goal.returns
returns c = λ k among.
    let inside = c.self.inside in let slot = c.free_slot-slot.result in let cut = c.args.cut.now in let written = c.try_extend_from_slice.new.self in
    let slots = map (λ a. a.items) inside.slots.items in
    let wrote : written.items ≡ cut = (c.in-Ok.ensures {u = tt}).ok ∙ ap (λ l. l ++ cut) c.clear.ensures in
    let same : map (λ a. a.items) (set inside.slots.items slot written) ≡ set slots slot cut = map-set (λ a. a.items) inside.slots.items slot written ∙ ap (set slots slot) wrote in
    let long : length slots ≡ length inside.slots.items = length-map inside.slots.items (λ a. a.items) in
    let within : slot < length slots = omega (arith, long, c.self.invariant.0, c.free_slot-slot.ensures.slot) in
    elim (written_cases slots slot cut inside.order.items c.insert.new.order.items within c.insert.ensures.members k (subst (λ s. Contains (cuts_in s c.insert.new.order.items) k) same among)) [
      | inl before ↦ inl (c.free_slot-slot.ensures.members k (subst (λ v. Contains v k) c.self.view_is before))
      | inr is ↦ inr is
    ]
