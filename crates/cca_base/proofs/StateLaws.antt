-- A state is known by its pairs, only its components have modes, and no state comes before itself.
use Rattle.std.proofs.Common.{◌≡◌, ◌<◌, ℕ, List, length, get_or, slice_get, Some, arith, [], All, sym, ap, ◌∙◌}
use Rattle.std.proofs.lemmas.List.{ext_get_or, get_or-map}
use Rattle.std.proofs.lemmas.List.Elements.{All-contains}
use Rattle.std.proofs.lemmas.Option.{slice_get-get_or, get_or_from_slice_get}
use Rattle.std.proofs.lemmas.Cmp.{nat_list_cmp_total}
use Rattle.std.specs.Ordering.{nat_cmp, ordering_reverse}
use Rattle.std.specs.Cmp.Lexicographic.{slice_cmp}
use Rattle.std.specs.declared.cmp.Ordering.{Ordering}
use Rattle.std.specs.declared.cmp.Ordering.TheVariants.{Less, Greater}
use Rattle.cca_base.specs.declared.cube.Pair.{Pair}
use Rattle.cca_base.specs.declared.limits.TheConstants.{MAX_CHOICES}
use Rattle.cca_base.specs.declared.model.Component.{Component}
use Rattle.cca_base.specs.PlantModel.{PlantModel}
use Rattle.cca_base.specs.Model.{HasMode, WellFormed}
use Rattle.cca_base.specs.Repairs.{pairs_of}
use Rattle.cca_base.specs.State.{Extends}
use Rattle.cca_base.proofs.Members.{in_pairs}
use Rattle.cca_base.proofs.Within.{mode_within}
use Rattle.cca_base.specs.Estimates.{IsEarlier}

-- only the state itself extends its pairs
pub same_state : (s t : List ℕ) → length t ≡ length s → Extends t (pairs_of s) → t ≡ s
same_state s t e extends = ext_get_or 0 t s e (λ i below.
    let inside : i < length s = omega (arith, e) in
    let p : Pair = record { item = i; value = get_or s i 0 } in
    get_or_from_slice_get t i (get_or s i 0) 0 (All-contains (λ q. slice_get t q.item ≡ Some q.value) (pairs_of s) p extends (in_pairs s p (slice_get-get_or s i 0 inside))))

-- a mode is a number that a set can hold
pub mode_is_small : (m : PlantModel) (c mode : ℕ) → WellFormed m → HasMode m c mode → mode < MAX_CHOICES
mode_is_small m c mode good h =
    let none : Component = record { name = []; modes = []; start = 0 } in
    let within : c < length m.components = mode_within m c mode h in
    let count = get_or-map (λ (x : Component). length x.modes) m.components c none 0 within in
    omega (arith, h, count, (good.components c none within).modes.few)

pub sources_are_small : (m : PlantModel) → WellFormed m → All (λ x. x.source < MAX_CHOICES) m.moves
sources_are_small m good = λ k d h. mode_is_small m _ _ good (good.moves k d h).source

-- no state comes before itself
pub none_earlier : (s : List ℕ) → IsEarlier s s → ⊥
none_earlier s earlier =
    let turned : slice_cmp nat_cmp s s ≡ ordering_reverse (slice_cmp nat_cmp s s) = nat_list_cmp_total.antisymm s s in
    let both : ◌≡◌ {A = Ordering} Less Greater = sym earlier ∙ turned ∙ ap ordering_reverse earlier in
    cc
