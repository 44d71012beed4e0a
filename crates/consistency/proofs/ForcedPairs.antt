-- What all solutions of a state's clauses have is what all worlds of the state have.
use Rattle.std.proofs.Common.{◌≡◌, ◌+◌, ◌<◌, ◌++◌, ℕ, List, [], length, slice_index, take, drop, All, Contains, Some, None, refl, sym, ap, subst, ◌∙◌, arith}
use Rattle.std.specs.List.{slice_get}
use Rattle.std.proofs.lemmas.List.{take-append-drop, take_all}
use Rattle.std.proofs.lemmas.List.Elements.{All-nil}
use Rattle.std.proofs.lemmas.Option.{slice_get_within}
use Rattle.list_laws.proofs.Places.{value_at, get_at}
use Rattle.list_laws.proofs.Members.{all_from}
use Rattle.cca_base.specs.declared.cube.Pair.{Pair}
use Rattle.cca_base.specs.PlantModel.{PlantModel}
use Rattle.cca_base.specs.Repairs.{pairs_of}
use Rattle.cca_base.specs.State.{IsState, IsWorld, HasWorld, HasValue}
use Rattle.cca_base.specs.Trace.{HasOneValue}
use Rattle.cca_base.proofs.StateLaws.{same_state}
use Rattle.clause_form.specs.declared.clause.Clauses.{Clauses}
use Rattle.clause_form.specs.Formulas.{AreClausesOf}
use Rattle.consistency.specs.Base.{IsBase}
use Rattle.consistency.specs.Forced.{AreForced, AreShown}
use Rattle.world_search.specs.Worlds.{IsSolution}
use Rattle.consistency.specs.Search.{AllHave, IsBackbone}
use Rattle.clause_form.proofs.ModelSizes.{subjects_counted}
use Rattle.consistency.proofs.Bridge.{parts_fit, fits_solution, at_value}
use Rattle.cca_base.proofs.StatePairs.{extends_own, pairs_have_modes}

module _ (m : PlantModel) (s : List ℕ) (c : Clauses) (base : List ℕ) (of : AreClausesOf m None None c) (b : IsBase c.sizes (length m.components) (pairs_of s) [] base) (state : IsState m s) where
  abbrev n : ℕ
  n = length m.components

  no_values : All (λ (p : Pair). HasValue m p.item p.value) []
  no_values = All-nil (λ (p : Pair). HasValue m p.item p.value)

  counted : length base ≡ n + length m.variables
  counted = b.full ∙ (ap length of.sizes ∙ subjects_counted m)

  world_solution : (w : List ℕ) → IsWorld m s w → IsSolution c.clauses base (s ++ w)
  world_solution w h =
      fits_solution m (pairs_of s) [] None c base of b (pairs_have_modes m s state) no_values s w state.full
      (record { fits = record { state = state; extends = extends_own s; world = h; agrees = All-nil (λ (p : Pair). slice_get w p.item ≡ Some p.value) }; denies = refl })

  solution_world : (xs : List ℕ) → IsSolution c.clauses base xs → IsWorld m s (drop n xs) × (xs ≡ s ++ drop n xs)
  solution_world xs h =
      let fits = parts_fit m (pairs_of s) [] c base of b (pairs_have_modes m s state) no_values xs h in
      let same : take n xs ≡ s = same_state s (take n xs) (fits.state.full ∙ sym state.full) fits.extends in
      (subst (λ t. IsWorld m t (drop n xs)) same fits.world, sym (take-append-drop n xs) ∙ ap (λ (t : List ℕ). t ++ drop n xs) same)

  one_value : (p : Pair) → p.item < length m.variables → AllHave c.clauses base n p → HasOneValue m s p
  one_value p inside all w world =
      let full = world.full in
      get_at w p.item p.value (omega arith) (sym (at_value m s w p.item state.full) ∙ all (s ++ w) (world_solution w world))

  all_have : (p : Pair) → HasOneValue m s p → AllHave c.clauses base n p
  all_have p one xs h =
      let found = solution_world xs h in
      ap (λ (ys : List ℕ). slice_index ys (n + p.item)) found.1 ∙ (at_value m s (drop n xs) p.item state.full ∙ value_at (drop n xs) p.item p.value (one (drop n xs) found.0))

  module _ (world : HasWorld m s) where
    pub no_solution : ((xs : List ℕ) → IsSolution c.clauses base xs → ⊥) → ⊥
    no_solution none = none (s ++ world.0) (world_solution world.0 world.1)

    of_model : (p : Pair) → HasOneValue m s p → p.item < length m.variables
    of_model p one = let full = world.1.full in omega (arith, full, slice_get_within world.0 p.item p.value (one world.0 world.1))

    module _ (vars : ℕ) (pairs : List Pair) (h : IsBackbone c.clauses base n vars pairs) where
      one_of : (p : Pair) → Contains pairs p → HasOneValue m s p
      one_of p among = let both = (h.each p).0 among in one_value p (omega (arith, both.1, counted)) both.2

      pub backbone_forced : AreForced m s vars pairs
      backbone_forced = record {
        rising = h.rising;
        each = λ p. (
          λ among. (((h.each p).0 among).0, one_of p among),
          λ both. (h.each p).1 (both.0, omega (arith, of_model p both.1, counted), all_have p both.1),
        );
      }

      pub forced_values : All (λ p. HasValue m p.item p.value) pairs
      forced_values = all_from (λ p. HasValue m p.item p.value) pairs (λ p among.
          let one = one_of p among in
          subst (HasValue m p.item) (value_at world.0 p.item p.value (one world.0 world.1)) (world.1.values p.item (of_model p one)))

-- the room for a state's pairs, once they are put in
pub own_whole : (s : List ℕ) (room : List Pair) → length room ≡ length s → take (length s) room ≡ pairs_of s → room ≡ pairs_of s
own_whole s room long put = sym (take_all (length s) room (omega (arith, long))) ∙ put

-- the same where so many components are counted
pub forced_by : (m : PlantModel) (s : List ℕ) (c : Clauses) (base : List ℕ) (components vars : ℕ) (pairs : List Pair) → AreClausesOf m None None c
    → IsBase c.sizes (length m.components) (pairs_of s) [] base → components ≡ length m.components → IsState m s → HasWorld m s
    → IsBackbone c.clauses base components vars pairs → AreShown m s vars pairs
forced_by m s c base components vars pairs of here counted state world h =
    let found = subst (λ (k : ℕ). IsBackbone c.clauses base k vars pairs) counted h in record {
      forced = backbone_forced m s c base of here state world vars pairs found;
      values = forced_values m s c base of here state world vars pairs found;
    }
