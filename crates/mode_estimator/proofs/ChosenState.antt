-- States that may be chosen are the successors that have a cost.
use Rattle.std.proofs.Common.{◌≡◌, ℕ, zero, suc, ◌<◌, List, [], ◌∷◌, length, map, get_or, sum, Contains, Option, refl, sym, ap, subst, ◌∙◌, arith}
use Rattle.std.specs.List.{AllZip}
use Rattle.std.proofs.lemmas.List.{length-map, get_or-map}
use Rattle.std.proofs.lemmas.List.Sums.{sum-map}
use Rattle.std.proofs.lemmas.Slice.Zip.{AllZip-long}
use Rattle.cca_base.specs.declared.cube.Pair.{Pair}
use Rattle.cca_base.specs.PlantModel.{PlantModel}
use Rattle.cca_base.specs.Model.{HasMode, CommandsFit, WellFormed}
use Rattle.cca_base.specs.State.{IsState}
use Rattle.cca_base.specs.Successors.{ChangeCosts, Costs}
use Rattle.cca_base.specs.Estimates.{Consistent, Estimate}
use Rattle.cca_base.specs.Estimates as estimates
use Rattle.cca_base.specs.declared.choice.Choice.{Choice}
use Rattle.cca_base.proofs.NominalLaws.{one_nominal}
use Rattle.cca_base.proofs.NextModes.{few_modes}
use Rattle.successors.specs.Choices.{AreChoices}
use Rattle.cost_search.specs.Search.{IsPicked, IsUpTo}
use Rattle.cost_search.proofs.Ranks.{upto_cost, not_earlier}
use Rattle.mode_estimator.specs.declared.answer.Estimate.{Estimate as Answer}
use Rattle.mode_estimator.specs.declared.answer.Estimate.TheVariants.{Found, Unexplained}
use Rattle.mode_estimator.specs.Estimated.{IsEstimate}
use Rattle.mode_estimator.specs.First.{Shows, IsFirstShown}
use Rattle.mode_estimator.specs.Ticks.{AreRowsOf}

pub zip-at : (rows : List (List Choice)) (picks : List Choice) (c : ℕ) (d : Choice) → AllZip Contains rows picks → c < length rows → Contains (get_or rows c []) (get_or picks c d)
zip-at [] picks c d h k = absurd (omega arith)
zip-at (row ∷ rows) [] c d h k = absurd h
zip-at (row ∷ rows) (y ∷ picks) zero d h k = h.0
zip-at (row ∷ rows) (y ∷ picks) (suc c) d h k = zip-at rows picks c d h.1 (omega arith)

pub zip_from : (rows : List (List Choice)) (picks : List Choice) (d : Choice) → length rows ≡ length picks → ((c : ℕ) → c < length rows → Contains (get_or rows c []) (get_or picks c d)) → AllZip Contains rows picks
zip_from [] [] d e f = tt
zip_from [] (y ∷ picks) d e f = absurd (omega arith)
zip_from (row ∷ rows) [] d e f = absurd (omega arith)
zip_from (row ∷ rows) (y ∷ picks) d e f = (f 0 (omega arith), zip_from rows picks d (omega arith) (λ c h. f (suc c) (omega arith)))

-- modes and costs, choice by choice
abbrev pub picks_of : List ℕ → List ℕ → List Choice
picks_of [] ks = []
picks_of (m ∷ s) [] = []
picks_of (m ∷ s) (k ∷ ks) = record { mode = m; cost = k } ∷ picks_of s ks

pub modes-picks : (s ks : List ℕ) → length ks ≡ length s → map (λ (x : Choice). x.mode) (picks_of s ks) ≡ s
modes-picks [] [] e = refl
modes-picks [] (k ∷ ks) e = absurd (omega arith)
modes-picks (m ∷ s) [] e = absurd (omega arith)
modes-picks (m ∷ s) (k ∷ ks) e = ap (λ (l : List ℕ). m ∷ l) (modes-picks s ks (omega arith))

pub costs-picks : (s ks : List ℕ) → length ks ≡ length s → map (λ (x : Choice). x.cost) (picks_of s ks) ≡ ks
costs-picks [] [] e = refl
costs-picks [] (k ∷ ks) e = absurd (omega arith)
costs-picks (m ∷ s) [] e = absurd (omega arith)
costs-picks (m ∷ s) (k ∷ ks) e = ap (λ (l : List ℕ). k ∷ l) (costs-picks s ks (omega arith))

module _ (m : PlantModel) (s : List ℕ) (k : Option ℕ) (rows : List (List Choice)) (a : AreChoices m s k rows) where
  abbrev none : Choice
  none = record { mode = 0; cost = 0 }

  pub choice_rows : WellFormed m → AreRowsOf m rows
  choice_rows well = record {
    rows_fit = a.rows_fit;
    full = a.full;
    modes = λ c x within among. ((a.each c x within).0 among).0;
    small = λ c x within among. omega (arith, ((a.each c x within).0 among).0, few_modes m well c (omega (arith, within, a.full)));
  }

  -- what a chosen state's components change to
  change-at : (t : List ℕ) (cost : ℕ) (h : IsPicked rows t cost) (c : ℕ) → c < length rows
      → HasMode m c (get_or t c 0) × ChangeCosts m c (get_or s c 0) (get_or a.nominal c 0) (get_or t c 0) (get_or (map (λ (x : Choice). x.cost) h.picks) c 0)
  change-at t cost h c within =
      let long : length h.picks ≡ length rows = AllZip-long Contains rows h.picks h.each in
      let inside : c < length h.picks = omega arith in
      let x : Choice = get_or h.picks c none in
      let its = (a.each c x within).0 (zip-at rows h.picks c none h.each within) in
      let mode : x.mode ≡ get_or t c 0 = sym (get_or-map (λ (z : Choice). z.mode) h.picks c none 0 inside) ∙ ap (λ (l : List ℕ). get_or l c 0) (sym h.modes) in
      let price : x.cost ≡ get_or (map (λ (z : Choice). z.cost) h.picks) c 0 = sym (get_or-map (λ (z : Choice). z.cost) h.picks c none 0 inside) in (
        subst (HasMode m c) mode its.0,
        subst (λ n. ChangeCosts m c (get_or s c 0) (get_or a.nominal c 0) n (get_or (map (λ (z : Choice). z.cost) h.picks) c 0)) mode
            (subst (λ n. ChangeCosts m c (get_or s c 0) (get_or a.nominal c 0) x.mode n) price its.1),
      )

  length-chosen : (t : List ℕ) (cost : ℕ) → IsPicked rows t cost → length t ≡ length m.components
  length-chosen t cost h = ap length h.modes ∙ length-map h.picks (λ (x : Choice). x.mode) ∙ AllZip-long Contains rows h.picks h.each ∙ a.full

  chosen_state : (t : List ℕ) (cost : ℕ) → IsPicked rows t cost → IsState m t
  chosen_state t cost h = record { full = length-chosen t cost h; modes = λ c within. (change-at t cost h c (omega (arith, a.full))).0 }

  chosen_costs : (t : List ℕ) (cost : ℕ) → IsPicked rows t cost → Costs m s k t cost
  chosen_costs t cost h =
      let long : length t ≡ length m.components = length-chosen t cost h in
      let full = a.full in
      record {
        state = chosen_state t cost h;
        nominal = a.nominal;
        is_nominal = a.is_nominal;
        parts = map (λ (x : Choice). x.cost) h.picks;
        full = length-map h.picks (λ (x : Choice). x.cost) ∙ AllZip-long Contains rows h.picks h.each ∙ a.full ∙ sym long;
        each = λ c within. (change-at t cost h c (omega arith)).1;
        total = h.total ∙ sym (sum-map (λ (x : Choice). x.cost) h.picks);
      }

  costs_chosen : CommandsFit m.moves → (t : List ℕ) (cost : ℕ) → Costs m s k t cost → IsPicked rows t cost
  costs_chosen fit t cost h =
      let picks = picks_of t h.parts in
      let modes : map (λ (x : Choice). x.mode) picks ≡ t = modes-picks t h.parts h.full in
      let costs : map (λ (x : Choice). x.cost) picks ≡ h.parts = costs-picks t h.parts h.full in
      let same : h.nominal ≡ a.nominal = one_nominal m s k h.nominal a.nominal fit h.is_nominal a.is_nominal in
      let long : length picks ≡ length t = sym (length-map picks (λ (x : Choice). x.mode)) ∙ ap length modes in
      let state_full = h.state.full in
      let full = a.full in
      record {
        picks = picks;
        each = zip_from rows picks none (omega arith) (λ c within.
            let inside : c < length picks = omega arith in
            let x : Choice = get_or picks c none in
            let mode : get_or t c 0 ≡ x.mode = ap (λ (l : List ℕ). get_or l c 0) (sym modes) ∙ get_or-map (λ (z : Choice). z.mode) picks c none 0 inside in
            let price : get_or h.parts c 0 ≡ x.cost = ap (λ (l : List ℕ). get_or l c 0) (sym costs) ∙ get_or-map (λ (z : Choice). z.cost) picks c none 0 inside in
            let change : ChangeCosts m c (get_or s c 0) (get_or h.nominal c 0) (get_or t c 0) (get_or h.parts c 0) = h.each c (omega arith) in
            (a.each c x within).1 (
              subst (HasMode m c) mode (h.state.modes c (omega arith)),
              subst (λ n. ChangeCosts m c (get_or s c 0) (get_or a.nominal c 0) n x.cost) mode
                  (subst (λ n. ChangeCosts m c (get_or s c 0) (get_or a.nominal c 0) (get_or t c 0) n) price
                  (subst (λ (l : List ℕ). ChangeCosts m c (get_or s c 0) (get_or l c 0) (get_or t c 0) (get_or h.parts c 0)) same change)),
            ));
        modes = sym modes;
        total = h.total ∙ ap sum (sym costs) ∙ sum-map (λ (x : Choice). x.cost) picks;
      }

  -- what is chosen and shows is what is consistent
  to_consistent : (seen : List Pair) (t : List ℕ) (cost : ℕ) → Shows m rows seen t cost → Consistent m s k seen t cost
  to_consistent seen t cost h = record { costs = chosen_costs t cost h.chosen; world = h.shows.0; is_world = h.shows.1; agrees = h.shows.2 }

  to_shows : CommandsFit m.moves → (seen : List Pair) (t : List ℕ) (cost : ℕ) → Consistent m s k seen t cost → Shows m rows seen t cost
  to_shows fit seen t cost h = record { chosen = costs_chosen fit t cost h.costs; shows = (h.world, h.is_world, h.agrees) }

  found_estimate : CommandsFit m.moves → (seen : List Pair) (t : List ℕ) (cost : ℕ) → Shows m rows seen t cost
      → ((u : List ℕ) (more : ℕ) → Shows m rows seen u more → IsUpTo cost t more u) → Estimate m s k seen t cost
  found_estimate fit seen t cost h first = record {
    consistent = to_consistent seen t cost h;
    least = λ u more other. upto_cost cost more t u (first u more (to_shows fit seen u more other));
    first = λ u other earlier. not_earlier cost t u (first u cost (to_shows fit seen u cost other)) earlier;
  }

  none_estimate : CommandsFit m.moves → (seen : List Pair) → ((t : List ℕ) (cost : ℕ) → Shows m rows seen t cost → ⊥) → estimates.Unexplained m s k seen
  none_estimate fit seen none_shown t cost h = none_shown t cost (to_shows fit seen t cost h)

  pub estimated : CommandsFit m.moves → (seen : List Pair) (r : Answer) → IsFirstShown m rows seen r → IsEstimate m s k seen r
  estimated fit seen (Found state cost) h = found_estimate fit seen state.modes cost h.0 h.1
  estimated fit seen Unexplained h = none_estimate fit seen h
