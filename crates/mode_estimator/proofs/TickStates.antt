-- A solution of a tick's question is a state that may be chosen and that shows what is seen, at the same cost.
use Rattle.std.proofs.Common.{◌≡◌, ℕ, zero, suc, ◌+◌, ◌<◌, ◌≤◌, List, [], ◌∷◌, length, map, get_or, take, Contains, None, ◌⊎◌, inl, inr, refl, sym, ap, subst, ◌∙◌, arith}
use Rattle.std.specs.List.{sum_by}
use Rattle.std.proofs.lemmas.List.{length-map, get_or-map, take_all}
use Rattle.std.proofs.lemmas.List.Elements.{All-contains}
use Rattle.std.proofs.lemmas.List.Sums.{sum_by-cons}
use Rattle.std.proofs.lemmas.Slice.Zip.{AllZip-long}
use Rattle.list_laws.proofs.Orders.{three_ways}
use Rattle.cca_base.specs.Choices.{IsRow}
use Rattle.cca_base.specs.declared.choice.Choice.{Choice}
use Rattle.cca_base.specs.declared.cube.Pair.{Pair}
use Rattle.cca_base.specs.declared.limits.TheConstants.{MAX_COST}
use Rattle.cca_base.specs.Estimates.{IsEarlier}
use Rattle.cca_base.specs.PlantModel.{PlantModel}
use Rattle.cca_base.proofs.PathLaws.{length-numbers}
use Rattle.group_search.specs.Answers.{IsAnswer, IsFirstLeast}
use Rattle.group_search.specs.Floors.{every}
use Rattle.group_search.specs.Questions.{IsSolution, cost_in, sum_where}
use Rattle.group_search.specs.declared.columns.Chosen.{Chosen}
use Rattle.group_search.specs.declared.columns.TheConstants.{MAX_PATH}
use Rattle.cost_search.specs.Search.{IsUpTo}
use Rattle.cost_search.proofs.Ranks.{before_by_cost, before_by_modes}
use Rattle.mode_estimator.specs.First.{Shows}
use Rattle.mode_estimator.specs.Ticks.{AreMasks, AreRowsOf, IsChoice, IsTick, tick_of}
use Rattle.mode_estimator.proofs.ChosenState.{picks_of, modes-picks, costs-picks, zip-at, zip_from}

-- the first of them and the others
sum_front : (n : ℕ) (f : ℕ → ℕ) → sum_where (suc n) every f ≡ f 0 + sum_where n every (λ c. f (suc c))
sum_front zero f = omega arith
sum_front (suc n) f = let rest = sum_front n f in omega arith

-- the sum over all places is that of the choices
sum_picks : (n : ℕ) (picks : List Choice) → length picks ≡ n → cost_in n every (map (λ (x : Choice). x.cost) picks) ≡ sum_by (λ (x : Choice). x.cost) picks
sum_picks zero [] e = refl
sum_picks zero (x ∷ picks) e = absurd (omega arith)
sum_picks (suc n) [] e = absurd (omega arith)
sum_picks (suc n) (x ∷ picks) e =
    sum_front n (λ c. get_or (map (λ (z : Choice). z.cost) (x ∷ picks)) c 0) ∙ ap (λ k. x.cost + k) (sum_picks n picks (omega arith)) ∙ sym (sum_by-cons (λ (z : Choice). z.cost) x picks)

-- a choice where there is none
abbrev none : Choice
none = record { mode = 0; cost = 0 }

picks-at : (s ks : List ℕ) (c : ℕ) → length ks ≡ length s → c < length s → get_or (picks_of s ks) c none ≡ record { mode = get_or s c 0; cost = get_or ks c 0 }
picks-at [] ks c e h = absurd (omega arith)
picks-at (m ∷ s) [] c e h = absurd (omega arith)
picks-at (m ∷ s) (k ∷ ks) zero e h = refl
picks-at (m ∷ s) (k ∷ ks) (suc c) e h = picks-at s ks c (omega arith) (omega arith)

module _ (m : PlantModel) (rows : List (List Choice)) (seen : List Pair) where
  -- what the state costs
  abbrev cost_all : List ℕ → ℕ
  cost_all costs = cost_in (length rows) every costs

  -- modes and costs of a solution, choice by choice
  to_shown : (modes costs : List ℕ) → IsTick m rows seen modes costs → Shows m rows seen modes (cost_all costs)
  to_shown modes costs h =
      let states = h.states in
      let full = h.full in
      let same : length costs ≡ length modes = omega arith in
      let picks = picks_of modes costs in
      let long : length picks ≡ length modes = sym (length-map picks (λ (x : Choice). x.mode)) ∙ ap length (modes-picks modes costs same) in
      record {
        chosen = record {
          picks = picks;
          each = zip_from rows picks none (omega arith) (λ c within.
              subst (Contains (get_or rows c [])) (sym (picks-at modes costs c same (omega arith))) (h.each c within));
          modes = sym (modes-picks modes costs same);
          total = ap cost_all (sym (costs-picks modes costs same)) ∙ sum_picks (length rows) picks (omega arith);
        };
        shows = h.shows;
      }

  -- each such state is a solution
  from_shown : (s : List ℕ) (cost : ℕ) → Shows m rows seen s cost → (costs : List ℕ) × IsTick m rows seen s costs × (cost_all costs ≡ cost)
  from_shown s cost h =
      let picks = h.chosen.picks in
      let costs = map (λ (x : Choice). x.cost) picks in
      let long : length picks ≡ length rows = AllZip-long Contains rows picks h.chosen.each in
      let full : length costs ≡ length rows = length-map picks (λ (x : Choice). x.cost) ∙ long in (
        costs,
        record {
          states = ap length h.chosen.modes ∙ length-map picks (λ (x : Choice). x.mode) ∙ long;
          full = full;
          each = λ c within.
              let inside : c < length picks = omega arith in
              let mode : (get_or picks c none).mode ≡ get_or s c 0 = sym (get_or-map (λ (z : Choice). z.mode) picks c none 0 inside) ∙ ap (λ (l : List ℕ). get_or l c 0) (sym h.chosen.modes) in
              let price : (get_or picks c none).cost ≡ get_or costs c 0 = sym (get_or-map (λ (z : Choice). z.cost) picks c none 0 inside) in
              subst (λ k. IsChoice rows c k (get_or costs c 0)) mode (subst (IsChoice rows c (get_or picks c none).mode) price (zip-at rows picks c none h.chosen.each within));
          shows = h.shows;
        },
        sum_picks (length rows) picks long ∙ sym h.chosen.total,
      )

  -- a choice of a row isn't dear
  pub cheap_costs : AreRowsOf m rows → (modes costs : List ℕ) → IsTick m rows seen modes costs → (c : ℕ) → c < length rows → get_or costs c 0 ≤ MAX_PATH
  cheap_costs own modes costs h c within =
      let row : IsRow (get_or rows c []) = own.rows_fit.each c [] within in
      let cheap : get_or costs c 0 ≤ MAX_COST = All-contains (λ (x : Choice). x.cost ≤ MAX_COST) (get_or rows c []) (record { mode = get_or modes c 0; cost = get_or costs c 0 }) row.cheap (h.each c within) in
      omega (arith, cheap)

  module _ (own : AreRowsOf m rows) (masks : List ℕ) (wide : AreMasks rows masks) where
    -- the sets have each state that may be chosen
    solved : (modes costs : List ℕ) → IsTick m rows seen modes costs → IsSolution (tick_of m rows seen) every masks modes costs
    solved modes costs h = record {
      solves = h;
      inside = λ place within is.
          let here : place < length rows = omega (arith, within, length-numbers (length rows)) in
          let x : Choice = record { mode = get_or modes place 0; cost = get_or costs place 0 } in
          wide place x here (h.each place here) (own.small place x here (h.each place here));
    }

    -- without a solution there is no such state
    pub none_shown : IsAnswer (tick_of m rows seen) masks (length rows) None → (s : List ℕ) (cost : ℕ) → Shows m rows seen s cost → ⊥
    none_shown answer s cost h =
        let (costs, tick, same) = from_shown s cost h in
        answer (record { values = s; costs = costs }) (solved s costs tick)

    -- among equals the first by all its modes
    upto : (x : Chosen) (y : Chosen) (cost more : ℕ) → cost ≡ more → length x.values ≡ length rows → length y.values ≡ length rows
        → (take (length rows) y.values ≡ take (length rows) x.values) ⊎ IsEarlier (take (length rows) x.values) (take (length rows) y.values) → IsUpTo cost x.values more y.values
    upto x y cost more same a b first =
        let all_x : take (length rows) x.values ≡ x.values = take_all (length rows) x.values (omega arith) in
        let all_y : take (length rows) y.values ≡ y.values = take_all (length rows) y.values (omega arith) in
        elim first [
          | inl e ↦ inl (sym all_y ∙ e ∙ all_x, sym same)
          | inr later ↦ inr (before_by_modes cost more x.values y.values same (subst (IsEarlier x.values) all_y (subst (λ l. IsEarlier l (take (length rows) y.values)) all_x later)))
        ]

    -- the least solution is the first of all such states
    pub first_of_all : (x : Chosen) (cost : ℕ) → IsFirstLeast (tick_of m rows seen) masks (length rows) x → cost_all x.costs ≡ cost
        → Shows m rows seen x.values cost × ((t : List ℕ) (more : ℕ) → Shows m rows seen t more → IsUpTo cost x.values more t)
    first_of_all x cost answer total =
        let own_tick : IsTick m rows seen x.values x.costs = answer.solution.solves in (
          subst (Shows m rows seen x.values) total (to_shown x.values x.costs own_tick),
          λ t more shown.
              let (costs, tick, same) = from_shown t more shown in
              let y : Chosen = record { values = t; costs = costs } in
              let solution = solved t costs tick in
              let le : cost_all x.costs ≤ cost_all costs = answer.least y solution in
              elim (three_ways cost more) [
                | inl less ↦ inr (before_by_cost cost more x.values t less)
                | inr (inr cheaper) ↦ absurd (omega (arith, cheaper, le, same, total))
                | inr (inl equal) ↦ upto x y cost more equal own_tick.states tick.states (answer.first y (record { solution = solution; costs_this = same ∙ sym equal ∙ sym total }))
              ],
        )
