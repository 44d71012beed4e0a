-- What the steps find, as refusals and as what is compiled.
use Rattle.std.proofs.Common.{◌≡◌, ℕ, List, [], ◌∷◌, Option, Some, None, IfSome, IsNone, ◌↔◌, inl, inr, refl, subst, arith}
use Rattle.std.proofs.lemmas.List.Elements.{All-contains}
use Rattle.list_laws.proofs.Members.{at_member}
use Rattle.cca_base.specs.declared.codes.TheConstants.{CYCLE, DEEP}
use Rattle.cca_base.specs.declared.cube.Pair.{Pair}
use Rattle.cca_base.specs.declared.events.Stop.{Stop}
use Rattle.cca_base.specs.declared.events.Stop.TheVariants.{Refused, Memory}
use Rattle.cca_base.specs.declared.events.Detail.TheVariants.{Components}
use Rattle.cca_base.specs.Accepted.{HasFewWays, SumFits, IsCompiled}
use Rattle.cca_base.specs.PlantModel.{PlantModel}
use Rattle.cca_base.specs.Bounds.{AreBounds}
use Rattle.cca_base.specs.Implicants.{IsAcyclic}
use Rattle.cca_base.specs.Model.{WellFormed, IsComplete}
use Rattle.cca_base.specs.Orders.{IsEffectsFirst}
use Rattle.cca_base.specs.Shown.{CanShow, IsConflict, IsShownCycle}
use Rattle.cca_base.specs.State.{HasWorld, HasWorlds}
use Rattle.acceptance.specs.AllWays.{AreAllWays, IsFirstStop}
use Rattle.acceptance.specs.Clashes.{IsFirstWorldless, IsClashOrNone}
use Rattle.acceptance.specs.Laws.{AcceptedAreNotRefused}
use Rattle.acceptance.specs.Pieces.{IsStop}
use Rattle.acceptance.specs.Refusals.{HasClash, Refuses, IsTooDeep}
use Rattle.acceptance.proofs.BoundsCausesFirst.{not_deep}
use Rattle.acceptance.proofs.AllWaysFound.{none_many, few_or_many, all_few}

-- a world shows what nothing asks for
pub shows : (m : PlantModel) (s : List ℕ) → HasWorld m s → CanShow m s []
shows m s h = (h.0, h.1, λ k d within. absurd (omega arith))

no_clash : (m : PlantModel) → HasWorlds m → HasClash m → ⊥
no_clash m all h = h.2 (all h.0 h.1)

-- ---- the steps

-- the first state without a world, with its conflict
pub clash_of : (m : PlantModel) (s : List ℕ) (pairs : List Pair) (shown : Option (List Pair)) → pairs ≡ [] → IsFirstWorldless m s → IfSome shown (IsConflict m s pairs) → (IsNone shown ↔ CanShow m s pairs)
    → IsClashOrNone m shown
clash_of m s pairs None nothing h some none = absurd (h.worldless (let w = none.0 refl in (w.0, w.1)))
clash_of m s pairs (Some cube) nothing h some none = record {
  state = s;
  is_state = h.state;
  first = λ t is none earlier. h.first t is (λ w. none (shows m t w)) earlier;
  conflict = subst (λ l. IsConflict m s l cube) nothing some;
}

pub stop_of_ways : (m : PlantModel) → HasWorlds m → (e : Stop) → IsFirstStop m e → IsStop m e
stop_of_ways m all (Refused refusal) h = inr (inl (record { move_number = h.0; is = h.1; shown = h.2; no_clash = no_clash m all }))
stop_of_ways m all Memory h = tt

pub cycle_refused : (m : PlantModel) (ways : List (List (List Pair))) (list : List ℕ) → HasWorlds m → AreAllWays m ways → IsShownCycle m list → Refuses m (record { code = CYCLE; detail = Components list })
cycle_refused m ways list all are shown = inr (inr (inl (record { list = list; is = refl; shown = shown; no_clash = no_clash m all; few_ways = none_many m ways are })))

pub deep_refused : (m : PlantModel) (ways : List (List (List Pair))) (c : ℕ) → HasWorlds m → AreAllWays m ways → IsAcyclic m → IsTooDeep m c → Refuses m (record { code = DEEP; detail = Components (c ∷ []) })
deep_refused m ways c all are acyclic shown =
    inr (inr (inr (record { component = c; is = refl; shown = shown; no_clash = no_clash m all; few_ways = none_many m ways are; acyclic = acyclic })))

pub compiled : (m : PlantModel) (ways : List (List (List Pair))) (order bounds : List ℕ) → WellFormed m → IsComplete m → HasWorlds m → AreAllWays m ways → IsAcyclic m → IsEffectsFirst m order
    → AreBounds m bounds → SumFits bounds → IsCompiled (record { model = m; ways = ways; order = order; bounds = bounds })
compiled m ways order bounds good complete all are acyclic first are_bounds fits = record {
  accepted = record { well_formed = good; complete = complete; worlds = all; few_ways = all_few m ways are; acyclic = acyclic; bounded = (bounds, are_bounds, fits) };
  ways_full = are.full;
  ways = are.each;
  order = first;
  bounds = are_bounds;
  sum_fits = fits;
}

-- ---- no accepted model is refused

pub not_refused : AcceptedAreNotRefused
not_refused m refusal (inl h) a = h.shown.conflict.0 (shows m h.shown.state (a.worlds h.shown.state h.shown.is_state))
not_refused m refusal (inr (inl h)) a =
    let many = h.shown.many in
    few_or_many m many.0 (All-contains (HasFewWays m) m.moves many.0 a.few_ways (at_member m.moves h.move_number many.0 many.1)) many.2
not_refused m refusal (inr (inr (inl h))) a = a.acyclic h.shown.first (h.shown.cycle.between, h.shown.cycle.needs)
not_refused m refusal (inr (inr (inr h))) a = not_deep m h.component a.bounded.0 h.shown a.bounded.1 a.bounded.2
