-- The least number of a row at a distance, number by number.
use Rattle.std.proofs.Common.{◌≡◌, ◌<◌, ◌≤◌, ℕ, List, [], ◌∷◌, ◌++◌, slice_index, Option, Some, None, Contains, MatchOption, inl, inr, sym, subst, arith}
use Rattle.std.proofs.lemmas.List.Elements.{Contains-push, Contains-push_cases, Contains-append_left}
use Rattle.list_laws.proofs.Members.{contains_none}
use Rattle.causal_graph.specs.Search.{IsNearest}

-- none of the row is at the distance
abbrev pub IsNone : List ℕ → List ℕ → ℕ → Type 0
IsNone row distances distance = (u : ℕ) → Contains row u → slice_index distances u ≡ distance → ⊥

-- the least of the row, if there is one
abbrev pub IsNearestOf : List ℕ → List ℕ → ℕ → Option ℕ → Type 0
IsNearestOf row distances distance least = MatchOption least (IsNone row distances distance) (IsNearest row distances distance)

pub nearest_none : (distances : List ℕ) (distance : ℕ) → IsNearestOf [] distances distance None
nearest_none distances distance u among at = contains_none u among

module _ (row distances : List ℕ) (distance u : ℕ) where
  pub other_distance : (least : Option ℕ) → IsNearestOf row distances distance least → (slice_index distances u ≡ distance → ⊥) → IsNearestOf (row ++ u ∷ []) distances distance least
  other_distance None h ne = λ v among at. elim (Contains-push_cases row u v among) [
    | inl there ↦ h v there at
    | inr e ↦ ne (subst (λ z. slice_index distances z ≡ distance) (sym e) at)
  ]
  other_distance (Some w) h ne = record {
    among = Contains-append_left row (u ∷ []) w h.among;
    at_distance = h.at_distance;
    least = λ v among at. elim (Contains-push_cases row u v among) [
      | inl there ↦ h.least v there at
      | inr e ↦ absurd (ne (subst (λ z. slice_index distances z ≡ distance) (sym e) at))
    ];
  }

  pub first_one : IsNone row distances distance → slice_index distances u ≡ distance → IsNearest (row ++ u ∷ []) distances distance u
  first_one h here = record {
    among = Contains-push row u;
    at_distance = here;
    least = λ v among at. elim (Contains-push_cases row u v among) [ inl there ↦ absurd (h v there at) | inr e ↦ omega (arith, e) ];
  }

  pub lesser_one : (w : ℕ) → IsNearest row distances distance w → u ≤ w → slice_index distances u ≡ distance → IsNearest (row ++ u ∷ []) distances distance u
  lesser_one w h below here = record {
    among = Contains-push row u;
    at_distance = here;
    least = λ v among at. elim (Contains-push_cases row u v among) [ inl there ↦ omega (arith, below, h.least v there at) | inr e ↦ omega (arith, e) ];
  }

  pub greater_one : (w : ℕ) → IsNearest row distances distance w → w < u → IsNearest (row ++ u ∷ []) distances distance w
  greater_one w h above = record {
    among = Contains-append_left row (u ∷ []) w h.among;
    at_distance = h.at_distance;
    least = λ v among at. elim (Contains-push_cases row u v among) [ inl there ↦ h.least v there at | inr e ↦ omega (arith, e, above) ];
  }
