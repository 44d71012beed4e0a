-- Places for the cells of all components, made one component after the other.
use Rattle.std.proofs.Common.{◌≡◌, ◌<◌, ◌+◌, ◌*◌, ◌++◌, ◌∷◌, ℕ, List, [], length, slice_index, slice_index_or, refl, sym, ap, subst, ◌∙◌, length-append, arith}
use Rattle.cca_base.specs.Model.{mode_counts}
use Rattle.reversibility.specs.ClassParts.{ClassParts}
use Rattle.policy_tables.specs.declared.code.Code.{Code}
use Rattle.policy_tables.specs.Filling.{HasPlaces}
use Rattle.policy_tables.proofs.FirstCube.{push_each}

-- so many places are one for each two modes of a component
abbrev pub IsPlaceCount : ClassParts → ℕ → List Code → Type 0
IsPlaceCount p c codes = length codes ≡ slice_index (mode_counts p.compiled.model) c * slice_index (mode_counts p.compiled.model) c

-- the first components have their places
pub record ArePlacesTo (p : ClassParts) (tables : List (List Code)) (n : ℕ) : Type 0 where
  pub full : length tables ≡ n
  pub each : (c : ℕ) → c < n → IsPlaceCount p c (slice_index_or tables c [])

-- before the first component there is none
pub places_none : (p : ClassParts) → ArePlacesTo p [] 0
places_none p = record { full = refl; each = λ c lt. absurd (omega (arith, lt)) }

module _ (p : ClassParts) (tables : List (List Code)) (n : ℕ) (h : ArePlacesTo p tables n) where
  -- one component more
  pub places_next : (codes : List Code) → IsPlaceCount p n codes → ArePlacesTo p (tables ++ codes ∷ []) (n + 1)
  places_next codes counted = record {
    full = length-append tables (codes ∷ []) ∙ ap (λ k. k + 1) h.full;
    each = push_each [] (IsPlaceCount p) tables n codes h.full h.each counted;
  }

  -- behind the last component all have
  pub places_all : n ≡ length p.compiled.model.components → HasPlaces p tables
  places_all all = record {
    full = h.full ∙ all;
    each = λ c lt. h.each c (subst (λ k. c < k) (sym all) lt);
  }
