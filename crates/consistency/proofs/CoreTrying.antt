-- Pairs outside a core are dropped, and the core stays one of what is left.
use Rattle.std.proofs.Common.{◌≡◌, ◌+◌, ◌<◌, ◌++◌, ℕ, false, List, [], ◌∷◌, length, get_or, drop, Contains, inl, inr, sym, ap, subst, ◌∙◌}
use Rattle.std.proofs.lemmas.Bool.{true≢false}
use Rattle.std.proofs.lemmas.List.{append_assoc}
use Rattle.std.proofs.lemmas.List.Elements.{Contains-append_left, Contains-append_right, Contains-append_cases}
use Rattle.list_laws.proofs.Members.{contains_cases, from_filter, to_filter}
use Rattle.cca_base.specs.declared.cube.Pair.{Pair}
use Rattle.cca_base.specs.PlantModel.{PlantModel}
use Rattle.cca_base.specs.Model.{HasMode}
use Rattle.cca_base.specs.Shown.{Clash}
use Rattle.clash_analysis.specs.declared.subjects.SubjectSet.{SubjectSet}
use Rattle.consistency.specs.Cores.{IsCore, pairs_in}
use Rattle.clash_analysis.specs.Subjects.{is_in}
use Rattle.consistency.proofs.MinimalConflict.{more_clash}
use Rattle.cca_base.proofs.Trying.{IsTrying, next, trying_dropped, trying_kept}

module _ (m : PlantModel) (seen : List Pair) where
  -- what has a core clashes
  pub core_clash : (pairs : List Pair) (core : SubjectSet) → IsCore m seen pairs core → Clash m seen pairs
  core_clash pairs core h = more_clash m seen (pairs_in core pairs) pairs (λ q among. (from_filter (λ (p : Pair). is_in core p.item) pairs q among).1) h

  -- a core of some pairs is one of the others where one goes that is outside it
  core_without : (front behind : List Pair) (p : Pair) (core : SubjectSet) → is_in core p.item ≡ false → IsCore m seen (front ++ p ∷ behind) core → IsCore m seen (front ++ behind) core
  core_without front behind p core outside h =
      more_clash m seen (pairs_in core (front ++ p ∷ behind)) (pairs_in core (front ++ behind))
      (λ q among.
      let stands = from_filter (λ (r : Pair). is_in core r.item) (front ++ p ∷ behind) q among in
      let left : Contains (front ++ behind) q = elim (Contains-append_cases front (p ∷ behind) q stands.1) [
        | inl first ↦ Contains-append_left front behind q first
        | inr rest ↦ elim (contains_cases p q behind rest) [
          | inl e ↦ absurd (true≢false (sym stands.0 ∙ (ap (λ (r : Pair). is_in core r.item) (sym e) ∙ outside)))
          | inr there ↦ Contains-append_right front behind q there
        ]
      ] in
      to_filter (λ (r : Pair). is_in core r.item) (front ++ behind) q stands.0 left)
      h

module _ (m : PlantModel) (seen pairs : List Pair) where
  -- the first of the pairs have been tried, these were kept of them, and with those to come they have this core
  pub record IsTryingCore (kept : List Pair) (at : ℕ) (core : SubjectSet) : Type 0 where
    pub trying : IsTrying m seen pairs kept at
    pub core_left : IsCore m seen (kept ++ drop at pairs) core

  module _ (kept : List Pair) (at : ℕ) (core : SubjectSet) (p : Pair) (h : IsTryingCore kept at core) (within : at < length pairs) (here : get_or pairs at p ≡ p) where
    abbrev rest : List Pair
    rest = drop (at + 1) pairs

    core_here : IsCore m seen (kept ++ p ∷ rest) core
    core_here = subst (λ ps. IsCore m seen (kept ++ ps) core) (next m seen pairs kept at p h.trying within here) h.core_left

    -- a pair outside the core is dropped
    pub outside_dropped : is_in core p.item ≡ false → IsTryingCore kept (at + 1) core
    outside_dropped outside =
        let left : IsCore m seen (kept ++ rest) core = core_without m seen kept rest p core outside core_here in
        record { trying = trying_dropped m seen pairs kept at p h.trying within here (core_clash m seen (kept ++ rest) core left); core_left = left }

    -- a pair without which there is a core is dropped
    pub inside_dropped : (smaller : SubjectSet) → IsCore m seen (kept ++ rest) smaller → IsTryingCore kept (at + 1) smaller
    inside_dropped smaller left = record { trying = trying_dropped m seen pairs kept at p h.trying within here (core_clash m seen (kept ++ rest) smaller left); core_left = left }

    pub inside_kept : HasMode m p.item p.value → (Clash m seen (kept ++ rest) → ⊥) → IsTryingCore (kept ++ p ∷ []) (at + 1) core
    inside_kept mode fits = record {
      trying = trying_kept m seen pairs kept at p h.trying within here mode fits;
      core_left = subst (λ ps. IsCore m seen ps core) (sym (append_assoc kept (p ∷ []) rest)) core_here;
    }
