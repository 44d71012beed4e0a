-- Which rows the remaining ones need.
use Rattle.std.proofs.Common.{◌≡◌, ℕ, Bool, false, List, [], ◌∷◌, ◌++◌, length, get_or, replicate, Contains, inl, inr, sym, ap, subst, ◌∙◌}
use Rattle.std.proofs.lemmas.List.{length-replicate}
use Rattle.std.proofs.lemmas.List.Elements.{Contains-push, Contains-push_cases, Contains-append_left}
use Rattle.list_laws.proofs.Members.{contains_none}
use Rattle.cca_base.proofs.FlagLaws.{none_set}
use Rattle.causal_graph.specs.Search.{Marks, AreNeeded}

pub needed_none : (rows : List (List ℕ)) (n : ℕ) → n ≡ length rows → AreNeeded rows [] (replicate n false)
needed_none rows n full = record {
  full = length-replicate n false ∙ full;
  each = λ u. (λ is. absurd (none_set n u is), λ h. absurd (contains_none h.0 h.1));
}

pub needed_more : (rows : List (List ℕ)) (seen : List ℕ) (c : ℕ) (row : List ℕ) (old new : List Bool) → get_or rows c [] ≡ row → AreNeeded rows seen old → Marks row old new
    → AreNeeded rows (seen ++ c ∷ []) new
needed_more rows seen c row old new is_row h marks = record {
  full = marks.full ∙ h.full;
  each = λ u. (
    λ is. elim (marks.origin u is) [
      | inl was ↦ let by = (h.each u).0 was in (by.0, Contains-append_left seen (c ∷ []) by.0 by.1, by.2)
      | inr there ↦ (c, Contains-push seen c, subst (λ r. Contains r u) (sym is_row) there)
    ],
    λ by. elim (Contains-push_cases seen c by.0 by.1) [
      | inl before ↦ marks.kept u ((h.each u).1 (by.0, before, by.2))
      | inr e ↦ marks.marked u (subst (λ r. Contains r u) (ap (λ d. get_or rows d []) (sym e) ∙ is_row) by.2)
    ],
  );
}
