-- Values for subjects, with one set.
use Rattle.std.proofs.Common.{◌≡◌, ◌<◌, ℕ, List, length, get_or, set, inl, inr, sym, ap, subst, ◌∙◌, arith}
use Rattle.std.proofs.lemmas.Bool.{cases_eq}
use Rattle.std.proofs.lemmas.List.{length-set, get_or-set_same, get_or-set_other}
use Rattle.clause_form.specs.Clauses.{AreValues}

pub values_set : (sizes xs : List ℕ) (x v : ℕ) → AreValues sizes xs → v < get_or sizes x 0 → AreValues sizes (set xs x v)
values_set sizes xs x v h small = record {
  full = length-set xs x v ∙ h.full;
  values = λ i l. elim (cases_eq i x) [
    | inl e ↦
        let at : get_or (set xs x v) i 0 ≡ v = ap (λ k. get_or (set xs x v) k 0) e ∙ get_or-set_same xs x v 0 (subst (λ k. k < length xs) e (omega (arith, l, h.full))) in
        let size : get_or sizes i 0 ≡ get_or sizes x 0 = ap (λ k. get_or sizes k 0) e in
        omega (arith, at, size, small)
    | inr ne ↦ subst (λ k. k < get_or sizes i 0) (sym (get_or-set_other xs x i v 0 ne)) (h.values i l)
  ];
}
