-- Flags that are set one by one.
use Rattle.std.proofs.Common.{◌≡◌, ◌<◌, ◌+◌, ◌⊎◌, ℕ, Bool, true, false, not, cond, List, length, get_or, replicate, set, inl, inr, sym, ap, subst, ◌∙◌, arith}
use Rattle.std.proofs.lemmas.Bool.{cases_lt, cases_eq, false≢true}
use Rattle.std.proofs.lemmas.List.{get_or_past, get_or-replicate, get_or-set_same, get_or-set_other, length-replicate}
use Rattle.std.proofs.lemmas.List.Sums.{sum_by-set}
use Rattle.cca_base.specs.Flags.{IsSet, unset}

-- no flag of a list of false ones is set
pub none_set : (n u : ℕ) → IsSet (replicate n false) u → ⊥
none_set n u h = elim (cases_lt u n) [
  | inl within ↦ false≢true (sym (get_or-replicate n u false false within) ∙ h)
  | inr past ↦ false≢true (sym (get_or_past (replicate n false) u false (omega (arith, past, length-replicate n false))) ∙ h)
]

-- only flags of the list are set
pub set_within : (flags : List Bool) (u : ℕ) → IsSet flags u → u < length flags
set_within flags u h = elim (cases_lt u (length flags)) [
  | inl within ↦ within
  | inr past ↦ absurd (false≢true (sym (get_or_past flags u false past) ∙ h))
]

pub set_kept : (flags : List Bool) (u w : ℕ) → IsSet flags w → IsSet (set flags u true) w
set_kept flags u w h = elim (cases_eq w u) [
  | inl e ↦ subst (IsSet (set flags u true)) (sym e) (get_or-set_same flags u true false (subst (λ z. z < length flags) e (set_within flags w h)))
  | inr ne ↦ get_or-set_other flags u w true false ne ∙ h
]

pub set_cases : (flags : List Bool) (u w : ℕ) → IsSet (set flags u true) w → IsSet flags w ⊎ (u ≡ w)
set_cases flags u w h = elim (cases_eq w u) [
  | inl e ↦ inr (sym e)
  | inr ne ↦ inl (sym (get_or-set_other flags u w true false ne) ∙ h)
]

-- one flag more is set
pub fewer_unset : (flags : List Bool) (u : ℕ) → u < length flags → get_or flags u false ≡ false → unset (set flags u true) + 1 ≡ unset flags
fewer_unset flags u within h =
    let counted = sum_by-set (λ (b : Bool). cond (not b) 1 0) flags u true false within in
    let one : ◌≡◌ {A = ℕ} (cond (not (get_or flags u false)) 1 0) 1 = ap (λ (b : Bool). cond (not b) 1 0) h in
    omega (arith, counted, one)
