-- Flags that are set one by one.
use Rattle.std.proofs.Common.{◌≡◌, ◌<◌, ◌≤◌, ◌+◌, ℕ, Bool, true, false, List, [], ◌∷◌, ◌++◌, length, take, get_or, set, All, Contains, MatchBool, inl, inr, refl, sym, ap, subst, ◌∙◌, arith}
use Rattle.std.proofs.lemmas.List.{get_or-set_same, length-set, take_more}
use Rattle.std.proofs.lemmas.List.Elements.{All-contains, Contains-push, Contains-push_cases, Contains-append_left}
use Rattle.list_laws.proofs.Members.{contains_none}
use Rattle.cca_base.specs.declared.limits.TheConstants.{MAX_ROWS}
use Rattle.causal_graph.specs.Search.{AreNarrow, Marks}
use Rattle.cca_base.specs.Flags.{IsSet, unset}
use Rattle.cca_base.proofs.FlagLaws.{set_kept, set_cases, fewer_unset}

pub marks_none : (flags : List Bool) → Marks [] flags flags
marks_none flags = record { full = refl; kept = λ u h. h; marked = λ u among. absurd (contains_none u among); origin = λ u h. inl h }

-- a number whose flag was not set
pub marks_new : (row : List ℕ) (u : ℕ) (old now : List Bool) → u < length now → Marks row old now → Marks (row ++ u ∷ []) old (set now u true)
marks_new row u old now within h = record {
  full = length-set now u true ∙ h.full;
  kept = λ w was. set_kept now u w (h.kept w was);
  marked = λ w among. elim (Contains-push_cases row u w among) [
    | inl there ↦ set_kept now u w (h.marked w there)
    | inr e ↦ subst (IsSet (set now u true)) e (get_or-set_same now u true false within)
  ];
  origin = λ w is. elim (set_cases now u w is) [
    | inl before ↦ elim (h.origin w before) [ inl was ↦ inl was | inr there ↦ inr (Contains-append_left row (u ∷ []) w there) ]
    | inr e ↦ inr (subst (Contains (row ++ u ∷ [])) e (Contains-push row u))
  ];
}

-- a number whose flag was set
marks_old : (row : List ℕ) (u : ℕ) (old now : List Bool) → IsSet now u → Marks row old now → Marks (row ++ u ∷ []) old now
marks_old row u old now is_set h = record {
  full = h.full;
  kept = h.kept;
  marked = λ w among. elim (Contains-push_cases row u w among) [ inl there ↦ h.marked w there | inr e ↦ subst (IsSet now) e is_set ];
  origin = λ w is. elim (h.origin w is) [ inl was ↦ inl was | inr there ↦ inr (Contains-append_left row (u ∷ []) w there) ];
}

-- numbers of rows are marked at such places
pub marks_narrow : (row : List ℕ) (old new : List Bool) → All (λ u. u < MAX_ROWS) row → Marks row old new → AreNarrow old → AreNarrow new
marks_narrow row old new small h narrow = λ u is. elim (h.origin u is) [
  | inl was ↦ narrow u was
  | inr there ↦ All-contains (λ w. w < MAX_ROWS) row u small there
]

-- what marking the numbers before place i of the row has made
pub record IsMarkedTo (row : List ℕ) (old now : List Bool) (fresh : Bool) (i : ℕ) : Type 0 where
  pub marks : Marks (take i row) old now
  pub fresh_is : MatchBool fresh (unset now < unset old) (now ≡ old)

pub marked_none : (row : List ℕ) (old : List Bool) → IsMarkedTo row old old false 0
marked_none row old = record { marks = marks_none old; fresh_is = refl }

module _ (row : List ℕ) (old now : List Bool) (fresh : Bool) (i : ℕ) (h : IsMarkedTo row old now fresh i) (within : i < length row) where
  abbrev number : ℕ
  number = get_or row i 0

  not_more : (b : Bool) → MatchBool b (unset now < unset old) (now ≡ old) → unset now ≤ unset old
  not_more true lt = omega arith
  not_more false e = omega (arith, ap unset e)

  pub marked_new : number < length now → get_or now number false ≡ false → IsMarkedTo row old (set now number true) true (i + 1)
  marked_new below was = record {
    marks = subst (λ seen. Marks seen old (set now number true)) (sym (take_more row i 0 within)) (marks_new (take i row) number old now below h.marks);
    fresh_is = omega (arith, fewer_unset now number below was, not_more fresh h.fresh_is);
  }

  pub marked_old : get_or now number false ≡ true → IsMarkedTo row old now fresh (i + 1)
  marked_old was = record {
    marks = subst (λ seen. Marks seen old now) (sym (take_more row i 0 within)) (marks_old (take i row) number old now was h.marks);
    fresh_is = h.fresh_is;
  }
