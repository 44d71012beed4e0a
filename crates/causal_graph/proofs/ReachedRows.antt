-- Rows that are reached, round by round.
use Rattle.std.proofs.Common.{◌≡◌, ◌<◌, ◌≤◌, ◌+◌, ◌⊎◌, ℕ, Bool, true, false, List, [], ◌∷◌, ◌++◌, length, get_or, AllPairs, Contains, MatchBool, inl, inr, refl, sym, ap, subst, ◌∙◌, arith}
use Rattle.std.proofs.lemmas.Bool.{cases_eq, both_ways}
use Rattle.std.proofs.lemmas.List.Elements.{Contains-get_or, Contains-push, Contains-push_cases, Contains-append_left}
use Rattle.std.proofs.lemmas.List.Quantifiers.{all_pairs_push}
use Rattle.list_laws.proofs.Members.{contains_none}
use Rattle.cca_base.proofs.PathLaws.{ancestor_direct, ancestor_join}
use Rattle.cca_base.specs.Relations.{PathBy, AncestorBy}
use Rattle.causal_graph.specs.Needs.{RowNeeds, AreAncestors}
use Rattle.causal_graph.specs.Search.{AreNarrow, Marks, Spreads, AreReached}
use Rattle.cca_base.specs.Flags.{IsSet, unset}
use Rattle.cca_base.proofs.FlagLaws.{set_within}
use Rattle.causal_graph.proofs.DistanceRound.{row_within}

module _ (rows : List (List ℕ)) where
  abbrev Reaches : ℕ → ℕ → Type 0
  Reaches = AncestorBy (RowNeeds rows)

  -- ---- one round

  -- the round, done for the rows below i
  pub record IsSpreadTo (old now : List Bool) (fresh : Bool) (i : ℕ) : Type 0 where
    pub full : length now ≡ length old
    pub kept : (u : ℕ) → IsSet old u → IsSet now u
    pub marked : (v u : ℕ) → v < i → IsSet old v → RowNeeds rows v u → IsSet now u
    pub origin : (u : ℕ) → IsSet now u → IsSet old u ⊎ ((v : ℕ) × IsSet old v × Reaches v u)
    pub narrow : AreNarrow old → AreNarrow now
    pub fresh_is : MatchBool fresh (unset now < unset old) (now ≡ old)

  pub spread_none : (old : List Bool) → IsSpreadTo old old false 0
  spread_none old = record { full = refl; kept = λ u h. h; marked = λ v u lt. absurd (omega arith); origin = λ u h. inl h; narrow = λ h. h; fresh_is = refl }

  pub spread_all : (old now : List Bool) (fresh : Bool) (i : ℕ) → length rows ≤ i → IsSpreadTo old now fresh i → Spreads rows old now
  spread_all old now fresh i all h = record {
    full = h.full;
    kept = h.kept;
    marked = λ v u is needs. h.marked v u (let lt : v < length rows = row_within rows v u needs in omega arith) is needs;
    origin = h.origin;
  }

  module _ (old now : List Bool) (fresh : Bool) (i : ℕ) (h : IsSpreadTo old now fresh i) where
    pub spread_no : get_or now i false ≡ false → IsSpreadTo old now fresh (i + 1)
    spread_no none = record {
      full = h.full;
      kept = h.kept;
      marked = λ v u lt is needs. elim (cases_eq v i) [
        | inl e ↦ absurd (both_ways (get_or now i false) none (subst (IsSet now) e (h.kept v is)))
        | inr ne ↦ h.marked v u (let below : v < i + 1 = lt in omega (arith, below, ne)) is needs
      ];
      origin = h.origin;
      narrow = h.narrow;
      fresh_is = h.fresh_is;
    }

    -- the flags after row i was marked, of which some may be new
    fewer : (b : Bool) (new : List Bool) → MatchBool b (unset new < unset now) (new ≡ now) → MatchBool b (unset new < unset old) (MatchBool fresh (unset new < unset old) (new ≡ old))
    fewer true new lt = not_more fresh h.fresh_is
      where
        not_more : (f : Bool) → MatchBool f (unset now < unset old) (now ≡ old) → unset new < unset old
        not_more true below = omega (arith, lt, below)
        not_more false e = omega (arith, lt, ap unset e)
    fewer false new e = subst (λ xs. MatchBool fresh (unset xs < unset old) (xs ≡ old)) (sym e) h.fresh_is

    module _ (row : List ℕ) (new : List Bool) (is_row : get_or rows i [] ≡ row) (set_i : get_or now i false ≡ true) (marks : Marks row now new) (narrow : AreNarrow now → AreNarrow new) where
      new_origin : (u : ℕ) → IsSet new u → IsSet old u ⊎ ((v : ℕ) × IsSet old v × Reaches v u)
      new_origin u is = elim (marks.origin u is) [
        | inl was ↦ h.origin u was
        | inr there ↦
            let needs : RowNeeds rows i u = subst (λ r. Contains r u) (sym is_row) there in
            let step : Reaches i u = ancestor_direct (RowNeeds rows) i u needs in
            elim (h.origin i set_i) [
              | inl was ↦ inr (i, was, step)
              | inr by ↦ inr (by.0, by.1, ancestor_join (RowNeeds rows) by.0 i u by.2 step)
            ]
      ]

      new_marked : (v u : ℕ) → v < i + 1 → IsSet old v → RowNeeds rows v u → IsSet new u
      new_marked v u lt is needs = elim (cases_eq v i) [
        | inl e ↦ marks.marked u (subst (λ r. Contains r u) (ap (λ z. get_or rows z []) e ∙ is_row) needs)
        | inr ne ↦ marks.kept u (h.marked v u (omega (arith, lt, ne)) is needs)
      ]

      pub spread_new : MatchBool true (unset new < unset now) (new ≡ now) → IsSpreadTo old new true (i + 1)
      spread_new lt = record { full = marks.full ∙ h.full; kept = λ u is. marks.kept u (h.kept u is); marked = new_marked; origin = new_origin; narrow = λ was. narrow (h.narrow was); fresh_is = fewer true new lt }

      pub spread_same : MatchBool false (unset new < unset now) (new ≡ now) → IsSpreadTo old new fresh (i + 1)
      spread_same e = record { full = marks.full ∙ h.full; kept = λ u is. marks.kept u (h.kept u is); marked = new_marked; origin = new_origin; narrow = λ was. narrow (h.narrow was); fresh_is = fewer false new e }

  -- ---- all rounds

  module _ (c : ℕ) where
    -- only what c reaches is set, and what it needs is set
    pub record IsReaching (flags : List Bool) : Type 0 where
      pub full : length flags ≡ length rows
      pub origin : (u : ℕ) → IsSet flags u → Reaches c u
      pub first : (u : ℕ) → RowNeeds rows c u → IsSet flags u
      pub narrow : AreNarrow flags

    pub reaching_first : (row : List ℕ) (old new : List Bool) → get_or rows c [] ≡ row → length old ≡ length rows → ((u : ℕ) → IsSet old u → ⊥) → Marks row old new → (AreNarrow old → AreNarrow new) → IsReaching new
    reaching_first row old new is_row full none marks narrow = record {
      full = marks.full ∙ full;
      origin = λ u is. elim (marks.origin u is) [ inl was ↦ absurd (none u was) | inr there ↦ ancestor_direct (RowNeeds rows) c u (subst (λ r. Contains r u) (sym is_row) there) ];
      first = λ u needs. marks.marked u (subst (λ r. Contains r u) is_row needs);
      narrow = narrow (λ u was. absurd (none u was));
    }

    module _ (old new : List Bool) (h : IsReaching old) (spreads : Spreads rows old new) where
      pub reaching_more : (AreNarrow old → AreNarrow new) → IsReaching new
      reaching_more narrow = record {
        full = spreads.full ∙ h.full;
        origin = λ u is. elim (spreads.origin u is) [ inl was ↦ h.origin u was | inr by ↦ ancestor_join (RowNeeds rows) c by.0 u (h.origin by.0 by.1) by.2 ];
        first = λ u needs. spreads.kept u (h.first u needs);
        narrow = narrow h.narrow;
      }

      module _ (same : new ≡ old) where
        along : (d : ℕ) (between : List ℕ) (u : ℕ) → IsSet old d → PathBy (RowNeeds rows) d between u → IsSet old u
        along d [] u is path = subst (λ xs. IsSet xs u) same (spreads.marked d u is path)
        along d (e ∷ between) u is path = along e between u (subst (λ xs. IsSet xs e) same (spreads.marked d e is path.0)) path.1

        all_set : (between : List ℕ) (u : ℕ) → PathBy (RowNeeds rows) c between u → IsSet old u
        all_set [] u path = h.first u path
        all_set (e ∷ between) u path = along e between u (h.first e path.0) path.1

        pub reached_all : AreReached rows c old
        reached_all = record { full = h.full; each = λ u. (h.origin u, λ way. all_set way.0 u way.1) }
        -- ---- the list of them

-- the numbers below i whose flags are set, rising
pub record AreListed (flags : List Bool) (list : List ℕ) (i : ℕ) : Type 0 where
  pub rising : AllPairs (λ u v. u < v) list
  pub below : (u : ℕ) → Contains list u → u < i
  pub is_set : (u : ℕ) → Contains list u → IsSet flags u
  pub all : (u : ℕ) → u < i → IsSet flags u → Contains list u

pub listed_none : (flags : List Bool) → AreListed flags [] 0
listed_none flags = record {
  rising = λ i j d lt within. absurd (omega arith);
  below = λ u among. absurd (contains_none u among);
  is_set = λ u among. absurd (contains_none u among);
  all = λ u lt. absurd (omega arith);
}

module _ (flags : List Bool) (list : List ℕ) (i : ℕ) (h : AreListed flags list i) where
  pub listed_yes : get_or flags i false ≡ true → AreListed flags (list ++ i ∷ []) (i + 1)
  listed_yes is = record {
    rising = all_pairs_push (λ u v. u < v) list i h.rising (λ k d within. h.below (get_or list k d) (Contains-get_or list k d within));
    below = λ u among. elim (Contains-push_cases list i u among) [ inl there ↦ let lt : u < i = h.below u there in omega arith | inr e ↦ omega (arith, e) ];
    is_set = λ u among. elim (Contains-push_cases list i u among) [ inl there ↦ h.is_set u there | inr e ↦ subst (IsSet flags) e is ];
    all = λ u lt set_u. elim (cases_eq u i) [
      | inl e ↦ subst (Contains (list ++ i ∷ [])) (sym e) (Contains-push list i)
      | inr ne ↦ Contains-append_left list (i ∷ []) u (h.all u (let below : u < i + 1 = lt in omega (arith, below, ne)) set_u)
    ];
  }

  pub listed_no : get_or flags i false ≡ false → AreListed flags list (i + 1)
  listed_no none = record {
    rising = h.rising;
    below = λ u among. (let lt : u < i = h.below u among in omega arith);
    is_set = h.is_set;
    all = λ u lt set_u. elim (cases_eq u i) [
      | inl e ↦ absurd (both_ways (get_or flags i false) none (subst (IsSet flags) e set_u))
      | inr ne ↦ h.all u (let below : u < i + 1 = lt in omega (arith, below, ne)) set_u
    ];
  }

  pub listed_all : (rows : List (List ℕ)) (c : ℕ) → AreReached rows c flags → length flags ≤ i → AreAncestors rows c list
  listed_all rows c reached whole = record {
    rising = h.rising;
    each = λ u. (
      λ among. (reached.each u).0 (h.is_set u among),
      λ way. (let is = (reached.each u).1 way in h.all u (let lt : u < length flags = set_within flags u is in omega arith) is),
    );
  }
