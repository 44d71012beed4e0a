-- The first world, one subject after another.
use Rattle.std.proofs.Common.{◌≡◌, ◌⊎◌, ◌↔◌, inl, inr, ℕ, ◌+◌, ◌<◌, ◌≤◌, List, [], ◌∷◌, ◌++◌, length, slice_index, refl, sym, subst, ◌∙◌, arith, below_more}
use Rattle.std.proofs.lemmas.Bool.{cases_lt}
use Rattle.std.proofs.lemmas.List.{ext_get_or}
use Rattle.cca_base.specs.declared.cube.Pair.{Pair}
use Rattle.clause_form.specs.declared.clause.Clause.{Clause}
use Rattle.world_search.specs.Worlds.{HasAll, IsSolution}
use Rattle.consistency.specs.Lowest.{IsLowest}
use Rattle.consistency.specs.Search.{IsFirst, IsLess}
use Rattle.consistency.proofs.PairLaws.{has_fewer, has_last, has_more}

-- the first so many subjects have the same values
abbrev pub AreSameTo : ℕ → List ℕ → List ℕ → Type 0
AreSameTo n xs ys = (d : ℕ) → d < n → slice_index xs d ≡ slice_index ys d

-- one of the first so many subjects is the first one where they differ, and the one is less
abbrev pub IsLessTo : ℕ → List ℕ → List ℕ → Type 0
IsLessTo n xs ys = (less : IsLess xs ys) × (less.place < n)

-- what is less stays so where those values stay
still_less : (n : ℕ) (xs ys zs : List ℕ) → AreSameTo n xs ys → n ≤ length ys → IsLessTo n xs zs → IsLessTo (n + 1) ys zs
still_less n xs ys zs same long (less, near) = (
  record {
    place = less.place;
    inside = omega arith;
    same = λ d before. sym (same d (omega arith)) ∙ less.same d before;
    less = subst (λ a. a < slice_index zs less.place) (same less.place near) less.less;
  },
  omega arith,
)

module _ (clauses : List Clause) (base : List ℕ) where
  -- a world with the pairs is the lowest where no other one is below the last pair's value
  pub lowest_found : (pairs new : List Pair) (subject value : ℕ) (xs : List ℕ) → IsSolution clauses base xs → HasAll new xs → new ≡ pairs ++ record { item = subject; value = value } ∷ []
      → ((ys : List ℕ) → IsSolution clauses base ys → HasAll pairs ys → value ≤ slice_index ys subject) → IsLowest clauses base pairs subject xs new
  lowest_found pairs new subject value xs world all put low =
      let last : Pair = record { item = subject; value = value } in
      let all' : HasAll (pairs ++ last ∷ []) xs = subst (λ l. HasAll l xs) put all in
      let at : slice_index xs subject ≡ value = has_last pairs last xs all' in
      record {
        world = world;
        has = has_fewer pairs last xs all';
        lowest = λ ys other same. subst (λ a. a ≤ slice_index ys subject) (sym at) (low ys other same);
        put = subst (λ a. new ≡ pairs ++ record { item = subject; value = a } ∷ []) (sym at) put;
      }

  -- a world whose first so many values are the pairs, and no other world is less by them
  pub record IsFirstTo (n : ℕ) (xs : List ℕ) (pairs : List Pair) : Type 0 where
    pub world : IsSolution clauses base xs
    pub fixed : (ys : List ℕ) → HasAll pairs ys ↔ AreSameTo n xs ys
    pub first : (ys : List ℕ) → IsSolution clauses base ys → AreSameTo n xs ys ⊎ IsLessTo n xs ys

  -- the world has its own pairs
  pub has_own : (n : ℕ) (xs : List ℕ) (pairs : List Pair) → IsFirstTo n xs pairs → HasAll pairs xs
  has_own n xs pairs h = (h.fixed xs).1 (λ d _. refl)

  -- the lowest world at the next subject takes its place
  pub one_fixed : (n : ℕ) (xs ys : List ℕ) (pairs new : List Pair) → n < length base → IsFirstTo n xs pairs → IsLowest clauses base pairs n ys new → IsFirstTo (n + 1) ys new
  one_fixed n xs ys pairs new room h low =
      let last : Pair = record { item = n; value = slice_index ys n } in
      let same : AreSameTo n xs ys = (h.fixed ys).0 low.has in
      let long : length ys ≡ length base = low.world.full in
      record {
        world = low.world;
        fixed = λ zs. (
          λ all.
              (let all' : HasAll (pairs ++ last ∷ []) zs = subst (λ l. HasAll l zs) low.put all in
              let before : AreSameTo n xs zs = (h.fixed zs).0 (has_fewer pairs last zs all') in
              below_more (λ d. slice_index ys d ≡ slice_index zs d) n (λ d less. sym (same d less) ∙ before d less) (sym (has_last pairs last zs all'))),
          λ more. subst (λ l. HasAll l zs) (sym low.put)
              (has_more pairs last zs ((h.fixed zs).1 (λ d less. same d less ∙ more d (omega arith))) (sym (more n (omega arith)))),
        );
        first = λ zs other. elim (h.first zs other) [
          | inl equal ↦
              let lowest : slice_index ys n ≤ slice_index zs n = low.lowest zs other ((h.fixed zs).1 equal) in
              let before : AreSameTo n ys zs = λ d less. sym (same d less) ∙ equal d less in
              elim (cases_lt (slice_index ys n) (slice_index zs n)) [
                | inl less ↦ inr (record { place = n; inside = omega arith; same = before; less = less }, omega arith)
                | inr more ↦ inl (below_more (λ d. slice_index ys d ≡ slice_index zs d) n before (omega arith))
              ]
          | inr less ↦ inr (still_less n xs ys zs same (omega arith) less)
        ];
      }

  -- once all subjects are fixed it is the first
  pub all_fixed : (n : ℕ) (xs : List ℕ) (pairs : List Pair) → length xs ≤ n → IsFirstTo n xs pairs → IsFirst clauses base xs
  all_fixed n xs pairs end h = record {
    solution = h.world;
    first = λ ys other. elim (h.first ys other) [
      | inl equal ↦ inl (ext_get_or 0 xs ys (h.world.full ∙ sym other.full) (λ d less. equal d (omega arith)))
      | inr less ↦ inr less.0
    ];
  }
