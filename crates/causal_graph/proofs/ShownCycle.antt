-- The shown cycle: a way back that always goes to the least next row that is one nearer.
use Rattle.std.proofs.Common.{◌≡◌, ◌≢◌, ◌<◌, ◌≤◌, ◌+◌, ◌-◌, ◌⊎◌, ℕ, List, [], ◌∷◌, ◌++◌, length, slice_index, get_or, All, AllPairs, Contains, inl, inr, refl, sym, ap, subst, ◌∙◌, arith}
use Rattle.std.specs.Ordering.{nat_cmp, ordering_then}
use Rattle.std.specs.Cmp.Lexicographic.{slice_cmp}
use Rattle.std.specs.declared.cmp.Ordering.{Ordering}
use Rattle.std.specs.declared.cmp.Ordering.TheVariants.{Less, Equal}
use Rattle.std.proofs.lemmas.Bool.{cases_lt, cases_order}
use Rattle.std.proofs.lemmas.List.{append-nil, append_assoc, length_push}
use Rattle.std.proofs.lemmas.List.Elements.{All-weaker, All-cons, All-nil}
use Rattle.std.proofs.lemmas.List.Kept.{AllPairs-cons}
use Rattle.list_laws.proofs.Orders.{less_greater, nat_cmp-same, greater_cmp}
use Rattle.list_laws.proofs.Members.{contains_cases, contains_here, contains_there, contains_none}
use Rattle.cca_base.proofs.PathLaws.{ancestor_direct, ancestor_join}
use Rattle.cca_base.specs.Estimates.{IsEarlier}
use Rattle.cca_base.specs.Relations.{PathBy, AncestorBy, IsShownCycleBy}
use Rattle.causal_graph.specs.Needs.{RowNeeds, AreRows}
use Rattle.causal_graph.specs.Search.{AreDistances, IsNearest, IsFirstCycle, HasStuck}
use Rattle.causal_graph.proofs.EffectsFirst.{needed_within}

-- ---- lists entry by entry

equal_is : ◌≡◌ {A = Ordering} Equal Less → ⊥
equal_is h = cc

earlier_tail : (x : ℕ) (xs ys : List ℕ) → IsEarlier (x ∷ xs) (x ∷ ys) → IsEarlier xs ys
earlier_tail x xs ys h = sym (ap (λ o. ordering_then o (slice_cmp nat_cmp xs ys)) (nat_cmp-same x x refl)) ∙ h

not_earlier : (x y : ℕ) (xs ys : List ℕ) → y < x → IsEarlier (x ∷ xs) (y ∷ ys) → ⊥
not_earlier x y xs ys above h = less_greater (sym h ∙ ap (λ o. ordering_then o (slice_cmp nat_cmp xs ys)) (greater_cmp x y above))

module _ (rows : List (List ℕ)) (t : ℕ) (distances : List ℕ) where
  -- a way from d to t whose each entry is the least that is one nearer
  abbrev pub IsGreedy : ℕ → List ℕ → Type 0
  IsGreedy d [] = RowNeeds rows d t × (slice_index distances d ≡ 1)
  IsGreedy d (e ∷ rest) = IsNearest (get_or rows d []) distances (length rest + 1) e × (slice_index distances d ≡ length rest + 2) × IsGreedy e rest

  -- the cycle so far leads to a row from which so many needs are left
  pub record IsStepping (cycle : List ℕ) (here left : ℕ) : Type 0 where
    pub left_is : slice_index distances here ≡ left
    pub positive : 0 < left
    pub so_far : (rest : List ℕ) → IsGreedy here rest → (between : List ℕ) × (cycle ++ rest ≡ t ∷ between) × IsGreedy t between

module _ (rows : List (List ℕ)) (t : ℕ) (distances : List ℕ) (are : AreDistances rows t distances) where
  abbrev at : ℕ → ℕ
  at d = slice_index distances d

  abbrev Greedy : ℕ → List ℕ → Type 0
  Greedy = IsGreedy rows t distances

  abbrev Stepping : List ℕ → ℕ → ℕ → Type 0
  Stepping = IsStepping rows t distances

  -- a row is at most one farther than what it needs
  one_nearer : (d e : ℕ) → RowNeeds rows d e → 0 < at e → at d ≤ at e + 1
  one_nearer d e needs above =
      let way = are.reached e above in
      let near = are.least d (e ∷ way.0) (needs, way.1) in
      omega (arith, near.1, way.2)

  next_of : (d left : ℕ) (between : List ℕ) → PathBy (RowNeeds rows) d between t → length between ≡ left → 0 < left → at d ≡ left + 1 → (e : ℕ) × RowNeeds rows d e × (at e ≡ left)
  next_of d left [] path long positive far = absurd (omega arith)
  next_of d left (e ∷ between) path long positive far =
      let near = are.least e between path.1 in
      let back = one_nearer d e path.0 near.0 in
      (e, path.0, omega (arith, near.1, back, long, far))

  -- a row that is not next to t needs one that is one nearer
  pub next_at : (d left : ℕ) → at d ≡ left → 1 < left → (e : ℕ) × RowNeeds rows d e × (at e ≡ left - 1)
  next_at d left far positive =
      let way = are.reached d (omega (arith, far, positive)) in
      next_of d (left - 1) way.0 way.1 (omega (arith, way.2, far, positive)) (omega (arith, positive)) (omega (arith, far, positive))

  -- the last before t
  last_of : (d : ℕ) (between : List ℕ) → PathBy (RowNeeds rows) d between t → length between ≡ 0 → RowNeeds rows d t
  last_of d [] path short = path
  last_of d (e ∷ between) path short = absurd (omega arith)

  greedy_length : (d : ℕ) (xs : List ℕ) → Greedy d xs → at d ≡ length xs + 1
  greedy_length d [] g = g.1
  greedy_length d (e ∷ rest) g = omega (arith, g.1)

  greedy_path : (d : ℕ) (xs : List ℕ) → Greedy d xs → PathBy (RowNeeds rows) d xs t
  greedy_path d [] g = g.0
  greedy_path d (e ∷ rest) g = (g.0.among, greedy_path e rest g.2)

  greedy_nearer : (d : ℕ) (xs : List ℕ) → Greedy d xs → All (λ e. at e < at d) xs
  greedy_nearer d [] g = All-nil (λ e. at e < at d)
  greedy_nearer d (e ∷ rest) g =
      let below : at e < at d = omega (arith, g.1, greedy_length e rest g.2) in
      All-cons (λ x. at x < at d) e rest below (All-weaker (λ x. at x < at e) (λ x. at x < at d) (λ x lt. omega (arith, lt, below)) rest (greedy_nearer e rest g.2))

  greedy_differ : (d : ℕ) (xs : List ℕ) → Greedy d xs → AllPairs (λ x y. x ≢ y) (d ∷ xs)
  greedy_differ d [] g = AllPairs-cons (λ x y. x ≢ y) d [] (All-nil (λ x. d ≢ x)) (λ i j k lt within. absurd (omega arith))
  greedy_differ d (e ∷ rest) g =
      AllPairs-cons (λ x y. x ≢ y) d (e ∷ rest) (All-weaker (λ x. at x < at d) (λ x. d ≢ x) (λ x lt same. omega (arith, ap at same, lt)) (e ∷ rest) (greedy_nearer d (e ∷ rest) g))
      (greedy_differ e rest g.2)

  -- no way of as many entries is earlier
  greedy_first : (d : ℕ) (xs : List ℕ) → Greedy d xs → (other : List ℕ) → PathBy (RowNeeds rows) d other t → length other ≡ length xs → IsEarlier (other ++ t ∷ []) (xs ++ t ∷ []) → ⊥
  greedy_first d [] g [] path long earlier = equal_is (earlier_tail t [] [] earlier)
  greedy_first d [] g (f ∷ other) path long earlier = absurd (omega arith)
  greedy_first d (e ∷ rest) g [] path long earlier = absurd (omega arith)
  greedy_first d (e ∷ rest) g (f ∷ other) path long earlier =
      let near = are.least f other path.1 in
      let back = one_nearer d f path.0 near.0 in
      let here : at f ≡ length rest + 1 = omega (arith, near.1, back, long, g.1) in
      let le : e ≤ f = g.0.least f path.0 here in
      elim (cases_order f e) [
        | inl same ↦ greedy_first e rest g.2 other (subst (λ x. PathBy (RowNeeds rows) x other t) same path.1) (omega (arith, long))
            (earlier_tail e (other ++ t ∷ []) (rest ++ t ∷ []) (subst (λ x. IsEarlier (x ∷ (other ++ t ∷ [])) (e ∷ (rest ++ t ∷ []))) same earlier))
        | inr (inl below) ↦ absurd (omega (arith, le, below))
        | inr (inr above) ↦ not_earlier f e (other ++ t ∷ []) (rest ++ t ∷ []) above earlier
      ]

  first_cycle : (xs : List ℕ) → Greedy t xs → IsFirstCycle rows t (t ∷ xs ++ t ∷ [])
  first_cycle xs g = record {
    cycle = record { between = xs; ends = refl; differ = greedy_differ t xs g; needs = greedy_path t xs g };
    shortest = λ other o.
        let near = are.least t o.between o.needs in
        let long : length other ≡ length o.between + 2 = omega (arith, ap length o.ends, length_push (t ∷ o.between) t) in
        omega (arith, near.1, long, greedy_length t xs g, length_push (t ∷ xs) t);
    earliest = λ other o same earlier.
        let long : length other ≡ length o.between + 2 = omega (arith, ap length o.ends, length_push (t ∷ o.between) t) in
        greedy_first t xs g o.between o.needs (omega (arith, long, same, length_push (t ∷ xs) t))
        (earlier_tail t (o.between ++ t ∷ []) (xs ++ t ∷ []) (subst (λ l. IsEarlier l (t ∷ xs ++ t ∷ [])) o.ends earlier));
  }

  -- ---- the walk

  pub stepping_more : (cycle : List ℕ) (here left e : ℕ) → Stepping cycle here left → 1 < left → IsNearest (get_or rows here []) distances (left - 1) e
      → Stepping (cycle ++ e ∷ []) e (left - 1)
  stepping_more cycle here left e h more near = record {
    left_is = near.at_distance;
    positive = omega (arith, more);
    so_far = λ rest g.
        let long : left - 1 ≡ length rest + 1 = sym near.at_distance ∙ greedy_length e rest g in
        let far = h.so_far (e ∷ rest) (subst (λ n. IsNearest (get_or rows here []) distances n e) long near, omega (arith, h.left_is, long, more), g) in
        (far.0, append_assoc cycle (e ∷ []) rest ∙ far.1, far.2);
  }

  finished : (cycle between : List ℕ) → cycle ++ [] ≡ t ∷ between → Greedy t between → IsFirstCycle rows t (cycle ++ t ∷ [])
  finished cycle between is g =
      let whole : t ∷ between ≡ cycle = sym is ∙ append-nil cycle in
      subst (λ l. IsFirstCycle rows t (l ++ t ∷ [])) whole (first_cycle between g)

  pub stepping_done : (cycle : List ℕ) (here left : ℕ) → Stepping cycle here left → left ≤ 1 → IsFirstCycle rows t (cycle ++ t ∷ [])
  stepping_done cycle here left h last =
      let way = are.reached here (omega (arith, h.left_is, h.positive)) in
      let one : at here ≡ 1 = omega (arith, h.left_is, h.positive, last) in
      let far = h.so_far [] (last_of here way.0 way.1 (omega (arith, way.2, one)), one) in
      finished cycle far.0 far.1 far.2

-- ---- the search for the least row on a cycle

-- of some numbers, one is behind none of them, where none is behind itself
some_first : (R : ℕ → ℕ → Type 0) → ((x y z : ℕ) → R x y → R y z → R x z) → (xs : List ℕ) → ((x y : ℕ) → Contains xs y → R x y ⊎ (R x y → ⊥)) → ((x : ℕ) → Contains xs x → R x x → ⊥)
    → 0 < length xs → (m : ℕ) × Contains xs m × ((d : ℕ) → Contains xs d → R d m → ⊥)
some_first R join [] decide never some = absurd (omega arith)
some_first R join (x ∷ []) decide never some = (
  x,
  contains_here x x [] refl,
  λ d among r. elim (contains_cases x d [] among) [
    | inl e ↦ never x (contains_here x x [] refl) (subst (λ z. R z x) (sym e) r)
    | inr none ↦ contains_none d none
  ],
)
some_first R join (x ∷ y ∷ xs) decide never some =
    let later = some_first R join (y ∷ xs) (λ a b among. decide a b (contains_there x b (y ∷ xs) among)) (λ a among. never a (contains_there x a (y ∷ xs) among)) (omega arith) in
    elim (decide x later.0 (contains_there x later.0 (y ∷ xs) later.1)) [
      | inl before ↦ (
        x,
        contains_here x x (y ∷ xs) refl,
        λ d among r. elim (contains_cases x d (y ∷ xs) among) [
          | inl e ↦ never x (contains_here x x (y ∷ xs) refl) (subst (λ z. R z x) (sym e) r)
          | inr there ↦ later.2 d there (join d x later.0 r before)
        ],
      )
      | inr not_before ↦ (
        later.0,
        contains_there x later.0 (y ∷ xs) later.1,
        λ d among r. elim (contains_cases x d (y ∷ xs) among) [
          | inl e ↦ not_before (subst (λ z. R z later.0) (sym e) r)
          | inr there ↦ later.2 d there r
        ],
      )
    ]

module _ (rows : List (List ℕ)) where
  abbrev Reaches : ℕ → ℕ → Type 0
  Reaches = AncestorBy (RowNeeds rows)

  -- the rows below i are on no cycle, and it is known what reaches them
  pub record AreSearched (i : ℕ) : Type 0 where
    pub none : (t : ℕ) → t < i → Reaches t t → ⊥
    pub decided : (t : ℕ) → t < i → (v : ℕ) → Reaches v t ⊎ (Reaches v t → ⊥)

  pub searched_more : (i : ℕ) (distances : List ℕ) → AreSearched i → AreDistances rows i distances → slice_index distances i ≤ 0 → AreSearched (i + 1)
  searched_more i distances h are zero_i = record {
    none = λ t lt way. elim (cases_lt t i) [
      | inl below ↦ h.none t below way
      | inr le ↦ let same : t ≡ i = omega (arith, lt, le) in no_way i (omega arith) (subst (λ z. Reaches z z) same way)
    ];
    decided = λ t lt v. elim (cases_lt t i) [
      | inl below ↦ h.decided t below v
      | inr le ↦ let same : t ≡ i = omega (arith, lt, le) in subst (λ z. Reaches v z ⊎ (Reaches v z → ⊥)) (sym same) (known v)
    ];
  } where
    no_way : (t : ℕ) → slice_index distances t ≤ 0 → Reaches t i → ⊥
    no_way t none way = (let near = are.least t way.0 way.1 in omega (arith, near.0, none))

    known : (v : ℕ) → Reaches v i ⊎ (Reaches v i → ⊥)
    known v = elim (cases_lt 0 (slice_index distances v)) [
      | inl above ↦ let way = are.reached v above in inl (way.0, way.1)
      | inr none ↦ inr (no_way v none)
    ]

  -- the first row that is on a cycle
  pub is_shown : (i : ℕ) (list : List ℕ) → AreSearched i → IsFirstCycle rows i list → IsShownCycleBy (RowNeeds rows) list
  is_shown i list h first = record {
    first = i;
    cycle = first.cycle;
    least = λ c way. elim (cases_lt c i) [ inl below ↦ absurd (h.none c below way) | inr le ↦ le ];
    shortest = first.shortest;
    earliest = first.earliest;
  }

  -- some row is on a cycle where some are stuck
  pub not_stuck : (i : ℕ) → AreRows rows → length rows ≤ i → AreSearched i → HasStuck rows → ⊥
  not_stuck i all whole h (numbers, stuck) =
      let below : (c : ℕ) → Contains numbers c → c < i = λ c among.
      (let by = stuck.each c among in let lt : c < length rows = needed_within rows all by.0 c by.2 in omega (arith, lt, whole))
      in
      let first = some_first Reaches (ancestor_join (RowNeeds rows)) numbers (λ x y among. h.decided y (below y among) x) (λ x among. h.none x (below x among)) stuck.some in
      let by = stuck.each first.0 first.1 in
      first.2 by.0 by.1 (ancestor_direct (RowNeeds rows) by.0 first.0 by.2)
