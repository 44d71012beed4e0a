-- A move's prime implicants: the first one inside the classes, and each of them with its pairs effects first.
use Rattle.std.proofs.Common.{◌≡◌, ◌<◌, ◌+◌, ℕ, true, List, [], ◌∷◌, ◌++◌, length, slice_get, get_or, slice_index_or, Some, take, All, Contains, refl, sym, ap, subst, ◌∙◌, length-append, inl, inr, arith}
use Rattle.std.proofs.lemmas.Bool.{cases_lt, cases_order}
use Rattle.std.proofs.lemmas.List.{get_or-take, get_or_append_left, get_or_push, length-take-le}
use Rattle.std.proofs.lemmas.List.Elements.{All-contains}
use Rattle.std.proofs.lemmas.Option.{slice_get_within, get_or_from_slice_get}
use Rattle.cca_base.specs.declared.cube.Pair.{Pair}
use Rattle.cca_base.specs.declared.model.Move.{Move}
use Rattle.cca_base.specs.Accepted.{CompiledModel, IsCompiled, AreWays}
use Rattle.cca_base.specs.Cube.{AreInCubeOrder, IsBeforeCube}
use Rattle.cca_base.specs.Orders.{IsSorted}
use Rattle.list_laws.proofs.Places.{some_at}
use Rattle.reach_laws.specs.Classes.{Test, AreInside}
use Rattle.cca_laws.proofs.OneOrder.{one_way_cubes}
use Rattle.reversibility.proofs.OpenMoves.{cubes_within}
use Rattle.policy_tables.specs.Codes.{AreSorted, way_at}
use Rattle.policy_tables.specs.Leaving.{IsFirstInside, IsWayOf}

-- of cubes in cube order the first one inside has no other one inside before it
pub first_inside : (member : Test) (cubes : List (List Pair)) → AreInCubeOrder cubes → (i : ℕ) → (h : IsFirstInside member cubes i)
    → (other : List Pair) → Contains cubes other → AreInside member other → IsBeforeCube other h.cube → ⊥
first_inside member cubes in_order i h other among inside before =
    let j : ℕ = among.0 in
    let within_i : i < length cubes = slice_get_within cubes i h.cube h.at in
    let at_i : get_or cubes i other ≡ h.cube = get_or_from_slice_get cubes i h.cube other h.at in
    elim (cases_order j i) [
      | inl e ↦
          let same : other ≡ h.cube = sym among.2 ∙ (ap (λ k. get_or cubes k other) e ∙ at_i) in
          let itself : IsBeforeCube h.cube h.cube = subst (λ z. IsBeforeCube z h.cube) same before in
          one_way_cubes h.cube h.cube itself itself
      | inr (inl lt) ↦ All-contains (λ cube. AreInside member cube → ⊥) (take i cubes) other h.first (among_first j lt among.1 among.2) inside
      | inr (inr gt) ↦
          let later : IsBeforeCube (get_or cubes i other) (get_or cubes j other) = in_order i j other gt among.1 in
          one_way_cubes other h.cube before (subst (λ z. IsBeforeCube h.cube z) among.2 (subst (λ z. IsBeforeCube z (get_or cubes j other)) at_i later))
    ]
  where
    among_first : (j : ℕ) → j < i → j < length cubes → get_or cubes j other ≡ other → Contains (take i cubes) other
    among_first j lt within at =
        let full : length (take i cubes) ≡ i = length-take-le i cubes (omega (arith, slice_get_within cubes i h.cube h.at)) in
        (j, omega (arith, full, lt), get_or-take i cubes j other lt ∙ at)

-- what is true at each of the first places, and of the item pushed behind them, is true at one place more
pub push_each : {X : Type 0} (d : X) (R : ℕ → X → Type 0) (xs : List X) (n : ℕ) (x : X) → length xs ≡ n → ((k : ℕ) → k < n → R k (get_or xs k d)) → R n x
    → (k : ℕ) → k < n + 1 → R k (get_or (xs ++ x ∷ []) k d)
push_each d R xs n x full each last k lt = elim (cases_lt k n) [
  | inl before ↦ subst (R k) (sym (get_or_append_left xs (x ∷ []) d k (subst (λ z. k < z) (sym full) before))) (each k before)
  | inr past ↦
      let here : n ≡ k = omega (arith, past, lt) in
      subst (R k) (sym (get_or_push xs x d k (full ∙ here))) (subst (λ z. R z x) here last)
]

-- the first cubes have their pairs effects first
pub record IsRowTo (order : List ℕ) (cubes row : List (List Pair)) (n : ℕ) : Type 0 where
  pub full : length row ≡ n
  pub each : (k : ℕ) → k < n → IsSorted order (slice_index_or cubes k []) (slice_index_or row k [])

-- the first rows have all cubes' pairs effects first
pub record AreRowsTo (order : List ℕ) (rows ways : List (List (List Pair))) (n : ℕ) : Type 0 where
  pub full : length ways ≡ n
  pub each : (i : ℕ) → i < n → IsRowTo order (slice_index_or rows i []) (slice_index_or ways i []) (length (slice_index_or rows i []))

-- one row more
pub rows_next : (order : List ℕ) (rows ways : List (List (List Pair))) (n : ℕ) (row : List (List Pair)) → AreRowsTo order rows ways n
    → IsRowTo order (slice_index_or rows n []) row (length (slice_index_or rows n [])) → AreRowsTo order rows (ways ++ row ∷ []) (n + 1)
rows_next order rows ways n row h is = record {
  full = length-append ways (row ∷ []) ∙ ap (λ k. k + 1) h.full;
  each = push_each [] (λ i r. IsRowTo order (slice_index_or rows i []) r (length (slice_index_or rows i []))) ways n row h.full h.each is;
}

module _ (b : CompiledModel) where
  -- the pairs of a move's prime implicants are of components
  pub ways_within : IsCompiled b → (i : ℕ) (cubes : List (List Pair)) → slice_get b.ways i ≡ Some cubes → All (λ cube. All (λ p. p.item < length b.model.components) cube) cubes
  ways_within is i cubes at =
      let there = some_at b.model.moves i (omega (arith, slice_get_within b.ways i cubes at, is.ways_full)) in
      cubes_within b is (λ _ _. true) i there.0 cubes there.1 at (length b.model.components) refl

  -- the first prime implicant inside the classes is the one that the move waits for
  pub way_is : (ways : List (List (List Pair))) → AreSorted b ways → IsCompiled b → (member : Test) (i : ℕ) (move : Move) → slice_get b.model.moves i ≡ Some move
      → (cubes : List (List Pair)) → slice_get b.ways i ≡ Some cubes → (way : ℕ) → IsFirstInside member cubes way → IsWayOf b ways member i way
  way_is ways sorted is member i move move_at cubes ways_at way found =
      let within : i < length b.ways = slice_get_within b.ways i cubes ways_at in
      let row : slice_index_or b.ways i [] ≡ cubes = get_or_from_slice_get b.ways i cubes [] ways_at in
      let below : way < length cubes = slice_get_within cubes way found.cube found.at in
      let below_row : way < length (slice_index_or b.ways i []) = omega (arith, below, ap length row) in
      let plain : way_at b.ways i way ≡ found.cube = ap (λ l. slice_index_or l way []) row ∙ get_or_from_slice_get cubes way found.cube [] found.at in
      let are : AreWays b.model move cubes = is.ways i move cubes move_at ways_at in
      record {
        move_within = omega (arith, within, sorted.full);
        within = omega (arith, below_row, sorted.rows i within);
        cube = record {
          move = move;
          move_at = move_at;
          plain = found.cube;
          prime = (are.each found.cube).0 (way, below, get_or_from_slice_get cubes way found.cube found.cube found.at);
          inside = found.inside;
          first_cube = λ other prime inside before. first_inside member cubes are.in_order way found other ((are.each other).1 prime) inside before;
          sorted = subst (λ l. IsSorted b.order l (way_at ways i way)) plain (sorted.each i way within below_row);
        };
      }
