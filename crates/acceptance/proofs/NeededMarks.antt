-- Marks of the components that a component needs.
use Rattle.std.proofs.Common.{◌≡◌, ◌<◌, ◌≤◌, ◌+◌, ◌↔◌, ℕ, Bool, true, false, List, [], ◌∷◌, ◌++◌, length, get_or, take, set, slice_get, replicate, Some, All, Contains, inl, inr, refl, sym, ap, subst, ◌∙◌, arith}
use Rattle.std.proofs.lemmas.Bool.{cases_lt}
use Rattle.std.proofs.lemmas.List.{map-append, take_more, length_push, length-replicate, get_or_push, get_or_append_left}
use Rattle.std.proofs.lemmas.List.Elements.{All-contains, Contains-append_left, Contains-push, Contains-push_cases}
use Rattle.std.proofs.lemmas.Option.{same_Some}
use Rattle.list_laws.proofs.Places.{some_at}
use Rattle.list_laws.proofs.Members.{all_from, contains_cases, contains_here, contains_there, contains_none, member_at, at_member}
use Rattle.cca_base.specs.declared.cube.Pair.{Pair}
use Rattle.cca_base.specs.declared.model.Move.{Move}
use Rattle.cca_base.specs.Accepted.{AreWays}
use Rattle.cca_base.specs.PlantModel.{PlantModel}
use Rattle.cca_base.specs.Bounds.{AreNeeds}
use Rattle.cca_base.specs.Model.{HasMode}
use Rattle.cca_base.specs.Relations.{AreExactly}
use Rattle.cca_base.proofs.Within.{mode_within}
use Rattle.causal_graph.specs.Laws.{AreNeedsOf}
use Rattle.causal_graph.specs.Search.{Marks}
use Rattle.cca_base.specs.Flags.{IsSet}
use Rattle.cca_base.proofs.FlagLaws.{set_within, none_set}
use Rattle.causal_graph.proofs.FlagLaws.{marks_new}
use Rattle.causal_graph.proofs.ReachedRows.{AreListed}
use Rattle.acceptance.specs.AllWays.{AreAllWays}
use Rattle.acceptance.specs.Marks.{components_of, OccursIn, AddsMarks, AreNeedsMarked}

-- ---- the marks of one cube

-- the next pair's component is marked
pub pair_more : (pairs : List Pair) (i : ℕ) (p : Pair) (old now : List Bool) → i < length pairs → p ≡ get_or pairs i p → p.item < length now → Marks (components_of (take i pairs)) old now
    → Marks (components_of (take (i + 1) pairs)) old (set now p.item true)
pair_more pairs i p old now within read below h =
    let longer : take (i + 1) pairs ≡ take i pairs ++ p ∷ [] = take_more pairs i p within ∙ ap (λ q. take i pairs ++ q ∷ []) (sym read) in
    let row : components_of (take (i + 1) pairs) ≡ components_of (take i pairs) ++ p.item ∷ [] = ap components_of longer ∙ map-append (λ (q : Pair). q.item) (take i pairs) (p ∷ []) in
    subst (λ r. Marks r old (set now p.item true)) (sym row) (marks_new (components_of (take i pairs)) p.item old now below h)

-- ---- the marks of some cubes

pub cube_none : (old : List Bool) → AddsMarks (OccursIn []) old old
cube_none old = record { full = refl; each = λ u. (λ is. inl is, λ h. elim h [ inl was ↦ was | inr o ↦ absurd (contains_none o.0 o.1) ]) }

cube_added : (cubes : List (List Pair)) (cube : List Pair) (old now new : List Bool) → AddsMarks (OccursIn cubes) old now → Marks (components_of cube) now new → AddsMarks (OccursIn (cubes ++ cube ∷ [])) old new
cube_added cubes cube old now new h marks = record {
  full = marks.full ∙ h.full;
  each = λ u. (
    λ is. elim (marks.origin u is) [
      | inl before ↦ elim ((h.each u).0 before) [
        | inl was ↦ inl was
        | inr o ↦ inr (o.0, Contains-append_left cubes (cube ∷ []) o.0 o.1, o.2)
      ]
      | inr there ↦ inr (cube, Contains-push cubes cube, there)
    ],
    λ k. elim k [
      | inl was ↦ marks.kept u ((h.each u).1 (inl was))
      | inr o ↦ elim (Contains-push_cases cubes cube o.0 o.1) [
        | inl before ↦ marks.kept u ((h.each u).1 (inr (o.0, before, o.2)))
        | inr e ↦ marks.marked u (subst (λ z. Contains (components_of z) u) (sym e) o.2)
      ]
    ],
  );
}

-- the components of the next cube are marked
pub cube_more : (cubes : List (List Pair)) (i : ℕ) (cube : List Pair) (old now new : List Bool) → i < length cubes → cube ≡ get_or cubes i cube → AddsMarks (OccursIn (take i cubes)) old now
    → Marks (components_of cube) now new → AddsMarks (OccursIn (take (i + 1) cubes)) old new
cube_more cubes i cube old now new within read h marks =
    let longer : take (i + 1) cubes ≡ take i cubes ++ cube ∷ [] = take_more cubes i cube within ∙ ap (λ q. take i cubes ++ q ∷ []) (sym read) in
    subst (λ l. AddsMarks (OccursIn l) old new) (sym longer) (cube_added (take i cubes) cube old now new h marks)

-- ---- the marks of a component's moves

-- a number among the pairs' components is that of a pair
pair_of : (pairs : List Pair) (u : ℕ) → Contains (components_of pairs) u → (mode : ℕ) × Contains pairs (record { item = u; value = mode })
pair_of [] u h = absurd (contains_none u h)
pair_of (p ∷ pairs) u h = elim (contains_cases p.item u (components_of pairs) h) [
  | inl e ↦ (p.value, contains_here p (record { item = u; value = p.value }) pairs (λ i. record { item = e i; value = p.value }))
  | inr there ↦ let rest = pair_of pairs u there in (rest.0, contains_there p (record { item = u; value = rest.0 }) pairs rest.1)
]

of_pair : (pairs : List Pair) (u mode : ℕ) → Contains pairs (record { item = u; value = mode }) → Contains (components_of pairs) u
of_pair [] u mode h = absurd (contains_none (record { item = u; value = mode }) h)
of_pair (p ∷ pairs) u mode h = elim (contains_cases p (record { item = u; value = mode }) pairs h) [
  | inl e ↦ contains_here p.item u (components_of pairs) (ap (λ (q : Pair). q.item) e)
  | inr there ↦ contains_there p.item u (components_of pairs) (of_pair pairs u mode there)
]

-- the pairs of prime implicants are of components that there are
pub ways_within : (m : PlantModel) (move : Move) (cubes : List (List Pair)) → AreWays m move cubes → All (λ cube. All (λ (p : Pair). p.item < length m.components) cube) cubes
ways_within m move cubes ways =
    all_from (λ cube. All (λ (p : Pair). p.item < length m.components) cube) cubes (λ cube among.
    all_from (λ (p : Pair). p.item < length m.components) cube (λ p there.
    mode_within m p.item p.value (All-contains (λ (q : Pair). HasMode m q.item q.value) cube p ((ways.each cube).0 among).modes there)))

-- u occurs in a prime implicant of a move of c that is one of the first n
pub record IsNeededBy (m : PlantModel) (ways : List (List (List Pair))) (c n u : ℕ) : Type 0 where
  pub place : ℕ
  pub early : place < n
  pub move : Move
  pub move_at : slice_get m.moves place ≡ Some move
  pub own : move.component ≡ c
  pub cubes : List (List Pair)
  pub cubes_at : slice_get ways place ≡ Some cubes
  pub occurs : OccursIn cubes u

-- a mark for each component, and exactly those of the first n moves' needs are set
pub record AreMarkedTo (m : PlantModel) (ways : List (List (List Pair))) (c n : ℕ) (marks : List Bool) : Type 0 where
  pub full : length marks ≡ length m.components
  pub each : (u : ℕ) → IsSet marks u ↔ IsNeededBy m ways c n u

module _ (m : PlantModel) (ways : List (List (List Pair))) (c : ℕ) where
  pub move_none : (n : ℕ) → n ≡ length m.components → AreMarkedTo m ways c 0 (replicate n false)
  move_none n full = record {
    full = length-replicate n false ∙ full;
    each = λ u. (λ is. absurd (none_set n u is), λ h. absurd (omega (arith, h.early)));
  }

  -- the same move is one of the first k
  within_first : (n k u : ℕ) → (h : IsNeededBy m ways c n u) → h.place < k → IsNeededBy m ways c k u
  within_first n k u h lt = record { place = h.place; early = lt; move = h.move; move_at = h.move_at; own = h.own; cubes = h.cubes; cubes_at = h.cubes_at; occurs = h.occurs }

  later : (n u : ℕ) → IsNeededBy m ways c n u → IsNeededBy m ways c (n + 1) u
  later n u h = within_first n (n + 1) u h (omega (arith, h.early))

  module _ (n : ℕ) (move : Move) (old : List Bool) (at : slice_get m.moves n ≡ Some move) (h : AreMarkedTo m ways c n old) where
    pub move_other : (move.component ≡ c → ⊥) → AreMarkedTo m ways c (n + 1) old
    move_other other = record {
      full = h.full;
      each = λ u. (
        λ is. later n u ((h.each u).0 is),
        λ k. (h.each u).1 (elim (cases_lt k.place n) [
          | inl before ↦ within_first (n + 1) n u k before
          | inr past ↦
              let same : k.place ≡ n = omega (arith, past, k.early) in
              absurd (other (ap (λ (x : Move). x.component) (same_Some move k.move (sym at ∙ ap (slice_get m.moves) (sym same) ∙ k.move_at)) ∙ k.own))
        ]),
      );
    }

    pub move_own : (cubes : List (List Pair)) (new : List Bool) → slice_get ways n ≡ Some cubes → move.component ≡ c → AddsMarks (OccursIn cubes) old new → AreMarkedTo m ways c (n + 1) new
    move_own cubes new there own adds = record {
      full = adds.full ∙ h.full;
      each = λ u. (
        λ is. elim ((adds.each u).0 is) [
          | inl was ↦ later n u ((h.each u).0 was)
          | inr o ↦ record { place = n; early = omega arith; move = move; move_at = at; own = own; cubes = cubes; cubes_at = there; occurs = o }
        ],
        λ k. (adds.each u).1 (elim (cases_lt k.place n) [
          | inl before ↦ inl ((h.each u).1 (within_first (n + 1) n u k before))
          | inr past ↦
              let same : k.place ≡ n = omega (arith, past, k.early) in
              inr (subst (λ z. OccursIn z u) (same_Some k.cubes cubes (sym k.cubes_at ∙ ap (slice_get ways) same ∙ there)) k.occurs)
        ]),
      );
    }

  -- what the moves' prime implicants say is what c needs
  pub move_all : (n : ℕ) (marks : List Bool) → AreAllWays m ways → length m.moves ≤ n → AreMarkedTo m ways c n marks → AreNeedsMarked m c marks
  move_all n marks all whole h = record {
    full = h.full;
    each = λ u. (
      λ is. (let k = (h.each u).0 is in
          let prime = ((all.each k.place k.move k.cubes k.move_at k.cubes_at).each k.occurs.0).0 k.occurs.1 in
          let p = pair_of k.occurs.0 u k.occurs.2 in
          record { move = k.move; of_model = at_member m.moves k.place k.move k.move_at; own = k.own; cube = k.occurs.0; prime = prime; mode = p.0; occurs = p.1 }),
      λ needs. (h.each u).1 (
          let place = needs.of_model.0 in
          let at = member_at m.moves needs.move needs.of_model in
          let cubes = some_at ways place (let lt : place < length m.moves = needs.of_model.1 in omega (arith, lt, all.full)) in
          record {
            place = place;
            early = let lt : place < length m.moves = needs.of_model.1 in omega (arith, lt, whole);
            move = needs.move;
            move_at = at;
            own = needs.own;
            cubes = cubes.0;
            cubes_at = cubes.1;
            occurs = (needs.cube, ((all.each place needs.move cubes.0 at cubes.1).each needs.cube).1 needs.prime, of_pair needs.cube u needs.mode needs.occurs);
          }),
    );
  }

-- ---- the rows

-- what is listed of the marks is exactly what is marked
pub listed_whole : (marks : List Bool) (list : List ℕ) (i : ℕ) → length marks ≤ i → AreListed marks list i → AreExactly (IsSet marks) list
listed_whole marks list i whole h = record {
  rising = h.rising;
  each = λ u. (h.is_set u, λ is. h.all u (let lt : u < length marks = set_within marks u is in omega (arith, lt, whole)) is);
}

-- the first n components' rows
pub record AreNeedsTo (m : PlantModel) (rows : List (List ℕ)) (n : ℕ) : Type 0 where
  pub full : length rows ≡ n
  pub each : (c : ℕ) → c < n → AreNeeds m c (get_or rows c [])

pub row_none : (m : PlantModel) → AreNeedsTo m [] 0
row_none m = record { full = refl; each = λ c lt. absurd (omega arith) }

pub row_more : (m : PlantModel) (rows : List (List ℕ)) (n : ℕ) (marks : List Bool) (row : List ℕ) → AreNeedsTo m rows n → AreNeedsMarked m n marks → AreExactly (IsSet marks) row
    → AreNeedsTo m (rows ++ row ∷ []) (n + 1)
row_more m rows n marks row h marked exact = record {
  full = length_push rows row ∙ ap (λ k. k + 1) h.full;
  each = λ c lt. elim (cases_lt c n) [
    | inl before ↦ subst (AreNeeds m c) (sym (get_or_append_left rows (row ∷ []) [] c (omega (arith, before, h.full)))) (h.each c before)
    | inr past ↦
        let same : n ≡ c = omega (arith, past, lt) in
        subst (AreNeeds m c) (sym (get_or_push rows row [] c (h.full ∙ same)))
        (subst (λ k. AreNeeds m k row) same (record {
          rising = exact.rising;
          each = λ u. (λ among. (marked.each u).0 ((exact.each u).0 among), λ needs. (exact.each u).1 ((marked.each u).1 needs));
        }))
  ];
}

pub row_all : (m : PlantModel) (rows : List (List ℕ)) (n : ℕ) → n ≡ length m.components → AreNeedsTo m rows n → AreNeedsOf m rows
row_all m rows n whole h = record { full = h.full ∙ whole; each = λ c lt. h.each c (omega (arith, lt, h.full)) }
