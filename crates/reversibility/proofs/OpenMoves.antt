-- The open moves of a component, by their numbers.
use Rattle.std.proofs.Common.{◌≡◌, ◌+◌, ◌<◌, ◌≤◌, ℕ, List, length, slice_get, slice_index, get_or, Some, All, inl, inr, sym, ap, subst, ◌∙◌, arith}
use Rattle.std.proofs.lemmas.Bool.{cases_lt}
use Rattle.std.proofs.lemmas.Option.{slice_get_within, slice_get-get_or, same_Some}
use Rattle.std.proofs.lemmas.List.{get_or_default}
use Rattle.std.proofs.lemmas.List.Elements.{All-contains, Contains-get_or}
use Rattle.list_laws.proofs.Members.{all_from}
use Rattle.cca_base.specs.declared.cube.Pair.{Pair}
use Rattle.cca_base.specs.declared.limits.TheConstants.{MAX_MOVES}
use Rattle.cca_base.specs.declared.model.Move.{Move}
use Rattle.cca_base.specs.PlantModel.{PlantModel}
use Rattle.cca_base.specs.Accepted.{CompiledModel, IsCompiled, AreWays}
use Rattle.cca_base.specs.Implicants.{PrimeImplicant}
use Rattle.cca_base.specs.MoveIndex.{IsMoveOf}
use Rattle.cca_base.specs.Relations.{AreExactly}
use Rattle.cca_base.specs.Model.{WellFormed, IsMove, HasMode, mode_counts}
use Rattle.cca_base.proofs.Within.{mode_within}
use Rattle.cca_laws.proofs.CausesFirstOrders.{rising_few}
use Rattle.reach_laws.specs.Classes.{Test, IsOpen, OpenMove}
use Rattle.reach_laws.proofs.Needed.{move_in}
use Rattle.reversibility.specs.Levels.{SomeInside, IsOpenNumber, AreOpenMoves, AreMovesWithin, MoveLeads}
use Rattle.reversibility.proofs.Exactly.{exactly_here, exactly_place}

pub row_at : (rows : List ℕ) (i x : ℕ) → i < length rows → x ≡ get_or rows i x → slice_index rows i ≡ x
row_at rows i x within is = get_or_default rows i 0 x within ∙ sym is

module _ (b : CompiledModel) (is : IsCompiled b) (member : Test) (i : ℕ) (move : Move) (cubes : List (List Pair)) (move_at : slice_get b.model.moves i ≡ Some move) (ways_at : slice_get b.ways i ≡ Some cubes) where
  ways : AreWays b.model move cubes
  ways = is.ways i move cubes move_at ways_at

  pub open_from : SomeInside member cubes → IsOpen b.model member move
  open_from h = record { cube = h.cube; prime = (ways.each h.cube).0 h.one; inside = h.inside }

  pub open_to : IsOpen b.model member move → SomeInside member cubes
  open_to o = record { cube = o.cube; one = (ways.each o.cube).1 o.prime; inside = o.inside }

  pub cubes_within : (n : ℕ) → n ≡ length b.model.components → All (λ cube. All (λ p. p.item < n) cube) cubes
  cubes_within n full = all_from (λ cube. All (λ p. p.item < n) cube) cubes (λ cube among.
      let prime : PrimeImplicant b.model move cube = (ways.each cube).0 among in
      all_from (λ p. p.item < n) cube (λ p inside.
      let has_mode : HasMode b.model p.item p.value = All-contains (λ q. HasMode b.model q.item q.value) cube p prime.modes inside in
      subst (λ k. p.item < k) (sym full) (mode_within b.model p.item p.value has_mode)))

-- the numbers at the places of a row of the component's moves
module _ (m : PlantModel) (c : ℕ) (row : List ℕ) (h : AreExactly (IsMoveOf m.moves c) row) (place : ℕ) (within : place < length row) where
  named : IsMoveOf m.moves c (slice_index row place)
  named = (h.each (slice_index row place)).0 (Contains-get_or row place 0 within)

  pub number_in : slice_index row place < length m.moves
  number_in = slice_get_within m.moves (slice_index row place) named.0 named.1

  pub move_at : (move : Move) × (slice_get m.moves (slice_index row place) ≡ Some move)
  move_at = (named.0, named.1)

  pub move_of : (move : Move) → slice_get m.moves (slice_index row place) ≡ Some move → move.component ≡ c
  move_of move at = ap (λ (z : Move). z.component) (same_Some move named.0 (sym at ∙ named.1)) ∙ named.2

-- a component has no more moves than there may be
pub row_few : (m : PlantModel) (w : WellFormed m) (c : ℕ) (row : List ℕ) → AreExactly (IsMoveOf m.moves c) row → length row ≤ MAX_MOVES
row_few m w c row h =
    let below : All (λ i. i < length m.moves) row = all_from (λ i. i < length m.moves) row (λ i among. let is = (h.each i).0 among in slice_get_within m.moves i is.0 is.1) in
    omega (arith, rising_few (length m.moves) row h.rising below, w.limits.moves)

-- what is true of the moves at the first places, and of the one at the next, is true of those at one place more
pub one_more : (moves : List Move) (P : Move → Type 0) (row : List ℕ) (k : ℕ) (m : Move) → slice_get moves (slice_index row k) ≡ Some m → P m
    → ((n : ℕ) (move : Move) → n < k → slice_get moves (slice_index row n) ≡ Some move → P move)
    → (n : ℕ) (move : Move) → n < k + 1 → slice_get moves (slice_index row n) ≡ Some move → P move
one_more moves P row k m here is before n move less at = elim (cases_lt n k) [
  | inl earlier ↦ before n move earlier at
  | inr last ↦
      let same : n ≡ k = omega (arith, less, last) in
      subst P (same_Some m move (sym here ∙ ap (λ z. slice_get moves (slice_index row z)) (sym same) ∙ at)) is
]

-- a move of the component stands at a place of the row
pub place_of : (m : PlantModel) (c : ℕ) (row : List ℕ) → AreExactly (IsMoveOf m.moves c) row → (i : ℕ) (move : Move) → slice_get m.moves i ≡ Some move → move.component ≡ c → (place : ℕ) × (place < length row) × (slice_index row place ≡ i)
place_of m c row h i move at own = exactly_place (IsMoveOf m.moves c) row h i (move, at, own)

module _ (m : PlantModel) (w : WellFormed m) (member : Test) (c : ℕ) where
  -- the number names the move, and that is of the component and open
  pub number_yes : (i : ℕ) (move : Move) → slice_get m.moves i ≡ Some move → move.component ≡ c → IsOpen m member move → IsOpenNumber m member c i
  number_yes i move at own open_move = record { move = move; move_at = at; own = own; open_move = open_move }

  pub number_no : (i : ℕ) (move : Move) → slice_get m.moves i ≡ Some move → (move.component ≡ c → IsOpen m member move → ⊥) → IsOpenNumber m member c i → ⊥
  number_no i move at none is =
      let same : is.move ≡ move = same_Some is.move move (sym is.move_at ∙ at) in
      none (subst (λ (z : Move). z.component ≡ c) same is.own) (subst (IsOpen m member) same is.open_move)

  module _ (numbers : List ℕ) (are : AreOpenMoves m member c numbers) where
    -- each names a move between modes of the component
    pub within_modes : AreMovesWithin m (slice_index (mode_counts m) c) numbers
    within_modes place lt =
        let is : IsOpenNumber m member c (slice_index numbers place) = exactly_here (IsOpenNumber m member c) numbers are place lt in
        let fits : IsMove m is.move = All-contains (IsMove m) m.moves is.move w.moves (move_in m (slice_index numbers place) is.move is.move_at) in
        (is.move, is.move_at, subst (λ d. HasMode m d is.move.source) is.own fits.source, subst (λ d. HasMode m d is.move.target) is.own fits.target)

    -- they lead where the open moves lead
    pub leads_open : (a x : ℕ) → MoveLeads m numbers (length numbers) a x → OpenMove m member c a x
    leads_open a x h =
        let is : IsOpenNumber m member c (slice_index numbers h.place) = exactly_here (IsOpenNumber m member c) numbers are h.place h.below in
        let same : is.move ≡ h.move = same_Some is.move h.move (sym is.move_at ∙ h.move_at) in
        record {
          move = h.move;
          of_model = move_in m (slice_index numbers h.place) h.move h.move_at;
          own = subst (λ (z : Move). z.component ≡ c) same is.own;
          source = h.source;
          target = h.target;
          open_move = subst (IsOpen m member) same is.open_move;
        }

    pub open_leads : (a x : ℕ) → OpenMove m member c a x → MoveLeads m numbers (length numbers) a x
    open_leads a x o =
        let at : slice_get m.moves o.of_model.0 ≡ Some o.move = slice_get-get_or m.moves o.of_model.0 o.move o.of_model.1 ∙ ap (λ z. Some z) o.of_model.2 in
        let there = exactly_place (IsOpenNumber m member c) numbers are o.of_model.0 (number_yes o.of_model.0 o.move at o.own o.open_move) in
        record {
          place = there.0;
          below = there.1;
          move = o.move;
          move_at = subst (λ i. slice_get m.moves i ≡ Some o.move) (sym there.2) at;
          source = o.source;
          target = o.target;
        }
