-- The parts of the space of states in which a search keeps what is left.
use Rattle.std.specs.Prelude.{◌≡◌, ◌⊎◌, ℕ, Bool, nat_eq, ◌+◌, ◌*◌, ◌<◌, ◌≤◌, List, [], ◌∷◌, ◌++◌, length, map, All, Contains, slice_index_or}
use Rattle.std.specs.List.Sorted.{IsPermutation}
use Rattle.std.specs.List.{AllZip, sum_by, slice_range}
use Rattle.std.specs.Ordering.{nat_cmp, on, flip_args, then_cmp, eq_of_both}
use Rattle.std.specs.Cmp.Lexicographic.{slice_cmp, pointwise}
use Rattle.std.specs.declared.cmp.Ordering.{Ordering}
use Rattle.cca_base.specs.declared.choice.Choice.{Choice}
use Rattle.cost_search.specs.declared.part.Part.{Part}
use Rattle.cost_search.specs.declared.part.Span.{Span}

-- the later a part's first state comes, the less it is
abbrev pub part_cmp : Part → Part → Ordering
part_cmp = then_cmp (flip_args (on (λ p. p.cost) nat_cmp)) (flip_args (on (λ p. p.modes) (slice_cmp nat_cmp)))

-- parts whose first states have the same cost and modes
abbrev pub part_eq : Part → Part → Bool
part_eq = eq_of_both (on (λ p. p.cost) nat_eq) (on (λ p. p.modes) (pointwise nat_eq))

-- what stands where there is no choice
abbrev pub nothing : Choice
nothing = record { mode = 0; cost = 0 }

-- what each component may choose from
abbrev pub box : List (List Choice) → List Span → List (List Choice)
box [] spans = []
box (row ∷ rows) [] = []
box (row ∷ rows) (span ∷ spans) = slice_range row span.from span.to ∷ box rows spans

-- the first choice
abbrev pub head_of : List Choice → Choice
head_of row = slice_index_or row 0 nothing

-- the first choice of each component
abbrev pub heads : List (List Choice) → List Choice
heads b = map head_of b

-- how many states there are
abbrev pub size : List (List Choice) → ℕ
size [] = 1
size (row ∷ b) = length row * size b

-- the choices of one component
abbrev pub row_at : List (List Choice) → ℕ → List Choice
row_at b i = slice_index_or b i []

-- some choices of the row
pub record IsSpan (row : List Choice) (span : Span) : Type 0 where
  pub some : span.from < span.to
  pub within : span.to ≤ length row

-- spans of the rows, with the modes and the cost of their first state
pub record AreSpans (rows : List (List Choice)) (cost : ℕ) (modes : List ℕ) (spans : List Span) : Type 0 where
  pub each : AllZip IsSpan rows spans
  pub starts : modes ≡ map (λ x. x.mode) (heads (box rows spans))
  pub costs : cost ≡ sum_by (λ x. x.cost) (heads (box rows spans))

-- a part of the states that choose from the rows
abbrev pub IsPart : List (List Choice) → Part → Type 0
IsPart rows p = AreSpans rows p.cost p.modes p.spans

-- the choices of the part
abbrev pub box_of : List (List Choice) → Part → List (List Choice)
box_of rows p = box rows p.spans

-- one of the parts has the state that these choices make
abbrev pub IsIn : List (List Choice) → List Part → List Choice → Type 0
IsIn rows parts picks = (p : Part) × Contains parts p × AllZip Contains (box_of rows p) picks

-- how many states the parts have
abbrev pub size_of : List (List Choice) → List Part → ℕ
size_of rows parts = sum_by (λ p. size (box_of rows p)) parts

-- the choices of these components are the first ones
abbrev pub KeepsFirst : List (List Choice) → List ℕ → List Choice → Type 0
KeepsFirst b components picks = All (λ c. slice_index_or picks c nothing ≡ slice_index_or (heads b) c nothing) components

-- what a step does to the pieces: they get the states of this box
pub record Gains (rows : List (List Choice)) (pieces more : List Part) (b : List (List Choice)) : Type 0 where
  pub each : All (IsPart rows) more
  pub old : (picks : List Choice) → IsIn rows pieces picks → IsIn rows more picks
  pub new : (picks : List Choice) → AllZip Contains b picks → IsIn rows more picks
  pub sizes : size_of rows more ≡ size_of rows pieces + size b

-- pieces and a rest in place of a whole: what is in the rest alone has the first choices of the components
pub record IsSplit (rows whole : List (List Choice)) (components : List ℕ) (pieces : List Part) (rest : List (List Choice)) : Type 0 where
  pub each : All (IsPart rows) pieces
  pub same : heads rest ≡ heads whole
  pub covers : (picks : List Choice) → AllZip Contains whole picks → IsIn rows pieces picks ⊎ (AllZip Contains rest picks × KeepsFirst whole components picks)
  pub sizes : size_of rows pieces + size rest ≡ size whole

-- pieces in place of a whole: what is in none of them has the first choices of the components
pub record AreInstead (rows whole : List (List Choice)) (components : List ℕ) (pieces : List Part) : Type 0 where
  pub each : All (IsPart rows) pieces
  pub covers : (picks : List Choice) → AllZip Contains whole picks → IsIn rows pieces picks ⊎ KeepsFirst whole components picks
  pub fewer : size_of rows pieces < size whole

-- other parts in the place of the first
pub record IsReplaced (old pieces new : List Part) : Type 0 where
  pub top : Part
  pub rest : List Part
  pub is_top : top ≡ slice_index_or old 0 top
  pub taken : IsPermutation old (top ∷ rest)
  pub joined : IsPermutation (rest ++ pieces) new
