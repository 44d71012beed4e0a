-- A program with marks: what the code keeps of its rest.
use Rattle.std.specs.Prelude.{◌≡◌, ◌≤◌, ℕ, Bool, true, false, List, Option, Some, None}
use Rattle.cca_base.specs.declared.cube.Pair.{Pair}
use Rattle.cca_base.specs.declared.formula.Formula.{Formula}
use Rattle.control_laws.specs.Rest.{Rest as rest, Rests as rests, joined}

-- of a `choose`: which part was chosen
pub data Choice : Type 0 where
  open_yet : Choice
  first : Choice
  second : Choice

mutual
  -- a node with its mark: whether it has ended, what was chosen, or how many rounds are left; of parts first whether they come one after the other
  pub data Tree : Type 0 where
    Reach : Bool → List Pair → Tree
    Await : Bool → Formula → Tree
    Parts : Bool → Bool → Trees → Tree
    Choose : Choice → Formula → Tree → Tree → Tree
    Repeat : ℕ → ℕ → Tree → Tree

  pub data Trees : Type 0 where
    none : Trees
    more : Tree → Trees → Trees

-- a `seq` of what is left of parts, or a `both`
abbrev pub several : Bool → rests → rest
several true xs = rest.Seq xs
several false xs = rest.Both xs

unfoldable mutual
  -- the rest at the start, whatever the marks are
  pub begun : Tree → rest
  begun (Reach b g) = rest.Reach g
  begun (Await b f) = rest.Await f
  begun (Parts o b xs) = several o (all_begun xs)
  begun (Choose c f x y) = rest.Choose f (begun x) (begun y)
  begun (Repeat n k x) = rest.Repeat n (begun x) (begun x)

  pub all_begun : Trees → rests
  all_begun none = rests.none
  all_begun (more x xs) = rests.more (begun x) (all_begun xs)

unfoldable mutual
  -- all marks as at the start
  pub cleared : Tree → Tree
  cleared (Reach b g) = Reach false g
  cleared (Await b f) = Await false f
  cleared (Parts o b xs) = Parts o false (all_cleared xs)
  cleared (Choose c f x y) = Choose open_yet f (cleared x) (cleared y)
  cleared (Repeat n k x) = Repeat n n (cleared x)

  pub all_cleared : Trees → Trees
  all_cleared none = none
  all_cleared (more x xs) = more (cleared x) (all_cleared xs)

-- nothing, if it has ended
abbrev pub unless : Bool → rest → Option rest
unless true r = None
unless false r = Some r

-- of a `choose`
abbrev pub chosen : Choice → rest → Option rest → Option rest → Option rest
chosen open_yet r x y = Some r
chosen first r x y = x
chosen second r x y = y

-- of a `repeat`
abbrev pub again : ℕ → rest → Option rest → Option rest
again k body None = None
again k body (Some r) = Some (rest.Repeat k body r)

unfoldable mutual
  -- the rest that the marks stand for
  pub rest_of : Tree → Option rest
  rest_of (Reach b g) = unless b (rest.Reach g)
  rest_of (Await b f) = unless b (rest.Await f)
  rest_of (Parts o b xs) = unless b (several o (rests_of xs))
  rest_of (Choose c f x y) = chosen c (rest.Choose f (begun x) (begun y)) (rest_of x) (rest_of y)
  rest_of (Repeat n k x) = again k (begun x) (rest_of x)

  pub rests_of : Trees → rests
  rests_of none = rests.none
  rests_of (more x xs) = joined (rest_of x) (rests_of xs)

-- before the choice both parts are as at the start
abbrev pub IsUnchosen : Choice → Option rest → rest → Option rest → rest → Type 0
IsUnchosen open_yet x v y w = (x ≡ Some v) × (y ≡ Some w)
IsUnchosen first x v y w = Unit {0}
IsUnchosen second x v y w = Unit {0}

-- whether nothing is left
abbrev pub is_nothing : Option rest → Bool
is_nothing None = true
is_nothing (Some r) = false

abbrev pub is_none : rests → Bool
is_none rests.none = true
is_none (rests.more x xs) = false

abbrev pub has_ended : Tree → Bool
has_ended x = is_nothing (rest_of x)

unfoldable mutual
  -- of a `choose` that has not chosen, both parts are as at the start; a `repeat` whose body has ended has no further round
  pub IsProper : Tree → Type 0
  IsProper (Reach b g) = Unit {0}
  IsProper (Await b f) = Unit {0}
  IsProper (Parts o b xs) = AreProper xs
  IsProper (Choose c f x y) = IsUnchosen c (rest_of x) (begun x) (rest_of y) (begun y) × IsProper x × IsProper y
  IsProper (Repeat n k x) = (has_ended x ≡ true → k ≤ 1) × IsProper x

  pub AreProper : Trees → Type 0
  AreProper none = Unit {0}
  AreProper (more x xs) = IsProper x × AreProper xs
