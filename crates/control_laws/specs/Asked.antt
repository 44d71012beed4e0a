-- What is left of a program asks for pairs of the program, and waits on formulas of it.
use Rattle.std.specs.Prelude.{List, [], ◌++◌, Option, Some, None}
use Rattle.cca_base.specs.declared.cube.Pair.{Pair}
use Rattle.control_laws.specs.Rest.{Rest as rest, Rests as rests}

unfoldable mutual
  -- the pairs that may be asked for yet
  pub pairs_left : rest → List Pair
  pairs_left (rest.Reach g) = g
  pairs_left (rest.Await f) = []
  pairs_left (rest.Seq xs) = all_pairs_left xs
  pairs_left (rest.Both xs) = all_pairs_left xs
  pairs_left (rest.Choose f a b) = pairs_left a ++ pairs_left b
  pairs_left (rest.Repeat n body x) = pairs_left body ++ pairs_left x

  pub all_pairs_left : rests → List Pair
  all_pairs_left rests.none = []
  all_pairs_left (rests.more x xs) = pairs_left x ++ all_pairs_left xs

-- the pairs that may be asked for yet, where nothing may be left
abbrev pub pairs_of_left : Option rest → List Pair
pairs_of_left None = []
pairs_of_left (Some x) = pairs_left x
