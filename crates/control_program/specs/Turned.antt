-- What a turn makes of marks.
use Rattle.std.specs.Prelude.{◌≡◌, ◌↔◌, ℕ, Bool, true, false, IsTrue, List, ◌++◌}
use Rattle.cca_base.specs.declared.cube.Pair.{Pair}
use Rattle.cca_base.specs.declared.formula.Formula.{Formula}
use Rattle.cca_base.specs.PlantModel.{PlantModel}
use Rattle.cca_base.specs.State.{Extends, Holds}
use Rattle.control_laws.specs.Rest.{Rests as rests, TurnSeq, TurnBoth}
use Rattle.control_laws.specs.Turns.{TurnsTo}
use Rattle.control_program.specs.Flat.{Entry, count, size, all_size, laid, all_laid}
use Rattle.control_program.specs.Goals.{with_pairs}
use Rattle.control_program.specs.Marks.{Choice, open_yet, first, second, Tree, Trees, begun, all_begun, rest_of, rests_of, has_ended, is_none, IsProper, AreProper}

-- the marks of one part before and after a turn that asks for the pairs
pub record Became (m : PlantModel) (e : List ℕ) (x : Tree) (own : List Pair) (y : Tree) : Type 0 where
  pub turn : TurnsTo m e (rest_of x) own (rest_of y)
  pub same : begun y ≡ begun x
  pub size : size y ≡ size x
  pub proper : IsProper y

-- parts have their turns one after the other, or side by side
abbrev pub TurnAll : Bool → PlantModel → List ℕ → rests → List Pair → rests → Type 0
TurnAll true m e xs own ys = TurnSeq m e xs own ys
TurnAll false m e xs own ys = TurnBoth m e xs own ys

-- the marks of parts before and after
pub record AllBecame (in_order : Bool) (m : PlantModel) (e : List ℕ) (xs : Trees) (own : List Pair) (ys : Trees) : Type 0 where
  pub turn : TurnAll in_order m e (rests_of xs) own (rests_of ys)
  pub same : all_begun ys ≡ all_begun xs
  pub size : all_size ys ≡ all_size xs
  pub number : count ys ≡ count xs
  pub proper : AreProper ys

-- which part a choice takes: the one that it took, or the one that the formula says
abbrev pub Chooses : PlantModel → List ℕ → Choice → Formula → Bool → Type 0
Chooses m e open_yet f takes_first = IsTrue takes_first ↔ Holds m e f
Chooses m e first f takes_first = takes_first ≡ true
Chooses m e second f takes_first = takes_first ≡ false

-- a `reach` asks for its pairs unless they stand
abbrev pub Reaches : List ℕ → List Pair → List Pair → Bool → List Pair → Type 0
Reaches e g goal true all = Extends e g × (all ≡ goal)
Reaches e g goal false all = (Extends e g → ⊥) × (all ≡ with_pairs goal g)

-- a part of the list had its turn: what it asks is put to the goal
pub record HasTurned (m : PlantModel) (e : List ℕ) (before : List Entry) (x : Tree) (after : List Entry) (goal : List Pair) (ended : Bool) (entries : List Entry) (all : List Pair) : Type 0 where
  pub own : List Pair
  pub next : Tree
  pub became : Became m e x own next
  pub nodes : entries ≡ before ++ laid next after
  pub asks : all ≡ with_pairs goal own
  pub left : ended ≡ has_ended next

-- parts of the list had their turns
pub record HaveTurned (in_order : Bool) (m : PlantModel) (e : List ℕ) (before : List Entry) (xs : Trees) (after : List Entry) (goal : List Pair) (ended : Bool) (entries : List Entry) (all : List Pair) : Type 0 where
  pub own : List Pair
  pub next : Trees
  pub became : AllBecame in_order m e xs own next
  pub nodes : entries ≡ before ++ all_laid next after
  pub asks : all ≡ with_pairs goal own
  pub left : ended ≡ is_none (rests_of next)
