-- What is left of a control program, and its turns.
use Rattle.std.specs.Prelude.{◌≡◌, ℕ, zero, suc, List, [], ◌∷◌, ◌++◌, Option, Some, None, ◌⊎◌}
use Rattle.cca_base.specs.declared.cube.Pair.{Pair}
use Rattle.cca_base.specs.declared.formula.Formula.{Formula}
use Rattle.cca_base.specs.PlantModel.{PlantModel}
use Rattle.cca_base.specs.State.{Extends, Holds}
use Rattle.control_syntax.specs.declared.part.Part.{Part}
use Rattle.control_syntax.specs.declared.part.Part.TheOpen.{Part-F}
use Rattle.control_syntax.specs.declared.part.Part.TheFolds.{fold-Part}

mutual
  -- what is left: a `Repeat` keeps its count, its body and the body's rest
  pub data Rest : Type 0 where
    Reach : List Pair → Rest
    Await : Formula → Rest
    Seq : Rests → Rest
    Both : Rests → Rest
    Choose : Formula → Rest → Rest → Rest
    Repeat : ℕ → Rest → Rest → Rest

  -- what is left of several parts
  pub data Rests : Type 0 where
    none : Rests
    more : Rest → Rests → Rests

-- a list of rests as one value
abbrev pub rests : List Rest → Rests
rests [] = none
rests (x ∷ xs) = more x (rests xs)

-- one layer of a program, with the rest of each part in its place: no `Repeat` has begun, so its body's rest is the body
abbrev pub rest_step : Part-F Rest → Rest
rest_step (Part-F.Reach pairs) = Reach pairs
rest_step (Part-F.Await f) = Await f
rest_step (Part-F.Seq parts) = Seq (rests parts)
rest_step (Part-F.Both parts) = Both (rests parts)
rest_step (Part-F.Choose f a b) = Choose f a b
rest_step (Part-F.Repeat n a) = Repeat n a a

-- what is left of a part at its start
abbrev pub whole : Part → Rest
whole = fold-Part Rest rest_step

-- a rest before others, left out if it is nothing
abbrev pub joined : Option Rest → Rests → Rests
joined None xs = xs
joined (Some x) xs = more x xs

-- what is left of several parts as one, and nothing where no part is left
abbrev pub left_of : (Rests → Rest) → Rests → Option Rest
left_of wrap none = None
left_of wrap (more x xs) = Some (wrap (more x xs))

-- behind a turn of its body, a `Repeat` that had the count: a new round begins in the next turn
abbrev pub round : ℕ → Rest → Option Rest → Option Rest
round n body (Some x) = Some (Repeat n body x)
round zero body None = None
round (suc zero) body None = None
round (suc (suc n)) body None = Some (Repeat (suc n) body body)

module _ (m : PlantModel) (e : List ℕ) where
  unfoldable mutual
    -- one turn: the rest before, what it asks, and the rest after, where None is nothing
    pub Turn : Rest → List Pair → Option Rest → Type 0
    Turn (Reach g) asked next = (Extends e g × (asked ≡ []) × (next ≡ None)) ⊎ ((Extends e g → ⊥) × (asked ≡ g) × (next ≡ Some (Reach g)))
    Turn (Await f) asked next = (Holds m e f × (asked ≡ []) × (next ≡ None)) ⊎ ((Holds m e f → ⊥) × (asked ≡ []) × (next ≡ Some (Await f)))
    Turn (Seq xs) asked next = (ys : Rests) × TurnSeq xs asked ys × (next ≡ left_of Seq ys)
    Turn (Both xs) asked next = (ys : Rests) × TurnBoth xs asked ys × (next ≡ left_of Both ys)
    Turn (Choose f a b) asked next = (Holds m e f × Turn a asked next) ⊎ ((Holds m e f → ⊥) × Turn b asked next)
    Turn (Repeat n body x) asked next = (y : Option Rest) × Turn x asked y × (next ≡ round n body y)

    -- parts one after the other: behind one of which nothing is left the next has its turn, too
    pub TurnSeq : Rests → List Pair → Rests → Type 0
    TurnSeq none asked next = (asked ≡ []) × (next ≡ none)
    TurnSeq (more x xs) asked next =
        ((first others : List Pair) × Turn x first None × TurnSeq xs others next × (asked ≡ first ++ others))
        ⊎ ((y : Rest) × Turn x asked (Some y) × (next ≡ more y xs))

    -- parts side by side: each has its turn, and those are dropped of which nothing is left
    pub TurnBoth : Rests → List Pair → Rests → Type 0
    TurnBoth none asked next = (asked ≡ []) × (next ≡ none)
    TurnBoth (more x xs) asked next =
        (first others : List Pair) × (y : Option Rest) × (ys : Rests) × Turn x first y × TurnBoth xs others ys
        × (asked ≡ first ++ others) × (next ≡ joined y ys)
