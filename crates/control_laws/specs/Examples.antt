-- Small programs with the goals that their calls have: rounds, branches, a clash, a reset and choices.
use Rattle.std.specs.Prelude.{◌≡◌, ◌↔◌, ℕ, List, [], ◌∷◌, ◌++◌, map, Option, Some, None}
use Rattle.cca_base.specs.declared.cube.Pair.{Pair}
use Rattle.cca_base.specs.declared.formula.Formula.{Formula, roll-Formula}
use Rattle.cca_base.specs.declared.formula.Formula.TheOpen.{Formula-F}
use Rattle.cca_base.specs.declared.formula.Subject.TheVariants.{Component}
use Rattle.cca_base.specs.PlantModel.{PlantModel}
use Rattle.cca_base.specs.State.{HasWorld}
use Rattle.control_syntax.specs.declared.part.Part.{Part, roll-Part}
use Rattle.control_syntax.specs.declared.part.Part.TheOpen.{Part-F}
use Rattle.control_syntax.specs.Reading.{seq}
use Rattle.control_laws.specs.Rest.{Rest as rest, Rests as rests, whole}
use Rattle.control_laws.specs.Turns.{Control, ControlCall, TurnWith, Reset, Controls, fresh}

-- the component with the mode
abbrev pub pair : ℕ → ℕ → Pair
pair component mode = record { item = component; value = mode }

-- a line `reach`
abbrev pub reach : List Pair → Part
reach pairs = roll-Part (Part-F.Reach pairs)

-- parts side by side
abbrev pub both : List Part → Part
both parts = roll-Part (Part-F.Both parts)

-- the first part where the formula holds, else the second
abbrev pub chosen : Formula → Part → Part → Part
chosen f a b = roll-Part (Part-F.Choose f a b)

-- two rounds of a part
abbrev pub twice : Part → Part
twice part = roll-Part (Part-F.Repeat 2 part)

-- the program and what is left of it
abbrev pub place : Part → Option rest → Control
place part left = record { program = whole part; left = left }

-- on the model the calls have these goals and leave this of the program, and nothing else
abbrev pub GoesSo : PlantModel → Part → List ControlCall → List (List Pair) → Option rest → Type 0
GoesSo m part calls goals left = (asked : List (List Pair)) (y : Control) → Controls m (fresh (whole part)) calls asked y ↔ ((asked ≡ goals) × (y ≡ place part left))

-- turns whose estimates are of one component
abbrev pub turns_of_one : List ℕ → List ControlCall
turns_of_one modes = map (λ mode. TurnWith (mode ∷ [])) modes

-- the goal of one component in the mode
abbrev pub goal : ℕ → List Pair
goal mode = pair 0 mode ∷ []

-- on and off again, two rounds
abbrev pub rounds : Part
rounds = seq (twice (seq (reach (goal 1) ∷ reach (goal 0) ∷ [])) ∷ [])

-- a round asks for its parts in turn; the turn that ends it has no goal, and the next one begins the second round; then nothing is left
abbrev pub RoundsTakeTurns : Type 0
RoundsTakeTurns = (m : PlantModel) → GoesSo m rounds (turns_of_one (0 ∷ 0 ∷ 1 ∷ 1 ∷ 0 ∷ 0 ∷ 0 ∷ 1 ∷ 1 ∷ 0 ∷ []))
    (goal 1 ∷ goal 1 ∷ goal 0 ∷ goal 0 ∷ [] ∷ goal 1 ∷ goal 1 ∷ goal 0 ∷ goal 0 ∷ [] ∷ []) None

-- a reset in the middle of the second round begins again with two rounds
abbrev pub ResetBeginsAgain : Type 0
ResetBeginsAgain = (m : PlantModel) → GoesSo m rounds (turns_of_one (0 ∷ 1 ∷ 0 ∷ 0 ∷ []) ++ Reset ∷ turns_of_one (0 ∷ 1 ∷ 0 ∷ 0 ∷ 1 ∷ 0 ∷ []))
    (goal 1 ∷ goal 0 ∷ [] ∷ goal 1 ∷ goal 1 ∷ goal 0 ∷ [] ∷ goal 1 ∷ goal 0 ∷ [] ∷ []) None

-- the estimate of two components
abbrev pub turn_of_two : ℕ → ℕ → ControlCall
turn_of_two a b = TurnWith (a ∷ b ∷ [])

-- a component on, beside another that goes on and off again
abbrev pub branches : Part
branches = both (reach (pair 0 1 ∷ []) ∷ seq (reach (pair 1 1 ∷ []) ∷ reach (pair 1 0 ∷ []) ∷ []) ∷ [])

-- a branch that has ended isn't asked for again, though the estimate leaves its mode
abbrev pub BranchesEnd : Type 0
BranchesEnd = (m : PlantModel) → GoesSo m branches
    (turn_of_two 0 0 ∷ turn_of_two 0 0 ∷ turn_of_two 1 0 ∷ turn_of_two 1 1 ∷ turn_of_two 1 1 ∷ turn_of_two 0 1 ∷ [])
    ((pair 0 1 ∷ pair 1 1 ∷ []) ∷ (pair 0 1 ∷ pair 1 1 ∷ []) ∷ (pair 1 1 ∷ []) ∷ (pair 1 0 ∷ []) ∷ (pair 1 0 ∷ []) ∷ (pair 1 0 ∷ []) ∷ [])
    (Some (rest.Both (rests.more (rest.Seq (rests.more (rest.Reach (pair 1 0 ∷ [])) rests.none)) rests.none)))

-- two branches that ask for different modes of one component
abbrev pub clash : Part
clash = both (reach (pair 0 1 ∷ []) ∷ reach (pair 0 0 ∷ pair 1 1 ∷ []) ∷ [])

-- the goal has the mode that the first of them asks for, and the other pair of the second; both are left
abbrev pub FirstBranchWins : Type 0
FirstBranchWins = (m : PlantModel) → GoesSo m clash (turn_of_two 0 0 ∷ []) ((pair 0 1 ∷ pair 1 1 ∷ []) ∷ []) (Some (whole clash))

-- two rounds of a choice between on and off
abbrev pub choices : Formula → Part
choices f = twice (chosen f (reach (goal 1)) (reach (goal 0)))

-- where the formula is true, each round takes the first part
abbrev pub TrueTakesFirst : Type 0
TrueTakesFirst = (m : PlantModel) → GoesSo m (choices (roll-Formula Formula-F.True)) (turns_of_one (0 ∷ 1 ∷ 0 ∷ 1 ∷ [])) (goal 1 ∷ [] ∷ goal 1 ∷ [] ∷ []) None

-- where it is false, each round takes the second
abbrev pub FalseTakesSecond : Type 0
FalseTakesSecond = (m : PlantModel) → HasWorld m (1 ∷ []) → GoesSo m (choices (roll-Formula Formula-F.False)) (turns_of_one (1 ∷ 0 ∷ 1 ∷ 0 ∷ []))
    (goal 0 ∷ [] ∷ goal 0 ∷ [] ∷ []) None

-- two rounds that bring the second component on if the first is off, and off if it isn't
abbrev pub follows_first : Part
follows_first = twice (chosen (roll-Formula (Formula-F.Among (Component 0) 1)) (reach (pair 1 1 ∷ [])) (reach (pair 1 0 ∷ [])))

-- what was chosen goes on though the formula changes, and the next round chooses anew
abbrev pub ChoosesOnceInARound : Type 0
ChoosesOnceInARound = (m : PlantModel) → HasWorld m (1 ∷ 1 ∷ []) → GoesSo m follows_first
    (turn_of_two 0 0 ∷ turn_of_two 1 0 ∷ turn_of_two 1 1 ∷ turn_of_two 1 1 ∷ turn_of_two 0 1 ∷ turn_of_two 0 0 ∷ [])
    ((pair 1 1 ∷ []) ∷ (pair 1 1 ∷ []) ∷ [] ∷ (pair 1 0 ∷ []) ∷ (pair 1 0 ∷ []) ∷ [] ∷ []) None

-- an empty program is left before its first turn, which has no goal, and not behind it
abbrev pub EmptyEndsInATurn : Type 0
EmptyEndsInATurn = (m : PlantModel) (e : List ℕ) → GoesSo m (seq []) [] [] (Some (rest.Seq rests.none)) × GoesSo m (seq []) (TurnWith e ∷ []) ([] ∷ []) None
