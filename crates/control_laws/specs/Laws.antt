-- What holds of all programs.
use Rattle.std.specs.Prelude.{◌≡◌, ◌↔◌, ◌<◌, ◌≤◌, ◌+◌, ℕ, List, [], ◌∷◌, ◌++◌, Option, Some, None, Contains, ◌⊎◌}
use Rattle.cca_base.specs.declared.cube.Pair.{Pair}
use Rattle.cca_base.specs.declared.formula.Formula.{Formula}
use Rattle.cca_base.specs.Cube.{Lacks, IsCube}
use Rattle.cca_base.specs.PlantModel.{PlantModel}
use Rattle.cca_base.specs.State.{Extends, Holds}
use Rattle.control_syntax.specs.Program.{pairs_of}
use Rattle.control_syntax.specs.declared.part.Part.{Part}
use Rattle.control_laws.specs.Rest.{Rest as rest, Rests as rests, Turn, whole}
use Rattle.control_laws.specs.Turns.{Control, ControlCall, TurnWith, Reset, Controls, TurnsBy, TurnsTo, firsts, fresh}
use Rattle.control_laws.specs.Asked.{pairs_left}

-- a turn asks one list of pairs and leaves one rest
abbrev pub OneOutcome : Type 0
OneOutcome = (m : PlantModel) (e : List ℕ) (x : rest) (a b : List Pair) (y z : Option rest) → Turn m e x a y → Turn m e x b z → (a ≡ b) × (y ≡ z)

-- a rest has a turn with each estimate in which each formula holds or doesn't
abbrev pub HasTurn : Type 0
HasTurn = (m : PlantModel) (e : List ℕ) → ((f : Formula) → Holds m e f ⊎ (Holds m e f → ⊥)) → (x : rest) → (asked : List Pair) × (next : Option rest) × Turn m e x asked next

-- calls have one list of goals, and lead to one place
abbrev pub OneControl : Type 0
OneControl = (m : PlantModel) (x y z : Control) (calls : List ControlCall) (a b : List (List Pair)) → Controls m x calls a y → Controls m x calls b z → (a ≡ b) × (y ≡ z)

-- one call for a turn is that turn, and one for a reset begins the program again and has no goal
abbrev pub OneCall : Type 0
OneCall = (m : PlantModel) (x y : Control) (e : List ℕ) (goals : List (List Pair))
    → (Controls m x (TurnWith e ∷ []) goals y ↔ ((goal : List Pair) × (goals ≡ goal ∷ []) × TurnsBy m e x goal y))
    × (Controls m x (Reset ∷ []) goals y ↔ ((goals ≡ []) × (y ≡ fresh x.program)))

-- all calls have goals, if each formula holds or doesn't in each estimate
abbrev pub HasGoals : Type 0
HasGoals = (m : PlantModel) → ((e : List ℕ) (f : Formula) → Holds m e f ⊎ (Holds m e f → ⊥)) → (x : Control) (calls : List ControlCall)
    → (goals : List (List Pair)) × (y : Control) × Controls m x calls goals y

-- calls and later calls are one list of calls, with the goals of both
abbrev pub ControlsOn : Type 0
ControlsOn = (m : PlantModel) (x y z : Control) (calls more : List ControlCall) (goals others : List (List Pair))
    → Controls m x calls goals y → Controls m y more others z → Controls m x (calls ++ more) (goals ++ others) z

-- no call changes the program
abbrev pub ProgramStays : Type 0
ProgramStays = (m : PlantModel) (x y : Control) (calls : List ControlCall) (goals : List (List Pair)) → Controls m x calls goals y → y.program ≡ x.program

-- what ends in a turn asks for nothing in it
abbrev pub EndsSilently : Type 0
EndsSilently = (m : PlantModel) (e : List ℕ) (x : rest) (asked : List Pair) → Turn m e x asked None → asked ≡ []

-- a `reach` asks for its pairs and stays, until the estimate holds them; then it asks for nothing and ends
abbrev pub ReachesAll : Type 0
ReachesAll = (m : PlantModel) (e : List ℕ) (pairs asked : List Pair) (next : Option rest) → Turn m e (rest.Reach pairs) asked next
    → ((next ≡ None) ↔ Extends e pairs) × (Extends e pairs → asked ≡ []) × ((Extends e pairs → ⊥) → (asked ≡ pairs) × (next ≡ Some (rest.Reach pairs)))

-- an `await` asks for nothing, and ends exactly where its formula holds in the estimate
abbrev pub Awaits : Type 0
Awaits = (m : PlantModel) (e : List ℕ) (f : Formula) (asked : List Pair) (next : Option rest) → Turn m e (rest.Await f) asked next
    → (asked ≡ []) × ((next ≡ None) ↔ Holds m e f) × ((Holds m e f → ⊥) → next ≡ Some (rest.Await f))

-- while the first part of a `seq` is left, the others wait, and it alone asks
abbrev pub OneByOne : Type 0
OneByOne = (m : PlantModel) (e : List ℕ) (x y : rest) (xs : rests) (own asked : List Pair) (next : Option rest)
    → Turn m e x own (Some y) → Turn m e (rest.Seq (rests.more x xs)) asked next → (asked ≡ own) × (next ≡ Some (rest.Seq (rests.more y xs)))

-- a first part of a `seq` that ends makes room for the others in the same turn
abbrev pub GoesOnAtOnce : Type 0
GoesOnAtOnce = (m : PlantModel) (e : List ℕ) (x : rest) (xs : rests) (own asked : List Pair) (next : Option rest)
    → Turn m e x own None → Turn m e (rest.Seq (rests.more x xs)) asked next → Turn m e (rest.Seq xs) asked next

-- each branch of `both` has its turn, and asks for the same whatever the others do: what they ask stands one behind the other, and what is left of each stays in its place
abbrev pub SideBySide : Type 0
SideBySide = (m : PlantModel) (e : List ℕ) (x : rest) (xs : rests) (own others asked : List Pair) (y after next : Option rest)
    → Turn m e x own y → Turn m e (rest.Both xs) others after → Turn m e (rest.Both (rests.more x xs)) asked next
    → (asked ≡ own ++ others) × (y ≡ None → next ≡ after)
    × ((z : rest) → y ≡ Some z → after ≡ None → next ≡ Some (rest.Both (rests.more z rests.none)))
    × ((z : rest) (zs : rests) → y ≡ Some z → after ≡ Some (rest.Both zs) → next ≡ Some (rest.Both (rests.more z zs)))

-- where the formula holds, a `choose` turns as its first part, else as its second
abbrev pub ChoosesByFormula : Type 0
ChoosesByFormula = (m : PlantModel) (e : List ℕ) (f : Formula) (a b : rest) (asked : List Pair) (next : Option rest) → Turn m e (rest.Choose f a b) asked next
    → (Holds m e f → Turn m e a asked next) × ((Holds m e f → ⊥) → Turn m e b asked next)

-- a round of `repeat` that ends leaves one round less, from its beginning, whatever was left of the round; the next round asks in the next turn
abbrev pub NextRound : Type 0
NextRound = (m : PlantModel) (e : List ℕ) (n : ℕ) (body x : rest) (own asked : List Pair) (next : Option rest)
    → Turn m e x own None → Turn m e (rest.Repeat n body x) asked next
    → (asked ≡ own) × (n ≤ 1 → next ≡ None) × ((k : ℕ) → n ≡ k + 1 → 0 < k → next ≡ Some (rest.Repeat k body body))

-- a round that doesn't end goes on in the next turn
abbrev pub SameRound : Type 0
SameRound = (m : PlantModel) (e : List ℕ) (n : ℕ) (body x y : rest) (own asked : List Pair) (next : Option rest)
    → Turn m e x own (Some y) → Turn m e (rest.Repeat n body x) asked next → (asked ≡ own) × (next ≡ Some (rest.Repeat n body y))

-- a turn ends a `seq` or `both` without parts
abbrev pub EmptyEnds : Type 0
EmptyEnds = (m : PlantModel) (e : List ℕ) (asked : List Pair) (next : Option rest)
    → (Turn m e (rest.Seq rests.none) asked next → next ≡ None) × (Turn m e (rest.Both rests.none) asked next → next ≡ None)

-- a goal has the first pair that is asked of each component, and no other pair
abbrev pub FirstOfEach : Type 0
FirstOfEach = (asked : List Pair) (p : Pair)
    → Contains (firsts asked) p ↔ ((before after : List Pair) × (asked ≡ before ++ p ∷ after) × Lacks p.item before)

-- the pairs of a goal stand in the order in which they are asked: what is asked behind others adds at their end
abbrev pub InOrderAsked : Type 0
InOrderAsked = (before behind : List Pair) → (more : List Pair) × (firsts (before ++ behind) ≡ firsts before ++ more)

-- a turn's goal has the first pair of each component that what is left asks for in it, and no other pair
abbrev pub GoalOfTurn : Type 0
GoalOfTurn = (m : PlantModel) (e : List ℕ) (x y : Control) (goal asked : List Pair) (next : Option rest) → TurnsBy m e x goal y → TurnsTo m e x.left asked next
    → IsCube goal × ((p : Pair) → Contains goal p ↔ ((before after : List Pair) × (asked ≡ before ++ p ∷ after) × Lacks p.item before))

-- a goal names each component once
abbrev pub GoalsAreCubes : Type 0
GoalsAreCubes = (asked : List Pair) → IsCube (firsts asked)

-- at the start exactly the pairs of the program's `reach` lines may be asked for
abbrev pub LeftAtFirst : Type 0
LeftAtFirst = (part : Part) (p : Pair) → Contains (pairs_left (whole part)) p ↔ Contains (pairs_of part) p

-- each pair of a goal is one that the program asks for
abbrev pub AsksOfProgram : Type 0
AsksOfProgram = (m : PlantModel) (part : Part) (calls : List ControlCall) (goals : List (List Pair)) (y : Control) → Controls m (fresh (whole part)) calls goals y
    → (goal : List Pair) (p : Pair) → Contains goals goal → Contains goal p → Contains (pairs_of part) p

-- where nothing is left, nothing is asked for any more
abbrev pub NothingLeft : Type 0
NothingLeft = (m : PlantModel) (e : List ℕ) (asked : List Pair) (next : Option rest) → TurnsTo m e None asked next → (asked ≡ []) × (next ≡ None)
