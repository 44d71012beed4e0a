-- Goals of turns, and turns and resets one after the other.
use Rattle.std.specs.Prelude.{◌≡◌, ◌==◌, ℕ, not, List, [], ◌∷◌, filter, Option, Some, None}
use Rattle.cca_base.specs.declared.cube.Pair.{Pair}
use Rattle.cca_base.specs.PlantModel.{PlantModel}
use Rattle.control_laws.specs.Rest.{Rest, Turn}

-- of the asked pairs, the first of each component
abbrev pub firsts : List Pair → List Pair
firsts [] = []
firsts (p ∷ asked) = p ∷ filter (λ q. not (q.item == p.item)) (firsts asked)

-- a turn of what is left: where that is nothing, nothing is asked, and nothing is left
abbrev pub TurnsTo : PlantModel → List ℕ → Option Rest → List Pair → Option Rest → Type 0
TurnsTo m e None asked next = (asked ≡ []) × (next ≡ None)
TurnsTo m e (Some x) asked next = Turn m e x asked next

-- a program, and what is left of it
pub record Control : Type 0 where
  pub program : Rest
  pub left : Option Rest

-- at the start all of it is left
abbrev pub fresh : Rest → Control
fresh program = record { program = program; left = Some program }

-- a turn with the estimate, from x to y: its goal has the first pair of each component that is asked for
pub record TurnsBy (m : PlantModel) (e : List ℕ) (x : Control) (goal : List Pair) (y : Control) : Type 0 where
  pub asked : List Pair
  pub next : Option Rest
  pub turn : TurnsTo m e x.left asked next
  pub goals : goal ≡ firsts asked
  pub after : y ≡ record { program = x.program; left = next }

-- what a program's runner is called for
pub data ControlCall : Type 0 where
  TurnWith : (estimate : List ℕ) → ControlCall
  Reset : ControlCall

-- calls one after the other, from x to y, and the goals of their turns; a reset begins the program again
abbrev pub Controls : PlantModel → Control → List ControlCall → List (List Pair) → Control → Type 0
Controls m x [] goals y = (goals ≡ []) × (y ≡ x)
Controls m x (TurnWith e ∷ calls) [] y = ⊥
Controls m x (TurnWith e ∷ calls) (goal ∷ goals) y = (z : Control) × TurnsBy m e x goal z × Controls m z calls goals y
Controls m x (Reset ∷ calls) goals y = Controls m (fresh x.program) calls goals y
