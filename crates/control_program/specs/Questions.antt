-- What the parts of a program ask of an estimate, and the denials that stand ready for it.
use Rattle.std.specs.Prelude.{◌≡◌, ◌<◌, ℕ, List, [], ◌∷◌, map, slice_get, Option, Some, None, All}
use Rattle.cca_base.specs.declared.cube.Pair.{Pair}
use Rattle.cca_base.specs.declared.formula.Formula.{Formula}
use Rattle.cca_base.specs.PlantModel.{PlantModel}
use Rattle.clause_form.specs.declared.clause.Clauses.{Clauses}
use Rattle.clause_form.specs.Formulas.{AreDenying}
use Rattle.control_laws.specs.Rest.{Rest as rest, Rests as rests}
use Rattle.control_program.specs.declared.nodes.Kind.{Kind}
use Rattle.control_program.specs.declared.nodes.Node.{Node}
use Rattle.control_program.specs.declared.nodes.Task.{Task}
use Rattle.control_program.specs.Formulas.{IsWithin}

-- what a part asks: whether pairs stand in the estimate, whether a formula is true in all its worlds, or nothing
pub data Question : Type 0 where
  Stand : List Pair → Question
  Hold : Formula → Question
  Silent : Question

unfoldable mutual
  -- what the parts of a program ask, in the order of its lines, in front of other questions; a `repeat` has its body once
  pub asked_by : rest → List Question → List Question
  asked_by (rest.Reach g) qs = Stand g ∷ qs
  asked_by (rest.Await f) qs = Hold f ∷ qs
  asked_by (rest.Seq xs) qs = Silent ∷ all_asked_by xs qs
  asked_by (rest.Both xs) qs = Silent ∷ all_asked_by xs qs
  asked_by (rest.Choose f a b) qs = Hold f ∷ asked_by a (asked_by b qs)
  asked_by (rest.Repeat n body x) qs = Silent ∷ asked_by body qs

  -- the same of several
  pub all_asked_by : rests → List Question → List Question
  all_asked_by rests.none qs = qs
  all_asked_by (rests.more x xs) qs = asked_by x (all_asked_by xs qs)

-- what a program asks, in the order of its lines
abbrev pub questions : rest → List Question
questions program = asked_by program []

-- a formula is one that may be asked of the model
abbrev pub MayAsk : PlantModel → Question → Type 0
MayAsk m (Stand g) = Unit {0}
MayAsk m (Hold f) = IsWithin m f
MayAsk m Silent = Unit {0}

-- a formula has its denial
abbrev pub IsDenied : PlantModel → Question → Option Clauses → Type 0
IsDenied m (Stand g) denied = Unit {0}
IsDenied m (Hold f) None = ⊥
IsDenied m (Hold f) (Some denied) = AreDenying m f denied
IsDenied m Silent denied = Unit {0}

-- pairs are of so many components
abbrev pub IsAmong : ℕ → Question → Type 0
IsAmong n (Stand g) = All (λ p. p.item < n) g
IsAmong n (Hold f) = Unit {0}
IsAmong n Silent = Unit {0}

-- what a task asks
abbrev pub task_question : Task → Question
task_question (Task.Reach g) = Stand g
task_question (Task.Await f) = Hold f
task_question (Task.Parts o n) = Silent

-- what a node of the kind asks
abbrev pub kind_question : Kind → Question
kind_question (Kind.Once t) = task_question t
kind_question (Kind.Choose f) = Hold f
kind_question (Kind.Repeat n) = Silent

-- what a node asks
abbrev pub node_question : Node → Question
node_question n = kind_question n.kind

-- the node at the place asks the formula
abbrev pub Asks : List Node → ℕ → Formula → Type 0
Asks nodes at f = slice_get (map node_question nodes) at ≡ Some (Hold f)
