-- Which clauses say what formulas say.
use Rattle.std.specs.Prelude.{◌≡◌, ◌==◌, ℕ, Bool, true, false, not, ◌&&◌, ◌||◌, ◌+◌, ◌++◌, length, List, Option, Some, None, slice_index}
use Rattle.std.specs.List.{list_all}
use Rattle.cca_base.specs.Sets.{has}
use Rattle.cca_base.specs.PlantModel.{PlantModel}
use Rattle.cca_base.specs.Model.{mode_counts, value_counts}
use Rattle.cca_base.specs.Formula.{truth, subject_value}
use Rattle.cca_base.specs.declared.cube.Pair.{Pair}
use Rattle.cca_base.specs.declared.formula.Formula.{Formula}
use Rattle.cca_base.specs.declared.formula.Subject.{Subject}
use Rattle.cca_base.specs.declared.formula.Subject.TheVariants.{Component, Variable}
use Rattle.clause_form.specs.declared.clause.Clause.{Clause}
use Rattle.clause_form.specs.declared.clause.Clauses.{Clauses}
use Rattle.clause_form.specs.Clauses.{AreValues, AreClauses, all_met}

-- the component of the fixed pair, if there is one, has its mode
abbrev pub has_fixed : List ℕ → Option Pair → Bool
has_fixed modes None = true
has_fixed modes (Some p) = slice_index modes p.item == p.value

-- the denied formula, if there is one, is false
abbrev pub is_denied : List ℕ → List ℕ → Option Formula → Bool
is_denied modes values None = true
is_denied modes values (Some f) = not (truth modes values f)

-- every rule is true, the fixed pair stands, and the denied formula is false
abbrev pub is_asked : PlantModel → Option Pair → Option Formula → List ℕ → List ℕ → Bool
is_asked m fixed denied modes values = list_all (truth modes values) m.rules && has_fixed modes fixed && is_denied modes values denied

-- clauses over the components and then the variables, which are all true exactly where what is asked is
pub record AreClausesOf (m : PlantModel) (fixed : Option Pair) (denied : Option Formula) (c : Clauses) : Type 0 where
  pub sizes : c.sizes ≡ mode_counts m ++ value_counts m
  pub proper : AreClauses c
  pub meaning : (modes values : List ℕ) → AreValues (mode_counts m) modes → AreValues (value_counts m) values
      → all_met (modes ++ values) c.clauses ≡ is_asked m fixed denied modes values

-- clauses over the components and then the variables, which are all true exactly where the formula is false
pub record AreDenying (m : PlantModel) (f : Formula) (c : Clauses) : Type 0 where
  pub sizes : c.sizes ≡ mode_counts m ++ value_counts m
  pub proper : AreClauses c
  pub meaning : (modes values : List ℕ) → AreValues (mode_counts m) modes → AreValues (value_counts m) values
      → all_met (modes ++ values) c.clauses ≡ not (truth modes values f)

-- a truth value where it is wanted, and else its opposite
abbrev pub agrees : Bool → Bool → Bool
agrees true b = b
agrees false b = not b

-- both, or one of the two
abbrev pub combine : Bool → Bool → Bool → Bool
combine true a b = a && b
combine false a b = a || b

-- the number of a component or a variable among the subjects
abbrev pub subject_number : ℕ → Subject → ℕ
subject_number components (Component c) = c
subject_number components (Variable v) = components + v

-- the clauses are all true exactly where the formula is as it is wanted
abbrev pub Means : ℕ → List ℕ → Formula → Bool → List Clause → Type 0
Means components sizes f wanted clauses = (modes values : List ℕ) → length modes ≡ components → AreValues sizes (modes ++ values)
    → all_met (modes ++ values) clauses ≡ agrees wanted (truth modes values f)

-- the same where the formula says that the subject has one of the set's values
abbrev pub MeansAmong : ℕ → List ℕ → Subject → ℕ → Bool → List Clause → Type 0
MeansAmong components sizes subject set wanted clauses = (modes values : List ℕ) → length modes ≡ components → AreValues sizes (modes ++ values)
    → all_met (modes ++ values) clauses ≡ agrees wanted (has set (subject_value subject modes values))

-- the clauses that were there, and what is said of modes and values besides
abbrev pub Adds : ℕ → List ℕ → (List ℕ → List ℕ → Bool) → List Clause → List Clause → Type 0
Adds components sizes says old new = (modes values : List ℕ) → length modes ≡ components → AreValues sizes (modes ++ values)
    → all_met (modes ++ values) new ≡ (all_met (modes ++ values) old && says modes values)
