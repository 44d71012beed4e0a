-- What a formula says of a state's modes and a world's values, and which formulas a model may have.
use Rattle.std.specs.Prelude.{ℕ, Bool, true, false, not, ◌||◌, ◌&&◌, ◌+◌, ◌^◌, if◌then◌else◌, nat_lt, nat_le, max, List, [], ◌∷◌, length, slice_index}
use Rattle.std.specs.List.{list_all, list_any}
use Rattle.cca_base.specs.declared.formula.Subject.{Subject}
use Rattle.cca_base.specs.declared.formula.Subject.TheVariants.{Component, Variable}
use Rattle.cca_base.specs.declared.formula.Formula.{Formula}
use Rattle.cca_base.specs.declared.formula.Formula.TheOpen.{Formula-F}
use Rattle.cca_base.specs.declared.formula.Formula.TheFolds.{fold-Formula}
use Rattle.cca_base.specs.Sets.{has}

-- what the subject has, by a list for components and one for variables
abbrev pub subject_value : Subject → List ℕ → List ℕ → ℕ
subject_value (Component c) modes values = slice_index modes c
subject_value (Variable v) modes values = slice_index values v

-- one layer of a formula, with the truth of each part in its place
abbrev pub truth_step : List ℕ → List ℕ → Formula-F Bool → Bool
truth_step modes values Formula-F.True = true
truth_step modes values Formula-F.False = false
truth_step modes values (Formula-F.Among subject set) = has set (subject_value subject modes values)
truth_step modes values (Formula-F.Not part) = not part
truth_step modes values (Formula-F.All parts) = list_all (λ b. b) parts
truth_step modes values (Formula-F.Any parts) = list_any (λ b. b) parts
truth_step modes values (Formula-F.Implies a b) = not a || b
truth_step modes values (Formula-F.Iff a b) = if a then b else not b

-- whether the formula is true of these modes and values
abbrev pub truth : List ℕ → List ℕ → Formula → Bool
truth modes values = fold-Formula Bool (truth_step modes values)

-- the subject is one of so many components and variables
abbrev pub subject_within : ℕ → ℕ → Subject → Bool
subject_within components variables (Component c) = nat_lt c components
subject_within components variables (Variable v) = nat_lt v variables

-- one layer of a formula, with whether each part is within in its place
abbrev pub within_step : ℕ → ℕ → Formula-F Bool → Bool
within_step components variables Formula-F.True = true
within_step components variables Formula-F.False = true
within_step components variables (Formula-F.Among subject set) = subject_within components variables subject
within_step components variables (Formula-F.Not part) = part
within_step components variables (Formula-F.All parts) = list_all (λ b. b) parts
within_step components variables (Formula-F.Any parts) = list_all (λ b. b) parts
within_step components variables (Formula-F.Implies a b) = a && b
within_step components variables (Formula-F.Iff a b) = a && b

-- each subject of the formula is one of so many components and variables
abbrev pub is_within : ℕ → ℕ → Formula → Bool
is_within components variables = fold-Formula Bool (within_step components variables)

-- some of the numbers below n, and nothing else
abbrev pub is_choice_of : ℕ → ℕ → Bool
is_choice_of n set = nat_lt 0 set && nat_lt set (2 ^ n)

-- one layer of a formula, with whether each part fits in its place
abbrev pub fits_step : List ℕ → List ℕ → Formula-F Bool → Bool
fits_step modes values Formula-F.True = true
fits_step modes values Formula-F.False = true
fits_step modes values (Formula-F.Among subject set) = is_choice_of (subject_value subject modes values) set
fits_step modes values (Formula-F.Not part) = part
fits_step modes values (Formula-F.All parts) = nat_le 2 (length parts) && list_all (λ b. b) parts
fits_step modes values (Formula-F.Any parts) = nat_le 2 (length parts) && list_all (λ b. b) parts
fits_step modes values (Formula-F.Implies a b) = a && b
fits_step modes values (Formula-F.Iff a b) = a && b

-- by the counts of modes and of values: each set holds some of its subject's and nothing else, and `and` and `or` have two parts or more
abbrev pub fits : List ℕ → List ℕ → Formula → Bool
fits modes values = fold-Formula Bool (fits_step modes values)

-- a formula's text: how loosely its outermost word binds (0 for none and `not`, 1 for `and`, 2 for `or`, 3 for the others), and its depth
pub record Printed : Type 0 where
  pub precedence : ℕ
  pub depth : ℕ

-- a part's depth, with parentheses where it binds more loosely than is allowed
abbrev pub part_depth : ℕ → Printed → ℕ
part_depth allowed part = if nat_le part.precedence allowed then part.depth else part.depth + 1

-- the greatest depth of a part
abbrev pub deepest : ℕ → List Printed → ℕ
deepest allowed [] = 0
deepest allowed (part ∷ parts) = max (part_depth allowed part) (deepest allowed parts)

-- one layer of a formula, with each part's text in its place
abbrev pub printed_step : Formula-F Printed → Printed
printed_step Formula-F.True = record { precedence = 0; depth = 1 }
printed_step Formula-F.False = record { precedence = 0; depth = 1 }
printed_step (Formula-F.Among subject set) = record { precedence = 0; depth = 1 }
printed_step (Formula-F.Not part) = record { precedence = 0; depth = 1 + part_depth 0 part }
printed_step (Formula-F.All parts) = record { precedence = 1; depth = 1 + deepest 0 parts }
printed_step (Formula-F.Any parts) = record { precedence = 2; depth = 1 + deepest 1 parts }
printed_step (Formula-F.Implies a b) = record { precedence = 3; depth = 1 + max (part_depth 2 a) (part_depth 2 b) }
printed_step (Formula-F.Iff a b) = record { precedence = 3; depth = 1 + max (part_depth 2 a) (part_depth 2 b) }

-- the depth of the formula's printed text
abbrev pub depth : Formula → ℕ
depth f = (fold-Formula Printed printed_step f).depth
