-- What a formula's text says, part by part.
use Rattle.std.proofs.Common.{Bool, List, [], ◌∷◌}
use Rattle.cca_base.specs.declared.formula.Formula.{roll-Formula}
use Rattle.cca_base.specs.declared.formula.Formula.TheOpen.{Formula-F}
use Rattle.cca_base.specs.PlantModel.{PlantModel}
use Rattle.formula_syntax.specs.declared.read_part.ReadPart.{ReadPart}
use Rattle.formula_syntax.specs.declared.read_part.ReadPart.TheVariants.{Sound}
use Rattle.formula_syntax.specs.declared.read_parts.ReadParts.{ReadParts}
use Rattle.formula_syntax.specs.declared.atom.Atom.{Atom}
use Rattle.formula_syntax.specs.declared.formula_parser.Connective.TheVariants as link
use Rattle.formula_syntax.specs.Grammar.{NameWord, Factor, Conjunction, Disjunction, Whole, True, False, Equal, Differs, In, Not, Parens, Single, And, Case, Or, Plain, Implies, Iff}
use Rattle.formula_syntax.specs.ReadParts.{negated, enclosed, linked, one, more, all_of, any_of, named, with_value, among}

-- an atom with more values
abbrev pub with_values : Bool → PlantModel → Atom → List NameWord → Atom
with_values strict m atom [] = atom
with_values strict m atom (value ∷ values) = with_values strict m (with_value strict m atom value.text) values

abbrev mutual
  pub factor_read : Bool → PlantModel → Factor → ReadPart
  factor_read strict m True = Sound (roll-Formula Formula-F.True) 1
  factor_read strict m False = Sound (roll-Formula Formula-F.False) 1
  factor_read strict m (Equal name value) = among (with_value strict m (named m name.text) value.text)
  factor_read strict m (Differs name value) = negated (among (with_value strict m (named m name.text) value.text))
  factor_read strict m (In name first values) = among (with_values strict m (with_value strict m (named m name.text) first.text) values)
  factor_read strict m (Not part) = negated (factor_read strict m part)
  factor_read strict m (Parens part) = enclosed (whole_read strict m part)

  pub conjunction_read : Bool → PlantModel → Conjunction → ReadParts
  conjunction_read strict m (Single part) = one (factor_read strict m part)
  conjunction_read strict m (And front last) = more (conjunction_read strict m front) (factor_read strict m last)

  pub disjunction_read : Bool → PlantModel → Disjunction → ReadParts
  disjunction_read strict m (Case part) = one (all_of (conjunction_read strict m part))
  disjunction_read strict m (Or front last) = more (disjunction_read strict m front) (all_of (conjunction_read strict m last))

  pub whole_read : Bool → PlantModel → Whole → ReadPart
  whole_read strict m (Plain part) = any_of (disjunction_read strict m part)
  whole_read strict m (Implies a b) = linked link.Implies (any_of (disjunction_read strict m a)) (any_of (disjunction_read strict m b))
  whole_read strict m (Iff a b) = linked link.Iff (any_of (disjunction_read strict m a)) (any_of (disjunction_read strict m b))
