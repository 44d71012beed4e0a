-- What a line asks for, and the table of codes, in words of the names that stand in a line.
use Rattle.std.specs.Prelude.{◌≡◌, ◌⊎◌, ◌<◌, ◌≤◌, ℕ, true, List, Option, Some, None, Result, All, Contains}
use Rattle.text_base.specs.Lexemes.{Lexeme}
use Rattle.text_base.specs.Pairs.{NamedPair}
use Rattle.cca_base.specs.declared.codes.TheConstants.{NAME_UNKNOWN, LIMIT, REPEATED_PAIR}
use Rattle.cca_base.specs.declared.cube.Pair.{Pair}
use Rattle.cca_base.specs.declared.limits.TheConstants.{MAX_WEIGHT}
use Rattle.cca_base.specs.Cube.{IsCube}
use Rattle.cca_base.specs.Model.{HasMode, IsFormula}
use Rattle.cca_base.specs.PlantModel.{PlantModel}
use Rattle.formula_syntax.specs.Meanings.{names_unknown, is_deep, whole_formula}
use Rattle.script_reader.specs.Laws.{HaveNameTwice}
use Rattle.script_reader.specs.Named.{mode_pair, each_pair}
use Rattle.script_reader.specs.SaidLines.{IsLeast, SaidByLine, SaidByWords, SaidByTokens}
use Rattle.want_lines.specs.Items.{Item, Weight, At, Want, grammar}
use Rattle.want_lines.specs.declared.request.Request.{Request}
use Rattle.want_lines.specs.declared.request.Request.TheVariants as request

-- a name of the line is no component, or no mode of it; of a formula, a name or a value is not declared
abbrev pub NamesUnknown : PlantModel → Item → Type 0
NamesUnknown m (Weight pair weight) = mode_pair m pair ≡ None
NamesUnknown m (At pairs) = (p : NamedPair) × Contains pairs p × (mode_pair m p ≡ None)
NamesUnknown m (Want formula) = names_unknown m formula ≡ true

-- the weight is too great, or the formula's text too deep
abbrev pub PassesLimit : Item → Type 0
PassesLimit (Weight pair weight) = MAX_WEIGHT < weight
PassesLimit (At pairs) = ⊥
PassesLimit (Want formula) = is_deep formula ≡ true

-- a component stands twice in the line
abbrev pub NamesTwice : Item → Type 0
NamesTwice (Weight pair weight) = ⊥
NamesTwice (At pairs) = HaveNameTwice pairs
NamesTwice (Want formula) = ⊥

-- the code applies to the item
abbrev pub Applies : PlantModel → Item → ℕ → Type 0
Applies m i code = ((code ≡ NAME_UNKNOWN) × NamesUnknown m i) ⊎ (((code ≡ LIMIT) × PassesLimit i) ⊎ ((code ≡ REPEATED_PAIR) × NamesTwice i))

-- the code applies, and none that is less
abbrev pub IsLeastCode : PlantModel → Item → ℕ → Type 0
IsLeastCode m i code = IsLeast (Applies m i) code

-- the request is the one that the line's words name
abbrev pub IsNamed : PlantModel → Item → Request → Type 0
IsNamed m (Weight pair weight) r = (q : Pair) × (mode_pair m pair ≡ Some q) × (r ≡ request.Weight q weight)
IsNamed m (At pairs) r = (qs : List Pair) × (each_pair (mode_pair m) pairs ≡ Some qs) × (r ≡ request.At qs)
IsNamed m (Want formula) r = r ≡ request.Want (whole_formula m formula)

-- the request is what the item asks for, and no code applies
abbrev pub IsTaken : PlantModel → Item → Request → Type 0
IsTaken m i r = IsNamed m i r × ((code : ℕ) → Applies m i code → ⊥)

-- what the line asks for, or its least code
abbrev pub IsRequestOf : PlantModel → List ℕ → Result (Option Request) ℕ → Type 0
IsRequestOf m line said = SaidByLine grammar (IsNamed m) (Applies m) line said

-- a line asks for one thing, or has one code
abbrev pub RequestsAreOne : Type 0
RequestsAreOne = (m : PlantModel) (line : List ℕ) (a b : Result (Option Request) ℕ) → IsRequestOf m line a → IsRequestOf m line b → a ≡ b

-- ---- what is read of some lexemes

-- what lexemes ask for, a first word among them
abbrev pub IsRequestOfWords : PlantModel → List Lexeme → Result Request ℕ → Type 0
IsRequestOfWords m ls said = SaidByWords grammar (IsNamed m) (Applies m) ls said

-- what the tokens of a line ask for, if it has any
abbrev pub IsRequestOfTokens : PlantModel → List Lexeme → Result (Option Request) ℕ → Type 0
IsRequestOfTokens m ls said = SaidByTokens grammar (IsNamed m) (Applies m) ls said

-- ---- what a call answers

-- the request speaks of the model's components, modes, variables and values, within their limits
abbrev pub FitsModel : PlantModel → Request → Type 0
FitsModel m (request.Weight pair weight) = HasMode m pair.item pair.value × (weight ≤ MAX_WEIGHT)
FitsModel m (request.At pairs) = IsCube pairs × All (λ p. HasMode m p.item p.value) pairs
FitsModel m (request.Want formula) = IsFormula m formula
