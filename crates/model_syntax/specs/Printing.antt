-- The printed text of a model.
use Rattle.std.specs.Prelude.{ℕ, ◌+◌, ◌==◌, Bool, not, ◌&&◌, if◌then◌else◌, nat_le, slice_get, List, [], ◌∷◌, ◌++◌, codes, map}
use Rattle.std.specs.Option.{option_map_or}
use Rattle.std.specs.Fmt.{decimal}
use Rattle.cca_base.specs.declared.formula.Formula.{Formula}
use Rattle.cca_base.specs.declared.formula.Formula.TheOpen.{Formula-F}
use Rattle.cca_base.specs.declared.formula.Formula.TheFolds.{fold-Formula}
use Rattle.cca_base.specs.declared.formula.Subject.{Subject}
use Rattle.cca_base.specs.declared.formula.Subject.TheVariants as subjects
use Rattle.cca_base.specs.declared.model.Component.{Component}
use Rattle.cca_base.specs.declared.model.Variable.{Variable}
use Rattle.cca_base.specs.declared.model.Move.{Move}
use Rattle.cca_base.specs.declared.model.Failure.{Failure}
use Rattle.cca_base.specs.PlantModel.{PlantModel}
use Rattle.cca_base.specs.Sets.{has}
use Rattle.text_base.specs.declared.token.Kind.TheVariants.{Symbol}
use Rattle.text_base.specs.Lexemes.{Lexeme, same_kind, word, number, symbol}
use Rattle.model_syntax.specs.Items.{sensed_spelled, move_word}
use Rattle.text_base.specs.Lists.{name_list_spelled}
use Rattle.formula_syntax.specs.Lookups.{choices_of}

-- a word or a number
abbrev pub is_plain : Lexeme → Bool
is_plain l = not (same_kind l.0 Symbol)

-- tokens one behind the other, with a space between two that are both words or numbers
abbrev pub joined : List Lexeme → List ℕ
joined [] = []
joined (l ∷ []) = l.1
joined (l ∷ m ∷ ls) = l.1 ++ (if is_plain l && is_plain m then 32 ∷ [] else []) ++ joined (m ∷ ls)

-- ---- formulas

-- a formula's tokens: how loosely its outermost word binds (0 for none and `not`, 1 for `and`, 2 for `or`, 3 for the others), what it says, and what says that it is not so
pub record Said : Type 0 where
  pub precedence : ℕ
  pub tokens : List Lexeme
  pub denied : List Lexeme

-- a part, in parentheses where it binds more loosely than is allowed
abbrev pub part_said : ℕ → Said → List Lexeme
part_said allowed part = if nat_le part.precedence allowed then part.tokens else symbol (codes "(") ∷ part.tokens ++ symbol (codes ")") ∷ []

-- parts with a word between them
abbrev pub parts_said : ℕ → Lexeme → List Said → List Lexeme
parts_said allowed between [] = []
parts_said allowed between (part ∷ []) = part_said allowed part
parts_said allowed between (part ∷ next ∷ parts) = part_said allowed part ++ between ∷ parts_said allowed between (next ∷ parts)

-- something that is denied by the word `not`
abbrev pub plainly : ℕ → List Lexeme → Said
plainly precedence tokens = record { precedence = precedence; tokens = tokens; denied = word (codes "not") ∷ part_said 0 (record { precedence = precedence; tokens = tokens; denied = [] }) }

-- the names of a set's modes or values, in declared order
abbrev pub names_in : ℕ → List (List ℕ) → ℕ → List (List ℕ)
names_in k [] set = []
names_in k (name ∷ names) set = if has set k then name ∷ names_in (k + 1) names set else names_in (k + 1) names set

-- the subject's name
abbrev pub name_of : PlantModel → Subject → List ℕ
name_of m (subjects.Component c) = option_map_or (λ x. x.name) (slice_get m.components c) []
name_of m (subjects.Variable v) = option_map_or (λ x. x.name) (slice_get m.variables v) []

-- a subject and its values: one value with an equals sign, and else a list in braces; `!=` denies the first
abbrev pub among_said : List ℕ → List (List ℕ) → Said
among_said name [] = plainly 0 (word name ∷ word (codes "in") ∷ symbol (codes "{") ∷ symbol (codes "}") ∷ [])
among_said name (value ∷ []) = record { precedence = 0; tokens = word name ∷ symbol (codes "=") ∷ word value ∷ []; denied = word name ∷ symbol (codes "!=") ∷ word value ∷ [] }
among_said name (value ∷ next ∷ values) = plainly 0 (word name ∷ word (codes "in") ∷ symbol (codes "{") ∷ name_list_spelled (value ∷ next ∷ values) ++ symbol (codes "}") ∷ [])

-- one layer of a formula, with each part's tokens in its place
abbrev pub said_step : PlantModel → Formula-F Said → Said
said_step m Formula-F.True = plainly 0 (word (codes "true") ∷ [])
said_step m Formula-F.False = plainly 0 (word (codes "false") ∷ [])
said_step m (Formula-F.Among subject set) = among_said (name_of m subject) (names_in 0 (choices_of m subject) set)
said_step m (Formula-F.Not part) = plainly 0 part.denied
said_step m (Formula-F.All parts) = plainly 1 (parts_said 0 (word (codes "and")) parts)
said_step m (Formula-F.Any parts) = plainly 2 (parts_said 1 (word (codes "or")) parts)
said_step m (Formula-F.Implies a b) = plainly 3 (part_said 2 a ++ word (codes "implies") ∷ part_said 2 b)
said_step m (Formula-F.Iff a b) = plainly 3 (part_said 2 a ++ word (codes "iff") ∷ part_said 2 b)

-- a formula's tokens, and how they bind
abbrev pub said : PlantModel → Formula → Said
said m = fold-Formula Said (said_step m)

-- the tokens of a formula
abbrev pub formula_said : PlantModel → Formula → List Lexeme
formula_said m f = (said m f).tokens

-- the name at a place
abbrev pub name_at : List (List ℕ) → ℕ → List ℕ
name_at names k = option_map_or (λ name. name) (slice_get names k) []

-- ---- lines

-- the digit of a version
abbrev pub version_digit : ℕ → List ℕ
version_digit version = if version == 2 then codes "2" else codes "1"

-- the line of the version
abbrev pub header_said : ℕ → List Lexeme
header_said version = word (codes "titan") ∷ number (version_digit version) ∷ []

-- the line of a component
abbrev pub component_said : Component → List Lexeme
component_said c = word (codes "component") ∷ word c.name ∷ symbol (codes "=") ∷ name_list_spelled c.modes ++ word (codes "start") ∷ word (name_at c.modes c.start) ∷ []

-- the line of a variable
abbrev pub variable_said : Variable → List Lexeme
variable_said v = word (codes "var") ∷ word v.name ∷ symbol (codes "=") ∷ name_list_spelled v.values ++ sensed_spelled v.sensed

-- the line of a rule
abbrev pub rule_said : PlantModel → Formula → List Lexeme
rule_said m f = word (codes "rule") ∷ formula_said m f

-- a component and two of its modes, before the rest
abbrev pub ends_said : PlantModel → ℕ → ℕ → ℕ → List Lexeme → List Lexeme
ends_said m c a b rest =
    word (name_of m (subjects.Component c)) ∷ word (name_at (choices_of m (subjects.Component c)) a) ∷ symbol (codes "->") ∷ word (name_at (choices_of m (subjects.Component c)) b) ∷ rest

-- the line of a move or a repair
abbrev pub move_said : PlantModel → Move → List Lexeme
move_said m x =
    word (move_word x.repair) ∷ ends_said m x.component x.source x.target (word (codes "by") ∷ word (name_at m.commands x.command) ∷ word (codes "when") ∷ formula_said m x.guard)

-- the line of a failure
abbrev pub failure_said : PlantModel → Failure → List Lexeme
failure_said m x = word (codes "fail") ∷ ends_said m x.component x.source x.target (word (codes "cost") ∷ number (decimal x.cost) ∷ [])

-- the tokens of each line of the model, in order
abbrev pub lines_said : PlantModel → List (List Lexeme)
lines_said m =
    header_said m.version ∷ map component_said m.components ++ map variable_said m.variables
    ++ map (rule_said m) m.rules ++ map (move_said m) m.moves ++ map (failure_said m) m.failures

-- each line's text with its end
abbrev pub printed_lines : List (List Lexeme) → List ℕ
printed_lines [] = []
printed_lines (line ∷ lines) = joined line ++ 10 ∷ printed_lines lines

-- the printed model
unfoldable pub printed_model : PlantModel → List ℕ
printed_model m = printed_lines (lines_said m)
