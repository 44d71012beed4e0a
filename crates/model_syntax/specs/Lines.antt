-- What a line makes of a model.
use Rattle.std.specs.Prelude.{◌≡◌, ◌≢◌, ◌<◌, ◌^◌, ◌⊎◌, ℕ, Bool, true, false, not, ◌&&◌, length, List, [], ◌∷◌, map, Option, Some, None, Result, Ok, Err}
use Rattle.std.specs.List.{list_all}
use Rattle.std.specs.Fmt.{decimal}
use Rattle.cca_base.specs.declared.events.Detail.TheVariants.{Nothing}
use Rattle.cca_base.specs.declared.events.Stop.{Stop}
use Rattle.cca_base.specs.declared.events.Stop.TheVariants as stops
use Rattle.cca_base.specs.declared.model.Move.{Move}
use Rattle.cca_base.specs.PlantModel.{PlantModel}
use Rattle.cca_base.specs.Names.{is_word, is_reserved}
use Rattle.cca_base.specs.Model.{in_second, with_component, with_variable, with_rule, with_move, with_failure}
use Rattle.text_base.specs.Tokens.{Tok, tokens_of}
use Rattle.text_base.specs.Lexemes.{Lexeme, lexeme}
use Rattle.cca_base.specs.declared.codes.TheConstants.{MALFORMED}
use Rattle.model_syntax.specs.declared.line_end.LineEnd.{LineEnd}
use Rattle.model_syntax.specs.declared.line_end.LineEnd.TheVariants as ends
use Rattle.formula_syntax.specs.Grammar.{Whole, spelling}
use Rattle.formula_syntax.specs.Meanings.{whole_formula}
use Rattle.model_syntax.specs.Items.{Ends, Item, item_of}
use Rattle.model_syntax.specs.Items as items
use Rattle.model_syntax.specs.Codes.{sound_move_code, ends_of, component_code, new_component, variable_code, new_variable, rule_code, move_code, new_move, with_named, failure_code, new_failure}

-- a word that is not reserved, however long it is
abbrev pub is_bare_name : List ℕ → Bool
is_bare_name text = is_word text && not (is_reserved text)

-- what a line leads to: another model, a refusal with its code, or the end of the model
pub data Next : Type 0 where
  Goes : (model : PlantModel) → Next
  Refused : (code : ℕ) → Next
  Ended : Next

-- the model, or the code that applies
abbrev pub unless : Option ℕ → PlantModel → Next
unless None m = Goes m
unless (Some code) m = Refused code

-- a component
abbrev pub component_next : PlantModel → List ℕ → List (List ℕ) → List ℕ → Next
component_next m name modes start = unless (component_code m name modes start) (with_component m (new_component name modes start))

-- a variable
abbrev pub variable_next : PlantModel → List ℕ → List (List ℕ) → Bool → Next
variable_next m name values sensed = unless (variable_code m name values) (with_variable m (new_variable name values sensed))

-- a rule
abbrev pub rule_next : PlantModel → Whole → Next
rule_next m text = unless (rule_code m text) (with_rule m (whole_formula m text))

-- the model with the move, whose command may be new
abbrev pub with_declared : PlantModel → Bool → Option (ℕ × ℕ × ℕ) → List ℕ → Whole → PlantModel
with_declared m repair None command text = m
with_declared m repair (Some ends) command text = with_move (with_named m command) (new_move m repair ends command (whole_formula m text))

-- a move or a repair
abbrev pub move_next : PlantModel → Bool → Ends → List ℕ → Whole → Next
move_next m repair ends command text = unless (move_code m repair ends command text) (with_declared m repair (ends_of m ends) command text)

-- a move whose guard is sound, unless a code applies
abbrev pub taken_move : PlantModel → Move → List ℕ → Next
taken_move m x command = unless (sound_move_code m x command) (with_move (with_named m command) x)

-- the model with the failure
abbrev pub with_fall : PlantModel → Option (ℕ × ℕ × ℕ) → ℕ → PlantModel
with_fall m None cost = m
with_fall m (Some ends) cost = with_failure m (new_failure ends cost)

-- a failure
abbrev pub failure_next : PlantModel → Ends → ℕ → Next
failure_next m ends cost = unless (failure_code m ends cost) (with_fall m (ends_of m ends) cost)

-- these lexemes are a formula's text, which leads there; or they are none, and the line is malformed
pub record IsNextOfText (ls : List Lexeme) (f : Whole → Next) (next : Next) : Type 0 where
  pub of_text : (text : Whole) → ls ≡ spelling text → next ≡ f text
  pub or_none : ((text : Whole) × (ls ≡ spelling text)) ⊎ (((text : Whole) → ls ≢ spelling text) × (next ≡ Refused MALFORMED))

-- the digits are a number of at most 128 bits, which leads there; or they are none, and the line is malformed
abbrev pub IsNextOfNumber : List ℕ → (ℕ → Next) → Next → Type 0
IsNextOfNumber digits f next =
    ((n : ℕ) × (n < 2 ^ 128) × (digits ≡ decimal n) × (next ≡ f n)) ⊎ (((n : ℕ) → n < 2 ^ 128 → digits ≢ decimal n) × (next ≡ Refused MALFORMED))

-- what an item of the model leads to
abbrev pub IsNextOfItem : PlantModel → Item → Next → Type 0
IsNextOfItem m (items.Header second) next = next ≡ Refused MALFORMED
IsNextOfItem m (items.Component name modes start) next = next ≡ component_next m name modes start
IsNextOfItem m (items.Variable name values sensed) next = next ≡ variable_next m name values sensed
IsNextOfItem m (items.Rule formula) next = IsNextOfText formula (rule_next m) next
IsNextOfItem m (items.Move repair ends command guard) next = IsNextOfText guard (move_next m repair ends command) next
IsNextOfItem m (items.Failure ends cost) next = IsNextOfNumber cost (failure_next m ends) next
IsNextOfItem m items.Script next = next ≡ Ended

-- a line of no form is malformed
abbrev pub IsNextOfForm : PlantModel → Option Item → Next → Type 0
IsNextOfForm m None next = next ≡ Refused MALFORMED
IsNextOfForm m (Some item) next = IsNextOfItem m item next

-- a call that failed: the model is as before, and a refusal is this
abbrev pub FailsModel : Stop → (old new : PlantModel) → (Next → Type 0) → Type 0
FailsModel stops.Memory old new Is = new ≡ old
FailsModel (stops.Refused refusal) old new Is = Is (Refused refusal.code) × (refusal.detail ≡ Nothing) × (new ≡ old)

-- what a call on a model answered is this
abbrev pub AnswersModel : {X : Type 0} → Result X Stop → (old new : PlantModel) → (Next → Type 0) → Type 0
AnswersModel (Ok x) old new Is = Is (Goes new)
AnswersModel (Err e) old new Is = FailsModel e old new Is

-- what an item's line answered is this
abbrev pub AnswersItem : Result LineEnd Stop → (old new : PlantModel) → (Next → Type 0) → Type 0
AnswersItem (Ok ends.Going) old new Is = Is (Goes new)
AnswersItem (Ok ends.Script) old new Is = Is Ended × (new ≡ old)
AnswersItem (Err e) old new Is = FailsModel e old new Is

-- the words in place of names are words, and no list is empty
abbrev pub HasBareNames : Item → Type 0
HasBareNames (items.Header second) = Unit {0}
HasBareNames (items.Component name modes start) = list_all is_bare_name (name ∷ modes) ≡ true
HasBareNames (items.Variable name values sensed) = (list_all is_bare_name (name ∷ values) ≡ true) × (0 < length values)
HasBareNames (items.Rule formula) = Unit {0}
HasBareNames (items.Move repair ends command guard) = is_bare_name command ≡ true
HasBareNames (items.Failure ends cost) = Unit {0}
HasBareNames items.Script = Unit {0}

-- ---- readers

-- the model of the lines so far, and whether the line of the version was read
pub record ModelSoFar : Type 0 where
  pub model : PlantModel
  pub begun : Bool

-- what a line leads to: another reading, a refusal with its code, or the end of the model
pub data LineOutcome : Type 0 where
  Reads : (reading : ModelSoFar) → LineOutcome
  Refuses : (code : ℕ) → LineOutcome
  Finishes : LineOutcome

-- the outcome of a line behind the line of the version
abbrev pub outcome : Next → LineOutcome
outcome (Goes m) = Reads (record { model = m; begun = true })
outcome (Refused code) = Refuses code
outcome Ended = Finishes

-- the first line with tokens
abbrev pub opening : PlantModel → Option Item → LineOutcome
opening m None = Refuses MALFORMED
opening m (Some (items.Header false)) = Reads (record { model = m; begun = true })
opening m (Some (items.Header true)) = Reads (record { model = in_second m; begun = true })
opening m (Some (items.Component name modes start)) = Refuses MALFORMED
opening m (Some (items.Variable name values sensed)) = Refuses MALFORMED
opening m (Some (items.Rule formula)) = Refuses MALFORMED
opening m (Some (items.Move repair ends command guard)) = Refuses MALFORMED
opening m (Some (items.Failure ends cost)) = Refuses MALFORMED
opening m (Some items.Script) = Refuses MALFORMED

-- what a line with tokens leads to
abbrev pub LeadsByForm : Bool → PlantModel → Option Item → LineOutcome → Type 0
LeadsByForm true m form o = (next : Next) × IsNextOfForm m form next × (o ≡ outcome next)
LeadsByForm false m form o = o ≡ opening m form

-- a line without tokens is skipped, unless it has a bad byte
abbrev pub LeadsByTokens : ModelSoFar → Result (List Tok) ℕ → LineOutcome → Type 0
LeadsByTokens s (Err at) o = o ≡ Refuses MALFORMED
LeadsByTokens s (Ok []) o = o ≡ Reads s
LeadsByTokens s (Ok (t ∷ ts)) o = LeadsByForm s.begun s.model (item_of (map lexeme (t ∷ ts))) o

-- what a line leads to
abbrev pub LineLeads : ModelSoFar → List ℕ → LineOutcome → Type 0
LineLeads s line o = LeadsByTokens s (tokens_of line) o

-- a line leads to one outcome
abbrev pub LeadOneWay : Type 0
LeadOneWay = (s : ModelSoFar) (line : List ℕ) (a b : LineOutcome) → LineLeads s line a → LineLeads s line b → a ≡ b

-- a call that failed: the reader is as before, and a refusal is this
abbrev pub FailsLine : Stop → (old new : ModelSoFar) → (LineOutcome → Type 0) → Type 0
FailsLine stops.Memory old new Is = new ≡ old
FailsLine (stops.Refused refusal) old new Is = Is (Refuses refusal.code) × (refusal.detail ≡ Nothing) × (new ≡ old)

-- what reading a line answered is this
abbrev pub AnswersLine : Result LineEnd Stop → (old new : ModelSoFar) → (LineOutcome → Type 0) → Type 0
AnswersLine (Ok ends.Going) old new Is = Is (Reads new)
AnswersLine (Ok ends.Script) old new Is = Is Finishes × (new ≡ old)
AnswersLine (Err e) old new Is = FailsLine e old new Is
