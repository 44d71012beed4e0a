-- The codes of lines with a formula, by what was read of its text.
use Rattle.std.specs.Prelude.{ℕ, Bool, ◌||◌, if◌then◌else◌, nat_le, List, ◌∷◌, length, Option, Some, None}
use Rattle.cca_base.specs.declared.limits.TheConstants.{MAX_RULES, MAX_MOVES}
use Rattle.cca_base.specs.PlantModel.{PlantModel}
use Rattle.formula_syntax.specs.declared.read_part.ReadPart.{ReadPart}
use Rattle.formula_syntax.specs.declared.read_part.ReadPart.TheVariants.{Sound, Faulty}
use Rattle.cca_base.specs.declared.codes.TheConstants.{NAME_UNKNOWN, LIMIT}
use Rattle.model_syntax.specs.Codes.{least, is_long, move_faults, new_move}

-- the least code of a line with a rule
abbrev pub rule_code_read : PlantModel → ReadPart → Option ℕ
rule_code_read m (Faulty code) = Some code
rule_code_read m (Sound formula depth) = if nat_le MAX_RULES (length m.rules) then Some LIMIT else None

-- the least code of a line with a move between these modes
abbrev pub move_code_read : PlantModel → Bool → Option (ℕ × ℕ × ℕ) → List ℕ → ReadPart → Option ℕ
move_code_read m repair None command reading = Some NAME_UNKNOWN
move_code_read m repair (Some ends) command (Faulty code) = Some code
move_code_read m repair (Some ends) command (Sound formula depth) =
    least ((LIMIT, is_long command || nat_le MAX_MOVES (length m.moves)) ∷ move_faults m (new_move m repair ends command formula))
