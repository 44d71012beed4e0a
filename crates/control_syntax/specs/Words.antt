-- The words of a line, read from left to right.
use Rattle.std.specs.Prelude.{◌≡◌, ◌<◌, ℕ, List, [], length, Option, Result, Ok, Err}
use Rattle.text_base.specs.Chain.{◌>>=◌}
use Rattle.text_base.specs.Lexemes.{Lexeme}
use Rattle.text_base.specs.Lists.{ended}
use Rattle.model_syntax.specs.Items.{number_at}
use Rattle.cca_base.specs.declared.codes.TheConstants.{MALFORMED}
use Rattle.control_syntax.specs.declared.line.Line.{Line}

-- digits, where nothing follows
unfoldable pub only_digits : List Lexeme → Option (List ℕ)
only_digits ls = number_at ls >>= λ digits. ended digits.0 digits.1

-- a line whose word stands alone; else it is malformed
abbrev pub IsAlone : Line → List Lexeme → Result Line ℕ → Type 0
IsAlone l ls (Ok said) = (ls ≡ []) × (said ≡ l)
IsAlone l ls (Err code) = (0 < length ls) × (code ≡ MALFORMED)
