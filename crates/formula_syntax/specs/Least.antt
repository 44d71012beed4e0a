-- Which of several codes a line is refused with.
use Rattle.std.specs.Prelude.{ℕ, Bool, if◌then◌else◌, List, [], ◌∷◌, Option, Some, None}

-- of codes in rising order, each with whether it applies, the first that applies
abbrev pub least : List (ℕ × Bool) → Option ℕ
least [] = None
least (code ∷ codes) = if code.1 then Some code.0 else least codes
