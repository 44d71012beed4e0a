-- What `migrate` prints of a document.
use Rattle.std.specs.Prelude.{◌≡◌, ℕ, ◌+◌, ◌-◌, Bool, true, false, List, [], ◌∷◌, ◌++◌, filter, take, codes, Result, Ok, Err}
use Rattle.cca_base.specs.Model.{in_second}
use Rattle.cca_base.specs.PlantModel.{PlantModel}
use Rattle.line_machine.specs.Lines.{joined_lines}
use Rattle.model_form.specs.Answers.{Saying, answer}
use Rattle.model_syntax.specs.Printing.{printed_model}
use Rattle.run_form.specs.Document.{Document, DocumentEnd, Complete, RefusedAt, SaysScript}
use Rattle.run_form.specs.Printed.{with_text, ending}
use Rattle.run_form.specs.Summaries.{counts_of}
use Rattle.run_form.specs.declared.notation.Notation.TheVariants.{Words}
use Rattle.text_base.specs.Tokens.{Tok, tokens_of}

-- a line says something
abbrev pub is_something : Result (List Tok) ℕ → Bool
is_something (Ok []) = false
is_something (Ok (t ∷ ts)) = true
is_something (Err at) = true

-- the line isn't blank, and not a comment alone
abbrev pub says_something : List ℕ → Bool
says_something line = is_something (tokens_of line)

-- of the lines behind the first n those that an input has read at this end: all, or those before the line that is refused
abbrev pub lines_read : ℕ → DocumentEnd → List (List ℕ) → List (List ℕ)
lines_read n Complete lines = lines
lines_read n (RefusedAt line refusal) lines = take (line - (n + 1)) lines

-- the model printed in version 2, and the line `script`
abbrev pub migrated_model : PlantModel → List ℕ
migrated_model m = printed_model (in_second m) ++ codes "script" ++ 10 ∷ []

-- the events' lines as they stand, without those that say nothing
abbrev pub migrated_lines : List (List ℕ) → List ℕ
migrated_lines lines = joined_lines (filter says_something lines)

-- what is printed of an accepted model and of the script behind n lines: the model and the lines that are read; and the line of a refusal comes last
abbrev pub SaysMigrated : Saying
SaysMigrated b n lines e text =
    (r : Document) × SaysScript b.model [] 0 n lines r
    × (answer e text ≡ with_text (migrated_model b.model ++ migrated_lines (lines_read n r.ending lines)) (ending Words b.model (counts_of []) r.ending))
