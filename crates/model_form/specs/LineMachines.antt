-- Forms that print nothing at the line `script`, and refusals in words.
use Rattle.std.specs.Prelude.{false}
use Rattle.cca_base.specs.Accepted.{CompiledModel}
use Rattle.model_form.specs.ModelSteps.{GoesOnIn}
use Rattle.model_form.specs.declared.form.ModelForm.{Ghosts as FormGhosts}
use Rattle.model_form.specs.declared.lines.OfLines.{OfLines}

-- what a form of lines says at the line `script`: nothing, and its machine stands there
abbrev pub form_of_lines : {S : Type 0} → (CompiledModel → S) → FormGhosts OfLines S
form_of_lines first = record { is_json = λ f. false; begins = λ f b n u text. GoesOnIn (first b) u text }
