-- What is shown is never rejected, and nothing is printed before the end.
use Rattle.std.proofs.Common.{◌⊎◌, ℕ, List, sym}
use Rattle.line_machine.specs.Next.{Stops}
use Rattle.line_machine.specs.Runs.{IsQuiet, IsSure, IsText}
use Rattle.line_machine.specs.declared.machine.End.TheVariants.{Ended, Rejected}
use Rattle.line_machine.proofs.EndsSo.{same_end, not_end}
use Rattle.line_machine.proofs.RunsAreOne.{IsFixed}
use Rattle.model_form.specs.FormStates.{FormState}
use Rattle.model_form.specs.NoLines.{no_lines, line_one_way, end_one_way}
use Rattle.model_form.specs.declared.no_lines.NoLines.{NoLines}
use Rattle.model_form.proofs.FormEnds.{form_is_quiet, form_is_fixed}
use Rattle.model_form.proofs.NeverRejected.{ended_not, never_rejected}
use Rattle.show_form.specs.Shown.{show_form, show_machine}
use Rattle.show_form.specs.Shows.{shows_one_way}
use Rattle.show_form.specs.declared.show.Show.{Show}

pub show_never_rejected : (first : FormState Show NoLines) (bytes text : List ℕ) → IsText show_machine first bytes Rejected text ⊎ IsSure show_machine first bytes (Stops Rejected) text → ⊥
show_never_rejected = never_rejected show_form no_lines (λ f b n e text h. ended_not e (same_end e Ended h.0)) (λ s n l e text h. ended_not e (same_end e Ended h.0)) (λ s n e text h. ended_not e h.0)

pub show_is_quiet : IsQuiet show_machine
show_is_quiet = form_is_quiet show_form no_lines (λ f b n t text h. absurd (not_end Ended t (sym h.0))) (λ s n l t text h. absurd (not_end Ended t (sym h.0)))

-- a state and a line lead to one state and one text
pub show_fixed : IsFixed show_machine
show_fixed = form_is_fixed show_form no_lines (λ f. shows_one_way) (record { steps = λ s n l u v a c h k. line_one_way h k; closes = λ s n e f a c h k. end_one_way h k })
