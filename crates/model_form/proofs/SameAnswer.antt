-- Answers with one end and one text are one.
use Rattle.std.proofs.Common.{◌≡◌, ℕ, List}
use Rattle.line_machine.specs.declared.machine.End.{End}
use Rattle.model_form.specs.Answers.{answer}

pub same_answer : {e f : End} {a c : List ℕ} → e ≡ f → a ≡ c → answer e a ≡ answer f c
same_answer h k = λ i. answer (h i) (k i)
