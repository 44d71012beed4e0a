-- For words and an input there is one outcome at most.
use Rattle.std.proofs.Common.{◌≡◌, ℕ, List, Option, Some, None, sym, ◌∙◌}
use Rattle.titan_top.specs.Laws.{OutcomesAreOne}
use Rattle.titan_top.specs.Output.{Outcome, IsOutcomeFor, IsOutcomeOf, IsOutcome}
use Rattle.titan_top.specs.Words.{asked}
use Rattle.titan_top.specs.declared.words.Form.{Form}
use Rattle.titan_top.proofs.FormAnswers.{said_text, one_text}

form_once : (form : Form) (input : List ℕ) (a b : Outcome) → IsOutcomeFor form input a → IsOutcomeFor form input b → a ≡ b
form_once form input a b h k =
    let x = said_text form input b k in
    one_text form input a x.answer.end x.answer.text h x.of ∙ sym x.is

outcome_once : (f : Option Form) (input : List ℕ) (a b : Outcome) → IsOutcomeOf f input a → IsOutcomeOf f input b → a ≡ b
outcome_once None input a b h k = h ∙ sym k
outcome_once (Some form) input a b h k = form_once form input a b h k

pub outcomes_are_one : OutcomesAreOne
unfolding IsOutcome
outcomes_are_one words input a b h k = outcome_once (asked words) input a b h k
