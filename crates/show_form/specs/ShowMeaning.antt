-- What `show` means.
use Rattle.std.specs.Prelude.{⊤, ℕ, List, false}
use Rattle.model_form.specs.Answers.{AnswersByEnd}
use Rattle.model_form.specs.FormMeaning.{FormMeaning, reading}
use Rattle.model_form.specs.FormStates.{form_first}
use Rattle.model_form.specs.ModelEnds.{HasEnd, IsAcceptedEnd, IsRefused}
use Rattle.show_form.specs.Shown.{SaysShown, show_machine}

-- the model of the input is accepted
abbrev pub HasAcceptedModel : List ℕ → Type 0
HasAcceptedModel = HasEnd IsAcceptedEnd

-- a line of its model is refused, or the model is refused at the line `script`
abbrev pub HasRefusal : List ℕ → Type 0
HasRefusal = HasEnd IsRefused

-- `show` reads its model, not its whole input, and prints only where it ends; it promises nothing beyond its text
abbrev pub show_meaning : FormMeaning
show_meaning = reading show_machine (form_first (record {})) (AnswersByEnd false SaysShown) HasAcceptedModel HasRefusal (λ input a. ⊤) ⊥ ⊤
