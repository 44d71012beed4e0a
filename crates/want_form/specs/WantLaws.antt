-- What the definitions of the text of `want` say together.
use Rattle.std.specs.Prelude.{false}
use Rattle.model_form.specs.Answers.{AreTold}
use Rattle.model_form.specs.FormStates.{form_first}
use Rattle.want_form.specs.Answered.{SaysWishes}
use Rattle.want_form.specs.WishMachine.{want_machine}

-- the texts of the machine are those of the targets of an input's wishes, both ways
abbrev pub WishesAreTold : Type 0
WishesAreTold = AreTold want_machine (form_first (record {})) false SaysWishes
