-- What the definitions of the text of `watch` say together.
use Rattle.std.specs.Prelude.{ℕ, false, List}
use Rattle.model_form.specs.Answers.{Answer, AreTold}
use Rattle.model_form.specs.FormStates.{form_first}
use Rattle.watch_form.specs.Answered.{SaysWatch}
use Rattle.watch_form.specs.LeastCosts.{TellsLeast}
use Rattle.watch_form.specs.WatchMachine.{watch_machine}
use Rattle.watch_form.specs.WatchMeaning.{IsWatchAnswer}

-- the texts of the machine are those of the answers of a tracker to an input's calls, both ways
abbrev pub WatchIsTold : Type 0
WatchIsTold = AreTold watch_machine (form_first (record {})) false SaysWatch

-- each line of a window that is printed for an input tells a least cost
abbrev pub CostsAreLeast : Type 0
CostsAreLeast = (input : List ℕ) (a : Answer) → IsWatchAnswer input a → TellsLeast input a
