-- What `watch` means.
use Rattle.std.specs.Prelude.{◌≡◌, ℕ, false, List}
use Rattle.model_form.specs.Answers.{Answer, IsAnswer}
use Rattle.model_form.specs.FormMeaning.{FormMeaning, reading_lines}
use Rattle.model_form.specs.LinesEnds.{Ending}
use Rattle.watch_form.specs.Answered.{SaysWatch}
use Rattle.watch_form.specs.Calls.{Calls, ReadsCalls, nothing_pending}
use Rattle.watch_form.specs.LeastCosts.{TellsLeast}
use Rattle.watch_form.specs.WatchMachine.{watch_first, watching_machine}

-- the lines behind an accepted model end as those that make its calls
abbrev pub EndsCalls : Ending
EndsCalls b n ls end = (r : Calls) × ReadsCalls b.model nothing_pending n ls r × (r.ending ≡ end)

-- what is printed for an input: that its model is refused; or the answers to the calls behind it, and a refusal's line last
abbrev pub IsWatchAnswer : List ℕ → Answer → Type 0
IsWatchAnswer input a = IsAnswer false SaysWatch input a.end a.text

-- `watch` reads its whole input; each line of a window tells a least cost
abbrev pub watch_meaning : FormMeaning
watch_meaning = reading_lines watch_first watching_machine SaysWatch EndsCalls TellsLeast
