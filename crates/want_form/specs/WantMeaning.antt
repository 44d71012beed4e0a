-- What `want` means.
use Rattle.std.specs.Prelude.{◌≡◌, ⊤, ℕ, false, List}
use Rattle.model_form.specs.Answers.{Answer, IsAnswer}
use Rattle.model_form.specs.FormMeaning.{FormMeaning, reading_lines}
use Rattle.model_form.specs.LinesEnds.{Ending}
use Rattle.want_form.specs.Answered.{SaysWishes}
use Rattle.want_form.specs.WishMachine.{wish_first, wish_machine}
use Rattle.want_form.specs.Wishes.{Wishes, ReadsWishes, first_settings}

-- the lines behind an accepted model end as those that ask for its wishes
abbrev pub EndsWishes : Ending
EndsWishes b n ls end = (r : Wishes) × ReadsWishes b.model (first_settings b.model) n ls r × (r.ending ≡ end)

-- what is printed for an input: the texts of the targets of the wishes behind its accepted model, with the line of a refusal behind them if a line is refused; or that the model is refused
abbrev pub IsWishesAnswer : List ℕ → Answer → Type 0
IsWishesAnswer input a = IsAnswer false SaysWishes input a.end a.text

-- `want` reads its whole input; it promises nothing beyond its text
abbrev pub want_meaning : FormMeaning
want_meaning = reading_lines wish_first wish_machine SaysWishes EndsWishes (λ input a. ⊤)
