-- What each form promises of the outcomes of its words, by name.
use Rattle.std.specs.Prelude.{◌≡◌, ℕ, List, Option, Some, String}
use Rattle.std.specs.Global.{Global}
use Rattle.std.specs.Io.KnownBytes.{prepend_known}
use Rattle.trial_maker.specs.Documents.{document}
use Rattle.migrate_form.specs.MigrateLaws.{IsMigrated}
use Rattle.program_form.specs.Headline.{IsProgramTrace}
use Rattle.run_form.specs.Headline.{IsTraceOf}
use Rattle.run_form.specs.Printed.{IsRunOf}
use Rattle.run_form.specs.declared.notation.Notation.{Notation}
use Rattle.run_form.specs.declared.notation.Notation.TheVariants.{Summary}
use Rattle.titan_top.specs.CheckedTrace.{IsCheckedTrace}
use Rattle.titan_top.specs.FormFront.{HasFront}
use Rattle.titan_top.specs.Meanings.{meaning_of}
use Rattle.titan_top.specs.Output.{Outcome, IsOutcome, OfAnswer}
use Rattle.titan_top.specs.Streams.{input_for}
use Rattle.titan_top.specs.Words.{IsForm}
use Rattle.titan_top.specs.declared.status.Status.TheVariants.{Ended}
use Rattle.titan_top.specs.declared.words.Form.{Form}
use Rattle.titan_top.specs.declared.words.Form.TheVariants.{Run, Show, Trial, Check, Migrate, Want, Watch, Program}
use Rattle.want_form.specs.WantMeaning.{IsWishesAnswer}
use Rattle.watch_form.specs.LeastCosts.{TellsLeast}
use Rattle.watch_form.specs.WatchMeaning.{IsWatchAnswer}

-- what is printed of a run: the reports are the trace of what was read, each reply is good, and then comes the ending; or the model is refused. A trial counts the
-- same of the document of its seed. What gets a yes of a check is a model, a script and the text of its ticks, each of which is a consistent successor of its cost,
-- fits its goal, and sends only what is safe. A migration that ends is the input's document in version 2: it has the input's events, a run prints for it what it
-- prints for the input, and it is migrated to itself. What is printed of wishes is the text of their targets, and of a watched plant that of a tracker's answers,
-- each line of a window with a cost that no other trajectory undercuts. What is printed of a control program is the fixed trace of its lines' events with those
-- that the program puts in. A trial reads the document of its seed, whatever its source has. What a run that is cut short has written is of the answer of some bytes of
-- the source, and that answer is a run, and traced. All forms but `show` and a trial read their input to the end, and `show` and `check` are silent
pub record PromisesByName : Type 0 where
  pub trace : (words : List (String Global)) (notation : Notation) (input : List ℕ) → IsForm words (Run notation) → (o : Outcome) → IsOutcome words input o → OfAnswer (IsTraceOf notation input) o
  pub summary : (words : List (String Global)) (seed : ℕ) → IsForm words (Trial seed) → (o : Outcome) → IsOutcome words (document seed) o → OfAnswer (IsTraceOf (Summary seed) (document seed)) o
  pub checked : (words : List (String Global)) (input : List ℕ) → IsForm words Check → (o : Outcome) → IsOutcome words input o → o.status ≡ Ended → IsCheckedTrace input o
  pub migrated : (words : List (String Global)) (input : List ℕ) → IsForm words Migrate → (o : Outcome) → IsOutcome words input o → o.status ≡ Ended → IsMigrated input o.text
  pub wished : (words : List (String Global)) (input : List ℕ) → IsForm words Want → (o : Outcome) → IsOutcome words input o → OfAnswer (IsWishesAnswer input) o
  pub watched : (words : List (String Global)) (input : List ℕ) → IsForm words Watch → (o : Outcome) → IsOutcome words input o → OfAnswer (IsWatchAnswer input) o
  pub least : (words : List (String Global)) (input : List ℕ) → IsForm words Watch → (o : Outcome) → IsOutcome words input o → OfAnswer (TellsLeast input) o
  pub sequenced : (words : List (String Global)) (input : List ℕ) → IsForm words Program → (o : Outcome) → IsOutcome words input o → OfAnswer (IsProgramTrace input) o
  pub trial_input : (seed : ℕ) (left : Option (List ℕ)) → input_for (Some (Trial seed)) left ≡ Some (document seed)
  pub front_of_run : (notation : Notation) (input : List ℕ) (left' out out' : Option (List ℕ)) → (h : HasFront (Run notation) input left' out out') → (Some input ≡ prepend_known h.taken left') × IsRunOf notation h.came h.answer × IsTraceOf notation h.came h.answer
  pub whole : (form : Form) → (form ≡ Show → ⊥) → ((seed : ℕ) → form ≡ Trial seed → ⊥) → (meaning_of form).reads_to_end
  pub silent_show : (meaning_of Show).is_silent
  pub silent_check : (meaning_of Check).is_silent
