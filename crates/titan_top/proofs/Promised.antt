-- What the outcomes of words are promised to be, form by form.
use Rattle.std.proofs.Common.{◌≡◌, ℕ, List, Option, Some, None, refl, subst}
use Rattle.std.specs.Global.{Global}
use Rattle.std.specs.Prelude.{IfSome, String}
use Rattle.std.specs.Io.KnownBytes.{prepend_known}
use Rattle.trial_maker.specs.Documents.{document}
use Rattle.model_form.specs.FormMeaning.{promises_of}
use Rattle.titan_top.specs.Meanings.{meaning_of}
use Rattle.titan_top.specs.Output.{Outcome, OfAnswer, IsOutcomeFor, IsOutcomeOf, IsOutcome}
use Rattle.titan_top.specs.Promised.{PromisesByName}
use Rattle.titan_top.specs.Streams.{OfInput, input_for}
use Rattle.titan_top.specs.Words.{asked, IsForm}
use Rattle.titan_top.specs.declared.words.Form.{Form}
use Rattle.titan_top.specs.declared.words.Form.TheVariants.{Run, Show, Trial, Check, Migrate, Want, Watch, Program}
use Rattle.titan_top.proofs.Agreements.{keeps}
use Rattle.titan_top.proofs.Migrations.{migration_is_migrated}
use Rattle.titan_top.proofs.TraceIsChecked.{check_is_checked}

-- the outcome of words of a form is the form's
pub form_outcome : (words : List (String Global)) (form : Form) (input : List ℕ) → IsForm words form → (o : Outcome) → IsOutcome words input o → IsOutcomeFor form input o
unfolding IsOutcome
form_outcome words form input is o h = subst (λ (f : Option Form). IsOutcomeOf f input o) is h

-- and with it what the form promises beside
pub form_also : (words : List (String Global)) (form : Form) (input : List ℕ) → IsForm words form → (o : Outcome) → IsOutcome words input o → OfAnswer ((meaning_of form).also input) o
form_also words form input is o h = let (a, same, promised) = form_outcome words form input is o h in (a, same, (keeps form).also input a promised)

known : (left : Option (List ℕ)) (P : List ℕ → Type 0) → ((input : List ℕ) → P input) → IfSome left P
known None P each = tt
known (Some input) P each = each input

pub all_promised : (words : List (String Global)) (left : Option (List ℕ)) (form : Form) → IsForm words form → OfInput (asked words) left (λ input. (o : Outcome) → IsOutcome words input o → OfAnswer (promises_of (meaning_of form) input) o)
all_promised words left form is = known (input_for (asked words) left) (λ input. (o : Outcome) → IsOutcome words input o → OfAnswer (promises_of (meaning_of form) input) o) (λ input o h. form_outcome words form input is o h)

pub all_also : (words : List (String Global)) (left : Option (List ℕ)) (form : Form) → IsForm words form → OfInput (asked words) left (λ input. (o : Outcome) → IsOutcome words input o → OfAnswer ((meaning_of form).also input) o)
all_also words left form is = known (input_for (asked words) left) (λ input. (o : Outcome) → IsOutcome words input o → OfAnswer ((meaning_of form).also input) o) (λ input o h. form_also words form input is o h)

-- all forms but `show` and a trial read to the end
all_read : (form : Form) → (form ≡ Show → ⊥) → ((seed : ℕ) → form ≡ Trial seed → ⊥) → (meaning_of form).reads_to_end
all_read (Run notation) shows tries = refl
all_read Show shows tries = absurd (shows refl)
all_read (Trial seed) shows tries = absurd (tries seed refl)
all_read Check shows tries = tt
all_read Migrate shows tries = tt
all_read Want shows tries = tt
all_read Watch shows tries = tt
all_read Program shows tries = tt

pub promises_by_name : PromisesByName
promises_by_name = record {
  trace = λ words notation input is o h. form_also words (Run notation) input is o h;
  summary = λ words seed is o h. form_also words (Trial seed) (document seed) is o h;
  checked = λ words input is o h ended. check_is_checked words (Some input) is o h ended;
  migrated = λ words input is o h ended. migration_is_migrated words (Some input) is o h ended;
  wished = λ words input is o h. form_outcome words Want input is o h;
  watched = λ words input is o h. form_outcome words Watch input is o h;
  least = λ words input is o h. form_also words Watch input is o h;
  sequenced = λ words input is o h. form_also words Program input is o h;
  trial_input = λ seed left. refl;
  front_of_run = λ notation input left' out out' h. (subst (λ (r : Option (List ℕ)). Some input ≡ prepend_known h.taken r) (h.of_source refl) h.moved, h.promised, h.also);
  whole = all_read;
  silent_show = tt;
  silent_check = tt;
}
