-- The whole text and the status for words and an input.
use Rattle.std.specs.Prelude.{◌≡◌, ℕ, List, [], ◌∷◌, ◌++◌, Option, Some, None, codes, String}
use Rattle.std.specs.Global.{Global}
use Rattle.model_form.specs.Answers.{Answer}
use Rattle.model_form.specs.FormMeaning.{promises_of}
use Rattle.titan_top.specs.Meanings.{meaning_of}
use Rattle.titan_top.specs.Statuses.{end_status}
use Rattle.titan_top.specs.Words.{asked}
use Rattle.titan_top.specs.declared.status.Status.{Status}
use Rattle.titan_top.specs.declared.status.Status.TheVariants.{Ended, Rejected, Usage, Refused, ReadFault, WriteFault, Memory}
use Rattle.titan_top.specs.declared.words.Form.{Form}

-- what is printed and the status that it ends with, where no fault comes
pub record Outcome : Type 0 where
  pub text : List ℕ
  pub status : Status

-- the outcome of what a form prints
abbrev pub outcome_of : Answer → Outcome
outcome_of a = record { text = a.text; status = end_status a.end }

-- the outcome is that of an answer of this kind
abbrev pub OfAnswer : (Answer → Type 0) → Outcome → Type 0
OfAnswer Is o = (a : Answer) × (o ≡ outcome_of a) × Is a

-- the outcome for a form of words and an input
abbrev pub IsOutcomeFor : Form → List ℕ → Outcome → Type 0
IsOutcomeFor form input o = OfAnswer (promises_of (meaning_of form) input) o

-- ---- words of no form

-- the line for words of no form
abbrev pub usage_text : List ℕ
usage_text = codes "usage: see the forms of titan" ++ 10 ∷ []

-- the outcome for words of no form
abbrev pub usage : Outcome
usage = record { text = usage_text; status = Usage }

-- words of no form
abbrev pub AreNoForm : List (String Global) → Type 0
AreNoForm words = asked words ≡ None

-- ---- all words

-- the outcome for words of a form, or of none
abbrev pub IsOutcomeOf : Option Form → List ℕ → Outcome → Type 0
IsOutcomeOf None input o = o ≡ usage
IsOutcomeOf (Some form) input o = IsOutcomeFor form input o

-- the outcome for words and an input
unfoldable pub IsOutcome : List (String Global) → List ℕ → Outcome → Type 0
IsOutcome words input o = IsOutcomeOf (asked words) input o

-- nothing that the form reads is refused, and no tick has a No: `show` reads the input's model, and all others the whole input
abbrev pub NothingRefused : Option Form → List ℕ → Type 0
NothingRefused None input = ⊥
NothingRefused (Some form) input = (meaning_of form).nothing_refused input

-- a line that the form reads is refused, and before it no tick has a No
abbrev pub SomeRefused : Option Form → List ℕ → Type 0
SomeRefused None input = ⊥
SomeRefused (Some form) input = (meaning_of form).some_refused input

-- a tick has a No, before any line is refused: only `check` says No
abbrev pub SomeRejected : Option Form → List ℕ → Type 0
SomeRejected None input = ⊥
SomeRejected (Some form) input = (meaning_of form).some_rejected input

-- a status that comes from a fault or from running out of memory
abbrev pub IsCut : Status → Type 0
IsCut ReadFault = Unit {0}
IsCut WriteFault = Unit {0}
IsCut Memory = Unit {0}
IsCut Ended = ⊥
IsCut Rejected = ⊥
IsCut Usage = ⊥
IsCut Refused = ⊥
