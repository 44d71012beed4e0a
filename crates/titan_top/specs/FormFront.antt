-- What was written of a form that was cut short.
use Rattle.std.specs.Io.KnownBytes.{prepend_known, append_known, IsAtEnd}
use Rattle.std.specs.Prelude.{◌≡◌, ◌⊎◌, ℕ, List, [], ◌++◌, Option, Some, None}
use Rattle.line_machine.specs.Fronts.{IsOwnText}
use Rattle.line_machine.specs.KnownInput.{WroteFront}
use Rattle.model_form.specs.Answers.{Answer}
use Rattle.model_form.specs.FormMeaning.{promises_of}
use Rattle.titan_top.specs.Meanings.{meaning_of}
use Rattle.titan_top.specs.declared.words.Form.{Form}

-- some bytes of the input were taken, of the source unless the form makes its document, and some of these came first; what is written begins the whole
-- answer of those, which the form promises, with all that it promises beside; and that owes nothing to their stopping there
pub record HasFront (form : Form) (input : List ℕ) (left' out out' : Option (List ℕ)) : Type 0 where
  pub taken : List ℕ
  pub rest : Option (List ℕ)
  pub moved : Some input ≡ prepend_known taken rest
  pub of_source : (meaning_of form).made ≡ None → rest ≡ left'
  pub came : List ℕ
  pub more : List ℕ
  pub begins : came ++ more ≡ taken
  pub answer : Answer
  pub promised : promises_of (meaning_of form) came answer
  pub also : (meaning_of form).also came answer
  pub own : IsOwnText (meaning_of form).machine (meaning_of form).first came taken (IsAtEnd rest) answer.text
  pub front : WroteFront answer.text out out'

-- nothing was written, or a front of the answer of some bytes that came first
abbrev pub IsFrontOf : Form → (input : List ℕ) (left' out out' : Option (List ℕ)) → Type 0
IsFrontOf form input left' out out' = (out' ≡ append_known out []) ⊎ HasFront form input left' out out'
