-- What a form of words takes and writes, whatever is known of the source.
use Rattle.std.specs.Prelude.{◌≡◌, ◌≤◌, ℕ, List, length, IfSome, Option, Some, None, Result}
use Rattle.line_machine.specs.Call.{Call}
use Rattle.line_machine.specs.Driven.{HasRoomFor}
use Rattle.line_machine.specs.IsDriven.{EndsFor, IsDriven}
use Rattle.line_machine.specs.KnownInput.{OutputFor, Streamed}
use Rattle.line_machine.specs.declared.machine.End.{End}
use Rattle.line_machine.specs.declared.machine.Machine.{Ghosts}
use Rattle.line_machine.specs.declared.send.Cut.{Cut}
use Rattle.titan_top.specs.Meanings.{meaning_of}
use Rattle.titan_top.specs.Output.{usage_text}
use Rattle.titan_top.specs.Statuses.{status_of}
use Rattle.titan_top.specs.declared.status.Status.{Status}
use Rattle.titan_top.specs.declared.words.Form.{Form}

-- what a form that makes a document reads is that, whatever the source has, and else it is what the source tells
abbrev pub or_made : Option (List ℕ) → Option (List ℕ) → Option (List ℕ)
or_made None left = left
or_made (Some document) left = Some document

-- the input that is read
abbrev pub input_for : Option Form → Option (List ℕ) → Option (List ℕ)
input_for None left = left
input_for (Some form) left = or_made (meaning_of form).made left

-- of the input that is read, where it is known
abbrev pub OfInput : Option Form → Option (List ℕ) → (List ℕ → Type 0) → Type 0
OfInput form left Is = IfSome (input_for form left) Is

-- all that may be printed fits into so many bytes
abbrev pub FitsIn : ℕ → Option Form → Option (List ℕ) → Type 0
FitsIn n None left = length usage_text ≤ n
FitsIn n (Some form) left = HasRoomFor (meaning_of form).machine (meaning_of form).first (input_for (Some form) left) (Some n)

-- where the sink's space is known, all that may be printed fits
abbrev pub HasRoomForWords : Option Form → Option (List ℕ) → Option ℕ → Type 0
HasRoomForWords form left space = IfSome space (λ n. FitsIn n form left)

-- ---- what was driven

-- a machine was driven over a document that was made, with this answer, and of the source nothing was taken
pub record StreamedOver (document : List ℕ) {S : Type 0} (m : Ghosts S) (first : S) (left left' out out' : Option (List ℕ)) (result : Result End Cut) : Type 0 where
  pub rest : Option (List ℕ)
  pub driven : Streamed m first (Some document) rest out out' result
  pub stays : left' ≡ left

-- a machine was driven with this answer, over the source or over the document that was made
abbrev pub StreamedBy : Option (List ℕ) → {S : Type 0} → Ghosts S → S → (left left' out out' : Option (List ℕ)) → Result End Cut → Type 0
StreamedBy None m first left left' out out' result = Streamed m first left left' out out' result
StreamedBy (Some document) m first left left' out out' result = StreamedOver document m first left left' out out' result

-- the form's machine was driven, with this answer
abbrev pub StreamedFor : Form → (left left' out out' : Option (List ℕ)) → Result End Cut → Type 0
StreamedFor form left left' out out' result = StreamedBy (meaning_of form).made (meaning_of form).machine (meaning_of form).first left left' out out' result

-- the form's machine was driven, and the status is its answer's
pub record StreamsAs (form : Form) (left left' out out' : Option (List ℕ)) (status : Status) : Type 0 where
  pub result : Result End Cut
  pub is : status ≡ status_of result
  pub streamed : StreamedFor form left left' out out' result

-- all that is known of a machine that was driven over a document that was made; the source wasn't asked
pub record IsDrivenOver (document : List ℕ) {S : Type 0} (m : Ghosts S) (first : S) (left left' out out' : Option (List ℕ)) (calls calls' : Option (List Call)) (result : Result End Cut) : Type 0 where
  pub streamed : StreamedOver document m first left left' out out' result
  pub text : OutputFor m first document out out' result
  pub ends : EndsFor m first document result
  pub unasked : calls' ≡ calls

-- all that is known of a machine that was driven, over the source or over the document that was made
abbrev pub IsDrivenBy : Option (List ℕ) → {S : Type 0} → Ghosts S → S → (left left' out out' : Option (List ℕ)) → (calls calls' : Option (List Call)) → Result End Cut → Type 0
IsDrivenBy None m first left left' out out' calls calls' result = IsDriven m first left left' out out' calls calls' result
IsDrivenBy (Some document) m first left left' out out' calls calls' result = IsDrivenOver document m first left left' out out' calls calls' result

-- all that is known of a form's machine that was driven: what was taken and written, and that the source was asked in turn. At each call all that the bytes so far decide
-- had been written, and it was no end. A form that makes a document doesn't ask it
abbrev pub IsDrivenAs : Form → (left left' out out' : Option (List ℕ)) → (calls calls' : Option (List Call)) → Result End Cut → Type 0
IsDrivenAs form left left' out out' calls calls' result = IsDrivenBy (meaning_of form).made (meaning_of form).machine (meaning_of form).first left left' out out' calls calls' result
