-- A line that is taken: what it may print.
use Rattle.std.proofs.Common.{◌≡◌, ℕ, List, [], ◌++◌, length, Option, Some, None, sym, ap, subst, ◌∙◌}
use Rattle.line_machine.specs.Next.{Next, Stops}
use Rattle.byte_buffer.specs.Outs.{Appended, Buffered}
use Rattle.line_machine.specs.Runs.{length_code, TransitionByCode, Transition}
use Rattle.line_machine.specs.Sent.{SentFront}
use Rattle.line_machine.specs.SentCut.{SentCut}
use Rattle.line_machine.specs.declared.send.Cut.{Cut}
use Rattle.line_machine.specs.declared.send.Cut.TheVariants.{ReadFault, WriteFault, Memory}
use Rattle.line_machine.specs.declared.machine.End.TheVariants.{Refused}
use Rattle.line_machine.specs.declared.machine.Machine.{Ghosts}
use Rattle.line_machine.proofs.SureTextBegins.{takes_long}

-- a cut text of one kind is one of a wider kind
pub sent_cut-map : (P Q : List ℕ → Type 0) (c : Cut) (out out' : Option (List ℕ)) → ((x : List ℕ) → P x → Q x) → SentCut c P out out' → SentCut c Q out out'
sent_cut-map P Q ReadFault out out' f h = h
sent_cut-map P Q WriteFault out out' f h = record { text = h.text; rest = h.rest; is = f (h.text ++ h.rest) h.is; written = h.written }
sent_cut-map P Q Memory out out' f h = h

-- and so is the front of one
pub front-cut : (P Q : List ℕ → Type 0) (c : Cut) (out out' : Option (List ℕ)) → ((x : List ℕ) → P x → Q x) → c ≡ WriteFault → SentFront P out out' → SentCut c Q out out'
front-cut P Q c out out' f e h = rw e (sent_cut-map P Q WriteFault out out' f h)

-- what was appended to a buffer without bytes is what stands in it
pub appended_alone : (Is : List ℕ → Type 0) (old new : Buffered) → old.bytes ≡ [] → Appended Is old new → Is new.bytes
appended_alone Is old new none h = subst Is (sym (h.behind ∙ ap (λ (l : List ℕ). l ++ h.text) none)) h.is

module _ {S : Type 0} (m : Ghosts S) (s : S) (limit n : ℕ) (l : List ℕ) (is : limit ≡ m.limit_of s) where
  pub takes_refused : (code : ℕ) (x : List ℕ) → Some code ≡ length_code limit n (length l) → x ≡ m.refusal s n code → Transition m s n l (Stops Refused) x
  takes_refused code x e f = rw f (takes_long m s n code l (ap (λ k. length_code k n (length l)) (sym is) ∙ sym e))

  pub takes_step : (u : Next S) (x : List ℕ) → (let o : Option ℕ = None in o) ≡ length_code limit n (length l) → m.steps s n l u x → Transition m s n l u x
  takes_step u x e h = subst (λ o. TransitionByCode m o s n l u x) (e ∙ ap (λ k. length_code k n (length l)) is) h
