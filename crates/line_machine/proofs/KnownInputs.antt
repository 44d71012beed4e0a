-- What the driver wrote, for an input whose bytes are known.
use Rattle.std.proofs.Common.{◌≡◌, ℕ, ◌⊎◌, inl, inr, List, [], ◌∷◌, ◌++◌, Option, Some, None, Result, Ok, Err, IfSome, IfOk, IfErr, IsErrOf, refl, sym, ap, subst, ◌∙◌, append_assoc, append-nil}
use Rattle.std.specs.Io.KnownBytes.{prepend_known, IsAtEnd}
use Rattle.line_machine.specs.Next.{Next, GoesOn, Stops}
use Rattle.line_machine.specs.Lines.{lines_in, all_lines}
use Rattle.line_machine.specs.Runs.{Runs, IsSure, IsText, IsPrefix}
use Rattle.line_machine.specs.Sent.{SentFront}
use Rattle.line_machine.specs.Driven.{Prints, BySure, ByLines, ByText, OutputBy, Driven}
use Rattle.line_machine.specs.KnownInput.{WroteFront, OutputFor, HasMore, Streamed}
use Rattle.line_machine.specs.declared.send.Cut.{Cut}
use Rattle.line_machine.specs.declared.send.Cut.TheVariants.{ReadFault, WriteFault, Memory}
use Rattle.line_machine.specs.declared.machine.End.{End}
use Rattle.line_machine.specs.declared.machine.Machine.{Ghosts}
use Rattle.line_machine.proofs.RunsAreOne.{IsFixed, runs_are_one}
use Rattle.line_machine.proofs.SureTextBegins.{decided, sure_is_one, text_is_one, sure_begins_text, sure_begins_sure}

-- a front of a front
front_of : (x rest y : List ℕ) → IsPrefix (x ++ rest) y → IsPrefix x y
front_of x rest y f = (rest ++ f.0, sym (append_assoc x rest f.0) ∙ f.1)

same : (x y : List ℕ) → x ≡ y → IsPrefix x y
same x y e = ([], append-nil x ∙ e)

more_or_end : (left : Option (List ℕ)) → HasMore left → IsAtEnd left → ⊥
more_or_end None more end = absurd more
more_or_end (Some []) more end = absurd more
more_or_end (Some (b ∷ l)) more end = absurd cc

pub told : (input a b : List ℕ) → Some input ≡ Some (a ++ b) → a ++ b ≡ input
told input a b e = cc

module _ {S : Type 0} (m : Ghosts S) (first : S) (fixed : IsFixed m) (out out' : Option (List ℕ)) where
  -- what may be printed is a front of each text of the input
  pub prints_begins : (taken left input : List ℕ) (e : End) (x y : List ℕ) → taken ++ left ≡ input → Prints m first taken (Some left) x → IsText m first input e y → IsPrefix x y
  prints_begins taken left input e x y is (BySure some more t parts sure) q =
      let whole : some ++ (more ++ left) ≡ input = sym (append_assoc some more left) ∙ ap (λ (l : List ℕ). l ++ left) parts ∙ is in
      sure_begins_text m first fixed some (more ++ left) x y t e sure (subst (λ b. IsText m first b e y) (sym whole) q)
  prints_begins taken left input e x y is (ByLines t end runs) q =
      let whole : taken ≡ input = sym (append-nil taken) ∙ ap (λ (l : List ℕ). taken ++ l) (sym end) ∙ is in
      let p = runs_are_one m fixed (GoesOn first) t q.here 0 (all_lines (lines_in input)) x q.lines (subst (λ b. Runs m (GoesOn first) 0 (all_lines (lines_in b)) t x) whole runs) q.runs in
      (q.last, ap (λ (l : List ℕ). l ++ q.last) p.1 ∙ sym q.parts)
  prints_begins taken left input e x y is (ByText f end text) q =
      let whole : taken ≡ input = sym (append-nil taken) ∙ ap (λ (l : List ℕ). taken ++ l) (sym end) ∙ is in
      same x y (text_is_one m first fixed input x y f e (subst (λ b. IsText m first b f x) whole text) q).1

  finished : (taken left input : List ℕ) (e : End) (text : List ℕ) → taken ++ left ≡ input → ((IsText m first taken e text × (left ≡ [])) ⊎ IsSure m first taken (Stops e) text) → IsText m first input e text
  finished taken left input e text is (inl h) =
      let whole : taken ≡ input = sym (append-nil taken) ∙ ap (λ (l : List ℕ). taken ++ l) (sym h.1) ∙ is in
      subst (λ b. IsText m first b e text) whole h.0
  finished taken left input e text is (inr h) = subst (λ b. IsText m first b e text) is (decided m first taken left text e h)

  cut_tells : (taken left input : List ℕ) → taken ++ left ≡ input → SentFront (Prints m first taken (Some left)) out out' → (e : End) (y : List ℕ) → IsText m first input e y → WroteFront y out out'
  cut_tells taken left input is h e y q = record { front = h.text; begins = front_of h.text h.rest y (prints_begins taken left input e (h.text ++ h.rest) y is h.is q); written = h.written }

  tells_by : (taken left input : List ℕ) (r : Result End Cut) → taken ++ left ≡ input → OutputBy m first taken (Some left) out out' r → OutputFor m first input out out' r
  tells_by taken left input (Ok e) is h = record { text = h.text; is = finished taken left input e h.text is h.whole; written = h.written }
  tells_by taken left input (Err ReadFault) is h = λ e y q. record { front = h.text; begins = sure_begins_text m first fixed taken left h.text y (GoesOn h.state) e h.sure (subst (λ b. IsText m first b e y) (sym is) q); written = h.written }
  tells_by taken left input (Err WriteFault) is h = cut_tells taken left input is h
  tells_by taken left input (Err Memory) is h = cut_tells taken left input is h

  by_left : (input taken : List ℕ) (left : Option (List ℕ)) (r : Result End Cut) → Some input ≡ prepend_known taken left → OutputBy m first taken left out out' r → OutputFor m first input out out' r
  by_left input taken None r moved says = absurd cc
  by_left input taken (Some left) r moved says = tells_by taken left input r (told input taken left moved) says

  -- what was written, for a known input
  tells : (input : List ℕ) (left : Option (List ℕ)) (r : Result End Cut) → Driven m first (Some input) left out out' r → OutputFor m first input out out' r
  tells input left r d = by_left input d.taken left r d.moved d.says

  -- what was written is a front of what the taken bytes decide
  prints_sure : (taken : List ℕ) (left : Option (List ℕ)) (x y : List ℕ) (t : Next S) → HasMore left → Prints m first taken left x → IsSure m first taken t y → IsPrefix x y
  prints_sure taken left x y t more (BySure some rest u parts sure) q = sure_begins_sure m first fixed some rest x y u t sure (subst (λ b. IsSure m first b t y) (sym parts) q)
  prints_sure taken left x y t more (ByLines u end runs) q = absurd (more_or_end left more end)
  prints_sure taken left x y t more (ByText f end text) q = absurd (more_or_end left more end)

  cut_sure : (taken : List ℕ) (left : Option (List ℕ)) (y : List ℕ) (t : Next S) → HasMore left → SentFront (Prints m first taken left) out out' → IsSure m first taken t y → WroteFront y out out'
  cut_sure taken left y t more h q = record { front = h.text; begins = front_of h.text h.rest y (prints_sure taken left (h.text ++ h.rest) y t more h.is q); written = h.written }

  finished_sure : (taken : List ℕ) (left : Option (List ℕ)) (e : End) (x y : List ℕ) (t : Next S) → HasMore left → ((IsText m first taken e x × IsAtEnd left) ⊎ IsSure m first taken (Stops e) x) → IsSure m first taken t y → IsPrefix x y
  finished_sure taken left e x y t more (inl h) q = absurd (more_or_end left more h.1)
  finished_sure taken left e x y t more (inr h) q = same x y (sure_is_one m first fixed taken x y (Stops e) t h q).1

  sure_by : (taken : List ℕ) (left : Option (List ℕ)) (r : Result End Cut) (t : Next S) (y : List ℕ) → HasMore left → OutputBy m first taken left out out' r → IsSure m first taken t y → WroteFront y out out'
  sure_by taken left (Ok e) t y more h q = record { front = h.text; begins = finished_sure taken left e h.text y t more h.whole q; written = h.written }
  sure_by taken left (Err ReadFault) t y more h q = record { front = h.text; begins = same h.text y (sure_is_one m first fixed taken h.text y (GoesOn h.state) t h.sure q).1; written = h.written }
  sure_by taken left (Err WriteFault) t y more h q = cut_sure taken left y t more h q
  sure_by taken left (Err Memory) t y more h q = cut_sure taken left y t more h q

  pub streamed : (left left' : Option (List ℕ)) (r : Result End Cut) → Driven m first left left' out out' r → Streamed m first left left' out out' r
  streamed left left' r d = record { driven = d; sure = λ more t y q. sure_by d.taken left' r t y more d.says q }

  pub told_tells : (left left' : Option (List ℕ)) (r : Result End Cut) → Driven m first left left' out out' r → IfSome left (λ input. OutputFor m first input out out' r)
  told_tells None left' r d = tt
  told_tells (Some input) left' r d = tells input left' r d

  ends_as : (input : List ℕ) (r : Result End Cut) → OutputFor m first input out out' r → (e : End) (y : List ℕ) → IsText m first input e y → IfOk r (λ f. f ≡ e)
  ends_as input (Ok f) h e y q = (text_is_one m first fixed input h.text y f e h.is q).0
  ends_as input (Err c) h e y q = tt

  -- the answer is the end of each text of the input
  pub told_ends : (left : Option (List ℕ)) (r : Result End Cut) → IfSome left (λ input. OutputFor m first input out out' r) → IfSome left (λ input. (e : End) (y : List ℕ) → IsText m first input e y → IfOk r (λ f. f ≡ e))
  told_ends None r h = tt
  told_ends (Some input) r h = ends_as input r h

-- each fault has its cause, so without one memory ran out
pub only_memory : (r : Result End Cut) (P Q : Type 0) → (IsErrOf r ReadFault → P) → (IsErrOf r WriteFault → Q) → (P → ⊥) → (Q → ⊥) → IfErr r (λ c. c ≡ Memory)
only_memory (Ok e) P Q f h no_p no_q = tt
only_memory (Err ReadFault) P Q f h no_p no_q = absurd (no_p (f refl))
only_memory (Err WriteFault) P Q f h no_p no_q = absurd (no_q (h refl))
only_memory (Err Memory) P Q f h no_p no_q = refl
