-- A form whose lines ask for things does what it means and keeps it: it says what its lines say, what they come to and what is printed of that.
use Rattle.std.proofs.Common.{◌≡◌, ℕ, false, List, [], ◌++◌, Option, Some, Result, Ok, refl, sym, ap, subst, ◌∙◌}
use Rattle.cca_base.specs.Accepted.{CompiledModel, IsCompiled}
use Rattle.line_forms.specs.Asked.{Effect, FollowsEffect, Shown, Tells}
use Rattle.line_forms.specs.LinesMachine.{lines_machine}
use Rattle.line_forms.specs.LineMeaning.{LineMeaning}
use Rattle.line_forms.proofs.EndsRefused.{lines_end_by_refusal, lines_fixed}
use Rattle.line_forms.proofs.OneAsked.{asked_one}
use Rattle.line_forms.proofs.Silent.{same_ending}
use Rattle.line_forms.proofs.Telling as telling
use Rattle.line_machine.specs.Completes.{Completes}
use Rattle.line_machine.specs.Next.{Next, GoesOn, Stops}
use Rattle.line_machine.specs.declared.machine.End.{End}
use Rattle.line_machine.specs.declared.machine.End.TheVariants.{Ended}
use Rattle.model_form.specs.Answers.{Answer, AnswersByEnd, AreTold, IsAnswer, answer}
use Rattle.model_form.specs.FormMachine.{form_machine}
use Rattle.model_form.specs.FormMeaning.{FormAgrees, FormKeeps}
use Rattle.model_form.specs.FormStates.{form_first}
use Rattle.model_form.specs.LineMachines.{form_of_lines}
use Rattle.model_form.specs.LinesEnds.{Asked, HasRefusedLine, IsReadWhole, LinesEnd, ReadsLines, ending}
use Rattle.line_forms.specs.SaysAsked.{SaysAsked, EndsAsked, asked_meaning}
use Rattle.model_form.proofs.ByLines.{ends_anywhere, reading_keeps}
use Rattle.model_form.proofs.Following.{lines_told}
use Rattle.model_form.proofs.LinesAgree.{lines_form_agrees}
use Rattle.model_form.proofs.NeverRejected.{ended_not}
use Rattle.model_form.proofs.RefusedOnly.{EndsByRefusal, IsRefused}

-- a form whose lines ask for things: where it stands, what a line says there, what follows of an item, what it comes to, what a thing prints, and the text of
-- all things; and that its state says and does that, each in one way
pub record AskedForm (L R S T X : Type 0) : Type 1 where
  pub lines : LineMeaning L R
  pub first : CompiledModel → L
  pub place : CompiledModel → T
  pub settings : CompiledModel → S
  pub at : CompiledModel → T → S → L
  pub IsSaid : CompiledModel → S → List ℕ → Result (Option R) ℕ → Type 0
  pub Follows : CompiledModel → R → S → ℕ → (S → Asked X → Type 0) → Asked X → Type 0
  pub Leads : CompiledModel → R → S → Effect S X → Type 0
  pub Shows : CompiledModel → T → X → T → List ℕ → Type 0
  pub Ties : CompiledModel → T → S → Type 0
  pub Texts : CompiledModel → List X → List ℕ → Type 0
  pub begins : (b : CompiledModel) → at b (place b) (settings b) ≡ first b
  pub ties : (b : CompiledModel) → Ties b (place b) (settings b)
  pub tells : (b : CompiledModel) → IsCompiled b → Tells lines false b.model (at b) (IsSaid b) (Follows b) (Leads b) (Shows b) (Ties b) (λ t. [])
  pub leads : (b : CompiledModel) (r : R) (s : S) (n : ℕ) (Later : S → Asked X → Type 0) (a : Asked X) → Follows b r s n Later a → (f : Effect S X) × Leads b r s f × FollowsEffect f n Later a
  pub said_once : (b : CompiledModel) (s : S) (l : List ℕ) (x y : Result (Option R) ℕ) → IsSaid b s l x → IsSaid b s l y → x ≡ y
  pub one_effect : (b : CompiledModel) (r : R) (s : S) (f g : Effect S X) → Leads b r s f → Leads b r s g → f ≡ g
  pub texts : (b : CompiledModel) (xs : List X) (y : T) (text : List ℕ) → Shown (Shows b) (place b) xs y text → Texts b xs text
  pub shown : (b : CompiledModel) (xs : List X) (text : List ℕ) → Texts b xs text → (y : T) × Shown (Shows b) (place b) xs y text
  pub said_one : (x : L) (l : List ℕ) (a c : Result (Option R) ℕ) → lines.said x l a → lines.said x l c → a ≡ c
  pub serves_one : (r : R) (x : L) (l : List ℕ) (n : ℕ) (u v : Next L) (a c : List ℕ) → lines.said x l (Ok (Some r)) → lines.serves r x n u a → lines.serves r x n v c → (u ≡ v) × (a ≡ c)
  pub refused : (r : R) (x : L) (n : ℕ) (e : End) (text : List ℕ) → lines.serves r x n (Stops e) text → IsRefused e
  pub silent : (x : L) (n : ℕ) → answer Ended [] ≡ lines.closing x n

module _ {L R S T X : Type 0} (k : AskedForm L R S T X) where
  -- what the lines behind n lines ask for
  abbrev pub Reads : CompiledModel → ℕ → List (List ℕ) → Asked X → Type 0
  Reads b n ls r = ReadsLines (k.IsSaid b) (k.Follows b) (k.settings b) n ls r

  module _ (b : CompiledModel) (n : ℕ) (ls : List (List ℕ)) (e : End) (text : List ℕ) (compiled : IsCompiled b) where
    -- what is printed from this state on
    abbrev Prints : L → Type 0
    Prints x = Completes (lines_machine k.lines) (GoesOn x) n ls e text

    told : Prints (k.first b) → SaysAsked Reads k.Texts b n ls e text
    told h =
        let q = telling.told k.lines false b.model (k.at b) (k.IsSaid b) (k.Follows b) (k.Leads b) (k.Shows b) (k.Ties b) (λ t. []) (k.tells b compiled) ls (k.place b) (k.settings b) (k.ties b) n e text (subst Prints (sym (k.begins b)) h) in
        let same = same_ending b.model q.last q.asked.ending in
        (q.asked, q.told, q.reads, k.texts b q.asked.items q.last q.told q.shown, q.end ∙ ap (λ (a : Answer). a.end) same, q.parts ∙ ap (λ (a : Answer). q.told ++ a.text) same)

    tells : SaysAsked Reads k.Texts b n ls e text → Prints (k.first b)
    tells (r, words, reads, are, end, is) =
        let (y, shown) = k.shown b r.items words are in
        let same = sym (same_ending b.model y r.ending) in
        subst Prints (k.begins b) (telling.tells k.lines false b.model (k.at b) (k.IsSaid b) (k.Follows b) (k.Leads b) (k.Shows b) (k.Ties b) (λ t. []) (k.tells b compiled) ls (k.place b) (k.settings b) (k.ties b) n e text
        (record { asked = r; told = words; last = y; reads = reads; shown = shown; end = end ∙ ap (λ (a : Answer). a.end) same; parts = is ∙ ap (λ (a : Answer). words ++ a.text) same }))

  pub asked_told : AreTold (form_machine (form_of_lines k.first) (lines_machine k.lines)) (form_first (record {})) false (SaysAsked Reads k.Texts)
  asked_told = lines_told k.first (lines_machine k.lines) (SaysAsked Reads k.Texts) told tells

  pub one_asked : (b : CompiledModel) (n : ℕ) (ls : List (List ℕ)) (r q : Asked X) → Reads b n ls r → Reads b n ls q → r ≡ q
  one_asked b n ls r q h j = asked_one (k.IsSaid b) (k.Follows b) (k.Leads b) (k.leads b) (k.said_once b) (k.one_effect b) ls (k.settings b) n r q h j

  ends_as : (b : CompiledModel) (n : ℕ) (ls : List (List ℕ)) (e : End) (text : List ℕ) → SaysAsked Reads k.Texts b n ls e text → (lines : LinesEnd) × EndsAsked Reads k.Texts b n ls lines × (e ≡ (ending b.model lines).end)
  ends_as b n ls e text (r, words, reads, are, ends, parts) = (r.ending, (r, reads, refl), ends)

  one_end : (b : CompiledModel) (n : ℕ) (ls : List (List ℕ)) (x y : LinesEnd) → EndsAsked Reads k.Texts b n ls x → EndsAsked Reads k.Texts b n ls y → x ≡ y
  one_end b n ls x y (r, reads, is) (q, also, was) = sym is ∙ ap (λ (z : Asked X). z.ending) (one_asked b n ls r q reads also) ∙ was

  pub asked_ends : EndsByRefusal k.first (lines_machine k.lines)
  asked_ends = lines_end_by_refusal k.lines k.refused k.first (λ x n. ended_not (k.lines.closing x n).end (sym (ap (λ (a : Answer). a.end) (k.silent x n)))) (lines_fixed k.lines k.said_one k.serves_one)

  module _ (Also : List ℕ → Answer → Type 0) where
    pub asked_agrees : FormAgrees (asked_meaning Reads k.Texts k.lines k.first Also)
    asked_agrees = lines_form_agrees (SaysAsked Reads k.Texts) (EndsAsked Reads k.Texts) Also ends_as one_end k.first (lines_machine k.lines) asked_told asked_ends.fixed

    pub asked_keeps : ((input : List ℕ) (a : Answer) → IsAnswer false (SaysAsked Reads k.Texts) input a.end a.text → Also input a) → FormKeeps (asked_meaning Reads k.Texts k.lines k.first Also)
    asked_keeps also =
        reading_keeps (form_machine (form_of_lines k.first) (lines_machine k.lines)) (form_first (record {})) (AnswersByEnd false (SaysAsked Reads k.Texts)) (IsReadWhole (EndsAsked Reads k.Texts)) (HasRefusedLine (EndsAsked Reads k.Texts)) Also also
        (ends_anywhere (form_of_lines k.first) (lines_machine k.lines) k.silent (form_first (record {}))) (asked_ends.sure (form_first (record {})))
