-- How a machine may end: where each line that ends the program, and the end of the input, do so in a way of some kind, so does the program.
use Rattle.std.proofs.Common.{◌≡◌, ℕ, ◌+◌, List, [], ◌∷◌, length, Option, Some, None, refl, sym, subst, ◌∙◌}
use Rattle.line_machine.specs.Lines.{lines_in, all_lines}
use Rattle.line_machine.specs.Next.{Next, GoesOn, Stops}
use Rattle.line_machine.specs.Runs.{length_code, TransitionByCode, Runs, TailByCode, TailTransition, IsSure, Closes, IsText}
use Rattle.line_machine.specs.declared.machine.End.{End}
use Rattle.line_machine.specs.declared.machine.End.TheVariants.{Refused}
use Rattle.line_machine.specs.declared.machine.Machine.{Ghosts}

pub same_end : {S : Type 0} (e f : End) → ◌≡◌ {A = Next S} (Stops e) (Stops f) → e ≡ f
same_end e f h = cc

pub not_end : {S : Type 0} (e : End) (s : S) → Stops e ≡ GoesOn s → ⊥
not_end e s h = absurd cc

module _ {S : Type 0} (m : Ghosts S) (P : End → Type 0) (refused : P Refused) (ends_so : (s : S) (n : ℕ) (l : List ℕ) (e : End) (text : List ℕ) → m.steps s n l (Stops e) text → P e) where
  takes_so : (o : Option ℕ) (s : S) (n : ℕ) (l : List ℕ) (u : Next S) (e : End) (text : List ℕ) → u ≡ Stops e → TransitionByCode m o s n l u text → P e
  takes_so (Some code) s n l u e text is h = subst P (same_end Refused e (sym h.0 ∙ is)) refused
  takes_so None s n l u e text is h = ends_so s n l e text (subst (λ (v : Next S). m.steps s n l v text) is h)

  -- a program that has ended has ended so
  abbrev OnEnd : Next S → Type 0
  OnEnd u = (e : End) → u ≡ Stops e → P e

  runs_so : (u : Next S) (n : ℕ) (ls : List (List ℕ)) (t : Next S) (text : List ℕ) → OnEnd u → Runs m u n ls t text → OnEnd t
  runs_so u n [] t text so r = subst OnEnd (sym r.0) so
  runs_so (Stops f) n (l ∷ ls) t text so r = subst OnEnd (sym r.0) so
  runs_so (GoesOn s) n (l ∷ ls) t text so (v, x, y, takes, rest, parts) =
      runs_so v (n + 1) ls t y (λ e is. takes_so (length_code (m.limit_of s) (n + 1) (length l)) s (n + 1) l v e x is takes) rest

  goes_on_so : (s : S) → OnEnd (GoesOn s)
  goes_on_so s e h = absurd (not_end e s (sym h))

  tail_by : (o : Option ℕ) (s : S) (n : ℕ) (t : Next S) (text : List ℕ) → TailByCode m o s n t text → OnEnd t
  tail_by (Some code) s n t text h = λ e is. subst P (same_end Refused e (sym h.0 ∙ is)) refused
  tail_by None s n t text h = subst OnEnd (sym h.0) (goes_on_so s)

  tail_so : (u : Next S) (n : ℕ) (tail : List ℕ) (t : Next S) (text : List ℕ) → OnEnd u → TailTransition m u n tail t text → OnEnd t
  tail_so u n [] t text so h = subst OnEnd (sym h.0) so
  tail_so (Stops f) n (b ∷ l) t text so h = subst OnEnd (sym h.0) so
  tail_so (GoesOn s) n (b ∷ l) t text so h = tail_by (length_code (m.limit_of s) n (length (b ∷ l))) s n t text h

  -- what bytes decide
  pub sure_so : (first : S) (bytes : List ℕ) (e : End) (text : List ℕ) → IsSure m first bytes (Stops e) text → P e
  sure_so first bytes e text h =
      tail_so h.here (length (lines_in bytes).whole + 1) (lines_in bytes).tail (Stops e) h.last (runs_so (GoesOn first) 0 (lines_in bytes).whole h.here h.lines (goes_on_so first) h.runs) h.tail e refl

  closes_so : ((s : S) (n : ℕ) (f : End) (x : List ℕ) → m.closes s n f x → P f) → (u : Next S) (n : ℕ) (e : End) (text : List ℕ) → OnEnd u → Closes m u n e text → P e
  closes_so closing (Stops f) n e text so h = subst P (sym h.0) (so f refl)
  closes_so closing (GoesOn s) n e text so h = closing s n e text h

  -- a whole text
  pub text_so : ((s : S) (n : ℕ) (f : End) (x : List ℕ) → m.closes s n f x → P f) → (first : S) (input : List ℕ) (e : End) (text : List ℕ) → IsText m first input e text → P e
  text_so closing first input e text h =
      closes_so closing h.here (length (all_lines (lines_in input))) e h.last (runs_so (GoesOn first) 0 (all_lines (lines_in input)) h.here h.lines (goes_on_so first) h.runs) h.closes
