-- A machine's run to the end of the input, line by line.
use Rattle.std.proofs.Common.{◌≡◌, ℕ, ◌+◌, List, [], ◌∷◌, ◌++◌, length, refl, sym, ap, subst, ◌∙◌, append_assoc, arith}
use Rattle.line_machine.specs.Next.{Next, GoesOn, Stops}
use Rattle.line_machine.specs.Lines.{lines_in, all_lines}
use Rattle.line_machine.specs.Completes.{Completes}
use Rattle.line_machine.specs.Runs.{Transition, Closes, IsText}
use Rattle.line_machine.specs.declared.machine.End.{End}
use Rattle.line_machine.specs.declared.machine.Machine.{Ghosts}
use Rattle.line_machine.proofs.RunsAreOne.{stopped, stays}

-- a line leads here, and the others complete it
pub record Steps {S : Type 0} (m : Ghosts S) (s : S) (n : ℕ) (l : List ℕ) (ls : List (List ℕ)) (e : End) (text : List ℕ) : Type 0 where
  pub next : Next S
  pub first : List ℕ
  pub takes : Transition m s (n + 1) l next first
  pub rest : List ℕ
  pub completes : Completes m next (n + 1) ls e rest
  pub parts : text ≡ first ++ rest

module _ {S : Type 0} (m : Ghosts S) where
  -- a whole text is a run from the first state
  pub of_text : (first : S) (input : List ℕ) (e : End) (text : List ℕ) → IsText m first input e text → Completes m (GoesOn first) 0 (all_lines (lines_in input)) e text
  of_text first input e text is =
      let count : length (all_lines (lines_in input)) ≡ 0 + length (all_lines (lines_in input)) = omega arith in
      record { here = is.here; lines = is.lines; runs = is.runs; last = is.last; closes = subst (λ (k : ℕ). Closes m is.here k e is.last) count is.closes; parts = is.parts }

  pub text_of : (first : S) (input : List ℕ) (e : End) (text : List ℕ) → Completes m (GoesOn first) 0 (all_lines (lines_in input)) e text → IsText m first input e text
  text_of first input e text c =
      let count : 0 + length (all_lines (lines_in input)) ≡ length (all_lines (lines_in input)) = omega arith in
      record { here = c.here; lines = c.lines; runs = c.runs; last = c.last; closes = subst (λ (k : ℕ). Closes m c.here k e c.last) count c.closes; parts = c.parts }

  -- the first line apart, and put back
  pub first_line : (s : S) (n : ℕ) (l : List ℕ) (ls : List (List ℕ)) (e : End) (text : List ℕ) → Completes m (GoesOn s) n (l ∷ ls) e text → Steps m s n l ls e text
  first_line s n l ls e text c =
      let (u, x, y, takes, more, parts) = c.runs in
      let count : n + length (l ∷ ls) ≡ n + 1 + length ls = omega arith in
      record {
        next = u;
        first = x;
        takes = takes;
        rest = y ++ c.last;
        completes = record { here = c.here; lines = y; runs = more; last = c.last; closes = subst (λ (k : ℕ). Closes m c.here k e c.last) count c.closes; parts = refl };
        parts = c.parts ∙ ap (λ (z : List ℕ). z ++ c.last) parts ∙ append_assoc x y c.last;
      }

  pub line_first : (s : S) (n : ℕ) (l : List ℕ) (ls : List (List ℕ)) (e : End) (text : List ℕ) → Steps m s n l ls e text → Completes m (GoesOn s) n (l ∷ ls) e text
  line_first s n l ls e text h =
      let c = h.completes in
      let count : n + 1 + length ls ≡ n + length (l ∷ ls) = omega arith in
      record {
        here = c.here;
        lines = h.first ++ c.lines;
        runs = (h.next, h.first, c.lines, h.takes, c.runs, refl);
        last = c.last;
        closes = subst (λ (k : ℕ). Closes m c.here k e c.last) count c.closes;
        parts = h.parts ∙ ap (λ (z : List ℕ). h.first ++ z) c.parts ∙ sym (append_assoc h.first c.lines c.last);
      }

  -- a program that has ended
  pub at_stop : (f : End) (n : ℕ) (ls : List (List ℕ)) (e : End) (text : List ℕ) → Completes m (Stops f) n ls e text → (e ≡ f) × (text ≡ [])
  at_stop f n ls e text c =
      let p = stopped m f n ls c.here c.lines c.runs in
      let q : (e ≡ f) × (c.last ≡ []) = subst (λ (v : Next S). Closes m v (n + length ls) e c.last) p.0 c.closes in
      (q.0, c.parts ∙ rw (p.1, q.1) refl)

  pub stops : (f : End) (n : ℕ) (ls : List (List ℕ)) → Completes m (Stops f) n ls f []
  stops f n ls = record { here = Stops f; lines = []; runs = stays m f n ls; last = []; closes = (refl, refl); parts = refl }

  -- the end of the input
  pub at_end : (u : Next S) (n : ℕ) (e : End) (text : List ℕ) → Completes m u n [] e text → Closes m u n e text
  at_end u n e text c =
      let count : n + length (let none : List (List ℕ) = [] in none) ≡ n = omega arith in
      let closes : Closes m u n e c.last = subst (λ (k : ℕ). Closes m u k e c.last) count (subst (λ (v : Next S). Closes m v (n + length (let none : List (List ℕ) = [] in none)) e c.last) c.runs.0 c.closes) in
      subst (λ (z : List ℕ). Closes m u n e z) (sym (c.parts ∙ ap (λ (z : List ℕ). z ++ c.last) c.runs.1)) closes

  pub ends : (u : Next S) (n : ℕ) (e : End) (text : List ℕ) → Closes m u n e text → Completes m u n [] e text
  ends u n e text h =
      let count : n ≡ n + length (let none : List (List ℕ) = [] in none) = omega arith in
      record { here = u; lines = []; runs = (refl, refl); last = text; closes = subst (λ (k : ℕ). Closes m u k e text) count h; parts = refl }
