-- Where the driver stands between two lines, and what it may print next.
use Rattle.std.proofs.Common.{◌≡◌, ℕ, ◌+◌, ◌<◌, List, [], ◌∷◌, ◌++◌, length, take, Option, Some, None, refl, sym, ap, subst, ◌∙◌, append_assoc, append-nil, arith, length-append}
use Rattle.line_machine.specs.Next.{Next, GoesOn, Stops}
use Rattle.line_machine.specs.Lines.{lines_in, all_lines, last_line, HasNoLf, HasLine}
use Rattle.line_machine.specs.Runs.{length_code, Transition, Runs, TailTransition, TailByCode, IsSure, Closes, Ends, IsText}
use Rattle.line_machine.specs.declared.machine.End.{End}
use Rattle.line_machine.specs.declared.machine.End.TheVariants.{Refused}
use Rattle.line_machine.specs.declared.machine.Machine.{Ghosts}
use Rattle.line_machine.proofs.JoinedLines.{lines-append, no_lf, one_line}
use Rattle.line_machine.proofs.FirstLineFeed.{line_is, take_with_lf}
use Rattle.line_machine.proofs.RunsAreOne.{runs_on}
use Rattle.line_machine.proofs.SureTextBegins.{sure_from, tail_long}

module _ {S : Type 0} (m : Ghosts S) (first : S) where
  -- some bytes were given out as whole lines: they lead here, and this was printed
  pub record IsAt (given : List ℕ) (n : ℕ) (s : S) (text : List ℕ) : Type 0 where
    pub whole : List (List ℕ)
    pub lines : lines_in given ≡ record { whole = whole; tail = [] }
    pub count : n ≡ length whole
    pub runs : Runs m (GoesOn first) 0 whole (GoesOn s) text

  one_more : (s : S) (n : ℕ) (l : List ℕ) (u : Next S) (p : List ℕ) → Transition m s (n + 1) l u p → Runs m (GoesOn s) n (l ∷ []) u p
  one_more s n l u p h = (u, p, [], h, (refl, refl), sym (append-nil p))

  module _ (given held : List ℕ) (n : ℕ) (s : S) (text : List ℕ) (at : IsAt given n s text) where
    -- the lines of what was given and what is held
    held_lines : HasNoLf held → lines_in (given ++ held) ≡ record { whole = at.whole; tail = held }
    held_lines h = lines-append [] given held ∙ rw (at.lines, no_lf [] held h) (ap (λ (l : List (List ℕ)). record { whole = l; tail = held }) (append-nil at.whole))

    line_lines : (l : List ℕ) → HasNoLf l → lines_in (given ++ (l ++ 10 ∷ [])) ≡ record { whole = at.whole ++ l ∷ []; tail = [] }
    line_lines l h = lines-append [] given (l ++ 10 ∷ []) ∙ rw (at.lines, one_line l h) refl

    run_on : (l : List ℕ) (u : Next S) (p : List ℕ) → Transition m s (n + 1) l u p → Runs m (GoesOn first) 0 (at.whole ++ l ∷ []) u (text ++ p)
    run_on l u p h = runs_on m (GoesOn first) (GoesOn s) u 0 n at.whole (l ∷ []) text p (omega (arith, at.count)) at.runs (one_more s n l u p h)

    -- the whole line that is held first is given out
    pub line_taken : (k : ℕ) (u : Next S) (p : List ℕ) → HasLine held k → Transition m s (n + 1) (take k held) u p → IsSure m first (given ++ take (k + 1) held) u (text ++ p)
    line_taken k u p h takes =
        let line_at : take k held ≡ h.line = line_is held k h in
        let with_lf : take (k + 1) held ≡ h.line ++ 10 ∷ [] = take_with_lf held k h in
        rw (with_lf) (sure_from m first (given ++ (h.line ++ 10 ∷ [])) (record { whole = at.whole ++ h.line ∷ []; tail = [] }) u (text ++ p) (line_lines h.line h.clean) record {
          there = u;
          lines = text ++ p;
          runs = run_on h.line u p (subst (λ l. Transition m s (n + 1) l u p) line_at takes);
          last = [];
          tail = (refl, refl);
          parts = sym (append-nil (text ++ p));
        })

    pub next_at : (k : ℕ) (t : S) (p : List ℕ) → HasLine held k → Transition m s (n + 1) (take k held) (GoesOn t) p → IsAt (given ++ take (k + 1) held) (n + 1) t (text ++ p)
    next_at k t p h takes =
        let line_at : take k held ≡ h.line = line_is held k h in
        let with_lf : take (k + 1) held ≡ h.line ++ 10 ∷ [] = take_with_lf held k h in
        record {
          whole = at.whole ++ h.line ∷ [];
          lines = ap (λ (l : List ℕ). lines_in (given ++ l)) with_lf ∙ line_lines h.line h.clean;
          count = omega (arith, at.count, length-append at.whole (h.line ∷ []));
          runs = run_on h.line (GoesOn t) p (subst (λ l. Transition m s (n + 1) l (GoesOn t) p) line_at takes);
        }

    tail_by : (o : Option ℕ) → o ≡ None → TailByCode m o s (n + 1) (GoesOn s) []
    tail_by o e = subst (λ v. TailByCode m v s (n + 1) (GoesOn s) []) (sym e) (refl, refl)

    tail_waits : (l : List ℕ) → (0 < length l → length_code (m.limit_of s) (n + 1) (length l) ≡ None) → TailTransition m (GoesOn s) (n + 1) l (GoesOn s) []
    tail_waits [] h = (refl, refl)
    tail_waits (b ∷ l) h = tail_by (length_code (m.limit_of s) (n + 1) (length (b ∷ l))) (h (omega arith))

    tail_at : (t : Next S) (p : List ℕ) → HasNoLf held → TailTransition m (GoesOn s) (n + 1) held t p → IsSure m first (given ++ held) t (text ++ p)
    tail_at t p clean h =
        let count : n + 1 ≡ 0 + length at.whole + 1 = omega (arith, at.count) in
        sure_from m first (given ++ held) (record { whole = at.whole; tail = held }) t (text ++ p) (held_lines clean) record {
          there = GoesOn s;
          lines = text;
          runs = at.runs;
          last = p;
          tail = subst (λ (k : ℕ). TailTransition m (GoesOn s) k held t p) count h;
          parts = refl;
        }

    -- the bytes that are held decide nothing
    pub waits : HasNoLf held → (0 < length held → length_code (m.limit_of s) (n + 1) (length held) ≡ None) → IsSure m first (given ++ held) (GoesOn s) text
    waits clean h = subst (λ (x : List ℕ). IsSure m first (given ++ held) (GoesOn s) x) (append-nil text) (tail_at (GoesOn s) [] clean (tail_waits held h))

    -- they are a line that is refused
    pub long_taken : (code : ℕ) → HasNoLf held → 0 < length held → length_code (m.limit_of s) (n + 1) (length held) ≡ Some code → IsSure m first (given ++ held) (Stops Refused) (text ++ m.refusal s (n + 1) code)
    long_taken code clean some e = tail_at (Stops Refused) (m.refusal s (n + 1) code) clean (tail_long m s (n + 1) code held some e)

    -- the given bytes alone
    pub so_far : IsSure m first given (GoesOn s) text
    so_far =
        sure_from m first given (record { whole = at.whole; tail = [] }) (GoesOn s) text at.lines record { there = GoesOn s; lines = text; runs = at.runs; last = []; tail = (refl, refl); parts = sym (append-nil text) }

    -- ---- at the end of the input they are the last line
    all_are : HasNoLf held → all_lines (lines_in (given ++ held)) ≡ at.whole ++ last_line held
    all_are clean = ap all_lines (held_lines clean)

    pub last_run : (t : Next S) (x : List ℕ) → HasNoLf held → Runs m (GoesOn s) n (last_line held) t x → Runs m (GoesOn first) 0 (all_lines (lines_in (given ++ held))) t (text ++ x)
    last_run t x clean r = subst (λ ls. Runs m (GoesOn first) 0 ls t (text ++ x)) (sym (all_are clean)) (runs_on m (GoesOn first) (GoesOn s) t 0 n at.whole (last_line held) text x (omega (arith, at.count)) at.runs r)

    pub last_closed : (e : End) (x : List ℕ) → HasNoLf held → Ends m s n held e x → IsText m first (given ++ held) e (text ++ x)
    last_closed e x clean h =
        let count : n + length (last_line held) ≡ length (all_lines (lines_in (given ++ held))) = omega (arith, at.count, ap length (all_are clean), length-append at.whole (last_line held)) in
        record { here = h.here; lines = text ++ h.line; runs = last_run h.here h.line clean h.runs; last = h.last; closes = subst (λ (k : ℕ). Closes m h.here k e h.last) count h.closes; parts = ap (λ (l : List ℕ). text ++ l) h.parts ∙ sym (append_assoc text h.line h.last) }
