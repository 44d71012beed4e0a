-- What calls lead to is the machine's run over their lines.
use Rattle.std.proofs.Common.{◌≡◌, ℕ, ◌+◌, List, [], ◌∷◌, ◌++◌, length, All, refl, sym, ap, subst, ◌∙◌, append_assoc, append-nil, arith, length-append}
use Rattle.std.proofs.lemmas.List.Elements.{All-nil, All-cons, All-append}
use Rattle.line_machine.specs.Completes.{Completes}
use Rattle.line_machine.specs.Lines.{lines_in, joined_lines, HasNoLf}
use Rattle.line_machine.specs.Next.{Next, GoesOn, Stops}
use Rattle.line_machine.specs.Runs.{Transition, Runs, Closes, IsSure, IsText}
use Rattle.line_machine.specs.declared.machine.End.{End}
use Rattle.line_machine.specs.declared.machine.Machine.{Ghosts}
use Rattle.line_machine.proofs.JoinedLines.{joined_before, joined_are_lines}
use Rattle.line_machine.proofs.RunsAreOne.{runs_on}
use Rattle.line_machine.proofs.SureTextBegins.{sure_from}
use Rattle.titan_session.specs.Sessions.{SessionState, stage_of, TakesLine, Call, Line, Finish, Take, Does, LeadTo, lines_of, taken_of}
use Rattle.titan_session.specs.declared.session.Stage.{Stage}
use Rattle.titan_session.specs.declared.session.Stage.TheVariants.{Going, Over, Lost}

module _ {S : Type 0} (m : Ghosts S) (first : S) where
  -- by where the session stands: the lines lead there and this is said of them, or they lead to the end with this whole text
  abbrev ReachedBy : Stage S → List Call → ℕ → List ℕ → Type 0
  ReachedBy (Going s) calls count said = Runs m (GoesOn first) 0 (lines_of calls) (GoesOn s) said × (count ≡ length (lines_of calls))
  ReachedBy (Over e) calls count said = Completes m (GoesOn first) 0 (lines_of calls) e said
  ReachedBy Lost calls count said = ⊥

  moved : (calls : List Call) (x y : Stage S) (n k : ℕ) (a c : List ℕ) → x ≡ y → n ≡ k → a ≡ c → ReachedBy y calls k c → ReachedBy x calls n a
  moved calls x y n k a c e f g h =
      subst (λ (st : Stage S). ReachedBy st calls n a) (sym e) (subst (λ (j : ℕ). ReachedBy y calls j a) (sym f) (subst (λ (l : List ℕ). ReachedBy y calls k l) (sym g) h))

  -- one line more
  one_more : (calls : List Call) (s : S) (count : ℕ) (before line text : List ℕ) (next : Next S) → count ≡ length (lines_of calls) → Runs m (GoesOn first) 0 (lines_of calls) (GoesOn s) before
      → Transition m s (count + 1) line next text → Runs m (GoesOn first) 0 (lines_of calls ++ line ∷ []) next (before ++ text)
  one_more calls s count before line text next e runs step =
      runs_on m (GoesOn first) (GoesOn s) next 0 count (lines_of calls) (line ∷ []) before text (omega (arith, e)) runs (next, text, [], step, (refl, refl), sym (append-nil text))

  by_line : (calls : List Call) (s : S) (count : ℕ) (before line text : List ℕ) (next : Next S) → ReachedBy (Going s) calls count before → Transition m s (count + 1) line next text
      → ReachedBy (stage_of next) (Line line ∷ calls) (count + 1) (before ++ text)
  by_line calls s count before line text (GoesOn t) h step =
      (one_more calls s count before line text (GoesOn t) h.1 h.0 step, omega (arith, h.1, length-append (lines_of calls) (line ∷ [])))
  by_line calls s count before line text (Stops e) h step = record {
    here = Stops e;
    lines = before ++ text;
    runs = one_more calls s count before line text (Stops e) h.1 h.0 step;
    last = [];
    closes = (refl, refl);
    parts = sym (append-nil (before ++ text));
  }

  by_end : (calls : List Call) (s : S) (count : ℕ) (before text : List ℕ) (e : End) → ReachedBy (Going s) calls count before → m.closes s count e text → ReachedBy (Over e) (Finish ∷ calls) count (before ++ text)
  by_end calls s count before text e h closes = record {
    here = GoesOn s;
    lines = before;
    runs = h.0;
    last = text;
    closes = subst (λ (n : ℕ). m.closes s n e text) (let is : count ≡ 0 + length (lines_of calls) = omega (arith, h.1) in is) closes;
    parts = refl;
  }

  -- bytes that are taken are no line
  by_stage : (x : Stage S) (calls : List Call) (bytes : List ℕ) (n : ℕ) (said : List ℕ) → ReachedBy x calls n said → ReachedBy x (Take bytes ∷ calls) n said
  by_stage (Going s) calls bytes n said h = h
  by_stage (Over e) calls bytes n said h = h
  by_stage Lost calls bytes n said h = h

  -- a call, by what was reached before it
  by_call : (call : Call) (calls : List Call) (y z : SessionState S) → ReachedBy y.stage calls y.count (taken_of calls ++ y.pending) → Does m call y z → ReachedBy z.stage (call ∷ calls) z.count (taken_of (call ∷ calls) ++ z.pending)
  by_call (Line line) calls y z h d =
      let going = subst (λ (st : Stage S). ReachedBy st calls y.count (taken_of calls ++ y.pending)) d.went_on h in
      moved (Line line ∷ calls) z.stage (stage_of d.next) z.count (y.count + 1) (taken_of calls ++ z.pending) ((taken_of calls ++ y.pending) ++ d.text) d.stands d.counts
      (ap (λ (l : List ℕ). taken_of calls ++ l) d.waits ∙ sym (append_assoc (taken_of calls) y.pending d.text))
      (by_line calls d.state y.count (taken_of calls ++ y.pending) line d.text d.next going d.step)
  by_call Finish calls y z h d =
      let going = subst (λ (st : Stage S). ReachedBy st calls y.count (taken_of calls ++ y.pending)) d.went_on h in
      moved (Finish ∷ calls) z.stage (Over d.end) z.count y.count (taken_of calls ++ z.pending) ((taken_of calls ++ y.pending) ++ d.text) d.is_over d.counts
      (ap (λ (l : List ℕ). taken_of calls ++ l) d.waits ∙ sym (append_assoc (taken_of calls) y.pending d.text))
      (by_end calls d.state y.count (taken_of calls ++ y.pending) d.text d.end going d.closes)
  by_call (Take bytes) calls y z h d =
      let same_lines : ReachedBy y.stage (Take bytes ∷ calls) y.count (taken_of calls ++ y.pending) = by_stage y.stage calls bytes y.count (taken_of calls ++ y.pending) h in
      moved (Take bytes ∷ calls) z.stage y.stage z.count y.count ((taken_of calls ++ bytes) ++ z.pending) (taken_of calls ++ y.pending) d.stays d.counts
      (append_assoc (taken_of calls) bytes z.pending ∙ ap (λ (l : List ℕ). taken_of calls ++ l) (sym d.moved)) same_lines

  reached : (calls : List Call) (z : SessionState S) → LeadTo m first calls z → ReachedBy z.stage calls z.count (taken_of calls ++ z.pending)
  reached [] z e = moved [] z.stage (Going first) z.count 0 z.pending [] (ap (λ (x : SessionState S). x.stage) e) (ap (λ (x : SessionState S). x.count) e) (ap (λ (x : SessionState S). x.pending) e) ((refl, refl), refl)
  reached (call ∷ calls) z (y, before, does) = by_call call calls y z (reached calls y before) does

  -- no line that was given has LF
  clean_by : (call : Call) (calls : List Call) (y z : SessionState S) → All HasNoLf (lines_of calls) → Does m call y z → All HasNoLf (lines_of (call ∷ calls))
  clean_by (Line line) calls y z h d = All-append HasNoLf (lines_of calls) (line ∷ []) h (All-cons HasNoLf line [] d.clean (All-nil HasNoLf))
  clean_by Finish calls y z h d = h
  clean_by (Take bytes) calls y z h d = h

  all_clean : (calls : List Call) (z : SessionState S) → LeadTo m first calls z → All HasNoLf (lines_of calls)
  all_clean [] z e = All-nil HasNoLf
  all_clean (call ∷ calls) z (y, before, does) = clean_by call calls y z (all_clean calls y before) does

  -- where the session is over, what was taken and what waits is the machine's whole text for the lines
  pub whole : (calls : List Call) (z : SessionState S) (e : End) → LeadTo m first calls z → z.stage ≡ Over e → IsText m first (joined_lines (lines_of calls)) e (taken_of calls ++ z.pending)
  whole calls z e led over =
      let said = taken_of calls ++ z.pending in
      let c : Completes m (GoesOn first) 0 (lines_of calls) e said = subst (λ (st : Stage S). ReachedBy st calls z.count said) over (reached calls z led) in
      let is = sym (joined_are_lines (lines_of calls) (all_clean calls z led)) in
      record {
        here = c.here;
        lines = c.lines;
        runs = subst (λ (ls : List (List ℕ)). Runs m (GoesOn first) 0 ls c.here c.lines) is c.runs;
        last = c.last;
        closes = subst (λ (ls : List (List ℕ)). Closes m c.here (length ls) e c.last) is (subst (λ (n : ℕ). Closes m c.here n e c.last) (let none : 0 + length (lines_of calls) ≡ length (lines_of calls) = omega arith in none) c.closes);
        parts = c.parts;
      }

  lines_are : (ls : List (List ℕ)) → All HasNoLf ls → lines_in (joined_lines ls) ≡ record { whole = ls; tail = [] }
  lines_are ls h =
      ap lines_in (sym (append-nil (joined_lines ls))) ∙ joined_before ls [] h ∙ ap (λ (l : List (List ℕ)). record { whole = l; tail = [] }) (append-nil ls)

  -- lines that lead here alone decide that
  decided : (ls : List (List ℕ)) (t : Next S) (said : List ℕ) → All HasNoLf ls → Runs m (GoesOn first) 0 ls t said → IsSure m first (joined_lines ls) t said
  decided ls t said clean runs =
      sure_from m first (joined_lines ls) (record { whole = ls; tail = [] }) t said (lines_are ls clean)
      record { there = t; lines = said; runs = runs; last = []; tail = (refl, refl); parts = sym (append-nil said) }

  -- where it goes on, that is what the lines alone decide
  pub so_far : (calls : List Call) (z : SessionState S) (s : S) → LeadTo m first calls z → z.stage ≡ Going s → IsSure m first (joined_lines (lines_of calls)) (GoesOn s) (taken_of calls ++ z.pending)
  so_far calls z s led going =
      let said = taken_of calls ++ z.pending in
      decided (lines_of calls) (GoesOn s) said (all_clean calls z led) (subst (λ (st : Stage S). ReachedBy st calls z.count said) going (reached calls z led)).0

  stops : (u : Next S) (e : End) → stage_of u ≡ Over e → u ≡ Stops e
  stops (GoesOn s) e h = absurd cc
  stops (Stops f) e h = cc

  -- where a line ends the session, the lines alone decide that
  pub stopped : (calls : List Call) (y z : SessionState S) (line : List ℕ) (e : End) → LeadTo m first calls y → (d : TakesLine m y z line) → z.stage ≡ Over e
      → IsSure m first (joined_lines (lines_of (Line line ∷ calls))) (Stops e) ((taken_of calls ++ y.pending) ++ d.text)
  stopped calls y z line e led d is =
      let said = taken_of calls ++ y.pending in
      let going = subst (λ (st : Stage S). ReachedBy st calls y.count said) d.went_on (reached calls y led) in
      decided (lines_of (Line line ∷ calls)) (Stops e) (said ++ d.text) (all_clean (Line line ∷ calls) z (y, led, d))
      (subst (λ (u : Next S). Runs m (GoesOn first) 0 (lines_of (Line line ∷ calls)) u (said ++ d.text)) (stops d.next e (sym d.stands ∙ is))
      (one_more calls d.state y.count said line d.text d.next going.1 going.0 d.step))

  -- no calls that went well lose a session
  pub not_lost : (calls : List Call) (z : SessionState S) → LeadTo m first calls z → z.stage ≡ Lost → ⊥
  not_lost calls z led lost = subst (λ (st : Stage S). ReachedBy st calls z.count (taken_of calls ++ z.pending)) lost (reached calls z led)
