-- What the calls of a session show, in the words of `titan run`.
use Rattle.std.proofs.Common.{◌≡◌, ℕ, inl, inr, List, ◌∷◌, ◌++◌, None, refl, sym, subst}
use Rattle.line_machine.specs.Lines.{joined_lines}
use Rattle.line_machine.specs.Next.{GoesOn}
use Rattle.line_machine.specs.Runs.{IsText}
use Rattle.line_machine.specs.declared.machine.End.{End}
use Rattle.line_machine.specs.declared.machine.End.TheVariants.{Ended, Rejected}
use Rattle.line_machine.proofs.Fronts.{going_so_far}
use Rattle.line_machine.proofs.SureTextBegins.{text_is_one, sure_begins_text}
use Rattle.model_form.specs.Answers.{answer}
use Rattle.run_form.specs.Printed.{IsRunOf}
use Rattle.run_form.specs.RunMachine.{run_machine, run_first}
use Rattle.run_form.specs.declared.notation.Notation.{Notation}
use Rattle.run_form.proofs.RunAgrees.{run_agrees}
use Rattle.run_form.proofs.RunEnds.{run_fixed, run_sure_refused}
use Rattle.run_form.proofs.RunKeeps.{run_keeps}
use Rattle.run_form.proofs.RunsTold.{runs_are_told}
use Rattle.run_form.proofs.TraceOfRun.{runs_are_traced}
use Rattle.titan_session.specs.RunSessions.{RunState, RunSession, AreCalls, said_by}
use Rattle.titan_session.specs.SessionLaws.{IsRunOfLines, IsRunSoFar, SessionsAreRuns}
use Rattle.titan_session.specs.Sessions.{Call, IsGoing, Line, lines_of}
use Rattle.titan_session.specs.declared.session.Stage.{Stage}
use Rattle.titan_session.specs.declared.session.Stage.TheVariants.{Going, Over, Lost}
use Rattle.titan_session.proofs.CallsAreRuns.{whole, so_far, stopped, not_lost}

-- the whole text of the machine for an input is what a run prints of it, and nothing else is
run_of : (notation : Notation) (lines : List (List ℕ)) (e : End) (said : List ℕ) → IsText run_machine (run_first notation) (joined_lines lines) e said → IsRunOfLines notation lines (answer e said)
run_of notation lines e said text =
    let input = joined_lines lines in
    let run : IsRunOf notation input (answer e said) = (runs_are_told notation).says input e said text in
    record {
      run = run;
      only = λ b h.
          let same = text_is_one run_machine (run_first notation) run_fixed input b.text said b.end e ((runs_are_told notation).comes input b.end b.text h) text in
          λ i. answer (same.0 i) (same.1 i);
      trace = runs_are_traced.whole notation input (answer e said) run;
    }

over : (notation : Notation) (calls : List Call) (z : RunSession) (e : End) → AreCalls notation calls z → z.stage ≡ Over e → IsText run_machine (run_first notation) (joined_lines (lines_of calls)) e (said_by calls z)
over notation calls z e led is = whole run_machine (run_first notation) calls z e led is

is_going : (s : Stage RunState) → IsGoing s → (x : RunState) × (s ≡ Going x)
is_going (Going x) h = (x, refl)
is_going (Over e) h = absurd h
is_going Lost h = absurd h

-- no run is rejected
never_rejected : (notation : Notation) (input text : List ℕ) → IsText run_machine (run_first notation) input Rejected text → ⊥
never_rejected notation input text is =
    let agrees = run_agrees notation None in
    let (end, reads, says) = agrees.says input Rejected text is in
    agrees.rejected input text end reads says

-- where a session goes on, it has said nothing yet, or the run of bytes that came first
so_far_run : (notation : Notation) (calls : List Call) (z : RunSession) (s : RunState) → AreCalls notation calls z → z.stage ≡ Going s → IsRunSoFar notation (joined_lines (lines_of calls)) (said_by calls z)
so_far_run notation calls z s led is =
    elim (going_so_far run_machine (run_first notation) (run_keeps notation None).by_lines s (joined_lines (lines_of calls)) (said_by calls z) (so_far run_machine (run_first notation) calls z s led is)) [
      | inl none ↦ inl none
      | inr (came, more, begins, text, sure) ↦ inr (came, more, begins, (runs_are_told notation).says came Ended (said_by calls z) text)
    ]

pub sessions_are_runs : SessionsAreRuns
sessions_are_runs = record {
  whole = λ notation calls z e led is. run_of notation (lines_of calls) e (said_by calls z) (over notation calls z e led is);
  begins = λ notation calls z s led is more a h.
      sure_begins_text run_machine (run_first notation) run_fixed (joined_lines (lines_of calls)) more (said_by calls z) a.text (GoesOn s) a.end (so_far run_machine (run_first notation) calls z s led is)
      ((runs_are_told notation).comes (joined_lines (lines_of calls) ++ more) a.end a.text h);
  prompt = λ notation calls z s led is. so_far run_machine (run_first notation) calls z s led is;
  so_far = λ notation calls z s led is. so_far_run notation calls z s led is;
  by_line = λ notation calls y z line e led d is. run_sure_refused (run_first notation) (joined_lines (lines_of (Line line ∷ calls))) e _ (stopped run_machine (run_first notation) calls y z line e led d is);
  not_rejected = λ notation calls z led is. never_rejected notation (joined_lines (lines_of calls)) (said_by calls z) (over notation calls z Rejected led is);
  not_lost = λ notation calls z led is. not_lost run_machine (run_first notation) calls z led is;
  going = λ z. (is_going z.stage, λ h. subst (λ (s : Stage RunState). IsGoing s) (sym h.1) tt);
  lost = λ notation calls z s led is. (refl, so_far run_machine (run_first notation) calls z s led is);
}
