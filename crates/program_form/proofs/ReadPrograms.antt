-- What a line of a program leads to, by what is read of it.
use Rattle.std.proofs.Common.{◌≡◌, ◌++◌, false, [], List, ℕ, Option, Some, None, Result, Ok, Err, refl, sym, ap, subst, ◌∙◌, append-nil}
use Rattle.std.specs.Prelude.{IfSome}
use Rattle.cca_base.specs.PlantModel.{PlantModel}
use Rattle.cca_base.specs.Refusals.{bare, stop_code, Answers}
use Rattle.cca_base.specs.declared.events.Stop.{Stop}
use Rattle.cca_base.specs.declared.events.Stop.TheVariants as stops
use Rattle.control_laws.specs.Turns.{Control}
use Rattle.control_syntax.specs.Reading.{Reading, led}
use Rattle.line_machine.specs.Next.{Next, GoesOn, Stops}
use Rattle.byte_buffer.specs.Outs.{Appended, Buffered}
use Rattle.line_machine.specs.declared.machine.End.TheVariants.{Refused}
use Rattle.trace_text.specs.Json.{refusal_text}
use Rattle.program_form.specs.ProgramMachine.{ProgramState, Reads, Runs, ServesIn, Stage, program_lines, stage_by}
use Rattle.program_form.specs.Stages.{ReadsTo, RunsWell, begun}
use Rattle.program_form.specs.declared.item.ProgramItem.TheVariants as items
use Rattle.program_form.proofs.RunningWell.{well_at_first}

-- a program that was read whole runs well
pub well_read : (m : PlantModel) (x : Reading) (line : List ℕ) (o : Option Control) (y : Reading) → ReadsTo m x line (Ok o) y → IfSome o (RunsWell m)
well_read m x line None y read = tt
well_read m x line (Some runner) y read = subst (RunsWell m) (sym read.4) (well_at_first m read.1 read.5)

-- what was answered with a code is so of that code
coded : {X : Type 0} (Is : Result X ℕ → Type 0) (stop : Stop) (code : ℕ) → Answers (Err stop) Is → stop_code stop ≡ Some code → Is (Err code)
coded Is stops.Memory code answer is = absurd cc
coded Is (stops.Refused refusal) code answer is = let same : refusal.code ≡ code = cc in subst (λ c. Is (Err c)) same answer.0

-- the same state at another stage
abbrev pub at_stage : ProgramState → Stage → ProgramState
at_stage x s = record { compiled = x.compiled; state = x.state; stage = s }

leads : (x : ProgramState) (n : ℕ) (line : List ℕ) (y z : Reading) (o : Option Control) → x.stage ≡ Reads y → ReadsTo x.compiled.model y line (Ok o) z → program_lines.serves (items.Reads line) x n (GoesOn (begun o (at_stage x (Reads z)))) []
leads x n line y z None at r =
    let stays : Reads z ≡ stage_by (led y r.0).whole (led y r.0) = sym (ap (λ p. stage_by p z) r.3) ∙ ap (λ (w : Reading). stage_by w.whole w) r.2 in
    subst (λ s. ServesIn s (items.Reads line) x n (GoesOn (at_stage x (Reads z))) []) (sym at) (Ok r.0, r.1, (ap (λ s. GoesOn (at_stage x s)) stays, refl))
leads x n line y z (Some runner) at r =
    let runs : Runs runner ≡ stage_by (led y r.0).whole (led y r.0) = ap Runs r.4 ∙ sym (ap (λ p. stage_by p (led y r.0)) r.3) in
    subst (λ s. ServesIn s (items.Reads line) x n (GoesOn (at_stage x (Runs runner))) []) (sym at) (Ok r.0, r.2, (ap (λ s. GoesOn (at_stage x s)) runs, refl))

module _ (w x : ProgramState) (same : w ≡ x) (n : ℕ) (line : List ℕ) (y z : Reading) (at : w.stage ≡ Reads y) where
  here : (u : Next ProgramState) (text : List ℕ) → program_lines.serves (items.Reads line) w n u text → program_lines.serves (items.Reads line) x n u text
  here u text h = subst (λ v. program_lines.serves (items.Reads line) v n u text) same h

  -- a line is read, and the program may begin
  pub reads_on : (o : Option Control) (next : ProgramState) (out : Buffered) → ReadsTo w.compiled.model y line (Ok o) z → next ≡ begun o (at_stage w (Reads z)) → Appended (program_lines.serves (items.Reads line) x n (GoesOn next)) out out
  reads_on o next out read to = record {
    text = [];
    is = here (GoesOn next) [] (subst (λ s. program_lines.serves (items.Reads line) w n (GoesOn s) []) (sym to) (leads w n line y z o at read));
    behind = sym (append-nil out.bytes);
  }

  -- a line is refused
  pub refuses : (m : PlantModel) (stop : Stop) (old new : Buffered) → m ≡ w.compiled.model → Answers (Err stop) (λ said. ReadsTo m y line said z)
      → ((code : ℕ) × (stop_code stop ≡ Some code) × (new.bytes ≡ old.bytes ++ refusal_text false m n (bare code))) → Appended (program_lines.serves (items.Reads line) x n (Stops Refused)) old new
  refuses m stop old new model answer (code, is, behind) =
      let read = subst (λ k. ReadsTo k y line (Err code) z) model (coded (λ s. ReadsTo m y line s z) stop code answer is) in
      let text = refusal_text false m n (bare code) in
      record {
        text = text;
        is = here (Stops Refused) text (subst (λ s. ServesIn s (items.Reads line) w n (Stops Refused) text) (sym at) (Err code, read.0, (refl, ap (λ k. refusal_text false k n (bare code)) model)));
        behind = behind;
      }
