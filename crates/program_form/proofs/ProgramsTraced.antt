-- What is told of a program's run is the fixed trace of the lines' events with those that the program puts in.
use Rattle.std.proofs.Common.{◌≡◌, ℕ, ◌+◌, false, List, [], ◌∷◌, Option, Some, None, Result, Ok, Err, refl, sym, ap, subst, ◌∙◌}
use Rattle.std.specs.Prelude.{IfSome}
use Rattle.std.proofs.lemmas.List.Elements.{All-nil}
use Rattle.cca_base.specs.Accepted.{CompiledModel, IsCompiled}
use Rattle.cca_base.specs.Plans.{Promising}
use Rattle.cca_base.specs.PlantModel.{PlantModel}
use Rattle.cca_base.specs.Trace.{start}
use Rattle.control_laws.specs.Rest.{whole}
use Rattle.control_laws.specs.Turns.{fresh}
use Rattle.control_syntax.specs.Kept.{IsSound, IsSoundBlock, MayRunSoFar}
use Rattle.control_syntax.specs.Program.{MayRun}
use Rattle.control_syntax.specs.Reading.{Reading, led, nothing_read}
use Rattle.control_syntax.specs.declared.line.Line.{Line}
use Rattle.control_syntax.specs.declared.part.Part.{Part}
use Rattle.control_syntax.proofs.SoundLines.{led_sound}
use Rattle.line_machine.specs.declared.machine.End.{End}
use Rattle.model_form.specs.Acceptance.{Acceptance, AcceptedAs, RefusedFor, IsAcceptanceOf}
use Rattle.model_form.specs.Answers.{AnswersByAcceptance, AnswersByEnd}
use Rattle.model_form.specs.Limits.{line_code}
use Rattle.model_form.specs.ModelTexts.{ModelText, WholeModel, RefusedModel}
use Rattle.trace_laws.proofs.EventsJoin.{trace_is_made}
use Rattle.trace_laws.proofs.PromisesKept.{promising_traces_keep, promising_traces_hold}
use Rattle.cca_laws.proofs.WeakerReplies.{chosen_ticks_are_good}
use Rattle.program_form.specs.Headline.{IsFixedRun, IsRunOf, SaysTraced}
use Rattle.program_form.specs.Printed.{RunsTo, SaysRun, reports_of}
use Rattle.program_form.specs.ProgramMeaning.{ProgramsAreTraced}
use Rattle.program_form.specs.PutIn.{Told}
use Rattle.program_form.specs.Sequences.{Sequence, ProgramBy, ReadsLine, SaysEvents, SaysNext, SaysProgram}
use Rattle.program_form.proofs.ProgramLines.{events_program}
use Rattle.program_form.proofs.PutInComes.{full_comes}
use Rattle.program_form.proofs.RunningWell.{well_at_first}

module _ (b : CompiledModel) (compiled : IsCompiled b) where
  -- the lines say a program that may be run, and what stands behind it
  pub record IsWhole (r : Sequence) (part : Part) : Type 0 where
    pub number : ℕ
    pub lines : List (List ℕ)
    pub says : SaysEvents b.model part [] 0 number lines r
    pub may_run : MayRun b.model part

  -- behind a line of the program, by whether it is whole
  next_whole : (n : ℕ) (ls : List (List ℕ)) (r : Sequence) (part : Part) (o : Option Part) (y : Reading) → ((q : Part) → o ≡ Some q → MayRun b.model q) → (o ≡ None → SaysProgram b.model y n ls r → IsWhole r part)
      → SaysNext b.model o (λ rest. SaysProgram b.model y n ls rest) n ls r → r.program ≡ Some part → IsWhole r part
  next_whole n ls r part None y may on says some = on refl says
  next_whole n ls r part (Some own) y may on says some =
      let same : own ≡ part = (let both : Some own ≡ Some part = sym (events_program b compiled own ls [] 0 n r says) ∙ some in cc) in
      record { number = n; lines = ls; says = subst (λ q. SaysEvents b.model q [] 0 n ls r) same says; may_run = subst (MayRun b.model) same (may own refl) }

  no_program : (r : Sequence) (part : Part) → r.program ≡ None → r.program ≡ Some part → IsWhole r part
  no_program r part none some = absurd (let never : None ≡ Some part = sym none ∙ some in cc)

  said_whole : (o : Option ℕ) (said : Result (Option Line) ℕ) (x : Reading) (n : ℕ) (l : List ℕ) (ls : List (List ℕ)) (r : Sequence) (part : Part) → MayRunSoFar b.model x → x.whole ≡ None → ReadsLine b.model o x l said
      → ((y : Reading) → MayRunSoFar b.model y → y.whole ≡ None → SaysProgram b.model y n ls r → IsWhole r part) → ProgramBy b.model said x n ls (λ y rest. SaysProgram b.model y n ls rest) r → r.program ≡ Some part → IsWhole r part
  said_whole o (Err code) x n l ls r part fits unread reads on is some = no_program r part (ap (λ (q : Sequence). q.program) is) some
  said_whole (Some code) (Ok said) x n l ls r part fits unread reads on says some = absurd cc
  said_whole None (Ok said) x n l ls r part fits unread reads on says some =
      next_whole n ls r part (led x said).whole (led x said) (λ q is. (subst (λ (o : Option Part). IfSome o (IsSound b.model)) is (led_sound b.model x l said reads fits).whole).may_run)
      (λ none later. on (led x said) (led_sound b.model x l said reads fits) none later) says some

  program_whole : (ls : List (List ℕ)) (x : Reading) (n : ℕ) (r : Sequence) (part : Part) → MayRunSoFar b.model x → x.whole ≡ None → SaysProgram b.model x n ls r → r.program ≡ Some part → IsWhole r part
  program_whole [] x n r part fits unread is some = no_program r part (ap (λ (q : Sequence). q.program) is) some
  program_whole (l ∷ ls) x n r part fits unread (said, reads, by) some =
      said_whole (line_code (n + 1) l) said x (n + 1) l ls r part fits unread reads (λ y h k says. program_whole ls y (n + 1) r part h k says some) by some

  -- a program's run is fixed
  run_fixed : (r : Sequence) (part : Part) (told : List Told) → IsWhole r part → RunsTo b (Some part) r.events told → IsFixedRun b part r.events told
  run_fixed r part told h (full, put, trace) =
      let made = trace_is_made b (Promising b) full (reports_of told) trace in
      let promises = promising_traces_keep b full (reports_of told) compiled trace in
      record {
        compiled = compiled;
        may_run = h.may_run;
        full = full;
        put = put;
        come = full_comes b compiled part h.lines (start b.model 0) (fresh (whole part)) h.number r full told h.says (well_at_first b.model part h.may_run) (record { last = made.0; put = put; made = made.1 });
        trace = trace;
        good = chosen_ticks_are_good b (start b.model 0) [] full trace.ticks promises.0;
        chosen = promises.0;
        within = promising_traces_hold b full (reports_of told) compiled trace;
        stays_right = promises.2;
      }

  run_of : (o : Option Part) (r : Sequence) (told : List Told) → o ≡ r.program → ((part : Part) → r.program ≡ Some part → IsWhole r part) → RunsTo b o r.events told → IsRunOf b o r.events told
  run_of None r told is whole run = run
  run_of (Some part) r told is whole run = run_fixed r part told (whole part (sym is)) run

  traced : (n : ℕ) (ls : List (List ℕ)) (e : End) (text : List ℕ) → SaysRun b n ls e text → SaysTraced b n ls e text
  traced n ls e text (r, told, says, run, end, is) =
      (r, told, says, run_of r.program r told refl (λ part some. program_whole ls nothing_read n r part (record { parts = All-nil (IsSound b.model); blocks = All-nil (IsSoundBlock b.model); whole = tt }) refl says some) run, end, is)

accepted_traced : (v : Acceptance) (m : PlantModel) (n : ℕ) (ls : List (List ℕ)) (e : End) (text : List ℕ) → IsAcceptanceOf m v → AnswersByAcceptance false SaysRun v m n ls e text → AnswersByAcceptance false SaysTraced v m n ls e text
accepted_traced (AcceptedAs b) m n ls e text is h = traced b is.0 n ls e text h
accepted_traced (RefusedFor r) m n ls e text is h = h

end_traced : (end : ModelText) (e : End) (text : List ℕ) → AnswersByEnd false SaysRun end e text → AnswersByEnd false SaysTraced end e text
end_traced (WholeModel m n ls) e text (v, is, h) = (v, is, accepted_traced v m n ls e text is h)
end_traced (RefusedModel m line r) e text h = h

-- what is printed is traced
pub programs_are_traced : ProgramsAreTraced
programs_are_traced input a (end, ends, h) = (end, ends, end_traced end a.end a.text h)
