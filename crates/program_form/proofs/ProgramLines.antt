-- What the machine prints of a program's lines and of those behind it is what is told of the program's run, both ways.
use Rattle.std.proofs.Common.{◌≡◌, ℕ, ◌+◌, false, List, [], ◌∷◌, ◌++◌, Option, Some, None, Result, Ok, Err, refl, sym, ap, subst, ◌∙◌, append-nil}
use Rattle.cca_base.specs.Accepted.{CompiledModel, IsCompiled}
use Rattle.cca_base.specs.Plans.{Promising}
use Rattle.cca_base.specs.Refusals.{bare}
use Rattle.cca_base.specs.Trace.{start}
use Rattle.cca_base.specs.declared.codes.TheConstants.{ENDS_EARLY}
use Rattle.cca_base.specs.declared.cube.Pair.{Pair}
use Rattle.cca_base.specs.declared.events.Event.{Event}
use Rattle.control_laws.specs.Rest.{whole}
use Rattle.control_laws.specs.Turns.{fresh}
use Rattle.control_syntax.specs.Reading.{Reading, led}
use Rattle.control_syntax.specs.declared.line.Line.{Line}
use Rattle.control_syntax.specs.declared.part.Part.{Part}
use Rattle.line_forms.specs.LinesMachine.{DoesBy}
use Rattle.line_machine.specs.Completes.{Completes}
use Rattle.line_machine.specs.Next.{Next, GoesOn, Stops}
use Rattle.line_machine.specs.Runs.{Transition, TransitionByCode}
use Rattle.line_machine.specs.declared.machine.End.{End}
use Rattle.line_machine.specs.declared.machine.End.TheVariants.{Refused}
use Rattle.line_machine.proofs.RunLines.{first_line, line_first, at_stop, stops, at_end, ends}
use Rattle.model_form.specs.Answers.{Answer}
use Rattle.model_form.specs.Limits.{line_code}
use Rattle.model_form.specs.LinesEnds.{ending}
use Rattle.model_form.proofs.SameAnswer.{same_answer}
use Rattle.trace_laws.specs.Events.{mirrored_after}
use Rattle.trace_laws.proofs.EventsJoin.{made_is_trace, trace_is_made}
use Rattle.trace_text.specs.Json.{refusal_text}
use Rattle.program_form.specs.Printed.{RunsTo, all_told, reports_of}
use Rattle.program_form.specs.ProgramMachine.{ProgramState, Stage, Reads, Runs, ReadsBy as LeadsBy, behind_line, lines_machine, program_lines, stage_by}
use Rattle.program_form.specs.PutIn.{Told}
use Rattle.program_form.specs.Sequences.{Sequence, ProgramBy, ReadsLine, SaysBy, SaysEvents, SaysNext, SaysProgram, line_says, refused_at}
use Rattle.program_form.specs.declared.item.ProgramItem.{ProgramItem}
use Rattle.program_form.specs.declared.item.ProgramItem.TheVariants as items
use Rattle.program_form.proofs.EventLines as events

module _ (b : CompiledModel) (compiled : IsCompiled b) where
  -- the machine before its first event
  abbrev pub at : Stage → ProgramState
  at s = record { compiled = b; state = start b.model 0; stage = s }

  abbrev end_of : Sequence → End
  end_of r = (ending b.model r.ending).end

  abbrev last_text : Sequence → List ℕ
  last_text r = (ending b.model r.ending).text

  abbrev told_and_last : Sequence → List Told → List ℕ
  told_and_last r told = all_told b.model told ++ last_text r

  -- the lines say this, it is run, and that is printed
  pub record Prints (Says : Sequence → Type 0) (e : End) (text : List ℕ) : Type 0 where
    pub sequence : Sequence
    pub told : List Told
    pub says : Says sequence
    pub runs : RunsTo b sequence.program sequence.events told
    pub end : e ≡ end_of sequence
    pub parts : text ≡ told_and_last sequence told

  -- a script's lines end with the program that stands before them
  pub events_program : (part : Part) (ls : List (List ℕ)) (pending : List Pair) (mirrored n : ℕ) (r : Sequence) → SaysEvents b.model part pending mirrored n ls r → r.program ≡ Some part
  events_program part [] pending mirrored n r h = ap (λ (q : Sequence). q.program) h
  events_program part (l ∷ ls) pending mirrored n r h =
      by_line (line_says b.model pending mirrored (n + 1) l) (λ after mirrors q says. events_program part ls after mirrors (n + 1) q says) h
    where
      by_line : (v : Result (Option Event) ℕ) → ((after : List Pair) (mirrors : ℕ) (q : Sequence) → SaysEvents b.model part after mirrors (n + 1) ls q → q.program ≡ Some part)
          → SaysBy b.model part v pending mirrored (n + 1) (λ after mirrors rest. SaysEvents b.model part after mirrors (n + 1) ls rest) r → r.program ≡ Some part
      by_line (Err code) on is = ap (λ (q : Sequence). q.program) is
      by_line (Ok None) on says = on pending mirrored r says
      by_line (Ok (Some e)) on (after, rest, known, says, is) = ap (λ (q : Sequence). q.program) is ∙ on after (mirrored_after mirrored e) rest says

  -- ---- the lines behind a whole program

  module _ (part : Part) (n : ℕ) (ls : List (List ℕ)) (e : End) (text : List ℕ) where
    behind_prints : Completes lines_machine (GoesOn (at (Runs (fresh (whole part))))) n ls e text → Prints (SaysEvents b.model part [] 0 n ls) e text
    behind_prints d =
        let p = events.prints b compiled part ls (start b.model 0) (fresh (whole part)) n e text d in
        let run : RunsTo b (Some part) p.sequence.events p.told = (p.full, p.made.put, made_is_trace b (Promising b) p.full p.made.last (reports_of p.told) p.made.made) in
        record {
          sequence = p.sequence;
          told = p.told;
          says = p.says;
          runs = subst (λ o. RunsTo b o p.sequence.events p.told) (sym (events_program part ls [] 0 n p.sequence p.says)) run;
          end = p.end;
          parts = p.parts;
        }

  behind_runs : (part : Part) (n : ℕ) (ls : List (List ℕ)) (r : Sequence) (told : List Told) → SaysEvents b.model part [] 0 n ls r → RunsTo b r.program r.events told
      → Completes lines_machine (GoesOn (at (Runs (fresh (whole part))))) n ls (end_of r) (told_and_last r told)
  behind_runs part n ls r told says run =
      let (full, put, trace) = subst (λ o. RunsTo b o r.events told) (events_program part ls [] 0 n r says) run in
      let made = trace_is_made b (Promising b) full (reports_of told) trace in
      events.runs b compiled part ls (start b.model 0) (fresh (whole part)) n r full told says (record { last = made.0; put = put; made = made.1 })

  -- ---- the lines of the program

  module _ (n : ℕ) (l : List ℕ) (ls : List (List ℕ)) (x : Reading) where
    abbrev line_text : ℕ → List ℕ
    line_text code = refusal_text false b.model (n + 1) (bare code)

    abbrev Later : Reading → Sequence → Type 0
    Later y rest = SaysProgram b.model y (n + 1) ls rest

    abbrev SaysHere : Sequence → Type 0
    SaysHere r = SaysProgram b.model x n (l ∷ ls) r

    abbrev PrintsOn : End → List ℕ → Type 0
    PrintsOn e rest = (y : Reading) → Completes lines_machine (GoesOn (at (Reads y))) (n + 1) ls e rest → Prints (Later y) e rest

    refused_prints : (said : Result (Option Line) ℕ) (code : ℕ) (e : End) (rest : List ℕ) (u : Next ProgramState) (a : List ℕ) → ReadsLine b.model (line_code (n + 1) l) x l said → said ≡ Err code
        → (u ≡ Stops Refused) × (a ≡ line_text code) → Completes lines_machine u (n + 1) ls e rest → Prints SaysHere e (a ++ rest)
    refused_prints said code e rest u a reads so is d =
        let p = at_stop lines_machine Refused (n + 1) ls e rest (subst (λ (v : Next ProgramState). Completes lines_machine v (n + 1) ls e rest) is.0 d) in
        record {
          sequence = refused_at (n + 1) code;
          told = [];
          says = (said, reads, subst (λ (v : Result (Option Line) ℕ). ProgramBy b.model v x (n + 1) ls Later (refused_at (n + 1) code)) (sym so) refl);
          runs = refl;
          end = p.0;
          parts = rw (is.1, p.1) (append-nil (line_text code));
        }

    -- the later lines, by whether the program is whole
    next_prints : (o : Option Part) (y : Reading) (e : End) (rest : List ℕ) → Completes lines_machine (GoesOn (at (stage_by o y))) (n + 1) ls e rest → PrintsOn e rest → Prints (SaysNext b.model o (Later y) (n + 1) ls) e rest
    next_prints None y e rest d on = on y d
    next_prints (Some part) y e rest d on = behind_prints part (n + 1) ls e rest d

    said_prints : (said : Result (Option Line) ℕ) (e : End) (rest : List ℕ) (u : Next ProgramState) (a : List ℕ) → ReadsLine b.model (line_code (n + 1) l) x l said → LeadsBy said (at (Reads x)) x (n + 1) u a
        → Completes lines_machine u (n + 1) ls e rest → PrintsOn e rest → Prints SaysHere e (a ++ rest)
    said_prints (Err code) e rest u a reads by d on = refused_prints (Err code) code e rest u a reads refl by d
    said_prints (Ok said) e rest u a reads by d on =
        let y = led x said in
        let p = next_prints y.whole y e rest (subst (λ (v : Next ProgramState). Completes lines_machine v (n + 1) ls e rest) by.0 d) on in
        record {
          sequence = p.sequence;
          told = p.told;
          says = (Ok said, reads, p.says);
          runs = p.runs;
          end = p.end;
          parts = ap (λ (t : List ℕ). t ++ rest) by.1 ∙ p.parts;
        }

    line_prints : (o : Option ℕ) (u : Next ProgramState) (a : List ℕ) (e : End) (rest : List ℕ) → o ≡ line_code (n + 1) l → TransitionByCode lines_machine o (at (Reads x)) (n + 1) l u a
        → Completes lines_machine u (n + 1) ls e rest → PrintsOn e rest → Prints SaysHere e (a ++ rest)
    line_prints (Some code) u a e rest f takes d on =
        refused_prints (Err code) code e rest u a (subst (λ (o : Option ℕ). ReadsLine b.model o x l (Err code)) f refl) refl takes d
    line_prints None u a e rest f (item, reads, does) d on =
        let (said, is, by) = subst (λ (v : Result (Option ProgramItem) ℕ). DoesBy program_lines v (at (Reads x)) (n + 1) u a) reads does in
        said_prints said e rest u a (subst (λ (o : Option ℕ). ReadsLine b.model o x l said) f is) by d on

    -- ---- and back

    abbrev Takes : Next ProgramState → List ℕ → Type 0
    Takes u a = Transition lines_machine (at (Reads x)) (n + 1) l u a

    run_by : (u : Next ProgramState) (a rest text : List ℕ) (e : End) → Takes u a → Completes lines_machine u (n + 1) ls e rest → text ≡ a ++ rest → Completes lines_machine (GoesOn (at (Reads x))) n (l ∷ ls) e text
    run_by u a rest text e takes d is = line_first lines_machine (at (Reads x)) n l ls e text (record { next = u; first = a; takes = takes; rest = rest; completes = d; parts = is })

    abbrev RunsHere : Sequence → List Told → Type 0
    RunsHere r told = Completes lines_machine (GoesOn (at (Reads x))) n (l ∷ ls) (end_of r) (told_and_last r told)

    abbrev RunsOn : Type 0
    RunsOn = (y : Reading) (r : Sequence) (told : List Told) → Later y r → RunsTo b r.program r.events told → Completes lines_machine (GoesOn (at (Reads y))) (n + 1) ls (end_of r) (told_and_last r told)

    refused_runs : (code : ℕ) (r : Sequence) (told : List Told) → r ≡ refused_at (n + 1) code → RunsTo b r.program r.events told → Takes (Stops Refused) (line_text code) → RunsHere r told
    refused_runs code r told is run takes =
        let none : told ≡ [] = subst (λ (q : Sequence). RunsTo b q.program q.events told) is run in
        let text : told_and_last r told ≡ line_text code = (λ i. told_and_last (is i) (none i)) in
        subst (λ (e : End). Completes lines_machine (GoesOn (at (Reads x))) n (l ∷ ls) e (told_and_last r told)) (sym (ap end_of is))
        (run_by (Stops Refused) (line_text code) [] (told_and_last r told) Refused takes (stops lines_machine Refused (n + 1) ls) (text ∙ sym (append-nil (line_text code))))

    next_runs : (o : Option Part) (y : Reading) (r : Sequence) (told : List Told) → SaysNext b.model o (Later y) (n + 1) ls r → RunsTo b r.program r.events told → RunsOn
        → Completes lines_machine (GoesOn (at (stage_by o y))) (n + 1) ls (end_of r) (told_and_last r told)
    next_runs None y r told says run on = on y r told says run
    next_runs (Some part) y r told says run on = behind_runs part (n + 1) ls r told says run

    line_runs : (o : Option ℕ) (said : Result (Option Line) ℕ) (r : Sequence) (told : List Told) → o ≡ line_code (n + 1) l → ReadsLine b.model o x l said → ProgramBy b.model said x (n + 1) ls Later r
        → RunsTo b r.program r.events told → RunsOn → RunsHere r told
    line_runs (Some code) said r told f reads by run on =
        refused_runs code r told (subst (λ (v : Result (Option Line) ℕ). ProgramBy b.model v x (n + 1) ls Later r) reads by) run
        (subst (λ (o : Option ℕ). TransitionByCode lines_machine o (at (Reads x)) (n + 1) l (Stops Refused) (line_text code)) f (refl, refl))
    line_runs None (Err code) r told f reads by run on =
        refused_runs code r told by run (subst (λ (o : Option ℕ). TransitionByCode lines_machine o (at (Reads x)) (n + 1) l (Stops Refused) (line_text code)) f (Ok (Some (items.Reads l)), refl, (Err code, reads, (refl, refl))))
    line_runs None (Ok said) r told f reads by run on =
        let y = led x said in
        let u : Next ProgramState = GoesOn (behind_line (at (Reads x)) y) in
        run_by u [] (told_and_last r told) (told_and_last r told) (end_of r)
        (subst (λ (o : Option ℕ). TransitionByCode lines_machine o (at (Reads x)) (n + 1) l u []) f (Ok (Some (items.Reads l)), refl, (Ok said, reads, (refl, refl)))) (next_runs y.whole y r told by run on) refl

  -- what the machine prints is what is told of what the lines say
  pub prints : (ls : List (List ℕ)) (x : Reading) (n : ℕ) (e : End) (text : List ℕ) → Completes lines_machine (GoesOn (at (Reads x))) n ls e text → Prints (SaysProgram b.model x n ls) e text
  prints [] x n e text d =
      let p = at_end lines_machine (GoesOn (at (Reads x))) n e text d in
      record { sequence = refused_at n ENDS_EARLY; told = []; says = refl; runs = refl; end = ap (λ (z : Answer). z.end) p; parts = ap (λ (z : Answer). z.text) p }
  prints (l ∷ ls) x n e text d =
      let t = first_line lines_machine (at (Reads x)) n l ls e text d in
      subst (λ (z : List ℕ). Prints (SaysProgram b.model x n (l ∷ ls)) e z) (sym t.parts)
      (line_prints n l ls x (line_code (n + 1) l) t.next t.first e t.rest refl t.takes t.completes (λ y h. prints ls y (n + 1) e t.rest h))

  -- and the other way round
  pub runs : (ls : List (List ℕ)) (x : Reading) (n : ℕ) (r : Sequence) (told : List Told) → SaysProgram b.model x n ls r → RunsTo b r.program r.events told
      → Completes lines_machine (GoesOn (at (Reads x))) n ls (end_of r) (told_and_last r told)
  runs [] x n r told is run =
      let none : told ≡ [] = subst (λ (q : Sequence). RunsTo b q.program q.events told) is run in
      ends lines_machine (GoesOn (at (Reads x))) n (end_of r) (told_and_last r told) (same_answer (ap end_of is) (λ i. told_and_last (is i) (none i)))
  runs (l ∷ ls) x n r told (said, reads, by) run =
      line_runs n l ls x (line_code (n + 1) l) said r told refl reads by run (λ y q others h k. runs ls y (n + 1) q others h k)
