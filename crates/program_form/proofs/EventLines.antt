-- What the machine prints of the lines behind a program is what is told of the program's run, both ways.
use Rattle.std.proofs.Common.{◌≡◌, ℕ, ◌+◌, false, List, [], ◌∷◌, ◌++◌, Option, Some, None, Result, Ok, Err, refl, sym, ap, subst, ◌∙◌, append-nil, append_assoc}
use Rattle.std.specs.Prelude.{option_to_list}
use Rattle.cca_base.specs.Accepted.{CompiledModel, IsCompiled}
use Rattle.cca_base.specs.Plans.{Promising}
use Rattle.cca_base.specs.Refusals.{bare}
use Rattle.cca_base.specs.Trace.{ExecutiveState}
use Rattle.cca_base.specs.declared.cube.Pair.{Pair}
use Rattle.cca_base.specs.declared.events.Event.{Event}
use Rattle.control_laws.specs.Turns.{Control}
use Rattle.control_syntax.specs.declared.part.Part.{Part}
use Rattle.line_forms.specs.LinesMachine.{DoesBy}
use Rattle.line_machine.specs.Completes.{Completes}
use Rattle.line_machine.specs.Next.{Next, GoesOn, Stops}
use Rattle.line_machine.specs.Runs.{Transition, TransitionByCode}
use Rattle.line_machine.specs.declared.machine.End.{End}
use Rattle.line_machine.specs.declared.machine.End.TheVariants.{Refused}
use Rattle.line_machine.proofs.RunLines.{first_line, line_first, at_stop, stops, at_end, ends}
use Rattle.model_form.specs.Answers.{Answer}
use Rattle.model_form.specs.Limits.{line_code, unless_long}
use Rattle.model_form.specs.LinesEnds.{AllRead, RefusedAt, ending}
use Rattle.model_form.proofs.SameAnswer.{same_answer}
use Rattle.trace_laws.specs.Events.{Acts, Makes, PendingAfter, mirrored_after}
use Rattle.trace_laws.proofs.PendingKnown.{one_pending, known_after}
use Rattle.trace_text.specs.Json.{refusal_text}
use Rattle.program_form.specs.Printed.{all_told, reports_of}
use Rattle.program_form.specs.ProgramMachine.{ProgramState, MakesBy, MakesEvent, asks_event, event_text, lines_machine, program_lines, running, sequencer, report_of}
use Rattle.program_form.specs.PutIn.{PutIn, Sequencer, Told}
use Rattle.program_form.specs.Sequences.{Sequence, SaysBy, SaysEvents, ended, event_line, with_event}
use Rattle.program_form.specs.declared.item.ProgramItem.{ProgramItem}
use Rattle.program_form.proofs.Sequencing.{event_then, event_first, made_known, prepared, reports_first, text_first, told_reports}

module _ (b : CompiledModel) (compiled : IsCompiled b) (part : Part) where
  -- how the lines end, and what is printed for that
  abbrev pub end_of : Sequence → End
  end_of r = (ending b.model r.ending).end

  abbrev pub last_text : Sequence → List ℕ
  last_text r = (ending b.model r.ending).text

  -- what the lines say from here on
  abbrev Says : ExecutiveState → ℕ → List (List ℕ) → Sequence → Type 0
  Says x n ls r = SaysEvents b.model part x.pending x.mirrored n ls r

  -- the events of the lines, with those that are put in, are made from here on, and this is told
  pub record AreMade (x : ExecutiveState) (c : Control) (events full : List Event) (told : List Told) : Type 0 where
    pub last : ExecutiveState
    pub put : PutIn b.model (sequencer x c) events full told
    pub made : Makes b (Promising b) x full last (reports_of told)

  -- the lines say this, it is made, and that is printed
  pub record Prints (x : ExecutiveState) (c : Control) (n : ℕ) (ls : List (List ℕ)) (e : End) (text : List ℕ) : Type 0 where
    pub sequence : Sequence
    pub told : List Told
    pub full : List Event
    pub says : Says x n ls sequence
    pub made : AreMade x c sequence.events full told
    pub end : e ≡ end_of sequence
    pub parts : text ≡ all_told b.model told ++ last_text sequence

  -- nothing is made
  nothing_made : (x : ExecutiveState) (c : Control) → AreMade x c [] [] []
  nothing_made x c = record { last = x; put = (refl, refl); made = (refl, refl) }

  -- an event is made before others
  made_first : (x : ExecutiveState) (c : Control) (e : Event) (y : ExecutiveState) (next : Control) (own : Option Told) (events full : List Event) (told : List Told) → (h : MakesEvent b x c e y next own) → AreMade y next events full told
      → AreMade x c (e ∷ events) (option_to_list h.put ++ e ∷ full) (option_to_list own ++ told)
  made_first x c e y next own events full told h rest = record {
    last = rest.last;
    put = (h.put, next, own, full, told, h.puts, h.told, subst (λ (s : Sequencer). PutIn b.model s events full told) (sym (made_known b e x c y next own h)) rest.put, refl, refl);
    made = subst (Makes b (Promising b) x (option_to_list h.put ++ e ∷ full) rest.last) (sym (reports_first own told))
        (event_then b h.put e full x h.middle y rest.last (report_of own) (reports_of told) h.prepares h.acts rest.made);
  }

  -- the first event of some, and the others
  pub record MadeFirst (x : ExecutiveState) (c : Control) (e : Event) (events full : List Event) (told : List Told) : Type 0 where
    pub next : ExecutiveState
    pub left : Control
    pub own : Option Told
    pub others : List Told
    pub behind : List Event
    pub makes : MakesEvent b x c e next left own
    pub rest : AreMade next left events behind others
    pub whole : full ≡ option_to_list makes.put ++ e ∷ behind
    pub split : told ≡ option_to_list own ++ others

  pub first_made : (x : ExecutiveState) (c : Control) (e : Event) (events full : List Event) (told : List Told) → AreMade x c (e ∷ events) full told → MadeFirst x c e events full told
  first_made x c e events full told h =
      let (put, next, own, rest, others, puts, is_told, later, whole, split) = h.put in
      let first = event_first b e (sequencer x c) put next rest x h.last (reports_of told) puts (subst (λ f. Makes b (Promising b) x f h.last (reports_of told)) whole h.made) in
      let reports = told_reports b first.middle e first.next first.report first.others (reports_of told) c next own is_told first.acts first.split others (ap reports_of split) in
      let makes : MakesEvent b x c e first.next next own = record {
        put = put;
        puts = puts;
        told = is_told;
        middle = first.middle;
        prepares = first.prepares;
        acts = subst (Acts b (Promising b) first.middle e first.next) reports.0 first.acts;
      } in
      record {
        next = first.next;
        left = next;
        own = own;
        others = others;
        behind = rest;
        makes = makes;
        rest = record {
          last = h.last;
          put = subst (λ (s : Sequencer). PutIn b.model s events rest others) (made_known b e x c first.next next own makes) later;
          made = subst (Makes b (Promising b) first.next rest h.last) reports.1 first.made;
        };
        whole = whole;
        split = split;
      }

  -- what is pending and mirrored behind an event
  pub known : (x : ExecutiveState) (c : Control) (e : Event) (y : ExecutiveState) (next : Control) (own : Option Told) → MakesEvent b x c e y next own
      → PendingAfter x.pending e y.pending × (y.mirrored ≡ mirrored_after x.mirrored e)
  known x c e y next own h =
      let alike = prepared b e (sequencer x c) h.put next x h.middle h.puts h.prepares in
      let truly = known_after b (Promising b) h.middle y e (report_of own) h.acts in
      (subst (λ p. PendingAfter p e y.pending) alike.pending truly.0, truly.1 ∙ ap (λ k. mirrored_after k e) alike.mirrored)

  module _ (n : ℕ) (l : List ℕ) (ls : List (List ℕ)) (x : ExecutiveState) (c : Control) where
    abbrev line_text : ℕ → List ℕ
    line_text code = refusal_text false b.model (n + 1) (bare code)

    abbrev Later : List Pair → ℕ → Sequence → Type 0
    Later after mirrors rest = SaysEvents b.model part after mirrors (n + 1) ls rest

    abbrev SaysHere : Result (Option Event) ℕ → Sequence → Type 0
    SaysHere v r = SaysBy b.model part v x.pending x.mirrored (n + 1) Later r

    -- ---- from the machine to what is said

    abbrev PrintsOn : End → List ℕ → Type 0
    PrintsOn e rest = (y : ExecutiveState) (k : Control) → Completes lines_machine (GoesOn (running b y k)) (n + 1) ls e rest → Prints y k (n + 1) ls e rest

    refused_prints : (code : ℕ) (e : End) (rest : List ℕ) (u : Next ProgramState) (a : List ℕ) → Err code ≡ unless_long (line_code (n + 1) l) (event_line b.model x.pending x.mirrored l)
        → (u ≡ Stops Refused) × (a ≡ line_text code) → Completes lines_machine u (n + 1) ls e rest → Prints x c n (l ∷ ls) e (a ++ rest)
    refused_prints code e rest u a says is d =
        let p = at_stop lines_machine Refused (n + 1) ls e rest (subst (λ (v : Next ProgramState). Completes lines_machine v (n + 1) ls e rest) is.0 d) in
        record {
          sequence = ended b.model part (RefusedAt (n + 1) code);
          told = [];
          full = [];
          says = subst (λ (v : Result (Option Event) ℕ). SaysHere v (ended b.model part (RefusedAt (n + 1) code))) says refl;
          made = nothing_made x c;
          end = p.0;
          parts = rw (is.1, p.1) (append-nil (line_text code));
        }

    event_prints : (v : Result (Option Event) ℕ) (e : End) (rest : List ℕ) (u : Next ProgramState) (a : List ℕ) → v ≡ unless_long (line_code (n + 1) l) (event_line b.model x.pending x.mirrored l)
        → MakesBy v b x c (n + 1) u a → Completes lines_machine u (n + 1) ls e rest → PrintsOn e rest → Prints x c n (l ∷ ls) e (a ++ rest)
    event_prints (Err code) e rest u a says by d on = refused_prints code e rest u a says by d
    event_prints (Ok None) e rest u a says by d on =
        let p = on x c (subst (λ (v : Next ProgramState). Completes lines_machine v (n + 1) ls e rest) by.0 d) in
        record {
          sequence = p.sequence;
          told = p.told;
          full = p.full;
          says = subst (λ (v : Result (Option Event) ℕ). SaysHere v p.sequence) says p.says;
          made = p.made;
          end = p.end;
          parts = ap (λ (t : List ℕ). t ++ rest) by.1 ∙ p.parts;
        }
    event_prints (Ok (Some event)) e rest u a says (y, next, (own, makes, text), to) d on =
        let p = on y next (subst (λ (v : Next ProgramState). Completes lines_machine v (n + 1) ls e rest) to d) in
        let truly = known x c event y next own makes in
        let later : Later y.pending (mirrored_after x.mirrored event) p.sequence = subst (λ (k : ℕ). Later y.pending k p.sequence) truly.1 p.says in
        record {
          sequence = with_event event p.sequence;
          told = option_to_list own ++ p.told;
          full = option_to_list makes.put ++ event ∷ p.full;
          says = subst (λ (v : Result (Option Event) ℕ). SaysHere v (with_event event p.sequence)) says (y.pending, p.sequence, truly.0, later, refl);
          made = made_first x c event y next own p.sequence.events p.full p.told makes p.made;
          end = p.end;
          parts = (λ i. text i ++ p.parts i) ∙ sym (append_assoc (event_text b.model own) (all_told b.model p.told) (last_text p.sequence)) ∙ ap (λ (t : List ℕ). t ++ last_text p.sequence) (sym (text_first b.model own p.told));
        }

    line_prints : (o : Option ℕ) (u : Next ProgramState) (a : List ℕ) (e : End) (rest : List ℕ) → o ≡ line_code (n + 1) l → TransitionByCode lines_machine o (running b x c) (n + 1) l u a
        → Completes lines_machine u (n + 1) ls e rest → PrintsOn e rest → Prints x c n (l ∷ ls) e (a ++ rest)
    line_prints (Some code) u a e rest f takes d on = refused_prints code e rest u a (λ i. unless_long (f i) (event_line b.model x.pending x.mirrored l)) takes d
    line_prints None u a e rest f (said, is, does) d on =
        let by = subst (λ (v : Result (Option ProgramItem) ℕ). DoesBy program_lines v (running b x c) (n + 1) u a) is.1 does in
        event_prints (event_line b.model x.pending x.mirrored l) e rest u a (λ i. unless_long (f i) (event_line b.model x.pending x.mirrored l)) by d on

    -- ---- from what is said to the machine

    abbrev Takes : Next ProgramState → List ℕ → Type 0
    Takes u a = Transition lines_machine (running b x c) (n + 1) l u a

    run_by : (u : Next ProgramState) (a rest text : List ℕ) (e : End) → Takes u a → Completes lines_machine u (n + 1) ls e rest → text ≡ a ++ rest → Completes lines_machine (GoesOn (running b x c)) n (l ∷ ls) e text
    run_by u a rest text e takes d is = line_first lines_machine (running b x c) n l ls e text (record { next = u; first = a; takes = takes; rest = rest; completes = d; parts = is })

    abbrev RunsTo : Sequence → List Told → Type 0
    RunsTo r told = Completes lines_machine (GoesOn (running b x c)) n (l ∷ ls) (end_of r) (all_told b.model told ++ last_text r)

    abbrev RunsOn : Type 0
    RunsOn = (y : ExecutiveState) (k : Control) (r : Sequence) (full : List Event) (told : List Told) → Says y (n + 1) ls r → AreMade y k r.events full told
        → Completes lines_machine (GoesOn (running b y k)) (n + 1) ls (end_of r) (all_told b.model told ++ last_text r)

    refused_runs : (code : ℕ) (r : Sequence) (full : List Event) (told : List Told) → r ≡ ended b.model part (RefusedAt (n + 1) code) → AreMade x c r.events full told → Takes (Stops Refused) (line_text code) → RunsTo r told
    refused_runs code r full told is made takes =
        let none : told ≡ [] = (subst (λ (q : Sequence). AreMade x c q.events full told) is made).put.1 in
        let text : all_told b.model told ++ last_text r ≡ line_text code = (λ i. all_told b.model (none i) ++ last_text (is i)) in
        subst (λ (e : End). Completes lines_machine (GoesOn (running b x c)) n (l ∷ ls) e (all_told b.model told ++ last_text r)) (sym (ap end_of is))
        (run_by (Stops Refused) (line_text code) [] (all_told b.model told ++ last_text r) Refused takes (stops lines_machine Refused (n + 1) ls) (text ∙ sym (append-nil (line_text code))))

    takes_code : (code : ℕ) → Some code ≡ line_code (n + 1) l → Takes (Stops Refused) (line_text code)
    takes_code code f = subst (λ (o : Option ℕ). TransitionByCode lines_machine o (running b x c) (n + 1) l (Stops Refused) (line_text code)) f (refl, refl)

    takes_event : (v : Result (Option Event) ℕ) (u : Next ProgramState) (a : List ℕ) → None ≡ line_code (n + 1) l → v ≡ event_line b.model x.pending x.mirrored l → MakesBy v b x c (n + 1) u a → Takes u a
    takes_event v u a f g by =
        subst (λ (o : Option ℕ). TransitionByCode lines_machine o (running b x c) (n + 1) l u a) f
        (asks_event v, (compiled, ap asks_event g), by)

    line_runs : (o : Option ℕ) (v : Result (Option Event) ℕ) (r : Sequence) (full : List Event) (told : List Told) → o ≡ line_code (n + 1) l → v ≡ event_line b.model x.pending x.mirrored l → SaysHere (unless_long o v) r → AreMade x c r.events full told → RunsOn → RunsTo r told
    line_runs (Some code) v r full told f g is made on = refused_runs code r full told is made (takes_code code f)
    line_runs None (Err code) r full told f g is made on = refused_runs code r full told is made (takes_event (Err code) (Stops Refused) (line_text code) f g (refl, refl))
    line_runs None (Ok None) r full told f g says made on =
        run_by (GoesOn (running b x c)) [] (all_told b.model told ++ last_text r) (all_told b.model told ++ last_text r) (end_of r) (takes_event (Ok None) (GoesOn (running b x c)) [] f g (refl, refl)) (on x c r full told says made) refl
    line_runs None (Ok (Some e)) r full told f g (after, rest, pending, later, is) made on =
        let h = first_made x c e rest.events full told (subst (λ (q : Sequence). AreMade x c q.events full told) is made) in
        let truly = known x c e h.next h.left h.own h.makes in
        let same : after ≡ h.next.pending = one_pending x.pending e h.next.pending after truly.0 pending in
        let says : Says h.next (n + 1) ls rest = subst (λ (k : ℕ). SaysEvents b.model part h.next.pending k (n + 1) ls rest) (sym truly.1) (subst (λ (p : List Pair). SaysEvents b.model part p (mirrored_after x.mirrored e) (n + 1) ls rest) same later) in
        let text : all_told b.model told ++ last_text r ≡ event_text b.model h.own ++ (all_told b.model h.others ++ last_text rest) =
        (λ i. all_told b.model (h.split i) ++ last_text (is i)) ∙ ap (λ (t : List ℕ). t ++ last_text rest) (text_first b.model h.own h.others) ∙ append_assoc (event_text b.model h.own) (all_told b.model h.others) (last_text rest) in
        subst (λ (z : End). Completes lines_machine (GoesOn (running b x c)) n (l ∷ ls) z (all_told b.model told ++ last_text r)) (sym (ap end_of is))
        (run_by (GoesOn (running b h.next h.left)) (event_text b.model h.own) (all_told b.model h.others ++ last_text rest) (all_told b.model told ++ last_text r) (end_of rest)
        (takes_event (Ok (Some e)) (GoesOn (running b h.next h.left)) (event_text b.model h.own) f g (h.next, h.left, (h.own, h.makes, refl), refl)) (on h.next h.left rest h.behind h.others says h.rest) text)

  -- what the machine prints is what is told of what the lines say
  pub prints : (ls : List (List ℕ)) (x : ExecutiveState) (c : Control) (n : ℕ) (e : End) (text : List ℕ) → Completes lines_machine (GoesOn (running b x c)) n ls e text → Prints x c n ls e text
  prints [] x c n e text d =
      let p = at_end lines_machine (GoesOn (running b x c)) n e text d in
      record { sequence = ended b.model part AllRead; told = []; full = []; says = refl; made = nothing_made x c; end = ap (λ (z : Answer). z.end) p; parts = ap (λ (z : Answer). z.text) p }
  prints (l ∷ ls) x c n e text d =
      let t = first_line lines_machine (running b x c) n l ls e text d in
      subst (λ (z : List ℕ). Prints x c n (l ∷ ls) e z) (sym t.parts)
      (line_prints n l ls x c (line_code (n + 1) l) t.next t.first e t.rest refl t.takes t.completes (λ y k h. prints ls y k (n + 1) e t.rest h))

  -- and the other way round
  pub runs : (ls : List (List ℕ)) (x : ExecutiveState) (c : Control) (n : ℕ) (r : Sequence) (full : List Event) (told : List Told) → Says x n ls r → AreMade x c r.events full told
      → Completes lines_machine (GoesOn (running b x c)) n ls (end_of r) (all_told b.model told ++ last_text r)
  runs [] x c n r full told is made =
      let none : told ≡ [] = (subst (λ (q : Sequence). AreMade x c q.events full told) is made).put.1 in
      ends lines_machine (GoesOn (running b x c)) n (end_of r) (all_told b.model told ++ last_text r) (same_answer (ap end_of is) (λ i. all_told b.model (none i) ++ last_text (is i)))
  runs (l ∷ ls) x c n r full told says made =
      line_runs n l ls x c (line_code (n + 1) l) (event_line b.model x.pending x.mirrored l) r full told refl refl says made (λ y k q more others h j. runs ls y k (n + 1) q more others h j)
