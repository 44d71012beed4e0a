-- The events of the lines, with those that the program puts in, may come one after the other.
use Rattle.std.proofs.Common.{◌≡◌, ℕ, ◌+◌, Bool, true, false, List, [], ◌∷◌, ◌++◌, Option, Some, None, Result, Ok, Err, refl, sym, ap, subst, ◌∙◌}
use Rattle.std.specs.Prelude.{option_to_list}
use Rattle.cca_base.specs.Accepted.{CompiledModel, IsCompiled}
use Rattle.cca_base.specs.Orders.{IsSorted}
use Rattle.cca_base.specs.Plans.{Promising}
use Rattle.cca_base.specs.PlantModel.{PlantModel}
use Rattle.cca_base.specs.Trace.{ExecutiveState, AllMayCome, MayCome}
use Rattle.cca_base.specs.declared.cube.Pair.{Pair}
use Rattle.cca_base.specs.declared.events.Event.{Event}
use Rattle.cca_base.specs.declared.events.Event.TheVariants as event
use Rattle.control_laws.specs.Turns.{Control}
use Rattle.control_syntax.specs.declared.part.Part.{Part}
use Rattle.model_form.specs.Limits.{line_code, unless_long}
use Rattle.cca_base.specs.declared.events.TickReport.{TickReport}
use Rattle.script_reader.proofs.EventsMayCome.{tokens_come}
use Rattle.text_base.specs.Tokens.{tokens_of}
use Rattle.trace_laws.specs.Events.{Acts, mirrored_after}
use Rattle.trace_laws.proofs.EventsJoin.{event_first}
use Rattle.trace_laws.proofs.PendingKnown.{one_pending}
use Rattle.program_form.specs.ProgramMachine.{Prepares, report_of, sequencer}
use Rattle.program_form.specs.PutIn.{Told, PutsBefore, TurnsBefore, asks}
use Rattle.program_form.specs.Sequences.{Sequence, SaysBy, SaysEvents, event_line}
use Rattle.program_form.specs.Stages.{RunsWell}
use Rattle.program_form.proofs.EventLines.{AreMade, first_made, known}
use Rattle.program_form.proofs.RunningWell.{goal_comes, well_after, well_again}
use Rattle.program_form.proofs.Sequencing.{prepared}

-- an event of a line behind the program may come
comes_here : (m : PlantModel) (pending : List Pair) (mirrored : ℕ) (line : List ℕ) (e : Event) → event_line m pending mirrored line ≡ Ok (Some e) → MayCome m pending mirrored e
unfolding event_line
comes_here m pending mirrored line e h = tokens_come m pending mirrored e false (tokens_of line) h

module _ (b : CompiledModel) (compiled : IsCompiled b) where
  abbrev AllCome : ExecutiveState → List Event → Type 0
  AllCome x events = AllMayCome b.model (IsSorted b.order) x events

  -- what is put in may come
  abbrev Comes : ExecutiveState → Option Event → Type 0
  Comes x put = (e : Event) → put ≡ Some e → MayCome b.model x.pending x.mirrored e

  none_comes : (x : ExecutiveState) (put : Option Event) → put ≡ None → Comes x put
  none_comes x put none e some = absurd (let never : None ≡ Some e = sym none ∙ some in cc)

  turn_comes : (holding : Bool) (x : ExecutiveState) (c : Control) (put : Option Event) (next : Control) → RunsWell b.model c → TurnsBefore holding b.model (sequencer x c) put next → Comes x put
  turn_comes true x c put next well (none, is) e some = none_comes x put none e some
  turn_comes false x c put next well (goal, turns, is) e some =
      let same : asks goal ≡ e = (let both : Some (asks goal) ≡ Some e = sym is ∙ some in cc) in
      subst (MayCome b.model x.pending x.mirrored) same (goal_comes b.model x.estimate c goal next x.pending x.mirrored well turns)

  put_comes : (e : Event) (x : ExecutiveState) (c : Control) (put : Option Event) (next : Control) → RunsWell b.model c → PutsBefore b.model e (sequencer x c) put next → Comes x put
  put_comes event.Tick x c put next well h = turn_comes x.holding x c put next well h
  put_comes event.Reset x c put next well h = none_comes x put h.0
  put_comes (event.Goal pairs) x c put next well h = none_comes x put h.0
  put_comes event.Clear x c put next well h = none_comes x put h.0
  put_comes (event.Observe pairs) x c put next well h = none_comes x put h.0
  put_comes (event.Fault p) x c put next well h = none_comes x put h.0
  put_comes (event.Mirror v) x c put next well h = none_comes x put h.0

  -- what is left of a program that runs well runs well
  turn_well : (holding : Bool) (x : ExecutiveState) (c : Control) (put : Option Event) (next : Control) → RunsWell b.model c → TurnsBefore holding b.model (sequencer x c) put next → RunsWell b.model next
  turn_well true x c put next well (none, is) = subst (RunsWell b.model) (sym is) well
  turn_well false x c put next well (goal, turns, is) = well_after b.model x.estimate c goal next well turns

  put_well : (e : Event) (x : ExecutiveState) (c : Control) (put : Option Event) (next : Control) → RunsWell b.model c → PutsBefore b.model e (sequencer x c) put next → RunsWell b.model next
  put_well event.Tick x c put next well h = turn_well x.holding x c put next well h
  put_well event.Reset x c put next well h = subst (RunsWell b.model) (sym h.1) (well_again b.model c well)
  put_well (event.Goal pairs) x c put next well h = subst (RunsWell b.model) (sym h.1) well
  put_well event.Clear x c put next well h = subst (RunsWell b.model) (sym h.1) well
  put_well (event.Observe pairs) x c put next well h = subst (RunsWell b.model) (sym h.1) well
  put_well (event.Fault p) x c put next well h = subst (RunsWell b.model) (sym h.1) well
  put_well (event.Mirror v) x c put next well h = subst (RunsWell b.model) (sym h.1) well

  -- an event with what is put in before it, before others that may come
  with_put : (put : Option Event) (x z y : ExecutiveState) (e : Event) (report : Option TickReport) (rest : List Event) → Comes x put → MayCome b.model x.pending x.mirrored e → z.pending ≡ x.pending → z.mirrored ≡ x.mirrored
      → Prepares b x put z → Acts b (Promising b) z e y report → AllCome y rest → AllCome x (option_to_list put ++ e ∷ rest)
  with_put None x z y e report rest comes may pending mirrored prepares acts on =
      event_first b (Promising b) x e y report rest may (subst (λ (s : ExecutiveState). Acts b (Promising b) s e y report) prepares acts) on
  with_put (Some p) x z y e report rest comes may pending mirrored prepares acts on =
      let there : MayCome b.model z.pending z.mirrored e = subst (λ q. MayCome b.model q z.mirrored e) (sym pending) (subst (λ k. MayCome b.model x.pending k e) (sym mirrored) may) in
      event_first b (Promising b) x p z None (e ∷ rest) (comes p refl) prepares (event_first b (Promising b) z e y report rest there acts on)

  module _ (part : Part) where
    abbrev Says : ExecutiveState → ℕ → List (List ℕ) → Sequence → Type 0
    Says x n ls r = SaysEvents b.model part x.pending x.mirrored n ls r

    abbrev Goes : ℕ → List (List ℕ) → Type 0
    Goes n ls = (y : ExecutiveState) (c : Control) (r : Sequence) (full : List Event) (told : List Told) → Says y n ls r → RunsWell b.model c → AreMade b compiled part y c r.events full told → AllCome y full

    nothing_comes : (x : ExecutiveState) (c : Control) (r : Sequence) (full : List Event) (told : List Told) (events : List Event) → events ≡ [] → AreMade b compiled part x c events full told → AllCome x full
    nothing_comes x c r full told events none made =
        let put = (subst (λ es. AreMade b compiled part x c es full told) none made).put in subst (AllCome x) (sym put.0) tt

    line_comes : (o : Option ℕ) (x : ExecutiveState) (c : Control) (n : ℕ) (l : List ℕ) (ls : List (List ℕ)) (v : Result (Option Event) ℕ) (r : Sequence) (full : List Event) (told : List Told) → v ≡ event_line b.model x.pending x.mirrored l
        → SaysBy b.model part (unless_long o v) x.pending x.mirrored n (λ after mirrors d. SaysEvents b.model part after mirrors n ls d) r → RunsWell b.model c → AreMade b compiled part x c r.events full told → Goes n ls → AllCome x full
    line_comes (Some code) x c n l ls v r full told g is well made on = nothing_comes x c r full told r.events (ap (λ (q : Sequence). q.events) is) made
    line_comes None x c n l ls (Err code) r full told g is well made on = nothing_comes x c r full told r.events (ap (λ (q : Sequence). q.events) is) made
    line_comes None x c n l ls (Ok None) r full told g says well made on = on x c r full told says well made
    line_comes None x c n l ls (Ok (Some e)) r full told g (after, rest, pending, later, is) well made on =
        let h = first_made b compiled part x c e rest.events full told (subst (λ (q : Sequence). AreMade b compiled part x c q.events full told) is made) in
        let truly = known b compiled part x c e h.next h.left h.own h.makes in
        let same : after ≡ h.next.pending = one_pending x.pending e h.next.pending after truly.0 pending in
        let says : Says h.next n ls rest = subst (λ (k : ℕ). SaysEvents b.model part h.next.pending k n ls rest) (sym truly.1) (subst (λ (p : List Pair). SaysEvents b.model part p (mirrored_after x.mirrored e) n ls rest) same later) in
        let alike = prepared b e (sequencer x c) h.makes.put h.left x h.makes.middle h.makes.puts h.makes.prepares in
        let all = on h.next h.left rest h.behind h.others says (put_well e x c h.makes.put h.left well h.makes.puts) h.rest in
        subst (AllCome x) (sym h.whole)
        (with_put h.makes.put x h.makes.middle h.next e (report_of h.own) h.behind (put_comes e x c h.makes.put h.left well h.makes.puts) (comes_here b.model x.pending x.mirrored l e (sym g)) alike.pending alike.mirrored h.makes.prepares h.makes.acts all)

    pub full_comes : (ls : List (List ℕ)) (x : ExecutiveState) (c : Control) (n : ℕ) (r : Sequence) (full : List Event) (told : List Told) → Says x n ls r → RunsWell b.model c → AreMade b compiled part x c r.events full told → AllCome x full
    full_comes [] x c n r full told is well made = nothing_comes x c r full told r.events (ap (λ (q : Sequence). q.events) is) made
    full_comes (l ∷ ls) x c n r full told says well made =
        line_comes (line_code (n + 1) l) x c (n + 1) l ls (event_line b.model x.pending x.mirrored l) r full told refl says well made (λ y d q more others h k j. full_comes ls y d (n + 1) q more others h k j)
