-- What the lines of a script ask for and what is done for it go together.
use Rattle.std.specs.Prelude.{option_to_list}
use Rattle.std.proofs.Common.{◌≡◌, ℕ, List, [], ◌∷◌, ◌++◌, map, Option, Result, refl, sym, ap, subst, ◌∙◌}
use Rattle.cca_base.specs.Accepted.{CompiledModel, IsCompiled}
use Rattle.cca_base.specs.Plans.{Promising}
use Rattle.cca_base.specs.Trace.{ExecutiveState}
use Rattle.cca_base.specs.declared.cube.Pair.{Pair}
use Rattle.cca_base.specs.declared.events.Event.{Event}
use Rattle.cca_base.specs.declared.events.TickReport.{TickReport}
use Rattle.line_forms.specs.Asked.{Effect, Sets, Asks, ServesEffect, Shown, Tells, ending_by}
use Rattle.line_machine.specs.Next.{Next, GoesOn}
use Rattle.model_form.specs.LinesEnds as lines
use Rattle.model_form.specs.LinesEnds.{LinesEnd, AllRead, Asked}
use Rattle.script_reader.specs.EventLines.{event_line}
use Rattle.trace_laws.specs.Events.{Acts, PendingAfter, mirrored_after}
use Rattle.trace_laws.proofs.PendingKnown.{one_pending, known_after}
use Rattle.run_form.specs.Notations.{is_json, closing}
use Rattle.run_form.specs.Printed.{ending}
use Rattle.run_form.specs.ScriptMachine.{ScriptState, MakesEvent, script_lines}
use Rattle.run_form.specs.ScriptReading.{Bearing, IsSaid, Follows, Leads, as_it_is, as_kept, behind_event, document_end, its_event}
use Rattle.run_form.specs.Summaries.{counts_of, added}
use Rattle.run_form.specs.TickTexts.{EventText}
use Rattle.run_form.specs.declared.counts.Counts.{Counts}
use Rattle.run_form.specs.declared.notation.Notation.{Notation}
use Rattle.run_form.proofs.CountedTicks.{counted_first, counted_none}
use Rattle.run_form.proofs.MadeTexts.{MakesText}
use Rattle.run_form.proofs.ReadScripts.{follows, is_itself, kept_itself, leads}

-- the place that a run has reached: where the executive stands, and what its ticks were
pub record Place : Type 0 where
  pub state : ExecutiveState
  pub counts : Counts

-- what of an executive bears on which events may come next
abbrev pub bearing_of : ExecutiveState → Bearing
bearing_of x = record { pending = x.pending; mirrored = x.mirrored }

-- what was said before is what the executive has pending and mirrored
abbrev pub Ties : Place → Bearing → Type 0
Ties t s = bearing_of t.state ≡ s

module _ (notation : Notation) (b : CompiledModel) (compiled : IsCompiled b) where
  -- a script at this place
  abbrev pub at : Place → Bearing → ScriptState
  at t s = record { notation = notation; compiled = b; state = t.state; counts = t.counts }

  -- lines are read so
  abbrev pub Said : Bearing → List ℕ → Result (Option Event) ℕ → Type 0
  Said = IsSaid as_it_is its_event b.model

  abbrev pub Goes : Event → Bearing → ℕ → (Bearing → Asked Event → Type 0) → Asked Event → Type 0
  Goes = Follows as_it_is its_event b.model

  abbrev pub Comes : Event → Bearing → Effect Bearing Event → Type 0
  Comes = Leads as_it_is its_event b.model

  -- an event is made from here to there, and this is printed of it
  abbrev pub Shows : Place → Event → Place → List ℕ → Type 0
  Shows t e v text = (report : Option TickReport) × Acts b (Promising b) t.state e v.state report × EventText notation b t.state report text × (v.counts ≡ added t.counts (counts_of (option_to_list report)))

  -- what is printed at the end
  abbrev pub closing_at : Place → List ℕ
  closing_at t = closing notation t.counts

  said_is : (t : Place) (s : Bearing) (l : List ℕ) → Ties t s → event_line b.model t.state.pending t.state.mirrored l ≡ as_kept (as_it_is l) (event_line b.model s.pending s.mirrored l)
  said_is t s l tie = ap (λ (z : Bearing). event_line b.model z.pending z.mirrored l) tie ∙ sym (kept_itself l (event_line b.model s.pending s.mirrored l))

  -- what an event that was made leaves pending and mirrored
  module _ (e : Event) (t v : Place) (s : Bearing) (tie : Ties t s) (report : Option TickReport) (acts : Acts b (Promising b) t.state e v.state report) where
    pending_so : PendingAfter s.pending e v.state.pending
    pending_so = subst (λ (z : Bearing). PendingAfter z.pending e v.state.pending) tie (known_after b (Promising b) t.state v.state e report acts).0

    ties_on : (after : List Pair) → PendingAfter s.pending e after → Ties v (behind_event s e after)
    ties_on after known =
        let pending : v.state.pending ≡ after = one_pending s.pending e after v.state.pending known pending_so in
        let mirrored : v.state.mirrored ≡ mirrored_after s.mirrored e = (known_after b (Promising b) t.state v.state e report acts).1 ∙ ap (λ (z : Bearing). mirrored_after z.mirrored e) tie in
        λ i. record { pending = pending i; mirrored = mirrored i }

  -- what is done for an event that comes to this
  abbrev Serves : Effect Bearing Event → Place → ℕ → Next ScriptState → List ℕ → Type 0
  Serves f t n u text = ServesEffect (is_json notation) b.model at Shows f t n u text

  does : (e : Event) (t : Place) (s : Bearing) (n : ℕ) (u : Next ScriptState) (text : List ℕ) → Ties t s → MakesEvent e (at t s) u text → (f : Effect Bearing Event) × Comes e s f × Serves f t n u text
  does e t s n u text tie (y, report, acts, next, words) =
      let v : Place = record { state = y; counts = added t.counts (counts_of (option_to_list report)) } in
      (Asks e (behind_event s e y.pending), (y.pending, pending_so e t v s tie report acts, refl), (v, (report, acts, words, refl), next))

  serves : (e : Event) (t : Place) (s : Bearing) (f : Effect Bearing Event) (n : ℕ) (u : Next ScriptState) (text : List ℕ) → Comes e s f → Serves f t n u text → MakesEvent e (at t s) u text
  serves e t s f n u text (after, known, is) h =
      let (v, (report, acts, words, counts), next) = subst (λ (z : Effect Bearing Event). Serves z t n u text) is h in
      (v.state, report, acts, next ∙ ap (λ (c : Counts). GoesOn (record { notation = notation; compiled = b; state = v.state; counts = c })) counts, words)

  never_sets : (s y : Bearing) (e : Event) → Sets y ≡ Asks e s → ⊥
  never_sets s y e h = absurd cc

  goes_on : (t v : Place) (s y : Bearing) (e x : Event) (after : List Pair) (text : List ℕ) → Ties t s → PendingAfter s.pending e after → Asks x y ≡ Asks e (behind_event s e after) → Shows t x v text → Ties v y
  goes_on t v s y e x after text tie known is shows =
      let same : x ≡ e = cc in
      let there : y ≡ behind_event s e after = cc in
      let (report, acts, words, counts) = subst (λ (k : Event). Shows t k v text) same shows in
      ties_on e t v s tie report acts after known ∙ sym there

  pub tells : Tells script_lines (is_json notation) b.model at Said Goes Comes Shows Ties closing_at
  tells = record {
    model = λ t s. refl;
    limit = λ t s. refl;
    words = λ t s. refl;
    closes = λ t s n. refl;
    says = λ t s l said tie h. h.1 ∙ said_is t s l tie;
    said = λ t s l said tie h. (compiled, h ∙ sym (said_is t s l tie));
    follows = follows as_it_is its_event is_itself b.model;
    leads = leads as_it_is its_event is_itself b.model;
    does = does;
    serves = λ e t s f n u text tie h k. serves e t s f n u text h k;
    sets = λ e t s y tie h. absurd (never_sets (behind_event s e h.0) y e h.2);
    asks = λ e t v s y x text tie (after, known, is) shows. goes_on t v s y e x after text tie known is shows;
  }

  -- ---- the events that are asked for, made one after the other

  -- events that are shown are made, and their ticks are counted
  pub record AreMade (t y : Place) (events : List Event) (text : List ℕ) : Type 0 where
    pub reports : List TickReport
    pub made : MakesText notation b t.state events y.state reports text
    pub counted : y.counts ≡ added t.counts (counts_of reports)

  pub shown_made : (events : List Event) (t y : Place) (text : List ℕ) → Shown Shows t events y text → AreMade t y (map its_event events) text
  shown_made [] t y text h = record { reports = []; made = (ap (λ (p : Place). p.state) h.0, refl, h.1); counted = ap (λ (p : Place). p.counts) h.0 ∙ sym (counted_none t.counts) }
  shown_made (e ∷ events) t y text (v, first, rest, (report, acts, words, counts), behind, parts) =
      let p = shown_made events v y rest behind in
      record {
        reports = option_to_list report ++ p.reports;
        made = (v.state, report, p.reports, first, rest, acts, words, p.made, refl, parts);
        counted = p.counted ∙ ap (λ (c : Counts). added c (counts_of p.reports)) counts ∙ counted_first t.counts report p.reports;
      }

  pub made_shown : (events : List Event) (t : Place) (x : ExecutiveState) (reports : List TickReport) (text : List ℕ) → MakesText notation b t.state (map its_event events) x reports text
      → Shown Shows t events (record { state = x; counts = added t.counts (counts_of reports) }) text
  made_shown [] t x reports text (last, none, nothing) =
      ((λ i. record { state = last i; counts = (ap (λ (l : List TickReport). added t.counts (counts_of l)) none ∙ counted_none t.counts) i }), nothing)
  made_shown (e ∷ events) t x reports text (z, report, others, first, rest, acts, words, more, split, parts) =
      let v : Place = record { state = z; counts = added t.counts (counts_of (option_to_list report)) } in
      let p = made_shown events v x others rest more in
      let same : added v.counts (counts_of others) ≡ added t.counts (counts_of reports) = counted_first t.counts report others ∙ ap (λ (l : List TickReport). added t.counts (counts_of l)) (sym split) in
      (v, first, rest, (report, acts, words, refl), subst (λ (c : Counts). Shown Shows v events (record { state = x; counts = c }) rest) same p, parts)

  -- lines end as their document does
  pub ends_so : (t : Place) (end : LinesEnd) → ending_by (is_json notation) b.model closing_at t end ≡ ending notation b.model t.counts (document_end end)
  ends_so t AllRead = refl
  ends_so t (lines.RefusedAt line code) = refl
