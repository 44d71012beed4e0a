-- Events made one after the other, each with its text, are the ticks of a trace with their texts.
use Rattle.std.specs.Prelude.{option_to_list}
use Rattle.std.proofs.Common.{◌≡◌, ℕ, List, [], ◌∷◌, ◌++◌, map, Option, Some, None, refl, sym, ap, subst, ◌∙◌}
use Rattle.cca_base.specs.declared.events.Event.{Event}
use Rattle.cca_base.specs.declared.events.Event.TheVariants as event
use Rattle.cca_base.specs.declared.events.TickReport.{TickReport}
use Rattle.cca_base.specs.Accepted.{CompiledModel}
use Rattle.cca_base.specs.Plans.{Promising}
use Rattle.cca_base.specs.Runs.{TickRecord, Ticks, Trace}
use Rattle.cca_base.specs.Trace.{ExecutiveState, start}
use Rattle.trace_laws.specs.Events.{Acts}
use Rattle.run_form.specs.TickTexts.{EventText, TicksText}
use Rattle.run_form.specs.declared.notation.Notation.{Notation}

module _ (notation : Notation) (b : CompiledModel) where
  -- some events, one after the other, lead from x to y, with these reports and this text
  abbrev pub MakesText : ExecutiveState → List Event → ExecutiveState → List TickReport → List ℕ → Type 0
  MakesText x [] y reports text = (y ≡ x) × (reports ≡ []) × (text ≡ [])
  MakesText x (e ∷ events) y reports text =
      (z : ExecutiveState) × (report : Option TickReport) × (others : List TickReport) × (first rest : List ℕ)
      × Acts b (Promising b) x e z report × EventText notation b x report first × MakesText z events y others rest
      × (reports ≡ option_to_list report ++ others) × (text ≡ first ++ rest)

  -- the ticks of some events, with their text
  pub record AreTold (x : ExecutiveState) (since events : List Event) (reports : List TickReport) (text : List ℕ) : Type 0 where
    pub ticks : List TickRecord
    pub made : Ticks b (Promising b) x since events ticks
    pub reported : reports ≡ map (λ (t : TickRecord). t.report) ticks
    pub told : TicksText notation b ticks text

  -- an event that is no tick adds nothing
  quiet_event : (x z : ExecutiveState) (since : List Event) (e : Event) (events : List Event) (reports : List TickReport) (text : List ℕ) → Acts b (Promising b) x e z None → AreTold z (since ++ e ∷ []) events reports text → AreTold x since (e ∷ events) reports text
  quiet_event x z since (event.Goal pairs) events reports text act h = record { ticks = h.ticks; made = (z, act, h.made); reported = h.reported; told = h.told }
  quiet_event x z since event.Clear events reports text act h = record { ticks = h.ticks; made = (z, act, h.made); reported = h.reported; told = h.told }
  quiet_event x z since (event.Observe pairs) events reports text act h = record { ticks = h.ticks; made = (z, act, h.made); reported = h.reported; told = h.told }
  quiet_event x z since (event.Fault p) events reports text act h = record { ticks = h.ticks; made = (z, act, h.made); reported = h.reported; told = h.told }
  quiet_event x z since (event.Mirror v) events reports text act h = record { ticks = h.ticks; made = (z, act, h.made); reported = h.reported; told = h.told }
  quiet_event x z since event.Reset events reports text act h = record { ticks = h.ticks; made = (z, act, h.made); reported = h.reported; told = h.told }
  quiet_event x z since event.Tick events reports text act h = absurd act

  a_tick : (x z : ExecutiveState) (since : List Event) (e : Event) (events : List Event) (report : TickReport) (others : List TickReport) (first rest : List ℕ) → Acts b (Promising b) x e z (Some report) → EventText notation b x (Some report) first → AreTold z [] events others rest
      → AreTold x since (e ∷ events) (report ∷ others) (first ++ rest)
  a_tick x z since event.Tick events report others first rest act says on = record {
    ticks = record { since = since; before = x; report = report } ∷ on.ticks;
    made = (refl, refl, act.1, z, act.2, on.made);
    reported = ap (λ (l : List TickReport). report ∷ l) on.reported;
    told = (first, rest, says, on.told, refl);
  }
  a_tick x z since (event.Goal pairs) events report others first rest act says on = absurd act.0
  a_tick x z since event.Clear events report others first rest act says on = absurd act.0
  a_tick x z since (event.Observe pairs) events report others first rest act says on = absurd act.0
  a_tick x z since (event.Fault p) events report others first rest act says on = absurd act.0
  a_tick x z since (event.Mirror v) events report others first rest act says on = absurd act.0
  a_tick x z since event.Reset events report others first rest act says on = absurd act.0

  told_of : (events : List Event) (x : ExecutiveState) (since : List Event) (y : ExecutiveState) (reports : List TickReport) (text : List ℕ) → MakesText x events y reports text → AreTold x since events reports text
  told_of [] x since y reports text made = record { ticks = []; made = refl; reported = made.1; told = made.2 }
  told_of (e ∷ events) x since y reports text (z, None, others, first, rest, act, says, made, split, parts) =
      let same : others ≡ reports = sym split in
      let words : rest ≡ text = sym (parts ∙ (λ i. says i ++ rest)) in
      subst (AreTold x since (e ∷ events) reports) words (subst (λ (l : List TickReport). AreTold x since (e ∷ events) l rest) same (quiet_event x z since e events others rest act (told_of events z (since ++ e ∷ []) y others rest made)))
  told_of (e ∷ events) x since y reports text (z, Some report, others, first, rest, act, says, made, split, parts) =
      subst (AreTold x since (e ∷ events) reports) (sym parts) (subst (λ (l : List TickReport). AreTold x since (e ∷ events) l (first ++ rest)) (sym split) (a_tick x z since e events report others first rest act says (told_of events z [] y others rest made)))

  -- events that were made are a trace with its text
  pub record IsToldTrace (events : List Event) (reports : List TickReport) (text : List ℕ) : Type 0 where
    pub trace : Trace b (Promising b) events reports
    pub told : TicksText notation b trace.ticks text

  pub made_is_told : (events : List Event) (y : ExecutiveState) (reports : List TickReport) (text : List ℕ) → MakesText (start b.model 0) events y reports text → IsToldTrace events reports text
  made_is_told events y reports text h =
      let t = told_of events (start b.model 0) [] y reports text h in
      record { trace = record { ticks = t.ticks; made = t.made; reported = t.reported }; told = t.told }

  -- ---- and back

  abbrev AreMade : ExecutiveState → List Event → List TickReport → List ℕ → Type 0
  AreMade x events reports text = (y : ExecutiveState) × MakesText x events y reports text

  quiet_made : (x z : ExecutiveState) (e : Event) (events : List Event) (reports : List TickReport) (text : List ℕ) → Acts b (Promising b) x e z None → AreMade z events reports text → AreMade x (e ∷ events) reports text
  quiet_made x z e events reports text act (y, made) = (y, (z, None, reports, [], text, act, refl, made, refl, refl))

  abbrev reports_of : List TickRecord → List TickReport
  reports_of ticks = map (λ (t : TickRecord). t.report) ticks

  made_of : (events : List Event) (x : ExecutiveState) (since : List Event) (ticks : List TickRecord) (text : List ℕ) → Ticks b (Promising b) x since events ticks → TicksText notation b ticks text → AreMade x events (reports_of ticks) text
  made_of [] x since ticks text h told = (x, (refl, ap reports_of h, subst (λ (l : List TickRecord). TicksText notation b l text) h told))
  made_of (event.Tick ∷ events) x since [] text h told = absurd h
  made_of (event.Tick ∷ events) x since (t ∷ ticks) text (a, c, n, z, shows, rest) (first, later, says, more, parts) =
      let (y, made) = made_of events z [] ticks later rest more in
      (y, (z, Some t.report, reports_of ticks, first, later, (tt, n, shows), subst (λ (w : ExecutiveState). EventText notation b w (Some t.report) first) c says, made, refl, parts))
  made_of (event.Goal pairs ∷ events) x since ticks text (z, change, rest) told = quiet_made x z (event.Goal pairs) events (reports_of ticks) text change (made_of events z (since ++ event.Goal pairs ∷ []) ticks text rest told)
  made_of (event.Clear ∷ events) x since ticks text (z, change, rest) told = quiet_made x z event.Clear events (reports_of ticks) text change (made_of events z (since ++ event.Clear ∷ []) ticks text rest told)
  made_of (event.Observe pairs ∷ events) x since ticks text (z, change, rest) told = quiet_made x z (event.Observe pairs) events (reports_of ticks) text change (made_of events z (since ++ event.Observe pairs ∷ []) ticks text rest told)
  made_of (event.Fault p ∷ events) x since ticks text (z, change, rest) told = quiet_made x z (event.Fault p) events (reports_of ticks) text change (made_of events z (since ++ event.Fault p ∷ []) ticks text rest told)
  made_of (event.Mirror v ∷ events) x since ticks text (z, change, rest) told = quiet_made x z (event.Mirror v) events (reports_of ticks) text change (made_of events z (since ++ event.Mirror v ∷ []) ticks text rest told)
  made_of (event.Reset ∷ events) x since ticks text (z, change, rest) told = quiet_made x z event.Reset events (reports_of ticks) text change (made_of events z (since ++ event.Reset ∷ []) ticks text rest told)

  pub told_is_made : (events : List Event) (reports : List TickReport) (text : List ℕ) → (trace : Trace b (Promising b) events reports) → TicksText notation b trace.ticks text → AreMade (start b.model 0) events reports text
  told_is_made events reports text trace told = subst (λ (l : List TickReport). AreMade (start b.model 0) events l text) (sym trace.reported) (made_of events (start b.model 0) [] trace.ticks text trace.made told)
