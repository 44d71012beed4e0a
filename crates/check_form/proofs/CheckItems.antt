-- A line of a check does what it asks for exactly where it leads so.
use Rattle.std.proofs.Common.{ℕ, Bool, true, false, List, Option, Some, None, Result, Ok, Err, refl, subst}
use Rattle.cca_base.specs.declared.events.Event.{Event}
use Rattle.cca_base.specs.Accepted.{CompiledModel, IsCompiled}
use Rattle.cca_base.specs.Refusals.{bare}
use Rattle.cca_base.specs.Trace.{start}
use Rattle.line_forms.specs.LinesMachine.{DoesBy}
use Rattle.line_machine.specs.Next.{Next}
use Rattle.model_form.specs.ModelSteps.{GoesOnIn, RefusesLine}
use Rattle.script_reader.specs.EventLines.{event_line}
use Rattle.check_form.specs.CheckMachine.{CheckState, InScript, InTrace, TraceSteps, check_lines, checking_machine, script_item}
use Rattle.check_form.specs.CheckScript.{ScriptSoFar, ScriptOutcome, Reads, Ends, Refuses, LeadsUnless, ScriptLeads, is_trace_line, with_event}
use Rattle.check_form.specs.CheckTrace.{TraceSoFar, TraceOutcome, ComesTo, TraceLeads}
use Rattle.check_form.specs.declared.item.CheckItem.{CheckItem}
use Rattle.check_form.specs.declared.item.CheckItem.TheVariants as items

-- what a line does by what it makes of the script: behind the line `trace` the events up to the first tick are made
abbrev pub ScriptSteps : ScriptOutcome → CompiledModel → ScriptSoFar → ℕ → Next CheckState → List ℕ → Type 0
ScriptSteps (Reads t) b s n u text = GoesOnIn (InScript b t) u text
ScriptSteps Ends b s n u text = (x : TraceSoFar) × ComesTo b.model (start b.model 0) s.events x × GoesOnIn (InTrace b x) u text
ScriptSteps (Refuses code) b s n u text = RefusesLine false b.model n (bare code) u text

module _ (b : CompiledModel) (n : ℕ) (l : List ℕ) (u : Next CheckState) (text : List ℕ) where
  module _ (s : ScriptSoFar) where
    abbrev Does : Result (Option CheckItem) ℕ → Type 0
    Does said = DoesBy check_lines said (InScript b s) n u text

    leads_by : (ends : Bool) (said : Result (Option Event) ℕ) → Does (script_item ends said) → (o : ScriptOutcome) × LeadsUnless ends said s o × ScriptSteps o b s n u text
    leads_by true said h = (Ends, refl, h)
    leads_by false (Err code) h = (Refuses code, refl, h)
    leads_by false (Ok None) h = (Reads s, refl, h)
    leads_by false (Ok (Some e)) (after, known, h) = (Reads (with_event s e after), (after, known, refl), h)

    does_by : (ends : Bool) (said : Result (Option Event) ℕ) (o : ScriptOutcome) → LeadsUnless ends said s o → ScriptSteps o b s n u text → Does (script_item ends said)
    does_by true said o is h = subst (λ (z : ScriptOutcome). ScriptSteps z b s n u text) is h
    does_by false (Err code) o is h = subst (λ (z : ScriptOutcome). ScriptSteps z b s n u text) is h
    does_by false (Ok None) o is h = subst (λ (z : ScriptOutcome). ScriptSteps z b s n u text) is h
    does_by false (Ok (Some e)) o (after, known, is) h = (after, known, subst (λ (z : ScriptOutcome). ScriptSteps z b s n u text) is h)

    -- in the script
    pub script_leads : checking_machine.steps (InScript b s) n l u text → (o : ScriptOutcome) × ScriptLeads b.model s l o × ScriptSteps o b s n u text
    script_leads (said, says, does) = leads_by (is_trace_line l) (event_line b.model s.pending s.mirrored l) (subst Does says.1 does)

    pub script_does : IsCompiled b → (o : ScriptOutcome) → ScriptLeads b.model s l o → ScriptSteps o b s n u text → checking_machine.steps (InScript b s) n l u text
    script_does compiled o leads h =
        let said = event_line b.model s.pending s.mirrored l in
        (script_item (is_trace_line l) said, (compiled, refl), does_by (is_trace_line l) said o leads h)

  -- in the trace
  module _ (x : TraceSoFar) where
    pub trace_leads : checking_machine.steps (InTrace b x) n l u text → (o : TraceOutcome) × TraceLeads b.model x l o × TraceSteps o b x u text
    trace_leads (said, says, does) = subst (λ (z : Result (Option CheckItem) ℕ). DoesBy check_lines z (InTrace b x) n u text) says.1 does

    pub trace_does : IsCompiled b → (o : TraceOutcome) → TraceLeads b.model x l o → TraceSteps o b x u text → checking_machine.steps (InTrace b x) n l u text
    trace_does compiled o leads h = (Ok (Some (items.Judges l)), (compiled, refl), (o, leads, h))
