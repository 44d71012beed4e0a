-- What code answers and appends for a line of a check is what is done for what the line asks for.
use Rattle.std.proofs.Common.{◌≡◌, ℕ, List, [], Option, Result, Ok, Err, IfOk, refl, sym, ap, subst, ◌∙◌, append-nil}
use Rattle.std.specs.declared.alloc.AllocError.{AllocError}
use Rattle.cca_base.specs.declared.cube.Pair.{Pair}
use Rattle.cca_base.specs.declared.events.Event.{Event}
use Rattle.cca_base.specs.Accepted.{CompiledModel}
use Rattle.cca_base.specs.PlantModel.{PlantModel}
use Rattle.cca_base.specs.Trace.{start}
use Rattle.line_machine.specs.Next.{GoesOn, next_of}
use Rattle.byte_buffer.specs.Outs.{Appended, Buffered}
use Rattle.line_machine.specs.declared.machine.End.{End}
use Rattle.trace_laws.specs.Events.{PendingAfter}
use Rattle.check_form.specs.CheckMachine.{CheckState, InScript, InTrace, ServesIn, TraceSteps}
use Rattle.check_form.specs.CheckScript.{ScriptSoFar, with_event}
use Rattle.check_form.specs.CheckStages.{SaysBy, SaysOf}
use Rattle.check_form.specs.CheckTrace.{TraceSoFar, TraceOutcome, Follows, Fails, ComesTo, TraceLeads}
use Rattle.check_form.specs.declared.item.CheckItem.{CheckItem}
use Rattle.check_form.specs.declared.item.CheckItem.TheVariants as items

module _ (b : CompiledModel) (s : CheckState) (item : CheckItem) where
  pub keeps_event : (x y : ScriptSoFar) (e : Event) (out : Buffered) → InScript b x ≡ s → item ≡ items.Keeps e → ((after : List Pair) × PendingAfter x.pending e after × (y ≡ with_event x e after)) → Appended (ServesIn item s (GoesOn (InScript b y))) out out
  keeps_event x y e out at asks (after, known, is) =
      let own : ServesIn (items.Keeps e) (InScript b x) (GoesOn (InScript b y)) [] = (after, known, (ap (λ (z : ScriptSoFar). GoesOn (InScript b z)) is, refl)) in
      let serves = subst (λ (i : CheckItem). ServesIn i (InScript b x) (GoesOn (InScript b y)) []) (sym asks) own in
      record { text = []; is = subst (λ (z : CheckState). ServesIn item z (GoesOn (InScript b y)) []) at serves; behind = sym (append-nil out.bytes) }

  pub begins_trace : (x : ScriptSoFar) (m : PlantModel) (events : List Event) (t : TraceSoFar) (out : Buffered) → InScript b x ≡ s → item ≡ items.Trace → m ≡ b.model → events ≡ x.events → ComesTo m (start m 0) events t
      → Appended (ServesIn item s (GoesOn (InTrace b t))) out out
  begins_trace x m events t out at asks own same comes =
      let moved = subst (λ (k : PlantModel). ComesTo k (start k 0) x.events t) own (subst (λ (es : List Event). ComesTo m (start m 0) es t) same comes) in
      let is : ServesIn items.Trace (InScript b x) (GoesOn (InTrace b t)) [] = (t, moved, (refl, refl)) in
      let serves = subst (λ (i : CheckItem). ServesIn i (InScript b x) (GoesOn (InTrace b t)) []) (sym asks) is in
      record { text = []; is = subst (λ (z : CheckState). ServesIn item z (GoesOn (InTrace b t)) []) at serves; behind = sym (append-nil out.bytes) }

  module _ (x y : TraceSoFar) (m : PlantModel) (line : List ℕ) (at : InTrace b x ≡ s) (asks : item ≡ items.Judges line) (own : m ≡ b.model) (old new : Buffered) where
    outcome : (o : TraceOutcome) (end : Option End) (text : List ℕ) → SaysBy o x y end text → TraceSteps o b x (next_of (InTrace b y) end) text
    outcome (Follows t) end text h = (ap (next_of (InTrace b y)) h.0 ∙ ap (λ (z : TraceSoFar). GoesOn (InTrace b z)) (sym h.2), h.1)
    outcome (Fails reason) end text h = (ap (next_of (InTrace b y)) h.0, h.1)

    pub judges_line : (r : Result (Option End) AllocError) → IfOk r (λ end. Appended (SaysOf (TraceLeads m x line) x y end) old new) → IfOk r (λ end. Appended (ServesIn item s (next_of (InTrace b y) end)) old new)
    judges_line (Ok end) h =
        let (o, leads, says) = h.is in
        let is : ServesIn (items.Judges line) (InTrace b x) (next_of (InTrace b y) end) h.text = (o, subst (λ (k : PlantModel). TraceLeads k x line o) own leads, outcome o end h.text says) in
        let serves = subst (λ (i : CheckItem). ServesIn i (InTrace b x) (next_of (InTrace b y) end) h.text) (sym asks) is in
        record { text = h.text; is = subst (λ (z : CheckState). ServesIn item z (next_of (InTrace b y) end) h.text) at serves; behind = h.behind }
    judges_line (Err e) h = tt
