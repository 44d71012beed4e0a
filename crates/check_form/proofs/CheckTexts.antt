-- What the machine of `check` prints for an input is what is printed of how the input is judged, both ways.
use Rattle.std.proofs.Common.{◌≡◌, ℕ, ◌+◌, false, List, [], ◌∷◌, ◌++◌, Option, Some, None, refl, sym, ap, subst, ◌∙◌, append-nil}
use Rattle.cca_base.specs.declared.codes.TheConstants.{ENDS_EARLY}
use Rattle.cca_base.specs.declared.events.Event.{Event}
use Rattle.cca_base.specs.declared.events.Refusal.{Refusal}
use Rattle.cca_base.specs.Accepted.{CompiledModel, IsCompiled}
use Rattle.cca_base.specs.PlantModel.{PlantModel}
use Rattle.cca_base.specs.Refusals.{bare}
use Rattle.line_machine.specs.Next.{Next, GoesOn, Stops}
use Rattle.line_machine.specs.Runs.{TransitionByCode, Transition}
use Rattle.line_machine.specs.declared.machine.End.{End}
use Rattle.line_machine.specs.declared.machine.End.TheVariants as ends
use Rattle.model_form.specs.Acceptance.{Acceptance, AcceptedAs, RefusedFor, IsAcceptanceOf}
use Rattle.check_form.specs.CheckEnds.{EndsByScript, EndsByAcceptance}
use Rattle.check_form.specs.CheckForm.{check_form, judged, IsCheck, ChecksAreJudged}
use Rattle.model_form.specs.Answers.{Answer, answer, AnswersByAcceptance, AnswersByEnd, PrintsBehind, TextsAreAnswers}
use Rattle.model_form.specs.ModelTexts.{ModelText, WholeModel}
use Rattle.model_form.specs.ModelTexts as models
use Rattle.model_form.proofs.TextsAreAnswers.{texts_are_answers}
use Rattle.check_form.specs.CheckMachine.{CheckState, InScript, InTrace, TraceSteps, checking_machine, trace_closing}
use Rattle.check_form.specs.CheckScript.{ScriptSoFar, ScriptOutcome, Reads, Ends, Refuses, ScriptLeads, ScriptText, Traced, RefusedScript, LeadsByCode, After, ReadsScript, no_events}
use Rattle.check_form.specs.CheckTrace.{TraceSoFar, TraceOutcome, Follows, Fails, TraceLeads, CheckEnd, FirstRefusal, JudgesByCode, JudgesLines, end_behind, no_to, trace_line_code}
use Rattle.model_form.specs.Limits.{line_code}
use Rattle.trace_text.specs.Json.{refusal_text}
use Rattle.check_form.specs.Verdicts.{no_line}
use Rattle.line_machine.specs.Completes.{Completes}
use Rattle.line_machine.proofs.RunLines.{first_line, line_first, at_stop, stops, at_end, ends as closed}
use Rattle.model_form.proofs.SameAnswer.{same_answer}
use Rattle.check_form.proofs.CheckItems.{ScriptSteps, script_does, script_leads, trace_does, trace_leads}

-- the program ends behind a line
stopped_there : (f : End) (n : ℕ) (ls : List (List ℕ)) (u : Next CheckState) (x text : List ℕ) (e : End) (rest : List ℕ) → (u ≡ Stops f) × (x ≡ text) → Completes checking_machine u n ls e rest → answer e (x ++ rest) ≡ answer f text
stopped_there f n ls u x text e rest by c =
    let p = at_stop checking_machine f n ls e rest (subst (λ (v : Next CheckState). Completes checking_machine v n ls e rest) by.0 c) in
    same_answer p.0 (rw (by.1, p.1) (append-nil text))

-- the machine comes to this
record Comes (u : Next CheckState) (n : ℕ) (ls : List (List ℕ)) (o : Answer) : Type 0 where
  end : End
  text : List ℕ
  completes : Completes checking_machine u n ls end text
  is : o ≡ answer end text

-- one line before a run
line_comes : (s : CheckState) (n : ℕ) (l : List ℕ) (ls : List (List ℕ)) (u : Next CheckState) (x : List ℕ) (e : End) (rest : List ℕ) (o : Answer) → Transition checking_machine s (n + 1) l u x → Completes checking_machine u (n + 1) ls e rest → o ≡ answer e (x ++ rest) → Comes (GoesOn s) n (l ∷ ls) o
line_comes s n l ls u x e rest o takes c is =
    record { end = e; text = x ++ rest; completes = line_first checking_machine s n l ls e (x ++ rest) record { next = u; first = x; takes = takes; rest = rest; completes = c; parts = refl }; is = is }

-- one line that ends the program
stop_comes : (s : CheckState) (n : ℕ) (l : List ℕ) (ls : List (List ℕ)) (f : End) (x : List ℕ) → Transition checking_machine s (n + 1) l (Stops f) x → Comes (GoesOn s) n (l ∷ ls) (answer f x)
stop_comes s n l ls f x takes = line_comes s n l ls (Stops f) x f [] (answer f x) takes (stops checking_machine f (n + 1) ls) (same_answer {e = f} {f = f} refl (sym (append-nil x)))

-- the end of the input
end_comes : (s : CheckState) (n : ℕ) (e : End) (x : List ℕ) → checking_machine.closes s n e x → Comes (GoesOn s) n [] (answer e x)
end_comes s n e x h = record { end = e; text = x; completes = closed checking_machine (GoesOn s) n e x h; is = refl }

module _ (b : CompiledModel) (compiled : IsCompiled b) where
  abbrev m : PlantModel
  m = b.model

  -- ---- the trace

  -- the lines of a trace are judged so, and that is printed
  record TraceEnds (x : TraceSoFar) (n : ℕ) (ls : List (List ℕ)) (o : Answer) : Type 0 where
    end : CheckEnd
    judges : JudgesLines m x n ls end
    is : o ≡ judged end

  closes_is : (behind : Option (List Event)) (x : TraceSoFar) → trace_closing behind x ≡ judged (end_behind behind x)
  closes_is None x = refl
  closes_is (Some events) x = refl

  module _ (x : TraceSoFar) (n : ℕ) (l : List ℕ) (ls : List (List ℕ)) where
    -- the line and the later ones are judged so, by the code of its length, and that is printed
    record LineEnds (c : Option ℕ) (o : Answer) : Type 0 where
      end : CheckEnd
      judges : JudgesByCode c m x (n + 1) l (λ t. JudgesLines m t (n + 1) ls end) end
      is : o ≡ judged end

    step_ends : (o : TraceOutcome) (u : Next CheckState) (a : List ℕ) (e : End) (rest : List ℕ) → TraceLeads m x l o → TraceSteps o b x u a → Completes checking_machine u (n + 1) ls e rest
        → ((t : TraceSoFar) → Completes checking_machine (GoesOn (InTrace b t)) (n + 1) ls e rest → TraceEnds t (n + 1) ls (answer e rest)) → LineEnds None (answer e (a ++ rest))
    step_ends (Follows t) u a e rest leads by c on =
        let r = on t (subst (λ (v : Next CheckState). Completes checking_machine v (n + 1) ls e rest) by.0 c) in
        record { end = r.end; judges = (Follows t, leads, r.judges); is = ap (λ (z : List ℕ). answer e (z ++ rest)) by.1 ∙ r.is }
    step_ends (Fails reason) u a e rest leads by c on =
        record { end = no_to x reason; judges = (Fails reason, leads, refl); is = stopped_there ends.Rejected (n + 1) ls u a (no_line (x.state.ticks + 1) reason) e rest by c }

    line_ends : (c : Option ℕ) (u : Next CheckState) (a : List ℕ) (e : End) (rest : List ℕ) → TransitionByCode checking_machine c (InTrace b x) (n + 1) l u a → Completes checking_machine u (n + 1) ls e rest
        → ((t : TraceSoFar) → Completes checking_machine (GoesOn (InTrace b t)) (n + 1) ls e rest → TraceEnds t (n + 1) ls (answer e rest)) → LineEnds c (answer e (a ++ rest))
    line_ends (Some code) u a e rest by c on =
        record { end = FirstRefusal m (n + 1) (bare code); judges = refl; is = stopped_there ends.Refused (n + 1) ls u a (refusal_text false m (n + 1) (bare code)) e rest by c }
    line_ends None u a e rest does c on =
        let (o, leads, by) = trace_leads b (n + 1) l u a x does in
        step_ends o u a e rest leads by c on

  trace_says : (ls : List (List ℕ)) (x : TraceSoFar) (n : ℕ) (e : End) (text : List ℕ) → Completes checking_machine (GoesOn (InTrace b x)) n ls e text → TraceEnds x n ls (answer e text)
  trace_says [] x n e text c =
      record { end = end_behind x.behind x; judges = refl; is = at_end checking_machine (GoesOn (InTrace b x)) n e text c ∙ closes_is x.behind x }
  trace_says (l ∷ ls) x n e text c =
      let t = first_line checking_machine (InTrace b x) n l ls e text c in
      let r = line_ends x n l ls (trace_line_code (n + 1) l) t.next t.first e t.rest t.takes t.completes (λ y d. trace_says ls y (n + 1) e t.rest d) in
      record { end = r.end; judges = r.judges; is = ap (λ (z : List ℕ). answer e z) t.parts ∙ r.is }

  -- and the other way round
  comes_closed : (x : TraceSoFar) (n : ℕ) → Comes (GoesOn (InTrace b x)) n [] (judged (end_behind x.behind x))
  comes_closed x n =
      let closing = trace_closing x.behind x in
      subst (λ (o : Answer). Comes (GoesOn (InTrace b x)) n [] o) (closes_is x.behind x) (end_comes (InTrace b x) n closing.end closing.text refl)

  module _ (x : TraceSoFar) (n : ℕ) (l : List ℕ) (ls : List (List ℕ)) (end : CheckEnd) where
    takes_code : (code : ℕ) → Some code ≡ trace_line_code (n + 1) l → Transition checking_machine (InTrace b x) (n + 1) l (Stops ends.Refused) (refusal_text false m (n + 1) (bare code))
    takes_code code f = subst (λ (o : Option ℕ). TransitionByCode checking_machine o (InTrace b x) (n + 1) l (Stops ends.Refused) (refusal_text false m (n + 1) (bare code))) f (refl, refl)

    takes_line : (o : TraceOutcome) (u : Next CheckState) (a : List ℕ) → None ≡ trace_line_code (n + 1) l → TraceLeads m x l o → TraceSteps o b x u a → Transition checking_machine (InTrace b x) (n + 1) l u a
    takes_line o u a f leads by = subst (λ (c : Option ℕ). TransitionByCode checking_machine c (InTrace b x) (n + 1) l u a) f (trace_does b (n + 1) l u a x compiled o leads by)

    judged_comes : (c : Option ℕ) → c ≡ trace_line_code (n + 1) l → JudgesByCode c m x (n + 1) l (λ t. JudgesLines m t (n + 1) ls end) end
        → ((t : TraceSoFar) → JudgesLines m t (n + 1) ls end → Comes (GoesOn (InTrace b t)) (n + 1) ls (judged end)) → Comes (GoesOn (InTrace b x)) n (l ∷ ls) (judged end)
    judged_comes (Some code) f is on =
        subst (λ (z : CheckEnd). Comes (GoesOn (InTrace b x)) n (l ∷ ls) (judged z)) (sym is) (stop_comes (InTrace b x) n l ls ends.Refused (refusal_text false m (n + 1) (bare code)) (takes_code code f))
    judged_comes None f (Follows t, leads, judges) on =
        let r = on t judges in
        line_comes (InTrace b x) n l ls (GoesOn (InTrace b t)) [] r.end r.text (judged end) (takes_line (Follows t) (GoesOn (InTrace b t)) [] f leads (refl, refl)) r.completes r.is
    judged_comes None f (Fails reason, leads, is) on =
        let text : List ℕ = no_line (x.state.ticks + 1) reason in
        subst (λ (z : CheckEnd). Comes (GoesOn (InTrace b x)) n (l ∷ ls) (judged z)) (sym is) (stop_comes (InTrace b x) n l ls ends.Rejected text (takes_line (Fails reason) (Stops ends.Rejected) text f leads (refl, refl)))

  trace_comes : (ls : List (List ℕ)) (x : TraceSoFar) (n : ℕ) (end : CheckEnd) → JudgesLines m x n ls end → Comes (GoesOn (InTrace b x)) n ls (judged end)
  trace_comes [] x n end is = subst (λ (z : CheckEnd). Comes (GoesOn (InTrace b x)) n [] (judged z)) (sym is) (comes_closed x n)
  trace_comes (l ∷ ls) x n end h = judged_comes x n l ls end (trace_line_code (n + 1) l) refl h (λ t k. trace_comes ls t (n + 1) end k)

  -- ---- the script

  -- the script ends so, and what comes of it is printed
  record ScriptEnds (s : ScriptSoFar) (n : ℕ) (ls : List (List ℕ)) (o : Answer) : Type 0 where
    text : ScriptText
    reads : ReadsScript m s n ls text
    end : CheckEnd
    ends_so : EndsByScript m text end
    is : o ≡ judged end

  module _ (s : ScriptSoFar) (n : ℕ) (l : List ℕ) (ls : List (List ℕ)) where
    refused_ends : (c : Option ℕ) (code : ℕ) (u : Next CheckState) (a : List ℕ) (e : End) (rest : List ℕ) → c ≡ line_code (n + 1) l → LeadsByCode c m s l (Refuses code) → (u ≡ Stops ends.Refused) × (a ≡ refusal_text false m (n + 1) (bare code))
        → Completes checking_machine u (n + 1) ls e rest → ScriptEnds s n (l ∷ ls) (answer e (a ++ rest))
    refused_ends c code u a e rest f leads by d = record {
      text = RefusedScript (n + 1) (bare code);
      reads = (Refuses code, subst (λ (z : Option ℕ). LeadsByCode z m s l (Refuses code)) f leads, refl);
      end = FirstRefusal m (n + 1) (bare code);
      ends_so = refl;
      is = stopped_there ends.Refused (n + 1) ls u a (refusal_text false m (n + 1) (bare code)) e rest by d;
    }

    outcome_ends : (o : ScriptOutcome) (u : Next CheckState) (a : List ℕ) (e : End) (rest : List ℕ) → None ≡ line_code (n + 1) l → ScriptLeads m s l o → ScriptSteps o b s (n + 1) u a → Completes checking_machine u (n + 1) ls e rest
        → ((t : ScriptSoFar) → Completes checking_machine (GoesOn (InScript b t)) (n + 1) ls e rest → ScriptEnds t (n + 1) ls (answer e rest)) → ScriptEnds s n (l ∷ ls) (answer e (a ++ rest))
    outcome_ends (Refuses code) u a e rest f leads by d on = refused_ends None code u a e rest f leads by d
    outcome_ends (Reads t) u a e rest f leads by d on =
        let r = on t (subst (λ (v : Next CheckState). Completes checking_machine v (n + 1) ls e rest) by.0 d) in
        record {
          text = r.text;
          reads = (Reads t, subst (λ (z : Option ℕ). LeadsByCode z m s l (Reads t)) f leads, r.reads);
          end = r.end;
          ends_so = r.ends_so;
          is = ap (λ (z : List ℕ). answer e (z ++ rest)) by.1 ∙ r.is;
        }
    outcome_ends Ends u a e rest f leads (x, comes, (there, nothing)) d on =
        let r = trace_says ls x (n + 1) e rest (subst (λ (v : Next CheckState). Completes checking_machine v (n + 1) ls e rest) there d) in
        record {
          text = Traced s.events (n + 1) ls;
          reads = (Ends, subst (λ (z : Option ℕ). LeadsByCode z m s l Ends) f leads, refl);
          end = r.end;
          ends_so = (x, comes, r.judges);
          is = ap (λ (z : List ℕ). answer e (z ++ rest)) nothing ∙ r.is;
        }

    script_line_ends : (c : Option ℕ) (u : Next CheckState) (a : List ℕ) (e : End) (rest : List ℕ) → c ≡ line_code (n + 1) l → TransitionByCode checking_machine c (InScript b s) (n + 1) l u a → Completes checking_machine u (n + 1) ls e rest
        → ((t : ScriptSoFar) → Completes checking_machine (GoesOn (InScript b t)) (n + 1) ls e rest → ScriptEnds t (n + 1) ls (answer e rest)) → ScriptEnds s n (l ∷ ls) (answer e (a ++ rest))
    script_line_ends (Some code) u a e rest f by d on = refused_ends (Some code) code u a e rest f refl by d
    script_line_ends None u a e rest f does d on =
        let (o, leads, by) = script_leads b (n + 1) l u a s does in
        outcome_ends o u a e rest f leads by d on

  script_says : (ls : List (List ℕ)) (s : ScriptSoFar) (n : ℕ) (e : End) (text : List ℕ) → Completes checking_machine (GoesOn (InScript b s)) n ls e text → ScriptEnds s n ls (answer e text)
  script_says [] s n e text c =
      record { text = RefusedScript n (bare ENDS_EARLY); reads = refl; end = FirstRefusal m n (bare ENDS_EARLY); ends_so = refl; is = at_end checking_machine (GoesOn (InScript b s)) n e text c }
  script_says (l ∷ ls) s n e text c =
      let t = first_line checking_machine (InScript b s) n l ls e text c in
      subst (λ (z : List ℕ). ScriptEnds s n (l ∷ ls) (answer e z)) (sym t.parts)
      (script_line_ends s n l ls (line_code (n + 1) l) t.next t.first e t.rest refl t.takes t.completes (λ y d. script_says ls y (n + 1) e t.rest d))

  -- and the other way round
  stopped_comes : (s : ScriptSoFar) (n : ℕ) (ls : List (List ℕ)) (text : ScriptText) (line : ℕ) (r : Refusal) (end : CheckEnd) → text ≡ RefusedScript line r → EndsByScript m text end → Comes (GoesOn (InScript b s)) n ls (judged (FirstRefusal m line r)) → Comes (GoesOn (InScript b s)) n ls (judged end)
  stopped_comes s n ls text line r end is so c =
      let same : end ≡ FirstRefusal m line r = subst (λ (t : ScriptText). EndsByScript m t end) is so in
      subst (λ (z : CheckEnd). Comes (GoesOn (InScript b s)) n ls (judged z)) (sym same) c

  module _ (s : ScriptSoFar) (n : ℕ) (l : List ℕ) (ls : List (List ℕ)) (text : ScriptText) (end : CheckEnd) (so : EndsByScript m text end) where
    takes_script_code : (code : ℕ) → Some code ≡ line_code (n + 1) l → Transition checking_machine (InScript b s) (n + 1) l (Stops ends.Refused) (refusal_text false m (n + 1) (bare code))
    takes_script_code code f = subst (λ (o : Option ℕ). TransitionByCode checking_machine o (InScript b s) (n + 1) l (Stops ends.Refused) (refusal_text false m (n + 1) (bare code))) f (refl, refl)

    takes_script_line : (o : ScriptOutcome) (u : Next CheckState) (a : List ℕ) → None ≡ line_code (n + 1) l → ScriptLeads m s l o → ScriptSteps o b s (n + 1) u a → Transition checking_machine (InScript b s) (n + 1) l u a
    takes_script_line o u a f leads by = subst (λ (c : Option ℕ). TransitionByCode checking_machine c (InScript b s) (n + 1) l u a) f (script_does b (n + 1) l u a s compiled o leads by)

    refused_comes : (code : ℕ) → text ≡ RefusedScript (n + 1) (bare code) → Transition checking_machine (InScript b s) (n + 1) l (Stops ends.Refused) (refusal_text false m (n + 1) (bare code)) → Comes (GoesOn (InScript b s)) n (l ∷ ls) (judged end)
    refused_comes code is takes =
        stopped_comes s n (l ∷ ls) text (n + 1) (bare code) end is so (stop_comes (InScript b s) n l ls ends.Refused (refusal_text false m (n + 1) (bare code)) takes)

    outcome_comes : (o : ScriptOutcome) → None ≡ line_code (n + 1) l → ScriptLeads m s l o → After o (λ t. ReadsScript m t (n + 1) ls text) (text ≡ Traced s.events (n + 1) ls) (λ code. text ≡ RefusedScript (n + 1) (bare code))
        → ((t : ScriptSoFar) → ReadsScript m t (n + 1) ls text → Comes (GoesOn (InScript b t)) (n + 1) ls (judged end)) → Comes (GoesOn (InScript b s)) n (l ∷ ls) (judged end)
    outcome_comes (Refuses code) f leads is on = refused_comes code is (takes_script_line (Refuses code) (Stops ends.Refused) (refusal_text false m (n + 1) (bare code)) f leads (refl, refl))
    outcome_comes (Reads t) f leads reads on =
        let r = on t reads in
        line_comes (InScript b s) n l ls (GoesOn (InScript b t)) [] r.end r.text (judged end) (takes_script_line (Reads t) (GoesOn (InScript b t)) [] f leads (refl, refl)) r.completes r.is
    outcome_comes Ends f leads is on =
        let (x, comes, judges) = subst (λ (t : ScriptText). EndsByScript m t end) is so in
        let r = trace_comes ls x (n + 1) end judges in
        line_comes (InScript b s) n l ls (GoesOn (InTrace b x)) [] r.end r.text (judged end) (takes_script_line Ends (GoesOn (InTrace b x)) [] f leads (x, comes, (refl, refl))) r.completes r.is

    script_line_comes : (c : Option ℕ) (o : ScriptOutcome) → c ≡ line_code (n + 1) l → LeadsByCode c m s l o → After o (λ t. ReadsScript m t (n + 1) ls text) (text ≡ Traced s.events (n + 1) ls) (λ code. text ≡ RefusedScript (n + 1) (bare code))
        → ((t : ScriptSoFar) → ReadsScript m t (n + 1) ls text → Comes (GoesOn (InScript b t)) (n + 1) ls (judged end)) → Comes (GoesOn (InScript b s)) n (l ∷ ls) (judged end)
    script_line_comes (Some code) o f leads after on =
        refused_comes code (subst (λ (z : ScriptOutcome). After z (λ t. ReadsScript m t (n + 1) ls text) (text ≡ Traced s.events (n + 1) ls) (λ k. text ≡ RefusedScript (n + 1) (bare k))) leads after) (takes_script_code code f)
    script_line_comes None o f leads after on = outcome_comes o f leads after on

  script_comes : (ls : List (List ℕ)) (s : ScriptSoFar) (n : ℕ) (text : ScriptText) (end : CheckEnd) → ReadsScript m s n ls text → EndsByScript m text end → Comes (GoesOn (InScript b s)) n ls (judged end)
  script_comes [] s n text end is so =
      stopped_comes s n [] text n (bare ENDS_EARLY) end is so (end_comes (InScript b s) n ends.Refused (refusal_text false m n (bare ENDS_EARLY)) refl)
  script_comes (l ∷ ls) s n text end (o, leads, after) so =
      script_line_comes s n l ls text end so (line_code (n + 1) l) o refl leads after (λ t reads. script_comes ls t (n + 1) text end reads so)

-- ---- behind the model

-- what is judged of the compiled model is judged of the model that was read
of_model : (b : CompiledModel) (k : PlantModel) (n : ℕ) (ls : List (List ℕ)) (text : ScriptText) (end : CheckEnd) → b.model ≡ k → ReadsScript b.model no_events n ls text × EndsByScript b.model text end → ReadsScript k no_events n ls text × EndsByScript k text end
of_model b k n ls text end e h = subst (λ (m : PlantModel). ReadsScript m no_events n ls text × EndsByScript m text end) e h

-- behind an accepted model
abbrev Prints : CompiledModel → ℕ → List (List ℕ) → End → List ℕ → Type 0
Prints b n ls e text = PrintsBehind check_form checking_machine (record {}) b n ls e text

behind_says : (v : Acceptance) (k : PlantModel) (n : ℕ) (ls : List (List ℕ)) (e : End) (text : List ℕ) → IsAcceptanceOf k v → AnswersByAcceptance false Prints v k n ls e text → IsCheck (WholeModel k n ls) e text
behind_says (AcceptedAs b) k n ls e text is p =
    let r = script_says b is.0 ls no_events n e p.rest (subst (λ (v : Next CheckState). Completes checking_machine v n ls e p.rest) p.begins.0 p.completes) in
    let own = of_model b k n ls r.text r.end is.1 (r.reads, r.ends_so) in
    let same : text ≡ p.rest = p.parts ∙ ap (λ (z : List ℕ). z ++ p.rest) p.begins.1 in
    (r.end, (AcceptedAs b, is, (r.text, own.0, own.1)), ap (answer e) same ∙ r.is)
behind_says (RefusedFor r) k n ls e text is h = (FirstRefusal k n r, (RefusedFor r, is, refl), same_answer h.0 h.1)

model_says : (m : ModelText) (e : End) (text : List ℕ) → AnswersByEnd false Prints m e text → IsCheck m e text
model_says (WholeModel k n ls) e text (v, is, h) = behind_says v k n ls e text is h
model_says (models.RefusedModel k line r) e text h = (FirstRefusal k line r, refl, same_answer h.0 h.1)

-- a refusal is printed as one
refused_as : (k : PlantModel) (line : ℕ) (r : Refusal) (e : End) (text : List ℕ) (end : CheckEnd) → end ≡ FirstRefusal k line r → answer e text ≡ judged end → (e ≡ ends.Refused) × (text ≡ refusal_text false k line r)
refused_as k line r e text end is same =
    let all : answer e text ≡ judged (FirstRefusal k line r) = same ∙ ap judged is in
    (ap (λ (a : Answer). a.end) all, ap (λ (a : Answer). a.text) all)

behind_comes : (v : Acceptance) (k : PlantModel) (n : ℕ) (ls : List (List ℕ)) (end : CheckEnd) (e : End) (text : List ℕ) → IsAcceptanceOf k v → EndsByAcceptance v k n ls end → answer e text ≡ judged end → AnswersByAcceptance false Prints v k n ls e text
behind_comes (AcceptedAs b) k n ls end e text is (script, reads, so) same =
    let own = subst (λ (m : PlantModel). ReadsScript m no_events n ls script × EndsByScript m script end) (sym is.1) (reads, so) in
    let r = script_comes b is.0 ls no_events n script end own.0 own.1 in
    record {
      next = GoesOn (InScript b no_events);
      first = [];
      begins = (refl, refl);
      rest = text;
      completes = subst (λ (a : Answer). Completes checking_machine (GoesOn (InScript b no_events)) n ls a.end a.text) (sym (same ∙ r.is)) r.completes;
      parts = refl;
    }
behind_comes (RefusedFor r) k n ls end e text is so same = refused_as k n r e text end so same

model_comes : (m : ModelText) (e : End) (text : List ℕ) → IsCheck m e text → AnswersByEnd false Prints m e text
model_comes (WholeModel k n ls) e text (end, (v, is, so), same) = (v, is, behind_comes v k n ls end e text is so same)
model_comes (models.RefusedModel k line r) e text (end, so, same) = refused_as k line r e text end so same

pub checks_are_judged : ChecksAreJudged
checks_are_judged =
    let t : TextsAreAnswers check_form checking_machine = texts_are_answers check_form checking_machine in
    record {
      says = λ input e text is. let (m, reads, h) = t.says (record {}) input e text is in (m, reads, model_says m e text h);
      comes = λ input e text m reads h. t.comes (record {}) input e text (m, reads, model_comes m e text h);
    }
