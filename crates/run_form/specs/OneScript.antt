-- A script and a line lead to one script and one text. The proofs stand here since a machine names them.
use Rattle.std.proofs.Common.{◌≡◌, ℕ, ◌+◌, ◌≤◌, false, List, Option, Some, Result, Ok, sym, ap, subst, ◌∙◌, arith}
use Rattle.cca_base.specs.declared.events.Event.{Event}
use Rattle.cca_base.specs.declared.events.TickReport.{TickReport}
use Rattle.line_machine.specs.Next.{Next, GoesOn}
use Rattle.model_form.specs.OneStep.{AreOne}
use Rattle.trace_laws.proofs.OneNext.{acts_are_one}
use Rattle.trace_text.specs.declared.refusal.TheConstants.{REFUSAL_ROOM}
use Rattle.run_form.specs.Notations.{is_json}
use Rattle.run_form.specs.OneText.{one_event_text}
use Rattle.run_form.specs.ScriptMachine.{ScriptState, MakesEvent, ScriptAwaits, ScriptSteady, after_event, script_lines}
use Rattle.run_form.specs.TickTexts.{EventText}

pub said_one : (x : ScriptState) (l : List ℕ) (a b : Result (Option Event) ℕ) → script_lines.said x l a → script_lines.said x l b → a ≡ b
said_one x l a b h k = h.1 ∙ sym k.1

pub serves_one : (e : Event) (x : ScriptState) (l : List ℕ) (n : ℕ) (u v : Next ScriptState) (a c : List ℕ) → script_lines.said x l (Ok (Some e)) → MakesEvent e x u a → MakesEvent e x v c → AreOne u v a c
serves_one e x l n u v a c says (z, report, acts, at, text) (w, other, others, there, words) =
    let same = acts_are_one x.compiled says.0 x.state e z w report other acts others in (
      at ∙ (λ i. GoesOn (after_event x (same.0 i) (same.1 i))) ∙ sym there,
      one_event_text x.notation x.compiled x.state other a c (subst (λ (t : Option TickReport). EventText x.notation x.compiled x.state t a) same.1 text) words,
    )

pub awaits_on : (x : ScriptState) (n : ℕ) → ScriptAwaits x n → ScriptAwaits x (n + 1)
awaits_on x n (few, h) =
    let sent = h.sent in
    let achieved = h.achieved in
    let unreachable = h.unreachable in
    let unexplained = h.unexplained in
    let holding = h.holding in
    let idle = h.idle in (
      omega (arith, few),
      record {
        sent = omega (arith, sent);
        achieved = omega (arith, achieved);
        unreachable = omega (arith, unreachable);
        unexplained = omega (arith, unexplained);
        holding = omega (arith, holding);
        idle = omega (arith, idle);
      },
    )

pub steady_refusals : (x : ScriptState) (n : ℕ) → ScriptSteady x n → (is_json x.notation ≡ false) × (REFUSAL_ROOM ≤ n)
steady_refusals x n h = (ap is_json h.words, h.refusal)
