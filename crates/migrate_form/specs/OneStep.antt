-- A script and a line lead to one script and one text. The proofs stand here since a machine names them.
use Rattle.std.proofs.Common.{◌≡◌, ℕ, List, Option, Some, Result, Ok, sym, ap, ◌∙◌}
use Rattle.cca_base.specs.declared.cube.Pair.{Pair}
use Rattle.line_machine.specs.Next.{Next, GoesOn}
use Rattle.model_form.specs.OneStep.{AreOne}
use Rattle.trace_laws.specs.Events.{mirrored_after}
use Rattle.trace_laws.proofs.PendingKnown.{one_pending}
use Rattle.migrate_form.specs.MigrateMachine.{ScriptSoFar, KeepsLine, second_lines}
use Rattle.migrate_form.specs.declared.script.KeptLine.{KeptLine}

pub begins_one_way : {S : Type 0} {s : S} {text : List ℕ} {u v : Next S} {a c : List ℕ} → (u ≡ GoesOn s) × (a ≡ text) → (v ≡ GoesOn s) × (c ≡ text) → AreOne u v a c
begins_one_way h k = (h.0 ∙ sym k.0, h.1 ∙ sym k.1)

pub said_one : (x : ScriptSoFar) (l : List ℕ) (a b : Result (Option KeptLine) ℕ) → second_lines.said x l a → second_lines.said x l b → a ≡ b
said_one x l a b h k = h ∙ sym k

pub serves_one : (k : KeptLine) (x : ScriptSoFar) (l : List ℕ) (n : ℕ) (u v : Next ScriptSoFar) (a c : List ℕ) → second_lines.said x l (Ok (Some k)) → KeepsLine k x u a → KeepsLine k x v c → AreOne u v a c
serves_one k x l n u v a c says (p, known, at, text) (q, also, there, words) = (
  at ∙ ap (λ (z : List Pair). GoesOn (record x { pending = z; mirrored = mirrored_after x.mirrored k.event })) (one_pending x.pending k.event q p also known) ∙ sym there,
  text ∙ sym words,
)
