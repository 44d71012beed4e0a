use Rattle.std.proofs.Common.{◌∷◌, ap, map, List, ℕ}
use Rattle.std.proofs.lemmas.List.{at_drop_more}
use Rattle.byte_buffer.proofs.Pushing.{continues_then, pushed_as}
use Rattle.trace_text.specs.Names.{name_at}
use Rattle.trace_text.specs.Words.{behind_spaces}
use Rattle.trace_text.proofs.proof_lines.push_commands.Goals as goal

pub loop-command-preserved : goal.loop-command-preserved
loop-command-preserved c =
    let left = at_drop_more (λ (ks : List ℕ). behind_spaces (map (name_at c.args.names.now) ks)) c.args.plan.now c.loop-command.command-index 0 c.loop-command-test.true in
    continues_then left c.loop-command.invariant (pushed_as (ap (λ (w : List ℕ). 32 ∷ w) c.name_at.ensures) c.in_ok-push_word.ensures)
