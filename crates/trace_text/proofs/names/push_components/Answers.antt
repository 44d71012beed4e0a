use Rattle.std.proofs.Common.{◌∷◌, ap, List, ℕ}
use Rattle.std.proofs.lemmas.List.{at_drop_more}
use Rattle.byte_buffer.proofs.Pushing.{continues_then, pushed_as}
use Rattle.trace_text.specs.Names.{components_text}
use Rattle.trace_text.proofs.names.push_components.Goals as goal

pub loop-c-preserved : goal.loop-c-preserved
loop-c-preserved c =
    let left = at_drop_more (components_text c.args.components.now) c.args.list.now c.loop-c.c-index 0 c.loop-c-test.true in
    continues_then left c.loop-c.invariant (pushed_as (ap (λ (w : List ℕ). 32 ∷ w) c.component_bytes.ensures) c.in_ok-push_word.ensures)
