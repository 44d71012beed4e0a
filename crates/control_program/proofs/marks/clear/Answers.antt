use Rattle.std.proofs.Common.{◌<◌, ◌+◌, ◌∙◌, List, length, Some, slice_set, refl, subst, sym, ap, arith}
use Rattle.std.proofs.lemmas.List.{length-set}
use Rattle.std.proofs.lemmas.Option.{slice_get-get_or}
use Rattle.control_program.specs.declared.nodes.Mark.{Mark}
use Rattle.control_program.specs.Places.{marked}
use Rattle.control_program.proofs.Clearing.{Cleared, clear_start, clear_step, clear_all}
use Rattle.control_program.proofs.marks.clear.Goals as goal

pub loop-at-init : goal.loop-at-init
loop-at-init c = (refl, λ before middle after is place end. clear_start before middle after (marked c.args.nodes.now c.args.marks.now) c.args.from is place)

pub loop-at-preserved : goal.loop-at-preserved
loop-at-preserved c = (
  ap length c.set.ensures ∙ length-set c.loop-at.marks c.loop-at.at c.fresh_mark.result ∙ c.loop-at.invariant.0,
  λ before middle after is place end.
      let ns = c.args.nodes.now in
      let inside : c.loop-at.at < length ns = omega (arith, c.loop-at-test.true, c.requires.nodes) in
      subst (λ (ms : List Mark). Cleared before middle after (marked ns ms) (c.loop-at.at + 1)) (sym (c.set.ensures ∙ ap (slice_set c.loop-at.marks c.loop-at.at) c.fresh_mark.ensures))
      (clear_step ns c.loop-at.marks before middle after c.loop-at.at c.args.to c.index-nodes-at.result
      (c.loop-at.invariant.1 before middle after is place end) c.loop-at-test.true end (slice_get-get_or ns c.loop-at.at c.index-nodes-at.result inside ∙ ap Some (sym c.index-nodes-at.is))),
)

pub returns-clause-cleared : goal.returns-clause-cleared
returns-clause-cleared c = λ before middle after is place end.
    clear_all before middle after (marked c.args.nodes.now c.loop-at.marks) c.loop-at.at c.args.to (c.loop-at.invariant.1 before middle after is place end) c.loop-at-test.false end
