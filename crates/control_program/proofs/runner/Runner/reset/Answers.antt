use Rattle.std.proofs.Common.{List, ap, subst, ◌∙◌}
use Rattle.control_laws.specs.Turns.{fresh}
use Rattle.control_program.specs.declared.nodes.Node.{Node}
use Rattle.control_program.specs.Places.{IsCleared, marked}
use Rattle.control_program.proofs.RunningLaws.{reset_runs, reset_is}
use Rattle.control_program.proofs.runner.Runner.reset.Goals as goal

pub invariant_of-self : goal.invariant_of-self
invariant_of-self c =
    let r = c.self.inside in
    reset_runs r.nodes.items r.marks r.ended c.self.invariant c.clear.new.marks c.len-count.result (c.len-count.ensures ∙ r.nodes.ok.0) c.clear.ensures.all
    (subst (λ (ns : List Node). IsCleared 0 c.len-count.result (marked ns r.marks) (marked ns c.clear.new.marks)) c.as_slice.ensures.value c.clear.ensures.cleared)

pub returns : goal.returns
returns c =
    let r = c.self.inside in
    reset_is r.nodes.items r.marks r.ended c.self.invariant c.clear.new.marks c.len-count.result (c.len-count.ensures ∙ r.nodes.ok.0)
    (subst (λ (ns : List Node). IsCleared 0 c.len-count.result (marked ns r.marks) (marked ns c.clear.new.marks)) c.as_slice.ensures.value c.clear.ensures.cleared)
    ∙ ap (λ x. fresh x.program) c.self.view_is
