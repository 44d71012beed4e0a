use Rattle.std.proofs.Common.{IsTrue, IsNone, sym, subst, ◌∙◌}
use Rattle.control_laws.specs.Turns.{Control}
use Rattle.control_program.specs.Marks.{rest_of}
use Rattle.control_program.proofs.RunningLaws.{nothing_left, control_is}
use Rattle.control_program.proofs.runner.Runner.ended.Goals as goal

pub returns : goal.returns
returns c =
    let r = c.self.inside in
    subst (λ (x : Control). (IsTrue r.ended → IsNone x.left) × (IsNone x.left → IsTrue r.ended)) (sym (control_is r.nodes.items r.marks r.ended c.self.invariant) ∙ c.self.view_is)
    (nothing_left (rest_of c.self.invariant.tree) r.ended c.self.invariant.ended)
