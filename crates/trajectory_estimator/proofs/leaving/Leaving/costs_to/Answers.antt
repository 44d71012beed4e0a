use Rattle.std.proofs.Common.{refl}
use Rattle.trajectory_estimator.proofs.GateCosts.{cost_shut, cost_open, cost_either}
use Rattle.trajectory_estimator.proofs.leaving.Leaving.costs_to.Goals as goal

pub returns : goal.returns
returns c = λ q n at h.
    let to = c.args.to in
    let l = c.args.self.now in
    let shut = c.change-shut in
    let ajar = c.change-open in
    let same = c.same_cost in
    record {
      shut = cost_shut q n at to l h c.requires 0 shut.result refl (shut.ensures.same, shut.ensures.other);
      opened = cost_open q n at to l h c.requires 1 ajar.result refl (ajar.ensures.same, ajar.ensures.other);
      either = cost_either q n at to l h c.requires 2 shut.result ajar.result same.result refl (shut.ensures.same, shut.ensures.other) (ajar.ensures.same, ajar.ensures.other) same.ensures.some same.ensures.none;
    }
