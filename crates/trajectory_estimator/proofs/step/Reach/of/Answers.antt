use Rattle.std.proofs.Common.{refl, sym}
use Rattle.trajectory_estimator.proofs.step.Reach.of.Goals as goal

pub returns-clause-some : goal.returns-clause-some
returns-clause-some c = λ q n at h. record {
  model = h.model;
  target = refl;
  mode = sym c.if-not-has_value.ensures;
  gates = refl;
  costs = c.costs_to.ensures q n at h;
  behind = c.in_ok-rest.was;
  cheap = c.requires.cheap c.args.to c.in_ok-rest.rest c.requires.to c.in_ok-rest.was;
}
