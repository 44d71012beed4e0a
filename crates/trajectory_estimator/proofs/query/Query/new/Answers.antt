use Rattle.std.proofs.Common.{arith}
use Rattle.std.proofs.lemmas.List.{length-map}
use Rattle.trajectory_estimator.specs.Asked.{entry_of}
use Rattle.trajectory_estimator.proofs.query.Query.new.Goals as goal

pub invariant_of-result : goal.invariant_of-result
invariant_of-result c = (
  record {
    compiled = c.model.ensures.compiled;
    clauses = c.requires.worlds;
    costs = c.requires.changes;
    anchor = c.requires.anchor;
    few = omega (arith, length-map c.args.records.now entry_of, c.requires.few);
    values = c.requires.values;
  },
  c.model.ensures.value,
)
