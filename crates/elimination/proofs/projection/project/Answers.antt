use Rattle.elimination.proofs.KeptSubjects.{projection}
use Rattle.elimination.proofs.projection.project.Goals as goal

pub returns-clause-exact : goal.returns-clause-exact
returns-clause-exact c =
    projection c.args.clauses.now c.args.keep c.in_ok-projected.projected.items (record { sizes = c.in_ok-sizes.sizes; clauses = c.in_ok-clauses.clauses }) c.requires.keep c.in_ok-projected.ensures
    c.in_ok-clauses.ensures.met
