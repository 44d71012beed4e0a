use Rattle.std.proofs.Common.{◌≡◌}
use Rattle.cca_base.specs.Repairs.{pairs_of}
use Rattle.cca_base.proofs.StatePairs.{pairs_have_modes}
use Rattle.consistency.proofs.conflicts.conflict.Goals as goal

pub kept_of-requires-clause-pairs : goal.kept_of-requires-clause-pairs
kept_of-requires-clause-pairs c =
    let own : c.in-Some.blamed.pairs ≡ pairs_of c.args.state.now.modes = rw c.in-Some.is at c.in_ok-blamed.ensures.pairs in
    rw own (pairs_have_modes c.args.model.now c.args.state.now.modes c.requires.state)
