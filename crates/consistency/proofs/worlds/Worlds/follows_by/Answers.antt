use Rattle.std.proofs.Common.{◌↔◌, List, IsTrue, subst}
use Rattle.cca_base.specs.declared.cube.Pair.{Pair}
use Rattle.cca_base.specs.State.{Follows}
use Rattle.consistency.proofs.worlds.Worlds.follows_by.Goals as goal

pub returns-clause-follows : goal.returns-clause-follows
returns-clause-follows c f denying =
    subst (λ (pairs : List Pair). IsTrue c.follows_from.result ↔ Follows c.args.model.now pairs f) c.as_slice.ensures.pairs (c.follows_from.ensures.follows f denying)
