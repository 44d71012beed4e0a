use Rattle.std.proofs.Common.{◌∙◌, List, [], length, subst}
use Rattle.cca_base.specs.declared.cube.Pair.{Pair}
use Rattle.cca_base.proofs.StatePairs.{pairs_have_modes}
use Rattle.consistency.specs.Base.{IsBase}
use Rattle.consistency.proofs.ForcedPairs.{own_whole}
use Rattle.consistency.proofs.asking.see_state.Goals as goal

pub see-requires-clause-modes : goal.see-requires-clause-modes
see-requires-clause-modes c =
    rw (own_whole c.args.modes.now c.put_pairs.new.pairs (c.put_pairs.ensures.long ∙ c.requires.room) c.put_pairs.ensures.pairs) (pairs_have_modes c.args.model.now c.args.modes.now c.requires.state)

pub returns-clause-base : goal.returns-clause-base
returns-clause-base c =
    subst (λ (ps : List Pair). IsBase c.args.problem.now.sizes (length c.args.model.now.components) ps [] c.see.new.space.search.base.items)
    (own_whole c.args.modes.now c.put_pairs.new.pairs (c.put_pairs.ensures.long ∙ c.requires.room) c.put_pairs.ensures.pairs) c.see.ensures.base
