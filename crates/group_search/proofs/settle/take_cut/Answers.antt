use Rattle.std.proofs.Common.{◌≡◌, ◌⊎◌, Contains, subst}
use Rattle.group_search.proofs.JoinLaws.{joined_none}
use Rattle.group_search.proofs.settle.take_cut.Goals as goal

pub returns-then-is_empty-clause-joined : goal.returns-then-is_empty-clause-joined
returns-then-is_empty-clause-joined c = joined_none c.args.work.now.names

pub returns-clause-cuts : goal.returns-clause-cuts
returns-clause-cuts c k among = subst (λ l. Contains c.args.work.now.cuts k ⊎ (k ≡ l)) c.as_slice-pairs.ensures.items (c.keep.ensures k among)
