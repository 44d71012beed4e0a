use Rattle.std.proofs.Common.{sym, subst}
use Rattle.world_search.specs.Stores.{AreKept}
use Rattle.world_search.proofs.store.keep.Goals as goal
use Rattle.world_search.proofs.store.keep.Goals.{then-store-len, else-store-len}

pub returns-then-at-len-clause-kept : goal.returns-then-at-len-clause-kept
returns-then-at-len-clause-kept c want learned kept = c.put_slot.ensures.kept want (c.in-Some.ensures.clause want learned) (elim c.if-store-len.branch [
  | then-store-len w ↦ subst (λ l. AreKept l want) (sym w.store-is) kept
  | else-store-len w ↦ subst (λ l. AreKept l want) (sym w.store-is) kept
])
