use Rattle.std.proofs.Common.{◌≡◌, ◌++◌, ℕ, Bool, List, length}
use Rattle.cca_base.specs.declared.cube.Pair.{Pair}
use Rattle.clash_analysis.specs.Trails.{AllWithin}
use Rattle.clash_analysis.specs.Laws.{Passes}
use Rattle.world_search.specs.Stores.{AreKept, IsStore}
use Rattle.world_search.specs.Words.{AreMetIn}
use Rattle.world_search.specs.Works.{IsClear, IsReady, IsRight, KeepsBelow, weight_of}
use Rattle.world_search.proofs.search.search_world.Given as goal

abbrev pub invariant-rounds : goal.invariant-rounds
invariant-rounds l = record {
  ready : IsReady l.work;
  clear : IsClear l.work;
  start : l.work.start.items ≡ l.fn.work.start.items;
  room : length l.work.trail.items ≡ length l.fn.work.trail.items;
  below : KeepsBelow l.fn.work l.work;
  dom : length l.work.dom.items ≡ length l.fn.work.dom.items;
  long : length l.trial ≡ length l.fn.trial;
  store : IsStore (length l.work.dom.items) l.store;
  kept : (want : List ℕ → Bool) (pairs : List Pair) → AreMetIn (l.rules.clauses.items ++ l.beside) want → AllWithin (Passes want) l.fn.work.start.items → IsRight want pairs l.fn.work → AreKept l.fn.store want → AreKept l.store want;
  right : (want : List ℕ → Bool) (pairs : List Pair) → AreMetIn (l.rules.clauses.items ++ l.beside) want → AreKept l.fn.store want → AllWithin (Passes want) l.fn.work.start.items → IsRight want pairs l.fn.work → IsRight want pairs l.work;
}

abbrev pub decreases-rounds : goal.decreases-rounds
decreases-rounds l = weight_of l.work
