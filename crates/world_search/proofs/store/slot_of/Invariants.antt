use Rattle.std.proofs.Common.{◌≡◌, ◌≤◌, length, take}
use Rattle.world_search.specs.Words.{AreInside}
use Rattle.world_search.specs.declared.store.TheConstants.{SLOT_LITERALS}
use Rattle.world_search.proofs.StoreLaws.{AreAmong}
use Rattle.world_search.proofs.store.slot_of.Given as goal

abbrev pub invariant-loop-v : goal.invariant-loop-v
invariant-loop-v l = record {
  wide : length l.literals ≡ SLOT_LITERALS;
  room : l.long ≤ SLOT_LITERALS;
  inside : AreInside (length l.learn) (take l.long l.literals);
  all : AreAmong l.learn (take l.long l.literals) l.v;
}
