use Rattle.std.proofs.Common.{◌-◌, drop, length}
use Rattle.reversibility.specs.Homes.{AreDone}
use Rattle.reversibility.proofs.taking.take_all.Given as goal

-- the classes of so many from the order's end
abbrev pub invariant-loop-i : goal.invariant-loop-i
invariant-loop-i l = AreDone l.compiled.model l.base.modes l.taken.rows l.taken.mendable (drop (length l.compiled.order - l.i) l.compiled.order)
