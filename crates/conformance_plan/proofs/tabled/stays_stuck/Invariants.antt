use Rattle.std.proofs.Common.{ℕ, ◌<◌, slice_index}
use Rattle.cca_base.specs.Model.{IsInChain}
use Rattle.planner_step.specs.Served.{IsStuck}
use Rattle.conformance_plan.proofs.tabled.stays_stuck.Given as goal

-- each earlier component that is stuck stands in the chain
abbrev pub invariant-loop-c : goal.invariant-loop-c
invariant-loop-c l = (d : ℕ) → d < l.c → IsStuck l.tables.classes l.to.modes d → IsInChain l.tables.classes.compiled.model.moves d (slice_index l.to.modes d) (slice_index l.from.modes d)
