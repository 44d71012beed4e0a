use Rattle.std.proofs.Common.{◌≡◌, ◌<◌, ◌↔◌, ℕ, true}
use Rattle.cca_base.specs.Model.{is_broken}
use Rattle.cca_base.specs.Sets.{has}
use Rattle.reach_laws.specs.Classes.{OpenRepairs}
use Rattle.reversibility.specs.ClassParts.{in_row}
use Rattle.reversibility.proofs.open.open_chain.Given as goal

-- so many open repairs lead to where the walk stands, and the set has the broken modes that fewer lead to
abbrev pub invariant-loop-taken : goal.invariant-loop-taken
invariant-loop-taken l = OpenRepairs l.compiled.model (in_row l.rows) l.component l.mode l.at l.taken
    × ((x : ℕ) → (has l.chain x ≡ true)
    ↔ ((is_broken l.compiled.model.moves l.component x ≡ true) × ((n : ℕ) × (n < l.taken) × OpenRepairs l.compiled.model (in_row l.rows) l.component l.mode x n)))
