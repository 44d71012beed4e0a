-- Which states are covered by tables.
use Rattle.std.specs.Prelude.{◌≡◌, ◌≢◌, ◌||◌, ℕ, Bool, cond, List, Option, Some, None, length, slice_index}
use Rattle.std.specs.List.{list_all}
use Rattle.cca_base.specs.Accepted.{CompiledModel}
use Rattle.cca_base.specs.Orders.{numbers_below}
use Rattle.cca_base.specs.State.{IsState}
use Rattle.cca_base.specs.declared.events.Reply.TheVariants.{Idle}
use Rattle.cca_base.specs.declared.events.Shown.{Shown}
use Rattle.cca_base.specs.declared.events.Shown.TheVariants.{Estimated, Unexplained, Holding}
use Rattle.cca_base.specs.declared.events.TickReport.{TickReport}
use Rattle.reversibility.specs.ClassParts.{ClassParts, CoversState, in_row}
use Rattle.policy_tables.specs.Tables.{TableParts}
use Rattle.executive_loop.specs.declared.policy.Policy.{Policy}

-- the state for which the tables were made
abbrev pub base_of : TableParts → List ℕ
base_of t = t.classes.base

-- whether the mode is in the component's class, or a broken mode of its open chain
abbrev pub stands_at : ClassParts → List ℕ → ℕ → Bool
stands_at p s c = in_row p.rows c (slice_index s c) || in_row p.chains c (slice_index s c)

-- whether each component of the state stands in its class or in a broken mode of its open chain
unfoldable pub covers : TableParts → List ℕ → Bool
covers t s = list_all (stands_at t.classes s) (numbers_below (length t.classes.compiled.model.components))

-- tables of the compiled model, for one of its states
pub record AreTablesOf (b : CompiledModel) (t : TableParts) : Type 0 where
  pub own : t.classes.compiled ≡ b
  pub base : IsState b.model (base_of t)

-- the tables, where they are in use
abbrev pub tables_in : Policy → Option TableParts
tables_in p = cond p.in_use (Some p.tables) None

-- there are tables, and they cover the state
abbrev pub AreCovering : Option TableParts → List ℕ → Type 0
AreCovering None s = ⊥
AreCovering (Some t) s = CoversState t.classes s

-- where a tick shows a reply other than idle, there are tables that cover the estimate
abbrev pub AreCoveringShown : Option TableParts → List ℕ → Shown → Type 0
AreCoveringShown tables s (Estimated cost state reply) = reply ≢ Idle → AreCovering tables s
AreCoveringShown tables s Unexplained = Unit {0}
AreCoveringShown tables s Holding = Unit {0}

-- the same of a report, if there is one
abbrev pub AreCoveringAfter : Option TableParts → List ℕ → Option TickReport → Type 0
AreCoveringAfter tables s None = Unit {0}
AreCoveringAfter tables s (Some report) = AreCoveringShown tables s report.shown
