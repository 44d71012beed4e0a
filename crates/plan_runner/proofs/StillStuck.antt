-- What can't be mended has no mode in its class, and none else has none.
use Rattle.std.proofs.Common.{ℕ, List}
use Rattle.std.proofs.lemmas.Bool.{false_from_ne_true}
use Rattle.cca_base.specs.Flags.{is_set}
use Rattle.reach_laws.specs.Plans.{StaysOnChain}
use Rattle.reach_laws.proofs.Order.{repair_rules}
use Rattle.reach_laws.proofs.Walk.{home_member}
use Rattle.policy_tables.specs.Tables.{TableParts, IsTables}
use Rattle.planner_step.specs.Planning.{member_of}
use Rattle.plan_runner.specs.WaysBack.{StaysStuck}

pub stays_on_chain : (t : TableParts) (is : IsTables t) (to from : List ℕ) → StaysStuck t.classes from to → StaysOnChain t.classes.compiled.model (member_of t) from to
stays_on_chain t is to from stays c within broken none = stays c (record {
  within = within;
  broken = broken;
  unmendable = false_from_ne_true (is_set t.classes.mendable c) (λ flag.
      let home = ((is.classes.mendable c within).0 flag).1 in
      none home.0 (home_member t.classes.compiled.model t.classes.base (member_of t) (repair_rules t.classes.compiled.model is.classes.compiled.accepted.well_formed) is.classes.classes
      c home.0 home.1));
})
