use Rattle.std.proofs.Common.{subst}
use Rattle.policy_tables.specs.Tables.{IsTables}
use Rattle.policy_tables.proofs.Filled.{filled_tables}
use Rattle.policy_tables.proofs.tables.Tables.classes.Goals as goal

pub returns-clause-tables : goal.returns-clause-tables
returns-clause-tables c =
    let s = c.self.inside in
    subst IsTables c.self.view_is (filled_tables s.classes s.ways s.tables.items c.self.invariant.0.classes c.self.invariant.0.filled)
