use Rattle.policy_tables.proofs.tables.Tables.filled.Goals as goal

pub write_tables-requires-clause-kept : goal.write_tables-requires-clause-kept
write_tables-requires-clause-kept c = λ d set. absurd (c.requires.unset d set)

pub invariant_of-result : goal.invariant_of-result
invariant_of-result c = (
  record {
    classes = c.rows-rows.ensures.classes;
    same = c.requires.same;
    sorted = c.requires.ways;
    filled = c.write_tables.ensures.filled;
    kept = c.requires.flags;
  },
  c.write_tables.ensures.room,
)
