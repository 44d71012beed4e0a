use Rattle.policy_tables.proofs.tables.Tables.of.Goals as goal

pub filled-requires-clause-same : goal.filled-requires-clause-same
filled-requires-clause-same c = c.in_ok-parts.ensures.same

pub filled-requires-clause-ways : goal.filled-requires-clause-ways
filled-requires-clause-ways c = c.in_ok-parts.ensures.ways

pub filled-requires-clause-places : goal.filled-requires-clause-places
filled-requires-clause-places c = c.in_ok-parts.ensures.places

pub filled-requires-clause-flags : goal.filled-requires-clause-flags
filled-requires-clause-flags c = c.in_ok-parts.ensures.flags

pub filled-requires-clause-unset : goal.filled-requires-clause-unset
filled-requires-clause-unset c = c.in_ok-parts.ensures.unset

pub filled-requires-clause-room : goal.filled-requires-clause-room
filled-requires-clause-room c = c.in_ok-parts.ensures.room

pub returns : goal.returns
returns c = c.filled.ensures
