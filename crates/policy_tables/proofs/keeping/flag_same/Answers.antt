use Rattle.std.proofs.Common.{length, ap, arith}
use Rattle.policy_tables.specs.Keeping.{HasSameSets}
use Rattle.policy_tables.proofs.Kept.{flags_all}
use Rattle.policy_tables.proofs.keeping.flag_same.Goals as goal

pub returns : goal.returns
returns c = record {
  full = c.loop-c.invariant.0;
  sets = flags_all (HasSameSets c.args.one.now c.args.other.now) c.loop-c.flags c.loop-c.c (omega (arith, c.loop-c.invariant.0, c.loop-c-test.false, ap length c.rows-c-end.ensures.value, c.rows-c-end.ensures.classes.rows_full)) c.loop-c.invariant.1;
  ways = λ _ _ _ lt. absurd (omega (arith, lt));
}
