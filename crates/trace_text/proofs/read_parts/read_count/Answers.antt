use Rattle.std.proofs.Common.{arith, rules}
use Rattle.trace_text.proofs.ReadWords.{past_64_bits}
use Rattle.trace_text.proofs.read_parts.read_count.Goals as goal

pub returns-else-n-from : goal.returns-else-n-from
returns-else-n-from c = past_64_bits c.args.word.now c.in-Some.n (omega arith) (search rules) c.in-Some.ensures.some
