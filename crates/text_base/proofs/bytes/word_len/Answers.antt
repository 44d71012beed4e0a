use Rattle.std.proofs.Common.{length, sym, arith}
use Rattle.std.proofs.lemmas.List.Sums.{prefix_len_is}
use Rattle.cca_base.specs.Names.{is_word_byte}
use Rattle.text_base.proofs.bytes.word_len.Goals as goal

pub returns-clause-value : goal.returns-clause-value
returns-clause-value c = sym (prefix_len_is is_word_byte c.args.bytes.now (length c.args.bytes.now) 0 (omega arith) (λ k lt. c.loop-i.invariant k (omega arith)) (λ lt. absurd (omega arith)))
