use Rattle.titan_top.proofs.SeedWords.{seed_read}
use Rattle.titan_top.proofs.words.seed_of.Goals as goal

pub returns : goal.returns
returns c = seed_read c.args.word.now c.read_count.result c.read_count.ensures
