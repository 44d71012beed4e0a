use Rattle.std.proofs.Common.{◌<◌, ◌^◌, arith}
use Rattle.std.proofs.lemmas.List.Elements.{All-from_get_or}
use Rattle.group_search.proofs.path_box.words_of.Goals as goal

pub returns-clause-words : goal.returns-clause-words
returns-clause-words c = All-from_get_or (λ w. w < 2 ^ 64) c.args.masks.now 0 (λ i within. omega (arith, c.type_inv.masks i))
