use Rattle.std.proofs.Common.{Bor, ◌++◌}
use Rattle.std.specs.List.{Contains}
use Rattle.std.proofs.lemmas.List.Elements.{Contains-append_right}
use Rattle.world_search.specs.declared.words.WordClause.{WordClause}
use Rattle.world_search.proofs.FollowLaws.{some_weaker}
use Rattle.world_search.proofs.choose.broken_of.Goals as goal

pub returns-clause-among : goal.returns-clause-among
returns-clause-among c = some_weaker (λ (x : Bor WordClause). Contains c.args.beside.now x.now) (λ (x : Bor WordClause). Contains (c.args.clauses.now ++ c.args.beside.now) x.now)
    (λ x among. Contains-append_right c.args.clauses.now c.args.beside.now x.now among) c.broken-2.result c.broken-2.ensures.among
