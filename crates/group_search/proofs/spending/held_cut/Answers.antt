use Rattle.std.proofs.Common.{subst, arith}
use Rattle.std.proofs.lemmas.Option.{get_or_from_slice_get}
use Rattle.group_search.specs.Questions.{IsCut}
use Rattle.group_search.proofs.spending.held_cut.Goals as goal

pub returns-then-is_held-clause-cut : goal.returns-then-is_held-clause-cut
returns-then-is_held-clause-cut g c =
    let q = g.P.Paths.means.question c.args.problem.now in let cuts = c.args.cuts.now in let cut = c.get-cut.result.now in
    subst (IsCut q) (get_or_from_slice_get cuts c.args.at cut cut c.get-cut.ensures)
    (c.requires.cuts c.args.at cut (omega (arith, c.if-at-len.false, c.len.ensures.len)))
