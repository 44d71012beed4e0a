use Rattle.std.proofs.Common.{ap, sym, subst, length, ◌∙◌}
use Rattle.std.specs.Prelude.{All}
use Rattle.std.proofs.lemmas.List.Elements.{All-nil}
use Rattle.group_search.specs.Questions.{IsCut}
use Rattle.group_search.proofs.BoxLaws.{numbers_long}
use Rattle.group_search.proofs.work.Work.begin.Goals as goal

pub returns-clause-work : goal.returns-clause-work
returns-clause-work g c = let q = g.P.Paths.means.question c.args.problem.now in let was = c.requires.room in record {
  ready = c.fill.ensures.ready;
  cuts = subst (All (IsCut q)) (sym c.clear.ensures) (All-nil (IsCut q));
  names = ap length c.name_apart.ensures ∙ numbers_long (length c.args.self.now.names) ∙ was.names;
  room = record { spent = was.spent; named = was.named };
  rooms = record { members = was.rooms.members; cuts = was.rooms.cuts; cut = was.rooms.cut; halves = was.rooms.halves; marks = was.rooms.marks; best = was.rooms.best };
}
