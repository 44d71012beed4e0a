use Rattle.std.proofs.Common.{None, length, ap, subst, ◌∙◌}
use Rattle.group_search.specs.Answers.{IsAnswer, IsFirstLeast}
use Rattle.group_search.specs.Rooms.{IsSearchRoomFor}
use Rattle.group_search.proofs.least.least_solution.Goals as goal

pub least_in-requires-clause-room : goal.least_in-requires-clause-room
least_in-requires-clause-room g c =
    let q = g.P.Paths.means.question c.args.problem.now in
    let room = c.in_ok-room.room in
    subst (λ n. IsSearchRoomFor n q.count q.room room) (ap length c.components-places.ensures)
    (subst (λ n. IsSearchRoomFor (length c.components-places.result.now) n q.room room) c.count.ensures
    (subst (λ n. IsSearchRoomFor (length c.components-places.result.now) c.count.result n room) c.room.ensures c.in_ok-room.ensures))

pub least_in-requires-clause-masks : goal.least_in-requires-clause-masks
least_in-requires-clause-masks g c = ap length c.as_slice.ensures ∙ c.requires.masks

pub returns-then-least_in-clause-answer : goal.returns-then-least_in-clause-answer
returns-then-least_in-clause-answer g c =
    subst (λ m. IsFirstLeast (g.P.Paths.means.question c.args.problem.now) m c.args.count c.least_in.new.room.chosen) c.as_slice.ensures c.if-least_in.ensures.answer

pub returns-clause-answer : goal.returns-clause-answer
returns-clause-answer g c =
    subst (λ m. IsAnswer (g.P.Paths.means.question c.args.problem.now) m c.args.count None) c.as_slice.ensures c.if-least_in.ensures.answer
