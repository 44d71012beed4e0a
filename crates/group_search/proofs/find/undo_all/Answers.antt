use Rattle.std.proofs.Common.{◌≡◌, ◌<◌, true, length, sym, ap, ◌∙◌}
use Rattle.std.proofs.lemmas.List.Elements.{All-rest}
use Rattle.group_search.specs.Halves.{undone}
use Rattle.group_search.specs.declared.halves.Half.{Half}
use Rattle.group_search.proofs.find.undo_all.Goals as goal

pub loop-half-preserved : goal.loop-half-preserved
loop-half-preserved g c =
    let half = c.in-Some.half in let older = c.pop.new.self.items in
    let q = g.P.Paths.means.question c.args.problem.now in
    record {
      ready = c.put.ensures.ready;
      own = All-rest (λ (h : Half). (h.item < length q.of) × (true ≡ true)) half older c.loop-half.halves.items c.in-Some.ensures.items c.loop-half.invariant.own;
      undone_same = ap (undone older) c.put.ensures.masks ∙ ap (λ l. undone l c.loop-half.boxed.masks) (sym c.in-Some.ensures.items) ∙ c.loop-half.invariant.undone_same;
      room = c.pop.ensures.room ∙ c.loop-half.invariant.room;
    }
