use Rattle.std.proofs.Common.{inl, ap, ◌∙◌, set}
use Rattle.cca_base.specs.declared.cube.Pair.{Pair}
use Rattle.successors.proofs.sent.obey.Goals as goal

pub returns-in-Some-clause-moves : goal.returns-in-Some-clause-moves
returns-in-Some-clause-moves c =
    let sent = c.in-Some.ensures.some in
    inl (sent.move, sent.commanded, c.set.ensures ∙ ap (λ (p : Pair). set c.args.plant.now.modes p.item p.value) sent.is_target)
