use Rattle.std.proofs.Common.{◌≡◌, ◌∙◌, ap, map, arith}
use Rattle.std.specs.List.{range_with_len}
use Rattle.trial_maker.specs.Chains.{link_at}
use Rattle.trial_maker.proofs.LinksByNumber.{links_are}
use Rattle.trial_maker.proofs.chains.links.Goals as goal

pub returns : goal.returns
returns c =
    let at : c.loop-number.number ≡ 48 = omega arith in
    c.loop-number.invariant ∙ ap (λ n. map link_at (range_with_len 0 n)) at ∙ links_are
