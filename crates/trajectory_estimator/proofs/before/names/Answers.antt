use Rattle.std.proofs.Common.{◌≢◌, arith}
use Rattle.std.proofs.lemmas.List.Elements.{All-contains, All-more}
use Rattle.list_laws.proofs.GoneThrough.{all_gone}
use Rattle.cca_base.specs.declared.cube.Pair.{Pair}
use Rattle.trajectory_estimator.proofs.before.names.Goals as goal

pub loop-pair-preserved : goal.loop-pair-preserved
loop-pair-preserved c =
    All-more (λ (p : Pair). p.item ≢ c.args.item) c.args.pairs.now c.loop-pair.pair-index (record { item = 0; value = 0 }) c.loop-pair-test.true c.loop-pair.invariant c.if-pair-item.false

pub returns : goal.returns
returns c =
    let none = all_gone (λ (p : Pair). p.item ≢ c.args.item) c.args.pairs.now c.loop-pair.pair-index (omega arith) c.loop-pair.invariant in
    ((λ e. absurd (cc)), (λ h. absurd (All-contains (λ (p : Pair). p.item ≢ c.args.item) c.args.pairs.now h.0 none h.1 h.2)))
