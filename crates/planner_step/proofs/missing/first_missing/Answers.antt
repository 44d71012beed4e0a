use Rattle.std.proofs.Common.{◌≡◌, ◌∙◌, sym, ap, suc, take, drop, Some, slice_get}
use Rattle.std.proofs.lemmas.List.Elements.{All-more}
use Rattle.std.proofs.lemmas.Option.{same_Some}
use Rattle.cca_base.specs.declared.cube.Pair.{Pair}
use Rattle.list_laws.proofs.GoneThrough.{split_at, all_gone}
use Rattle.planner_step.proofs.missing.first_missing.Goals as goal

abbrev none : Pair
none = record { item = 0; value = 0 }

pub returns-then-get-pair : goal.returns-then-get-pair
returns-then-get-pair c = record {
  before = take c.loop-i.i c.args.pairs.now;
  after = drop (suc c.loop-i.i) c.args.pairs.now;
  split = split_at c.args.pairs.now c.loop-i.i none c.loop-i-test.true;
  held = c.loop-i.invariant;
  missing = λ h. c.if-get-pair.true (same_Some c.get.result.now _ (sym c.get.ensures.value ∙ h));
}

pub loop-i-preserved : goal.loop-i-preserved
loop-i-preserved c =
    All-more (λ p. slice_get c.args.state.now.modes p.item ≡ Some p.value) c.args.pairs.now c.loop-i.i none c.loop-i-test.true c.loop-i.invariant
    (c.get.ensures.value ∙ ap (λ v. Some v) c.if-get-pair.false)

pub returns : goal.returns
returns c = all_gone (λ p. slice_get c.args.state.now.modes p.item ≡ Some p.value) c.args.pairs.now c.loop-i.i c.loop-i-test.false c.loop-i.invariant
