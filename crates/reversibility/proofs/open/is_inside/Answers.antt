use Rattle.std.proofs.Common.{◌≡◌, ◌<◌, ◌∙◌, true, refl, sym, ap, length, get_or}
use Rattle.std.proofs.lemmas.List.Elements.{All-more, All-get_or}
use Rattle.cca_base.specs.declared.cube.Pair.{Pair}
use Rattle.cca_base.specs.Sets.{has}
use Rattle.reversibility.specs.ClassParts.{in_row}
use Rattle.list_laws.proofs.GoneThrough.{all_gone}
use Rattle.reversibility.proofs.OpenMoves.{row_at}
use Rattle.reversibility.proofs.open.is_inside.Goals as goal

abbrev none : Pair
none = record { item = 0; value = 0 }

pub loop-pair-preserved : goal.loop-pair-preserved
loop-pair-preserved c =
    let p : Pair = get_or c.args.cube.now c.loop-pair.pair-index none in
    let within : p.item < length c.args.rows.now = All-get_or (λ q. q.item < length c.args.rows.now) c.args.cube.now c.loop-pair.pair-index none c.loop-pair-test.true c.requires in
    All-more (λ q. in_row c.args.rows.now q.item q.value ≡ true) c.args.cube.now c.loop-pair.pair-index none c.loop-pair-test.true c.loop-pair.invariant
    (ap (λ r. has r p.value) (row_at c.args.rows.now p.item c.index-rows-pair.result within c.index-rows-pair.is) ∙ (sym c.has.ensures ∙ c.if-not-has.false))

pub returns : goal.returns
returns c = (
  (λ _. all_gone (λ q. in_row c.args.rows.now q.item q.value ≡ true) c.args.cube.now c.loop-pair.pair-index c.loop-pair-test.false c.loop-pair.invariant),
  (λ _. refl),
)
