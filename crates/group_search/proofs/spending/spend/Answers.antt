use Rattle.std.proofs.Common.{◌≡◌, ◌<◌, ◌∙◌, ◌+◌, All, length, slice_index, get_or, set, refl, sym, ap, subst, arith}
use Rattle.std.proofs.lemmas.List.{get_or_read, length-set, take_all}
use Rattle.cca_base.specs.declared.cube.Pair.{Pair}
use Rattle.group_search.specs.declared.spending.Spending.{Spending}
use Rattle.group_search.proofs.PriceLaws.{no_pair}
use Rattle.group_search.proofs.SpendLaws.{AreTaken, IsTaken, option_same, taken_begins, taken_more, taken_same}
use Rattle.group_search.proofs.spending.spend.Goals.{then-ne, else-ne}
use Rattle.group_search.proofs.spending.spend.Goals as goal

pub loop-pair-init : goal.loop-pair-init
loop-pair-init c = record { taken = taken_begins c.args.components.now c.args.pairs.now c.args.amount c.args.spending.now.spent; named = refl }

pub loop-pair-preserved : goal.loop-pair-preserved
loop-pair-preserved c =
    let components = c.args.components.now in
    let pairs = c.args.pairs.now in
    let old = c.args.spending.now.spent in
    let now = c.loop-pair.spending.spent in
    let last = c.loop-pair.last in
    let k = c.loop-pair.pair-index in
    let at = slice_index components (get_or pairs k no_pair).item in
    let inside = c.loop-pair-test.true in
    elim c.if-ne.branch [
      | then-ne w ↦
          let put = w.add_up-more.result in
          let place = c.requires.places k no_pair inside in
          let component = c.requires.spent (get_or pairs k no_pair).item 0 place in
          let within : at < length now = omega (arith, component, c.loop-pair.invariant.taken.long) in
          let read = get_or_read now at w.get.result.now within w.get.ensures.item 0 in
          let grown = w.add_up-more.ensures.kept in
          let sum = w.add_up-more.ensures.more in
          let spent : c.if-ne.spending.spent ≡ set now at put = ap (λ (s : Spending). s.spent) w.spending-is ∙ w.set.ensures in
          let named : c.if-ne.spending.named ≡ set c.loop-pair.spending.named at w.saturating_add-times.result = ap (λ (s : Spending). s.named) w.spending-is ∙ w.set-then-ne.ensures in
          let step = taken_more components pairs c.args.amount old now last k put inside within (omega (arith, read, grown)) (omega (arith, read, sum)) c.loop-pair.invariant.taken in
          record {
            taken = subst (λ z. AreTaken components pairs c.args.amount old z c.if-ne.last (k + 1)) (sym spent)
                (subst (λ o. AreTaken components pairs c.args.amount old (set now at put) o (k + 1)) (sym w.last-is) step);
            named = ap length named ∙ length-set c.loop-pair.spending.named at w.saturating_add-times.result ∙ c.loop-pair.invariant.named;
          }
      | else-ne w ↦
          let step = taken_same components pairs c.args.amount old now last k inside (option_same last at (sym c.ne.ensures ∙ w.if-ne.false)) c.loop-pair.invariant.taken in
          record {
            taken = subst (λ z. AreTaken components pairs c.args.amount old z c.if-ne.last (k + 1)) (sym (ap (λ (s : Spending). s.spent) w.spending-is))
                (subst (λ o. AreTaken components pairs c.args.amount old now o (k + 1)) (sym w.last-is) step);
            named = ap (λ (s : Spending). length s.named) w.spending-is ∙ c.loop-pair.invariant.named;
          }
    ]

pub returns-clause-more : goal.returns-clause-more
returns-clause-more c =
    subst (All (λ (p : Pair). IsTaken c.args.components.now c.args.pairs.now c.args.amount c.args.spending.now.spent c.loop-pair.spending.spent (slice_index c.args.components.now p.item)))
    (take_all c.loop-pair.pair-index c.args.pairs.now c.loop-pair-test.false) c.loop-pair.invariant.taken.more
