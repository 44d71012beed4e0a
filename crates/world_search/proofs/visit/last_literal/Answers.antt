use Rattle.std.proofs.Common.{◌≢◌, get_or, slice_index, bit_and, refl, subst, arith}
use Rattle.std.proofs.lemmas.List.{get_or_default}
use Rattle.world_search.specs.declared.words.WordLiteral.{WordLiteral}
use Rattle.world_search.proofs.ClauseLaws.{none_common, out_more}
use Rattle.world_search.proofs.visit.last_literal.Goals as goal
use Rattle.world_search.proofs.visit.last_literal.Goals.{then-dom-literal-ne0+else-found-literals, else-dom-literal-ne0}

abbrev some_word : WordLiteral
some_word = record { subject = 0; values = 0 }

pub loop-i-preserved : goal.loop-i-preserved
loop-i-preserved c =
    let dom = c.args.dom.now in
    let words = c.args.literals.now in
    let i = c.loop-i.i in
    let here = get_or words i some_word in
    elim c.if-dom-literal-ne0.branch [
      | then-dom-literal-ne0+else-found-literals w ↦ rw w.found-is (record {
        place = omega arith;
        before = λ _. omega arith;
        others = out_more dom words i i some_word c.loop-i-test.true (λ k x less other. c.loop-i.invariant.others k x less (omega (arith, w.if-found-literals.false))) (λ other. absurd (other refl));
        open_one = λ x less. subst (λ (y : WordLiteral). bit_and (slice_index dom y.subject) y.values ≢ 0) (get_or_default words i some_word x c.loop-i-test.true) w.if-dom-literal-ne0.true;
      })
      | else-dom-literal-ne0 w ↦ rw w.found-is (record {
        place = c.loop-i.invariant.place;
        before = λ less. omega (arith, c.loop-i.invariant.before less);
        others = out_more dom words i c.loop-i.found some_word c.loop-i-test.true c.loop-i.invariant.others (λ other a held. none_common (slice_index dom here.subject) here.values w.if-dom-literal-ne0.false a held);
        open_one = c.loop-i.invariant.open_one;
      })
    ]
