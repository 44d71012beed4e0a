use Rattle.prime_implicants.specs.Found.{AgreesTo}
use Rattle.std.proofs.Common.{rules, arith, ◌≡◌, true, ◌<◌, ◌≤◌, ◌+◌, length, Some, None, sym, ◌∙◌, ap, set, get_or, length-set, ◌⊎◌, inl, inr, ◌≢◌}
use Rattle.prime_implicants.proofs.DenseClauseLaws.{length-within}
use Rattle.prime_implicants.proofs.PartialValueLaws.{within-set}
use Rattle.prime_implicants.proofs.NamedRows.{others_stay, others_and_named}
use Rattle.prime_implicants.proofs.FalsifyingChoices.{whole_found, ended, agrees_to_next, later, chosen, below_size, agree_set, free_set, set_none}
use Rattle.cca_base.specs.Sets.{has}
use Rattle.std.proofs.lemmas.List.{get_or_read}
use Rattle.std.proofs.lemmas.Bool.{eqb-false}
use Rattle.prime_implicants.proofs.choices.+choosing.Goals.{choose-then-not-has+then-len-most+in_ok-choose_after, choose-else-not-has, choose-else-not-has-via-then-not-has+else-len-most, choose-else-not-has-via-else-not-has}
use Rattle.prime_implicants.proofs.choices.+choosing.Goals as goal

pub choose_after-returns-then-not-are_named_unfalsified-clause-adds : goal.choose_after-returns-then-not-are_named_unfalsified-clause-adds
choose_after-returns-then-not-are_named_unfalsified-clause-adds t c =
    let q = c.args.partial.now in
    let refuted = others_and_named c.args.x q c.args.rows.now c.requires.others ∙ search rules in
    record {
      sound = λ test all each. c.in_ok-add_minimal.ensures.sound test all (λ minimal. each q (record { within = c.requires.within; refuted = refuted; minimal = minimal }));
      grown = c.in_ok-add_minimal.ensures.grown;
      found = λ small p f choice test all.
          whole_found c.args.sizes.now c.args.rows.now (c.args.x + 1) p q c.requires.within f choice.0 c.requires.free refuted test (λ minimal. c.in_ok-add_minimal.ensures.found minimal test all);
    }

pub choose_after-choose-requires : goal.choose_after-choose-requires
choose_after-choose-requires t c =
    (omega (arith, c.requires.subject), (omega (arith, c.requires.subject), (c.requires.within, (c.requires.wide, (c.requires.free, others_and_named c.args.x c.args.partial.now c.args.rows.now c.requires.others ∙ search rules)))))

pub choose-returns-then-x-partial-clause-adds : goal.choose-returns-then-x-partial-clause-adds
choose-returns-then-x-partial-clause-adds t c = record {
  sound = λ test all each. all;
  grown = λ test all. all;
  found = λ small p f choice test all.
      let q = c.args.partial.now in
      let x = c.next_named-x.result in
      let full : length q ≤ x = search rules in
      let long : length p ≡ length q = length-within c.args.sizes.now p f.within ∙ sym (length-within c.args.sizes.now q c.requires.within) in
      let agrees : AgreesTo x q p = agrees_to_next c.args.at x c.args.row.now p q (omega arith) long c.next_named-x.ensures.others c.requires.free choice.0 choice.1 in
      absurd (ended c.args.sizes.now c.args.rows.now x p q c.requires.within f full agrees c.requires.unfalsified);
}

pub choose-bounds-sizes-x : goal.choose-bounds-sizes-x
choose-bounds-sizes-x t c = omega (arith, length-within c.args.sizes.now c.args.partial.now c.requires.within)

pub choose-choose_after-requires : goal.choose-choose_after-requires
choose-choose_after-requires t c =
    let q = c.args.partial.now in
    let x = c.next_named-x.result in
    let same : c.loop-v.partial ≡ q = c.loop-v.invariant.same in
    let long : length (set c.loop-v.partial x (Some c.loop-v.v)) ≡ length q = length-set c.loop-v.partial x (Some c.loop-v.v) ∙ ap length same in
    let inside : c.loop-v.v < get_or c.args.sizes.now x 0 = omega arith in
    let in_q : x < length q = omega arith in (
      omega (arith, long),
      (
        omega (arith, long),
        (
          rw same (within-set c.args.sizes.now q x c.loop-v.v c.requires.within inside),
          (
            c.requires.wide ∙ sym long,
            (
              λ i h k. rw same (free_set x c.loop-v.v q (λ j l m. c.requires.free j (omega arith) m) i h (omega (arith, long))),
              rw same (others_stay x c.loop-v.v q c.args.rows.now (c.requires.free x (omega arith) in_q) c.requires.unfalsified),
            ),
          ),
        ),
      ),
    )

pub choose-loop-v-preserved : goal.choose-loop-v-preserved
choose-loop-v-preserved t c =
    let q = c.args.partial.now in
    let x = c.next_named-x.result in
    let row = c.args.row.now in
    let same : c.loop-v.partial ≡ q = c.loop-v.invariant.same in
    let read = get_or_read row x c.get.result.now (search rules) c.get.ensures.item 0 in
    elim c.if-not-has.branch [
      | choose-then-not-has+then-len-most+in_ok-choose_after w ↦ rw (w.partial-is, w.found-is) (record {
        same = ap (λ z. set z x None) (w.in_ok-choose_after.ensures.same ∙ ap (λ z. set z x (Some c.loop-v.v)) same)
            ∙ set_none x c.loop-v.v q (c.requires.free x (omega arith) (omega arith));
        sound = λ test all each. w.in_ok-choose_after.ensures.adds.sound test (c.loop-v.invariant.sound test all each) each;
        grown = λ test all. c.loop-v.invariant.grown test (w.in_ok-choose_after.ensures.adds.grown test all);
        so_far = λ small v h lacks p f agree e choice test all.
            let cases : (v < c.loop-v.v) ⊎ (v ≡ c.loop-v.v) = grind arith in
            elim cases [
              | inl l ↦ c.loop-v.invariant.so_far (search rules) v l lacks p f agree e choice test (w.in_ok-choose_after.ensures.adds.grown test all)
              | inr s ↦ w.in_ok-choose_after.ensures.adds.found small p f (rw same (agree_set x c.loop-v.v p q (omega arith) agree (e ∙ ap (λ z. Some z) s)), choice) test all
            ];
      })
      | choose-else-not-has w ↦ rw (w.partial-is, w.found-is) (record {
        same = same;
        sound = λ test all each. c.loop-v.invariant.sound test all each;
        grown = λ test all. c.loop-v.invariant.grown test all;
        so_far = λ small v h lacks p f agree e choice test all.
            let cases : (v < c.loop-v.v) ⊎ (v ≡ c.loop-v.v) = grind arith in
            elim cases [
              | inl l ↦ c.loop-v.invariant.so_far small v l lacks p f agree e choice test all
              | inr s ↦ elim w.else-not-has.branch [
                | choose-else-not-has-via-then-not-has+else-len-most y ↦ absurd (omega arith)
                | choose-else-not-has-via-else-not-has y ↦
                    let tested : has c.get.result.now c.loop-v.v ≡ true = cc in
                    let there : has (get_or row x 0) v ≡ true = ap (λ z. has (get_or row x 0) z) s ∙ ap (λ z. has z c.loop-v.v) (sym read) ∙ tested in
                    cc
              ]
            ];
      })
    ]

pub choose-returns-clause-adds : goal.choose-returns-clause-adds
choose-returns-clause-adds t c = record {
  sound = c.loop-v.invariant.sound;
  grown = c.loop-v.invariant.grown;
  found = λ small p f choice test all.
      let q = c.args.partial.now in
      let x = c.next_named-x.result in
      let row = c.args.row.now in
      let long : length p ≡ length q = length-within c.args.sizes.now p f.within ∙ sym (length-within c.args.sizes.now q c.requires.within) in
      let agrees : AgreesTo x q p = agrees_to_next c.args.at x row p q (omega (arith, c.requires.wide)) long c.next_named-x.ensures.others c.requires.free choice.0 choice.1 in
      let some : get_or row x 0 ≢ 0 = eqb-false (get_or row x 0) 0 (c.next_named-x.ensures.named (omega arith)) in
      let pick = chosen (get_or p x None) (get_or row x 0) some (choice.1 x (omega arith) (omega arith)) in
      c.loop-v.invariant.so_far small pick.0 (omega (arith, below_size c.args.sizes.now p x pick.0 f.within pick.1)) pick.2 p f agrees pick.1 (later c.args.at (x + 1) row p (omega arith) choice.1) test all;
}
