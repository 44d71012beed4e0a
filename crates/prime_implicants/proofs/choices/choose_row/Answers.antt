use Rattle.std.proofs.Common.{rules, ◌≡◌, arith, false, replicate, length, None}
use Rattle.prime_implicants.specs.DenseClauses.{all_unfalsified}
use Rattle.prime_implicants.proofs.FalsifyingChoices.{nothing_within, nothing_free, whole_found}
use Rattle.prime_implicants.proofs.choices.choose_row.Goals as goal

pub choose-requires-clause-within : goal.choose-requires-clause-within
choose-requires-clause-within c = nothing_within c.args.sizes.now c.as_mut_slice.result.now (search rules)

pub returns-then-not-are_unfalsified : goal.returns-then-not-are_unfalsified
returns-then-not-are_unfalsified c =
    let q = c.as_slice-then-not-are_unfalsified.result.now in
    let nothing : q ≡ replicate (length c.args.sizes.now) None = search rules in
    let within = nothing_within c.args.sizes.now q nothing in
    let refuted : all_unfalsified q c.args.rows.now ≡ false = search rules in
    record {
      sound = λ test all each. c.in_ok-add_minimal.ensures.sound test all (λ minimal. each q (record { within = within; refuted = refuted; minimal = minimal }));
      grown = c.in_ok-add_minimal.ensures.grown;
      found = λ small p f choice test all.
          whole_found c.args.sizes.now c.args.rows.now 0 p q within f (λ i h. absurd (omega arith)) (nothing_free (length c.args.sizes.now) q nothing) refuted
          test (λ minimal. c.in_ok-add_minimal.ensures.found minimal test all);
    }

pub returns : goal.returns
returns c = record {
  sound = c.in_ok-choose.ensures.adds.sound;
  grown = c.in_ok-choose.ensures.adds.grown;
  found = λ small p f choice. c.in_ok-choose.ensures.adds.found small p f ((λ i h. absurd (omega arith)), choice);
}
