use Rattle.prime_implicants.specs.DenseClauses.{is_wide, row_unfalsified}
use Rattle.prime_implicants.specs.Found.{IsChoiceFrom}
use Rattle.std.proofs.Common.{rules, arith, length, ◌≡◌, ◌<◌, ◌≤◌, ◌⊎◌, inl, inr, ap, sym, subst, ◌∙◌, false, get_or, []}
use Rattle.prime_implicants.proofs.DenseClauseLaws.{list_all_get, length-within}
use Rattle.prime_implicants.proofs.FalsifyingChoices.{is_choice, find_false}
use Rattle.std.specs.BTreeSet.{btree_set_len}
use Rattle.std.proofs.lemmas.List.{get_or_read}
use Rattle.std.proofs.lemmas.Bool.{eqb-true}
use Rattle.prime_implicants.proofs.choices.all_minimal.Goals as goal

pub loop-row-preserved : goal.loop-row-preserved
loop-row-preserved c =
    let i = c.loop-row.row-index in
    let rows = c.args.rows.now in
    let inside : i < length rows = c.loop-row-test.true in
    let before : btree_set_len c.loop-row.found ≤ c.args.most = omega arith in
    let row : c.row-item.result ≡ get_or rows i [] = get_or_read rows i c.row-item.result inside c.row-item.is [] in
    record {
      sound = λ t each. c.in_ok-choose_row.ensures.sound t (c.loop-row.invariant.sound t each) each;
      every = λ small k h p f o t all.
          let cases : (k < i) ⊎ (k ≡ i) = grind arith in
          elim cases [
            | inl l ↦ c.loop-row.invariant.every before k l p f o t (c.in_ok-choose_row.ensures.grown t all)
            | inr s ↦
                let there : row_unfalsified p (get_or rows i []) ≡ false = ap (λ z. row_unfalsified p (get_or rows z [])) (sym s) ∙ o in
                let wide : length (get_or rows i []) ≡ length c.args.sizes.now = eqb-true _ _ (list_all_get (is_wide (length c.args.sizes.now)) rows i [] inside c.requires) in
                let choice = is_choice c.args.sizes.now rows i p inside (wide ∙ sym (length-within c.args.sizes.now p f.within)) f there in
                c.in_ok-choose_row.ensures.found small p f (subst (λ r. IsChoiceFrom 0 r p) (sym row) choice) t all
          ];
    }

pub returns-clause-every : goal.returns-clause-every
returns-clause-every c = λ p f t all.
    let r = find_false (row_unfalsified p) c.args.rows.now [] f.refuted in
    c.loop-row.invariant.every (search rules) r.0 (omega (arith, r.1)) p f r.2 t all

pub returns-then-len-most-clause-more : goal.returns-then-len-most-clause-more
returns-then-len-most-clause-more c = (c.loop-row.found.keys, search rules, c.len.ensures.ordered, λ t each. c.loop-row.invariant.sound t each)
