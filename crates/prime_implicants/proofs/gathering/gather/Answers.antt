use Rattle.std.proofs.Common.{rules, length, ◌≡◌, ◌∙◌, ◌&&◌, ◌||◌, ap, sym, set, Some, ℕ, Bool, true, replicate, ◌∷◌, []}
use Rattle.std.specs.List.{list_all}
use Rattle.prime_implicants.specs.DenseClauses.{is_wide, all_unfalsified, is_zero}
use Rattle.clause_form.specs.Clauses.{any_below}
use Rattle.prime_implicants.proofs.DenseClauseLaws.{wide-all, rows_in, rows_sized, wide-fixed, length-within, row_unfalsified-never, wide-never, zero-never, zero-all}
use Rattle.clause_form.proofs.SomeValue.{any_below-step}
use Rattle.prime_implicants.proofs.gathering.gather.Goals as goal

pub loop-v-init : goal.loop-v-init
loop-v-init c =
    let n = length c.args.sizes.now in
    let start : c.push.new.self.items ≡ replicate n 0 ∷ [] = search rules in
    record {
      wide = ap (list_all (is_wide n)) start ∙ ap (λ b. b && true) (wide-never n);
      zero = λ y h. ap (list_all (is_zero y)) start ∙ ap (λ b. b && true) (zero-never y n);
      unfalsified_at = λ q w. ap (all_unfalsified q) start ∙ ap (λ b. b && true) (row_unfalsified-never q n);
    }

pub condition-requires : goal.condition-requires
condition-requires c = rows_in (length c.args.sizes.now) c.args.x c.args.rows.now c.requires.subject c.requires.wide

pub loop-v-preserved : goal.loop-v-preserved
loop-v-preserved c =
    let n = length c.args.sizes.now in
    let fixed = c.in_ok-fixed.fixed.items in
    let wide_fixed : list_all (is_wide n) fixed ≡ true = c.in_ok-fixed.ensures.same (is_wide n) (wide-fixed n c.args.x c.args.rows.now c.requires.wide) in
    record {
      wide = c.in_ok-out.ensures.same (is_wide n)
          (rw (c.as_slice.ensures.value, c.as_slice-in-loop-v.ensures.value) (wide-all n c.loop-v.out.items fixed c.loop-v.invariant.wide wide_fixed));
      zero = λ y h. c.in_ok-out.ensures.same (is_zero y)
          (rw (c.as_slice.ensures.value, c.as_slice-in-loop-v.ensures.value)
          (zero-all y n c.loop-v.out.items fixed c.loop-v.invariant.wide wide_fixed (c.loop-v.invariant.zero y h) (c.in_ok-fixed.ensures.same (is_zero y) h)));
      unfalsified_at = λ q w.
          let test : ℕ → Bool = λ v. all_unfalsified (set q c.args.x (Some v)) c.args.rows.now in
          let here : all_unfalsified q fixed ≡ test c.loop-v.v = c.in_ok-fixed.ensures.unfalsified q (rows_sized n q c.args.rows.now (length-within c.args.sizes.now q w) c.requires.wide) in
          let both : all_unfalsified q c.in_ok-out.out.items ≡ (all_unfalsified q c.loop-v.out.items || all_unfalsified q fixed) = rw (c.as_slice.ensures.value, c.as_slice-in-loop-v.ensures.value) at (c.in_ok-out.ensures.unfalsified q w) in
          both ∙ ap (λ b. b || all_unfalsified q fixed) (c.loop-v.invariant.unfalsified_at q w) ∙ ap (λ b. any_below c.loop-v.v test || b) here ∙ sym (any_below-step c.loop-v.v test);
    }
