use Rattle.std.proofs.Common.{rules, ◌≡◌, ◌∙◌, sym, true, false, Bool, ℕ}
use Rattle.prime_implicants.specs.DenseClauses.{have_value}
use Rattle.clause_form.proofs.SomeValue.{any_below-step, some_below}
use Rattle.prime_implicants.proofs.purity.is_pure.Goals as goal

pub loop-v-preserved : goal.loop-v-preserved
loop-v-preserved c =
    let test : ℕ → Bool = λ v. have_value c.args.x v c.args.rows.now in
    let not_here : test c.loop-v.v ≡ false = search rules in
    any_below-step c.loop-v.v test ∙ rw (c.loop-v.invariant, not_here)

pub returns-then-have_value : goal.returns-then-have_value
returns-then-have_value c =
    let here : have_value c.args.x c.loop-v.v c.args.rows.now ≡ true = search rules in
    sym (some_below c.args.size (λ v. have_value c.args.x v c.args.rows.now) c.loop-v.v (search rules) here)
