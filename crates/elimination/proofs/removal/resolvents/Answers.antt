use Rattle.std.proofs.Common.{◌≡◌, ◌<◌, ◌||◌, ℕ, Bool, length, ap, sym, ◌∙◌, set, get_or, arith}
use Rattle.clause_form.specs.Clauses.{all_met, any_below}
use Rattle.clause_form.proofs.SomeValue.{any_below-step}
use Rattle.elimination.proofs.removal.resolvents.Goals as goal

pub loop-value-preserved : goal.loop-value-preserved
loop-value-preserved c =
    let sizes = c.args.sizes.now in
    let x = c.args.subject in
    let v = c.loop-value.value in
    let clauses = c.args.clauses.now in
    record {
      met = λ xs h.
          let test : ℕ → Bool = λ n. all_met (set xs x n) clauses in
          let inside : x < length xs = omega (arith, h.full, c.requires.subject) in
          c.in_ok-all-2.ensures.met xs h
          ∙ ap (λ b. b || all_met xs c.in_ok-rest.rest.items) (c.loop-value.invariant.met xs h)
          ∙ ap (λ b. any_below v test || b) (c.in_ok-rest.ensures.met xs inside)
          ∙ sym (any_below-step v test);
      below = c.in_ok-all-2.ensures.below;
      gone = c.in_ok-all-2.ensures.names x c.loop-value.invariant.gone c.in_ok-rest.ensures.gone;
      names = λ y h. c.in_ok-all-2.ensures.names y (c.loop-value.invariant.names y h) (c.in_ok-rest.ensures.names y h);
    }

pub returns : goal.returns
returns c = record {
  met = λ xs h.
      let test : ℕ → Bool = λ n. all_met (set xs c.args.subject n) c.args.clauses.now in
      let done : c.loop-value.value ≡ get_or c.args.sizes.now c.args.subject 0 = omega (arith, c.get-value-end.ensures.value, c.loop-value-test.false, c.loop-value.auto) in
      c.loop-value.invariant.met xs h ∙ ap (λ n. any_below n test) done;
  below = c.loop-value.invariant.below;
  gone = c.loop-value.invariant.gone;
  names = c.loop-value.invariant.names;
}
