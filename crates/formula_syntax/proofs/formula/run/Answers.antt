use Rattle.std.proofs.Common.{◌≡◌, ◌∙◌, subst, sym}
use Rattle.std.specs.Prelude.{IfOk}
use Rattle.formula_syntax.specs.FormulaParser.{state_of}
use Rattle.formula_syntax.proofs.PlacesBehind.{place_moves}
use Rattle.formula_syntax.proofs.FormulaReadWhole.{running_goes_on, running_stops, running_ends}
use Rattle.formula_syntax.proofs.formula.run.Goals as goal
use Rattle.formula_syntax.proofs.formula.run.Goals.{in-Some, in-None+in_ok-next-in-None+in-Some-2}

pub returns-in-None-2 : goal.returns-in-None-2
returns-in-None-2 c = let h = rw (c.in-None-2.is, c.model.ensures) at c.in_ok-next-in-None.ensures in running_stops c.tokens.invariant _ c.tokens-test.true h

pub tokens-preserved : goal.tokens-preserved
tokens-preserved c =
    elim c.match-place_behind.branch [
      | in-Some w ↦
          let moves = place_moves c.args.strict c.args.model.now (state_of c.tokens.machine) _ w.in-Some.place (sym c.place_behind.ensures ∙ w.in-Some.is) in
          rw w.machine-is (running_goes_on c.tokens.invariant _ c.tokens-test.true _ (sym moves))
      | in-None+in_ok-next-in-None+in-Some-2 w ↦
          let h = rw (w.in-Some-2.is, w.model.ensures) at w.in_ok-next-in-None.ensures in
          rw w.machine-is (running_goes_on c.tokens.invariant _ c.tokens-test.true _ h)
    ]

pub returns : goal.returns
returns c = subst (λ x. IfOk c.ended.result (λ r. r ≡ x)) (running_ends c.tokens.invariant c.tokens-test.false) c.ended.ensures
