-- How far a run has come, and what is left of it.
use Rattle.std.proofs.Common.{ℕ, List, ◌∷◌, subst}
use Rattle.cca_base.specs.PlantModel.{PlantModel}
use Rattle.cca_base.specs.Model.{CommandsFit}
use Rattle.cca_base.specs.Steps.{Step, Run}
use Rattle.cca_base.proofs.Commands.{one_step}
use Rattle.plan_checker.specs.Steps.{NoStep, NoRun}

-- from here the commands that are left lead to where all of them lead from the start
pub record IsOnWay (m : PlantModel) (start ks here left : List ℕ) : Type 0 where
  pub forth : (last : List ℕ) → Run m start ks last → Run m here left last
  pub back : (last : List ℕ) → Run m here left last → Run m start ks last

module _ (m : PlantModel) (start ks : List ℕ) where
  pub goes_on : CommandsFit m.moves → (here next : List ℕ) (k : ℕ) (left : List ℕ) → IsOnWay m start ks here (k ∷ left) → Step m here k next → IsOnWay m start ks next left
  goes_on fit here next k left h step = record {
    forth = λ last r.
        let p = h.forth last r in
        subst (λ z. Run m z left last) (one_step m fit here p.0 next k p.1 step).1 p.2;
    back = λ last r. h.back last (next, step, r);
  }

  pub stops : (here : List ℕ) (k : ℕ) (left : List ℕ) → IsOnWay m start ks here (k ∷ left) → NoStep m here k → NoRun m start ks
  stops here k left h none last r = let p = h.forth last r in none p.0 p.1
