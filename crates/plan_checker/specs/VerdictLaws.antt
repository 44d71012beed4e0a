-- What verdicts say of a printed tick: laws that test their definition.
use Rattle.std.specs.Prelude.{◌≡◌, ◌≢◌, ℕ, ◌+◌, ◌≤◌, false, true}
use Rattle.cca_base.specs.PlantModel.{PlantModel}
use Rattle.cca_base.specs.Trace.{ExecutiveState}
use Rattle.cca_base.specs.declared.events.Shown.TheVariants.{Holding}
use Rattle.plan_checker.specs.Reasons.{Printed, IsVerdict}
use Rattle.plan_checker.specs.declared.verdict.Verdict.{Verdict}
use Rattle.plan_checker.specs.declared.verdict.Verdict.TheVariants.{Yes, No}

-- a printed tick has one verdict at most, and a no has one of nine reasons; a tick of another number is a wrong line, whatever else is wrong;
-- and what gets a yes shows holding exactly while the executive is holding
pub record VerdictLaws : Type 0 where
  pub one : (m : PlantModel) (x : ExecutiveState) (t : Printed) (v w : Verdict) → IsVerdict m x t v → IsVerdict m x t w → v ≡ w
  pub few : (m : PlantModel) (x : ExecutiveState) (t : Printed) (reason : ℕ) → IsVerdict m x t (No reason) → (1 ≤ reason) × (reason ≤ 9)
  pub number : (m : PlantModel) (x : ExecutiveState) (t : Printed) → IsVerdict m x t Yes → t.report.tick ≡ x.ticks + 1
  pub first : (m : PlantModel) (x : ExecutiveState) (t : Printed) (reason : ℕ) → t.report.tick ≢ x.ticks + 1 → IsVerdict m x t (No reason) → reason ≡ 1
  pub holds : (m : PlantModel) (x : ExecutiveState) (t : Printed) → t.report.shown ≡ Holding → IsVerdict m x t Yes → x.holding ≡ true
  pub goes_on : (m : PlantModel) (x : ExecutiveState) (t : Printed) → t.report.shown ≢ Holding → IsVerdict m x t Yes → x.holding ≡ false
