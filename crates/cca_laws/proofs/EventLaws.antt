-- What events and ticks change.
use Rattle.std.proofs.Common.{refl, sym, ap, subst, ◌∙◌, arith}
use Rattle.cca_base.specs.Successors.{Nominal}
use Rattle.cca_base.specs.Trace.{ExecutiveState, command_of}
use Rattle.cca_laws.specs.EventLaws.{FaultsMovePlant, ClearEndsGoal, CommandsMovePlant, UnexplainedHolds, HoldingGoesOn, TenThousandAreShown, OneMoreIsLong, LongBothWays}

pub faults_move_plant : FaultsMovePlant
faults_move_plant m order x y p e = (ap (λ (z : ExecutiveState). z.plant) e, ap (λ (z : ExecutiveState). z.estimate) e, ap (λ (z : ExecutiveState). z.goal) e)

pub clear_ends_goal : ClearEndsGoal
clear_ends_goal m order x y e = (ap (λ (z : ExecutiveState). z.goal) e, ap (λ (z : ExecutiveState). z.mirrored) e)

pub commands_move_plant : CommandsMovePlant
commands_move_plant b x y cost state reply h = (
  subst (λ s. Nominal b.model x.plant (command_of reply) s) (sym (ap (λ (z : ExecutiveState). z.plant) h.after)) h.moves,
  ap (λ (z : ExecutiveState). z.estimate) h.after,
  ap (λ (z : ExecutiveState). z.command) h.after,
  ap (λ (z : ExecutiveState). z.pending) h.after,
  ap (λ (z : ExecutiveState). z.ticks) h.after,
)

pub unexplained_holds : UnexplainedHolds
unexplained_holds m x y h = (
  ap (λ (z : ExecutiveState). z.estimate) h.after,
  ap (λ (z : ExecutiveState). z.plant) h.after,
  ap (λ (z : ExecutiveState). z.command) h.after,
  ap (λ (z : ExecutiveState). z.holding) h.after,
  ap (λ (z : ExecutiveState). z.pending) h.after,
)

pub holding_goes_on : HoldingGoesOn
holding_goes_on b x y (h, e) = (ap (λ (z : ExecutiveState). z.pending) e, ap (λ (z : ExecutiveState). z.holding) e ∙ h, ap (λ (z : ExecutiveState). z.ticks) e)

pub ten_thousand_are_shown : TenThousandAreShown
ten_thousand_are_shown ks e = ((refl, omega (arith, e)), λ h. absurd (omega (arith, e, h)))

pub one_more_is_long : OneMoreIsLong
one_more_is_long shown ks e = (omega (arith, e), λ h. absurd (omega (arith, e, h.1)))

pub long_both_ways : LongBothWays
long_both_ways back ks e = e
