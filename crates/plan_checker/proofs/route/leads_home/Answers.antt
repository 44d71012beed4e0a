use Rattle.std.proofs.Common.{ℕ, List, sym, subst}
use Rattle.cca_base.specs.declared.events.PlanEnd.{PlanEnd}
use Rattle.cca_base.specs.PlantModel.{PlantModel}
use Rattle.cca_base.specs.Repairs.{Mending}
use Rattle.cca_base.specs.Steps.{Run}
use Rattle.check_laws.proofs.CheckedPlans.{one_end}
use Rattle.plan_checker.specs.Reasons.{OnCommands}
use Rattle.plan_checker.specs.Routes.{EndsInMending}
use Rattle.plan_checker.proofs.route.leads_home.Goals as goal

pub returns-clause-leads : goal.returns-clause-leads
returns-clause-leads c =
    let m : PlantModel = c.args.rules.now.model.now in
    let home : List ℕ = c.args.home.now.modes in
    let there : List ℕ = c.args.there.modes in
    let last : List ℕ = c.run.new.state.modes in
    let ks : List ℕ = c.in-Plan.commands in
    let run : Run m there ks last = subst (λ l. Run m there l last) c.as_slice.ensures (c.in_ok-run.ensures.made c.if-not-branch.false) in (
      λ t. subst (λ (e : PlanEnd). OnCommands e (EndsInMending m home there)) (sym c.in-Plan.is) (last, run, c.is_mending.ensures.0 t),
      λ h.
          let leads : EndsInMending m home there ks = subst (λ (e : PlanEnd). OnCommands e (EndsInMending m home there)) c.in-Plan.is h in
          c.is_mending.ensures.1 (subst (Mending m home) (one_end m c.moves-moves.ensures.well_formed.commands there leads.0 last ks leads.1 run) leads.2),
    )
