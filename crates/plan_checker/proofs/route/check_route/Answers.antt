use Rattle.std.proofs.Common.{refl, sym, ◌∙◌}
use Rattle.std.specs.Option.{option_map}
use Rattle.std.proofs.lemmas.Bool.{both_ways}
use Rattle.plan_checker.proofs.RouteLaws.{step_from, no_step, not_begun, not_run, no_goal, not_home, all_pass}
use Rattle.plan_checker.proofs.route.check_route.Goals as goal

pub returns-then-not-branch-clause-verdict : goal.returns-then-not-branch-clause-verdict
returns-then-not-branch-clause-verdict c =
    no_step c.args.rules.now.model.now c.args.state.now.modes (option_map (λ g. g.pairs) c.args.goal.now) c.args.command c.args.route.now.back c.args.route.now.plan
    (rw (← c.in_ok-there.ensures) (c.in_ok-make_step.ensures.none c.if-not-branch.true))

pub returns-in_default-rest_of-clause-verdict : goal.returns-in_default-rest_of-clause-verdict
returns-in_default-rest_of-clause-verdict c = rw c.in-Plan.is
    (not_begun c.args.rules.now.model.now c.args.state.now.modes (option_map (λ g. g.pairs) c.args.goal.now) c.args.command c.args.route.now.back c.make_step.new.state.modes
    (step_from c.in_ok-there.ensures (c.in_ok-make_step.ensures.made c.if-not-branch.false)) c.in-Plan.plan
    (λ others e. c.in_default-rest_of.ensures.none refl others (c.as_slice.ensures ∙ e)))

pub returns-then-not-branch-2-clause-verdict : goal.returns-then-not-branch-2-clause-verdict
returns-then-not-branch-2-clause-verdict c = rw c.in-Plan.is
    (not_run c.args.rules.now.model.now c.args.state.now.modes (option_map (λ g. g.pairs) c.args.goal.now) c.args.command c.args.route.now.back c.make_step.new.state.modes
    (step_from c.in_ok-there.ensures (c.in_ok-make_step.ensures.made c.if-not-branch.false)) c.moves-moves.ensures.well_formed.commands c.in-Plan.plan c.in-Some.rest.now
    (sym c.as_slice.ensures ∙ c.in-Some.ensures.some) (c.in_ok-run.ensures.none c.if-not-branch-2.true))

pub returns-then-not-holds_goal-clause-verdict : goal.returns-then-not-holds_goal-clause-verdict
returns-then-not-holds_goal-clause-verdict c = rw c.in-Plan.is
    (no_goal c.args.rules.now.model.now c.args.state.now.modes (option_map (λ g. g.pairs) c.args.goal.now) c.args.command c.args.route.now.back c.make_step.new.state.modes
    (step_from c.in_ok-there.ensures (c.in_ok-make_step.ensures.made c.if-not-branch.false)) c.moves-moves.ensures.well_formed.commands c.in-Plan.plan c.in-Some.rest.now
    (sym c.as_slice.ensures ∙ c.in-Some.ensures.some) c.run.new.state.modes (c.in_ok-run.ensures.made c.if-not-branch-2.false)
    (λ stands. both_ways c.holds_goal.result c.if-not-holds_goal.true (c.holds_goal.ensures.1 stands)))

pub returns-then-not-branch-3-clause-verdict : goal.returns-then-not-branch-3-clause-verdict
returns-then-not-branch-3-clause-verdict c = rw c.in-Plan.is
    (not_home c.args.rules.now.model.now c.args.state.now.modes (option_map (λ g. g.pairs) c.args.goal.now) c.args.command c.args.route.now.back c.make_step.new.state.modes
    (step_from c.in_ok-there.ensures (c.in_ok-make_step.ensures.made c.if-not-branch.false)) c.moves-moves.ensures.well_formed.commands c.in-Plan.plan c.in-Some.rest.now
    (sym c.as_slice.ensures ∙ c.in-Some.ensures.some) c.run.new.state.modes (c.in_ok-run.ensures.made c.if-not-branch-2.false) (c.holds_goal.ensures.0 c.if-not-holds_goal.false)
    (λ leads. both_ways c.in_ok-leads_home.field-0 c.if-not-branch-3.true (c.in_ok-leads_home.ensures.leads.1 leads)))

pub returns-clause-verdict : goal.returns-clause-verdict
returns-clause-verdict c = rw c.in-Plan.is
    (all_pass c.args.rules.now.model.now c.args.state.now.modes (option_map (λ g. g.pairs) c.args.goal.now) c.args.command c.args.route.now.back c.make_step.new.state.modes
    (step_from c.in_ok-there.ensures (c.in_ok-make_step.ensures.made c.if-not-branch.false)) c.moves-moves.ensures.well_formed.commands c.in-Plan.plan c.in-Some.rest.now
    (sym c.as_slice.ensures ∙ c.in-Some.ensures.some) c.run.new.state.modes (c.in_ok-run.ensures.made c.if-not-branch-2.false) (c.holds_goal.ensures.0 c.if-not-holds_goal.false)
    (c.in_ok-leads_home.ensures.leads.0 c.if-not-branch-3.false))
