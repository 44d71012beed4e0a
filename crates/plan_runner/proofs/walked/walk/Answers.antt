use Rattle.std.proofs.Common.{◌≡◌, ◌++◌, ◌∷◌, [], ◌∙◌, ℕ, List, length, refl, sym, ap, subst, arith, length-append}
use Rattle.cca_base.specs.declared.limits.TheConstants.{MAX_PLAN}
use Rattle.cca_base.specs.declared.cube.Pair.{Pair}
use Rattle.cca_base.specs.Accepted.{CompiledModel}
use Rattle.cca_base.specs.Steps.{Step}
use Rattle.cca_base.specs.Choice.{PicksForGoal}
use Rattle.policy_tables.specs.Tables.{TableParts}
use Rattle.plan_runner.specs.Walked.{WholeTo}
use Rattle.plan_runner.proofs.Growing.{whole_more, whole_end, covers_next, too_many, never_lost}
use Rattle.plan_runner.proofs.walked.walk.Goals as goal

pub returns-in-Achieved : goal.returns-in-Achieved
returns-in-Achieved g c = (
  whole_end c.args.tables.now.classes.compiled c.args.goal.now.pairs c.args.state.now.modes c.walking.plan c.walking.at.modes c.walking.invariant.0 c.in-Achieved.ensures.rule,
  c.walking.invariant.2,
)

pub unreachable-requires : goal.unreachable-requires
unreachable-requires g c =
    never_lost c.args.tables.now c.classes.ensures.tables c.args.goal.now.pairs c.requires.inside
    (record { item = c.in-Unreachable.field-0; value = c.in-Unreachable.field-1 }) c.in-Unreachable.ensures.rule.1

pub returns-then-len-eq-MAX_PLAN : goal.returns-then-len-eq-MAX_PLAN
returns-then-len-eq-MAX_PLAN g c =
    too_many c.args.tables.now c.classes.ensures.tables c.args.goal.now.pairs c.requires.inside c.requires.goal.in_order
    c.args.state.now.modes c.walking.plan c.walking.at.modes MAX_PLAN c.walking.invariant.0 c.walking.invariant.1 c.in-Send.ensures.rule.0
    (sym c.len.ensures ∙ c.if-len-eq-MAX_PLAN.true)

pub walking-preserved : goal.walking-preserved
walking-preserved g c =
    let t : TableParts = c.args.tables.now in
    let b : CompiledModel = t.classes.compiled in
    let goal_pairs : List Pair = c.args.goal.now.pairs in
    let at : List ℕ = c.walking.at.modes in
    let next : List ℕ = c.send.new.state.modes in
    let k : ℕ = c.in-Send.command in
    let picks : PicksForGoal b at goal_pairs k = c.in-Send.ensures.promises.chosen.picked k refl in
    let model_is : c.model-model.result.now ≡ b.model = c.model-model.ensures.value ∙ ap (λ z. z.model) (c.compiled.ensures.value ∙ ap (λ z. z.compiled) c.classes.ensures.value) in
    let step : Step b.model at k next = subst (λ m. Step m at k next) model_is c.send.ensures in
    let pushed : c.push.new.self ≡ c.walking.plan ++ k ∷ [] = c.in_ok-push.ensures.ok in
    let more : WholeTo b goal_pairs c.args.state.now.modes (c.walking.plan ++ k ∷ []) next =
    whole_more b goal_pairs c.args.state.now.modes c.walking.plan at next k c.walking.invariant.0 c.in-Send.ensures.rule.0 picks step in (
      subst (λ l. WholeTo b goal_pairs c.args.state.now.modes l next) (sym pushed) more,
      covers_next t c.classes.ensures.tables goal_pairs c.requires.inside at next k c.walking.invariant.1 picks step,
      omega (arith, ap length pushed, length-append c.walking.plan (k ∷ []), c.walking.invariant.2, c.len.ensures, c.if-len-eq-MAX_PLAN.false),
    )
