use Rattle.std.proofs.Common.{◌≡◌, IsTrue, List, All, Contains, refl, sym, subst, ◌∙◌, arith}
use Rattle.std.proofs.lemmas.List.{take_all}
use Rattle.std.proofs.lemmas.List.Elements.{All-more, All-contains}
use Rattle.cca_base.specs.declared.formula.Formula.{Formula}
use Rattle.cca_base.specs.Formula.{truth}
use Rattle.cca_base.specs.Model.{IsFormula}
use Rattle.list_laws.proofs.Members.{found}
use Rattle.plan_checker.proofs.WorldParts.{rule_within}
use Rattle.plan_checker.proofs.states.keeps_rules.Goals as goal

pub holds_at-requires : goal.holds_at-requires
holds_at-requires c =
    let items : c.as_slice-rule-items.result.now ≡ c.args.model.now.rules = c.as_slice-rule-items.ensures ∙ c.rules.ensures.value in
    let among : Contains c.args.model.now.rules c.rule-item.result = found _ _ c.loop-rule.rule-index c.rule-item.result items c.loop-rule-test.true c.rule-item.is in
    rule_within c.args.model.now c.args.state.now.modes c.args.world.now.values c.rule-item.result
    (All-contains (IsFormula c.args.model.now) c.args.model.now.rules c.rule-item.result c.rules.ensures.well_formed.rules among) c.requires.state c.requires.values

pub loop-rule-preserved : goal.loop-rule-preserved
loop-rule-preserved c =
    let P : Formula → Type 0 = λ rule. IsTrue (truth c.args.state.now.modes c.args.world.now.values rule) in
    let here : P c.rule-item.result = sym c.holds_at.ensures ∙ c.if-not-holds_at.false in
    All-more P c.as_slice-rule-items.result.now c.loop-rule.rule-index c.rule-item.result c.loop-rule-test.true c.loop-rule.invariant (subst P c.rule-item.is here)

pub returns : goal.returns
returns c =
    let items : c.as_slice-rule-items.result.now ≡ c.args.model.now.rules = c.as_slice-rule-items.ensures ∙ c.rules.ensures.value in
    let all = take_all c.loop-rule.rule-index c.as_slice-rule-items.result.now (omega arith) ∙ items in
    ((λ t. subst (λ (l : List Formula). All (λ rule. IsTrue (truth c.args.state.now.modes c.args.world.now.values rule)) l) all c.loop-rule.invariant), (λ h. refl))
