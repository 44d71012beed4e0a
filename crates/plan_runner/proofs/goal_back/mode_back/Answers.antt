use Rattle.std.proofs.Common.{◌≡◌, ◌∙◌, ℕ, sym, ap, subst}
use Rattle.cca_base.specs.PlantModel.{PlantModel}
use Rattle.cca_base.specs.Accepted.{CompiledModel}
use Rattle.cca_base.specs.Flags.{is_set}
use Rattle.cca_base.specs.Model.{IsMended}
use Rattle.policy_tables.specs.Tables.{TableParts}
use Rattle.reversibility.specs.ClassParts.{ClassParts}
use Rattle.plan_runner.proofs.GoingBack.{only_mended, nowhere}
use Rattle.plan_runner.proofs.goal_back.mode_back.Goals as goal

-- what is mended by the model that was read is so by the tables' own
mended_by : (t : TableParts) {m : PlantModel} {b : CompiledModel} {p : ClassParts} {c mode a : ℕ} → m ≡ b.model → b ≡ p.compiled → p ≡ t.classes → IsMended m.moves c mode a
    → IsMended t.classes.compiled.model.moves c mode a
mended_by t {c = c} {mode = mode} {a = a} model compiled classes mended =
    subst (λ (z : PlantModel). IsMended z.moves c mode a) (model ∙ ap (λ z. z.model) (compiled ∙ ap (λ z. z.compiled) classes)) mended

pub returns-then-mendable : goal.returns-then-mendable
returns-then-mendable c =
    only_mended c.args.tables.now c.classes-classes.ensures.tables c.args.to.now.modes c.requires.covers c.args.component c.get-mode.result.now c.in-Some.mended c.get-mode.ensures.value
    (mended_by c.args.tables.now c.model.ensures.value c.compiled.ensures.value c.classes-classes.ensures.value c.in-Some.ensures.mended)
    (sym (c.mendable.ensures.value ∙ ap (λ z. is_set z.mendable c.args.component) c.classes-classes.ensures.value) ∙ c.if-mendable.true)

pub returns-else-mendable : goal.returns-else-mendable
returns-else-mendable c =
    nowhere c.args.tables.now c.classes-classes.ensures.tables c.args.to.now.modes c.requires.covers c.args.component c.get-mode.result.now c.get-mode.ensures.value
    (mended_by c.args.tables.now c.model.ensures.value c.compiled.ensures.value c.classes-classes.ensures.value c.in-Some.ensures.mended).broken
    (sym (c.mendable.ensures.value ∙ ap (λ z. is_set z.mendable c.args.component) c.classes-classes.ensures.value) ∙ c.if-mendable.false)
