use Rattle.std.proofs.Common.{ℕ, List, Option, Result, Ok, Err, ap, subst, ◌∙◌}
use Rattle.cca_base.specs.Accepted.{CompiledModel, IsCompiled}
use Rattle.cca_base.specs.PlantModel.{PlantModel}
use Rattle.cca_base.specs.Refusals.{Answers}
use Rattle.cca_base.specs.declared.events.Stop.{Stop}
use Rattle.cca_base.specs.declared.events.Stop.TheVariants as stops
use Rattle.want_lines.specs.Requests.{IsRequestOf}
use Rattle.want_lines.specs.declared.request.Request.{Request}
use Rattle.want_form.specs.WishMachine.{WishState, wish_lines}
use Rattle.want_form.proofs.wishing.Wishing.request.Goals as goal

-- what is read of a line is read of an accepted model
with_compiled : (x : WishState) (l : List ℕ) (r : Result (Option Request) Stop) → IsCompiled x.compiled → Answers r (IsRequestOf x.compiled.model l) → Answers r (wish_lines.said x l)
with_compiled x l (Ok o) compiled h = (compiled, h)
with_compiled x l (Err stops.Memory) compiled h = tt
with_compiled x l (Err (stops.Refused refusal)) compiled h = ((compiled, h.0), h.1)

pub returns-clause-said : goal.returns-clause-said
returns-clause-said c =
    let model = c.new-model.ensures ∙ c.model.ensures.value ∙ ap (λ (b : CompiledModel). b.model) c.deref.ensures ∙ ap (λ (z : WishState). z.compiled.model) c.self.view_is in
    let compiled = subst (λ (z : WishState). IsCompiled z.compiled) c.self.view_is (subst IsCompiled c.deref.ensures c.model.ensures.compiled) in
    with_compiled c.args.self.now c.args.line.now c.read_request.result compiled (subst (λ (m : PlantModel). Answers c.read_request.result (IsRequestOf m c.args.line.now)) model c.read_request.ensures.answer)
