use Rattle.std.proofs.Common.{◌<◌, ◌+◌, ◌≤◌, length, take, sym, ap, subst, ◌∙◌, arith}
use Rattle.std.proofs.lemmas.List.{length-set, take_all, take_more_set}
use Rattle.cca_base.specs.PlantModel.{PlantModel}
use Rattle.cca_base.specs.State.{IsState}
use Rattle.cca_base.proofs.StartLaws.{start_state, starts_more, starts_all}
use Rattle.successors.proofs.plant.Plant.reset.Goals as goal

pub loop-at-preserved : goal.loop-at-preserved
loop-at-preserved c =
    let m = c.args.compiled.now.model in
    let i = c.loop-at.at in
    let modes = c.loop-at.self-inside.state.modes in
    let comps = c.components-components.ensures.value ∙ ap (λ (x : PlantModel). x.components) c.model.ensures.value in
    let within : i < length m.components = omega (arith, c.loop-at-test.true, c.len-at-end.ensures, ap length comps) in
    let full = c.loop-at.invariant.full in
    record {
      full = ap length c.set.ensures ∙ (length-set modes i c.get.result.now.start ∙ full);
      done = ap (take (i + 1)) c.set.ensures
          ∙ (take_more_set modes i c.get.result.now.start (omega arith)
          ∙ starts_more m.components i (take i modes) c.get.result.now within (rw comps at c.get.ensures.item) c.loop-at.invariant.done);
    }

pub returns-clause-starts : goal.returns-clause-starts
returns-clause-starts c =
    let modes = c.loop-at.self-inside.state.modes in
    let comps = c.components-components.ensures.value ∙ ap (λ (x : PlantModel). x.components) c.model.ensures.value in
    let past : length c.args.compiled.now.model.components ≤ c.loop-at.at = omega (arith, c.loop-at-test.false, c.len-at-end.ensures, ap length comps) in
    let full = c.loop-at.invariant.full in
    starts_all c.args.compiled.now.model modes c.loop-at.at past (sym (take_all c.loop-at.at modes (omega arith)) ∙ c.loop-at.invariant.done)

pub returns-clause-fits : goal.returns-clause-fits
returns-clause-fits c =
    subst (IsState c.args.compiled.now.model) (sym (returns-clause-starts c)) (start_state c.args.compiled.now.model c.model.ensures.compiled.accepted.well_formed)
