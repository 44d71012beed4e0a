use Rattle.std.proofs.Common.{◌≡◌, sym, ap, subst, ◌∙◌}
use Rattle.cca_base.specs.Accepted.{CompiledModel}
use Rattle.cca_base.specs.PlantModel.{PlantModel}
use Rattle.cca_base.specs.Trace.{MayCome}
use Rattle.control_laws.specs.Turns.{TurnsBy}
use Rattle.control_program.specs.Rooms.{IsTurnRoomOf, goal_in}
use Rattle.program_form.specs.PutIn.{asks}
use Rattle.program_form.specs.Stages.{RunsWell}
use Rattle.program_form.proofs.RunningWell.{goal_comes, runs_after}
use Rattle.program_form.proofs.sequenced.turn.Goals as goal

pub turn_in-requires-clause-room : goal.turn_in-requires-clause-room
turn_in-requires-clause-room c =
    let model : c.model-model.result.now ≡ c.args.executive.now.compiled.model = c.model-model.ensures.value ∙ ap (λ (b : CompiledModel). b.model) c.compiled.ensures.value in
    subst (λ (m : PlantModel). IsTurnRoomOf m c.args.running.now.runner.program c.args.running.now.room) (sym model) c.requires.well.room

pub returns-clause-may_come : goal.returns-clause-may_come
returns-clause-may_come c =
    let x = c.args.executive.now in
    let old = c.args.running.now in
    let goal = goal_in c.turn_in.new.room in
    let model : c.model-model.result.now ≡ x.compiled.model = c.model-model.ensures.value ∙ ap (λ (b : CompiledModel). b.model) c.compiled.ensures.value in
    subst (λ (m : PlantModel). MayCome m x.state.pending x.state.mirrored (asks goal)) model
    (goal_comes c.model-model.result.now c.estimate.result.now.modes old.runner goal c.turn_in.new.self x.state.pending x.state.mirrored
    (subst (λ (m : PlantModel). RunsWell m old.runner) (sym model) c.requires.well.well) c.turn_in.ensures.turn)

pub returns-clause-well : goal.returns-clause-well
returns-clause-well c =
    let x = c.args.executive.now in
    let old = c.args.running.now in
    let model : c.model-model.result.now ≡ x.compiled.model = c.model-model.ensures.value ∙ ap (λ (b : CompiledModel). b.model) c.compiled.ensures.value in
    runs_after x.compiled.model c.estimate.result.now.modes old (goal_in c.turn_in.new.room) (record { runner = c.turn_in.new.self; room = c.turn_in.new.room }) c.requires.well
    (subst (λ (m : PlantModel). TurnsBy m c.estimate.result.now.modes old.runner (goal_in c.turn_in.new.room) c.turn_in.new.self) model c.turn_in.ensures.turn)
    (subst (λ (m : PlantModel). IsTurnRoomOf m old.runner.program c.turn_in.new.room) model c.turn_in.ensures.room)
