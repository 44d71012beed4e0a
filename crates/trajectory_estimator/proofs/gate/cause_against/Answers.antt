use Rattle.std.proofs.Common.{◌≡◌, ℕ, List, Some, slice_get, slice_index, refl, sym, ap, subst, ◌∙◌}
use Rattle.cca_base.specs.declared.cube.Pair.{Pair}
use Rattle.cca_base.specs.declared.model.Move.{Move}
use Rattle.cca_base.specs.Accepted.{AreWays, CompiledModel, IsCompiled}
use Rattle.cca_base.specs.PlantModel.{PlantModel}
use Rattle.trajectory_estimator.specs.Asked.{Asked}
use Rattle.trajectory_estimator.proofs.GateCuts.{IsGateCut, gate_cut_on, none_either, none_open, none_shut, open_clash, shut_clash, ways_within}
use Rattle.trajectory_estimator.proofs.gate.cause_against.Goals as goal

-- the move and its ways, as they are read
record IsRead (q : Asked) (number : ℕ) (move : Move) (cubes : List (List Pair)) : Type 0 where
  pub of_model : slice_get q.model.moves number ≡ Some move
  pub ways : AreWays q.model move cubes

is_read : (q : Asked) (b : CompiledModel) (m : PlantModel) (rows : List (List (List Pair))) (row cubes : List (List Pair)) (moves : List Move) (number : ℕ) (move : Move) → b.model ≡ q.model → IsCompiled b
    → rows ≡ b.ways → slice_get rows number ≡ Some row → cubes ≡ row → m ≡ q.model → moves ≡ m.moves → slice_get moves number ≡ Some move → IsRead q number move cubes
is_read q b m rows row cubes moves number move same compiled all its is again moves_are read =
    let of_model : slice_get q.model.moves number ≡ Some move =
    ap (λ (x : PlantModel). slice_get x.moves number) (sym again) ∙ ap (λ (l : List Move). slice_get l number) (sym moves_are) ∙ read in
    let of_ways : slice_get b.ways number ≡ Some row = ap (λ (l : List (List (List Pair))). slice_get l number) (sym all) ∙ its in
    let here : slice_get b.model.moves number ≡ Some move = ap (λ (x : PlantModel). slice_get x.moves number) same ∙ of_model in
    record {
      of_model = of_model;
      ways = subst (λ (l : List (List Pair)). AreWays q.model move l) (sym is) (subst (λ (x : PlantModel). AreWays x move row) same (compiled.ways number move row here of_ways));
    }

pub blame_each-requires-clause-ways : goal.blame_each-requires-clause-ways
blame_each-requires-clause-ways c =
    let b = c.args.before.now in
    let x = is_read b.paths.query.now c.compiled.result.now c.model.result.now c.ways.result.now c.get.result.now c.as_slice-ways.result.now c.moves.result.now c.args.number c.get-step.result.now
    c.compiled.ensures.model c.compiled.ensures.compiled c.ways.ensures.value c.get.ensures.value c.as_slice-ways.ensures c.model.ensures.value c.moves.ensures.value c.get-step.ensures.value in
    ways_within b c.model.ensures.asked c.args.number c.requires.named c.get-step.result.now x.of_model c.as_slice-ways.result.now x.ways

pub returns-then-value-eq-OPEN-clause-clash : goal.returns-then-value-eq-OPEN-clause-clash
returns-then-value-eq-OPEN-clause-clash c each =
    let b = c.args.before.now in
    let step = c.get-step.result.now in
    let x = is_read b.paths.query.now c.compiled.result.now c.model.result.now c.ways.result.now c.get.result.now c.as_slice-ways.result.now c.moves.result.now c.args.number c.get-step.result.now
    c.compiled.ensures.model c.compiled.ensures.compiled c.ways.ensures.value c.get.ensures.value c.as_slice-ways.ensures c.model.ensures.value c.moves.ensures.value c.get-step.ensures.value in
    let first : IsGateCut b step c.gate_cut.new.cut.items = record { own = c.gate_cut.ensures.own; gate = c.gate_cut.ensures.gate; source = c.gate_cut.ensures.source } in
    open_clash b c.model.ensures.asked c.args.number c.requires.named step x.of_model c.as_slice-ways.result.now x.ways c.blame_each.new.cut.items
    (gate_cut_on b step c.gate_cut.new.cut.items c.blame_each.new.cut.items first c.blame_each.ensures.cut) (ap (slice_index b.paths.values.now) (sym c.gate_place.ensures) ∙ c.if-value-eq-OPEN.true) (c.blame_each.ensures.blames each)

pub returns-then-value-eq-OPEN-clause-none : goal.returns-then-value-eq-OPEN-clause-none
returns-then-value-eq-OPEN-clause-none c not_each whole =
    let b = c.args.before.now in
    let step = c.get-step.result.now in
    let x = is_read b.paths.query.now c.compiled.result.now c.model.result.now c.ways.result.now c.get.result.now c.as_slice-ways.result.now c.moves.result.now c.args.number c.get-step.result.now
    c.compiled.ensures.model c.compiled.ensures.compiled c.ways.ensures.value c.get.ensures.value c.as_slice-ways.ensures c.model.ensures.value c.moves.ensures.value c.get-step.ensures.value in
    let (cube, among, may) = c.blame_each.ensures.none not_each in
    none_open b c.model.ensures.asked c.args.number c.requires.named step x.of_model c.as_slice-ways.result.now x.ways c.requires.walks whole (ap (slice_index b.paths.values.now) (sym c.gate_place.ensures) ∙ c.if-value-eq-OPEN.true) cube among may

pub standing-requires : goal.standing-requires
standing-requires c =
    let b = c.args.before.now in
    let x = is_read b.paths.query.now c.compiled.result.now c.model.result.now c.ways.result.now c.get.result.now c.as_slice-ways.result.now c.moves.result.now c.args.number c.get-step.result.now
    c.compiled.ensures.model c.compiled.ensures.compiled c.ways.ensures.value c.get.ensures.value c.as_slice-ways.ensures c.model.ensures.value c.moves.ensures.value c.get-step.ensures.value in
    ways_within b c.model.ensures.asked c.args.number c.requires.named c.get-step.result.now x.of_model c.as_slice-ways.result.now x.ways

pub returns-in-Some-clause-clash : goal.returns-in-Some-clause-clash
returns-in-Some-clause-clash c _ =
    let b = c.args.before.now in
    let step = c.get-step.result.now in
    let x = is_read b.paths.query.now c.compiled.result.now c.model.result.now c.ways.result.now c.get.result.now c.as_slice-ways.result.now c.moves.result.now c.args.number c.get-step.result.now
    c.compiled.ensures.model c.compiled.ensures.compiled c.ways.ensures.value c.get.ensures.value c.as_slice-ways.ensures c.model.ensures.value c.moves.ensures.value c.get-step.ensures.value in
    let first : IsGateCut b step c.gate_cut.new.cut.items = record { own = c.gate_cut.ensures.own; gate = c.gate_cut.ensures.gate; source = c.gate_cut.ensures.source } in
    shut_clash b c.model.ensures.asked c.args.number c.requires.named step x.of_model c.as_slice-ways.result.now x.ways c.blame_all.new.cut.items
    (gate_cut_on b step c.gate_cut.new.cut.items c.blame_all.new.cut.items first c.blame_all.ensures.cut) (ap (slice_index b.paths.values.now) (sym c.gate_place.ensures) ∙ c.if-value-eq-SHUT.true) c.in-Some.cube.now c.in-Some.ensures.some c.blame_all.ensures.blames

pub returns-in_default-clause-none : goal.returns-in_default-clause-none
returns-in_default-clause-none c _ whole =
    let b = c.args.before.now in
    let step = c.get-step.result.now in
    let x = is_read b.paths.query.now c.compiled.result.now c.model.result.now c.ways.result.now c.get.result.now c.as_slice-ways.result.now c.moves.result.now c.args.number c.get-step.result.now
    c.compiled.ensures.model c.compiled.ensures.compiled c.ways.ensures.value c.get.ensures.value c.as_slice-ways.ensures c.model.ensures.value c.moves.ensures.value c.get-step.ensures.value in
    none_shut b c.model.ensures.asked c.args.number c.requires.named step x.of_model c.as_slice-ways.result.now x.ways c.requires.walks whole (ap (slice_index b.paths.values.now) (sym c.gate_place.ensures) ∙ c.if-value-eq-SHUT.true) (c.in_default.ensures.none refl)

pub returns-else-value-eq-SHUT-clause-none : goal.returns-else-value-eq-SHUT-clause-none
returns-else-value-eq-SHUT-clause-none c _ whole =
    let b = c.args.before.now in
    let step = c.get-step.result.now in
    let x = is_read b.paths.query.now c.compiled.result.now c.model.result.now c.ways.result.now c.get.result.now c.as_slice-ways.result.now c.moves.result.now c.args.number c.get-step.result.now
    c.compiled.ensures.model c.compiled.ensures.compiled c.ways.ensures.value c.get.ensures.value c.as_slice-ways.ensures c.model.ensures.value c.moves.ensures.value c.get-step.ensures.value in
    let at_place = ap (slice_index b.paths.values.now) (sym c.gate_place.ensures) in
    none_either b c.model.ensures.asked c.args.number c.requires.named step x.of_model c.as_slice-ways.result.now x.ways c.requires.walks whole
    (λ same. c.if-value-eq-OPEN.false (sym at_place ∙ same)) (λ same. c.if-value-eq-SHUT.false (sym at_place ∙ same))
