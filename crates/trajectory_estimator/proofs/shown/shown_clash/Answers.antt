use Rattle.std.proofs.Common.{List, All, sym, subst, ◌∙◌, arith}
use Rattle.cca_base.specs.Cube.{IsPart}
use Rattle.cca_base.specs.Model.{HasMode}
use Rattle.cca_base.specs.PlantModel.{PlantModel}
use Rattle.cca_base.specs.Shown.{Clash}
use Rattle.cca_base.specs.State.{HasValue}
use Rattle.cca_base.specs.declared.cube.Pair.{Pair}
use Rattle.consistency.specs.Cores.{IsShowable}
use Rattle.trajectory_estimator.specs.Asked.{Asked}
use Rattle.trajectory_estimator.specs.Clashes.{ArePairsAt, IsClashOf}
use Rattle.trajectory_estimator.specs.Walks.{record_at}
use Rattle.trajectory_estimator.specs.declared.group_paths.GroupPaths.{GroupPaths}
use Rattle.trajectory_estimator.proofs.CutRooms.{room_for_components}
use Rattle.trajectory_estimator.proofs.StatesAt.{moved_clash, none_shows, pairs_have_modes, part_within, seen_here, seen_values}
use Rattle.trajectory_estimator.proofs.shown.shown_clash.Goals as goal

pub clash_into-requires-clause-modes : goal.clash_into-requires-clause-modes
clash_into-requires-clause-modes c =
    let x : GroupPaths = c.args.paths.now in
    let asked : List Pair = c.as_slice-asked.result.now in
    let are : ArePairsAt x c.args.at asked = subst (ArePairsAt x c.args.at) (sym c.as_slice-asked.ensures.items) c.write_pairs.ensures.pairs in
    subst (λ (m : PlantModel). All (λ p. HasMode m p.item p.value) asked) (sym c.model.ensures.value) (pairs_have_modes x c.model.ensures.asked c.args.at c.requires.at asked are c.requires.walks)

pub clash_into-requires-clause-seen : goal.clash_into-requires-clause-seen
clash_into-requires-clause-seen c =
    subst (λ (l : List Pair). All (λ p. HasValue c.model.result.now p.item p.value) l) (sym c.as_slice-seen.ensures)
    (seen_values c.args.paths.now.query.now c.records.result.now c.records.ensures.value c.args.at c.requires.at c.index-records-at.result c.model.result.now c.model.ensures.value c.records.ensures.values)

pub returns-then-not-clash_into-clause-none : goal.returns-then-not-clash_into-clause-none
returns-then-not-clash_into-clause-none c _ =
    let x : GroupPaths = c.args.paths.now in
    let q : Asked = x.query.now in
    let asked : List Pair = c.as_slice-asked.result.now in
    let are : ArePairsAt x c.args.at asked = subst (ArePairsAt x c.args.at) (sym c.as_slice-asked.ensures.items) c.write_pairs.ensures.pairs in
    let seen = c.as_slice-seen.ensures ∙ seen_here q c.records.result.now c.records.ensures.value c.args.at c.requires.at c.index-records-at.result in
    none_shows x c.model.ensures.asked c.args.at c.requires.at asked are c.requires.walks
    (subst (λ (m : PlantModel). IsShowable m (record_at q c.args.at).seen asked) c.model.ensures.value
    (subst (λ s. IsShowable c.model.result.now s asked) seen (c.clash_into.ensures.none.0 c.if-not-clash_into.true)))

pub write_cut-requires-clause-components : goal.write_cut-requires-clause-components
write_cut-requires-clause-components c =
    let x : GroupPaths = c.args.paths.now in
    let asked : List Pair = c.as_slice-asked.result.now in
    let are : ArePairsAt x c.args.at asked = subst (ArePairsAt x c.args.at) (sym c.as_slice-asked.ensures.items) c.write_pairs.ensures.pairs in
    let part : IsPart c.as_slice.result.now asked = subst (λ (l : List Pair). IsPart l asked) (sym c.as_slice.ensures.items) (c.clash_into.ensures.part c.if-not-clash_into.false) in
    part_within x c.model.ensures.asked c.args.at c.requires.at asked are c.as_slice.result.now part

pub write_cut-requires-clause-room : goal.write_cut-requires-clause-room
write_cut-requires-clause-room c =
    omega (arith, c.as_slice.ensures.within, c.clash_into.ensures.room, c.requires.space.blamed, room_for_components c.args.paths.now.query.now c.args.at c.requires.at, c.requires.room)

pub returns-clause-clash : goal.returns-clause-clash
returns-clause-clash c _ =
    let x : GroupPaths = c.args.paths.now in
    let q : Asked = x.query.now in
    let asked : List Pair = c.as_slice-asked.result.now in
    let are : ArePairsAt x c.args.at asked = subst (ArePairsAt x c.args.at) (sym c.as_slice-asked.ensures.items) c.write_pairs.ensures.pairs in
    let cube : List Pair = c.as_slice.result.now in
    let part : IsPart cube asked = subst (λ (l : List Pair). IsPart l asked) (sym c.as_slice.ensures.items) (c.clash_into.ensures.part c.if-not-clash_into.false) in
    let clash : Clash c.model.result.now c.as_slice-seen.result.now cube =
    subst (Clash c.model.result.now c.as_slice-seen.result.now) (sym c.as_slice.ensures.items) (c.clash_into.ensures.clash c.if-not-clash_into.false) in
    let seen = c.as_slice-seen.ensures ∙ seen_here q c.records.result.now c.records.ensures.value c.args.at c.requires.at c.index-records-at.result in
    subst (IsClashOf x) (sym c.write_cut.ensures.cut)
    (moved_clash x c.model.ensures.asked c.args.at c.requires.at asked are cube part
    (subst (λ (m : PlantModel). Clash m (record_at q c.args.at).seen cube) c.model.ensures.value (subst (λ s. Clash c.model.result.now s cube) seen clash)))
