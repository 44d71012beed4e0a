use Rattle.std.proofs.Common.{◌≡◌, ◌<◌, ◌+◌, ◌-◌, ◌*◌, ◌++◌, ◌∷◌, [], ℕ, Contains, List, length, refl, sym, ap, subst, ◌∙◌}
use Rattle.cca_base.specs.Cube.{IsCube, Lacks}
use Rattle.cca_base.specs.declared.cube.Pair.{Pair}
use Rattle.cca_base.proofs.CubeLaws.{IsCube-push}
use Rattle.trajectory_estimator.specs.Clashes.{Blames, IsCutWith}
use Rattle.trajectory_estimator.specs.Walks.{mode_place}
use Rattle.trajectory_estimator.specs.declared.before.Before.{Before}
use Rattle.trajectory_estimator.proofs.CutRooms.{not_named, room_for_last}
use Rattle.trajectory_estimator.proofs.KnownModes.{pushed_cut, pushed_blames, there_blames}
use Rattle.trajectory_estimator.proofs.before.Before.blame.Goals as goal

-- the pair of the component's mode before the record
abbrev last_pair : Before → Pair → Pair
last_pair b p = record { item = mode_place b.paths.query.now p.item (b.at - 1); value = p.value }

-- the cut with the pair that was pushed
pushed : (cut new : List Pair) (at n count item value : ℕ) → count ≡ n → new ≡ cut ++ record { item = at * count + item; value = value } ∷ [] → new ≡ cut ++ record { item = at * n + item; value = value } ∷ []
pushed cut new at n count item value same e = e ∙ ap (λ (k : ℕ). cut ++ record { item = at * k + item; value = value } ∷ []) same

pub push-requires : goal.push-requires
push-requires c =
    let b = c.args.self.now in
    let p = c.args.pair in
    let cut : List Pair = c.args.cut.now.items in
    let lacks : Lacks (last_pair b p).item cut =
    not_named cut c.as_slice.result.now _ (last_pair b p).item c.names.result c.as_slice.ensures.items (ap (λ n. (b.at - 1) * n + p.item) c.count.ensures.count) c.if-not-names.true c.names.ensures.1 in
    room_for_last b.paths cut (last_pair b p) c.args.cut.now.room (pushed_cut b p c.requires.known c.if-self-eq0.false cut c.requires.own).own (IsCube-push cut (last_pair b p) c.requires.cube lacks) c.requires.room

pub returns-then-not-names-clause-cut : goal.returns-then-not-names-clause-cut
returns-then-not-names-clause-cut c =
    let b = c.args.self.now in
    let p = c.args.pair in
    let new = pushed c.args.cut.now.items c.push.new.self.items (b.at - 1) (length b.paths.query.now.model.components) c.count.result p.item p.value c.count.ensures.count c.push.ensures.items in
    subst (IsCutWith b c.args.cut.now.items) (sym new) (pushed_cut b p c.requires.known c.if-self-eq0.false c.args.cut.now.items c.requires.own)

pub returns-then-not-names-clause-blames : goal.returns-then-not-names-clause-blames
returns-then-not-names-clause-blames c =
    let b = c.args.self.now in
    let p = c.args.pair in
    let new = pushed c.args.cut.now.items c.push.new.self.items (b.at - 1) (length b.paths.query.now.model.components) c.count.result p.item p.value c.count.ensures.count c.push.ensures.items in
    subst (λ (l : List Pair). Blames b l p) (sym new) (pushed_blames b p c.requires.known c.if-self-eq0.false c.args.cut.now.items)

pub returns-then-not-names-clause-cube : goal.returns-then-not-names-clause-cube
returns-then-not-names-clause-cube c =
    let p = c.args.pair in
    let cut : List Pair = c.args.cut.now.items in
    let item : ℕ = (c.args.self.now.at - 1) * c.count.result + p.item in
    let lacks : Lacks item cut = not_named cut c.as_slice.result.now item item c.names.result c.as_slice.ensures.items refl c.if-not-names.true c.names.ensures.1 in
    subst IsCube (sym c.push.ensures.items) (IsCube-push cut (record { item = item; value = p.value }) c.requires.cube lacks)

pub returns-else-not-names-clause-blames : goal.returns-else-not-names-clause-blames
returns-else-not-names-clause-blames c =
    let b = c.args.self.now in
    let p = c.args.pair in
    let (o, among, e) = c.names.ensures.0 c.if-not-names.false in
    there_blames b p c.requires.known c.if-self-eq0.false c.args.cut.now.items c.requires.own o (subst (λ (l : List Pair). Contains l o) c.as_slice.ensures.items among)
    (e ∙ ap (λ n. (b.at - 1) * n + p.item) c.count.ensures.count)
