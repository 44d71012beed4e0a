use Rattle.std.proofs.Common.{◌++◌, ◌∙◌, List, Contains, length, ap, subst, arith}
use Rattle.cca_base.specs.declared.cube.Pair.{Pair}
use Rattle.cca_base.specs.Cube.{IsUnion}
use Rattle.consistency.proofs.ObservedPairs.{observed, observed_few, observed_values}
use Rattle.consistency.proofs.worlds.Worlds.observed_in.Goals as goal

pub push_all-requires : goal.push_all-requires
push_all-requires c =
    let few = observed_few c.args.model.now c.args.plant.now.modes c.args.mirrored c.args.pending.now _ c.requires.rising c.requires.unmirrored c.requires.pending c.renew.ensures.now in
    omega (arith, ap length c.clear.ensures.items, c.clear.ensures.room, c.requires.room, few)

pub join-requires-clause-room : goal.join-requires-clause-room
join-requires-clause-room c =
    let few = observed_few c.args.model.now c.args.plant.now.modes c.args.mirrored c.args.pending.now _ c.requires.rising c.requires.unmirrored c.requires.pending c.renew.ensures.now in
    let put = ap length (c.push_all.ensures.items ∙ ap (λ (l : List Pair). l ++ c.args.pending.now) c.clear.ensures.items) in
    omega (arith, put, ap length c.as_slice.ensures.items, c.push_all.ensures.room, c.clear.ensures.room, c.requires.room, few)

pub returns-clause-seen : goal.returns-clause-seen
returns-clause-seen c =
    let pending : List Pair = c.args.pending.now in
    let shown : List Pair = c.renew.new.mirror.space.pairs.items in
    let put = c.push_all.ensures.items ∙ ap (λ (l : List Pair). l ++ pending) c.clear.ensures.items in
    let both = c.join.new.list.items in
    let union = subst (λ (l : List Pair). IsUnion (Contains pending) (Contains l) both) c.as_slice.ensures.items (subst (λ (l : List Pair). IsUnion (Contains l) (Contains c.as_slice.result.now) both) put c.join.ensures.union) in
    observed c.args.model.now c.args.plant.now.modes c.args.mirrored pending shown both c.renew.ensures.now.forced union

pub returns-clause-values : goal.returns-clause-values
returns-clause-values c =
    let pending : List Pair = c.args.pending.now in
    let shown : List Pair = c.renew.new.mirror.space.pairs.items in
    let put = c.push_all.ensures.items ∙ ap (λ (l : List Pair). l ++ pending) c.clear.ensures.items in
    let both = c.join.new.list.items in
    let union = subst (λ (l : List Pair). IsUnion (Contains pending) (Contains l) both) c.as_slice.ensures.items (subst (λ (l : List Pair). IsUnion (Contains l) (Contains c.as_slice.result.now) both) put c.join.ensures.union) in
    observed_values c.args.model.now pending shown both c.requires.pending c.renew.ensures.now.values union
