use Rattle.std.proofs.Common.{rules, ◌≡◌, ◌∷◌, [], All, subst, sym, arith}
use Rattle.cca_base.specs.Cube.{IsRising}
use Rattle.guard_compiler.specs.Conjunctions.{AddsWish, all_of}
use Rattle.guard_compiler.specs.Wishes.{AreImplicants}
use Rattle.guard_compiler.proofs.GuardParts.{parts_all, parts_next}
use Rattle.guard_compiler.proofs.WishParts.{implicants_rise, no_wish}
use Rattle.guard_compiler.proofs.wish_parts.wish_by_parts.Goals as goal

pub loop-part-init : goal.loop-part-init
loop-part-init c =
    let one : c.push.new.self ≡ [] ∷ [] = search rules in
    subst (AreImplicants c.args.model.now (all_of [])) (sym one) (no_wish c.args.model.now)

pub with_wish-requires-clause-cubes : goal.with_wish-requires-clause-cubes
with_wish-requires-clause-cubes c = subst (All IsRising) (sym c.as_slice.ensures) (implicants_rise c.args.model.now _ c.loop-part.cubes c.loop-part.invariant)

pub loop-part-preserved : goal.loop-part-preserved
loop-part-preserved c =
    let m = c.args.model.now in
    let adds : AddsWish m c.part-item.result c.as_slice.result.now c.in-Some.more = rw c.in-Some.is at c.in_ok-more.ensures in
    parts_next (AreImplicants m) c.args.parts.now c.loop-part.part-index c.part-item.result c.loop-part.cubes c.in-Some.more (omega arith) c.part-item.is c.loop-part.invariant
    (subst (λ z. AddsWish m c.part-item.result z c.in-Some.more) c.as_slice.ensures adds)

pub returns-clause-implicants : goal.returns-clause-implicants
returns-clause-implicants c = parts_all (AreImplicants c.args.model.now) c.args.parts.now c.loop-part.part-index c.loop-part.cubes (omega arith) c.loop-part.invariant
