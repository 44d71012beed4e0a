use Rattle.std.proofs.Common.{rules, ◌≡◌, ◌≤◌, ◌∷◌, [], All, length, subst, sym, arith}
use Rattle.cca_base.specs.Cube.{IsRising}
use Rattle.cca_base.specs.Accepted.{AreWays}
use Rattle.cca_base.specs.declared.limits.TheConstants.{MAX_WAYS}
use Rattle.guard_compiler.specs.Conjunctions.{AddsPart, all_of, with_guard}
use Rattle.guard_compiler.proofs.GuardParts.{no_parts, parts_all, parts_next, ways_rise}
use Rattle.guard_compiler.proofs.conjunctions.conjunction_implicants.Goals as goal

pub loop-part-init : goal.loop-part-init
loop-part-init c =
    let one : c.push.new.self ≡ [] ∷ [] = search rules in
    record {
      ways = subst (AreWays c.args.model.now (with_guard c.args.the_move.now (all_of []))) (sym one) (no_parts c.args.model.now c.args.the_move.now);
      few = subst (λ z. length z ≤ MAX_WAYS) (sym one) (omega arith);
    }

pub with_part-requires-clause-cubes : goal.with_part-requires-clause-cubes
with_part-requires-clause-cubes c =
    subst (All IsRising) (sym c.as_slice.ensures) (ways_rise c.args.model.now _ c.loop-part.cubes c.loop-part.invariant.ways)

pub loop-part-preserved : goal.loop-part-preserved
loop-part-preserved c =
    let m = c.args.model.now in
    let move = c.args.the_move.now in
    let parts = c.args.parts.now in
    let adds : AddsPart m move c.part-item.result c.as_slice.result.now c.in-Some.more = rw c.in-Some.is at (c.in_ok-more.ensures {u = tt}).ways in
    record {
      ways = parts_next (λ f cubes. AreWays m (with_guard move f) cubes) parts c.loop-part.part-index c.part-item.result c.loop-part.cubes c.in-Some.more (omega arith) c.part-item.is c.loop-part.invariant.ways
          (subst (λ z. AddsPart m move c.part-item.result z c.in-Some.more) c.as_slice.ensures adds);
      few = rw c.in-Some.is at (c.in_ok-more.ensures {u = tt}).few;
    }

pub returns-clause-ways : goal.returns-clause-ways
returns-clause-ways c =
    parts_all (λ f cubes. AreWays c.args.model.now (with_guard c.args.the_move.now f) cubes) c.args.parts.now c.loop-part.part-index c.loop-part.cubes (omega arith) c.loop-part.invariant.ways
