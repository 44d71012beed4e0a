use Rattle.std.proofs.Common.{◌≡◌, ◌≤◌, ◌∙◌, true, All, length, subst, sym}
use Rattle.cca_base.specs.declared.formula.Formula.{Formula}
use Rattle.cca_base.specs.declared.limits.TheConstants.{MAX_WAYS}
use Rattle.cca_base.specs.Accepted.{AreWays}
use Rattle.cca_base.specs.Formula.{is_within}
use Rattle.guard_compiler.specs.Conjunctions.{all_of, with_guard}
use Rattle.guard_compiler.proofs.GuardParts.{all_of-parts, parts_within}
use Rattle.guard_compiler.proofs.WaysMeaning.{not_many}
use Rattle.guard_compiler.proofs.implicants.implicants_of.Goals as goal

pub conjunction_implicants-requires-clause-parts : goal.conjunction_implicants-requires-clause-parts
conjunction_implicants-requires-clause-parts c =
    let m = c.args.model.now in
    let same : c.args.the_move.now.guard ≡ all_of c.in-All.parts = c.in-All.is ∙ all_of-parts c.in-All.parts in
    let Within : Formula → Type 0 = λ f. is_within (length m.components) (length m.variables) f ≡ true in
    subst (All Within) (sym c.as_slice.ensures) (parts_within (length m.components) (length m.variables) c.in-All.parts (subst Within same c.requires.guard))

pub returns-in-Some-clause-every : goal.returns-in-Some-clause-every
returns-in-Some-clause-every c =
    let m = c.args.model.now in
    let move = c.args.the_move.now in
    let same : move.guard ≡ all_of c.in-All.parts = c.in-All.is ∙ all_of-parts c.in-All.parts in
    let ways : AreWays m (with_guard move (all_of c.as_slice.result.now)) c.in-Some.cubes = rw c.in-Some.is at (c.in_ok-cubes.ensures {u = tt}).ways in
    subst (λ z. AreWays m (with_guard move z) c.in-Some.cubes) (sym same) (subst (λ z. AreWays m (with_guard move (all_of z)) c.in-Some.cubes) c.as_slice.ensures ways)

pub returns-in-Some-clause-more : goal.returns-in-Some-clause-more
returns-in-Some-clause-more c =
    let few : length c.in-Some.cubes ≤ MAX_WAYS = rw c.in-Some.is at (c.in_ok-cubes.ensures {u = tt}).few in
    (λ h. absurd h, λ h. not_many c.args.model.now c.args.the_move.now c.in-Some.cubes (returns-in-Some-clause-every c) few h)
