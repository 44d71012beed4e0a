use Rattle.std.proofs.Common.{◌≡◌, ◌≤◌, ◌∙◌, true, All, length, subst, sym}
use Rattle.cca_base.specs.declared.formula.Formula.{Formula}
use Rattle.cca_base.specs.Formula.{is_within}
use Rattle.guard_compiler.specs.Conjunctions.{all_of}
use Rattle.guard_compiler.specs.Wishes.{AreImplicants}
use Rattle.guard_compiler.proofs.GuardParts.{all_of-parts, parts_within}
use Rattle.guard_compiler.proofs.WishMeaning.{not_many_implicants}
use Rattle.guard_compiler.proofs.wishes.wish_implicants.Goals as goal

pub wish_by_parts-requires-clause-parts : goal.wish_by_parts-requires-clause-parts
wish_by_parts-requires-clause-parts c =
    let m = c.args.model.now in
    let same : c.args.formula.now ≡ all_of c.in-All.parts = c.in-All.is ∙ all_of-parts c.in-All.parts in
    let Within : Formula → Type 0 = λ f. is_within (length m.components) (length m.variables) f ≡ true in
    subst (All Within) (sym c.as_slice.ensures) (parts_within (length m.components) (length m.variables) c.in-All.parts (subst Within same c.requires.formula))

pub returns-in-Some-clause-every : goal.returns-in-Some-clause-every
returns-in-Some-clause-every c =
    let m = c.args.model.now in
    let same : c.args.formula.now ≡ all_of c.in-All.parts = c.in-All.is ∙ all_of-parts c.in-All.parts in
    let are : AreImplicants m (all_of c.as_slice.result.now) c.in-Some.cubes = rw c.in-Some.is at (c.in_ok-cubes.ensures {u = tt}).implicants in
    subst (λ z. AreImplicants m z c.in-Some.cubes) (sym same) (subst (λ z. AreImplicants m (all_of z) c.in-Some.cubes) c.as_slice.ensures are)

pub returns-in-Some-clause-more : goal.returns-in-Some-clause-more
returns-in-Some-clause-more c =
    let few : length c.in-Some.cubes ≤ c.args.most = rw c.in-Some.is at (c.in_ok-cubes.ensures {u = tt}).few in
    (λ h. absurd h, λ h. not_many_implicants c.args.model.now c.args.formula.now c.args.most c.in-Some.cubes (returns-in-Some-clause-every c) few h)
