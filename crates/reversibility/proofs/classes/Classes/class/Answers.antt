use Rattle.std.proofs.Common.{◌↔◌, ◌≡◌, ◌∙◌, slice_index, sym, ap, subst}
use Rattle.std.proofs.lemmas.Option.{get_or_from_slice_get}
use Rattle.reversibility.specs.ClassParts.{ClassParts, IsClasses}
use Rattle.reversibility.specs.Promises.{IsLost, IsEmptySet, IsReachOf}
use Rattle.reversibility.proofs.Promised.{reach_of, empty_lost}
use Rattle.reversibility.proofs.classes.Classes.class.Goals as goal

pub returns-clause-reach : goal.returns-clause-reach
returns-clause-reach c =
    let p : ClassParts = c.args.self.now in
    let is : IsClasses p = subst IsClasses c.self.view_is c.self.invariant in
    let row_is : c.get.result.now ≡ slice_index p.rows c.args.c = sym (get_or_from_slice_get c.self.inside.taken.rows c.args.c c.get.result.now 0 c.get.ensures.value) ∙ ap (λ (z : ClassParts). slice_index z.rows c.args.c) c.self.view_is in
    subst (IsReachOf p c.args.c) (sym row_is) (reach_of p is c.args.c)

pub returns-clause-empty : goal.returns-clause-empty
returns-clause-empty c =
    let p : ClassParts = c.args.self.now in
    let is : IsClasses p = subst IsClasses c.self.view_is c.self.invariant in
    let row_is : c.get.result.now ≡ slice_index p.rows c.args.c = sym (get_or_from_slice_get c.self.inside.taken.rows c.args.c c.get.result.now 0 c.get.ensures.value) ∙ ap (λ (z : ClassParts). slice_index z.rows c.args.c) c.self.view_is in
    subst (λ set. IsEmptySet set ↔ IsLost p c.args.c) (sym row_is) (empty_lost p is c.args.c c.requires)
