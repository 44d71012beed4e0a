use Rattle.std.proofs.Common.{◌≡◌, ◌↔◌, ◌∙◌, IsTrue, false, sym, ap, subst}
use Rattle.std.proofs.lemmas.Option.{get_or_from_slice_get}
use Rattle.cca_base.specs.Flags.{is_set}
use Rattle.reversibility.specs.ClassParts.{ClassParts, IsClasses}
use Rattle.reversibility.specs.Promises.{IsMendable}
use Rattle.reversibility.proofs.classes.Classes.mendable.Goals as goal

pub returns-clause-mendable : goal.returns-clause-mendable
returns-clause-mendable c =
    let p : ClassParts = c.args.self.now in
    let is : IsClasses p = subst IsClasses c.self.view_is c.self.invariant in
    let flag_is : c.get.result.now ≡ is_set p.mendable c.args.c =
    sym (get_or_from_slice_get c.self.inside.taken.mendable c.args.c c.get.result.now false c.get.ensures.value) ∙ ap (λ (z : ClassParts). is_set z.mendable c.args.c) c.self.view_is in
    subst (λ flag. IsTrue flag ↔ IsMendable p c.args.c) (sym flag_is) (is.mendable c.args.c c.requires)
