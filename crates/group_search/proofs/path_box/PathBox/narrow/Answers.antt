use Rattle.std.proofs.Common.{sym, subst, ap, ◌∙◌, arith}
use Rattle.std.proofs.lemmas.List.{get_or_default}
use Rattle.cca_base.specs.Sets.{has}
use Rattle.group_search.specs.Columns.{IsBox}
use Rattle.group_search.proofs.BoxLaws.{narrow_box}
use Rattle.group_search.proofs.path_box.PathBox.narrow.Goals as goal

pub returns-then-has_value-clause-ready : goal.returns-then-has_value-clause-ready
returns-then-has_value-clause-ready g c =
    let b = c.args.self.now in
    let read = c.get.ensures.item ∙ get_or_default b.columns.values c.args.place c.get.result.now 0 (omega (arith, c.requires.place, c.requires.ready.shape.values)) in
    subst (λ m. IsBox (g.P.Paths.means.question c.args.problem.now) (record { masks = m; columns = b.columns; stands = b.stands })) (sym c.set.ensures)
    (narrow_box (g.P.Paths.means.question c.args.problem.now) b c.args.place c.args.mask c.requires.ready c.requires.place c.requires.within c.ranges.mask.fits
    (ap (has c.args.mask) (sym read) ∙ sym c.has_value.ensures ∙ c.if-has_value.true))
