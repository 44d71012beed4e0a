use Rattle.std.proofs.Common.{◌↔◌, sym, subst, ◌∙◌, IsTrue}
use Rattle.cca_base.specs.Sets.{has}
use Rattle.reach_laws.specs.Classes.{Stands}
use Rattle.reversibility.specs.ClassParts.{ClassParts, in_row}
use Rattle.reversibility.proofs.Standing.{stands_chain}
use Rattle.reversibility.proofs.classes.Classes.stands.Goals as goal

pub returns-else-has-clause-value : goal.returns-else-has-clause-value
returns-else-has-clause-value c =
    let p : ClassParts = record { compiled = c.self.inside.compiled.value; base = c.self.inside.base.modes; rows = c.self.inside.taken.rows; chains = c.self.inside.chains; mendable = c.self.inside.taken.mendable } in
    let at = subst (λ (z : ClassParts). IsTrue (has c.get-else-has.result.now c.args.mode) ↔ Stands z.compiled.model z.base (in_row z.rows) c.args.component c.args.mode) c.self.view_is
    (stands_chain p c.self.invariant c.args.component c.get.result.now c.args.mode c.get.ensures.value c.get-else-has.result.now c.get-else-has.ensures.value (sym c.has.ensures ∙ c.if-has.false)) in
    ((λ t. at.0 (sym c.has-else-has.ensures ∙ t)), (λ stands. c.has-else-has.ensures ∙ at.1 stands))
