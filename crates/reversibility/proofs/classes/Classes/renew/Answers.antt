use Rattle.std.proofs.Common.{List, ℕ, sym, subst}
use Rattle.cca_base.specs.Accepted.{CompiledModel}
use Rattle.cca_base.specs.State.{IsState}
use Rattle.reversibility.specs.ClassParts.{ClassParts, IsClasses, CoversState}
use Rattle.reversibility.specs.declared.taking.Taken.{Taken}
use Rattle.reversibility.proofs.Taken.{all_done_by}
use Rattle.reversibility.proofs.Promised.{base_covered}
use Rattle.reversibility.proofs.classes.Classes.renew.Goals as goal

pub invariant_of-self : goal.invariant_of-self
invariant_of-self c =
    let b : CompiledModel = c.self.inside.compiled.value in
    let s : List ℕ = c.args.state.now.modes in
    let taken : Taken = c.take_all.new.taken in
    let chains : List ℕ = c.write_chains.new.chains in
    let state : IsState b.model s = subst (λ (z : ClassParts). IsState z.compiled.model s) (sym c.self.view_is) c.requires in
    let made = all_done_by b c.deref.result.now c.deref-2.result.now c.self.invariant.compiled s taken.rows c.as_slice-rows.result.now chains taken.mendable c.deref.ensures c.deref-2.ensures c.as_slice-rows.ensures state
    c.take_all.ensures c.write_chains.ensures.full c.write_chains.ensures.each in
    subst (λ y. IsClasses (record { compiled = b; base = y; rows = taken.rows; chains = chains; mendable = taken.mendable })) (sym c.write_state.ensures) made

pub returns-clause-covered : goal.returns-clause-covered
returns-clause-covered c =
    let p : ClassParts = record { compiled = c.self.inside.compiled.value; base = c.write_state.new.state.modes; rows = c.take_all.new.taken.rows; chains = c.write_chains.new.chains; mendable = c.take_all.new.taken.mendable } in
    subst (CoversState p) c.write_state.ensures (base_covered p (invariant_of-self c))
