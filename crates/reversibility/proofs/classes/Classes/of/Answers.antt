use Rattle.std.proofs.Common.{List, ℕ, sym, ap, subst}
use Rattle.cca_base.specs.Accepted.{CompiledModel, IsCompiled}
use Rattle.reversibility.specs.ClassParts.{ClassParts, IsClasses, CoversState}
use Rattle.reversibility.specs.declared.taking.Taken.{Taken}
use Rattle.reversibility.proofs.Taken.{all_done_by}
use Rattle.reversibility.proofs.Promised.{base_covered}
use Rattle.reversibility.proofs.classes.Classes.of.Goals.{In_ok-copy}
use Rattle.reversibility.proofs.classes.Classes.of.Goals as goal

made : (c : In_ok-copy) → IsClasses (record { compiled = c.in_ok-clone.field-0.value; base = c.in_ok-copy.field-0.modes; rows = c.take_all.new.taken.rows; chains = c.write_chains.new.chains; mendable = c.take_all.new.taken.mendable })
made c =
    let b : CompiledModel = c.args.compiled.now.value in
    let s : List ℕ = c.args.state.now.modes in
    let taken : Taken = c.take_all.new.taken in
    let chains : List ℕ = c.write_chains.new.chains in
    let is : IsCompiled b = subst IsCompiled c.deref.ensures c.model.ensures.compiled in
    let all = all_done_by b c.deref-2.result.now c.deref-3.result.now is s taken.rows c.as_slice.result.now chains taken.mendable c.deref-2.ensures c.deref-3.ensures c.as_slice.ensures c.requires
    c.take_all.ensures c.write_chains.ensures.full c.write_chains.ensures.each in
    subst (λ x. IsClasses (record { compiled = x; base = c.in_ok-copy.field-0.modes; rows = taken.rows; chains = chains; mendable = taken.mendable })) (sym c.in_ok-clone.ensures.cases)
    (subst (λ y. IsClasses (record { compiled = b; base = y; rows = taken.rows; chains = chains; mendable = taken.mendable })) (sym (ap (λ z. z.modes) c.in_ok-copy.ensures)) all)

pub invariant_of-result : goal.invariant_of-result
invariant_of-result c = made (goal.at.invariant_of-result c).In_ok-copy

pub returns-clause-covered : goal.returns-clause-covered
returns-clause-covered c =
    let p : ClassParts = record { compiled = c.in_ok-clone.field-0.value; base = c.in_ok-copy.field-0.modes; rows = c.take_all.new.taken.rows; chains = c.write_chains.new.chains; mendable = c.take_all.new.taken.mendable } in
    subst (CoversState p) (ap (λ z. z.modes) c.in_ok-copy.ensures) (base_covered p (made (goal.at.returns-clause-covered c).In_ok-copy))
