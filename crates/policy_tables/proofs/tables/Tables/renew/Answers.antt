use Rattle.std.proofs.Common.{◌≡◌, ◌<◌, ◌*◌, ℕ, [], length, slice_index, slice_index_or, sym, ap, subst, ◌∙◌, arith}
use Rattle.cca_base.specs.Accepted.{CompiledModel}
use Rattle.cca_base.specs.Flags.{IsSet}
use Rattle.cca_base.specs.Model.{mode_counts}
use Rattle.cca_base.specs.Prelude.{IsState}
use Rattle.reversibility.specs.ClassParts.{ClassParts, IsClasses, CoversState}
use Rattle.policy_tables.specs.Codes.{AreSorted}
use Rattle.policy_tables.specs.Filling.{AreRightCells}
use Rattle.policy_tables.specs.Tables.{TableParts}
use Rattle.policy_tables.proofs.Kept.{flags_all, kept_right}
use Rattle.policy_tables.proofs.tables.Tables.renew.Goals as goal

pub renew-requires : goal.renew-requires
renew-requires c =
    subst (λ (b : CompiledModel). IsState b.model c.args.state.now.modes) (sym (c.self.invariant.0.same ∙ ap (λ (t : TableParts). t.classes.compiled) c.self.view_is)) c.requires

pub flag_kept-requires-clause-model : goal.flag_kept-requires-clause-model
flag_kept-requires-clause-model c = sym (c.renew.ensures.compiled ∙ c.self.invariant.0.same)

pub flag_kept-requires-clause-full : goal.flag_kept-requires-clause-full
flag_kept-requires-clause-full c = c.self.invariant.0.kept ∙ ap (λ (b : CompiledModel). length b.model.components) (flag_kept-requires-clause-model c)

-- the new classes are of the same model
model_is : (c : goal.After-write_tables-arg-5-1) → c.self.inside.classes.compiled ≡ c.swap.new.x.compiled
model_is c = sym (ap (λ (p : ClassParts). p.compiled) c.swap.ensures.x_after ∙ c.renew.ensures.compiled ∙ c.self.invariant.0.same)

pub write_tables-requires-clause-ways : goal.write_tables-requires-clause-ways
write_tables-requires-clause-ways c = subst (λ b. AreSorted b c.self.inside.ways) (model_is c) c.self.invariant.0.sorted

pub write_tables-requires-clause-room : goal.write_tables-requires-clause-room
write_tables-requires-clause-room c = record { numbers = c.self.invariant.1.numbers; ways = c.self.invariant.1.ways }

pub write_tables-requires-clause-places : goal.write_tables-requires-clause-places
write_tables-requires-clause-places c =
    let count : CompiledModel → ℕ = λ b. length b.model.components in
    record {
      full = c.self.invariant.0.filled.full ∙ ap count (model_is c);
      each = λ d lt. (c.self.invariant.0.filled.each d (subst (λ b. d < count b) (sym (model_is c)) lt)).full
          ∙ ap (λ (b : CompiledModel). slice_index (mode_counts b.model) d * slice_index (mode_counts b.model) d) (model_is c);
    }

pub write_tables-requires-clause-flags : goal.write_tables-requires-clause-flags
write_tables-requires-clause-flags c = c.flag_kept.ensures.full ∙ sym (ap (λ (p : ClassParts). length p.compiled.model.components) c.swap.ensures.x_after)

pub write_tables-requires-clause-kept : goal.write_tables-requires-clause-kept
write_tables-requires-clause-kept c =
    let p : ClassParts = c.self.inside.classes in
    let q : ClassParts = c.renew.new.self in
    let ways = c.self.inside.ways in
    let tables = c.self.inside.tables.items in
    let flags = c.flag_kept.new.flags in
    let is = c.self.invariant.0 in
    let same : p.compiled ≡ q.compiled = sym (c.renew.ensures.compiled ∙ is.same) in
    let n : ℕ = length q.compiled.model.components in
    subst (λ (z : ClassParts). (d : ℕ) → IsSet flags d → AreRightCells z ways d (slice_index_or tables d [])) (sym c.swap.ensures.x_after) (λ d set.
    let within : d < n = flags_all (λ k. k < n) flags n (omega (arith, c.flag_kept.ensures.full)) (λ k lt is_set. lt) d set in
    kept_right p q is.classes c.compiled-compiled.ensures.classes same ways d within (c.flag_kept.ensures.kept d set) (slice_index_or tables d [])
    (is.filled.each d (subst (λ (b : CompiledModel). d < length b.model.components) (sym same) within)))

pub invariant_of-self : goal.invariant_of-self
invariant_of-self c =
    let is = c.self.invariant.0 in
    let model : c.self.inside.classes.compiled ≡ c.swap.new.x.compiled = sym (ap (λ (p : ClassParts). p.compiled) c.swap.ensures.x_after ∙ c.renew.ensures.compiled ∙ is.same) in (
      record {
        classes = subst IsClasses (sym c.swap.ensures.x_after) c.compiled-compiled.ensures.classes;
        same = ap (λ (p : ClassParts). p.compiled) c.swap.ensures.y_after ∙ model;
        sorted = subst (λ b. AreSorted b c.self.inside.ways) model is.sorted;
        filled = c.write_tables.ensures.filled;
        kept = c.flag_kept.ensures.full ∙ sym (ap (λ (p : ClassParts). length p.compiled.model.components) c.swap.ensures.x_after);
      },
      c.write_tables.ensures.room,
    )

pub returns-clause-compiled : goal.returns-clause-compiled
returns-clause-compiled c =
    ap (λ (p : ClassParts). p.compiled) c.swap.ensures.x_after ∙ c.renew.ensures.compiled ∙ c.self.invariant.0.same ∙ ap (λ (t : TableParts). t.classes.compiled) c.self.view_is

pub returns-clause-base : goal.returns-clause-base
returns-clause-base c = ap (λ (p : ClassParts). p.base) c.swap.ensures.x_after ∙ c.renew.ensures.base

pub returns-clause-covers : goal.returns-clause-covers
returns-clause-covers c = subst (λ p. CoversState p c.args.state.now.modes) (sym c.swap.ensures.x_after) c.renew.ensures.covered
