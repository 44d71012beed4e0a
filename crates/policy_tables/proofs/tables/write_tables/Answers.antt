use Rattle.std.proofs.Common.{◌<◌, ◌∙◌, ◌+◌, false, length, sym, ap, subst, arith}
use Rattle.std.proofs.lemmas.Option.{get_or_from_slice_get}
use Rattle.policy_tables.specs.Filling.{HasRoom}
use Rattle.policy_tables.proofs.Written.{AreWritten, written_kept, written_set}
use Rattle.policy_tables.proofs.tables.write_tables.Goals.{then-not-get, else-not-get}
use Rattle.policy_tables.proofs.tables.write_tables.Goals as goal

pub loop-c-preserved : goal.loop-c-preserved
loop-c-preserved c =
    let p = c.args.classes.now in
    let ways = c.args.ways.now in
    let flags = c.args.kept.now in
    let n = c.loop-c.c in
    let within : n < length p.compiled.model.components = omega (arith, c.loop-c-test.true, ap length c.rows-c-end.ensures.value, c.rows-c-end.ensures.classes.rows_full) in
    elim c.if-not-get.branch [
      | then-not-get w ↦ (
        written_set p ways flags c.loop-c.tables.items c.if-not-get.tables.items n w.write_cells.new.codes within (ap (λ v. v.items) w.tables-is) w.write_cells.ensures.cells c.loop-c.invariant.0,
        subst HasRoom (sym w.work-is) w.write_cells.ensures.room,
      )
      | else-not-get w ↦ (
        subst (λ t. AreWritten p ways flags t (n + 1)) (sym (ap (λ v. v.items) w.tables-is))
            (written_kept p ways flags c.loop-c.tables.items n (get_or_from_slice_get flags n c.get.result.now false c.get.ensures.value ∙ w.if-not-get.false) c.loop-c.invariant.0),
        subst HasRoom (sym w.work-is) c.loop-c.invariant.1,
      )
    ]
