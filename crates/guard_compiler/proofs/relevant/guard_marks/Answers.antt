use Rattle.std.proofs.Common.{◌≡◌, ◌++◌, Bool, All, List, length, take, drop, sym, subst}
use Rattle.list_laws.proofs.Elements.{written_back}
use Rattle.cca_base.specs.Flags.{is_set}
use Rattle.guard_compiler.specs.Naming.{IsOver}
use Rattle.guard_compiler.proofs.relevant.guard_marks.Goals as goal

pub returns-clause-over : goal.returns-clause-over
returns-clause-over c =
    let old : List Bool = c.in_ok-marks.marks.items in
    let new : List Bool = c.mark_all.new.marks in
    let back : take c.in_ok-marks.marks.len (new ++ drop (length new) old) ≡ new = written_back c.in_ok-marks.marks.len old c.as_mut_slice.result.now new c.as_mut_slice.ensures.value c.as_mut_slice.ensures.len c.mark_all.auto.marks in
    subst (λ xs. All (IsOver c.args.components (is_set xs)) c.args.guard.now) (sym back) c.mark_all.ensures.over
