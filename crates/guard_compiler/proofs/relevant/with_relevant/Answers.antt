use Rattle.std.proofs.Common.{◌≡◌, ◌++◌, ◌∙◌, Bool, List, length, All, filter, subst, sym}
use Rattle.cca_base.specs.Flags.{is_set}
use Rattle.clause_form.specs.declared.clause.Clause.{Clause}
use Rattle.guard_compiler.specs.Naming.{IsOver}
use Rattle.guard_compiler.specs.Relevant.{bears}
use Rattle.guard_compiler.specs.Rules.{AreRulesBelow, clauses_in}
use Rattle.guard_compiler.proofs.relevant.with_relevant.Goals as goal

pub marks_of-requires-clause-rules : goal.marks_of-requires-clause-rules
marks_of-requires-clause-rules c = subst (λ k. AreRulesBelow k c.args.rules.now) (sym c.len.ensures) c.requires.rules

pub add_marked-requires : goal.add_marked-requires
add_marked-requires c =
    let marks = c.in_ok-marks.marks.items in
    let subjects : length marks ≡ length c.args.guard.sizes = c.in_ok-marks.ensures.full ∙ c.len.ensures in
    subst (λ (xs : List Bool). AreRulesBelow (length xs) c.args.rules.now) (sym c.as_slice-2.ensures.value) (subst (λ k. AreRulesBelow k c.args.rules.now) (sym subjects) c.requires.rules)

pub returns-clause-relevant : goal.returns-clause-relevant
returns-clause-relevant c =
    let n = c.args.components in
    let marks = c.in_ok-marks.marks.items in
    let guard : List Clause = c.args.guard.clauses in
    record {
      set = is_set marks;
      relevant = record {
        of_guard = subst (All (IsOver n (is_set marks))) c.as_slice.ensures c.in_ok-marks.ensures.relevant.of_guard;
        closed = c.in_ok-marks.ensures.relevant.closed;
      };
      are = subst (λ xs. c.add_marked.new.clauses ≡ guard ++ clauses_in (filter (bears (is_set xs)) c.args.rules.now)) c.as_slice-2.ensures.value c.in_ok-add_marked.ensures;
    }
