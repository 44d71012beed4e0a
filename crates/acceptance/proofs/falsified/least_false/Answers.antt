use Rattle.std.proofs.Common.{◌≡◌, length, subst, arith}
use Rattle.acceptance.proofs.FirstFalsified.{IsLeastTo, all_subjects, always_met}
use Rattle.acceptance.proofs.falsified.least_false.Goals as goal

pub returns-in-None : goal.returns-in-None
returns-in-None c = always_met _ _ c.loop-subject.subject c.loop-subject-test.true (rw c.as_slice.ensures at c.in-None.ensures.none)

pub returns : goal.returns
returns c =
    let whole : c.loop-subject.subject ≡ length c.args.sizes.now = omega (arith, c.loop-subject-test.false, c.loop-subject.auto.subject-end) in
    all_subjects _ _ _ c.requires (subst (λ n. IsLeastTo c.args.sizes.now c.args.clause.now.literals n c.loop-subject.modes) whole c.loop-subject.invariant)
