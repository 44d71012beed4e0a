use Rattle.std.proofs.Common.{Bool, List, length, subst, sym}
use Rattle.guard_compiler.specs.Rules.{AreRulesBelow}
use Rattle.guard_compiler.proofs.relevant.marks_of.Goals as goal

pub spread-requires : goal.spread-requires
spread-requires c =
    subst (λ (xs : List Bool). AreRulesBelow (length xs) c.args.rules.now) (sym c.as_mut_slice.ensures.value)
    (subst (λ k. AreRulesBelow k c.args.rules.now) (sym c.rounds.invariant.full) c.requires.rules)
