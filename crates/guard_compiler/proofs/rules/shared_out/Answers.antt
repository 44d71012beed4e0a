use Rattle.std.proofs.Common.{◌≡◌, ◌++◌, ◌∙◌, List, arith, length, ap, sym, subst}
use Rattle.clause_form.specs.Clauses.{AllBelow}
use Rattle.clause_form.specs.declared.clause.Clause.{Clause}
use Rattle.guard_compiler.specs.Shared.{AreShared, AreSharedOut, unowned}
use Rattle.guard_compiler.proofs.SharedClauses.{shared_none}
use Rattle.guard_compiler.proofs.rules.shared_out.Goals as goal

pub rounds-init : goal.rounds-init
rounds-init c =
    let sizes = c.args.sizes.now in
    let given : List Clause = c.args.clauses.now in
    let same : c.in_ok-left.left.items ≡ given = c.in_ok-left.ensures in
    record {
      some = omega arith;
      few = omega arith;
      below = subst (AllBelow (length sizes)) (sym same) c.requires.below;
      shared = subst (λ z. AreSharedOut sizes c.args.components given z c.in_ok-left.left.items) (sym c.new-rules.ensures)
          (subst (AreSharedOut sizes c.args.components given _) (sym same) (shared_none sizes c.args.components given c.requires.below));
    }

pub rounds-preserved-then-branch : goal.rounds-preserved-then-branch
rounds-preserved-then-branch c = record {
  some = c.rounds.invariant.some;
  few = c.rounds.invariant.few;
  below = c.in_ok-share_round.ensures.below;
  shared = c.in_ok-share_round.ensures.shared c.args.clauses.now c.rounds.invariant.shared;
}

pub rounds-preserved : goal.rounds-preserved
rounds-preserved c = record {
  some = omega arith;
  few = omega arith;
  below = c.in_ok-share_round.ensures.below;
  shared = c.in_ok-share_round.ensures.shared c.args.clauses.now c.rounds.invariant.shared;
}

pub returns : goal.returns
returns c =
    let done : AreSharedOut c.args.sizes.now c.args.components c.args.clauses.now c.rounds.rules c.rounds.left.items = c.rounds.invariant.shared in
    subst (AreShared c.args.sizes.now c.args.components c.args.clauses.now) (sym (c.in_ok-push_left.ensures ∙ ap (λ z. c.rounds.rules ++ unowned z) c.as_slice.ensures.value)) done.shared
