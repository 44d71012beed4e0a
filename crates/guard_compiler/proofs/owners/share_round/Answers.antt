use Rattle.std.proofs.Common.{◌≡◌, ◌<◌, List, MatchBool, length, subst, sym}
use Rattle.clause_form.specs.declared.clause.Clause.{Clause}
use Rattle.guard_compiler.proofs.SharedClauses.{fewer_still}
use Rattle.guard_compiler.proofs.owners.share_round.Goals.{then-branch, else-branch}
use Rattle.guard_compiler.proofs.owners.share_round.Goals as goal

pub loop-k-preserved : goal.loop-k-preserved
loop-k-preserved c =
    let old : List Clause = c.args.left.now.items in
    record {
      below = c.in_ok-share.ensures.below;
      fewer = elim c.if-branch.branch [
        | then-branch w ↦ rw w.found-is (fewer_still c.loop-k.found old c.loop-k.left.items c.share.new.left.items c.loop-k.invariant.fewer (rw w.if-branch.true at c.in_ok-share.ensures.fewer))
        | else-branch w ↦
            let same : c.share.new.left.items ≡ c.loop-k.left.items = rw w.if-branch.false at c.in_ok-share.ensures.fewer in
            rw w.found-is (subst (λ (z : List Clause). MatchBool c.loop-k.found (length z < length old) (z ≡ old)) (sym same) c.loop-k.invariant.fewer)
      ];
      shared = λ given h. c.in_ok-share.ensures.shared given (c.loop-k.invariant.shared given h);
    }
