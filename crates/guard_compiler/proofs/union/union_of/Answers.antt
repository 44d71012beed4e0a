use Rattle.std.proofs.Common.{rules, ◌≡◌, ◌<◌, ◌==◌, ◌++◌, ◌⊎◌, ℕ, false, List, length, drop, inl, inr, subst, sym, arith}
use Rattle.std.proofs.lemmas.Bool.{cases_order, both_ways, eq-eqb}
use Rattle.cca_base.specs.declared.cube.Pair.{Pair}
use Rattle.cca_base.specs.Cube.{IsRising}
use Rattle.guard_compiler.specs.Cover.{IsLeastOver}
use Rattle.guard_compiler.proofs.Merged.{IsMerged, all_merged, both_first, left_first, may_push_left, may_push_right, none_over, right_first}
use Rattle.guard_compiler.proofs.union.union_of.Goals as goal
use Rattle.guard_compiler.proofs.union.union_of.Goals.{then-loop-p-test+else-not-is_empty, else-loop-p-test}

some : (n : ℕ) → false ≡ (n == 0) → 0 < n
some n h = elim (cases_order n 0) [
  | inl e ↦ absurd (both_ways (n == 0) (sym h) (eq-eqb n 0 e))
  | inr (inl below) ↦ absurd (omega arith)
  | inr (inr above) ↦ above
]

-- what a step makes of what was merged and left
step : (a b old new left right rest others : List Pair) → new ≡ old → rest ≡ left → others ≡ right → IsMerged a b old left right → IsMerged a b new rest others
step a b old new left right rest others e f g m =
    subst (λ z. IsMerged a b z rest others) (sym e) (subst (λ z. IsMerged a b old z others) (sym f) (subst (IsMerged a b old left) (sym g) m))

pub push-requires : goal.push-requires
push-requires c =
    may_push_left c.args.first.now c.args.second.now c.loop-p.union c.loop-p.left.now c.loop-p.right.now (record { item = 0; value = 0 }) c.loop-p.invariant
    (some (length c.loop-p.left.now) (c.loop-p-test.ensures {u = tt})) (some (length c.loop-p.right.now) (c.if-not-is_empty.ensures {u = tt}))

pub loop-p-preserved-then-p-q : goal.loop-p-preserved-then-p-q
loop-p-preserved-then-p-q c =
    step c.args.first.now c.args.second.now _ _ (drop 1 c.loop-p.left.now) c.loop-p.right.now _ _ (search rules) c.rest_of-left.ensures (λ i. c.loop-p.right.now)
    (left_first c.args.first.now c.args.second.now c.loop-p.union c.loop-p.left.now c.loop-p.right.now (record { item = 0; value = 0 }) c.loop-p.invariant
    (some (length c.loop-p.left.now) (c.loop-p-test.ensures {u = tt})) (some (length c.loop-p.right.now) (c.if-not-is_empty.ensures {u = tt})) c.if-p-q.true)

pub push-requires-then-q-p : goal.push-requires-then-q-p
push-requires-then-q-p c =
    may_push_right c.args.first.now c.args.second.now c.loop-p.union c.loop-p.left.now c.loop-p.right.now (record { item = 0; value = 0 }) c.loop-p.invariant
    (some (length c.loop-p.left.now) (c.loop-p-test.ensures {u = tt})) (some (length c.loop-p.right.now) (c.if-not-is_empty.ensures {u = tt}))

pub loop-p-preserved-then-q-p : goal.loop-p-preserved-then-q-p
loop-p-preserved-then-q-p c =
    step c.args.first.now c.args.second.now _ _ c.loop-p.left.now (drop 1 c.loop-p.right.now) _ _ (search rules) (λ i. c.loop-p.left.now) c.rest_of-right.ensures
    (right_first c.args.first.now c.args.second.now c.loop-p.union c.loop-p.left.now c.loop-p.right.now (record { item = 0; value = 0 }) c.loop-p.invariant
    (some (length c.loop-p.left.now) (c.loop-p-test.ensures {u = tt})) (some (length c.loop-p.right.now) (c.if-not-is_empty.ensures {u = tt})) c.if-q-p.true)

pub push-requires-then-p-q-2 : goal.push-requires-then-p-q-2
push-requires-then-p-q-2 c =
    may_push_left c.args.first.now c.args.second.now c.loop-p.union c.loop-p.left.now c.loop-p.right.now (record { item = 0; value = 0 }) c.loop-p.invariant
    (some (length c.loop-p.left.now) (c.loop-p-test.ensures {u = tt})) (some (length c.loop-p.right.now) (c.if-not-is_empty.ensures {u = tt}))

pub loop-p-preserved : goal.loop-p-preserved
loop-p-preserved c =
    step c.args.first.now c.args.second.now _ _ (drop 1 c.loop-p.left.now) (drop 1 c.loop-p.right.now) _ _ (search rules) (search rules) (search rules)
    (both_first c.args.first.now c.args.second.now c.loop-p.union c.loop-p.left.now c.loop-p.right.now (record { item = 0; value = 0 }) c.loop-p.invariant
    (some (length c.loop-p.left.now) (c.loop-p-test.ensures {u = tt})) (some (length c.loop-p.right.now) (c.if-not-is_empty.ensures {u = tt})) (omega arith) (search rules))

pub returns-else-p-q-2 : goal.returns-else-p-q-2
returns-else-p-q-2 c =
    none_over c.args.first.now c.args.second.now c.loop-p.union c.loop-p.left.now c.loop-p.right.now (record { item = 0; value = 0 }) c.loop-p.invariant
    (some (length c.loop-p.left.now) (c.loop-p-test.ensures {u = tt})) (some (length c.loop-p.right.now) (c.if-not-is_empty.ensures {u = tt})) (omega arith) (search rules)

pub push_all-requires-2 : goal.push_all-requires-2
push_all-requires-2 c =
    let one : c.push_all.new.cube ≡ c.loop-p.union ++ c.loop-p.left.now = search rules in
    let ended : (length c.loop-p.left.now ≡ 0) ⊎ (length c.loop-p.right.now ≡ 0) = elim c.loop-p-test.branch [
      | then-loop-p-test+else-not-is_empty w ↦ inr (search rules)
      | else-loop-p-test w ↦ inl (search rules)
    ]
    in
    subst (λ z. IsRising (z ++ c.loop-p.right.now)) (sym one)
    (all_merged c.args.first.now c.args.second.now c.loop-p.union c.loop-p.left.now c.loop-p.right.now c.loop-p.invariant ended).over.rising

pub returns : goal.returns
returns c =
    let one : c.push_all.new.cube ≡ c.loop-p.union ++ c.loop-p.left.now = search rules in
    let two : c.push_all-2.new.cube ≡ c.push_all.new.cube ++ c.loop-p.right.now = search rules in
    let ended : (length c.loop-p.left.now ≡ 0) ⊎ (length c.loop-p.right.now ≡ 0) = elim c.loop-p-test.branch [
      | then-loop-p-test+else-not-is_empty w ↦ inr (search rules)
      | else-loop-p-test w ↦ inl (search rules)
    ]
    in
    subst (IsLeastOver c.args.first.now c.args.second.now) (sym two)
    (subst (λ z. IsLeastOver c.args.first.now c.args.second.now (z ++ c.loop-p.right.now)) (sym one)
    (all_merged c.args.first.now c.args.second.now c.loop-p.union c.loop-p.left.now c.loop-p.right.now c.loop-p.invariant ended))
