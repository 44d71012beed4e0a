use Rattle.std.proofs.Common.{◌≡◌, ◌⊎◌, length, Contains, inl, inr, sym, ap, subst, ◌∙◌, arith}
use Rattle.std.proofs.lemmas.List.{length-set}
use Rattle.group_search.proofs.StoreLaws.{set_cases}
use Rattle.group_search.proofs.store.insert.Goals as goal

pub loop-behind-preserved : goal.loop-behind-preserved
loop-behind-preserved c =
    let was = c.loop-behind.order.items in let kept = c.loop-behind.invariant in record {
      long = ap length c.set.ensures.items ∙ length-set was _ _ ∙ kept.long;
      room = c.set.ensures.room ∙ kept.room;
      members = λ x among. elim (set_cases was _ _ x (subst (λ l. Contains l x) c.set.ensures.items among)) [
        | inl before ↦ kept.members x before
        | inr same ↦
            let here : Contains was c.get-moved.result.now = (_, omega (arith, kept.long, c.len-len.ensures.len, c.requires.at, c.loop-behind-test.true), sym c.get-moved.ensures.item) in
            subst (λ y. Contains c.args.order.now.items y ⊎ (y ≡ c.args.slot)) (sym same) (kept.members c.get-moved.result.now here)
      ];
    }

pub returns-clause-members : goal.returns-clause-members
returns-clause-members c = λ x among. elim (set_cases c.loop-behind.order.items _ _ x (subst (λ l. Contains l x) c.set-2.ensures.items among)) [
  | inl before ↦ c.loop-behind.invariant.members x before
  | inr same ↦ inr same
]
