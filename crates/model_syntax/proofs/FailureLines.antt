-- What a line with a failure leads to.
use Rattle.std.proofs.Common.{◌≡◌, ℕ, ◌<◌, ◌^◌, Bool, true, false, not, cond, ◌||◌, List, length, Option, Some, None, inl, sym, ap, ◌∙◌}
use Rattle.std.specs.Prelude.{nat_le, nat_lt}
use Rattle.std.specs.Fmt.{decimal}
use Rattle.std.proofs.lemmas.Bool.{and_parts, ltb-true, leb-true, or_parts, not-false}
use Rattle.cca_base.specs.declared.limits.TheConstants.{MAX_FAILURES, MAX_COST}
use Rattle.cca_base.specs.PlantModel.{PlantModel}
use Rattle.cca_base.specs.Model.{WellFormed, HasMode, with_failure}
use Rattle.cca_base.proofs.Growth.{failure_kept}
use Rattle.model_syntax.specs.Items.{Ends}
use Rattle.model_syntax.specs.Codes.{ends_of, is_cost, failure_code, failure_code_from, new_failure}
use Rattle.model_syntax.specs.Lines.{Next, Goes, Refused, unless, with_fall, failure_next, IsNextOfNumber}
use Rattle.model_syntax.proofs.AddedParts.{below}

-- the failure's cost may not be, or there are too many
abbrev passes : PlantModel → ℕ → Bool
passes m cost = not (is_cost cost) || nat_le MAX_FAILURES (length m.failures)

failure_from : (m : PlantModel) (ends : Ends) (cost : ℕ) (o : Option (ℕ × ℕ × ℕ)) → ends_of m ends ≡ o → failure_next m ends cost ≡ unless (failure_code_from m o cost) (with_fall m o cost)
unfolding failure_code
failure_from m ends cost o e = ap (λ x. unless (failure_code_from m x cost) (with_fall m x cost)) e

module _ (m : PlantModel) (digits : List ℕ) (ends : Ends) (n : ℕ) (small : n < 2 ^ 128) (is : digits ≡ decimal n) where
  abbrev LineLeadsTo : Next → Type 0
  LineLeadsTo next = IsNextOfNumber digits (failure_next m ends) next

  leads : (next : Next) → failure_next m ends n ≡ next → LineLeadsTo next
  leads next e = inl (n, small, is, sym e)

  pub failure_unknown : None ≡ ends_of m ends → LineLeadsTo (Refused 2)
  failure_unknown e = leads (Refused 2) (failure_from m ends n None (sym e))

  pub failure_limit : (known : ℕ × ℕ × ℕ) → Some known ≡ ends_of m ends → passes m n ≡ true → LineLeadsTo (Refused 4)
  failure_limit known e p =
      leads (Refused 4) (failure_from m ends n (Some known) (sym e) ∙ ap (λ b. unless (cond b (Some 4) None) (with_failure m (new_failure known n))) p)

  pub failure_added : (known : ℕ × ℕ × ℕ) → Some known ≡ ends_of m ends → passes m n ≡ false → LineLeadsTo (Goes (with_failure m (new_failure known n)))
  failure_added known e p =
      leads (Goes (with_failure m (new_failure known n))) (failure_from m ends n (Some known) (sym e) ∙ ap (λ b. unless (cond b (Some 4) None) (with_failure m (new_failure known n))) p)

pub failure_well_formed : (m : PlantModel) (c a b n : ℕ) → WellFormed m → HasMode m c a → HasMode m c b → passes m n ≡ false → WellFormed (with_failure m (new_failure (c, a, b) n))
failure_well_formed m c a b n w source target p =
    let q = or_parts (not (is_cost n)) (nat_le MAX_FAILURES (length m.failures)) p in
    let cost = and_parts (nat_lt 0 n) (nat_le n MAX_COST) (not-false (is_cost n) q.0) in
    failure_kept m (new_failure (c, a, b) n) w (below MAX_FAILURES (length m.failures) q.1)
    (record { source = source; target = target; costs = ltb-true 0 n cost.0; cheap = leb-true n MAX_COST cost.1 })
