-- Open chains: the broken modes that open repairs lead to.
use Rattle.std.proofs.Common.{◌≡◌, ◌<◌, ◌+◌, ◌⊎◌, ◌↔◌, ◌==◌, ◌||◌, ℕ, zero, suc, true, false, List, length, slice_index, slice_set, refl, sym, subst, ◌∙◌, inl, inr, arith, get_or-set_same, get_or-set_other}
use Rattle.std.proofs.lemmas.Bool.{cases_lt, both_ways, or_cases, or_left, or_right, eqb-true, eq-eqb}
use Rattle.std.proofs.lemmas.List.Elements.{All-contains}
use Rattle.cca_base.specs.declared.limits.TheConstants.{MAX_CHOICES}
use Rattle.cca_base.specs.PlantModel.{PlantModel}
use Rattle.cca_base.specs.Model.{WellFormed, IsNext, is_broken}
use Rattle.cca_base.specs.Sets.{has}
use Rattle.cca_base.proofs.NextModes.{repair_parts, chain_short}
use Rattle.cca_base.proofs.StateLaws.{sources_are_small}
use Rattle.reach_laws.specs.Classes.{Test, OpenRepairs}
use Rattle.reach_laws.proofs.Facts.{RepairRules, repairs_join}
use Rattle.reach_laws.proofs.Order.{repair_rules}
use Rattle.reach_laws.proofs.Walk.{mended_by, repairs_from}
use Rattle.reversibility.specs.Chains.{LeavesMode, IsOpenChain, AreOpenChains}

-- what has a next mode is a number that a set can hold
pub small_source : (m : PlantModel) → WellFormed m → (c a b : ℕ) → IsNext m.moves c a b → a < MAX_CHOICES
small_source m w c a b h =
    subst (λ x. x < MAX_CHOICES) (repair_parts c a h.repair h.mends).2 (All-contains (λ x. x.source < MAX_CHOICES) m.moves h.repair (sources_are_small m w) h.of_model)

module _ (m : PlantModel) (w : WellFormed m) (member : Test) (c from : ℕ) where
  abbrev rules : RepairRules m
  rules = repair_rules m w

  -- the broken modes that fewer than n open repairs lead to
  abbrev pub Before : ℕ → ℕ → Type 0
  Before n x = (is_broken m.moves c x ≡ true) × ((k : ℕ) × (k < n) × OpenRepairs m member c from x k)

  past : (a at x n k : ℕ) → OpenRepairs m member c a at n → OpenRepairs m member c a x k → (k < n) ⊎ ((j : ℕ) × (k ≡ n + j) × OpenRepairs m member c at x j)
  past a at x zero k e q = inr (k, omega arith, subst (λ y. OpenRepairs m member c y x k) e q)
  past a at x (suc n) zero p e = inl (omega arith)
  past a at x (suc n) (suc k) p q =
      let same : q.0 ≡ p.0 = rules.one_target c a q.0 p.0 (mended_by m member rules c a q.0 q.1 q.2) (mended_by m member rules c a p.0 p.1 p.2) in
      elim (past p.0 at x n k p.3 (subst (λ y. OpenRepairs m member c y x k) same q.3)) [
        | inl less ↦ inl (omega (arith, less))
        | inr more ↦ let e = more.1 in inr (more.0, omega (arith, e), more.2)
      ]

  pub short : (at n : ℕ) → OpenRepairs m member c from at n → n < MAX_CHOICES
  short at n p = chain_short m w c from at n (repairs_from m member rules c from at n p)

  -- the walk stands where no repair leaves
  pub ends_sound : (at n chain : ℕ) → OpenRepairs m member c from at n → ((x : ℕ) → (has chain x ≡ true) ↔ Before n x) → is_broken m.moves c at ≡ false
      → IsOpenChain m member c from chain
  ends_sound at n chain way is sound x = (
    (λ h. let b = (is x).0 h in (b.0, (b.1.0, b.1.2))),
    (λ h. elim (past from at x n h.1.0 way h.1.1) [
      | inl less ↦ (is x).1 (h.0, (h.1.0, less, h.1.1))
      | inr more ↦ absurd (on more.0 more.2 h.0)
    ]),
  )
    where
      on : (j : ℕ) → OpenRepairs m member c at x j → is_broken m.moves c x ≡ true → ⊥
      on zero e broken = both_ways (is_broken m.moves c at) sound (subst (λ y. is_broken m.moves c y ≡ true) (sym e) broken)
      on (suc j) q broken = both_ways (is_broken m.moves c at) sound q.1

  module _ (at n chain more : ℕ) (way : OpenRepairs m member c from at n) (is : (x : ℕ) → (has chain x ≡ true) ↔ Before n x) (broken : is_broken m.moves c at ≡ true)
      (with_at : (x : ℕ) → has more x ≡ (x == at || has chain x)) where
    -- one mode more
    pub one_more : (x : ℕ) → (has more x ≡ true) ↔ Before (n + 1) x
    one_more x = (
      (λ h. elim (or_cases (x == at) (has chain x) (sym (with_at x) ∙ h)) [
        | inl same ↦
            let e : x ≡ at = eqb-true x at same in
            (subst (λ y. is_broken m.moves c y ≡ true) (sym e) broken, (n, omega arith, subst (λ y. OpenRepairs m member c from y n) (sym e) way))
        | inr old ↦ let b = (is x).0 old in let less = b.1.1 in (b.0, (b.1.0, omega (arith, less), b.1.2))
      ]),
      (λ h. elim (past from at x n h.1.0 way h.1.2) [
        | inl less ↦ with_at x ∙ or_right (x == at) (has chain x) ((is x).1 (h.0, (h.1.0, less, h.1.2)))
        | inr past_at ↦ here past_at.0 (let e = past_at.1 in let less = h.1.1 in omega (arith, e, less)) past_at.2
      ]),
    )
      where
        here : (j : ℕ) → j < 1 → OpenRepairs m member c at x j → has more x ≡ true
        here zero less e = with_at x ∙ or_left (x == at) (has chain x) (eq-eqb x at (sym e))
        here (suc j) less q = absurd (omega (arith, less))

    -- no open move leaves the mode: that is the end
    pub ends_here : (LeavesMode m member c at → ⊥) → IsOpenChain m member c from more
    ends_here none x = (
      (λ h. let b = (one_more x).0 h in (b.0, (b.1.0, b.1.2))),
      (λ h. elim (past from at x n h.1.0 way h.1.1) [
        | inl less ↦ (one_more x).1 (h.0, (h.1.0, omega (arith, less), h.1.1))
        | inr past_at ↦ here past_at.0 past_at.2
      ]),
    )
      where
        here : (j : ℕ) → OpenRepairs m member c at x j → has more x ≡ true
        here zero e = with_at x ∙ or_left (x == at) (has chain x) (eq-eqb x at (sym e))
        here (suc j) q = absurd (none (q.0, q.2))

    -- an open move leaves it: the walk goes on
    pub goes_on : (next : ℕ) → IsNext m.moves c at next → LeavesMode m member c at → OpenRepairs m member c from next (n + 1)
    goes_on next is_next leaves =
        let same : leaves.0 ≡ next = rules.one_target c at leaves.0 next (mended_by m member rules c at leaves.0 broken leaves.1) is_next in
        subst (λ y. OpenRepairs m member c from y (n + 1)) same
        (repairs_join m member c from at leaves.0 n 1 way (leaves.0, broken, leaves.1, refl))

-- one chain more
pub chains_set : (m : PlantModel) (base : List ℕ) (member : Test) (chains : List ℕ) (set n mode : ℕ) → n < length chains → slice_index base n ≡ mode → AreOpenChains m base member chains n
    → IsOpenChain m member n mode set → AreOpenChains m base member (slice_set chains n set) (n + 1)
chains_set m base member chains set n mode within at each own u less = elim (cases_lt u n) [
  | inl before ↦ subst (IsOpenChain m member u (slice_index base u)) (sym (get_or-set_other chains n u set 0 (λ e. absurd (omega (arith, before, e))))) (each u before)
  | inr last ↦
      let same : n ≡ u = omega (arith, less, last) in
      subst (λ k. IsOpenChain m member k (slice_index base k) (slice_index (slice_set chains n set) k)) same
      (subst (IsOpenChain m member n (slice_index base n)) (sym (get_or-set_same chains n set 0 within)) (subst (λ y. IsOpenChain m member n y set) (sym at) own))
]
