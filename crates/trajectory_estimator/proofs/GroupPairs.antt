-- Pairs of components that pass a test, taken component by component.
use Rattle.std.proofs.Common.{◌≡◌, ℕ, ◌+◌, ◌<◌, Bool, true, false, inl, inr, List, [], ◌∷◌, ◌++◌, All, Contains, sym, ap, subst, ◌∙◌, arith}
use Rattle.std.proofs.lemmas.Bool.{both_ways}
use Rattle.std.proofs.lemmas.List.Elements.{All-push, All-weaker, Contains-append_left, Contains-push}
use Rattle.cca_base.proofs.CubeLaws.{IsCube-push}
use Rattle.list_laws.proofs.Orders.{below_next}
use Rattle.cca_base.specs.Cube.{IsCube}
use Rattle.cca_base.specs.declared.cube.Pair.{Pair}

module _ (test : ℕ → Bool) (mode : ℕ → ℕ) where
  -- exactly the pairs of those components before a place that pass the test, each with its mode
  pub record AreBefore (n : ℕ) (pairs : List Pair) : Type 0 where
    pub cube : IsCube pairs
    pub own : All (λ p. (p.item < n) × (test p.item ≡ true) × (p.value ≡ mode p.item)) pairs
    pub whole : (c : ℕ) → c < n → test c ≡ true → Contains pairs (record { item = c; value = mode c })

  module _ (n : ℕ) (pairs : List Pair) (h : AreBefore n pairs) where
    pub one_less : test n ≡ false → AreBefore (n + 1) pairs
    one_less fails = record {
      cube = h.cube;
      own = All-weaker (λ (p : Pair). (p.item < n) × (test p.item ≡ true) × (p.value ≡ mode p.item)) (λ (p : Pair). (p.item < n + 1) × (test p.item ≡ true) × (p.value ≡ mode p.item))
          (λ p own. (omega (arith, own.0), own.1, own.2)) pairs h.own;
      whole = λ c within pass. elim (below_next c n (omega (arith, within))) [
        | inl below ↦ h.whole c below pass
        | inr same ↦ absurd (both_ways (test n) fails (ap test (sym same) ∙ pass))
      ];
    }

    pub one_more : (value : ℕ) (new : List Pair) → test n ≡ true → value ≡ mode n → new ≡ pairs ++ (record { item = n; value = value }) ∷ [] → AreBefore (n + 1) new
    one_more value new passes is put =
        let x : Pair = record { item = n; value = value } in
        subst (AreBefore (n + 1)) (sym put) (record {
          cube = IsCube-push pairs x h.cube (λ k d less same. omega (arith, (h.own k d less).0, same));
          own = All-push (λ (p : Pair). (p.item < n + 1) × (test p.item ≡ true) × (p.value ≡ mode p.item)) pairs x
              (All-weaker (λ (p : Pair). (p.item < n) × (test p.item ≡ true) × (p.value ≡ mode p.item)) (λ (p : Pair). (p.item < n + 1) × (test p.item ≡ true) × (p.value ≡ mode p.item))
              (λ p own. (omega (arith, own.0), own.1, own.2)) pairs h.own)
              (omega arith, passes, is);
          whole = λ c within pass. elim (below_next c n (omega (arith, within))) [
            | inl below ↦ Contains-append_left pairs (x ∷ []) (record { item = c; value = mode c }) (h.whole c below pass)
            | inr same ↦ subst (λ k. Contains (pairs ++ x ∷ []) (record { item = k; value = mode k })) (sym same)
                (subst (λ v. Contains (pairs ++ x ∷ []) (record { item = n; value = v })) is (Contains-push pairs x))
          ];
        })
