-- The least cost of failures, with one failure more.
use Rattle.std.proofs.Common.{◌≡◌, ◌≤◌, ℕ, List, [], ◌∷◌, ◌++◌, min, Option, Some, None, Contains, ap, subst, inl, inr, arith}
use Rattle.std.proofs.lemmas.Bool.{cases_lt}
use Rattle.std.proofs.lemmas.List.Elements.{Contains-append_left, Contains-push, Contains-push_cases}
use Rattle.cca_base.specs.declared.model.Failure.{Failure}
use Rattle.cca_base.specs.LeastCosts.{failing, lesser_of, IsLeast}

module _ (failures : List Failure) (x : Failure) (c from to : ℕ) where
  -- a failure of this kind
  pub least_more : (known : Option ℕ) → x.component ≡ c → x.source ≡ from → x.target ≡ to → IsLeast failures c from to known
      → IsLeast (failures ++ x ∷ []) c from to (Some (lesser_of known x.cost))
  least_more None own leaves leads none =
      let is : x ≡ failing c from to x.cost = λ i. record { component = own i; source = leaves i; target = leads i; cost = x.cost } in (
        subst (Contains (failures ++ x ∷ [])) is (Contains-push failures x),
        λ cost among. elim (Contains-push_cases failures x (failing c from to cost) among) [
          | inl before ↦ absurd (none cost before)
          | inr e ↦ omega (arith, ap (λ (f : Failure). f.cost) e)
        ],
      )
  least_more (Some known) own leaves leads (has, least) =
      let is : x ≡ failing c from to x.cost = λ i. record { component = own i; source = leaves i; target = leads i; cost = x.cost } in (
        elim (cases_lt known x.cost) [
          | inl below ↦
              let e : known ≡ min known x.cost = omega arith in
              subst (λ k. Contains (failures ++ x ∷ []) (failing c from to k)) e (Contains-append_left failures (x ∷ []) (failing c from to known) has)
          | inr above ↦
              let e : x.cost ≡ min known x.cost = omega arith in
              subst (λ k. Contains (failures ++ x ∷ []) (failing c from to k)) e (subst (Contains (failures ++ x ∷ [])) is (Contains-push failures x))
        ],
        λ cost among. elim (Contains-push_cases failures x (failing c from to cost) among) [
          | inl before ↦ (let low : known ≤ cost = least cost before in omega arith)
          | inr e ↦ omega (arith, ap (λ (f : Failure). f.cost) e)
        ],
      )

  -- a failure of another kind
  pub least_same : (known : Option ℕ) → ((cost : ℕ) → x ≡ failing c from to cost → ⊥) → IsLeast failures c from to known → IsLeast (failures ++ x ∷ []) c from to known
  least_same None other none = λ cost among. elim (Contains-push_cases failures x (failing c from to cost) among) [
    | inl before ↦ none cost before
    | inr e ↦ other cost e
  ]
  least_same (Some known) other (has, least) = (
    Contains-append_left failures (x ∷ []) (failing c from to known) has,
    λ cost among. elim (Contains-push_cases failures x (failing c from to cost) among) [
      | inl before ↦ least cost before
      | inr e ↦ absurd (other cost e)
    ],
  )
