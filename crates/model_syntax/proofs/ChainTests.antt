-- The test of chains.
use Rattle.std.proofs.Common.{◌≡◌, ◌↔◌, ◌==◌, ◌≤◌, ℕ, zero, suc, Bool, true, false, List, [], ◌∷◌, Option, Some, None, slice_index, refl, sym, ap, subst, ◌∙◌, inl, inr, arith}
use Rattle.std.specs.Option.{option_map_or}
use Rattle.std.proofs.lemmas.Bool.{cases_Bool, both_ways, cond-true, cond-false, eqb-true, eq-eqb, or_cases, or_left, or_right, false≢true}
use Rattle.std.proofs.lemmas.List.Elements.{All-contains}
use Rattle.std.proofs.lemmas.Option.{same_Some, none-some}
use Rattle.list_laws.proofs.Members.{contains_cases, contains_here, contains_there, contains_none}
use Rattle.cca_base.specs.declared.model.Move.{Move}
use Rattle.cca_base.specs.PlantModel.{PlantModel}
use Rattle.cca_base.specs.Model.{WellFormed, IsMove, HasMode, IsNext, IsInChain, RepairChain, RepairsFit, is_repair_of, mode_counts}
use Rattle.cca_base.proofs.NextModes.{repair_parts, chain_few}
use Rattle.model_syntax.specs.Codes.{next_of, leads_along, stands_in_chain}

next_there : (x : Move) (xs : List Move) (c a b : ℕ) → IsNext xs c a b → IsNext (x ∷ xs) c a b
next_there x xs c a b h = record { repair = h.repair; of_model = contains_there x h.repair xs h.of_model; mends = h.mends; target = h.target }

-- what is found is a next mode
next_found : (moves : List Move) (c a b : ℕ) → next_of moves c a ≡ Some b → IsNext moves c a b
next_found [] c a b e = absurd (none-some b e)
next_found (x ∷ xs) c a b e = elim (cases_Bool (is_repair_of c a x)) [
  | inl yes_x ↦ record {
    repair = x;
    of_model = contains_here x x xs refl;
    mends = yes_x;
    target = same_Some x.target b (sym (cond-true (is_repair_of c a x) (Some x.target) (next_of xs c a) yes_x) ∙ e);
  }
  | inr no_x ↦ next_there x xs c a b (next_found xs c a b (sym (cond-false (is_repair_of c a x) (Some x.target) (next_of xs c a) no_x) ∙ e))
]

-- and one is found where there is one
finds_next : (moves : List Move) (c a b : ℕ) → IsNext moves c a b → (d : ℕ) × (next_of moves c a ≡ Some d)
finds_next [] c a b h = absurd (contains_none h.repair h.of_model)
finds_next (x ∷ xs) c a b h = elim (cases_Bool (is_repair_of c a x)) [
  | inl yes_x ↦ (x.target, cond-true (is_repair_of c a x) (Some x.target) (next_of xs c a) yes_x)
  | inr no_x ↦ elim (contains_cases x h.repair xs h.of_model) [
    | inl e ↦ absurd (both_ways (is_repair_of c a x) no_x (ap (is_repair_of c a) e ∙ h.mends))
    | inr there ↦
        let rest = finds_next xs c a b (record { repair = h.repair; of_model = there; mends = h.mends; target = h.target }) in
        (rest.0, cond-false (is_repair_of c a x) (Some x.target) (next_of xs c a) no_x ∙ rest.1)
  ]
]

module _ (moves : List Move) (c : ℕ) where
  abbrev along : ℕ → ℕ → Option ℕ → Bool
  along n to next = option_map_or (λ b. leads_along moves c n b to) next false

  step : (n from to : ℕ) → ((b to : ℕ) → leads_along moves c n b to ≡ true → IsInChain moves c b to) → (o : Option ℕ) → next_of moves c from ≡ o → along n to o ≡ true
      → IsInChain moves c from to
  step n from to rest None is on = absurd (false≢true on)
  step n from to rest (Some b) is on = let later = rest b to on in (suc later.0, (b, next_found moves c from b is, later.1))

  pub to_chain : (n from to : ℕ) → leads_along moves c n from to ≡ true → IsInChain moves c from to
  to_chain zero from to e = (0, eqb-true from to e)
  to_chain (suc n) from to e = elim (or_cases (from == to) (along n to (next_of moves c from)) e) [
    | inl here ↦ (0, eqb-true from to here)
    | inr on ↦ step n from to (to_chain n) (next_of moves c from) refl on
  ]

  module _ (version : ℕ) (fit : RepairsFit version moves) where
    from_chain : (k n from to : ℕ) → k ≤ n → RepairChain moves c from to k → leads_along moves c n from to ≡ true
    from_chain zero zero from to few e = eq-eqb from to e
    from_chain zero (suc n) from to few e = or_left (from == to) (along n to (next_of moves c from)) (eq-eqb from to e)
    from_chain (suc k) zero from to few p = absurd (omega (arith, few))
    from_chain (suc k) (suc n) from to few p =
        let found = finds_next moves c from p.0 p.1 in
        let same : p.0 ≡ found.0 = fit.one_target c from p.0 found.0 p.1 (next_found moves c from found.0 found.1) in
        or_right (from == to) (along n to (next_of moves c from))
        (ap (along n to) found.1 ∙ from_chain k n found.0 to (omega (arith, few)) (subst (λ x. RepairChain moves c x to k) same p.2))

-- what has a next mode is a mode of the component
next_has : (m : PlantModel) → WellFormed m → (c a b : ℕ) → IsNext m.moves c a b → HasMode m c a
next_has m w c a b h =
    let parts = repair_parts c a h.repair h.mends in
    let good : IsMove m h.repair = All-contains (IsMove m) m.moves h.repair w.moves h.of_model in
    subst (λ d. HasMode m d a) parts.1 (subst (HasMode m h.repair.component) parts.2 good.source)

pub chains_are_tested : (m : PlantModel) → WellFormed m → (c from to : ℕ) → (stands_in_chain m c from to ≡ true) ↔ IsInChain m.moves c from to
chains_are_tested m w c from to = (to_chain m.moves c (slice_index (mode_counts m) c) from to, λ h. tested h.0 h.1)
  where
    tested : (k : ℕ) → RepairChain m.moves c from to k → stands_in_chain m c from to ≡ true
    tested zero e = from_chain m.moves c m.version w.repairs zero (slice_index (mode_counts m) c) from to (omega arith) e
    tested (suc k) p =
        let few = chain_few m w c from to (suc k) p (next_has m w c from p.0 p.1) in
        from_chain m.moves c m.version w.repairs (suc k) (slice_index (mode_counts m) c) from to (omega (arith, few)) p
