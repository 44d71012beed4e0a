-- Sets of the modes of rows.
use Rattle.std.proofs.Common.{◌≡◌, ℕ, ◌+◌, ◌<◌, true, inl, inr, List, [], length, get_or, set, Contains, sym, ap, subst, ◌∙◌, arith, get_or-set_same, get_or-set_other}
use Rattle.std.proofs.lemmas.List.{length-set}
use Rattle.list_laws.proofs.Orders.{below_next}
use Rattle.cca_base.specs.Sets.{has}
use Rattle.cca_base.specs.declared.choice.Choice.{Choice}
use Rattle.cca_base.specs.declared.limits.TheConstants.{MAX_CHOICES}

-- the set has the modes of the row
abbrev pub HasModes : List Choice → ℕ → Type 0
HasModes row mask = (x : Choice) → Contains row x → x.mode < MAX_CHOICES → has mask x.mode ≡ true

module _ (rows : List (List Choice)) (masks new : List ℕ) (i mask : ℕ) (row : List Choice) (put : new ≡ set masks i mask) (inside : i < length masks) (here : get_or rows i [] ≡ row) where
  pub masks_long : length new ≡ length masks
  masks_long = ap length put ∙ length-set masks i mask

  pub masks_more : ((c : ℕ) → c < i → HasModes (get_or rows c []) (get_or masks c 0)) → HasModes row mask → (c : ℕ) → c < i + 1 → HasModes (get_or rows c []) (get_or new c 0)
  masks_more each own c less = elim (below_next c i less) [
    | inl before ↦ subst (HasModes (get_or rows c [])) (sym (ap (λ l. get_or l c 0) put ∙ get_or-set_other masks i c mask 0 (λ e. omega (arith, e, before)))) (each c before)
    | inr same ↦
        let word : get_or new c 0 ≡ mask = ap (λ l. get_or l c 0) put ∙ ap (λ k. get_or (set masks i mask) k 0) same ∙ get_or-set_same masks i mask 0 inside in
        subst (HasModes (get_or rows c [])) (sym word) (subst (λ r. HasModes r mask) (sym (ap (λ k. get_or rows k []) same ∙ here)) own)
  ]
