-- What is wrong with an item, by the rows of the table of codes.
use Rattle.std.proofs.Common.{◌≡◌, ◌<◌, ◌≤◌, ℕ, true, false, List, Some, None, inl, inr, refl, sym, ◌∙◌, arith}
use Rattle.list_laws.proofs.Tests.{some_none, false_true}
use Rattle.cca_base.specs.declared.codes.TheConstants.{NAME_UNKNOWN, LIMIT, REPEATED_PAIR}
use Rattle.cca_base.specs.declared.cube.Pair.{Pair}
use Rattle.cca_base.specs.declared.limits.TheConstants.{MAX_WEIGHT}
use Rattle.cca_base.specs.PlantModel.{PlantModel}
use Rattle.text_base.specs.Pairs.{NamedPair}
use Rattle.script_reader.specs.EventCodes.{has_item_twice}
use Rattle.script_reader.specs.Named.{component_of, mode_pair, each_pair}
use Rattle.script_reader.proofs.EachPair.{goes_to, missing}
use Rattle.script_reader.proofs.NamedItems.{mode_names, named_twice, twice_named}
use Rattle.want_lines.specs.Items.{Item, Weight, At}
use Rattle.want_lines.specs.Requests.{NamesUnknown, PassesLimit, NamesTwice, Applies, IsLeastCode, IsTaken}
use Rattle.want_lines.specs.declared.request.Request.TheVariants as request

module _ (m : PlantModel) where
  -- the rows of the table, one by one
  by_row : {P : Type 0} (i : Item) (code : ℕ) → Applies m i code → (code ≡ NAME_UNKNOWN → NamesUnknown m i → P) → (code ≡ LIMIT → PassesLimit i → P) → (code ≡ REPEATED_PAIR → NamesTwice i → P) → P
  by_row i code (inl (e, h)) a b c = a e h
  by_row i code (inr (inl (e, h))) a b c = b e h
  by_row i code (inr (inr (e, h))) a b c = c e h

  pub unknown_least : (i : Item) → NamesUnknown m i → IsLeastCode m i NAME_UNKNOWN
  unknown_least i h = (inl (refl, h), λ less lt a. by_row i less a (λ c x. omega (arith, c, lt)) (λ c x. omega (arith, c, lt)) (λ c x. omega (arith, c, lt)))

  pub limit_least : (i : Item) → (NamesUnknown m i → ⊥) → PassesLimit i → IsLeastCode m i LIMIT
  limit_least i known h = (inr (inl (refl, h)), λ less lt a. by_row i less a (λ c x. known x) (λ c x. omega (arith, c, lt)) (λ c x. omega (arith, c, lt)))

  twice_least : (i : Item) → (NamesUnknown m i → ⊥) → (PassesLimit i → ⊥) → NamesTwice i → IsLeastCode m i REPEATED_PAIR
  twice_least i known within h = (inr (inr (refl, h)), λ less lt a. by_row i less a (λ c x. known x) (λ c x. within x) (λ c x. omega (arith, c, lt)))

  pub none_applies : (i : Item) → (NamesUnknown m i → ⊥) → (PassesLimit i → ⊥) → (NamesTwice i → ⊥) → (code : ℕ) → Applies m i code → ⊥
  none_applies i known within once code a = by_row i code a (λ c x. known x) (λ c x. within x) (λ c x. once x)

  -- ---- pairs

  all_known : (pairs : List NamedPair) (qs : List Pair) → each_pair (mode_pair m) pairs ≡ Some qs → NamesUnknown m (At pairs) → ⊥
  all_known pairs qs h (p, among, none) =
      let to = goes_to (mode_pair m) pairs qs p h among in
      some_none to.0 (sym to.2 ∙ none)

  pub at_unknown : (pairs : List NamedPair) → None ≡ each_pair (mode_pair m) pairs → IsLeastCode m (At pairs) NAME_UNKNOWN
  at_unknown pairs h = unknown_least (At pairs) (missing (mode_pair m) pairs (sym h))

  pub at_twice : (pairs : List NamedPair) (qs : List Pair) → Some qs ≡ each_pair (mode_pair m) pairs → has_item_twice qs ≡ true → IsLeastCode m (At pairs) REPEATED_PAIR
  at_twice pairs qs h t = twice_least (At pairs) (all_known pairs qs (sym h)) (λ x. x) (twice_named (component_of m) (mode_pair m) (mode_names m) pairs qs (sym h) t)

  pub at_taken : (pairs : List NamedPair) (qs : List Pair) → Some qs ≡ each_pair (mode_pair m) pairs → has_item_twice qs ≡ false → IsTaken m (At pairs) (request.At qs)
  at_taken pairs qs h t = (
    (qs, sym h, refl),
    none_applies (At pairs) (all_known pairs qs (sym h)) (λ x. x) (λ twice. false_true (sym t ∙ named_twice (component_of m) (mode_pair m) (mode_names m) pairs qs (sym h) twice)),
  )

  -- ---- weights

  known_pair : (pair : NamedPair) (q : Pair) → Some q ≡ mode_pair m pair → mode_pair m pair ≡ None → ⊥
  known_pair pair q h none = some_none q (h ∙ none)

  pub weight_unknown : (pair : NamedPair) (n : ℕ) → None ≡ mode_pair m pair → IsLeastCode m (Weight pair n) NAME_UNKNOWN
  weight_unknown pair n h = unknown_least (Weight pair n) (sym h)

  pub weight_great : (pair : NamedPair) (n : ℕ) (q : Pair) → Some q ≡ mode_pair m pair → MAX_WEIGHT < n → IsLeastCode m (Weight pair n) LIMIT
  weight_great pair n q h more = limit_least (Weight pair n) (known_pair pair q h) more

  pub weight_taken : (pair : NamedPair) (n : ℕ) (q : Pair) → Some q ≡ mode_pair m pair → n ≤ MAX_WEIGHT → IsTaken m (Weight pair n) (request.Weight q n)
  weight_taken pair n q h few = ((q, sym h, refl), none_applies (Weight pair n) (known_pair pair q h) (λ more. omega (arith, more, few)) (λ x. x))
