-- What suffices for a move has a minimal part.
use Rattle.std.proofs.Common.{◌≡◌, ◌<◌, ◌≤◌, ◌+◌, ◌⊎◌, ◌≢◌, ◌==◌, ℕ, not, List, [], ◌∷◌, length, get_or, slice_get, Some, Contains, filter, refl, sym, ap, subst, ◌∙◌, inl, inr, arith, zero, suc}
use Rattle.std.specs.List.{AllPairs}
use Rattle.std.proofs.lemmas.Bool.{cases_order, eq-eqb, ne_eqb, not_from_false, not_from_true}
use Rattle.std.proofs.lemmas.List.{get_or_default}
use Rattle.std.proofs.lemmas.List.Elements.{All-contains}
use Rattle.std.proofs.lemmas.List.Kept.{AllPairs-cons, AllPairs-filter}
use Rattle.list_laws.proofs.Kept.{filter_less}
use Rattle.list_laws.proofs.Members.{all_from, contains_cases, contains_here, contains_there, contains_none, to_filter, from_filter}
use Rattle.cca_base.specs.declared.cube.Pair.{Pair}
use Rattle.cca_base.specs.declared.model.Move.{Move}
use Rattle.cca_base.specs.PlantModel.{PlantModel}
use Rattle.cca_base.specs.Cube.{IsPart}
use Rattle.cca_base.specs.Model.{HasMode}
use Rattle.cca_base.specs.Implicants.{Suffices, PrimeImplicant, source_pair}
use Rattle.cca_base.specs.Repairs.{pairs_from}
use Rattle.cca_laws.specs.Conditions.{SufficientCubesHavePrimes}
use Rattle.cca_base.proofs.Members.{from_pairs}
use Rattle.cca_laws.proofs.Decided.{dec_follows, dec_equal}

-- one element for which it holds, or none
pub search_list : {X : Type 0} (A : X → Type 0) → ((x : X) → Dec (A x)) → (xs : List X)
    → ((x : X) × Contains xs x × A x) ⊎ ((x : X) → Contains xs x → A x → ⊥)
search_list A each [] = inr (λ x among _. contains_none x among)
search_list {X} A each (x ∷ xs) = both (each x) (search_list A each xs)
  where
    both : Dec (A x) → ((y : X) × Contains xs y × A y) ⊎ ((y : X) → Contains xs y → A y → ⊥)
        → ((y : X) × Contains (x ∷ xs) y × A y) ⊎ ((y : X) → Contains (x ∷ xs) y → A y → ⊥)
    both (yes a) _ = inl (x, contains_here x x xs refl, a)
    both (no h) (inl found) = inl (found.0, contains_there x found.0 xs found.1, found.2)
    both (no h) (inr none) = inr (λ y among a. elim (contains_cases x y xs among) [
      | inl e ↦ h (subst A (sym e) a)
      | inr there ↦ none y there a
    ])

abbrev Rises : List Pair → Type 0
Rises = AllPairs (λ p q. p.item < q.item)

pub pairs_rise : (k : ℕ) (s : List ℕ) → Rises (pairs_from k s)
pairs_rise k [] = λ i j d lt h. absurd (omega arith)
pairs_rise k (mode ∷ s) = AllPairs-cons (λ p q. p.item < q.item) (record { item = k; value = mode }) (pairs_from (k + 1) s)
    (all_from (λ q. k < q.item) (pairs_from (k + 1) s) (λ q among. let found = from_pairs (k + 1) s q among in omega (arith, found.1)))
    (pairs_rise (k + 1) s)

-- rising pairs have one for each component
pub one_pair : (cube : List Pair) → Rises cube → (p q : Pair) → Contains cube p → Contains cube q → p.item ≡ q.item → p ≡ q
one_pair cube rises p q in_p in_q same =
    let at_q : get_or cube in_q.0 p ≡ q = get_or_default cube in_q.0 p q in_q.1 ∙ in_q.2 in
    let at_p : get_or cube in_p.0 p ≡ p = in_p.2 in
    let item_p : (get_or cube in_p.0 p).item ≡ p.item = ap (λ (z : Pair). z.item) at_p in
    let item_q : (get_or cube in_q.0 p).item ≡ q.item = ap (λ (z : Pair). z.item) at_q in
    elim (cases_order in_p.0 in_q.0) [
      | inl e ↦ sym at_p ∙ (ap (λ i. get_or cube i p) e ∙ at_q)
      | inr (inl lt) ↦ absurd (omega (arith, rises in_p.0 in_q.0 p lt in_q.1, item_p, item_q, same))
      | inr (inr gt) ↦ absurd (omega (arith, rises in_q.0 in_p.0 p gt in_p.1, item_p, item_q, same))
    ]

-- what holds of a cube holds of one with more pairs, and can be decided: so a rising cube of which it holds has a minimal part
module _ (Holds : List Pair → Type 0) (more : (few more : List Pair) → ((p : Pair) → Contains few p → Contains more p) → Holds few → Holds more)
    (decide : (cube : List Pair) → Dec (Holds cube)) where
  -- a rising part of the cube of which it holds, and of no proper part of it
  pub record IsLeastPart (cube few : List Pair) : Type 0 where
    pub rises : Rises few
    pub holds : Holds few
    pub minimal : (part : List Pair) → IsPart part few → Holds part → IsPart few part
    pub among : (p : Pair) → Contains few p → Contains cube p

  abbrev without : Pair → List Pair → List Pair
  without p cube = filter (λ q. not (q.item == p.item)) cube

  -- A cube none of whose pairs can be left out is minimal.
  least_when : (cube : List Pair) → Rises cube → Holds cube → ((p : Pair) → Contains cube p → Holds (without p cube) → ⊥) → IsLeastPart cube cube
  least_when cube rises holds none = record {
    rises = rises;
    holds = holds;
    minimal = λ part is_part held. all_from (Contains part) cube (λ p among.
        elim (search_list (λ (q : Pair). q.item ≡ p.item) (λ q. dec_equal q.item p.item) part) [
          | inl found ↦ subst (Contains part) (one_pair cube rises found.0 p (All-contains (Contains cube) part found.0 is_part found.1) among found.2) found.1
          | inr apart ↦ absurd (none p among (more part (without p cube)
              (λ q in_part. to_filter (λ r. not (r.item == p.item)) cube q (not_from_false (q.item == p.item) (ne_eqb q.item p.item (apart q in_part)))
              (All-contains (Contains cube) part q is_part in_part)) held))
        ]);
    among = λ p inside. inside;
  }

  part_within : (n : ℕ) (cube : List Pair) → length cube ≤ n → Rises cube → Holds cube → (few : List Pair) × IsLeastPart cube few
  part_within zero cube le rises holds = (cube, least_when cube rises holds (λ p among _. omega (arith, le, among.1)))
  part_within (suc n) cube le rises holds =
      elim (search_list (λ p. Holds (without p cube)) (λ p. decide (without p cube)) cube) [
        | inl found ↦
            let p : Pair = found.0 in
            let less : length (without p cube) < length cube =
            filter_less (λ q. not (q.item == p.item)) cube p found.1 (not_from_true (p.item == p.item) (eq-eqb p.item p.item refl)) in
            let rest = part_within n (without p cube) (omega (arith, less, le)) (AllPairs-filter (λ a b. a.item < b.item) (λ q. not (q.item == p.item)) cube rises) found.2 in (
              rest.0,
              record {
                rises = rest.1.rises;
                holds = rest.1.holds;
                minimal = rest.1.minimal;
                among = λ q inside. (from_filter (λ r. not (r.item == p.item)) cube q (rest.1.among q inside)).1;
              },
            )
        | inr none ↦ (cube, least_when cube rises holds none)
      ]

  pub least_part : (cube : List Pair) → Rises cube → Holds cube → (few : List Pair) × IsLeastPart cube few
  least_part cube = part_within (length cube) cube (omega arith)

module _ (m : PlantModel) (move : Move) where
  pub suffices_more : (few more : List Pair) → ((p : Pair) → Contains few p → Contains more p) → Suffices m move few → Suffices m move more
  suffices_more few more part h t state extends =
      let own : Pair = source_pair move in
      let Has : Pair → Type 0 = λ p. slice_get t p.item ≡ Some p.value in
      h t state (all_from Has (own ∷ few) (λ p among. elim (contains_cases own p few among) [
        | inl e ↦ All-contains Has (own ∷ more) p extends (contains_here own p more e)
        | inr there ↦ All-contains Has (own ∷ more) p extends (contains_there own p more (part p there))
      ]))

  -- like a prime implicant, but for its being minimal, pair by pair
  pub record Candidate (cube : List Pair) : Type 0 where
    pub rises : Rises cube
    pub modes : (p : Pair) → Contains cube p → HasMode m p.item p.value
    pub others : (p : Pair) → Contains cube p → p.item ≢ move.component
    pub suffices : Suffices m move cube

  pub minimal_part : (cube : List Pair) → Candidate cube → (prime : List Pair) × PrimeImplicant m move prime × ((p : Pair) → Contains prime p → Contains cube p)
  minimal_part cube c =
      let (few, least) = least_part (Suffices m move) suffices_more (λ q. dec_follows m (source_pair move ∷ q) move.guard) cube c.rises c.suffices in (
        few,
        record {
          rising = least.rises;
          modes = all_from (λ p. HasMode m p.item p.value) few (λ p inside. c.modes p (least.among p inside));
          others = all_from (λ p. p.item ≢ move.component) few (λ p inside. c.others p (least.among p inside));
          suffices = least.holds;
          minimal = least.minimal;
        },
        least.among,
      )

pub prime_parts : SufficientCubesHavePrimes
prime_parts m move cube h =
    let found = minimal_part m move cube (record {
      rises = h.rising;
      modes = λ p among. All-contains (λ q. HasMode m q.item q.value) cube p h.modes among;
      others = λ p among. All-contains (λ q. q.item ≢ move.component) cube p h.others among;
      suffices = h.suffices;
    }) in
    (found.0, found.1, all_from (Contains cube) found.0 found.2)
