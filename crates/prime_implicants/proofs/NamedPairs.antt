-- The pairs of a rising cube whose components a part names are those of the part.
use Rattle.std.proofs.Common.{◌≡◌, ◌==◌, ◌<◌, ◌∷◌, [], Bool, true, List, Contains, filter, inl, inr, refl, ap, subst}
use Rattle.std.specs.List.{list_any}
use Rattle.std.proofs.lemmas.Bool.{eq-eqb, eqb-true, or_cases, or_left, or_right}
use Rattle.std.proofs.lemmas.List.Elements.{All-contains}
use Rattle.std.proofs.lemmas.List.Kept.{AllPairs-filter}
use Rattle.list_laws.proofs.Members.{all_from, contains_cases, contains_here, contains_there, contains_none, from_filter, to_filter}
use Rattle.cca_base.specs.declared.cube.Pair.{Pair}
use Rattle.cca_base.specs.Cube.{IsPart, IsRising}
use Rattle.prime_implicants.proofs.PartialPairs.{one_of_each}

-- whether a pair is of this component
abbrev is_named : List Pair → Pair → Bool
is_named part p = list_any (λ q. q.item == p.item) part

abbrev pub named : List Pair → List Pair → List Pair
named part cube = filter (is_named part) cube

namesake : (part : List Pair) (p : Pair) → is_named part p ≡ true → (q : Pair) × Contains part q × (q.item ≡ p.item)
namesake [] p h = absurd cc
namesake (q ∷ part) p h = elim (or_cases (q.item == p.item) (is_named part p) h) [
  | inl own ↦ (q, contains_here q q part refl, eqb-true q.item p.item own)
  | inr more ↦ let rest = namesake part p more in (rest.0, contains_there q rest.0 part rest.1, rest.2)
]

names_itself : (part : List Pair) (p : Pair) → Contains part p → is_named part p ≡ true
names_itself [] p among = absurd (contains_none p among)
names_itself (q ∷ part) p among = elim (contains_cases q p part among) [
  | inl e ↦ or_left (q.item == p.item) (is_named part p) (eq-eqb q.item p.item (ap (λ z. z.item) e))
  | inr there ↦ or_right (q.item == p.item) (is_named part p) (names_itself part p there)
]

pub named_rises : (part cube : List Pair) → IsRising cube → IsRising (named part cube)
named_rises part cube up = AllPairs-filter (λ p q. p.item < q.item) (is_named part) cube up

pub named_part : (part cube : List Pair) → IsPart (named part cube) cube
named_part part cube = all_from (Contains cube) (named part cube) (λ p among. (from_filter (is_named part) cube p among).1)

pub of_named : (part cube : List Pair) → IsRising cube → IsPart part cube → (p : Pair) → Contains (named part cube) p → Contains part p
of_named part cube up h p among =
    let both = from_filter (is_named part) cube p among in
    let q = namesake part p both.0 in
    subst (Contains part) (one_of_each cube q.0 p up (All-contains (Contains cube) part q.0 h q.1) both.1 q.2) q.1

pub to_named : (part cube : List Pair) → IsPart part cube → (p : Pair) → Contains part p → Contains (named part cube) p
to_named part cube h p among = to_filter (is_named part) cube p (names_itself part p among) (All-contains (Contains cube) part p h among)
