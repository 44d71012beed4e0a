-- Pairs of names that are looked up one after the other.
use Rattle.std.proofs.Common.{◌≡◌, ℕ, ◌+◌, ◌<◌, List, [], ◌∷◌, ◌++◌, length, map, drop, get_or, Option, Some, None, refl, sym, ap, ◌∙◌, append_assoc, add-one, drop-cons}
use Rattle.text_base.specs.Chain.{◌>>=◌}
use Rattle.text_base.specs.declared.pairs.NamedPair.{NamedPair as NamedPairOfCode}
use Rattle.text_base.specs.Pairs.{NamedPair, shown_pair}
use Rattle.cca_base.specs.declared.cube.Pair.{Pair}
use Rattle.script_reader.specs.Named.{each_pair}

-- what was found before, and what is still looked up
abbrev pub with_front : List Pair → Option (List Pair) → Option (List Pair)
with_front front None = None
with_front front (Some ps) = Some (front ++ ps)

regroup : (front : List Pair) (p : Pair) (o : Option (List Pair)) → with_front front (o >>= λ qs. Some (p ∷ qs)) ≡ with_front (front ++ p ∷ []) o
regroup front p None = refl
regroup front p (Some qs) = ap (λ (ps : List Pair). Some ps) (sym (append_assoc front (p ∷ []) qs))

-- the named pairs from a place on, the first of them apart
from_place : (named : List NamedPairOfCode) (i : ℕ) (d : NamedPairOfCode) → i < length named → map shown_pair (drop i named) ≡ shown_pair (get_or named i d) ∷ map shown_pair (drop (i + 1) named)
from_place named i d h =
    let e : drop i named ≡ get_or named i d ∷ drop (i + 1) named = rw (add-one, drop-cons named i d) refl in
    ap (map shown_pair) e

module _ (f : NamedPair → Option Pair) where
  first_pair : (front : List Pair) (p : Pair) (one : NamedPair) (rest : List NamedPair) → Some p ≡ f one → with_front front (each_pair f (one ∷ rest)) ≡ with_front (front ++ p ∷ []) (each_pair f rest)
  first_pair front p one rest e = ap (λ o. with_front front (o >>= λ q. each_pair f rest >>= λ qs. Some (q ∷ qs))) (sym e) ∙ regroup front p (each_pair f rest)

  -- one more pair
  pub pair_read : (front : List Pair) (named : List NamedPairOfCode) (i : ℕ) (d : NamedPairOfCode) (p : Pair) → i < length named → Some p ≡ f (shown_pair (get_or named i d))
      → with_front (front ++ p ∷ []) (each_pair f (map shown_pair (drop (i + 1) named))) ≡ with_front front (each_pair f (map shown_pair (drop i named)))
  pair_read front named i d p h e = sym (ap (λ l. with_front front (each_pair f l)) (from_place named i d h) ∙ first_pair front p _ _ e)

  -- what names no pair
  pub pair_missing : (front : List Pair) (named : List NamedPairOfCode) (i : ℕ) (d : NamedPairOfCode) → i < length named → None ≡ f (shown_pair (get_or named i d))
      → with_front front (each_pair f (map shown_pair (drop i named))) ≡ None
  pair_missing front named i d h e =
      ap (λ l. with_front front (each_pair f l)) (from_place named i d h) ∙ ap (λ o. with_front front (o >>= λ q. each_pair f (map shown_pair (drop (i + 1) named)) >>= λ qs. Some (q ∷ qs))) (sym e)
