-- The pairs of a state, and states that extend them.
use Rattle.std.proofs.Common.{◌≡◌, ◌+◌, ◌<◌, ◌≤◌, ◌++◌, ℕ, List, [], ◌∷◌, length, slice_get, Some, All, ap, subst, arith}
use Rattle.std.proofs.lemmas.Option.{slice_get_within, get_or_from_slice_get}
use Rattle.list_laws.proofs.Members.{all_from}
use Rattle.cca_base.specs.declared.cube.Pair.{Pair}
use Rattle.cca_base.specs.PlantModel.{PlantModel}
use Rattle.cca_base.specs.Cube.{Lacks}
use Rattle.cca_base.specs.Model.{HasMode}
use Rattle.cca_base.specs.Repairs.{pairs_from, pairs_of}
use Rattle.cca_base.specs.State.{IsState, Extends}
use Rattle.cca_base.proofs.Members.{stands_in}

-- one mode more is one pair more
pairs_push : (k : ℕ) (s : List ℕ) (n x : ℕ) → n ≡ k + length s → pairs_from k (s ++ x ∷ []) ≡ pairs_from k s ++ record { item = n; value = x } ∷ []
pairs_push k [] n x e = let at : k ≡ n = omega (arith, e) in λ d. record { item = at d; value = x } ∷ []
pairs_push k (mode ∷ s) n x e = ap (λ (ps : List Pair). record { item = k; value = mode } ∷ ps) (pairs_push (k + 1) s n x (omega (arith, e)))

pub pairs_grow : (s : List ℕ) (n x : ℕ) → n ≡ length s → pairs_of (s ++ x ∷ []) ≡ pairs_of s ++ record { item = n; value = x } ∷ []
pairs_grow s n x e = pairs_push 0 s n x (omega (arith, e))

-- no pair is of a component behind the state's last one
pub lacks_next : (s : List ℕ) (n : ℕ) → length s ≤ n → Lacks n (pairs_of s)
lacks_next s n past = all_from (λ p. p.item ≡ n → ⊥) (pairs_of s) (λ p among same.
    let inside : p.item < length s = slice_get_within s p.item p.value (stands_in s p among) in
    omega arith)

pub pairs_have_modes : (m : PlantModel) (s : List ℕ) → IsState m s → All (λ p. HasMode m p.item p.value) (pairs_of s)
pairs_have_modes m s h = all_from (λ p. HasMode m p.item p.value) (pairs_of s) (λ p among.
    let stands = stands_in s p among in
    let full = h.full in
    let inside : p.item < length m.components = omega (arith, full, slice_get_within s p.item p.value stands) in
    subst (λ mode. HasMode m p.item mode) (get_or_from_slice_get s p.item p.value 0 stands) (h.modes p.item inside))

-- a state extends its own pairs
pub extends_own : (s : List ℕ) → Extends s (pairs_of s)
extends_own s = all_from (λ p. slice_get s p.item ≡ Some p.value) (pairs_of s) (stands_in s)
