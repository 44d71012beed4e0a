-- In the model with a reset, going back needs c = z, and the other moves are free.
use Rattle.std.proofs.Common.{◌≡◌, ◌≢◌, ◌<◌, ℕ, zero, suc, false, inl, inr, List, [], ◌∷◌, Some, refl, sym, ap, subst, ◌∙◌, arith}
use Rattle.std.specs.Prelude.{slice_get, slice_index, IsTrue}
use Rattle.std.proofs.lemmas.Bool.{false≢true}
use Rattle.std.proofs.lemmas.List.Elements.{All-nil}
use Rattle.std.proofs.lemmas.Option.{same_Some, none-some}
use Rattle.list_laws.proofs.Places.{value_at}
use Rattle.list_laws.proofs.Members.{contains_cases, contains_here, contains_none}
use Rattle.cca_base.specs.declared.cube.Pair.{Pair}
use Rattle.cca_base.specs.declared.model.Move.{Move}
use Rattle.cca_base.specs.Accepted.{AreWays}
use Rattle.cca_base.specs.Formula.{truth}
use Rattle.cca_base.specs.Implicants.{PrimeImplicant, Suffices, source_pair}
use Rattle.cca_base.specs.Model.{HasMode}
use Rattle.cca_base.specs.Sets.{has}
use Rattle.cca_base.specs.State.{IsState, IsWorld, Extends}
use Rattle.list_laws.proofs.Few.{one_at, two_at, below_two}
use Rattle.cca_laws.proofs.FormulaExamples.{truth_mode}
use Rattle.cca_laws.proofs.FreeMoves.{free_ways, single_prime}
use Rattle.cca_laws.specs.MendExamples.{reset_move, z_move, ok_move, go_move, back_move, mending, mending_compiled, c_is_z}

pub only_world : (s : List ℕ) → IsWorld mending s []
only_world s = record { full = refl; values = λ v h. absurd (omega arith); rules = All-nil (λ rule. IsTrue (truth s [] rule)) }

pub state_of : (a b : ℕ) → a < 3 → b < 2 → IsState mending (a ∷ b ∷ [])
state_of a b h k = record { full = refl; modes = below_two (λ c. HasMode mending c (slice_index (a ∷ b ∷ []) c)) h k }

-- pairs that hold while c is not z don't suffice
too_little : (a : ℕ) → a < 3 → has 4 a ≡ false → (pairs : List Pair) → Extends (a ∷ 1 ∷ []) (source_pair back_move ∷ pairs) → Suffices mending back_move pairs → ⊥
too_little a h off pairs extends suffices =
    let s : List ℕ = a ∷ 1 ∷ [] in
    false≢true (sym (truth_mode s [] 0 4 ∙ off) ∙ suffices s (state_of a 1 h (omega arith)) extends [] (only_world s))

nothing_is_too_little : Suffices mending back_move [] → ⊥
nothing_is_too_little = too_little 0 (omega arith) refl [] (one_at (λ (p : Pair). slice_get (0 ∷ 1 ∷ []) p.item ≡ Some p.value) (source_pair back_move) refl)

z_suffices : Suffices mending back_move (c_is_z ∷ [])
z_suffices s state extends w world = truth_mode s w 0 4 ∙ ap (has 4) (value_at s 0 2 (extends 1 c_is_z (omega arith)))

pub z_is_prime : PrimeImplicant mending back_move (c_is_z ∷ [])
z_is_prime = single_prime mending back_move c_is_z (omega arith) (λ e. absurd (omega (arith, e))) z_suffices nothing_is_too_little

-- a pair of another component than b is of c
of_c : (i v : ℕ) → HasMode mending i v → i ≢ 1 → (i ≡ 0) × (v < 3)
of_c zero v h other = (refl, h)
of_c (suc zero) v h other = absurd (other refl)
of_c (suc (suc i)) v h other = absurd (omega (arith, h))

one_pair : (i v : ℕ) → i ≡ 0 → v < 3 → Suffices mending back_move (record { item = i; value = v } ∷ []) → c_is_z ≡ record { item = i; value = v }
one_pair zero zero e h suffices =
    absurd (too_little 0 (omega arith) refl (record { item = 0; value = 0 } ∷ [])
    (two_at (λ (p : Pair). slice_get (0 ∷ 1 ∷ []) p.item ≡ Some p.value) (source_pair back_move) (record { item = 0; value = 0 }) refl refl) suffices)
one_pair zero (suc zero) e h suffices =
    absurd (too_little 1 (omega arith) refl (record { item = 0; value = 1 } ∷ [])
    (two_at (λ (p : Pair). slice_get (1 ∷ 1 ∷ []) p.item ≡ Some p.value) (source_pair back_move) (record { item = 0; value = 1 }) refl refl) suffices)
one_pair zero (suc (suc zero)) e h suffices = refl
one_pair zero (suc (suc (suc v))) e h suffices = absurd (omega arith)
one_pair (suc i) v e h suffices = absurd (omega arith)

pub only_z : (cube : List Pair) → PrimeImplicant mending back_move cube → c_is_z ∷ [] ≡ cube
only_z [] prime = absurd (nothing_is_too_little prime.suffices)
only_z (p ∷ []) prime =
    let at = of_c p.item p.value (prime.modes 0 p (omega arith)) (prime.others 0 p (omega arith)) in
    ap (λ (q : Pair). q ∷ []) (one_pair p.item p.value at.0 at.1 prime.suffices)
only_z (p ∷ q ∷ cube) prime =
    let at = of_c q.item q.value (prime.modes 1 p (omega arith)) (prime.others 1 p (omega arith)) in
    absurd (omega (arith, prime.rising 0 1 p (omega arith) (omega arith), at.0))

pub back_ways : AreWays mending back_move ((c_is_z ∷ []) ∷ [])
back_ways = record {
  in_order = λ i j d lt h. absurd (omega arith);
  each = λ cube. (
    λ among. elim (contains_cases (c_is_z ∷ []) cube [] among) [ inl same ↦ subst (PrimeImplicant mending back_move) same z_is_prime | inr none ↦ absurd (contains_none cube none) ],
    λ prime. contains_here (c_is_z ∷ []) cube [] (only_z cube prime),
  );
}

pub ways : (i : ℕ) (move : Move) (cubes : List (List Pair)) → slice_get mending.moves i ≡ Some move → slice_get mending_compiled.ways i ≡ Some cubes → AreWays mending move cubes
ways zero move cubes e f = subst (AreWays mending move) (same_Some ([] ∷ []) cubes f) (free_ways mending move (ap (λ (y : Move). y.guard) (sym (same_Some reset_move move e))))
ways (suc zero) move cubes e f = subst (AreWays mending move) (same_Some ([] ∷ []) cubes f) (free_ways mending move (ap (λ (y : Move). y.guard) (sym (same_Some z_move move e))))
ways (suc (suc zero)) move cubes e f = subst (AreWays mending move) (same_Some ([] ∷ []) cubes f) (free_ways mending move (ap (λ (y : Move). y.guard) (sym (same_Some ok_move move e))))
ways (suc (suc (suc zero))) move cubes e f = subst (AreWays mending move) (same_Some ([] ∷ []) cubes f) (free_ways mending move (ap (λ (y : Move). y.guard) (sym (same_Some go_move move e))))
ways (suc (suc (suc (suc zero)))) move cubes e f =
    subst (AreWays mending move) (same_Some ((c_is_z ∷ []) ∷ []) cubes f) (subst (λ y. AreWays mending y ((c_is_z ∷ []) ∷ [])) (same_Some back_move move e) back_ways)
ways (suc (suc (suc (suc (suc i))))) move cubes e f = absurd (none-some move e)
