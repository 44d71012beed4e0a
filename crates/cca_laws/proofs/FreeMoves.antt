-- The prime implicants and steps of moves that are free, and the prime implicants of moves that need one pair.
use Rattle.std.proofs.Common.{◌≡◌, ◌≢◌, ℕ, Bool, true, inl, inr, List, [], ◌∷◌, All, Contains, slice_get, slice_set, Some, refl, sym, subst, arith}
use Rattle.std.proofs.lemmas.List.Elements.{All-contains, All-nil}
use Rattle.list_laws.proofs.Members.{contains_cases, contains_here, contains_none}
use Rattle.cca_base.specs.declared.cube.Pair.{Pair}
use Rattle.cca_base.specs.declared.formula.Formula.TheOpen.{Formula-F}
use Rattle.cca_base.specs.declared.formula.Formula.TheFolds.{fold-roll-Formula}
use Rattle.cca_base.specs.declared.model.Move.{Move}
use Rattle.cca_base.specs.PlantModel.{PlantModel}
use Rattle.cca_base.specs.Accepted.{AreWays}
use Rattle.cca_base.specs.Cube.{IsPart}
use Rattle.cca_base.specs.Formula.{truth, truth_step}
use Rattle.cca_base.specs.Implicants.{PrimeImplicant, Suffices, Needs, source_pair}
use Rattle.cca_base.specs.Model.{HasMode}
use Rattle.cca_base.specs.State.{Follows}
use Rattle.cca_base.specs.Steps.{Step, support}
use Rattle.list_laws.proofs.Few.{one_at}
use Rattle.cca_laws.specs.Examples.{always_true}

pub always : (s w : List ℕ) → truth s w always_true ≡ true
always s w = fold-roll-Formula Bool (truth_step s w) Formula-F.True

pub always_follows : (m : PlantModel) (pairs : List Pair) → Follows m pairs always_true
always_follows m pairs s state extends w world = always s w

module _ (m : PlantModel) (move : Move) where
  -- ---- a move whose guard is always true

  pub free_prime : move.guard ≡ always_true → PrimeImplicant m move []
  free_prime e = record {
    rising = λ i j d lt h. absurd (omega arith);
    modes = All-nil (λ (p : Pair). HasMode m p.item p.value);
    others = All-nil (λ (p : Pair). p.item ≢ move.component);
    suffices = subst (Follows m (source_pair move ∷ [])) (sym e) (always_follows m (source_pair move ∷ []));
    minimal = λ part within h. All-nil (Contains part);
  }

  only_free : move.guard ≡ always_true → (cube : List Pair) → PrimeImplicant m move cube → [] ≡ cube
  only_free e [] prime = refl
  only_free e (p ∷ cube) prime =
      absurd (contains_none p (prime.minimal [] (All-nil (Contains (p ∷ cube))) (free_prime e).suffices 0 p (omega arith)))

  pub free_lacks : move.guard ≡ always_true → (cube : List Pair) → PrimeImplicant m move cube → (p : Pair) → Contains cube p → ⊥
  free_lacks e cube prime p among = contains_none p (subst (λ l. Contains l p) (sym (only_free e cube prime)) among)

  pub free_ways : move.guard ≡ always_true → AreWays m move ([] ∷ [])
  free_ways e = record {
    in_order = λ i j d lt h. absurd (omega arith);
    each = λ cube. (
      λ among. elim (contains_cases [] cube [] among) [ inl same ↦ subst (PrimeImplicant m move) same (free_prime e) | inr none ↦ absurd (contains_none cube none) ],
      λ prime. contains_here [] cube [] (only_free e cube prime),
    );
  }

  -- it is a step wherever its component stands in its source
  abbrev pub free_step : Contains m.moves move → move.guard ≡ always_true → (s : List ℕ) → slice_get s move.component ≡ Some move.source
      → Step m s move.command (slice_set s move.component move.target)
  free_step own e s from = record {
    move = move;
    of_model = own;
    command = refl;
    source = from;
    guard = subst (Follows m (support m s move)) (sym e) (always_follows m (support m s move));
    gives = refl;
  }

  -- ---- a move that needs one pair

  pub single_prime : (p : Pair) → HasMode m p.item p.value → p.item ≢ move.component → Suffices m move (p ∷ []) → (Suffices m move [] → ⊥) → PrimeImplicant m move (p ∷ [])
  single_prime p has other enough needed = record {
    rising = λ i j d lt h. absurd (omega arith);
    modes = one_at (λ (q : Pair). HasMode m q.item q.value) p has;
    others = one_at (λ (q : Pair). q.item ≢ move.component) p other;
    suffices = enough;
    minimal = minimal;
  }
    where
      minimal : (part : List Pair) → IsPart part (p ∷ []) → Suffices m move part → IsPart (p ∷ []) part
      minimal [] within h = absurd (needed h)
      minimal (q ∷ part) within h = one_at (Contains (q ∷ part)) p (elim (contains_cases p q [] (within 0 q (omega arith))) [
        | inl e ↦ contains_here q p part (sym e)
        | inr none ↦ absurd (contains_none q none)
      ])

-- a component whose moves are all free needs nothing
pub free_needs_nothing : (m : PlantModel) (c : ℕ) → All (λ (move : Move). move.component ≡ c → move.guard ≡ always_true) m.moves → (u : ℕ) → Needs m c u → ⊥
free_needs_nothing m c free u h =
    let e : h.move.guard ≡ always_true = All-contains (λ (move : Move). move.component ≡ c → move.guard ≡ always_true) m.moves h.move free h.of_model h.own in
    free_lacks m h.move e h.cube h.prime (record { item = u; value = h.mode }) h.occurs
