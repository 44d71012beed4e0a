-- The prime implicants of a conjunction are the least cubes over a prime implicant of each part.
use Rattle.std.proofs.Common.{◌≢◌, ◌∷◌, List, sym, ◌∙◌}
use Rattle.std.proofs.lemmas.Bool.{and_parts, and_from}
use Rattle.cca_base.specs.declared.cube.Pair.{Pair}
use Rattle.cca_base.specs.declared.model.Move.{Move}
use Rattle.cca_base.specs.declared.formula.Formula.{Formula}
use Rattle.cca_base.specs.PlantModel.{PlantModel}
use Rattle.cca_base.specs.Model.{HasMode}
use Rattle.cca_base.specs.Formula.{truth}
use Rattle.cca_base.specs.State.{Follows}
use Rattle.cca_base.specs.Implicants.{PrimeImplicant, Suffices, source_pair}
use Rattle.cca_base.specs.Accepted.{AreWays}
use Rattle.cca_laws.proofs.Minimal.{prime_parts, suffices_more}
use Rattle.guard_compiler.specs.Conjunctions.{AreWaysOfBoth, IsConjunction, with_guard}
use Rattle.guard_compiler.specs.LeastUnions.{AreLeastUnions}
use Rattle.guard_compiler.proofs.ConjunctionCubes.{AreMinimal, HasMinimalParts, IsMinimal, least_are_minimal}

-- ---- both formulas follow exactly where the conjunction does

pub both_follow : (m : PlantModel) (first second both : Formula) → IsConjunction first second both → (cube : List Pair) → Follows m cube first → Follows m cube second → Follows m cube both
both_follow m first second both meaning cube h k s state x w world = meaning s w ∙ and_from (truth s w first) (truth s w second) (h s state x w world) (k s state x w world)

pub each_follows : (m : PlantModel) (first second both : Formula) → IsConjunction first second both → (cube : List Pair) → Follows m cube both → Follows m cube first × Follows m cube second
each_follows m first second both meaning cube h = (
  (λ s state x w world. (and_parts (truth s w first) (truth s w second) (sym (meaning s w) ∙ h s state x w world)).0),
  (λ s state x w world. (and_parts (truth s w first) (truth s w second) (sym (meaning s w) ∙ h s state x w world)).1),
)

-- ---- the prime implicants of a move are the minimal cubes that suffice

module _ (m : PlantModel) (move : Move) where
  -- a mode of another component
  abbrev IsOther : Pair → Type 0
  IsOther p = HasMode m p.item p.value × (p.item ≢ move.component)

  abbrev Enough : Formula → List Pair → Type 0
  Enough guard = Suffices m (with_guard move guard)

  is_minimal : (guard : Formula) (cube : List Pair) → PrimeImplicant m (with_guard move guard) cube → IsMinimal IsOther (Enough guard) cube
  is_minimal guard cube prime = record { rising = prime.rising; allowed = λ k d l. (prime.modes k d l, prime.others k d l); holds = prime.suffices; minimal = prime.minimal }

  is_prime : (guard : Formula) (cube : List Pair) → IsMinimal IsOther (Enough guard) cube → PrimeImplicant m (with_guard move guard) cube
  is_prime guard cube its = record { rising = its.rising; modes = λ k d l. (its.allowed k d l).0; others = λ k d l. (its.allowed k d l).1; suffices = its.holds; minimal = its.minimal }

  are_minimal : (guard : Formula) (cubes : List (List Pair)) → AreWays m (with_guard move guard) cubes → AreMinimal IsOther (Enough guard) cubes
  are_minimal guard cubes ways = record {
    in_order = ways.in_order;
    each = λ cube. ((λ among. is_minimal guard cube ((ways.each cube).0 among)), (λ its. (ways.each cube).1 (is_prime guard cube its)));
  }

  has_parts : (guard : Formula) → HasMinimalParts IsOther (Enough guard)
  has_parts guard = record {
    more = suffices_more m (with_guard move guard);
    some = λ cube up others enough.
        let prime = prime_parts m (with_guard move guard) cube (record { rising = up; modes = λ k d l. (others k d l).0; others = λ k d l. (others k d l).1; suffices = enough }) in
        (prime.0, is_minimal guard prime.0 prime.1, prime.2);
  }

  pub both_ways : (first second both : Formula) (firsts seconds : List (List Pair)) → IsConjunction first second both → AreWays m (with_guard move first) firsts
      → AreWays m (with_guard move second) seconds → (cubes : List (List Pair)) → AreLeastUnions firsts seconds cubes → AreWays m (with_guard move both) cubes
  both_ways first second both firsts seconds meaning h k cubes are =
      let all = least_are_minimal IsOther (Enough first) (Enough second) (Enough both) (has_parts first) (has_parts second)
      (λ cube. each_follows m first second both meaning (source_pair move ∷ cube)) (λ cube. both_follow m first second both meaning (source_pair move ∷ cube)) firsts seconds
      (are_minimal first firsts h) (are_minimal second seconds k) cubes are in
      record { in_order = all.in_order; each = λ cube. ((λ among. is_prime both cube ((all.each cube).0 among)), (λ prime. (all.each cube).1 (is_minimal both cube prime))) }

pub least_are_ways : (firsts seconds cubes : List (List Pair)) → AreLeastUnions firsts seconds cubes → AreWaysOfBoth firsts seconds cubes
least_are_ways firsts seconds cubes are m move first second both meaning h k = both_ways m move first second both firsts seconds meaning h k cubes are
