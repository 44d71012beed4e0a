-- The prime implicants of a wish that is a conjunction, and minimal parts of cubes from which a wish follows.
use Rattle.std.proofs.Common.{◌≡◌, List, [], ◌∷◌, ◌++◌, slice_get, Some, All, Contains, refl, subst, inl, inr, arith}
use Rattle.std.proofs.lemmas.List.Elements.{All-contains, All-head, All-nil}
use Rattle.list_laws.proofs.Members.{all_from, contains_cases, contains_here, contains_none}
use Rattle.cca_base.specs.declared.cube.Pair.{Pair}
use Rattle.cca_base.specs.declared.formula.Formula.{Formula}
use Rattle.cca_base.specs.PlantModel.{PlantModel}
use Rattle.cca_base.specs.Cube.{IsRising}
use Rattle.cca_base.specs.Model.{HasMode}
use Rattle.cca_base.specs.State.{Follows}
use Rattle.cca_laws.proofs.Decided.{dec_follows}
use Rattle.cca_laws.proofs.Minimal.{least_part}
use Rattle.guard_compiler.specs.Conjunctions.{AddsWish, all_of, IsConjunction}
use Rattle.guard_compiler.specs.LeastUnions.{AreLeastUnions}
use Rattle.guard_compiler.specs.Wishes.{AreImplicants, IsImplicant}
use Rattle.guard_compiler.proofs.ConjunctionCubes.{AreMinimal, HasMinimalParts, IsMinimal, least_are_minimal}
use Rattle.guard_compiler.proofs.ConjunctionWays.{both_follow, each_follows}
use Rattle.guard_compiler.proofs.GuardParts.{one_more, truth-all_of}

-- ---- what a wish follows from has a minimal part

module _ (m : PlantModel) (f : Formula) where
  follows_more : (few more : List Pair) → ((p : Pair) → Contains few p → Contains more p) → Follows m few f → Follows m more f
  follows_more few more part h t state extends =
      let Has : Pair → Type 0 = λ p. slice_get t p.item ≡ Some p.value in
      h t state (all_from Has few (λ p among. All-contains Has more p extends (part p among)))

  -- like an implicant, but for its being minimal
  pub record Candidate (cube : List Pair) : Type 0 where
    pub rises : IsRising cube
    pub modes : (p : Pair) → Contains cube p → HasMode m p.item p.value
    pub follows : Follows m cube f

  pub minimal_part : (cube : List Pair) → Candidate cube → (prime : List Pair) × IsImplicant m f prime × ((p : Pair) → Contains prime p → Contains cube p)
  minimal_part cube c =
      let (few, least) = least_part (λ q. Follows m q f) follows_more (λ q. dec_follows m q f) cube c.rises c.follows in (
        few,
        record {
          rising = least.rises;
          modes = all_from (λ p. HasMode m p.item p.value) few (λ p inside. c.modes p (least.among p inside));
          follows = least.holds;
          minimal = least.minimal;
        },
        least.among,
      )

-- ---- the implicants of a conjunction

module _ (m : PlantModel) where
  abbrev IsOfModel : Pair → Type 0
  IsOfModel p = HasMode m p.item p.value

  is_minimal : (f : Formula) (cube : List Pair) → IsImplicant m f cube → IsMinimal IsOfModel (λ few. Follows m few f) cube
  is_minimal f cube its = record { rising = its.rising; allowed = its.modes; holds = its.follows; minimal = its.minimal }

  is_implicant : (f : Formula) (cube : List Pair) → IsMinimal IsOfModel (λ few. Follows m few f) cube → IsImplicant m f cube
  is_implicant f cube its = record { rising = its.rising; modes = its.allowed; follows = its.holds; minimal = its.minimal }

  are_minimal : (f : Formula) (cubes : List (List Pair)) → AreImplicants m f cubes → AreMinimal IsOfModel (λ few. Follows m few f) cubes
  are_minimal f cubes are = record {
    in_order = are.in_order;
    each = λ cube. ((λ among. is_minimal f cube ((are.each cube).0 among)), (λ its. (are.each cube).1 (is_implicant f cube its)));
  }

  has_parts : (f : Formula) → HasMinimalParts IsOfModel (λ few. Follows m few f)
  has_parts f = record {
    more = follows_more m f;
    some = λ cube up modes follows.
        let found = minimal_part m f cube (record { rises = up; modes = λ p among. All-contains IsOfModel cube p modes among; follows = follows }) in
        (found.0, is_minimal f found.0 found.1, all_from (Contains cube) found.0 found.2);
  }

  both_implicants : (first second both : Formula) (firsts seconds cubes : List (List Pair)) → IsConjunction first second both → AreImplicants m first firsts → AreImplicants m second seconds
      → AreLeastUnions firsts seconds cubes → AreImplicants m both cubes
  both_implicants first second both firsts seconds cubes meaning h k are =
      let all = least_are_minimal IsOfModel (λ few. Follows m few first) (λ few. Follows m few second) (λ few. Follows m few both) (has_parts first) (has_parts second)
      (each_follows m first second both meaning) (both_follow m first second both meaning) firsts seconds (are_minimal first firsts h) (are_minimal second seconds k) cubes are in
      record { in_order = all.in_order; each = λ cube. ((λ among. is_implicant both cube ((all.each cube).0 among)), (λ its. (all.each cube).1 (is_minimal both cube its))) }

  pub adds_wish : (part : Formula) (old others new : List (List Pair)) → AreImplicants m part others → AreLeastUnions old others new → AddsWish m part old new
  adds_wish part old others new are least parts before = both_implicants (all_of parts) part (all_of (parts ++ part ∷ [])) old others new (one_more parts part) before are least

  pub implicants_rise : (f : Formula) (cubes : List (List Pair)) → AreImplicants m f cubes → All IsRising cubes
  implicants_rise f cubes are = all_from IsRising cubes (λ cube among. ((are.each cube).0 among).rising)

  -- the empty cube is the only implicant of no part
  pub no_wish : AreImplicants m (all_of []) ([] ∷ [])
  no_wish = record {
    in_order = λ i j d before l. absurd (omega arith);
    each = λ cube. (λ among. elim (contains_cases [] cube [] among) [ inl e ↦ subst (IsImplicant m (all_of [])) e empty | inr none ↦ absurd (contains_none cube none) ], λ its. contains_here [] cube [] (same cube its));
  }
    where
      enough : (cube : List Pair) → Follows m cube (all_of [])
      enough cube s state x w world = truth-all_of s w []

      empty : IsImplicant m (all_of []) []
      empty = record {
        rising = λ i j d before l. absurd (omega arith);
        modes = All-nil IsOfModel;
        follows = enough [];
        minimal = λ part h k. All-nil (Contains part);
      }

      same : (cube : List Pair) → IsImplicant m (all_of []) cube → [] ≡ cube
      same [] its = refl
      same (p ∷ cube) its = absurd (contains_none p (All-head (Contains []) p cube (its.minimal [] (All-nil (Contains (p ∷ cube))) (enough []))))
