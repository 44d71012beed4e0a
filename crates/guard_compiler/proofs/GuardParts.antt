-- A conjunction with one more part, and with none.
use Rattle.std.proofs.Common.{◌≡◌, ◌≤◌, ◌<◌, ◌+◌, ◌&&◌, ◌++◌, ◌∷◌, [], ℕ, Bool, true, List, length, map, get_or, take, All, Contains, inl, inr, refl, ap, sym, subst, ◌∙◌, arith}
use Rattle.std.specs.List.{list_all}
use Rattle.std.proofs.lemmas.Bool.{and_parts}
use Rattle.std.proofs.lemmas.List.{map_push, take_all, take_more}
use Rattle.std.proofs.lemmas.List.Folds.{list_all-append}
use Rattle.std.proofs.lemmas.List.Elements.{All-cons, All-head, All-nil}
use Rattle.list_laws.proofs.Members.{all_from, contains_cases, contains_here, contains_none}
use mathlib.Core.Bool.{and-true}
use Rattle.cca_base.specs.declared.cube.Pair.{Pair}
use Rattle.cca_base.specs.declared.model.Move.{Move}
use Rattle.cca_base.specs.declared.formula.Formula as formula
use Rattle.cca_base.specs.declared.formula.Formula.{Formula}
use Rattle.cca_base.specs.declared.formula.Formula.TheVariants
use Rattle.cca_base.specs.declared.formula.Formula.TheOpen.{Formula-F}
use Rattle.cca_base.specs.declared.formula.Formula.TheFolds.{fold-roll-Formula}
use Rattle.cca_base.specs.PlantModel.{PlantModel}
use Rattle.cca_base.specs.Model.{HasMode}
use Rattle.cca_base.specs.Formula.{is_within, truth, truth_step, within_step}
use Rattle.cca_base.specs.Cube.{IsRising}
use Rattle.cca_base.specs.Implicants.{PrimeImplicant, Suffices}
use Rattle.cca_base.specs.Accepted.{AreWays}
use Rattle.guard_compiler.specs.Conjunctions.{AddsPart, AreWaysOfBoth, IsConjunction, all_of, with_guard}

-- a formula of the variant `All`
pub all_of-parts : (parts : List Formula) → TheVariants.All parts ≡ all_of parts
unfolding formula.roll-Formula denote.Hole.Carrier.roll
all_of-parts parts = refl

pub truth-all_of : (s w : List ℕ) (parts : List Formula) → truth s w (all_of parts) ≡ list_all (λ b. b) (map (truth s w) parts)
truth-all_of s w parts = fold-roll-Formula Bool (truth_step s w) (Formula-F.All parts)

pub one_more : (parts : List Formula) (part : Formula) → IsConjunction (all_of parts) part (all_of (parts ++ part ∷ []))
one_more parts part s w =
    let t : Formula → Bool = truth s w in
    truth-all_of s w (parts ++ part ∷ []) ∙ ap (list_all (λ b. b)) (map_push t parts part) ∙ list_all-append (λ b. b) (map t parts) (t part ∷ [])
    ∙ ap (λ b. list_all (λ b. b) (map t parts) && b) (and-true (t part)) ∙ ap (λ b. b && t part) (sym (truth-all_of s w parts))

pub adds_part : (m : PlantModel) (move : Move) (part : Formula) (old others new : List (List Pair)) → AreWays m (with_guard move part) others → AreWaysOfBoth old others new → AddsPart m move part old new
adds_part m move part old others new ways law parts before = law m move (all_of parts) part (all_of (parts ++ part ∷ [])) (one_more parts part) before ways

-- the empty cube suffices for no part
pub no_parts : (m : PlantModel) (move : Move) → AreWays m (with_guard move (all_of [])) ([] ∷ [])
no_parts m move = record {
  in_order = λ i j d before l. absurd (omega arith);
  each = λ cube. (λ among. elim (contains_cases [] cube [] among) [ inl e ↦ subst (PrimeImplicant m (with_guard move (all_of []))) e empty | inr none ↦ absurd (contains_none cube none) ], λ prime. contains_here [] cube [] (same cube prime));
}
  where
    enough : (cube : List Pair) → Suffices m (with_guard move (all_of [])) cube
    enough cube s state x w world = truth-all_of s w []

    empty : PrimeImplicant m (with_guard move (all_of [])) []
    empty = record {
      rising = λ i j d before l. absurd (omega arith);
      modes = All-nil (λ p. HasMode m p.item p.value);
      others = λ k d l. absurd (omega arith);
      suffices = enough [];
      minimal = λ part h k. All-nil (Contains part);
    }

    same : (cube : List Pair) → PrimeImplicant m (with_guard move (all_of [])) cube → [] ≡ cube
    same [] prime = refl
    same (p ∷ cube) prime = absurd (contains_none p (All-head (Contains []) p cube (prime.minimal [] (All-nil (Contains (p ∷ cube))) (enough []))))

-- the prime implicants of a move rise
pub ways_rise : (m : PlantModel) (move : Move) (cubes : List (List Pair)) → AreWays m move cubes → All IsRising cubes
ways_rise m move cubes ways = all_from IsRising cubes (λ cube among. ((ways.each cube).0 among).rising)

-- cubes that are of some parts, with the next part and with all: by what it is to be of a formula
module _ (Are : Formula → List (List Pair) → Type 0) (parts : List Formula) where
  pub parts_next : (i : ℕ) (part : Formula) (old new : List (List Pair)) → i < length parts → part ≡ get_or parts i part
      → Are (all_of (take i parts)) old → ((some : List Formula) → Are (all_of some) old → Are (all_of (some ++ part ∷ [])) new) → Are (all_of (take (i + 1) parts)) new
  parts_next i part old new l at before adds =
      let more : take i parts ++ part ∷ [] ≡ take (i + 1) parts = ap (λ z. take i parts ++ z ∷ []) at ∙ sym (take_more parts i part l) in
      subst (λ z. Are (all_of z) new) more (adds (take i parts) before)

  pub parts_all : (n : ℕ) (cubes : List (List Pair)) → length parts ≤ n → Are (all_of (take n parts)) cubes → Are (all_of parts) cubes
  parts_all n cubes l ways = subst (λ z. Are (all_of z) cubes) (take_all n parts l) ways

-- parts of what is within are
pub parts_within : (components variables : ℕ) (parts : List Formula) → is_within components variables (all_of parts) ≡ true → All (λ part. is_within components variables part ≡ true) parts
parts_within components variables parts h = each parts (sym (fold-roll-Formula Bool (within_step components variables) (Formula-F.All parts)) ∙ h)
  where
    each : (parts : List Formula) → list_all (λ b. b) (map (is_within components variables) parts) ≡ true → All (λ part. is_within components variables part ≡ true) parts
    each [] k = All-nil (λ part. is_within components variables part ≡ true)
    each (part ∷ parts) k =
        let both = and_parts (is_within components variables part) (list_all (λ b. b) (map (is_within components variables) parts)) k in
        All-cons (λ part. is_within components variables part ≡ true) part parts both.0 (each parts both.1)
