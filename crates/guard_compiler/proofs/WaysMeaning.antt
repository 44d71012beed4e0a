-- From clauses over states to the move's prime implicants.
use Rattle.std.proofs.Common.{◌≡◌, ℕ, ◌<◌, ◌≤◌, ◌≢◌, Bool, true, false, not, ◌&&◌, eqb, List, [], ◌∷◌, ◌++◌, length, Some, None, refl, sym, ◌∙◌, ap, subst, arith, set, get_or, take, drop, filter, zero, suc, All, Contains, slice_get, IsTrue, ◌↔◌, ◌⊎◌, inl, inr, length-append}
use Rattle.std.specs.List.{list_all}
use Rattle.std.proofs.lemmas.List.{length-map, set-get_or, set-append_left}
use Rattle.std.proofs.Math.Seq.{take-append_seam, drop-append_seam}
use Rattle.std.proofs.lemmas.List.Elements.{All-weaker, All-cons, All-contains}
use Rattle.std.proofs.lemmas.Option.{get_or_from_slice_get, slice_get_within}
use Rattle.std.proofs.lemmas.Bool.Decides.{nat_tests}
use Rattle.std.proofs.lemmas.Bool.{and_parts, true_from_ne_false}
use Rattle.list_laws.proofs.Members.{all_from, to_filter, from_filter}
use Rattle.cca_base.specs.declared.cube.Pair.{Pair}
use Rattle.cca_base.specs.declared.model.Move.{Move}
use Rattle.cca_base.specs.declared.formula.Formula.{Formula}
use Rattle.cca_base.specs.PlantModel.{PlantModel}
use Rattle.cca_base.specs.Model.{HasMode, IsMove, WellFormed, mode_counts, value_counts}
use Rattle.cca_base.specs.Formula.{truth, is_within}
use Rattle.cca_base.specs.Cube.{IsPart, Lacks}
use Rattle.cca_base.specs.State.{IsState, IsWorld, Extends}
use Rattle.cca_base.specs.Implicants.{source_pair, Suffices, PrimeImplicant}
use Rattle.cca_base.specs.Accepted.{AreWays}
use Rattle.cca_base.specs.declared.limits.TheConstants.{MAX_WAYS}
use Rattle.cca_base.proofs.Within.{place_within, fits_within}
use Rattle.clause_form.specs.declared.clause.Clauses.{Clauses}
use Rattle.clause_form.specs.Clauses.{AreValues, all_met}
use Rattle.clause_form.specs.Formulas.{is_asked}
use Rattle.clause_form.proofs.ModelSizes.{state_values}
use Rattle.clause_form.proofs.SetValues.{values_set}
use Rattle.guard_compiler.specs.Asked.{AreAskedOf}
use Rattle.prime_implicants.specs.Primes.{IsBlocked, IsPrime, AreAllPrimes, AreMorePrimes}
use Rattle.prime_implicants.specs.Many.{AreMoreCubes}
use Rattle.prime_implicants.proofs.PartialPairs.{one_of_each}
use Rattle.cca_base.proofs.Counting.{not_among_fewer}
use Rattle.prime_implicants.proofs.FoundKeys.{list_all_if}
use Rattle.prime_implicants.proofs.DenseClauseLaws.{list_all_get}
use Rattle.elimination.specs.Projection.{IsProjection}
use Rattle.guard_compiler.specs.Ways.{HasManyWays}

-- the clauses are true of a state exactly where, once the move's component has its source, some values make every rule true and the guard false
pub record AreStatesOf (m : PlantModel) (move : Move) (states : Clauses) : Type 0 where
  pub source : HasMode m move.component move.source
  pub sizes : states.sizes ≡ mode_counts m
  pub meaning : (s : List ℕ) → AreValues (mode_counts m) s → IsTrue (all_met s states.clauses)
      ↔ ((w : List ℕ) × AreValues (value_counts m) w × IsTrue (is_asked m None (Some move.guard) (set s move.component move.source) w))

same_or_not : (i j : ℕ) → (i ≡ j) ⊎ (i ≢ j)
same_or_not i j = grind arith

pub to_state : (m : PlantModel) (s : List ℕ) → AreValues (mode_counts m) s → IsState m s
to_state m s v =
    let long = length-map m.components (λ c. length c.modes) in
    record { full = v.full ∙ long; modes = λ c h. v.values c (omega (arith, long)) }

-- ---- the clauses that are asked for

pub move_of : (m : PlantModel) (i : ℕ) (move : Move) → WellFormed m → slice_get m.moves i ≡ Some move → IsMove m move
move_of m i move k h = subst (IsMove m) (get_or_from_slice_get m.moves i move move h) (k.moves i move (slice_get_within m.moves i move h))

pub guard_within : (m : PlantModel) (move : Move) → IsMove m move → is_within (length m.components) (length m.variables) move.guard ≡ true
guard_within m move k =
    subst (λ n. is_within n (length m.variables) move.guard ≡ true) (length-map m.components (λ c. length c.modes))
    (subst (λ n. is_within (length (mode_counts m)) n move.guard ≡ true) (length-map m.variables (λ v. length v.values)) (fits_within (mode_counts m) (value_counts m) move.guard k.guard.fits))

pub component_inside : (m : PlantModel) (component mode : ℕ) (sizes : List ℕ) → HasMode m component mode → sizes ≡ mode_counts m ++ value_counts m → component < length sizes
component_inside m component mode sizes source e =
    omega (arith, ap length e, length-append (mode_counts m) (value_counts m), place_within (mode_counts m) component (omega (arith, source)))

-- what the calls before the primes give
pub record AreSteps (m : PlantModel) (move : Move) (asked fixed states : Clauses) (n : ℕ) : Type 0 where
  pub count : n ≡ length m.components
  pub source : HasMode m move.component move.source
  pub asks : AreAskedOf m move.guard asked
  pub fixed_sizes : fixed.sizes ≡ asked.sizes
  pub fixes : (xs : List ℕ) → length xs ≡ length asked.sizes → all_met xs fixed.clauses ≡ all_met (set xs move.component move.source) asked.clauses
  pub states_sizes : states.sizes ≡ take n fixed.sizes
  pub projects : IsProjection fixed n states

fixed_means : (m : PlantModel) (move : Move) (asked fixed : Clauses) (s w : List ℕ) → HasMode m move.component move.source → AreAskedOf m move.guard asked
    → ((xs : List ℕ) → length xs ≡ length asked.sizes → all_met xs fixed.clauses ≡ all_met (set xs move.component move.source) asked.clauses)
    → AreValues (mode_counts m) s → AreValues (value_counts m) w
    → all_met (s ++ w) fixed.clauses ≡ all_met (set s move.component move.source ++ w) asked.clauses
fixed_means m move asked fixed s w source a f v u =
    let c = move.component in
    let inside : c < length s = omega (arith, place_within (mode_counts m) c (omega (arith, source)), v.full) in
    let long : length (s ++ w) ≡ length asked.sizes =
    omega (arith, length-append s w, ap length a.sizes, length-append (mode_counts m) (value_counts m), v.full, u.full) in
    f (s ++ w) long ∙ ap (λ z. all_met z asked.clauses) (set-append_left s w c move.source inside)

pub states_of : (m : PlantModel) (move : Move) (asked fixed states : Clauses) (n : ℕ) → AreSteps m move asked fixed states n → AreStatesOf m move states
states_of m move asked fixed states n k =
    let all : fixed.sizes ≡ mode_counts m ++ value_counts m = k.fixed_sizes ∙ k.asks.sizes in
    let long : n ≡ length (mode_counts m) = k.count ∙ sym (length-map m.components (λ c. length c.modes)) in
    let first : take n fixed.sizes ≡ mode_counts m =
    ap (take n) all ∙ ap (λ z. take z (mode_counts m ++ value_counts m)) long ∙ take-append_seam (mode_counts m) (value_counts m) in
    let rest : drop n fixed.sizes ≡ value_counts m =
    ap (drop n) all ∙ ap (λ z. drop z (mode_counts m ++ value_counts m)) long ∙ drop-append_seam (mode_counts m) (value_counts m) in
    record {
      source = k.source;
      sizes = k.states_sizes ∙ first;
      meaning = λ s v.
          let there = k.projects s (subst (λ z. AreValues z s) (sym first) v) in
          let asks = k.asks.meaning (set s move.component move.source) (values_set (mode_counts m) s move.component move.source v k.source) in (
            (λ t. let r = there.0 t in let u = subst (λ z. AreValues z r.0) rest r.1 in
                asks.0 (r.0, u, sym (fixed_means m move asked fixed s r.0 k.source k.asks k.fixes v u) ∙ r.2)),
            (λ r. let q = asks.1 r in there.1 (q.0, subst (λ z. AreValues z q.0) (sym rest) q.1, fixed_means m move asked fixed s q.0 k.source k.asks k.fixes v q.1 ∙ q.2)),
          );
    }

-- ---- worlds with the guard false

not_both : (b : Bool) → b ≡ true → not b ≡ true → ⊥
not_both true t n = cc
not_both false t n = cc

-- every rule is true, and the guard is false
pub false_in : (m : PlantModel) (guard : Formula) (s w : List ℕ) → AreValues (value_counts m) w → is_asked m None (Some guard) s w ≡ true → IsWorld m s w × (truth s w guard ≡ true → ⊥)
false_in m guard s w v asked =
    let long = length-map m.variables (λ v. length v.values) in
    let parts = and_parts (list_all (truth s w) m.rules && true) (not (truth s w guard)) asked in
    let rules = (and_parts (list_all (truth s w) m.rules) true parts.0).0 in (
      record { full = v.full ∙ long; values = λ i h. v.values i (omega (arith, long)); rules = λ k d l. list_all_get (truth s w) m.rules k d l rules },
      λ t. not_both (truth s w guard) t parts.1,
    )

all_true : (a b : Bool) → a ≡ true → b ≡ false → ((a && true) && not b) ≡ true
all_true a b e f = rw (e, f) refl

pub asked_of : (m : PlantModel) (guard : Formula) (s w : List ℕ) → IsWorld m s w → truth s w guard ≡ false → AreValues (value_counts m) w × (is_asked m None (Some guard) s w ≡ true)
asked_of m guard s w k f =
    let long = length-map m.variables (λ v. length v.values) in (
      record { full = k.full ∙ sym long; values = λ i h. k.values i (omega (arith, long)) },
      all_true (list_all (truth s w) m.rules) (truth s w guard) (list_all_if (truth s w) m.rules (λ r h. All-contains (λ rule. truth s w rule ≡ true) m.rules r k.rules h)) f,
    )

-- ---- values read after a change

slice_get-set_same : (s : List ℕ) (c v : ℕ) → c < length s → slice_get (set s c v) c ≡ Some v
slice_get-set_same [] c v h = absurd (omega arith)
slice_get-set_same (x ∷ s) zero v h = refl
slice_get-set_same (x ∷ s) (suc c) v h = slice_get-set_same s c v (omega arith)

slice_get-set_other : (s : List ℕ) (c i v : ℕ) → i ≢ c → slice_get (set s c v) i ≡ slice_get s i
slice_get-set_other [] c i v n = refl
slice_get-set_other (x ∷ s) zero zero v n = absurd (n refl)
slice_get-set_other (x ∷ s) zero (suc i) v n = refl
slice_get-set_other (x ∷ s) (suc c) zero v n = refl
slice_get-set_other (x ∷ s) (suc c) (suc i) v n = slice_get-set_other s c i v (λ e. n (ap suc e))

set_there : (s : List ℕ) (c v : ℕ) → slice_get s c ≡ Some v → set s c v ≡ s
set_there s c v h = ap (set s c) (sym (get_or_from_slice_get s c v 0 h)) ∙ set-get_or s c 0

set-set : (s : List ℕ) (c v w : ℕ) → set (set s c v) c w ≡ set s c w
set-set [] c v w = refl
set-set (x ∷ s) zero v w = refl
set-set (x ∷ s) (suc c) v w = ap (λ z. x ∷ z) (set-set s c v w)

extends_other : (s : List ℕ) (c v : ℕ) (cube : List Pair) → Lacks c cube → Extends s cube → Extends (set s c v) cube
extends_other s c v cube lacks x k d l = slice_get-set_other s c _ v (lacks k d l) ∙ x k d l

-- ---- blocked is sufficient

suffices_blocks : (m : PlantModel) (move : Move) (states : Clauses) (cube : List Pair) → AreStatesOf m move states → Lacks move.component cube → Suffices m move cube → IsBlocked states cube
suffices_blocks m move states cube of lacks enough s v met x =
    let c = move.component in
    let counted : AreValues (mode_counts m) s = subst (λ z. AreValues z s) of.sizes v in
    let r = (of.meaning s counted).0 met in
    let there = false_in m move.guard (set s c move.source) r.0 r.1 r.2 in
    let state = to_state m (set s c move.source) (values_set (mode_counts m) s c move.source counted of.source) in
    let inside : c < length s = omega (arith, place_within (mode_counts m) c (omega (arith, of.source)), counted.full) in
    let extends = All-cons (λ p. slice_get (set s c move.source) p.item ≡ Some p.value) (source_pair move) cube
    (slice_get-set_same s c move.source inside) (extends_other s c move.source cube lacks x) in
    there.1 (enough (set s c move.source) state extends r.0 there.0)

blocks_suffices : (m : PlantModel) (move : Move) (states : Clauses) (cube : List Pair) → AreStatesOf m move states → IsBlocked states cube → Suffices m move cube
blocks_suffices m move states cube of blocked s state x w world = true_from_ne_false (truth s w move.guard) (λ f.
    let c = move.component in
    let counted = state_values m s state in
    let asked = asked_of m move.guard s w world f in
    let there : set s c move.source ≡ s = set_there s c move.source (x 0 (source_pair move) (omega arith)) in
    let met = (of.meaning s counted).1 (w, asked.0, subst (λ z. is_asked m None (Some move.guard) z w ≡ true) (sym there) asked.1) in
    blocked s (subst (λ z. AreValues z s) (sym of.sizes) counted) met (λ k d l. x (suc k) d (omega arith)))

-- ---- no prime cube has a pair of the move's component

is_other_pair : ℕ → Pair → Bool
is_other_pair c p = not (eqb p.item c)

other_if : (c : ℕ) (p : Pair) → p.item ≢ c → is_other_pair c p ≡ true
unfolding is_other_pair
other_if c p n = grind (arith, nat_tests)

other_then : (c : ℕ) (p : Pair) → is_other_pair c p ≡ true → p.item ≢ c
unfolding is_other_pair
other_then c p e s = grind (arith, nat_tests)

others_block : (m : PlantModel) (move : Move) (states : Clauses) (cube : List Pair) (p : Pair) → AreStatesOf m move states → IsPrime states cube → Contains cube p → p.item ≡ move.component
    → IsBlocked states (filter (is_other_pair move.component) cube)
others_block m move states cube p of f here own s v met x =
    let c = move.component in
    let counted : AreValues (mode_counts m) s = subst (λ z. AreValues z s) of.sizes v in
    let value : p.value < get_or (mode_counts m) c 0 = subst (λ z. p.value < get_or (mode_counts m) z 0) own
    (subst (λ z. p.value < get_or z p.item 0) of.sizes (All-contains (λ p. p.value < get_or states.sizes p.item 0) cube p f.values here)) in
    let other = values_set (mode_counts m) s c p.value counted value in
    let r = (of.meaning s counted).0 met in
    let again = (of.meaning (set s c p.value) other).1 (r.0, r.1, subst (λ z. is_asked m None (Some move.guard) z r.0 ≡ true) (sym (set-set s c p.value move.source)) r.2) in
    let inside : c < length s = omega (arith, place_within (mode_counts m) c (omega (arith, value)), counted.full) in
    f.blocked (set s c p.value) (subst (λ z. AreValues z (set s c p.value)) (sym of.sizes) other) again
    (all_from (λ q. slice_get (set s c p.value) q.item ≡ Some q.value) cube (λ q h. elim (same_or_not q.item c) [
      | inl e ↦
          let same : p ≡ q = one_of_each cube p q f.rising here h (own ∙ sym e) in
          subst (λ z. slice_get (set s c p.value) z.item ≡ Some z.value) same (subst (λ z. slice_get (set s c p.value) z ≡ Some p.value) (sym own) (slice_get-set_same s c p.value inside))
      | inr n ↦
          slice_get-set_other s c q.item p.value n
          ∙ All-contains (λ q. slice_get s q.item ≡ Some q.value) (filter (is_other_pair c) cube) q x (to_filter (is_other_pair c) cube q (other_if c q n) h)
    ]))

prime_lacks : (m : PlantModel) (move : Move) (states : Clauses) (cube : List Pair) → AreStatesOf m move states → IsPrime states cube → Lacks move.component cube
prime_lacks m move states cube of f = all_from (λ p. p.item ≢ move.component) cube (λ p here own.
    let c = move.component in
    let part = filter (is_other_pair c) cube in
    let less : IsPart part cube = all_from (Contains cube) part (λ q h. (from_filter (is_other_pair c) cube q h).1) in
    let whole = f.minimal part less (others_block m move states cube p of f here own) in
    other_then c p (from_filter (is_other_pair c) cube p (All-contains (Contains part) cube p whole here)).0 own)

part_lacks : (c : ℕ) (part cube : List Pair) → IsPart part cube → Lacks c cube → Lacks c part
part_lacks c part cube less lacks k d l = All-contains (λ p. p.item ≢ c) cube _ lacks (less k d l)

-- ---- prime cubes of the states are prime implicants

implicant_of : (m : PlantModel) (move : Move) (states : Clauses) (cube : List Pair) → AreStatesOf m move states → IsPrime states cube → PrimeImplicant m move cube
implicant_of m move states cube of f =
    let lacks = prime_lacks m move states cube of f in
    record {
      rising = f.rising;
      modes = subst (λ z. All (λ p. p.value < get_or z p.item 0) cube) of.sizes f.values;
      others = lacks;
      suffices = blocks_suffices m move states cube of f.blocked;
      minimal = λ part less enough. f.minimal part less (suffices_blocks m move states part of (part_lacks move.component part cube less lacks) enough);
    }

prime_of : (m : PlantModel) (move : Move) (states : Clauses) (cube : List Pair) → AreStatesOf m move states → PrimeImplicant m move cube → IsPrime states cube
prime_of m move states cube of f = record {
  rising = f.rising;
  values = subst (λ z. All (λ p. p.value < get_or z p.item 0) cube) (sym of.sizes) f.modes;
  blocked = suffices_blocks m move states cube of f.others f.suffices;
  minimal = λ part less b. f.minimal part less (blocks_suffices m move states part of b);
}

pub all_ways : (m : PlantModel) (move : Move) (states : Clauses) (most : ℕ) (cubes : List (List Pair)) → AreStatesOf m move states → AreAllPrimes states most cubes → AreWays m move cubes
all_ways m move states most cubes of a = record {
  in_order = a.in_order;
  each = λ cube. ((λ h. implicant_of m move states cube of ((a.each cube).0 h)), (λ f. (a.each cube).1 (prime_of m move states cube of f)));
}

pub more_cubes : (P Q : List Pair → Type 0) (most : ℕ) → ((cube : List Pair) → P cube → Q cube) → AreMoreCubes most P → AreMoreCubes most Q
more_cubes P Q most then a = record { cubes = a.cubes; in_order = a.in_order; each = All-weaker P Q then a.cubes a.each; many = a.many }

pub many_ways : (m : PlantModel) (move : Move) (states : Clauses) → AreStatesOf m move states → AreMorePrimes states MAX_WAYS ↔ HasManyWays m move
many_ways m move states of = (
  more_cubes (IsPrime states) (PrimeImplicant m move) MAX_WAYS (λ cube. implicant_of m move states cube of),
  more_cubes (PrimeImplicant m move) (IsPrime states) MAX_WAYS (λ cube. prime_of m move states cube of),
)

-- there are not both few prime implicants and many
pub not_many : (m : PlantModel) (move : Move) (cubes : List (List Pair)) → AreWays m move cubes → length cubes ≤ MAX_WAYS → HasManyWays m move → ⊥
not_many m move cubes a few k = not_among_fewer k.cubes cubes MAX_WAYS k.in_order (λ i d l. (a.each (get_or k.cubes i d)).1 (k.each i d l)) k.many few
