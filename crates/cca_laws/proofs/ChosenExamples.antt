-- What is named and what is chosen.
use Rattle.std.proofs.Common.{◌≡◌, ◌<◌, ℕ, zero, suc, Bool, false, List, [], ◌∷◌, ◌++◌, Some, All, refl, sym, ap, subst, ◌∙◌, arith}
use Rattle.std.specs.Prelude.{slice_get, slice_index, IsTrue}
use Rattle.std.specs.List.{list_any}
use Rattle.std.proofs.lemmas.Bool.{false≢true}
use Rattle.std.proofs.lemmas.List.Elements.{All-nil}
use Rattle.std.proofs.lemmas.Option.{same_Some}
use Rattle.list_laws.proofs.Places.{value_at}
use Rattle.list_laws.proofs.Members.{contains_none}
use Rattle.cca_base.specs.declared.cube.Pair.{Pair}
use Rattle.cca_base.specs.declared.model.Move.{Move}
use Rattle.cca_base.specs.Formula.{truth}
use Rattle.cca_base.specs.Sets.{has}
use Rattle.cca_base.specs.Cube.{IsBeforeCube}
use Rattle.cca_base.specs.Model.{HasMode, is_broken}
use Rattle.cca_base.specs.State.{IsState, IsWorld}
use Rattle.cca_base.specs.Steps.{Reach, AllowedPlan}
use Rattle.cca_base.specs.Implicants.{PrimeImplicant, Suffices, source_pair}
use Rattle.cca_base.specs.Choice.{IsWithinReach, IsOpenAt, ComesNearer}
use Rattle.list_laws.proofs.Few.{one_at, two_at, below_three}
use Rattle.cca_laws.proofs.FreeMoves.{free_prime, single_prime}
use Rattle.cca_laws.proofs.ChoiceLaws.{open_free, none_away, one_away, least_cube, longer_is_later}
use Rattle.cca_laws.proofs.FormulaExamples.{truth_mode, truth_either}
use Rattle.cca_laws.specs.Examples.{on_move}
use Rattle.cca_laws.specs.FormulaExamples.{mode_in}
use Rattle.cca_laws.specs.CostExamples.{three}
use Rattle.cca_laws.specs.ChosenExamples.{p_is_bad, q_is_bad, FirstIsNamed, other_move, two_switches, FirstMoveIsChosen, either_move, either_model, a_is_on, FirstCubeIsChosen}

-- ---- unreachable pairs

-- without commands only what stands is reached
stays : (s ks s2 : List ℕ) → AllowedPlan three s ks s2 → s2 ≡ s
stays s [] s2 e = e
stays s (k ∷ ks) s2 (mid, allowed, rest) = absurd (contains_none allowed.step.move allowed.step.of_model)

abbrev all_ok : List ℕ
all_ok = 0 ∷ 0 ∷ 0 ∷ []

ok_at : (c : ℕ) → c < 3 → slice_get all_ok c ≡ Some 1 → ⊥
ok_at = below_three (λ c. slice_get all_ok c ≡ Some 1 → ⊥) (λ e. absurd cc) (λ e. absurd cc) (λ e. absurd cc)

not_bad : (c : ℕ) → c < 3 → Reach three all_ok c 1 → ⊥
not_bad c below (ks, s2, plan, e) = ok_at c below (ap (λ s. slice_get s c) (sym (stays all_ok ks s2 plan)) ∙ e)

abbrev IsReached : Pair → Type 0
IsReached q = Reach three all_ok q.item q.value

first_is : (p : Pair) (ps : List Pair) → p_is_bad ∷ q_is_bad ∷ [] ≡ p ∷ ps → p_is_bad ≡ p
first_is p ps e = same_Some p_is_bad p (ap (λ (qs : List Pair). slice_get qs 0) e)

second_is_not : (before after : List Pair) → p_is_bad ∷ q_is_bad ∷ [] ≡ before ++ q_is_bad ∷ after → All IsReached before → ⊥
second_is_not [] after e reached = absurd (omega (arith, ap (λ (p : Pair). p.item) (first_is q_is_bad after e)))
second_is_not (p ∷ before) after e reached =
    not_bad 0 (omega arith) (subst IsReached (sym (first_is p (before ++ q_is_bad ∷ after) e)) (reached 0 p (omega arith)))

pub first_is_named : FirstIsNamed
first_is_named = (
  record { before = []; after = q_is_bad ∷ []; split = refl; reached = All-nil _; unreached = not_bad 0 (omega arith) },
  λ h. second_is_not h.before h.after h.split h.reached,
)

-- ---- moves

on_is_open : IsOpenAt two_switches (0 ∷ []) on_move
on_is_open = open_free two_switches (0 ∷ []) on_move refl

on_comes_nearer : ComesNearer two_switches (0 ∷ []) 0 1 on_move
on_comes_nearer = record {
  own = refl;
  source = refl;
  open_move = on_is_open;
  rest = 0;
  before = one_away two_switches (0 ∷ []) on_move (0, omega arith, refl) on_is_open (λ e. absurd (omega (arith, e)));
  after = none_away two_switches (0 ∷ []) 0 1;
}

-- the other move stands behind it
other_is_later : (at : ℕ) → slice_get two_switches.moves at ≡ Some other_move → 0 < at
other_is_later zero e = absurd (omega (arith, ap (λ (y : Move). y.command) (same_Some on_move other_move e)))
other_is_later (suc at) e = omega arith

pub first_move_is_chosen : FirstMoveIsChosen
first_move_is_chosen = (
  record {
    at = 0;
    move_at = refl;
    nearer = on_comes_nearer;
    first_move = λ earlier other h. absurd (omega arith);
    prime = free_prime two_switches on_move refl;
    reached = All-nil _;
    first_cube = λ other h k before. least_cube other before;
  },
  λ h. h.first_move 0 on_move (other_is_later h.at h.move_at) refl on_comes_nearer,
)

-- ---- cubes

abbrev says : ℕ → ℕ → Bool
says a b = list_any (λ x. x) (has 2 a ∷ has 2 b ∷ [])

guard_is : (s w : List ℕ) → truth s w either_move.guard ≡ says (slice_index s 0) (slice_index s 1)
guard_is s w = truth_either s w (mode_in 0 2) (mode_in 1 2) _ _ (truth_mode s w 0 2) (truth_mode s w 1 2)

abbrev all_off : List ℕ
all_off = 0 ∷ 0 ∷ 0 ∷ []

abbrev both_on : List ℕ
both_on = 1 ∷ 1 ∷ 0 ∷ []

off_state : IsState either_model all_off
off_state = record {
  full = refl;
  modes = below_three (λ c. HasMode either_model c (slice_index all_off c)) (omega arith) (omega arith) (omega arith);
}

off_world : IsWorld either_model all_off []
off_world = record {
  full = refl;
  values = λ v h. absurd (omega arith);
  rules = All-nil (λ rule. IsTrue (truth all_off [] rule));
}

abbrev IsOff : Pair → Type 0
IsOff p = slice_get all_off p.item ≡ Some p.value

-- what holds where all are off does not suffice
too_little : (pairs : List Pair) → All IsOff (source_pair either_move ∷ pairs) → Suffices either_model either_move pairs → ⊥
too_little pairs extends suffices = false≢true (sym (guard_is all_off []) ∙ suffices all_off off_state extends [] off_world)

nothing_is_too_little : Suffices either_model either_move [] → ⊥
nothing_is_too_little = too_little [] (one_at IsOff (source_pair either_move) refl)

abbrev a_is_off : Pair
a_is_off = record { item = 0; value = 0 }

a_off_is_too_little : Suffices either_model either_move (a_is_off ∷ []) → ⊥
a_off_is_too_little = too_little (a_is_off ∷ []) (two_at IsOff (source_pair either_move) a_is_off refl refl)

a_suffices : Suffices either_model either_move (a_is_on ∷ [])
a_suffices s state extends w world =
    guard_is s w ∙ ap (λ a. says a (slice_index s 1)) (value_at s 0 1 (extends 1 a_is_on (omega arith)))

a_is_prime : PrimeImplicant either_model either_move (a_is_on ∷ [])
a_is_prime =
    single_prime either_model either_move a_is_on (omega arith) (λ e. absurd (omega (arith, e))) a_suffices
    nothing_is_too_little

a_is_reached : IsWithinReach either_model both_on (a_is_on ∷ [])
a_is_reached =
    one_at (λ (p : Pair). Reach either_model both_on p.item p.value × (is_broken either_model.moves p.item p.value ≡ false))
    a_is_on (([], both_on, refl, refl), refl)

a_is_enough : IsOpenAt either_model both_on either_move
a_is_enough = (a_is_on ∷ [], a_is_prime, a_is_reached)

-- of single pairs only a = off comes before a = on
only_off_before : (i v : ℕ) → HasMode either_model i v → IsBeforeCube (record { item = i; value = v } ∷ []) (a_is_on ∷ [])
    → (i ≡ 0) × (v ≡ 0)
only_off_before zero zero h before = (refl, refl)
only_off_before zero (suc zero) h before = absurd cc
only_off_before zero (suc (suc v)) h before = absurd (omega arith)
only_off_before (suc zero) v h before = absurd cc
only_off_before (suc (suc zero)) v h before = absurd cc
only_off_before (suc (suc (suc i))) v h before = absurd (omega arith)

nothing_before : (other : List Pair) → PrimeImplicant either_model either_move other → IsBeforeCube other (a_is_on ∷ []) → ⊥
nothing_before [] prime before = nothing_is_too_little prime.suffices
nothing_before (p ∷ []) prime before =
    let off = only_off_before p.item p.value (prime.modes 0 p (omega arith)) before in
    let same : p ≡ a_is_off = λ i. record { item = off.0 i; value = off.1 i } in
    a_off_is_too_little (subst (λ q. Suffices either_model either_move (q ∷ [])) same prime.suffices)
nothing_before (p ∷ q ∷ other) prime before = longer_is_later (p ∷ q ∷ other) (a_is_on ∷ []) (omega arith) before

pub first_cube_is_chosen : FirstCubeIsChosen
first_cube_is_chosen = (
  record {
    at = 0;
    move_at = refl;
    nearer = record {
      own = refl;
      source = refl;
      open_move = a_is_enough;
      rest = 0;
      before = one_away either_model both_on either_move (0, omega arith, refl) a_is_enough (λ e. absurd (omega (arith, e)));
      after = none_away either_model both_on 2 1;
    };
    first_move = λ earlier other h. absurd (omega arith);
    prime = a_is_prime;
    reached = a_is_reached;
    first_cube = λ other prime reached before. nothing_before other prime before;
  },
  λ h. h.first_cube (a_is_on ∷ []) a_is_prime a_is_reached refl,
)
