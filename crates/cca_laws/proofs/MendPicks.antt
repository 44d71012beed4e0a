-- Which commands are picked in the model with a reset.
use Rattle.std.proofs.Common.{◌≡◌, ◌≢◌, ◌<◌, ◌≤◌, ◌+◌, ◌*◌, ℕ, zero, suc, false, inl, inr, List, [], ◌∷◌, Some, Contains, refl, sym, ap, subst, ◌∙◌, arith}
use Rattle.std.specs.Prelude.{slice_get}
use Rattle.std.proofs.lemmas.List.Sorted.{IsPermutation-refl}
use Rattle.std.proofs.lemmas.Option.{slice_get-get_or, same_Some, none-some}
use Rattle.std.proofs.lemmas.List.Elements.{All-nil}
use Rattle.cca_base.specs.declared.cube.Pair.{Pair}
use Rattle.cca_base.specs.declared.model.Move.{Move}
use Rattle.cca_base.specs.Choice.{IsWithinReach, IsDistance, Walk, ComesNearer, IsChosen, Picks, Now, First, PicksForGoal}
use Rattle.cca_base.specs.Cube.{IsBeforeCube}
use Rattle.cca_base.specs.Implicants.{PrimeImplicant}
use Rattle.cca_base.specs.Model.{is_broken}
use Rattle.cca_base.specs.Orders.{IsNextOf}
use Rattle.cca_base.specs.Steps.{Reach}
use Rattle.list_laws.proofs.Few.{one_at}
use Rattle.cca_laws.proofs.ChoiceLaws.{open_free, none_away, one_away, least_cube}
use Rattle.cca_laws.proofs.FreeMoves.{free_prime}
use Rattle.cca_laws.proofs.MendImplicants.{z_is_prime, only_z}
use Rattle.cca_laws.proofs.MendSteps.{reset_allowed, z_allowed}
use Rattle.cca_laws.proofs.ExcuseExamples.{agrees_with_none}
use Rattle.cca_laws.specs.Examples.{always_true}
use Rattle.cca_laws.specs.MendExamples.{reset_move, z_move, ok_move, go_move, back_move, mending, mending_compiled, c_is_ok, c_is_z, b_is_x, b_is_y}

-- a mode has one move only: by the component and the source its place is known
by_place : (i : ℕ) (move : Move) → slice_get mending.moves i ≡ Some move → i ≡ 3 * move.component + move.source
by_place zero move e = ap (λ (y : Move). 3 * y.component + y.source) (same_Some reset_move move e)
by_place (suc zero) move e = ap (λ (y : Move). 3 * y.component + y.source) (same_Some z_move move e)
by_place (suc (suc zero)) move e = ap (λ (y : Move). 3 * y.component + y.source) (same_Some ok_move move e)
by_place (suc (suc (suc zero))) move e = ap (λ (y : Move). 3 * y.component + y.source) (same_Some go_move move e)
by_place (suc (suc (suc (suc zero)))) move e = ap (λ (y : Move). 3 * y.component + y.source) (same_Some back_move move e)
by_place (suc (suc (suc (suc (suc i))))) move e = absurd (none-some move e)

module _ (s : List ℕ) (to at : ℕ) (move : Move) (here : slice_get mending.moves at ≡ Some move) (nearer : ComesNearer mending s move.component to move) where
  chosen : (cube : List Pair) → PrimeImplicant mending move cube → IsWithinReach mending s cube → ((other : List Pair) → PrimeImplicant mending move other → IsBeforeCube other cube → ⊥)
      → IsChosen mending s move.component to move cube
  chosen cube prime reached first = record {
    at = at;
    move_at = here;
    nearer = nearer;
    first_move = λ earlier other lt e near.
        absurd (omega (arith, lt, by_place at move here, by_place earlier other e, near.own, same_Some other.source move.source (sym near.source ∙ nearer.source)));
    prime = prime;
    reached = reached;
    first_cube = λ other h within before. first other h before;
  }

  free_chosen : move.guard ≡ always_true → IsChosen mending s move.component to move []
  free_chosen e = chosen [] (free_prime mending move e) (All-nil (λ (p : Pair). Reach mending s p.item p.value × (is_broken mending.moves p.item p.value ≡ false))) (λ other h. least_cube other)

-- from m to z it is two
two_away : (s : List ℕ) → IsDistance mending s 0 0 2 2
two_away s = (
  (
    reset_move,
    (0, omega arith, refl),
    refl,
    refl,
    open_free mending s reset_move refl,
    (z_move, (1, omega arith, refl), refl, refl, open_free mending s z_move refl, refl),
  ),
  no_shorter,
)
  where
    from_m : (move : Move) → Contains mending.moves move → move.component ≡ 0 → move.source ≡ 0 → 1 ≡ move.target
    from_m move (zero, lt, e) own from = ap (λ (y : Move). y.target) e
    from_m move (suc i, lt, e) own from = absurd (omega (arith, own, from, by_place (suc i) move (slice_get-get_or mending.moves (suc i) move lt ∙ ap Some e)))

    no_shorter : (fewer : ℕ) → Walk mending s 0 0 2 fewer → 2 ≤ fewer
    no_shorter zero h = absurd (omega (arith, h))
    no_shorter (suc zero) (move, of_model, own, from, is_open, e) = absurd (omega (arith, e, from_m move of_model own from))
    no_shorter (suc (suc fewer)) h = omega arith

-- a free move to the mode itself
near_chosen : (s : List ℕ) (at : ℕ) (move : Move) → slice_get mending.moves at ≡ Some move → Contains mending.moves move → move.guard ≡ always_true
    → slice_get s move.component ≡ Some move.source → move.source ≢ move.target → IsChosen mending s move.component move.target move []
near_chosen s at move here own e from other =
    free_chosen s move.target at move here
    (record {
      own = refl;
      source = from;
      open_move = open_free mending s move e;
      rest = 0;
      before = one_away mending s move own (open_free mending s move e) other;
      after = none_away mending s move.component move.target;
    })
    e

go_chosen : IsChosen mending (0 ∷ 0 ∷ []) 1 1 go_move []
go_chosen = near_chosen (0 ∷ 0 ∷ []) 3 go_move refl (3, omega arith, refl) refl refl (λ e. absurd (omega (arith, e)))

z_chosen : IsChosen mending (1 ∷ 1 ∷ []) 0 2 z_move []
z_chosen = near_chosen (1 ∷ 1 ∷ []) 1 z_move refl (1, omega arith, refl) refl refl (λ e. absurd (omega (arith, e)))

ok_chosen : IsChosen mending (2 ∷ 0 ∷ []) 0 1 ok_move []
ok_chosen = near_chosen (2 ∷ 0 ∷ []) 2 ok_move refl (2, omega arith, refl) refl refl (λ e. absurd (omega (arith, e)))

reset_chosen : IsChosen mending (0 ∷ 1 ∷ []) 0 2 reset_move []
reset_chosen =
    let s : List ℕ = 0 ∷ 1 ∷ [] in
    free_chosen s 2 0 reset_move refl
    (record {
      own = refl;
      source = refl;
      open_move = open_free mending s reset_move refl;
      rest = 1;
      before = two_away s;
      after = one_away mending s z_move (1, omega arith, refl) (open_free mending s z_move refl) (λ e. absurd (omega (arith, e)));
    })
    refl

not_before_itself : IsBeforeCube (c_is_z ∷ []) (c_is_z ∷ []) → ⊥
not_before_itself h = absurd cc

-- b's way back is chosen wherever c can come to z
back_chosen : (c : ℕ) → Reach mending (c ∷ 1 ∷ []) 0 2 → IsChosen mending (c ∷ 1 ∷ []) 1 0 back_move (c_is_z ∷ [])
back_chosen c reach =
    let s : List ℕ = c ∷ 1 ∷ [] in
    let within : IsWithinReach mending s (c_is_z ∷ []) = one_at (λ (p : Pair). Reach mending s p.item p.value × (is_broken mending.moves p.item p.value ≡ false)) c_is_z (reach, refl) in
    chosen s 0 4 back_move refl
    (record {
      own = refl;
      source = refl;
      open_move = (c_is_z ∷ [], z_is_prime, within);
      rest = 0;
      before = one_away mending s back_move (4, omega arith, refl) (c_is_z ∷ [], z_is_prime, within) (λ e. absurd (omega (arith, e)));
      after = none_away mending s 1 0;
    })
    (c_is_z ∷ []) z_is_prime within
    (λ other prime before. not_before_itself (subst (λ cube. IsBeforeCube cube (c_is_z ∷ [])) (sym (only_z other prime)) before))

-- ---- which commands are picked

-- the next pair toward b's way back is c = z
z_is_next : (c : ℕ) → c < 2 → IsNextOf (1 ∷ 0 ∷ []) (c ∷ 1 ∷ []) (c_is_z ∷ []) c_is_z
z_is_next c h = record {
  sorted = c_is_z ∷ [];
  is_sorted = record { same = IsPermutation-refl (c_is_z ∷ []); in_order = inl (inr (2, [], refl, refl)) };
  first = record { before = []; after = []; split = refl; held = All-nil (λ (p : Pair). slice_get (c ∷ 1 ∷ []) p.item ≡ Some p.value); missing = λ e. absurd (omega (arith, same_Some c 2 e)) };
}

z_from_m : Reach mending (0 ∷ 1 ∷ []) 0 2
z_from_m = (0 ∷ 1 ∷ [], 2 ∷ 1 ∷ [], (1 ∷ 1 ∷ [], reset_allowed 1, (2 ∷ 1 ∷ [], z_allowed 1, refl)), refl)

z_from_ok : Reach mending (1 ∷ 1 ∷ []) 0 2
z_from_ok = (1 ∷ [], 2 ∷ 1 ∷ [], (2 ∷ 1 ∷ [], z_allowed 1, refl), refl)

abbrev pub home : List Pair
home = b_is_x ∷ c_is_ok ∷ []

-- on the way back b is missing first, while it is y
pub picks_toward_x : (c k : ℕ) → Picks mending_compiled (c ∷ 1 ∷ []) 1 0 k → PicksForGoal mending_compiled (c ∷ 1 ∷ []) home k
picks_toward_x c k picks =
    (b_is_x, record { before = []; after = c_is_ok ∷ []; split = refl; held = agrees_with_none (c ∷ 1 ∷ []); missing = λ e. absurd (omega (arith, same_Some 1 0 e)) }, picks)

pub picks_reset : Picks mending_compiled (0 ∷ 1 ∷ []) 1 0 0
picks_reset = First 1 0 0 back_move (c_is_z ∷ []) c_is_z (back_chosen 0 z_from_m) (z_is_next 0 (omega arith)) (Now 0 2 reset_move [] reset_chosen (agrees_with_none (0 ∷ 1 ∷ [])))

pub picks_z : Picks mending_compiled (1 ∷ 1 ∷ []) 1 0 1
picks_z = First 1 0 1 back_move (c_is_z ∷ []) c_is_z (back_chosen 1 z_from_ok) (z_is_next 1 (omega arith)) (Now 0 2 z_move [] z_chosen (agrees_with_none (1 ∷ 1 ∷ [])))

pub picks_back : Picks mending_compiled (2 ∷ 1 ∷ []) 1 0 4
picks_back =
    Now 1 0 back_move (c_is_z ∷ []) (back_chosen 2 ([], 2 ∷ 1 ∷ [], refl, refl)) (one_at (λ (p : Pair). slice_get (2 ∷ 1 ∷ []) p.item ≡ Some p.value) c_is_z refl)

pub picks_ok : PicksForGoal mending_compiled (2 ∷ 0 ∷ []) home 2
picks_ok = (
  c_is_ok,
  record {
    before = b_is_x ∷ [];
    after = [];
    split = refl;
    held = one_at (λ (p : Pair). slice_get (2 ∷ 0 ∷ []) p.item ≡ Some p.value) b_is_x refl;
    missing = λ e. absurd (omega (arith, same_Some 2 1 e));
  },
  Now 0 1 ok_move [] ok_chosen (agrees_with_none (2 ∷ 0 ∷ [])),
)

pub picks_go : PicksForGoal mending_compiled (0 ∷ 0 ∷ []) (b_is_y ∷ []) 3
picks_go = (
  b_is_y,
  record { before = []; after = []; split = refl; held = agrees_with_none (0 ∷ 0 ∷ []); missing = λ e. absurd (omega (arith, same_Some 0 1 e)) },
  Now 1 1 go_move [] go_chosen (agrees_with_none (0 ∷ 0 ∷ [])),
)
