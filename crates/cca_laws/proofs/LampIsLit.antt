-- The lamp is lit.
use Rattle.std.proofs.Common.{◌≡◌, ◌≢◌, ℕ, inl, inr, [], ◌∷◌, All, slice_get, Some, refl, subst, arith}
use Rattle.std.proofs.lemmas.List.Elements.{All-nil}
use Rattle.cca_base.proofs.Replies.{same_send, achieved_send}
use Rattle.cca_base.specs.declared.cube.Pair.{Pair}
use Rattle.cca_base.specs.Steps.{Step, Allowed}
use Rattle.cca_base.specs.Choice.{IsChosen, Now, PicksForGoal}
use Rattle.cca_laws.specs.Examples.{on_move, off_move, lamp, lamp_compiled, lit, LampIsLit}
use Rattle.list_laws.proofs.Few.{one_at}
use Rattle.cca_laws.proofs.FreeMoves.{free_prime, free_step}
use Rattle.cca_laws.proofs.ChoiceLaws.{open_free, none_away, one_away, least_cube}
use Rattle.cca_laws.proofs.PlanLaws.{mends_itself}

abbrev step_on : Step lamp (0 ∷ []) 0 (1 ∷ [])
step_on = free_step lamp on_move (0, omega arith, refl) refl (0 ∷ []) refl

step_off : Step lamp (1 ∷ []) 1 (0 ∷ [])
step_off = free_step lamp off_move (1, omega arith, refl) refl (1 ∷ []) refl

allowed_on : Allowed lamp (0 ∷ []) 0 (1 ∷ [])
allowed_on = record { step = step_on; back = inr (1 ∷ [], 0 ∷ [], (0 ∷ [], step_off, refl), mends_itself lamp (0 ∷ [])) }

chosen_on : IsChosen lamp (0 ∷ []) 0 1 on_move []
chosen_on = record {
  at = 0;
  move_at = refl;
  nearer = record {
    own = refl;
    source = refl;
    open_move = open_free lamp (0 ∷ []) on_move refl;
    rest = 0;
    before = one_away lamp (0 ∷ []) on_move (0, omega arith, refl) (open_free lamp (0 ∷ []) on_move refl) (λ e. absurd (omega (arith, e)));
    after = none_away lamp (0 ∷ []) 0 1;
  };
  first_move = λ earlier other h. absurd (omega arith);
  prime = free_prime lamp on_move refl;
  reached = λ k d h. absurd (omega arith);
  first_cube = λ other h k before. least_cube other before;
}

off_is_not_on : slice_get {X = ℕ} (0 ∷ []) 0 ≢ Some 1
off_is_not_on h = absurd cc

pub lamp_is_lit : LampIsLit
lamp_is_lit =
    let p : Pair = record { item = 0; value = 1 } in
    let on : All (λ q. slice_get (1 ∷ []) q.item ≡ Some q.value) lit = one_at (λ q. slice_get (1 ∷ []) q.item ≡ Some q.value) p refl in (
      record {
        good = (
          record { next = 1 ∷ []; step = step_on; pair = p; wanted = (0, omega arith, refl); missing = off_is_not_on; serves = inl refl },
          record { others = []; last = 1 ∷ []; plan = (1 ∷ [], allowed_on, refl); stands = on },
        );
        picked = λ k e. subst (λ n. PicksForGoal lamp_compiled (0 ∷ []) lit n) (same_send 0 k e)
            (p, record { before = []; after = []; split = refl; held = All-nil _; missing = off_is_not_on }, Now 0 1 on_move [] chosen_on (All-nil _));
      },
      record { good = on; picked = λ k e. absurd (achieved_send k e) },
    )
