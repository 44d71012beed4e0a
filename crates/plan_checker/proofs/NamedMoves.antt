-- A command names one move from a state; its step, and its nominal move.
use Rattle.std.proofs.Common.{◌≡◌, ◌<◌, ℕ, List, length, slice_set, Some, refl, sym, ap, subst, inl, inr}
use Rattle.std.proofs.lemmas.List.Elements.{All-contains}
use Rattle.std.proofs.lemmas.Option.{same_Some, slice_get_within}
use Rattle.cca_base.specs.declared.model.Move.{Move}
use Rattle.cca_base.specs.PlantModel.{PlantModel}
use Rattle.cca_base.specs.Model.{WellFormed, IsMove, CommandsFit}
use Rattle.cca_base.specs.State.{IsState, Follows, Holds}
use Rattle.cca_base.specs.Steps.{support, Step}
use Rattle.cca_base.specs.Successors.{IsCommanded, Nominal}
use Rattle.cca_base.proofs.NominalLaws.{moved}
use Rattle.cca_base.proofs.Commands.{one_named}
use Rattle.plan_checker.specs.Steps.{IsNamed, NoStep}

module _ (m : PlantModel) (s : List ℕ) (k : ℕ) where
  pub step_of : (move : Move) → IsNamed m s k move → Follows m (support m s move) move.guard → Step m s k (slice_set s move.component move.target)
  step_of move h follows = record { move = move; of_model = h.of_model; command = h.command; source = h.source; guard = follows; gives = refl }

  commanded_named : (move : Move) → IsCommanded m s (Some k) move → IsNamed m s k move
  commanded_named move h = record { of_model = h.of_model; command = sym (same_Some k move.command h.command); source = h.source }

  pub commanded : (move : Move) → IsNamed m s k move → Holds m s move.guard → Nominal m s (Some k) (slice_set s move.component move.target)
  commanded move h holds = inl (move, record { of_model = h.of_model; command = ap Some (sym h.command); source = h.source; guard = holds }, refl)

  module _ (fit : CommandsFit m.moves) (move : Move) (h : IsNamed m s k move) where
    pub no_guard : (Follows m (support m s move) move.guard → ⊥) → NoStep m s k
    no_guard fails next step =
        let same : step.move ≡ move = one_named m fit s k step.move move step.of_model h.of_model step.command h.command step.source h.source in
        fails (subst (λ (x : Move). Follows m (support m s x) x.guard) same step.guard)

    pub guard_fails : (Holds m s move.guard → ⊥) → Nominal m s (Some k) s
    guard_fails fails = inr (
      (λ other c.
          let named : IsNamed m s k other = commanded_named other c in
          let same : other ≡ move = one_named m fit s k other move named.of_model h.of_model named.command h.command named.source h.source in
          fails (subst (λ (x : Move). Holds m s x.guard) same c.guard)),
      refl,
    )

module _ (m : PlantModel) (s : List ℕ) (k : ℕ) (move : Move) (h : IsNamed m s k move) where
  pub named_within : move.component < length s
  named_within = slice_get_within s move.component move.source h.source

  pub named_state : WellFormed m → IsState m s → IsState m (slice_set s move.component move.target)
  named_state good state = moved m s move.component move.target state (All-contains (IsMove m) m.moves move good.moves h.of_model).target
