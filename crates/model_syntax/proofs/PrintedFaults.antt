-- A move of a well-formed model has no fault behind the moves before it.
use Rattle.std.proofs.Common.{◌≡◌, ◌≢◌, ℕ, false, not, ◌&&◌, ◌||◌, List, ◌∷◌, ◌++◌, get_or, refl, eqb}
use Rattle.std.proofs.lemmas.Bool.{eqb-true, eq-eqb, not-true, both_ways}
use Rattle.std.proofs.lemmas.List.Folds.{list_any_none}
use Rattle.list_laws.proofs.Tests.{either, no_and}
use Rattle.cca_base.specs.declared.model.Move.{Move}
use Rattle.cca_base.specs.Model.{CommandsFit}
use Rattle.model_syntax.specs.Codes.{is_ambiguous}
use Rattle.model_syntax.proofs.PrintedNames.{pairs_across}

module _ (front : List Move) (x : Move) (rest : List Move) (commands : CommandsFit (front ++ x ∷ rest)) where
  abbrev moves : List Move
  moves = front ++ x ∷ rest

  abbrev c : ℕ
  c = x.component

  -- ---- commands

  own_command : (y : Move) → (y.command ≡ x.command → (y.component ≡ x.component) × (y.source ≢ x.source)) → (eqb y.command x.command && (not (eqb y.component x.component) || eqb y.source x.source)) ≡ false
  own_command y h = no_and _ _ (λ a b.
      let k = h (eqb-true y.command x.command a) in
      either (not (eqb y.component x.component)) (eqb y.source x.source) b (λ e. both_ways (eqb y.component x.component) (not-true (eqb y.component x.component) e) (eq-eqb y.component x.component k.0)) (λ e. k.1 (eqb-true y.source x.source e)))

  pub not_ambiguous : is_ambiguous front x ≡ false
  not_ambiguous =
      let each = pairs_across (λ a b. a.command ≡ b.command → (a.component ≡ b.component) × (a.source ≢ b.source)) front (x ∷ rest) 0 x commands refl in
      list_any_none (λ y. eqb y.command x.command && (not (eqb y.component x.component) || eqb y.source x.source)) front (λ k d lt. own_command (get_or front k d) (each k d lt))
