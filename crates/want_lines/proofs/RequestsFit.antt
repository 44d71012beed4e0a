-- What a line asks for fits the model.
use Rattle.std.proofs.Common.{Contains, ◌<◌, ◌≤◌, ℕ, List, Option, Some, None, Result, Ok, Err, inl, inr, refl, subst, sym, arith}
use Rattle.std.specs.Prelude.{IfOk, IfSome}
use Rattle.std.proofs.lemmas.Bool.{cases_order, false_from_ne_true}
use Rattle.list_laws.proofs.Members.{all_from}
use Rattle.cca_base.specs.declared.codes.TheConstants.{NAME_UNKNOWN, LIMIT, REPEATED_PAIR}
use Rattle.cca_base.specs.declared.cube.Pair.{Pair}
use Rattle.cca_base.specs.declared.events.Stop.{Stop}
use Rattle.cca_base.specs.declared.limits.TheConstants.{MAX_WEIGHT}
use Rattle.cca_base.specs.Model.{HasMode}
use Rattle.cca_base.specs.PlantModel.{PlantModel}
use Rattle.cca_base.specs.Refusals.{Answers}
use Rattle.formula_syntax.specs.Meanings.{names_unknown, is_deep}
use Rattle.script_reader.specs.EventCodes.{has_item_twice}
use Rattle.script_reader.specs.Named.{component_of, mode_pair}
use Rattle.script_reader.proofs.EachPair.{comes_from}
use Rattle.script_reader.proofs.EventsMayCome.{mode_is, once_each}
use Rattle.script_reader.proofs.NamedItems.{mode_names, twice_named}
use Rattle.want_lines.specs.Items.{Item, Weight, At, Want}
use Rattle.want_lines.specs.Requests.{FitsModel, IsRequestOf, IsTaken}
use Rattle.want_lines.specs.declared.request.Request.{Request}
use Rattle.formula_syntax.proofs.FormulaTexts.{formula_of}

within : (n : ℕ) → (MAX_WEIGHT < n → ⊥) → n ≤ MAX_WEIGHT
within n h = elim (cases_order n MAX_WEIGHT) [
  | inl same ↦ omega (arith, same)
  | inr other ↦ elim other [ inl less ↦ omega (arith, less) | inr more ↦ absurd (h more) ]
]

module _ (m : PlantModel) where
  item_fits : (i : Item) (r : Request) → IsTaken m i r → FitsModel m r
  item_fits (Weight p n) r ((q, e, is), none) =
      subst (FitsModel m) (sym is) (mode_is m p q e, within n (λ more. none LIMIT (inr (inl (refl, more)))))
  item_fits (At ps) r ((qs, e, is), none) =
      let once = false_from_ne_true (has_item_twice qs) (λ t. none REPEATED_PAIR (inr (inr (refl, twice_named (component_of m) (mode_pair m) (mode_names m) ps qs e t)))) in
      let mode : (q : Pair) → Contains qs q → HasMode m q.item q.value = λ q among. let from = comes_from (mode_pair m) ps qs q e among in mode_is m from.0 q from.2 in
      subst (FitsModel m) (sym is) (once_each qs once, all_from (λ (q : Pair). HasMode m q.item q.value) qs mode)
  item_fits (Want text) r (is, none) =
      let known = false_from_ne_true (names_unknown m text) (λ u. none NAME_UNKNOWN (inl (refl, u))) in
      let shallow = false_from_ne_true (is_deep text) (λ d. none LIMIT (inr (inl (refl, d)))) in
      subst (FitsModel m) (sym is) (formula_of m text known shallow)

  request_fits : (line : List ℕ) (o : Option Request) → IsRequestOf m line (Ok o) → IfSome o (FitsModel m)
  request_fits line None h = tt
  request_fits line (Some r) (i, spells, h) = item_fits i r h

  -- what a call answered fits the model
  pub answer_fits : (line : List ℕ) (r : Result (Option Request) Stop) → Answers r (IsRequestOf m line) → IfOk r (λ o. IfSome o (FitsModel m))
  answer_fits line (Ok o) h = request_fits line o h
  answer_fits line (Err e) h = tt
