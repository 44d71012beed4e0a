-- Weights that are set fit their model.
use Rattle.std.proofs.Common.{◌≡◌, ◌<◌, ◌≤◌, ℕ, List, [], ◌∷◌, Result, Ok, Err, All, length, map, get_or, replicate, set, refl, sym, ap, subst, ◌∙◌, arith}
use Rattle.std.specs.Prelude.{OnOk, OnErr}
use Rattle.std.proofs.lemmas.List.{length-map, length-set, length-replicate, get_or-map}
use Rattle.std.proofs.lemmas.List.Elements.{All-set, All-replicate}
use Rattle.std.proofs.Math.Seq.{map-set_same}
use Rattle.cca_base.proofs.Within.{mode_within}
use Rattle.cca_base.specs.Model.{HasMode}
use Rattle.cca_base.specs.PlantModel.{PlantModel}
use Rattle.cca_base.specs.declared.cube.Pair.{Pair}
use Rattle.cca_base.specs.declared.model.Component.{Component}
use Rattle.goal_interpreter.specs.Weights.{AreWeights}
use Rattle.cca_base.specs.declared.limits.TheConstants.{MAX_WEIGHT}
use Rattle.want_form.specs.Wishes.{no_weights, with_weight}

abbrev IsSmall : ℕ → Type 0
IsSmall weight = weight ≤ MAX_WEIGHT

-- no mode weighs anything
abbrev pub zeros : Component → List ℕ
zeros c = replicate (length c.modes) 0

zero_rows : (cs : List Component) → map length (map zeros cs) ≡ map (λ (c : Component). length c.modes) cs
zero_rows [] = refl
zero_rows (c ∷ cs) = λ i. length-replicate {A = ℕ} (length c.modes) 0 i ∷ zero_rows cs i

some_component : Component
some_component = record { name = []; modes = []; start = 0 }

pub no_weights_fit : (m : PlantModel) → AreWeights m (no_weights m)
no_weights_fit m = record {
  full = zero_rows m.components;
  small = λ i d within.
      let row = get_or-map zeros m.components i some_component d (omega (arith, within, length-map m.components zeros)) in
      subst (λ (r : List ℕ). All IsSmall r) (sym row) (All-replicate IsSmall (length (get_or m.components i some_component).modes) 0 (omega arith));
}

module _ (m : PlantModel) (rows : List (List ℕ)) (its : AreWeights m rows) (p : Pair) (has : HasMode m p.item p.value) where
  -- there is a row for each component, with a place for each mode
  rows_full : length rows ≡ length m.components
  rows_full = sym (length-map rows length) ∙ ap length its.full ∙ length-map m.components (λ (c : Component). length c.modes)

  row_there : p.item < length rows
  row_there = let within = mode_within m p.item p.value has in omega (arith, within, rows_full)

  weights_kept : (weight : ℕ) → weight ≤ MAX_WEIGHT → AreWeights m (with_weight p weight rows)
  weights_kept weight few =
      let row : List ℕ = get_or rows p.item [] in
      record {
        full = map-set_same length rows p.item (set row p.value weight) [] (length-set row p.value weight) ∙ its.full;
        small = All-set (All IsSmall) rows p.item (set row p.value weight) (All-set IsSmall row p.value weight few (its.small p.item [] row_there)) its.small;
      }

  -- whether or not memory ran out
  pub weights_after : {X E : Type 0} (r : Result X E) (weight : ℕ) (new : List (List ℕ)) → weight ≤ MAX_WEIGHT → OnOk r (new ≡ with_weight p weight rows) → OnErr r (new ≡ rows) → AreWeights m new
  weights_after (Ok x) weight new few ok err = subst (AreWeights m) (sym ok) (weights_kept weight few)
  weights_after (Err e) weight new few ok err = subst (AreWeights m) (sym err) its
