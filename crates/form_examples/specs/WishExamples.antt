-- Lines of wishes, what they leave for the wishes behind them, and which target is chosen.
use Rattle.std.specs.Prelude.{◌≡◌, ℕ, List, [], ◌∷◌, ◌++◌, codes}
use Rattle.cca_base.specs.declared.codes.TheConstants.{LIMIT, REPEATED_PAIR}
use Rattle.cca_base.specs.declared.cube.Pair.{Pair}
use Rattle.cca_base.specs.declared.formula.Formula.{Formula}
use Rattle.cca_base.specs.PlantModel.{PlantModel}
use Rattle.cca_base.specs.State.{Holds}
use Rattle.script_reader.specs.SaidLines.{Spells}
use Rattle.want_lines.specs.Items.{Item, Weight, At, grammar}
use Rattle.want_lines.specs.Requests.{Applies}
use Rattle.want_lines.specs.declared.request.Request.TheVariants as request
use Rattle.want_form.specs.Wishes.{Settings, Wishes, FollowsBy, first_settings, put_in}
use Rattle.wish_laws.specs.Settled.{IsTarget, Settled, weight_of}
use Rattle.form_examples.specs.EventExamples.{named}

-- lines as they are spelt; a weight of 1,000,000 passes no limit, and one more does; a component that stands twice behind `at` has code 15, and no
-- other but for unknown names
pub record WishLinesAreSpelt : Type 0 where
  pub weight : Spells grammar (codes "weight valve = open cost 4") (Weight (named (codes "valve") (codes "open")) 4)
  pub at : Spells grammar (codes "at valve = open, drv = on") (At (named (codes "valve") (codes "open") ∷ named (codes "drv") (codes "on") ∷ []))
  pub greatest : (m : PlantModel) → Applies m (Weight (named (codes "valve") (codes "open")) 1000000) LIMIT → ⊥
  pub greater : (m : PlantModel) → Applies m (Weight (named (codes "valve") (codes "open")) 1000001) LIMIT
  pub twice : (m : PlantModel) → Applies m (At (named (codes "valve") (codes "open") ∷ named (codes "valve") (codes "closed") ∷ [])) REPEATED_PAIR

-- without a line `weight` each state weighs nothing, and each component stands in its start mode; two lines `at` are one with the pairs of both; the later
-- of two weights of a mode counts, and that of another component stays
pub record SettingsAdd : Type 0 where
  pub nothing : (m : PlantModel) (t : List ℕ) → weight_of (first_settings m).weights t ≡ 0
  pub at_twice : (m : PlantModel) (ps qs : List Pair) (x : Settings) (n : ℕ) (r : Wishes)
      → FollowsBy m (request.At ps) x n (λ y s. FollowsBy m (request.At qs) y n (λ z u. (z.modes ≡ put_in x.modes (ps ++ qs)) × (z.weights ≡ x.weights)) s) r
  pub weights : (m : PlantModel) (n : ℕ) (r : Wishes)
      → FollowsBy m (request.Weight (record { item = 0; value = 1 }) 4) (record { weights = (0 ∷ 0 ∷ []) ∷ (0 ∷ 0 ∷ []) ∷ []; modes = [] }) n
      (λ x s. FollowsBy m (request.Weight (record { item = 0; value = 1 }) 7) x n
      (λ y u. FollowsBy m (request.Weight (record { item = 1; value = 0 }) 2) y n
      (λ z v. z.weights ≡ (0 ∷ 7 ∷ []) ∷ (2 ∷ 0 ∷ []) ∷ []) u) s) r

-- a state with mode 1 is no target where the one with mode 0 settles, holds the wish, and weighs as much
abbrev pub FirstAmongEquals : Type 0
FirstAmongEquals =
    (m : PlantModel) (weights : List (List ℕ)) (s : List ℕ) (f : Formula) → Settled m s (0 ∷ []) → Holds m (0 ∷ []) f
    → weight_of weights (0 ∷ []) ≡ weight_of weights (1 ∷ []) → IsTarget m weights s f (1 ∷ []) → ⊥
