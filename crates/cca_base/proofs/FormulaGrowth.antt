-- What a formula, a move and a failure keep when a model gets more components or variables.
use Rattle.std.proofs.Common.{◌≡◌, ℕ, ◌<◌, ◌≤◌, zero, suc, Bool, true, All, List, [], ◌∷◌, ◌++◌, length, map, slice_index, refl, ap, ◌∙◌, arith}
use Rattle.std.proofs.lemmas.List.Elements.{All-weaker}
use Rattle.cca_base.proofs.Within.{choice_positive, fits_meets}
use Rattle.cca_base.specs.PlantModel.{PlantModel}
use Rattle.cca_base.specs.Formula.{fits, fits_step, is_choice_of, subject_value}
use Rattle.cca_base.specs.Model.{HasMode, IsFormula, IsMove, IsFailure, mode_counts, value_counts}
use Rattle.cca_base.specs.declared.formula.Subject.{Subject}
use Rattle.cca_base.specs.declared.formula.Subject.TheVariants.{Component, Variable}
use Rattle.cca_base.specs.declared.formula.Formula.{Formula}
use Rattle.cca_base.specs.declared.formula.Formula.TheOpen.{Formula-F}
use Rattle.cca_base.specs.declared.model.Move.{Move}
use Rattle.cca_base.specs.declared.model.Failure.{Failure}

-- every count that is not 0 stays
abbrev KeepsCounts : List ℕ → List ℕ → Type 0
KeepsCounts xs ys = (k : ℕ) → 0 < slice_index xs k → slice_index ys k ≡ slice_index xs k

-- counts that stay as they are
pub counts_same : (xs : List ℕ) → KeepsCounts xs xs
counts_same xs k h = refl

-- counts that get one more at the end
pub counts_push : {X : Type 0} (f : X → ℕ) (xs : List X) (x : X) → KeepsCounts (map f xs) (map f (xs ++ x ∷ []))
counts_push f [] x k h = absurd (omega arith)
counts_push f (y ∷ xs) x zero h = refl
counts_push f (y ∷ xs) x (suc k) h = counts_push f xs x k h

module _ (s w t u : List ℕ) (modes : KeepsCounts s t) (values : KeepsCounts w u) where
  -- a subject with some choices keeps their number
  subject : (k : Subject) → 0 < subject_value k s w → subject_value k t u ≡ subject_value k s w
  subject (Component k) h = modes k h
  subject (Variable k) h = values k h

  -- one layer that fits the counts before fits those after
  layer_kept : (x : Formula-F Bool) → fits_step s w x ≡ true → fits_step t u x ≡ true
  layer_kept Formula-F.True h = h
  layer_kept Formula-F.False h = h
  layer_kept (Formula-F.Among k set) h = ap (λ n. is_choice_of n set) (subject k (choice_positive (subject_value k s w) set h)) ∙ h
  layer_kept (Formula-F.Not a) h = h
  layer_kept (Formula-F.All parts) h = h
  layer_kept (Formula-F.Any parts) h = h
  layer_kept (Formula-F.Implies a b) h = h
  layer_kept (Formula-F.Iff a b) h = h

  -- and so does a formula
  fits_kept : (f : Formula) → fits s w f ≡ true → fits t u f ≡ true
  fits_kept = fits_meets s w (fits_step t u) layer_kept

-- the second model has the choices and the commands of the first, and maybe more
pub record Extends (m n : PlantModel) : Type 0 where
  pub modes : KeepsCounts (mode_counts m) (mode_counts n)
  pub values : KeepsCounts (value_counts m) (value_counts n)
  pub commands : length m.commands ≤ length n.commands

HasMode-kept : (m n : PlantModel) → Extends m n → (c mode : ℕ) → HasMode m c mode → HasMode n c mode
HasMode-kept m n e c mode h = rw (e.modes c (omega arith)) h

IsFormula-kept : (m n : PlantModel) → Extends m n → (f : Formula) → IsFormula m f → IsFormula n f
IsFormula-kept m n e f h = record {
  fits = fits_kept (mode_counts m) (value_counts m) (mode_counts n) (value_counts n) e.modes e.values f h.fits;
  shallow = h.shallow;
}

IsMove-kept : (m n : PlantModel) → Extends m n → (move : Move) → IsMove m move → IsMove n move
IsMove-kept m n e move h = record {
  source = HasMode-kept m n e move.component move.source h.source;
  target = HasMode-kept m n e move.component move.target h.target;
  command = omega (arith, h.command, e.commands);
  guard = IsFormula-kept m n e move.guard h.guard;
}

IsFailure-kept : (m n : PlantModel) → Extends m n → (failure : Failure) → IsFailure m failure → IsFailure n failure
IsFailure-kept m n e failure h = record {
  source = HasMode-kept m n e failure.component failure.source h.source;
  target = HasMode-kept m n e failure.component failure.target h.target;
  costs = h.costs;
  cheap = h.cheap;
}

pub All-IsFormula-kept : (m n : PlantModel) → Extends m n → (xs : List Formula) → All (IsFormula m) xs → All (IsFormula n) xs
All-IsFormula-kept m n e = All-weaker (IsFormula m) (IsFormula n) (IsFormula-kept m n e)

pub All-IsMove-kept : (m n : PlantModel) → Extends m n → (xs : List Move) → All (IsMove m) xs → All (IsMove n) xs
All-IsMove-kept m n e = All-weaker (IsMove m) (IsMove n) (IsMove-kept m n e)

pub All-IsFailure-kept : (m n : PlantModel) → Extends m n → (xs : List Failure) → All (IsFailure m) xs → All (IsFailure n) xs
All-IsFailure-kept m n e = All-weaker (IsFailure m) (IsFailure n) (IsFailure-kept m n e)
