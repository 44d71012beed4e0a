-- Texts of formulas that are spelled alike ask for the same, and what is asked for is a formula of the model.
use Rattle.std.proofs.Common.{◌≡◌, Bool, false, true, Some, refl, sym, ap, subst, ◌∙◌, ℕ, ◌&&◌}
use Rattle.cca_base.specs.declared.formula.Formula.{Formula}
use Rattle.cca_base.specs.PlantModel.{PlantModel}
use Rattle.cca_base.specs.Model.{IsFormula}
use Rattle.formula_syntax.specs.Answers.{formula_or_code}
use Rattle.formula_syntax.specs.Grammar.{Whole, spelling}
use Rattle.formula_syntax.specs.Meanings.{IsReadingOf, names_unknown, lists_twice, is_deep, whole_formula, whole_depth, reading_of, verdict}
use Rattle.formula_syntax.specs.declared.read_part.ReadPart.{ReadPart}
use Rattle.formula_syntax.specs.declared.read_part.ReadPart.TheVariants.{Sound}
use Rattle.formula_syntax.proofs.FormulaReadWhole.{one_way}
use Rattle.formula_syntax.proofs.SoundReadings.{read_is_answer, sound_is_formula}

module _ (m : PlantModel) where
  -- a text is what is read of its spelling
  own_reading : (text : Whole) → IsReadingOf false m (spelling text) (Some (reading_of false m text))
  own_reading text = record {
    read_of = λ other e. ap (λ (r : ReadPart). Some r) (one_way false m text other e);
    spelled = λ r e. (text, refl);
  }

  pub same_answer : (s t : Whole) → spelling s ≡ spelling t → formula_or_code m s ≡ formula_or_code m t
  same_answer s t e =
      let h = read_is_answer m (spelling s) (Some (reading_of false m s)) (own_reading s) in
      sym (h.of_text s refl) ∙ h.of_text t e

  sound_by : (f : Formula) (d : ℕ) (unknown deep twice : Bool) → unknown ≡ false → deep ≡ false → verdict unknown (false && twice) deep (Sound f d) ≡ Sound f d
  sound_by f d false false twice u p = refl
  sound_by f d true deep twice u p = absurd cc
  sound_by f d false true twice u p = absurd cc

  sound : (text : Whole) → names_unknown m text ≡ false → is_deep text ≡ false → reading_of false m text ≡ Sound (whole_formula m text) (whole_depth text)
  unfolding reading_of
  sound text u d = sound_by (whole_formula m text) (whole_depth text) (names_unknown m text) (is_deep text) (lists_twice text) u d

  pub formula_of : (text : Whole) → names_unknown m text ≡ false → is_deep text ≡ false → IsFormula m (whole_formula m text)
  formula_of text u d =
      sound_is_formula false m (spelling text) (whole_formula m text) (whole_depth text)
      (subst (λ (r : ReadPart). IsReadingOf false m (spelling text) (Some r)) (sound text u d) (own_reading text))
