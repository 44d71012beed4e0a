-- What follows where something was read: a sound reading is a formula of the model, and what is answered is the text's.
use Rattle.std.proofs.Common.{◌≡◌, ℕ, ◌≤◌, Bool, true, false, ◌&&◌, List, Option, Some, None, inl, inr, refl, sym, ap, subst, ◌∙◌, arith}
use Rattle.std.specs.Prelude.{Result, Ok, Err, if◌then◌else◌}
use Rattle.std.proofs.lemmas.Bool.{ltb-false}
use Rattle.std.proofs.lemmas.Option.{same_Some}
use Rattle.cca_base.specs.declared.codes.TheConstants.{MALFORMED, NAME_UNKNOWN, LIMIT}
use Rattle.cca_base.specs.declared.formula.Formula.{Formula}
use Rattle.cca_base.specs.declared.limits.TheConstants.{MAX_DEPTH}
use Rattle.cca_base.specs.PlantModel.{PlantModel}
use Rattle.cca_base.specs.Formula.{depth}
use Rattle.cca_base.specs.Model.{IsFormula}
use Rattle.text_base.specs.Lexemes.{Lexeme}
use Rattle.formula_syntax.specs.declared.read_part.ReadPart.{ReadPart}
use Rattle.formula_syntax.specs.declared.read_part.ReadPart.TheVariants.{Sound, Faulty}
use Rattle.formula_syntax.specs.Grammar.{Whole}
use Rattle.formula_syntax.specs.Meanings.{verdict, names_unknown, lists_twice, is_deep, reading_of, IsReadingOf, whole_depth, whole_formula}
use Rattle.formula_syntax.specs.Answers.{formula_or_code, IsFormulaOf, AnswerOneWay}
use Rattle.formula_syntax.proofs.TextFormulas.{whole_fits}
use Rattle.formula_syntax.proofs.TextDepths.{whole_printed}
use Rattle.formula_syntax.proofs.Sound.{no_reading}

-- ---- sound readings

sound_verdict : (u r p : Bool) (f g : Formula) (d e : ℕ) → Sound f d ≡ verdict u r p (Sound g e) → (u ≡ false) × (p ≡ false) × (f ≡ g)
sound_verdict true r p f g d e h = absurd cc
sound_verdict false true p f g d e h = absurd cc
sound_verdict false false true f g d e h = absurd cc
sound_verdict false false false f g d e h = (refl, refl, cc)

-- a sound reading is the formula that the text spells
pub sound_formula : (strict : Bool) (m : PlantModel) (text : Whole) (f : Formula) (d : ℕ) → Sound f d ≡ reading_of strict m text → f ≡ whole_formula m text
unfolding reading_of
sound_formula strict m text f d e = (sound_verdict (names_unknown m text) (strict && lists_twice text) (is_deep text) f (whole_formula m text) d (whole_depth text) e).2

formula_of_text : (strict : Bool) (m : PlantModel) (text : Whole) (f : Formula) (d : ℕ) → Sound f d ≡ reading_of strict m text → IsFormula m f
unfolding reading_of
formula_of_text strict m text f d e =
    let s = sound_verdict (names_unknown m text) (strict && lists_twice text) (is_deep text) f (whole_formula m text) d (whole_depth text) e in
    let deep = ltb-false MAX_DEPTH (whole_depth text) s.1 in
    let printed = whole_printed m text in
    let shallow : depth (whole_formula m text) ≤ MAX_DEPTH = omega (arith, deep, printed) in
    subst (IsFormula m) (sym s.2) (record { fits = whole_fits m text s.0; shallow = shallow })

-- a sound reading is a formula of the model
pub sound_is_formula : (strict : Bool) (m : PlantModel) (ls : List Lexeme) (f : Formula) (d : ℕ) → IsReadingOf strict m ls (Some (Sound f d)) → IsFormula m f
sound_is_formula strict m ls f d h =
    let s = h.spelled (Sound f d) refl in
    formula_of_text strict m s.0 f d (same_Some (Sound f d) (reading_of strict m s.0) (h.read_of s.0 s.1))

-- ---- what is answered

-- the formula or the code of what was read
abbrev pub answer_of : Option ReadPart → Result Formula ℕ
answer_of None = Err MALFORMED
answer_of (Some (Faulty code)) = Err code
answer_of (Some (Sound formula depth)) = Ok formula

verdict_answer : (u r p : Bool) (f : Formula) (d : ℕ) → answer_of (Some (verdict u (false && r) p (Sound f d))) ≡ if u then Err NAME_UNKNOWN else (if p then Err LIMIT else Ok f)
verdict_answer true r p f d = refl
verdict_answer false r true f d = refl
verdict_answer false r false f d = refl

answer_is : (m : PlantModel) (text : Whole) → answer_of (Some (reading_of false m text)) ≡ formula_or_code m text
unfolding reading_of
answer_is m text = verdict_answer (names_unknown m text) (lists_twice text) (is_deep text) (whole_formula m text) (whole_depth text)

-- what was read is the answer
pub read_is_answer : (m : PlantModel) (ls : List Lexeme) (o : Option ReadPart) → IsReadingOf false m ls o → IsFormulaOf m ls (answer_of o)
read_is_answer m ls None h = record {
  of_text = λ text e. no_reading (reading_of false m text) (h.read_of text e);
  or_none = inr (λ text e. no_reading (reading_of false m text) (h.read_of text e), refl);
}
read_is_answer m ls (Some r) h = record {
  of_text = λ text e. ap answer_of (h.read_of text e) ∙ answer_is m text;
  or_none = inl (h.spelled r refl);
}

-- tokens have one answer
pub answer_one_way : AnswerOneWay
answer_one_way m ls a b h k = elim h.or_none [
  | inl (text, e) ↦ h.of_text text e ∙ sym (k.of_text text e)
  | inr (none, e) ↦ elim k.or_none [ inl (text, f) ↦ absurd (none text f) | inr (other, f) ↦ e ∙ sym f ]
]
