-- What a line with a formula leads to, by what was read of its text.
use Rattle.std.proofs.Common.{◌≡◌, ℕ, Bool, true, false, cond, ◌||◌, List, [], ◌∷◌, length, Option, Some, None, inl, refl, sym, ap, ◌∙◌}
use Rattle.std.proofs.lemmas.Option.{same_Some}
use Rattle.std.specs.Prelude.{nat_le}
use Rattle.cca_base.specs.declared.formula.Formula.{Formula}
use Rattle.cca_base.specs.declared.limits.TheConstants.{MAX_RULES, MAX_MOVES}
use Rattle.cca_base.specs.PlantModel.{PlantModel}
use Rattle.cca_base.specs.Model.{WellFormed, with_rule}
use Rattle.cca_base.proofs.Growth.{rule_kept}
use Rattle.text_base.specs.Lexemes.{Lexeme}
use Rattle.formula_syntax.specs.declared.read_part.ReadPart.{ReadPart}
use Rattle.formula_syntax.specs.declared.read_part.ReadPart.TheVariants.{Sound}
use Rattle.formula_syntax.specs.Grammar.{Whole}
use Rattle.formula_syntax.specs.Meanings.{verdict, reading_of, IsReadingOf, whole_depth, whole_formula, names_unknown, lists_twice, is_deep}
use Rattle.model_syntax.specs.Codes.{least, is_long, rule_code, move_code_from, move_faults, new_move}
use Rattle.model_syntax.specs.Lines.{Next, Goes, Refused, IsNextOfText, rule_next, unless}
use Rattle.model_syntax.specs.ReadCodes.{rule_code_read, move_code_read}
use Rattle.model_syntax.proofs.AddedParts.{below}
use Rattle.formula_syntax.proofs.SoundReadings.{sound_formula, sound_is_formula}

-- ---- what was read

-- something was read, and it leads there
pub some_read : (m : PlantModel) (ls : List Lexeme) (f : Whole → Next) (r : ReadPart) (next : Next) → IsReadingOf true m ls (Some r) → ((text : Whole) → r ≡ reading_of true m text → next ≡ f text) → IsNextOfText ls f next
some_read m ls f r next h leads = record {
  of_text = λ text e. leads text (same_Some r (reading_of true m text) (h.read_of text e));
  or_none = inl (h.spelled r refl);
}

-- ---- rules

rule_verdict : (m : PlantModel) (u r p : Bool) (f : Formula) (d : ℕ) → rule_code_read m (verdict u r p (Sound f d)) ≡ least ((2, u) ∷ (3, r) ∷ (4, p || nat_le MAX_RULES (length m.rules)) ∷ [])
rule_verdict m true r p f d = refl
rule_verdict m false true p f d = refl
rule_verdict m false false true f d = refl
rule_verdict m false false false f d = refl

rule_code_is : (m : PlantModel) (text : Whole) → rule_code_read m (reading_of true m text) ≡ rule_code m text
unfolding rule_code reading_of
rule_code_is m text = rule_verdict m (names_unknown m text) (lists_twice text) (is_deep text) (whole_formula m text) (whole_depth text)

-- where the code is that of a rule's reading, the line is refused with it
pub rule_refused : (m : PlantModel) (ls : List Lexeme) (r : ReadPart) (code : ℕ) → rule_code_read m r ≡ Some code → IsReadingOf true m ls (Some r) → IsNextOfText ls (rule_next m) (Refused code)
rule_refused m ls r code e h = some_read m ls (rule_next m) r (Refused code) h (λ text same.
    ap (λ (o : Option ℕ). unless o (with_rule m (whole_formula m text))) (sym e ∙ ap (rule_code_read m) same ∙ rule_code_is m text))

pub rule_full : (m : PlantModel) (ls : List Lexeme) (f : Formula) (d : ℕ) → nat_le MAX_RULES (length m.rules) ≡ true → IsReadingOf true m ls (Some (Sound f d)) → IsNextOfText ls (rule_next m) (Refused 4)
rule_full m ls f d full h = rule_refused m ls (Sound f d) 4 (ap (λ b. cond b (Some 4) None) full) h

pub rule_added : (m : PlantModel) (ls : List Lexeme) (f : Formula) (d : ℕ) → nat_le MAX_RULES (length m.rules) ≡ false → IsReadingOf true m ls (Some (Sound f d)) → IsNextOfText ls (rule_next m) (Goes (with_rule m f))
rule_added m ls f d room h = some_read m ls (rule_next m) (Sound f d) (Goes (with_rule m f)) h (λ text same.
    let code : None ≡ rule_code m text = sym (ap (λ b. cond b (Some 4) None) room) ∙ ap (rule_code_read m) same ∙ rule_code_is m text in
    ap (λ x. Goes (with_rule m x)) (sound_formula true m text f d same)
    ∙ ap (λ (o : Option ℕ). unless o (with_rule m (whole_formula m text))) code)

pub rule_well_formed : (m : PlantModel) (ls : List Lexeme) (f : Formula) (d : ℕ) → WellFormed m → nat_le MAX_RULES (length m.rules) ≡ false → IsReadingOf true m ls (Some (Sound f d)) → WellFormed (with_rule m f)
rule_well_formed m ls f d w room h = rule_kept m f w (below MAX_RULES (length m.rules) room) (sound_is_formula true m ls f d h)

-- ---- moves

move_verdict : (m : PlantModel) (repair : Bool) (ends : ℕ × ℕ × ℕ) (command : List ℕ) (u r p : Bool) (f : Formula) (d : ℕ)
    → move_code_read m repair (Some ends) command (verdict u r p (Sound f d))
    ≡ least ((2, u) ∷ (3, r) ∷ (4, p || (is_long command || nat_le MAX_MOVES (length m.moves))) ∷ move_faults m (new_move m repair ends command f))
move_verdict m repair ends command true r p f d = refl
move_verdict m repair ends command false true p f d = refl
move_verdict m repair ends command false false true f d = refl
move_verdict m repair ends command false false false f d = refl

pub move_code_is : (m : PlantModel) (repair : Bool) (o : Option (ℕ × ℕ × ℕ)) (command : List ℕ) (text : Whole) → move_code_read m repair o command (reading_of true m text) ≡ move_code_from m repair o command text
unfolding reading_of
move_code_is m repair None command text = refl
move_code_is m repair (Some ends) command text = move_verdict m repair ends command (names_unknown m text) (lists_twice text) (is_deep text) (whole_formula m text) (whole_depth text)
