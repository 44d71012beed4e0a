-- What a line with a move leads to, by what was read of its guard.
use Rattle.std.proofs.Common.{◌≡◌, ℕ, Bool, true, ◌||◌, List, ◌∷◌, length, Option, Some, None, Result, Ok, Err, sym, ap, ◌∙◌}
use Rattle.std.specs.Prelude.{nat_le}
use Rattle.cca_base.specs.declared.events.Stop.{Stop}
use Rattle.cca_base.specs.declared.events.Stop.TheVariants as stops
use Rattle.cca_base.specs.declared.formula.Formula.{Formula}
use Rattle.cca_base.specs.declared.limits.TheConstants.{MAX_MOVES}
use Rattle.cca_base.specs.PlantModel.{PlantModel}
use Rattle.cca_base.specs.Model.{with_move}
use Rattle.text_base.specs.Lexemes.{Lexeme}
use Rattle.formula_syntax.specs.declared.read_part.ReadPart.{ReadPart}
use Rattle.formula_syntax.specs.declared.read_part.ReadPart.TheVariants.{Sound, Faulty}
use Rattle.formula_syntax.specs.Grammar.{Whole}
use Rattle.model_syntax.specs.Items.{Ends}
use Rattle.formula_syntax.specs.Meanings.{reading_of, IsReadingOf}
use Rattle.model_syntax.specs.Codes.{least, is_long, ends_of, command_number, with_named, move_code, move_code_from, move_faults, new_move}
use Rattle.model_syntax.specs.Lines.{Next, Goes, Refused, unless, with_declared, move_next, taken_move, IsNextOfText, FailsModel, AnswersModel}
use Rattle.model_syntax.specs.ReadCodes.{move_code_read}
use Rattle.model_syntax.proofs.FormulaLines.{some_read, move_code_is}
use Rattle.formula_syntax.proofs.SoundReadings.{sound_formula}

fails_weaker : (e : Stop) (old new : PlantModel) (P Q : Next → Type 0) → ((next : Next) → P next → Q next) → FailsModel e old new P → FailsModel e old new Q
fails_weaker stops.Memory old new P Q f h = h
fails_weaker (stops.Refused refusal) old new P Q f h = (f (Refused refusal.code) h.0, h.1, h.2)

-- what is answered is also this
pub answers_weaker : {X : Type 0} (r : Result X Stop) (old new : PlantModel) (P Q : Next → Type 0) → ((next : Next) → P next → Q next) → AnswersModel r old new P → AnswersModel r old new Q
answers_weaker (Ok x) old new P Q f h = f (Goes new) h
answers_weaker (Err e) old new P Q f h = fails_weaker e old new P Q f h

move_from : (m : PlantModel) (repair : Bool) (ends : Ends) (command : List ℕ) (text : Whole) (o : Option (ℕ × ℕ × ℕ)) → ends_of m ends ≡ o
    → move_next m repair ends command text ≡ unless (move_code_from m repair o command text) (with_declared m repair o command text)
unfolding move_code
move_from m repair ends command text o e = ap (λ x. unless (move_code_from m repair x command text) (with_declared m repair x command text)) e

-- the code by what was read
read_from : (m : PlantModel) (repair : Bool) (ends : Ends) (command : List ℕ) (text : Whole) (o : Option (ℕ × ℕ × ℕ)) (r : ReadPart) → ends_of m ends ≡ o → r ≡ reading_of true m text
    → move_next m repair ends command text ≡ unless (move_code_read m repair o command r) (with_declared m repair o command text)
read_from m repair ends command text o r e same =
    move_from m repair ends command text o e
    ∙ ap (λ code. unless code (with_declared m repair o command text)) (sym (move_code_is m repair o command text) ∙ ap (move_code_read m repair o command) (sym same))

module _ (m : PlantModel) (ls : List Lexeme) (repair : Bool) (ends : Ends) (command : List ℕ) where
  pub ends_unknown : (r : ReadPart) → None ≡ ends_of m ends → IsReadingOf true m ls (Some r) → IsNextOfText ls (move_next m repair ends command) (Refused 2)
  ends_unknown r e h = some_read m ls (move_next m repair ends command) r (Refused 2) h (λ text same. sym (read_from m repair ends command text None r (sym e) same))

  pub guard_faulty : (known : ℕ × ℕ × ℕ) (code : ℕ) → Some known ≡ ends_of m ends → IsReadingOf true m ls (Some (Faulty code)) → IsNextOfText ls (move_next m repair ends command) (Refused code)
  guard_faulty known code e h =
      some_read m ls (move_next m repair ends command) (Faulty code) (Refused code) h (λ text same. sym (read_from m repair ends command text (Some known) (Faulty code) (sym e) same))

  -- a sound guard: the move is taken, or its code applies
  pub guard_sound : (c a b : ℕ) (f : Formula) (d number : ℕ) → number ≡ command_number m command → Some (c, a, b) ≡ ends_of m ends → IsReadingOf true m ls (Some (Sound f d))
      → (next : Next) → next ≡ taken_move m (record { component = c; source = a; target = b; command = number; repair = repair; guard = f }) command → IsNextOfText ls (move_next m repair ends command) next
  guard_sound c a b f d number n e h next taken = some_read m ls (move_next m repair ends command) (Sound f d) next h (λ text same.
      taken
      ∙ ap (λ (k : ℕ). taken_move m (record { component = c; source = a; target = b; command = k; repair = repair; guard = f }) command) n
      ∙ ap (λ (g : Formula). unless (least ((4, is_long command || nat_le MAX_MOVES (length m.moves)) ∷ move_faults m (new_move m repair (c, a, b) command f)))
      (with_move (with_named m command) (new_move m repair (c, a, b) command g))) (sound_formula true m text f d same)
      ∙ sym (read_from m repair ends command text (Some (c, a, b)) (Sound f d) (sym e) same))
