-- The lines of a model's printed text.
use Rattle.std.proofs.Common.{◌≡◌, ◌≢◌, ℕ, inl, inr, false, List, [], ◌∷◌, ◌++◌, map, All, refl, sym, ap, ◌∙◌, append_assoc, eqb}
use Rattle.std.proofs.lemmas.Bool.{cases_Bool, eqb-true}
use Rattle.std.proofs.lemmas.List.Elements.{All-nil, All-cons, All-head, All-tail}
use Rattle.cca_base.specs.PlantModel.{PlantModel}
use Rattle.cca_base.specs.Model.{WellFormed}
use Rattle.line_machine.specs.Lines.{lines_in, all_lines, joined_lines, HasNoLf}
use Rattle.line_machine.proofs.JoinedLines.{with_lines, joined_before, joined_are_lines}
use Rattle.text_base.specs.Lexemes.{Lexeme}
use Rattle.model_syntax.specs.Printing.{joined, lines_said, printed_lines, printed_model}
use Rattle.model_syntax.proofs.PrintedModel.{lines_whole}

-- no line's end is in the line
abbrev pub IsWhole : List ℕ → Type 0
IsWhole line = All (λ b. b ≢ 10) line

not_end : (b : ℕ) → b ≢ 10 → eqb b 10 ≡ false
not_end b h = elim (cases_Bool (eqb b 10)) [ inl e ↦ absurd (h (eqb-true b 10 e)) | inr e ↦ e ]

pub clean : (line : List ℕ) → IsWhole line → HasNoLf line
clean [] h = tt
clean (b ∷ line) h = (not_end b (All-head (λ (x : ℕ). x ≢ 10) b line h), clean line (All-tail (λ (x : ℕ). x ≢ 10) b line h))

all_clean : (lines : List (List ℕ)) → All IsWhole lines → All HasNoLf lines
all_clean [] h = All-nil HasNoLf
all_clean (l ∷ lines) h = All-cons HasNoLf l lines (clean l (All-head IsWhole l lines h)) (all_clean lines (All-tail IsWhole l lines h))

-- the printed lines are joined
printed_joined : (lines : List (List Lexeme)) → printed_lines lines ≡ joined_lines (map joined lines)
printed_joined [] = refl
printed_joined (l ∷ lines) =
    ap (λ (text : List ℕ). joined l ++ 10 ∷ text) (printed_joined lines) ∙ sym (append_assoc (joined l) (10 ∷ []) (joined_lines (map joined lines)))

module _ (m : PlantModel) (w : WellFormed m) where
  said_clean : All HasNoLf (map joined (lines_said m))
  said_clean = all_clean (map joined (lines_said m)) (lines_whole m w)

  -- the lines of the printed model, and of what stands behind it
  pub printed_before : (more : List ℕ) → lines_in (printed_model m ++ more) ≡ with_lines (map joined (lines_said m)) (lines_in more)
  unfolding printed_model
  printed_before more = ap (λ (text : List ℕ). lines_in (text ++ more)) (printed_joined (lines_said m)) ∙ joined_before (map joined (lines_said m)) more said_clean

  pub printed_again : all_lines (lines_in (printed_model m)) ≡ map joined (lines_said m)
  unfolding printed_model
  printed_again = ap (λ (text : List ℕ). all_lines (lines_in text)) (printed_joined (lines_said m)) ∙ joined_are_lines (map joined (lines_said m)) said_clean
