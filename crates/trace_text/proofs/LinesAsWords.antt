-- The text of each line is its words, none of which has a space, with single spaces between them.
use Rattle.std.proofs.Common.{◌≡◌, ℕ, List, [], ◌∷◌, ◌++◌, All, drop, refl, sym, ap, ◌∙◌, arith}
use Rattle.std.proofs.lemmas.List.{append_cancel_right}
use Rattle.std.proofs.lemmas.List.Elements.{All-weaker}
use Rattle.cca_base.specs.PlantModel.{PlantModel}
use Rattle.cca_base.specs.Model.{WellFormed}
use Rattle.trace_text.specs.declared.trace_line.TraceLine.{TraceLine}
use Rattle.trace_text.specs.declared.trace_line.TraceLine.TheVariants.{Tick, World, Plan, Back}
use Rattle.trace_text.specs.Reports.{report_line}
use Rattle.trace_text.specs.ProofLines.{world_line}
use Rattle.trace_text.specs.TraceLines.{trace_line, FitsLine}
use Rattle.trace_text.specs.LineWords.{line_words}
use Rattle.trace_text.specs.Words.{behind_spaces, HasNoSpace, AreWords}
use Rattle.trace_text.proofs.ShortWords.{IsLineWord, word_lacks, line_formed}
use Rattle.trace_text.proofs.WordsApart.{behind_spaces_injective}

-- ---- the text of a line is its words

pub line_spaced : (m : PlantModel) (value : TraceLine) → 32 ∷ trace_line m value ≡ behind_spaces (line_words m value) ++ 10 ∷ []
unfolding report_line world_line
line_spaced m (Tick report) = refl
line_spaced m (World world) = refl
line_spaced m (Plan end) = refl
line_spaced m (Back end) = refl

-- ---- no word has a space

line_apart : (m : PlantModel) → WellFormed m → (value : TraceLine) → FitsLine m value → All HasNoSpace (line_words m value)
line_apart m h value fits = All-weaker IsLineWord HasNoSpace (λ word is. word_lacks 32 refl (λ e. absurd (omega (arith, e))) word is) (line_words m value) (line_formed m h value fits)

-- ---- the line that has these words

pub text_by_words : (m : PlantModel) (line : List ℕ) (words : List (List ℕ)) (value : TraceLine) → AreWords line words → line_words m value ≡ words → trace_line m value ≡ line ++ 10 ∷ []
text_by_words m line words value h e =
    let text : 32 ∷ trace_line m value ≡ behind_spaces (line_words m value) ++ 10 ∷ [] = line_spaced m value in
    let same : 32 ∷ trace_line m value ≡ (32 ∷ line) ++ 10 ∷ [] = text ∙ ap (λ ws. behind_spaces ws ++ 10 ∷ []) e ∙ ap (λ t. t ++ 10 ∷ []) h.spaced in
    ap (drop 1) same

pub words_by_text : (m : PlantModel) → WellFormed m → (line : List ℕ) (words : List (List ℕ)) (value : TraceLine) → AreWords line words → FitsLine m value
    → trace_line m value ≡ line ++ 10 ∷ [] → line_words m value ≡ words
words_by_text m wf line words value h fits e =
    let text : behind_spaces (line_words m value) ++ 10 ∷ [] ≡ behind_spaces words ++ 10 ∷ [] = sym (line_spaced m value) ∙ ap (λ t. 32 ∷ t) e ∙ ap (λ t. t ++ 10 ∷ []) (sym h.spaced) in
    behind_spaces_injective (line_words m value) words (line_apart m wf value fits) h.apart (append_cancel_right (behind_spaces (line_words m value)) (behind_spaces words) (10 ∷ []) text)

pub words_of_one_text : (m : PlantModel) → WellFormed m → (a b : TraceLine) → FitsLine m a → FitsLine m b → trace_line m a ≡ trace_line m b → line_words m a ≡ line_words m b
words_of_one_text m wf a b p q e =
    let text : behind_spaces (line_words m a) ++ 10 ∷ [] ≡ behind_spaces (line_words m b) ++ 10 ∷ [] = sym (line_spaced m a) ∙ ap (λ t. 32 ∷ t) e ∙ line_spaced m b in
    behind_spaces_injective (line_words m a) (line_words m b) (line_apart m wf a p) (line_apart m wf b q) (append_cancel_right (behind_spaces (line_words m a)) (behind_spaces (line_words m b)) (10 ∷ []) text)
