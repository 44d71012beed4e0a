-- What was made token by token is the printed text.
use Rattle.std.proofs.Common.{◌≡◌, ℕ, Bool, false, ◌&&◌, if◌then◌else◌, List, [], ◌∷◌, ◌++◌, map, refl, ap, ◌∙◌, sym, append_assoc}
use Rattle.std.proofs.lemmas.List.{append-nil}
use Rattle.text_base.specs.Lexemes.{Lexeme}
use Rattle.cca_base.specs.PlantModel.{PlantModel}
use Rattle.model_syntax.specs.Printing.{is_plain, joined, header_said, component_said, variable_said, rule_said, move_said, failure_said, lines_said, printed_lines, printed_model}
use Rattle.model_syntax.specs.Drafts.{Draft, blank, with_token, with_tokens, with_end, with_lines}
use Rattle.model_syntax.proofs.PrintedTokens.{with_lines-append}

-- the text of tokens behind one that is a word or a number, or is none
abbrev pub joined_behind : Bool → List Lexeme → List ℕ
joined_behind plain [] = []
joined_behind plain (l ∷ ls) = ((if plain && is_plain l then 32 ∷ [] else []) ++ l.1) ++ joined_behind (is_plain l) ls

joined_from : (l : Lexeme) (ls : List Lexeme) → joined (l ∷ ls) ≡ l.1 ++ joined_behind (is_plain l) ls
joined_from l [] = sym (append-nil l.1)
joined_from l (m ∷ ls) =
    let space = if is_plain l && is_plain m then 32 ∷ [] else [] in
    ap (λ text. (l.1 ++ space) ++ text) (joined_from m ls) ∙ append_assoc l.1 space (m.1 ++ joined_behind (is_plain m) ls)
    ∙ ap (λ text. l.1 ++ text) (sym (append_assoc space m.1 (joined_behind (is_plain m) ls)))

pub joined_first : (ls : List Lexeme) → joined ls ≡ joined_behind false ls
joined_first [] = refl
joined_first (l ∷ ls) = joined_from l ls

with_tokens-text : (t : Draft) (ls : List Lexeme) → (with_tokens t ls).text ≡ t.text ++ joined_behind t.plain ls
unfolding with_token
with_tokens-text t [] = sym (append-nil t.text)
with_tokens-text t (l ∷ ls) = with_tokens-text (with_token t l) ls ∙ simp append_assoc

with_lines-text : (t : Draft) → t.plain ≡ false → (lines : List (List Lexeme)) → (with_lines t lines).text ≡ t.text ++ printed_lines lines
unfolding with_end
with_lines-text t none [] = sym (append-nil t.text)
with_lines-text t none (line ∷ lines) =
    let here = with_tokens-text t line ∙ ap (λ plain. t.text ++ joined_behind plain line) none ∙ ap (λ text. t.text ++ text) (sym (joined_first line)) in
    with_lines-text (with_end (with_tokens t line)) refl lines ∙ ap (λ text. text ++ 10 ∷ [] ++ printed_lines lines) here ∙ simp append_assoc

made_behind : (s t u : Draft) (ls ms : List (List Lexeme)) → t ≡ with_lines s ls → u ≡ with_lines t ms → u ≡ with_lines s (ls ++ ms)
made_behind s t u ls ms e f = f ∙ ap (λ x. with_lines x ms) e ∙ sym (with_lines-append s ls ms)

-- the lines of a model, made one kind after the other, are the printed model
pub printed_model-made : (m : PlantModel) (a b c d e f : Draft) → a ≡ with_lines blank (header_said m.version ∷ []) → b ≡ with_lines a (map component_said m.components)
    → c ≡ with_lines b (map variable_said m.variables) → d ≡ with_lines c (map (rule_said m) m.rules) → e ≡ with_lines d (map (move_said m) m.moves) → f ≡ with_lines e (map (failure_said m) m.failures)
    → f.text ≡ printed_model m
unfolding printed_model
printed_model-made m a b c d e f ha hb hc hd he hf =
    let start = header_said m.version ∷ [] in
    let cs = map component_said m.components in
    let vs = map variable_said m.variables in
    let rs = map (rule_said m) m.rules in
    let xs = map (move_said m) m.moves in
    let to_b = made_behind blank a b start cs ha hb in
    let to_c = made_behind blank b c (start ++ cs) vs to_b hc in
    let to_d = made_behind blank c d (start ++ cs ++ vs) rs to_c hd in
    let to_e = made_behind blank d e (start ++ cs ++ vs ++ rs) xs to_d he in
    let to_f = made_behind blank e f (start ++ cs ++ vs ++ rs ++ xs) (map (failure_said m) m.failures) to_e hf in
    ap (λ t. t.text) to_f ∙ with_lines-text blank refl (lines_said m)
