-- Texts that are made token by token.
use Rattle.std.proofs.Common.{◌≡◌, ℕ, ◌≤◌, ◌<◌, ◌+◌, ◌-◌, if◌then◌else◌, zero, suc, codes, List, [], ◌∷◌, ◌++◌, length, map, take, drop, drop-cons, get_or, refl, ap, ◌∙◌, sym, add-one, arith}
use Rattle.std.proofs.lemmas.Bool.{le-leb, lt-leb}
use Rattle.std.proofs.lemmas.List.{take_all, append-nil}
use Rattle.cca_base.specs.declared.formula.Formula.{Formula}
use Rattle.cca_base.specs.declared.formula.Formula as formula
use Rattle.cca_base.specs.declared.formula.Formula.TheOpen.{Formula-F}
use Rattle.cca_base.specs.declared.formula.Formula.TheVariants.{Implies, Iff}
use Rattle.cca_base.specs.declared.formula.Formula.TheFolds.{fold-roll-Formula}
use Rattle.cca_base.specs.PlantModel.{PlantModel}
use Rattle.text_base.specs.Lexemes.{Lexeme, word, symbol, comma}
use Rattle.text_base.specs.Lists.{names_spelled, name_list_spelled}
use Rattle.model_syntax.specs.Printing.{Said, said, said_step, formula_said, among_said, part_said, parts_said}
use Rattle.model_syntax.specs.Drafts.{Draft, with_token, with_tokens, with_end, with_lines, word_before}

-- an atom stands without parentheses
pub among_said-precedence : (name : List ℕ) (values : List (List ℕ)) → (among_said name values).precedence ≡ 0
among_said-precedence name [] = refl
among_said-precedence name (value ∷ []) = refl
among_said-precedence name (value ∷ next ∷ values) = refl

pub ruleset precedence_steps = (among_said-precedence)

-- names, each behind a comma
abbrev pub commas : List (List ℕ) → List Lexeme
commas [] = []
commas (name ∷ names) = comma ∷ word name ∷ commas names

pub commas-spelled : (name : List ℕ) (names : List (List ℕ)) → word name ∷ commas names ≡ names_spelled name names
commas-spelled name [] = refl
commas-spelled name (next ∷ names) = ap (λ ls. word name ∷ comma ∷ ls) (commas-spelled next names)

-- a list by its first name and those behind it
pub list_begun : (t u : Draft) (names : List (List ℕ)) (first text : List ℕ) → 1 ≤ length names → first ≡ get_or names 0 first → text ≡ first → u ≡ with_token t (word text)
    → with_tokens u (commas (drop 0 (take (length names - 1) (drop 1 names)))) ≡ with_tokens t (name_list_spelled names)
list_begun t u [] first text h e k g = absurd (let k : 1 ≤ 0 = h in omega arith)
list_begun t u (x ∷ xs) first text h e k g =
    let whole : take (length (x ∷ xs) - 1) xs ≡ xs = take_all _ xs (omega arith) in
    ap (λ v. with_tokens v (commas (take (length (x ∷ xs) - 1) xs))) (g ∙ ap (λ n. with_token t (word n)) (k ∙ e))
    ∙ ap (with_tokens t) (ap (λ ns. word x ∷ commas ns) whole ∙ commas-spelled x xs)

-- ---- tokens and lines one behind the other

-- some tokens and then others
pub with_tokens-append : (t : Draft) (ls ms : List Lexeme) → with_tokens t (ls ++ ms) ≡ with_tokens (with_tokens t ls) ms
with_tokens-append t [] ms = refl
with_tokens-append t (l ∷ ls) ms = with_tokens-append (with_token t l) ls ms

-- some lines and then others
pub with_lines-append : (t : Draft) (ls ms : List (List Lexeme)) → with_lines t (ls ++ ms) ≡ with_lines (with_lines t ls) ms
with_lines-append t [] ms = refl
with_lines-append t (l ∷ ls) ms = with_lines-append (with_end (with_tokens t l)) ls ms

pub ruleset list_steps = (commas-spelled)

pub ruleset token_steps = (with_tokens-append)

-- ---- parts with a word between them

-- a part stands alone, or in parentheses
part_said-bare : (allowed n : ℕ) (p : Said) → n ≡ p.precedence → n ≤ allowed → part_said allowed p ≡ p.tokens
part_said-bare allowed n p e h =
    ap (λ b. if b then p.tokens else symbol (codes "(") ∷ p.tokens ++ symbol (codes ")") ∷ []) (le-leb p.precedence allowed (omega arith))

part_said-enclosed : (allowed n : ℕ) (p : Said) → n ≡ p.precedence → allowed < n → part_said allowed p ≡ symbol (codes "(") ∷ p.tokens ++ symbol (codes ")") ∷ []
part_said-enclosed allowed n p e h =
    ap (λ b. if b then p.tokens else symbol (codes "(") ∷ p.tokens ++ symbol (codes ")") ∷ []) (lt-leb p.precedence allowed (omega arith))

-- parts, each behind the word
abbrev pub led : ℕ → Lexeme → List Said → List Lexeme
led allowed between [] = []
led allowed between (part ∷ parts) = between ∷ part_said allowed part ++ led allowed between parts

pub parts_said-led : (allowed : ℕ) (between : Lexeme) (part : Said) (parts : List Said) → part_said allowed part ++ led allowed between parts ≡ parts_said allowed between (part ∷ parts)
parts_said-led allowed between part [] = append-nil (part_said allowed part)
parts_said-led allowed between part (next ∷ parts) = ap (λ ls. part_said allowed part ++ between ∷ ls) (parts_said-led allowed between next parts)

-- the parts from the one at a place on
abbrev pub parts_from : ℕ → ℕ → List ℕ → List Said → List Lexeme
parts_from zero allowed text parts = parts_said allowed (word text) parts
parts_from (suc k) allowed text parts = led allowed (word text) parts

parts_from-step : (k allowed : ℕ) (text : List ℕ) (part : Said) (parts : List Said)
    → parts_from k allowed text (part ∷ parts) ≡ word_before k text ++ (part_said allowed part ++ parts_from (suc k) allowed text parts)
parts_from-step zero allowed text part parts = sym (parts_said-led allowed (word text) part parts)
parts_from-step (suc k) allowed text part parts = refl

-- one turn: the word, where it is wanted, and a part
parts_go_on : (t u v w : Draft) (k allowed : ℕ) (text : List ℕ) (part : Said) (parts : List Said) → u ≡ with_tokens t (word_before k text) → v ≡ with_tokens u (part_said allowed part)
    → with_tokens t (parts_from k allowed text (part ∷ parts)) ≡ w → with_tokens v (parts_from (suc k) allowed text parts) ≡ w
parts_go_on t u v w k allowed text part parts e f g =
    let rest = parts_from (suc k) allowed text parts in
    let first = part_said allowed part in
    ap (λ x. with_tokens x rest) (f ∙ ap (λ x. with_tokens x first) e)
    ∙ sym (with_tokens-append t (word_before k text) (first ++ rest) ∙ with_tokens-append (with_tokens t (word_before k text)) first rest)
    ∙ ap (with_tokens t) (sym (parts_from-step k allowed text part parts)) ∙ g

-- a part that stands alone was put there
pub bare_done : (t u : Draft) (allowed n : ℕ) (p : Said) → n ≡ p.precedence → n ≤ allowed → u ≡ with_tokens t p.tokens → u ≡ with_tokens t (part_said allowed p)
bare_done t u allowed n p e h f = f ∙ ap (with_tokens t) (sym (part_said-bare allowed n p e h))

-- and one in parentheses
pub enclosed_done : (t u v w : Draft) (allowed n : ℕ) (p : Said) → n ≡ p.precedence → allowed < n → u ≡ with_token t (symbol (codes "(")) → v ≡ with_tokens u p.tokens → w ≡ with_token v (symbol (codes ")"))
    → w ≡ with_tokens t (part_said allowed p)
enclosed_done t u v w allowed n p e h f g k =
    k ∙ ap (λ x. with_token x (symbol (codes ")"))) (g ∙ ap (λ x. with_tokens x p.tokens) f)
    ∙ sym (with_tokens-append (with_token t (symbol (codes "("))) p.tokens (symbol (codes ")") ∷ []))
    ∙ ap (with_tokens t) (sym (part_said-enclosed allowed n p e h))

-- ---- formulas

-- one turn: the word, where it is wanted, and a part of a formula
pub formulas_go_on : (m : PlantModel) (t u v w : Draft) (k allowed : ℕ) (text : List ℕ) (items : List Formula) (item : Formula) → k < length items → item ≡ get_or items k item
    → u ≡ with_tokens t (word_before k text) → v ≡ with_tokens u (part_said allowed (said m item))
    → with_tokens t (parts_from k allowed text (map (said m) (drop k items))) ≡ w → with_tokens v (parts_from (k + 1) allowed text (map (said m) (drop (k + 1) items))) ≡ w
formulas_go_on m t u v w k allowed text items item h is e f g =
    let here : drop k items ≡ item ∷ drop (suc k) items = drop-cons items k item h ∙ ap (λ x. x ∷ drop (suc k) items) (sym is) in
    rw add-one
    (parts_go_on t u v w k allowed text (said m item) (map (said m) (drop (suc k) items)) e f
    (ap (λ xs. with_tokens t (parts_from k allowed text (map (said m) xs))) (sym here) ∙ g))

pub implies_said : (m : PlantModel) (f x y a b : Formula) → f ≡ Implies x y → a ≡ x → b ≡ y → formula_said m f ≡ part_said 2 (said m a) ++ word (codes "implies") ∷ part_said 2 (said m b)
unfolding formula.roll-Formula denote.Hole.Carrier.roll
implies_said m f x y a b is first second =
    ap (formula_said m) (is ∙ ap (λ z. Implies z y) (sym first) ∙ ap (λ z. Implies a z) (sym second)) ∙ ap (λ s. s.tokens) (fold-roll-Formula Said (said_step m) (Formula-F.Implies a b))

pub iff_said : (m : PlantModel) (f x y a b : Formula) → f ≡ Iff x y → a ≡ x → b ≡ y → formula_said m f ≡ part_said 2 (said m a) ++ word (codes "iff") ∷ part_said 2 (said m b)
unfolding formula.roll-Formula denote.Hole.Carrier.roll
iff_said m f x y a b is first second =
    ap (formula_said m) (is ∙ ap (λ z. Iff z y) (sym first) ∙ ap (λ z. Iff a z) (sym second)) ∙ ap (λ s. s.tokens) (fold-roll-Formula Said (said_step m) (Formula-F.Iff a b))

-- two parts with a word between them were put there
pub linked_done : (t u v w : Draft) (ls rest whole : List Lexeme) (l : Lexeme) → u ≡ with_tokens t ls → v ≡ with_token u l → w ≡ with_tokens v rest → whole ≡ ls ++ l ∷ rest → w ≡ with_tokens t whole
linked_done t u v w ls rest whole l e f g h =
    g ∙ ap (λ x. with_tokens x rest) (f ∙ ap (λ x. with_token x l) e) ∙ sym (with_tokens-append t ls (l ∷ rest)) ∙ ap (with_tokens t) (sym h)
