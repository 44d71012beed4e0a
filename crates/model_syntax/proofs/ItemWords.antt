-- The words of an item that was read from tokens.
use Rattle.std.proofs.Common.{◌≡◌, ℕ, Bool, true, false, not, codes, List, [], ◌∷◌, ◌++◌, map, Some, refl, ap, subst}
use Rattle.std.specs.List.{list_all, AllByRecursion}
use Rattle.std.proofs.lemmas.Bool.{and_parts, and_from}
use Rattle.cca_base.specs.Names.{is_word, is_reserved}
use Rattle.text_base.specs.Tokens.{Tok, is_of_kind, IsOfItsKind}
use Rattle.text_base.specs.Lexemes.{Lexeme, lexeme, word, symbol, comma}
use Rattle.model_syntax.specs.Items.{Item, Header, Component, Variable, Rule, Move, Failure, Script, item_of, sensed_spelled, ends_spelled, move_word, line_spelled, IsSpelled}
use Rattle.text_base.specs.Lists.{name_list_spelled, names_spelled, AreNameWords}
use Rattle.model_syntax.specs.Lines.{is_bare_name, HasBareNames}
use Rattle.model_syntax.proofs.ItemGrammar.{item_written}

-- the lexeme's bytes are of its kind
abbrev of_kind : Lexeme → Bool
of_kind l = is_of_kind l.0 l.1

abbrev OfKinds : List Lexeme → Type 0
OfKinds ls = list_all of_kind ls ≡ true

of_kinds : (ts : List Tok) → AllByRecursion IsOfItsKind ts → list_all of_kind (map lexeme ts) ≡ true
of_kinds [] h = refl
of_kinds (t ∷ ts) h = and_from (is_of_kind t.kind t.text) (list_all of_kind (map lexeme ts)) h.0 (of_kinds ts h.1)

first : (l : Lexeme) (ls : List Lexeme) → OfKinds (l ∷ ls) → (of_kind l ≡ true) × OfKinds ls
first l ls h = and_parts (of_kind l) (list_all of_kind ls) h

bare : (name : List ℕ) → is_word name ≡ true → is_reserved name ≡ false → is_bare_name name ≡ true
bare name w r = and_from (is_word name) (not (is_reserved name)) w (ap not r)

bare_names : (name : List ℕ) (names : List (List ℕ)) (rest : List Lexeme) → OfKinds (names_spelled name names ++ rest) → AreNameWords (name ∷ names) → list_all is_bare_name (name ∷ names) ≡ true
bare_names name [] rest h free = and_from (is_bare_name name) true (bare name (first (word name) rest h).0 free.0) refl
bare_names name (next ∷ names) rest h free =
    let p = first (word name) (comma ∷ names_spelled next names ++ rest) h in
    let q = first comma (names_spelled next names ++ rest) p.1 in
    and_from (is_bare_name name) (list_all is_bare_name (next ∷ names)) (bare name p.0 free.0) (bare_names next names rest q.1 free.1)

bare_list : (names : List (List ℕ)) (rest : List Lexeme) → OfKinds (name_list_spelled names ++ rest) → AreNameWords names → list_all is_bare_name names ≡ true
bare_list [] rest h free = refl
bare_list (name ∷ names) rest h free = bare_names name names rest h free

words_of_item : (i : Item) → IsSpelled i → OfKinds (line_spelled i) → HasBareNames i
words_of_item (Header second) s h = tt
words_of_item (Component name modes start) s h =
    let rest = name_list_spelled modes ++ word (codes "start") ∷ word start ∷ [] in
    let a = first (word (codes "component")) (word name ∷ symbol (codes "=") ∷ rest) h in
    let b = first (word name) (symbol (codes "=") ∷ rest) a.1 in
    let c = first (symbol (codes "=")) rest b.1 in
    and_from (is_bare_name name) (list_all is_bare_name modes) (bare name b.0 s.1.0) (bare_list modes (word (codes "start") ∷ word start ∷ []) c.1 s.2)
words_of_item (Variable name values sensed) s h =
    let rest = name_list_spelled values ++ sensed_spelled sensed in
    let a = first (word (codes "var")) (word name ∷ symbol (codes "=") ∷ rest) h in
    let b = first (word name) (symbol (codes "=") ∷ rest) a.1 in
    let c = first (symbol (codes "=")) rest b.1 in
    (and_from (is_bare_name name) (list_all is_bare_name values) (bare name b.0 s.1.0) (bare_list values (sensed_spelled sensed) c.1 s.2), s.0)
words_of_item (Rule formula) s h = tt
words_of_item (Move repair ends command guard) s h =
    let f = word (codes "by") ∷ word command ∷ word (codes "when") ∷ guard in
    let a = first (word (move_word repair)) (ends_spelled ends f) h in
    let b = first (word ends.name) (word ends.source ∷ symbol (codes "->") ∷ word ends.target ∷ f) a.1 in
    let c = first (word ends.source) (symbol (codes "->") ∷ word ends.target ∷ f) b.1 in
    let d = first (symbol (codes "->")) (word ends.target ∷ f) c.1 in
    let e = first (word ends.target) f d.1 in
    let g = first (word (codes "by")) (word command ∷ word (codes "when") ∷ guard) e.1 in
    bare command (first (word command) (word (codes "when") ∷ guard) g.1).0 s.1.1.1.0
words_of_item (Failure ends cost) s h = tt
words_of_item Script s h = tt

-- an item that was read from tokens has words in place of names
pub item_has_bare_names : (ts : List Tok) (i : Item) → AllByRecursion IsOfItsKind ts → item_of (map lexeme ts) ≡ Some i → HasBareNames i
item_has_bare_names ts i h e =
    let w = item_written (map lexeme ts) i e in
    words_of_item i w.1 (subst (λ ls. list_all of_kind ls ≡ true) w.0 (of_kinds ts h))
