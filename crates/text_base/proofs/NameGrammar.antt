-- Names, and lists of them, are read from their spelling, and from nothing else.
use Rattle.std.proofs.Common.{◌≡◌, ℕ, ◌<◌, Bool, cond, List, [], ◌∷◌, ◌++◌, length, Some, None, ap, subst, arith}
use Rattle.std.proofs.lemmas.Option.{same_Some}
use Rattle.list_laws.proofs.Tests.{cond_found}
use Rattle.text_base.specs.Lexemes.{Lexeme, word, comma, is_name_word, next_is, name_word_at}
use Rattle.text_base.specs.Lists.{names_at, name_spelled, names_spelled, name_list_spelled, IsFree, AreNameWords}
use Rattle.text_base.proofs.LexemeLaws.{name_word_is, may_be_name}
use Rattle.text_base.proofs.ListGrammar.{IsGrammar, reads_list, list_read}

pub reads_name : (n : List ℕ) (ls : List Lexeme) → IsFree n → name_word_at (word n ∷ ls) ≡ Some (n, ls)
reads_name n ls h = ap (λ (b : Bool). cond b (Some (n, ls)) None) (may_be_name n h)

pub name_read : (ls : List Lexeme) (x : List ℕ × List Lexeme) → name_word_at ls ≡ Some x → (ls ≡ word x.0 ∷ x.1) × IsFree x.0
name_read [] x e = absurd cc
name_read (l ∷ ls) x e =
    let p = cond_found (is_name_word l) (Some (l.1, ls)) x e in
    let w = name_word_is l p.0 in
    let P : List ℕ × List Lexeme → Type 0 = λ y. (l ∷ ls ≡ word y.0 ∷ y.1) × IsFree y.0 in
    subst P (same_Some (l.1, ls) x p.1) (ap (λ (y : Lexeme). y ∷ ls) w.0, w.1)

pub name_grammar : IsGrammar name_word_at name_spelled IsFree
name_grammar = record { reads = reads_name; read = name_read; some = λ _. omega arith }

pub reads_names : (name : List ℕ) (names : List (List ℕ)) (behind : List Lexeme)
    → AreNameWords (name ∷ names) → next_is comma behind ≡ None → names_at (names_spelled name names ++ behind) ≡ Some (name ∷ names, behind)
reads_names = reads_list name_grammar

pub names_read : (ls : List Lexeme) (read : List (List ℕ) × List Lexeme)
    → names_at ls ≡ Some read → (ls ≡ name_list_spelled read.0 ++ read.1) × (0 < length read.0) × AreNameWords read.0
names_read = list_read name_grammar
