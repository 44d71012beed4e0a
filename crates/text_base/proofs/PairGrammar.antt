-- Pairs, and lists of them, are read from their spelling, and from nothing else.
use Rattle.std.proofs.Common.{◌≡◌, ℕ, ◌<◌, codes, List, ◌∷◌, ◌++◌, length, Option, Some, None, subst, ◌∙◌, arith}
use Rattle.std.proofs.lemmas.Option.{same_Some}
use Rattle.text_base.specs.Chain.{◌>>=◌}
use Rattle.text_base.specs.Lexemes.{Lexeme, word, symbol, comma, next_is, name_word_at}
use Rattle.text_base.specs.Pairs.{NamedPair, pair_at, pairs_at, pair_spelled, pairs_spelled, pair_list_spelled, IsPairOfWords, ArePairWords}
use Rattle.text_base.proofs.ChainLaws.{bind_some, then, after, next_read}
use Rattle.text_base.proofs.ListGrammar.{IsGrammar, reads_list, list_read}
use Rattle.text_base.proofs.NameGrammar.{reads_name, name_read}

abbrev pub equals_sign : Lexeme
equals_sign = symbol (codes "=")

abbrev value_then : List ℕ → List ℕ × List Lexeme → Option (NamedPair × List Lexeme)
value_then name value = Some (record { name = name; value = value.0 }, value.1)

abbrev name_then : List ℕ × List Lexeme → Option (NamedPair × List Lexeme)
name_then name = next_is equals_sign name.1 >>= λ r. name_word_at r >>= value_then name.0

reads_pair : (p : NamedPair) (behind : List Lexeme) → IsPairOfWords p → pair_at (pair_spelled p ++ behind) ≡ Some (p, behind)
unfolding pair_at
reads_pair p behind h =
    then (reads_name p.name (equals_sign ∷ word p.value ∷ behind) h.0) name_then ∙ then (reads_name p.value behind h.1.0) (value_then p.name)

pair_read : (ls : List Lexeme) (x : NamedPair × List Lexeme) → pair_at ls ≡ Some x → (ls ≡ pair_spelled x.0 ++ x.1) × IsPairOfWords x.0
unfolding pair_at
pair_read ls x e =
    let P : NamedPair × List Lexeme → Type 0 = λ y. (ls ≡ pair_spelled y.0 ++ y.1) × IsPairOfWords y.0 in
    let a = bind_some (name_word_at ls) name_then x e in
    let r = bind_some (next_is equals_sign a.0.1) (λ r. name_word_at r >>= value_then a.0.0) x a.2 in
    let v = bind_some (name_word_at r.0) (value_then a.0.0) x r.2 in
    let name = name_read ls a.0 a.1 in
    let equals = next_read equals_sign a.0.1 r.0 r.1 in
    let value = name_read r.0 v.0 v.1 in
    subst P (same_Some _ x v.2) (name.0 ∙ after (word a.0.0) (equals ∙ after equals_sign value.0), (name.1, (value.1, tt)))

pub pair_grammar : IsGrammar pair_at pair_spelled IsPairOfWords
pair_grammar = record { reads = reads_pair; read = pair_read; some = λ _. omega arith }

pub reads_pairs : (p : NamedPair) (ps : List NamedPair) (behind : List Lexeme)
    → ArePairWords (p ∷ ps) → next_is comma behind ≡ None → pairs_at (pairs_spelled p ps ++ behind) ≡ Some (p ∷ ps, behind)
reads_pairs = reads_list pair_grammar

pub pairs_read : (ls : List Lexeme) (read : List NamedPair × List Lexeme)
    → pairs_at ls ≡ Some read → (ls ≡ pair_list_spelled read.0 ++ read.1) × (0 < length read.0) × ArePairWords read.0
pairs_read = list_read pair_grammar
