-- A pair and its weight are read from their spelling, and from nothing else.
use Rattle.std.proofs.Common.{◌≡◌, ℕ, List, [], ◌∷◌, ◌++◌, codes, Option, Some, ap, subst, ◌∙◌}
use Rattle.text_base.specs.Chain.{◌>>=◌}
use Rattle.text_base.specs.Lexemes.{Lexeme, word, number, next_is}
use Rattle.text_base.specs.Lists.{ended}
use Rattle.text_base.specs.Pairs.{NamedPair, pair_at, pair_spelled, IsPairOfWords}
use Rattle.text_base.proofs.ChainLaws.{bind_some, then, next_read, after}
use Rattle.text_base.proofs.FormGrammar.{ended_read}
use Rattle.text_base.proofs.PairGrammar.{pair_grammar}
use Rattle.model_syntax.specs.Items.{number_at}
use Rattle.model_syntax.proofs.ItemGrammar.{number_read}
use Rattle.want_lines.specs.Words.{weight_at}

-- how a pair and the digits of its weight are spelled
abbrev pub weight_spelled : NamedPair → List ℕ → List Lexeme
weight_spelled p digits = pair_spelled p ++ word (codes "cost") ∷ number digits ∷ []

abbrev digits_then : NamedPair → List ℕ × List Lexeme → Option (NamedPair × List ℕ)
digits_then pair digits = ended (pair, digits.0) digits.1

abbrev pair_then : NamedPair × List Lexeme → Option (NamedPair × List ℕ)
pair_then pair = next_is (word (codes "cost")) pair.1 >>= λ r. number_at r >>= digits_then pair.0

pub reads_weight : (p : NamedPair) (digits : List ℕ) → IsPairOfWords p → weight_at (weight_spelled p digits) ≡ Some (p, digits)
unfolding weight_at
reads_weight p digits h = then (pair_grammar.reads p (word (codes "cost") ∷ number digits ∷ []) h) pair_then

pub weight_read : (ls : List Lexeme) (x : NamedPair × List ℕ) → weight_at ls ≡ Some x → (ls ≡ weight_spelled x.0 x.1) × IsPairOfWords x.0
unfolding weight_at
weight_read ls x e =
    let P : NamedPair × List ℕ → Type 0 = λ y. (ls ≡ weight_spelled y.0 y.1) × IsPairOfWords y.0 in
    let a = bind_some (pair_at ls) pair_then x e in
    let r = bind_some (next_is (word (codes "cost")) a.0.1) (λ r. number_at r >>= digits_then a.0.0) x a.2 in
    let n = bind_some (number_at r.0) (digits_then a.0.0) x r.2 in
    let d = ended_read (a.0.0, n.0.0) x n.0.1 n.2 in
    let pair = pair_grammar.read ls a.0 a.1 in
    let cost = next_read (word (codes "cost")) a.0.1 r.0 r.1 in
    let behind = cost ∙ after (word (codes "cost")) (number_read r.0 n.0 n.1 ∙ after (number n.0.0) d.0) in
    subst P d.1 (pair.0 ∙ ap (λ (y : List Lexeme). pair_spelled a.0.0 ++ y) behind, pair.1)
