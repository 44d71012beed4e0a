-- Clauses whose sets of values are words of bits.
use Rattle.std.specs.Prelude.{◌≡◌, ◌≢◌, ℕ, ◌<◌, Bool, IsTrue, true, List, length, slice_index_or, map, All}
use Rattle.std.specs.List.{list_any}
use Rattle.clause_form.specs.declared.clause.Literal.{Literal}
use Rattle.clause_form.specs.Clauses.{is_met, is_true}
use Rattle.clash_analysis.specs.Learning.{IsOut}
use Rattle.world_search.specs.declared.words.WordLiteral.{WordLiteral}
use Rattle.world_search.specs.declared.words.WordClause.{WordClause}

-- the same literal with the word as its set
abbrev pub literal_of : WordLiteral → Literal
literal_of w = record { subject = w.subject; values = w.values }

-- some literal is true
abbrev pub met : List ℕ → List WordLiteral → Bool
met xs words = list_any (λ w. is_true xs (literal_of w)) words

-- each literal is of one of so many subjects
abbrev pub AreInside : ℕ → List WordLiteral → Type 0
AreInside n words = All (λ w. w.subject < n) words

-- so is each literal of the clause
abbrev pub IsClauseInside : ℕ → WordClause → Type 0
IsClauseInside n clause = AreInside n clause.literals.items

-- the clause of words is true exactly where the literals are
abbrev pub MeanSame : List Literal → WordClause → Type 0
MeanSame literals clause = (xs : List ℕ) → met xs clause.literals.items ≡ is_met xs literals

-- the literals with their words as sets
abbrev pub literals_of : List WordLiteral → List Literal
literals_of words = map literal_of words

-- the clause of these literals is true in each list that passes the test
abbrev pub IsMetIn : List WordLiteral → (List ℕ → Bool) → Type 0
IsMetIn words want = (xs : List ℕ) → IsTrue (want xs) → met xs words ≡ true

-- so is each of the clauses
abbrev pub AreMetIn : List WordClause → (List ℕ → Bool) → Type 0
AreMetIn clauses want = All (λ c. IsMetIn c.literals.items want) clauses

-- all literals but the one at the place are false of all that is left
abbrev pub OthersOut : List ℕ → List WordLiteral → ℕ → Type 0
OthersOut dom words place = (i : ℕ) (w : WordLiteral) → i < length words → i ≢ place → IsOut dom (literal_of (slice_index_or words i w))
