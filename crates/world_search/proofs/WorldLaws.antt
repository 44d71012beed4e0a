-- Worlds as a test, and what clauses of words say of them.
use Rattle.std.proofs.Common.{◌≡◌, ℕ, zero, suc, ◌<◌, Bool, true, false, ◌&&◌, List, [], ◌∷◌, length, slice_index, refl, sym, ap, subst, ◌∙◌, arith}
use Rattle.std.specs.Prelude.{All, IsTrue}
use Rattle.std.specs.List.{AllZip}
use Rattle.std.proofs.lemmas.Bool.{and_from, and_parts, false≢true}
use Rattle.std.proofs.lemmas.List.Elements.{All-cons, All-head, All-nil, All-tail}
use Rattle.cca_base.specs.Sets.{has}
use Rattle.cca_base.specs.declared.cube.Pair.{Pair}
use Rattle.clause_form.specs.declared.clause.Clause.{Clause}
use Rattle.clause_form.specs.Clauses.{all_met, meets}
use Rattle.clash_analysis.specs.Trails.{AllWithin}
use Rattle.clash_analysis.specs.Laws.{Passes}
use Rattle.world_search.specs.declared.words.WordClause.{WordClause}
use Rattle.world_search.specs.declared.answer.Answer.{Answer}
use Rattle.world_search.specs.declared.answer.Answer.TheVariants.{Agrees, Clash}
use Rattle.world_search.specs.Choices.{AllMetBy}
use Rattle.world_search.specs.Settled.{AreWithinSets, NonePasses}
use Rattle.world_search.specs.Words.{AreMetIn, MeanSame, met}
use Rattle.world_search.specs.Worlds.{IsAnswer, IsAnswerOn, IsSolution}

-- ---- worlds as a test

-- the values are of the sets, one for each
abbrev pub all_of : List ℕ → List ℕ → Bool
all_of [] [] = true
all_of [] (x ∷ xs) = false
all_of (s ∷ sets) [] = false
all_of (s ∷ sets) (x ∷ xs) = has s x && all_of sets xs

-- the list is a world
abbrev pub is_world : List Clause → List ℕ → List ℕ → Bool
is_world clauses base xs = all_of base xs && all_met xs clauses

of_test : (sets xs : List ℕ) → all_of sets xs ≡ true → (length xs ≡ length sets) × ((v : ℕ) → v < length sets → has (slice_index sets v) (slice_index xs v) ≡ true)
of_test [] [] is = (refl, λ v h. absurd (omega arith))
of_test [] (x ∷ xs) is = absurd (false≢true is)
of_test (s ∷ sets) [] is = absurd (false≢true is)
of_test (s ∷ sets) (x ∷ xs) is =
    let parts = and_parts (has s x) (all_of sets xs) is in
    let rest = of_test sets xs parts.1 in
    (ap suc rest.0, go parts.0 rest.1)
  where
    go : has s x ≡ true → ((v : ℕ) → v < length sets → has (slice_index sets v) (slice_index xs v) ≡ true) → (v : ℕ) → v < length (s ∷ sets) → has (slice_index (s ∷ sets) v) (slice_index (x ∷ xs) v) ≡ true
    go here there zero h = here
    go here there (suc v) h = there v (omega arith)

test_of : (sets xs : List ℕ) → length xs ≡ length sets → ((v : ℕ) → v < length sets → has (slice_index sets v) (slice_index xs v) ≡ true) → all_of sets xs ≡ true
test_of [] [] long all = refl
test_of [] (x ∷ xs) long all = absurd (omega (arith, long))
test_of (s ∷ sets) [] long all = absurd (omega (arith, long))
test_of (s ∷ sets) (x ∷ xs) long all = and_from (has s x) (all_of sets xs) (all 0 (omega arith)) (test_of sets xs (omega (arith, long)) (λ v h. all (suc v) (omega arith)))

met_test : (xs : List ℕ) (clauses : List Clause) → all_met xs clauses ≡ true → All (λ (c : Clause). meets xs c ≡ true) clauses
met_test xs [] is = All-nil (λ (c : Clause). meets xs c ≡ true)
met_test xs (c ∷ clauses) is = let parts = and_parts (meets xs c) (all_met xs clauses) is in All-cons (λ (c : Clause). meets xs c ≡ true) c clauses parts.0 (met_test xs clauses parts.1)

test_met : (xs : List ℕ) (clauses : List Clause) → All (λ (c : Clause). meets xs c ≡ true) clauses → all_met xs clauses ≡ true
test_met xs [] all = refl
test_met xs (c ∷ clauses) all = and_from (meets xs c) (all_met xs clauses) (All-head (λ (c : Clause). meets xs c ≡ true) c clauses all) (test_met xs clauses (All-tail (λ (c : Clause). meets xs c ≡ true) c clauses all))

pub world_of : (clauses : List Clause) (base xs : List ℕ) → IsTrue (is_world clauses base xs) → IsSolution clauses base xs
world_of clauses base xs is =
    let parts = and_parts (all_of base xs) (all_met xs clauses) is in
    let of = of_test base xs parts.0 in
    record { full = of.0; within = of.1; met = met_test xs clauses parts.1 }

pub test_world : (clauses : List Clause) (base xs : List ℕ) → IsSolution clauses base xs → IsTrue (is_world clauses base xs)
test_world clauses base xs world = and_from (all_of base xs) (all_met xs clauses) (test_of base xs world.full world.within) (test_met xs clauses world.met)

pub worlds_within : (clauses : List Clause) (base : List ℕ) → AllWithin (Passes (is_world clauses base)) base
worlds_within clauses base xs is = (world_of clauses base xs is).within

-- ---- clauses of words

abbrev Means : Clause → WordClause → Type 0
Means c w = MeanSame c.literals w

words_met : (xs : List ℕ) → (clauses : List Clause) (words : List WordClause) → AllZip Means clauses words → All (λ (c : Clause). meets xs c ≡ true) clauses → AllMetBy xs words
words_met xs [] [] same all = All-nil (λ (w : WordClause). met xs w.literals.items ≡ true)
words_met xs [] (w ∷ words) same all = absurd same
words_met xs (c ∷ clauses) [] same all = absurd same
words_met xs (c ∷ clauses) (w ∷ words) same all =
    All-cons (λ (w : WordClause). met xs w.literals.items ≡ true) w words (same.0 xs ∙ All-head (λ (c : Clause). meets xs c ≡ true) c clauses all)
    (words_met xs clauses words same.1 (All-tail (λ (c : Clause). meets xs c ≡ true) c clauses all))

met_words : (xs : List ℕ) → (clauses : List Clause) (words : List WordClause) → AllZip Means clauses words → AllMetBy xs words → All (λ (c : Clause). meets xs c ≡ true) clauses
met_words xs [] [] same all = All-nil (λ (c : Clause). meets xs c ≡ true)
met_words xs [] (w ∷ words) same all = absurd same
met_words xs (c ∷ clauses) [] same all = absurd same
met_words xs (c ∷ clauses) (w ∷ words) same all =
    All-cons (λ (c : Clause). meets xs c ≡ true) c clauses (sym (same.0 xs) ∙ All-head (λ (w : WordClause). met xs w.literals.items ≡ true) w words all)
    (met_words xs clauses words same.1 (All-tail (λ (w : WordClause). met xs w.literals.items ≡ true) w words all))

module _ (clauses : List Clause) (words : List WordClause) (same : AllZip Means clauses words) (base : List ℕ) where
  -- the clauses of words are true in each world
  pub met_in_worlds : AreMetIn words (is_world clauses base)
  met_in_worlds k d h xs is =
      let world = world_of clauses base xs is in
      words_met xs clauses words same world.met k d h

  -- no world
  pub no_world : NonePasses (is_world clauses base) → (xs : List ℕ) → IsSolution clauses base xs → ⊥
  no_world none xs world = none xs (test_world clauses base xs world)

  -- an answer over what is left is one over what is seen
  pub answer_of : (holds : (List ℕ → Bool) → Type 0) → holds (is_world clauses base) → (start world : List ℕ) (pairs : List Pair) (answer : Answer) → length start ≡ length base → length world ≡ length base → AreWithinSets start base
      → ((xs : List ℕ) → IsSolution clauses base xs → (v : ℕ) → v < length start → has (slice_index start v) (slice_index xs v) ≡ true) → IsAnswerOn holds words start world pairs answer → IsAnswer clauses base world pairs answer
  answer_of holds is start world pairs Agrees long full within all on =
      let of : (v : ℕ) → v < length base → has (slice_index base v) (slice_index world v) ≡ true = λ v h. within v (slice_index world v) (on.0 v (subst (λ n. v < n) (sym long) h)) in (
        record { full = full; within = of; met = met_words world clauses words same on.1 },
        on.2,
      )
  answer_of holds is start world pairs (Clash set) long full within all on = λ xs world having.
      on (is_world clauses base) is (λ ys passes. all ys (world_of clauses base ys passes)) xs (test_world clauses base xs world, having)
