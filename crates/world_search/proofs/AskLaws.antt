-- What holds of a workspace after a question, and of the answer.
use Rattle.std.proofs.Common.{◌≡◌, ◌++◌, ℕ, true, false, List, [], ◌∷◌, length, take, sym, subst, ◌∙◌}
use Rattle.std.specs.List.{AllZip}
use Rattle.std.proofs.lemmas.Bool.{false≢true}
use Rattle.list_laws.proofs.Elements.{all_left}
use Rattle.cca_base.specs.declared.cube.Pair.{Pair}
use Rattle.cca_base.specs.declared.limits.TheConstants.{MAX_CHOICES}
use Rattle.clause_form.specs.declared.clause.Clause.{Clause}
use Rattle.clause_form.specs.declared.clause.Clauses.{Clauses}
use Rattle.clause_form.specs.Clauses.{meets}
use Rattle.clash_analysis.specs.Trails.{AllWithin}
use Rattle.clash_analysis.specs.Ends.{AreSets}
use Rattle.clash_analysis.specs.Laws.{Passes}
use Rattle.world_search.specs.declared.answer.Answer.{Answer}
use Rattle.world_search.specs.declared.store.Store.{Store}
use Rattle.world_search.specs.declared.space.Space.{Space}
use Rattle.world_search.specs.declared.words.WordClause.{WordClause}
use Rattle.world_search.specs.Stores.{AreKept}
use Rattle.world_search.specs.Asked.{AreAllMetIn}
use Rattle.world_search.specs.Spaces.{AreBuffers, AreInSizes, AreLearned, IsBegun, IsSpace, world_in}
use Rattle.world_search.specs.Words.{MeanSame}
use Rattle.world_search.specs.Worlds.{IsAnswer, IsAnswerOn, IsSolution}
use Rattle.world_search.proofs.WorldLaws.{answer_of, is_world, met_in_worlds, test_world, world_of}

abbrev Means : Clause → WordClause → Type 0
Means c w = MeanSame c.literals w

pub zip_append : (xs ys : List Clause) (us vs : List WordClause) → AllZip Means xs us → AllZip Means ys vs → AllZip Means (xs ++ ys) (us ++ vs)
zip_append [] ys [] vs one other = other
zip_append [] ys (u ∷ us) vs one other = absurd one
zip_append (x ∷ xs) ys [] vs one other = absurd one
zip_append (x ∷ xs) ys (u ∷ us) vs one other = (one.0, zip_append xs ys us vs one.1 other)

pub fewer_clauses : (clauses more : List Clause) (base xs : List ℕ) → IsSolution (clauses ++ more) base xs → IsSolution clauses base xs
fewer_clauses clauses more base xs world = record { full = world.full; within = world.within; met = all_left (λ (c : Clause). meets xs c ≡ true) clauses more world.met }

-- clauses that are kept are true in each world, or in each list that the test of worlds passes
module _ (clauses : List Clause) (base : List ℕ) (l : Store) where
  pub kept_of : (more : List Clause) → AreLearned clauses base l → AreKept l (is_world (clauses ++ more) base)
  kept_of more learned k d h xs is = learned xs (fewer_clauses clauses more base xs (world_of (clauses ++ more) base xs is)) k d h

  pub learned_of : AreKept l (is_world clauses base) → AreLearned clauses base l
  learned_of kept xs world k d h = kept k d h xs (test_world clauses base xs world)

-- buffers for as many subjects as there are sets
pub buffers_base : (n : ℕ) (s : Space) → AreBuffers n s → AreBuffers (length s.base.items) s
buffers_base n s are = subst (λ k. AreBuffers k s) (sym are.base) are

-- the workspace after a question, with what was learned by it
pub space_after : (c : Clauses) (old new : Space) → IsSpace c old → old.stuck ≡ false → AreBuffers (length old.base.items) new → new.work.start.items ≡ old.work.start.items → length new.work.trail.items ≡ length old.work.trail.items → new.base.items ≡ old.base.items
    → new.stuck ≡ old.stuck → AreLearned c.clauses old.base.items new.store → IsSpace c new
space_after c old new is none are start room base stuck learned =
    let roomy = is.roomy none in
    record {
      buffers = subst (λ k. AreBuffers k new) is.buffers.base are;
      room = room ∙ is.room;
      sizes = subst (AreInSizes c.sizes) (sym base) is.sizes;
      learned = subst (λ b. AreLearned c.clauses b new.store) (sym base) learned;
      stuck = λ yes. absurd (false≢true (sym (stuck ∙ none) ∙ yes));
      roomy = λ _. record { sets = subst (AreSets MAX_CHOICES) (sym start) roomy.sets; room = rw (start, room) roomy.room };
      begun = λ _. subst (λ b. IsBegun c.clauses b new.work.start.items) (sym base) (subst (λ s. IsBegun c.clauses old.base.items s) (sym start) (is.begun none));
    }

module _ (c : Clauses) (more : List Clause) (rules others : List WordClause) (one : AllZip Means c.clauses rules) (other : AllZip Means more others) (old : Space) (is : IsSpace c old) (none : old.stuck ≡ false) where
  abbrev pub all : List Clause
  all = c.clauses ++ more

  pub looked : AreAllMetIn (rules ++ others) (take old.store.kept old.store.slots.items) (is_world (c.clauses ++ more) old.base.items)
  looked = record {
    met = met_in_worlds all (rules ++ others) (zip_append c.clauses more rules others one other) old.base.items;
    learned = kept_of c.clauses old.base.items old.store more is.learned;
  }

  pub within_start : AllWithin (Passes (is_world (c.clauses ++ more) old.base.items)) old.work.start.items
  within_start xs passes = (is.begun none).all xs (fewer_clauses c.clauses more old.base.items xs (world_of all old.base.items xs passes))

  -- the answer is one over what is seen
  pub answer_after : (new : Space) (pairs : List Pair) (answer : Answer) → AreBuffers (length old.base.items) new → new.base.items ≡ old.base.items
      → IsAnswerOn (AreAllMetIn (rules ++ others) (take old.store.kept old.store.slots.items)) (rules ++ others) old.work.start.items (world_in new) pairs answer → IsAnswer (c.clauses ++ more) new.base.items new.world.items pairs answer
  answer_after new pairs answer are base on =
      subst (λ b. IsAnswer all b new.world.items pairs answer) (sym base)
      (answer_of all (rules ++ others) (zip_append c.clauses more rules others one other) old.base.items (AreAllMetIn (rules ++ others) (take old.store.kept old.store.slots.items)) looked old.work.start.items new.world.items pairs answer
      (is.buffers.subjects ∙ sym is.buffers.base) are.world ((is.begun none).within) (λ xs world. (is.begun none).all xs (fewer_clauses c.clauses more old.base.items xs world)) on)
