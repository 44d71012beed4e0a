-- A clause that is learned on a lower level.
use Rattle.std.proofs.Common.{◌≡◌, ℕ, ◌+◌, ◌-◌, ◌<◌, ◌≤◌, Bool, true, false, List, [], ◌∷◌, ◌++◌, length, take, drop, set, slice_index, sym, ap, subst, ◌∙◌, arith}
use Rattle.std.specs.Prelude.{All}
use Rattle.std.proofs.lemmas.List.{drop-take, take-append-drop, take-take, take_more_set}
use Rattle.cca_base.specs.Sets.{has}
use Rattle.cca_base.specs.declared.cube.Pair.{Pair}
use Rattle.clash_analysis.specs.declared.entry.Entry.{Entry}
use Rattle.clash_analysis.specs.Trails.{AreApartBut, IsTrail}
use Rattle.clash_analysis.specs.Learning.{IsLearned, SharesNone}
use Rattle.clash_analysis.specs.Laws.{Passes}
use Rattle.clash_analysis.proofs.UndoLaws.{undone_front}

pub back_of : {X : Type 0} (trail : List X) (to long : ℕ) → to ≤ long → take (long - to) (drop to trail) ≡ drop to (take long trail)
back_of trail to long h = let e : to + (long - to) ≡ long = omega arith in sym (drop-take to (long - to) trail) ∙ ap (λ n. drop to (take n trail)) e

pub split_at : {X : Type 0} (trail : List X) (to long : ℕ) → to ≤ long → take long trail ≡ take to trail ++ drop to (take long trail)
split_at trail to long h = sym (take-append-drop to (take long trail)) ∙ ap (λ l. l ++ drop to (take long trail)) (take-take to long trail h)

module _ (want : List ℕ → Bool) (pairs : List Pair) (start : List ℕ) (trail : List Entry) (long to : ℕ) (low : to ≤ long) (inside : to < length trail) (dom learn : List ℕ) (u : ℕ) where
  pub learned_low : (middle last : List ℕ) (e : Entry) → All (SharesNone learn u) (drop to (take long trail))
      → (IsTrail (Passes want) pairs start (take to trail ++ take (long - to) (drop to trail)) dom → IsTrail (Passes want) pairs start (take to trail) middle)
      → (IsTrail (Passes want) pairs start (take to trail) middle → IsLearned (Passes want) learn → AreApartBut u middle learn
      → ((a : ℕ) × (has (slice_index middle u) a ≡ true) × (has (slice_index learn u) a ≡ true)) → ((a : ℕ) × (has (slice_index middle u) a ≡ true) × (has (slice_index learn u) a ≡ false))
      → IsTrail (Passes want) pairs start (take to trail ++ e ∷ []) last)
      → IsTrail (Passes want) pairs start (take long trail) dom → IsLearned (Passes want) learn → AreApartBut u dom learn
      → ((a : ℕ) × (has (slice_index dom u) a ≡ true) × (has (slice_index learn u) a ≡ true)) → ((a : ℕ) × (has (slice_index dom u) a ≡ true) × (has (slice_index learn u) a ≡ false))
      → IsTrail (Passes want) pairs start (take (to + 1) (set trail to e)) last
  learned_low middle last e none undo narrow t learned apart left less =
      let t2 = undo (subst (λ l. IsTrail (Passes want) pairs start l dom) (split_at trail to long low ∙ ap (λ l. take to trail ++ l) (sym (back_of trail to long low))) t) in
      let front = undone_front (Passes want) pairs start dom learn (take to trail) (drop to (take long trail)) u (subst (λ l. IsTrail (Passes want) pairs start l dom) (split_at trail to long low) t) none apart in
      let grows : (a : ℕ) → has (slice_index dom u) a ≡ true → has (slice_index middle u) a ≡ true = λ a h. ap (λ d. has (slice_index d u) a) t2.leads ∙ front.2 u a h in
      subst (λ l. IsTrail (Passes want) pairs start l last) (sym (take_more_set trail to e inside))
      (narrow t2 learned (subst (λ d. AreApartBut u d learn) (sym t2.leads) front.1) (left.0, grows left.0 left.1, left.2) (less.0, grows less.0 less.1, less.2))
