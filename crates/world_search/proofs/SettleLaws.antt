-- What all clauses leave of the sets that are seen.
use Rattle.std.proofs.Common.{◌≡◌, ◌≢◌, inl, inr, ℕ, ◌^◌, ◌<◌, Bool, true, eqb, w64, List, [], ◌∷◌, length, take, slice_index, bit_and, sym, ap, subst, ◌∙◌, arith, get_or-set_same, get_or-set_other}
use Rattle.std.specs.Int.{trailing_zeros}
use Rattle.std.proofs.lemmas.Bool.{and_from, both_ways, cases_eq, cases_lt, le-ltb}
use Rattle.std.proofs.lemmas.List.{length-set}
use Rattle.std.proofs.lemmas.List.Elements.{All-head, All-tail}
use Rattle.std.proofs.lemmas.Nat.Bits.{bit_at-trailing_zeros}
use Rattle.cca_base.specs.Sets.{has}
use Rattle.cca_base.proofs.SetLaws.{has-and, has-empty, has_above}
use Rattle.clash_analysis.specs.declared.entry.Entry.{Entry}
use Rattle.clash_analysis.specs.declared.entry.Why.{Why}
use Rattle.clash_analysis.specs.declared.entry.Why.TheVariants.{Assumed, Chosen, Because}
use Rattle.clash_analysis.specs.Trails.{AllWithin, AreApart, AreEntries, IsWhy, is_within, left_by, narrowed}
use Rattle.clash_analysis.specs.Clashes.{AreNoChoices, IsNoChoice}
use Rattle.clash_analysis.specs.Learning.{IsLearned}
use Rattle.clash_analysis.specs.Laws.{Passes}
use Rattle.clash_analysis.proofs.ClimbLaws.{front_plain}
use Rattle.clash_analysis.proofs.LearnLaws.{subject_inside}
use Rattle.world_search.specs.declared.work.Work.{Work}
use Rattle.world_search.specs.Settled.{NonePasses}
use Rattle.world_search.specs.Works.{IsReady, IsRight}

-- a word that isn't 0 has a value
pub some_member : (word : ℕ) → word < 2 ^ 64 → word ≢ 0 → (a : ℕ) × (has word a ≡ true)
some_member word h ne = (trailing_zeros w64 word, ap (λ b. eqb b 1) (bit_at-trailing_zeros w64 word (omega (arith, ne)) h).1)

-- and none past its width
pub low_member : (word a : ℕ) → word < 2 ^ 64 → has word a ≡ true → a < 64
low_member word a h is = elim (cases_lt a 64) [
  | inl less ↦ less
  | inr more ↦ absurd (both_ways (has word a) (sym (has_above 64 word a h more) ∙ le-ltb a 64 more) is)
]

module _ (want : List ℕ → Bool) where
  -- what an entry keeps that follows
  kept_of : (dom : List ℕ) (u kept : ℕ) (why : Why) → IsNoChoice why → IsWhy (Passes want) [] dom u kept why → AllWithin (Passes want) dom → (xs : List ℕ) → Passes want xs → has kept (slice_index xs u) ≡ true
  kept_of dom u kept Assumed plain is all xs w = let among = is.1 in let low : among.0 < 0 = among.1 in absurd (omega (arith, low))
  kept_of dom u kept Chosen plain is all xs w = absurd plain
  kept_of dom u kept (Because reason) plain is all xs w = is.follows xs w (λ v among. all xs w v (is.inside v among))

  -- each world is within what such a trail leaves
  pub all_left : (start : List ℕ) (trail : List Entry) → AreEntries (Passes want) [] start trail → AreNoChoices trail → AllWithin (Passes want) start → AllWithin (Passes want) (left_by start trail)
  all_left start [] entries plain all = all
  all_left start (e ∷ trail) entries plain all =
      let here = entries.0 in
      all_left (narrowed start e) trail entries.1 (All-tail (λ (e : Entry). IsNoChoice e.why) e trail plain) (λ xs w v h. elim (cases_eq v e.subject) [
        | inl same ↦
            let is = kept_of start e.subject e.kept e.why (All-head (λ (e : Entry). IsNoChoice e.why) e trail plain) here.why all xs w in
            let was : has e.before (slice_index xs e.subject) ≡ true = ap (λ s. has s (slice_index xs e.subject)) here.before ∙ all xs w e.subject here.inside in
            ap (is_within (narrowed start e) xs) same ∙ ap (λ s. has s (slice_index xs e.subject)) (get_or-set_same start e.subject (bit_and e.before e.kept) 0 here.inside)
            ∙ has-and e.before e.kept (slice_index xs e.subject) ∙ and_from _ _ was is
        | inr other ↦ ap (λ s. has s (slice_index xs v)) (get_or-set_other start e.subject v (bit_and e.before e.kept) 0 other) ∙ all xs w v (subst (λ n. v < n) (length-set start e.subject (bit_and e.before e.kept)) h)
      ])

  pub all_in_dom : (w : Work) → IsReady w → w.levels ≡ 0 → AllWithin (Passes want) w.start.items → IsRight want [] w → AllWithin (Passes want) w.dom.items
  all_in_dom w ready zero all t =
      subst (AllWithin (Passes want)) (sym t.leads) (all_left w.start.items (take w.long w.trail.items) t.entries (front_plain w.marks.items w.levels w.trail.items w.long ready.levels (omega (arith, zero))) all)

  -- with a clash there is none
  pub none_left : (w : Work) → IsReady w → w.levels ≡ 0 → AllWithin (Passes want) w.start.items → IsRight want [] w → IsLearned (Passes want) w.learn.items → AreApart w.dom.items w.learn.items → NonePasses want
  none_left w ready zero all t learned apart xs is =
      let found = learned xs is in
      let v = found.0 in
      let low : v < length w.learn.items = subject_inside w.learn.items v (slice_index xs v) found.1 in
      let inside : v < length w.dom.items = omega (arith, low, ready.shape.dom, ready.shape.learn) in
      both_ways (is_within w.learn.items xs v) (apart v (slice_index xs v) (all_in_dom w ready zero all t xs is v inside)) found.1

  -- nor with nothing left of a set
  pub none_empty : (base : List ℕ) (v : ℕ) → v < length base → slice_index base v ≡ 0 → AllWithin (Passes want) base → NonePasses want
  none_empty base v h empty all xs is = both_ways (has 0 (slice_index xs v)) (has-empty (slice_index xs v)) (ap (λ s. has s (slice_index xs v)) (sym empty) ∙ all xs is v h)

-- a set with a value isn't empty
pub some_ne : (sets : List ℕ) (v : ℕ) → (a : ℕ) × (has (slice_index sets v) a ≡ true) → slice_index sets v ≡ 0 → ⊥
some_ne sets v one none = both_ways (has 0 one.0) (has-empty one.0) (ap (λ s. has s one.0) (sym none) ∙ one.1)
