-- What holds of a tick's question.
use Rattle.std.proofs.Common.{◌≡◌, ℕ, ◌<◌, ◌≤◌, List, [], length, All, get_or, slice_index, sym, ap, subst, ◌∙◌, inl, inr, ◌⊎◌, zero, suc, ◌∷◌, ◌++◌, arith}
use Rattle.std.proofs.Math.Seq.{get_or-append_seam}
use Rattle.std.proofs.lemmas.List.{get_or_past, get_or_append_left}
use Rattle.std.proofs.lemmas.List.Elements.{All-contains}
use Rattle.list_laws.proofs.Orders.{below_next, three_ways}
use Rattle.cca_base.specs.declared.choice.Choice.{Choice}
use Rattle.cca_base.specs.declared.limits.TheConstants.{MAX_COST, MAX_ROWS}
use Rattle.cca_base.specs.Relations.{numbers_below}
use Rattle.cca_base.proofs.PathLaws.{length-numbers, numbers_are_below}
use Rattle.group_search.specs.Meanings.{PathMeaning}
use Rattle.group_search.specs.Questions.{Question}
use Rattle.group_search.specs.declared.columns.TheConstants.{MAX_PATH}
use Rattle.mode_estimator.specs.Spaces.{IsTickSpace}
use Rattle.mode_estimator.specs.Ticks.{IsChoice, tick_of}
use Rattle.mode_estimator.specs.declared.space.TickSpace.{TickSpace}
use Rattle.mode_estimator.specs.declared.tick.Tick.{Tick}

-- the numbers in order
reaches : (n c : ℕ) → (n ≡ c) ⊎ (n < c) → n ≤ c
reaches n c (inl e) = omega (arith, e)
reaches n c (inr less) = omega (arith, less)

turned : (c n : ℕ) → (c ≡ n) ⊎ (n < c) → (n ≡ c) ⊎ (n < c)
turned c n (inl e) = inl (sym e)
turned c n (inr less) = inr less

pub number_at : (n at : ℕ) → at < n → slice_index (numbers_below n) at ≡ at
number_at zero at h = absurd (omega arith)
number_at (suc n) at h = elim (below_next at n (omega (arith, h))) [
  | inl below ↦ get_or_append_left (numbers_below n) (n ∷ []) 0 at (omega (arith, below, length-numbers n)) ∙ number_at n at below
  | inr e ↦ ap (λ k. get_or (numbers_below n ++ n ∷ []) k 0) (e ∙ sym (length-numbers n)) ∙ get_or-append_seam (numbers_below n) n [] 0 ∙ sym e
]

-- what is asked at a tick
abbrev pub asked : Tick → Question
asked t = tick_of t.rules.now.model.now t.rows.now.rows t.seen.now

abbrev pub tick_means : PathMeaning Tick TickSpace
tick_means = record { question = asked; is_space = λ t space. IsTickSpace t.rules.now.worlds.now (length t.rows.now.rows) space }

-- each place is one of a component
pub tick_owned : (t : Tick) → All (λ c. c < length t.rows.now.rows) (numbers_below (length t.rows.now.rows))
tick_owned t = numbers_are_below (length t.rows.now.rows)

pub tick_few : (t : Tick) → (length t.rows.now.rows ≤ MAX_ROWS) × (length (numbers_below (length t.rows.now.rows)) ≤ MAX_ROWS)
tick_few t =
    let few = t.of_rows.rows_fit.few in
    (few, omega (arith, length-numbers (length t.rows.now.rows)))

-- a choice of a row isn't dear
pub tick_whole : (t : Tick) (values costs : List ℕ) → (asked t).solves values costs → (length values ≡ length (numbers_below (length t.rows.now.rows))) × ((c : ℕ) → slice_index costs c ≤ MAX_PATH)
tick_whole t values costs h = (
  h.states ∙ sym (length-numbers (length t.rows.now.rows)),
  λ c. elim (three_ways c (length t.rows.now.rows)) [
    | inl less ↦
        let row = t.of_rows.rows_fit.each c [] less in
        let cheap : slice_index costs c ≤ MAX_COST = All-contains (λ (x : Choice). x.cost ≤ MAX_COST) (get_or t.rows.now.rows c []) (record { mode = slice_index values c; cost = slice_index costs c }) row.cheap (h.each c less) in
        omega (arith, cheap)
    | inr other ↦
        let behind = reaches (length t.rows.now.rows) c (turned c (length t.rows.now.rows) other) in
        let none : slice_index costs c ≡ 0 = get_or_past costs c 0 (omega (arith, h.full, behind)) in
        omega (arith, none)
  ],
)

-- a row that has something is there
place_in : (rows : List (List Choice)) (c at : ℕ) → at < length (get_or rows c []) → c < length rows
place_in rows c at within = elim (three_ways c (length rows)) [
  | inl less ↦ less
  | inr other ↦
      let none : get_or rows c [] ≡ [] = get_or_past rows c [] (reaches (length rows) c (turned c (length rows) other)) in
      absurd (omega (arith, within, ap length none))
]

-- what a component costs depends on its own mode alone
pub tick_own : (t : Tick) (c cost : ℕ) (values others : List ℕ) → ((place : ℕ) → place < length (numbers_below (length t.rows.now.rows)) → slice_index (numbers_below (length t.rows.now.rows)) place ≡ c → slice_index values place ≡ slice_index others place)
    → IsChoice t.rows.now.rows c (slice_index values c) cost → IsChoice t.rows.now.rows c (slice_index others c) cost
tick_own t c cost values others same (at, inside, is) =
    let within : c < length t.rows.now.rows = place_in t.rows.now.rows c at inside in
    subst (λ mode. IsChoice t.rows.now.rows c mode cost) (same c (omega (arith, within, length-numbers (length t.rows.now.rows))) (number_at (length t.rows.now.rows) c within)) (at, inside, is)
