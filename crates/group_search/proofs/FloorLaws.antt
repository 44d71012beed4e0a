-- Floors of groups that are joined, and of a group whose costs are taken over.
use Rattle.std.proofs.Common.{◌≡◌, ◌⊎◌, ℕ, ◌+◌, ◌-◌, ◌<◌, ◌≤◌, ◌==◌, Bool, true, false, not, ◌&&◌, cond, List, length, slice_index, Option, Some, inl, inr, refl, sym, ap, ◌∙◌, arith}
use Rattle.std.proofs.lemmas.Bool.{and_left, and_parts, and_right, cases_Bool, cond-false, cond-true, eqb-true, not-true}
use Rattle.std.proofs.lemmas.List.{get_or-map}
use Rattle.group_search.specs.Floors.{AreJoined, Floors, IsFloored, every}
use Rattle.group_search.specs.Questions.{Question, CostsAtLeast, IsSolution, cost_in, in_group}
use Rattle.group_search.specs.declared.columns.Chosen.{Chosen}
use Rattle.group_search.proofs.Sums.{sum_none, sum_same, sum_split, sum_tests}

-- floors of groups are floors of what they are joined to
pub floors_joined : (q : Question) (masks old new floors : List ℕ) → length old ≡ q.count → AreJoined old new → Floors q masks old floors → Floors q masks new floors
floors_joined q masks old new floors long h floor values costs s test =
    let f = h.0 in
    let same : (c : ℕ) → c < q.count → test (slice_index new c) ≡ test (f (slice_index old c)) = λ c less.
    ap test (ap (λ l. slice_index l c) h.1 ∙ get_or-map f old c 0 0 (omega (arith, less, long))) in
    let left = sum_tests q.count (λ c. test (slice_index new c)) (λ c. test (f (slice_index old c))) (λ c. slice_index floors c) same in
    let right = sum_tests q.count (λ c. test (slice_index new c)) (λ c. test (f (slice_index old c))) (λ c. slice_index costs c) same in
    let under = floor values costs s (λ n. test (f n)) in
    omega (arith, left, right, under)

-- paths whose costs are floors of groups, inside and below the limit, are so of what the groups are joined to
pub floored_joined : (q : Question) (masks old new : List ℕ) (limit : ℕ) (x : Chosen) → length old ≡ q.count → AreJoined old new → IsFloored q masks old limit x → IsFloored q masks new limit x
floored_joined q masks old new limit x long h floored = record {
  has = record {
    paths = floored.has.paths;
    floors = floors_joined q masks old new x.costs long h floored.has.floors;
  };
  inside = floored.inside;
  less = floored.less;
}

-- a solution inside is inside at a group
pub solution_there : (q : Question) (test : ℕ → Bool) (masks values costs : List ℕ) → IsSolution q every masks values costs → IsSolution q test masks values costs
solution_there q test masks values costs s = record { solves = s.solves; inside = λ place less own. s.inside place less refl }

-- the group's costs are those found, and the others are as before
abbrev pub AreTaken : ℕ → List ℕ → ℕ → List ℕ → List ℕ → List ℕ → Type 0
AreTaken n names g found old new = (c : ℕ) → c < n → slice_index new c ≡ cond (in_group names (Some g) c) (slice_index found c) (slice_index old c)

module _ (n : ℕ) (names : List ℕ) (g : ℕ) where
  abbrev here : ℕ → Bool
  here c = slice_index names c == g

  abbrev beside : ℕ → Bool
  beside c = not (slice_index names c == g)

  pub taken_here : (found old new : List ℕ) → AreTaken n names g found old new → cost_in n here new ≡ cost_in n here found
  taken_here found old new taken =
      sum_same n here (λ c. slice_index new c) (λ c. slice_index found c) (λ c less own. taken c less ∙ cond-true (here c) (slice_index found c) (slice_index old c) own)

  -- of others, by a test that only they pass
  pub taken_beside : (test : ℕ → Bool) (found old new : List ℕ) → AreTaken n names g found old new → ((c : ℕ) → test c ≡ true → here c ≡ false) → cost_in n test new ≡ cost_in n test old
  taken_beside test found old new taken apart =
      sum_same n test (λ c. slice_index new c) (λ c. slice_index old c) (λ c less own. taken c less ∙ cond-false (here c) (slice_index found c) (slice_index old c) (apart c own))

  pub parts : (costs : List ℕ) → cost_in n every costs ≡ cost_in n here costs + cost_in n beside costs
  parts costs = sum_split n every here (λ c. slice_index costs c)

  -- what all cost then
  pub taken_total : (found old new : List ℕ) → AreTaken n names g found old new → cost_in n every new + cost_in n here old ≡ cost_in n every old + cost_in n here found
  taken_total found old new taken =
      let one = parts new in
      let two = parts old in
      let own = taken_here found old new taken in
      let others = taken_beside beside found old new taken (λ c is. not-true (here c) is) in
      omega (arith, one, two, own, others)

  -- a group whose name passes is counted whole, and another one not at all
  whole_here : (test : ℕ → Bool) (costs : List ℕ) → test g ≡ true → cost_in n (λ c. test (slice_index names c) && here c) costs ≡ cost_in n here costs
  whole_here test costs passes = sum_tests n (λ c. test (slice_index names c) && here c) here (λ c. slice_index costs c) (λ c less. elim (cases_Bool (here c)) [
    | inl own ↦ ap (λ b. b && here c) (ap test (eqb-true (slice_index names c) g own) ∙ passes)
    | inr other ↦ and_right (test (slice_index names c)) (here c) other ∙ sym other
  ])

  none_here : (test : ℕ → Bool) (costs : List ℕ) → test g ≡ false → cost_in n (λ c. test (slice_index names c) && here c) costs ≡ 0
  none_here test costs fails = sum_none n (λ c. test (slice_index names c) && here c) (λ c. slice_index costs c) (λ c less. elim (cases_Bool (here c)) [
    | inl own ↦ and_left (test (slice_index names c)) (here c) (ap test (eqb-true (slice_index names c) g own) ∙ fails)
    | inr other ↦ and_right (test (slice_index names c)) (here c) other
  ])

  -- costs that are as low as these on the group, and on each set of groups before, are so on each set of groups
  pub taken_floor : (found old new costs : List ℕ) → AreTaken n names g found old new → cost_in n here found ≤ cost_in n here costs
      → ((test : ℕ → Bool) → cost_in n (λ c. test (slice_index names c)) old ≤ cost_in n (λ c. test (slice_index names c)) costs)
      → (test : ℕ → Bool) → cost_in n (λ c. test (slice_index names c)) new ≤ cost_in n (λ c. test (slice_index names c)) costs
  taken_floor found old new costs taken low floors test =
      let t : ℕ → Bool = λ c. test (slice_index names c) in
      let new_parts = sum_split n t here (λ c. slice_index new c) in
      let cost_parts = sum_split n t here (λ c. slice_index costs c) in
      let others = taken_beside (λ c. test (slice_index names c) && beside c) found old new taken (λ c is. not-true (here c) ((and_parts (test (slice_index names c)) (beside c) is).1)) in
      let under = floors (λ h. test h && not (h == g)) in
      elim (cases_Bool (test g)) [
        | inl passes ↦ omega (arith, new_parts, cost_parts, others, under, whole_here test new passes, whole_here test costs passes, taken_here found old new taken, low)
        | inr fails ↦ omega (arith, new_parts, cost_parts, others, under, none_here test new fails)
      ]

-- where no solution costs less on the group than what the others leave of the limit, none costs less than the limit
pub none_on_group : (q : Question) (masks names floors : List ℕ) (g limit total floor : ℕ) → total ≡ cost_in q.count every floors → floor ≡ cost_in q.count (in_group names (Some g)) floors
    → Floors q masks names floors → CostsAtLeast q (in_group names (Some g)) masks (limit - (total - floor)) → CostsAtLeast q every masks limit
none_on_group q masks names floors g limit total floor all own low least values costs s =
    let here = least values costs (solution_there q (in_group names (Some g)) masks values costs s) in
    let others = low values costs s (λ h. not (h == g)) in
    let one = parts q.count names g floors in
    let two = parts q.count names g costs in
    omega (arith, all, own, here, others, one, two)

-- what is said of a cost holds of lists that are equal
pub cost_said : (r n : ℕ) (names costs said_names said_costs : List ℕ) (group : Option ℕ) → r ≡ cost_in (length said_names) (in_group said_names group) said_costs → said_names ≡ names → said_costs ≡ costs
    → length names ≡ n → r ≡ cost_in n (in_group names group) costs
cost_said r n names costs said_names said_costs group said same_names same_costs long =
    said ∙ ap (λ l. cost_in (length l) (in_group l group) said_costs) same_names ∙ ap (cost_in (length names) (in_group names group)) same_costs ∙ ap (λ k. cost_in k (in_group names group) costs) long

-- what is least on the group, or as low as its floor, keeps floors
pub floors_taken : (q : Question) (masks names found old new : List ℕ) (g : ℕ) → AreTaken q.count names g found old new → Floors q masks names old
    → (cost_in q.count (in_group names (Some g)) found ≤ cost_in q.count (in_group names (Some g)) old)
    ⊎ CostsAtLeast q (in_group names (Some g)) masks (cost_in q.count (in_group names (Some g)) found)
    → Floors q masks names new
floors_taken q masks names found old new g taken floors low values costs s =
    let at : cost_in q.count (in_group names (Some g)) found ≤ cost_in q.count (in_group names (Some g)) costs = elim low [
      | inl under ↦ omega (arith, under, floors values costs s (λ h. h == g))
      | inr least ↦ least values costs (solution_there q (in_group names (Some g)) masks values costs s)
    ] in
    taken_floor q.count names g found old new costs taken at (floors values costs s)
