-- The least paths of a box as floors, and boxes without a solution.
use Rattle.std.proofs.Common.{◌≡◌, ℕ, zero, suc, ◌*◌, ◌<◌, ◌≤◌, Bool, true, false, cond, List, length, slice_index, slice_index_or, refl, sym, subst, arith}
use Rattle.std.specs.Prelude.{All}
use Rattle.std.proofs.lemmas.Bool.{eq-eqb}
use Rattle.std.proofs.lemmas.Nat.{mul-le}
use Rattle.cca_base.specs.declared.limits.TheConstants.{MAX_ROWS}
use Rattle.group_search.specs.Columns.{IsBox, IsColumn, itself}
use Rattle.group_search.specs.Floors.{IsFloored, every}
use Rattle.group_search.specs.Questions.{Question, CostsAtLeast, IsSolution, cost_in, sum_where}
use Rattle.group_search.specs.declared.columns.Chosen.{Chosen}
use Rattle.group_search.specs.declared.columns.TheConstants.{MAX_PATH}
use Rattle.group_search.specs.declared.path_box.PathBox.{PathBox}
use Rattle.group_search.proofs.Sums.{sum_le}

part_small : (b : Bool) (x most : ℕ) → x ≤ most → cond b x 0 ≤ most
part_small true x most h = h
part_small false x most h = omega arith

-- so many costs, none of which is more than this
sum_small : (n : ℕ) (test : ℕ → Bool) (f : ℕ → ℕ) (most : ℕ) → ((c : ℕ) → c < n → f c ≤ most) → sum_where n test f ≤ n * most
sum_small zero test f most h = omega arith
sum_small (suc n) test f most h =
    let rest = sum_small n test f most (λ c less. h c (omega (arith, less))) in
    let here = part_small (test n) (f n) most (h n (omega arith)) in
    omega (arith, rest, here)

-- few components, each of which costs no more than a path, cost less than a word together
costs_fit : (n : ℕ) (costs : List ℕ) → n ≤ MAX_ROWS → ((c : ℕ) → c < n → slice_index costs c ≤ MAX_PATH) → cost_in n every costs < 18446744073709551615
costs_fit n costs few cheap =
    let sum = sum_small n every (λ c. slice_index costs c) MAX_PATH cheap in
    let most = mul-le n MAX_PATH MAX_ROWS MAX_PATH few (omega arith) in
    omega (arith, sum, most)

-- a solution inside is inside at a component
solution_at : (q : Question) (c : ℕ) (masks values costs : List ℕ) → IsSolution q every masks values costs → IsSolution q (itself c) masks values costs
solution_at q c masks values costs s = record { solves = s.solves; inside = λ place less own. s.inside place less refl }

-- where a component has no path, there is no solution
pub none_stands : (q : Question) (b : PathBox) (masks : List ℕ) (c : ℕ) → IsBox q b → b.masks ≡ masks → c < q.count → slice_index_or b.stands c false ≡ false → (x : Chosen) → IsSolution q every masks x.values x.costs → ⊥
none_stands q b masks c is same less falls x s =
    (is.each c less).none falls x.values x.costs (solution_at q c b.masks x.values x.costs (subst (λ m. IsSolution q every m x.values x.costs) (sym same) s))

-- the least paths of all components are floors
module _ (q : Question) (owned : All (λ c. c < q.count) q.of) (few : q.count ≤ MAX_ROWS) (b : PathBox) (names : List ℕ) (is : IsBox q b) (stand : (c : ℕ) → c < q.count → slice_index_or b.stands c false ≡ true) where
  column : (c : ℕ) → c < q.count → IsColumn q b.masks c b.columns
  column c less = (is.each c less).stands (stand c less)

  pub least_floored : (x : Chosen) → x.values ≡ b.columns.values → x.costs ≡ b.columns.costs → IsFloored q b.masks names 18446744073709551615 x
  least_floored x values costs =
      let own : IsFloored q b.masks names 18446744073709551615 (record { values = b.columns.values; costs = b.columns.costs }) = record {
        has = record {
          paths = record {
            places = is.shape.values;
            components = is.shape.costs;
            cost = λ c less own. (column c less).cost;
            cheap = λ c less own. (column c less).cheap;
          };
          floors = λ vs cs s test. sum_le q.count (λ c. test (slice_index names c)) (λ c. slice_index b.columns.costs c) (λ c. slice_index cs c)
              (λ c less own. (column c less).least vs cs (solution_at q c b.masks vs cs s));
        };
        inside = λ place less own.
            let c = slice_index q.of place in
            (column c (owned place 0 less)).inside place less (eq-eqb c c refl);
        less = costs_fit q.count b.columns.costs few (λ c less. (column c less).cheap);
      } in
      subst (λ v. IsFloored q b.masks names 18446744073709551615 (record { values = v; costs = x.costs })) (sym values)
      (subst (λ k. IsFloored q b.masks names 18446744073709551615 (record { values = b.columns.values; costs = k })) (sym costs) own)

-- no solution costs this much
pub none_costs : (q : Question) (masks seen : List ℕ) → q.count ≤ MAX_ROWS → ((values costs : List ℕ) → q.solves values costs → (length values ≡ length q.of) × ((c : ℕ) → slice_index costs c ≤ MAX_PATH))
    → seen ≡ masks → CostsAtLeast q every seen 18446744073709551615 → (x : Chosen) → IsSolution q every masks x.values x.costs → ⊥
none_costs q masks seen few whole same least x s =
    let more = least x.values x.costs (subst (λ m. IsSolution q every m x.values x.costs) (sym same) s) in
    let fits = costs_fit q.count x.costs few (λ c less. (whole x.values x.costs s.solves).1 c) in
    omega (arith, more, fits)
