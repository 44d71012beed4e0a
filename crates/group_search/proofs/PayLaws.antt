-- What solutions cost at least, where they pay beside the least paths for what was spent.
use Rattle.std.proofs.Common.{◌≡◌, ℕ, ◌+◌, ◌<◌, ◌≤◌, Bool, true, List, slice_index, arith}
use Rattle.group_search.specs.Bounds.{Pays}
use Rattle.group_search.specs.Questions.{Question, cost_in}
use Rattle.group_search.proofs.Sums.{sum_add, sum_le, sum_more}

module _ (q : Question) (test : ℕ → Bool) (least spent : List ℕ) (more : ℕ) (costs : List ℕ) where
  -- a solution costs the least paths and what it pays
  pub pays_all : Pays q test least spent more costs → cost_in q.count test least + more ≤ cost_in q.count test costs
  pays_all pays =
      let both = sum_le q.count test (λ c. slice_index least c + pays.paid c) (λ c. slice_index costs c) pays.costs_more in
      let parts = sum_add q.count test (λ c. slice_index least c) pays.paid in
      let all = pays.total in
      omega (arith, both, parts, all)

  -- and what one component costs besides
  pub pays_beside : (c rest : ℕ) → c < q.count → test c ≡ true → slice_index least c + slice_index spent c + rest ≤ slice_index costs c
      → Pays q test least spent more costs → cost_in q.count test least + more + rest ≤ cost_in q.count test costs
  pays_beside c rest less own beside pays =
      let within = pays.within c less in
      let both = sum_more q.count test (λ d. slice_index least d + pays.paid d) (λ d. slice_index costs d) c rest less own (omega (arith, within, beside)) pays.costs_more in
      let parts = sum_add q.count test (λ d. slice_index least d) pays.paid in
      let all = pays.total in
      omega (arith, both, parts, all)
