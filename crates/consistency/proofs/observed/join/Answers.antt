use Rattle.std.proofs.Common.{List, subst, rules}
use Rattle.std.specs.List.Sorted.{IsPermutation, IsNonDecreasingBy}
use Rattle.std.proofs.lemmas.List.Sorted.{IsNonDecreasingBy-from_sort_by_key}
use Rattle.cca_base.specs.declared.cube.Pair.{Pair}
use Rattle.cca_base.proofs.JoinedPairs.{sorted_union}
use Rattle.consistency.proofs.observed.join.Goals as goal

pub returns-clause-union : goal.returns-clause-union
returns-clause-union c =
    let seen : List Pair = c.args.list.now.items in
    let pairs : List Pair = c.args.pairs.now in
    let both : List Pair = c.sort_unstable_by_key.new.self.items in
    let up : IsNonDecreasingBy (λ (p : Pair). p.item) both =
    IsNonDecreasingBy-from_sort_by_key (λ (p : Pair). p.item) both c.sort_unstable_by_key.ensures.sorted (λ a r f h. search rules) in
    sorted_union seen pairs both c.requires.rising c.requires.once c.requires.new (subst (λ l. IsPermutation l both) c.push_all.ensures.items c.sort_unstable_by_key.ensures.permutation) up
