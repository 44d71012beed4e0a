-- The components, chain by chain, are those of the numbers from 0 on.
use Rattle.std.proofs.Common.{◌≡◌, ℕ, ◌+◌, ◌++◌, [], ◌∷◌, refl, map, arith}
use Rattle.std.specs.List.{range_with_len}
use Rattle.std.proofs.lemmas.List.FromFn.{map-range_with_len_more}
use Rattle.trial_maker.specs.Chains.{link_at, links}

pub links_are : map link_at (range_with_len 0 48) ≡ links
unfolding links
links_are = refl

pub one_more : (n : ℕ) → map link_at (range_with_len 0 (n + 1)) ≡ map link_at (range_with_len 0 n) ++ link_at n ∷ []
one_more n = map-range_with_len_more link_at 0 n n (omega arith)
