-- Tables cover a state exactly where each component stands in its class or in a broken mode of its open chain.
use Rattle.std.proofs.Common.{◌≡◌, ◌↔◌, ℕ, Bool, true, List, length, slice_index, inl, inr}
use Rattle.std.specs.Cmp.{both_ways}
use Rattle.std.proofs.lemmas.Bool.{or_cases, or_left, or_right}
use Rattle.std.proofs.lemmas.List.Elements.{All-contains}
use Rattle.std.proofs.lemmas.List.Sums.{AllPass-from_list_all, list_all-from_AllPass}
use Rattle.list_laws.proofs.Members.{all_from}
use Rattle.cca_base.specs.Orders.{numbers_below}
use Rattle.cca_base.proofs.PathLaws.{below_contains, numbers_within}
use Rattle.reversibility.specs.ClassParts.{ClassParts, in_row}
use Rattle.reversibility.specs.Promises.{StandsAt, StandsByChain}
use Rattle.policy_tables.specs.Tables.{TableParts}
use Rattle.executive_loop.specs.Covering.{stands_at, covers}

to_test : (p : ClassParts) (s : List ℕ) (c : ℕ) → StandsAt p c (slice_index s c) → stands_at p s c ≡ true
to_test p s c (inl inside) = or_left (in_row p.rows c (slice_index s c)) _ inside
to_test p s c (inr on) = or_right (in_row p.rows c (slice_index s c)) _ on

from_test : (p : ClassParts) (s : List ℕ) (c : ℕ) → stands_at p s c ≡ true → StandsAt p c (slice_index s c)
from_test p s c h = elim (or_cases (in_row p.rows c (slice_index s c)) _ h) [
  | inl inside ↦ inl inside
  | inr on ↦ inr on
]

by_chain_covers : (t : TableParts) (s : List ℕ) → StandsByChain t.classes s → covers t s ≡ true
unfolding covers
by_chain_covers t s by =
    let n : ℕ = length t.classes.compiled.model.components in
    list_all-from_AllPass (stands_at t.classes s) (numbers_below n) (all_from (λ c. stands_at t.classes s c ≡ true) (numbers_below n) (λ c among. to_test t.classes s c (by c (numbers_within n c among))))

covers_by_chain : (t : TableParts) (s : List ℕ) → covers t s ≡ true → StandsByChain t.classes s
unfolding covers
covers_by_chain t s h c within =
    let n : ℕ = length t.classes.compiled.model.components in
    from_test t.classes s c
    (All-contains (λ c. stands_at t.classes s c ≡ true) (numbers_below n) c (AllPass-from_list_all (stands_at t.classes s) (numbers_below n) h) (below_contains n c within))

-- a test that is true exactly where each component stands so is this one
pub covers_is : (t : TableParts) (s : List ℕ) (test : Bool) → (test ≡ true) ↔ StandsByChain t.classes s → test ≡ covers t s
covers_is t s test h = both_ways test (covers t s) (λ e. by_chain_covers t s (h.0 e)) (λ e. h.1 (covers_by_chain t s e))
