-- The prime implicants of the moves, one move after the other.
use Rattle.std.proofs.Common.{◌≡◌, ◌<◌, ◌≤◌, ◌+◌, ℕ, List, [], ◌∷◌, ◌++◌, length, slice_get, Some, All, inl, inr, refl, sym, ap, subst, ◌∙◌, arith}
use Rattle.std.proofs.lemmas.List.{length_push}
use Rattle.std.proofs.lemmas.Option.{slice_get_within, none-some}
use Rattle.std.proofs.lemmas.List.Elements.{All-push, All-contains}
use Rattle.list_laws.proofs.Places.{some_at}
use Rattle.list_laws.proofs.Members.{all_from, member_at, at_member}
use Rattle.cca_base.specs.declared.cube.Pair.{Pair}
use Rattle.cca_base.specs.declared.model.Move.{Move}
use Rattle.cca_base.specs.declared.events.Stop.{Stop}
use Rattle.cca_base.specs.declared.events.Stop.TheVariants.{Refused, Memory}
use Rattle.cca_base.specs.declared.limits.TheConstants.{MAX_WAYS}
use Rattle.cca_base.specs.Accepted.{AreWays, HasFewWays}
use Rattle.cca_base.specs.PlantModel.{PlantModel}
use Rattle.cca_base.proofs.Growth.{slice_get_cases}
use Rattle.guard_compiler.specs.Ways.{AtMove, HasManyWays, IsStop}
use Rattle.guard_compiler.proofs.WaysMeaning.{not_many}
use Rattle.cca_base.proofs.Counting.{not_among_fewer}
use Rattle.acceptance.specs.AllWays.{AreAllWays, IsFirstStop}
use Rattle.acceptance.specs.Refusals.{HasManyAt, HasMany}

-- exactly the prime implicants of the first n moves, of which none has too many
pub record AreWaysTo (m : PlantModel) (ways : List (List (List Pair))) (n : ℕ) : Type 0 where
  pub full : length ways ≡ n
  pub each : (i : ℕ) (move : Move) (cubes : List (List Pair)) → slice_get m.moves i ≡ Some move → slice_get ways i ≡ Some cubes → AreWays m move cubes
  pub few : All (λ cubes. length cubes ≤ MAX_WAYS) ways

pub ways_none : (m : PlantModel) → AreWaysTo m [] 0
ways_none m = record { full = refl; each = λ i move cubes at there. absurd (none-some cubes there); few = λ k d within. absurd (omega arith) }

module _ (m : PlantModel) (ways : List (List (List Pair))) (n : ℕ) (h : AreWaysTo m ways n) where
  pub ways_more : (cubes : List (List Pair)) → AtMove m n (λ move. AreWays m move cubes) → length cubes ≤ MAX_WAYS → AreWaysTo m (ways ++ cubes ∷ []) (n + 1)
  ways_more cubes are few = record {
    full = length_push ways cubes ∙ ap (λ k. k + 1) h.full;
    each = λ i move other at there. elim (slice_get_cases ways cubes i other there) [
      | inl before ↦ h.each i move other at before
      | inr last ↦ subst (AreWays m move) last.1 (are move (ap (slice_get m.moves) (sym (last.0 ∙ h.full)) ∙ at))
    ];
    few = All-push (λ (c : List (List Pair)). length c ≤ MAX_WAYS) ways cubes h.few few;
  }

  pub ways_all : length m.moves ≡ n → AreAllWays m ways
  ways_all whole = record { full = h.full ∙ sym whole; each = h.each; few = h.few }

  -- none of the moves so far has too many
  not_before : (i : ℕ) → i < n → HasManyAt m i → ⊥
  not_before i lt many =
      let cubes = some_at ways i (omega (arith, lt, h.full)) in
      not_many m many.0 cubes.0 (h.each i many.0 cubes.0 many.1 cubes.1)
      (All-contains (λ (c : List (List Pair)). length c ≤ MAX_WAYS) ways cubes.0 h.few (at_member ways i cubes.0 cubes.1)) many.2

  -- where the next move is refused, it is the first that has too many
  pub ways_stop : (e : Stop) → n < length m.moves → IsStop m n e → IsFirstStop m e
  ways_stop (Refused refusal) within stop =
      let move = some_at m.moves n within in
      (n, stop.0, record { many = (move.0, move.1, stop.1 move.0 move.1); first = not_before })
  ways_stop Memory within stop = tt

-- no move has too many where all have no more than there may be
pub none_many : (m : PlantModel) (ways : List (List (List Pair))) → AreAllWays m ways → HasMany m → ⊥
none_many m ways all many =
    not_before m ways (length ways) (record { full = refl; each = all.each; few = all.few }) many.0
    (omega (arith, slice_get_within m.moves many.0 many.1.0 many.1.1, all.full)) many.1

-- a move doesn't have both few and many
pub few_or_many : (m : PlantModel) (move : Move) → HasFewWays m move → HasManyWays m move → ⊥
few_or_many m move few many =
    not_among_fewer many.cubes few.0 MAX_WAYS many.in_order (λ k d within. few.1 _ (many.each k d within)) many.many few.2

-- all moves have few where each has no more than there may be
pub all_few : (m : PlantModel) (ways : List (List (List Pair))) → AreAllWays m ways → All (HasFewWays m) m.moves
all_few m ways all =
    all_from (HasFewWays m) m.moves (λ move among.
    let cubes = some_at ways among.0 (let lt : among.0 < length m.moves = among.1 in omega (arith, lt, all.full)) in
    let are = all.each among.0 move cubes.0 (member_at m.moves move among) cubes.1 in (
      cubes.0,
      λ cube prime. (are.each cube).1 prime,
      All-contains (λ (c : List (List Pair)). length c ≤ MAX_WAYS) ways cubes.0 all.few (at_member ways among.0 cubes.0 cubes.1),
    ))
