-- Open moves and how far they lead, and the first of all cubes.
use Rattle.std.proofs.Common.{◌≡◌, ◌≢◌, ◌<◌, ◌≤◌, ℕ, zero, suc, List, [], ◌∷◌, length, Contains, refl, sym, arith}
use Rattle.std.specs.Prelude.{false}
use Rattle.std.specs.Ordering.{nat_cmp, ordering_then}
use Rattle.std.specs.Cmp.Lexicographic.{slice_cmp}
use Rattle.std.specs.declared.cmp.Ordering.{Ordering}
use Rattle.std.specs.declared.cmp.Ordering.TheVariants.{Less, Equal, Greater}
use Rattle.std.proofs.lemmas.Cmp.{ranked, by_ranked}
use Rattle.std.proofs.lemmas.List.Elements.{All-nil}
use Rattle.list_laws.proofs.Orders.{less_greater}
use Rattle.cca_base.specs.declared.cube.Pair.{Pair}
use Rattle.cca_base.specs.declared.model.Move.{Move}
use Rattle.cca_base.specs.PlantModel.{PlantModel}
use Rattle.cca_base.specs.Choice.{IsOpenAt, IsDistance, Walk}
use Rattle.cca_base.specs.Model.{is_broken}
use Rattle.cca_base.specs.Steps.{Reach}
use Rattle.cca_base.specs.Cube.{IsBeforeCube, pair_cmp}
use Rattle.cca_laws.proofs.FreeMoves.{free_prime}
use Rattle.cca_laws.specs.Examples.{always_true}

equal_greater : ◌≡◌ {A = Ordering} Equal Greater → ⊥
equal_greater h = cc

then_less : (a b : Ordering) → a ≡ Greater → ordering_then a b ≡ Less → ⊥
then_less Less b e h = less_greater e
then_less Equal b e h = equal_greater e
then_less Greater b e h = less_greater (sym h)

-- no cube comes before one of fewer pairs
pub longer_is_later : (a b : List Pair) → length b < length a → IsBeforeCube a b → ⊥
longer_is_later a b longer h =
    let more : ℕ = length a in
    let less : ℕ = length b in
    by_ranked (more < less) (more ≡ less) (less < more) (nat_cmp more less) (ranked more less (nat_cmp more less) refl)
    (λ e below. absurd (omega arith))
    (λ e same. absurd (omega arith))
    (λ e above. then_less (nat_cmp more less) (slice_cmp pair_cmp a b) e h)

-- nothing comes before the empty cube
pub least_cube : (cube : List Pair) → IsBeforeCube cube [] → ⊥
least_cube [] h = absurd cc
least_cube (p ∷ cube) h = longer_is_later (p ∷ cube) [] (omega arith) h

module _ (m : PlantModel) (s : List ℕ) where
  -- a move whose guard is always true is open
  pub open_free : (move : Move) → move.guard ≡ always_true → IsOpenAt m s move
  open_free move e = ([], free_prime m move e, All-nil (λ (p : Pair). Reach m s p.item p.value × (is_broken m.moves p.item p.value ≡ false)))

  pub none_away : (c mode : ℕ) → IsDistance m s c mode mode 0
  none_away c mode = (refl, λ fewer h. omega arith)

  -- an open move leads to a mode that is one away, if it isn't its own source
  pub one_away : (move : Move) → Contains m.moves move → IsOpenAt m s move → move.source ≢ move.target → IsDistance m s move.component move.source move.target 1
  one_away move own is_open other = ((move, own, refl, refl, is_open, refl), no_shorter)
    where
      no_shorter : (fewer : ℕ) → Walk m s move.component move.source move.target fewer → 1 ≤ fewer
      no_shorter zero h = absurd (other h)
      no_shorter (suc fewer) h = omega arith
