-- The open moves that leave a mode.
use Rattle.std.proofs.Common.{◌≡◌, ◌<◌, ◌+◌, ℕ, true, suc, List, [], ◌∷◌, ◌++◌, length, slice_get, slice_index, Some, sym, ap, subst, ◌∙◌, length-append}
use Rattle.std.proofs.lemmas.List.Elements.{All-contains}
use Rattle.std.proofs.lemmas.Option.{same_Some}
use Rattle.cca_base.specs.declared.cube.Pair.{Pair}
use Rattle.cca_base.specs.declared.model.Move.{Move}
use Rattle.cca_base.specs.Accepted.{CompiledModel}
use Rattle.cca_base.specs.PlantModel.{PlantModel}
use Rattle.cca_base.specs.Implicants.{PrimeImplicant}
use Rattle.cca_base.specs.Model.{WellFormed, IsMove, HasMode, mode_counts}
use Rattle.cca_base.specs.Relations.{AreExactly}
use Rattle.reach_laws.specs.Classes.{Test, OpenMove}
use Rattle.reach_laws.specs.Cells.{IsShortest, IsStep}
use Rattle.reach_laws.proofs.Needed.{move_in}
use Rattle.reversibility.specs.ClassParts.{in_row}
use Rattle.reversibility.specs.Levels.{IsOpenNumber, AreOpenMoves, AreMovesWithin, IsLevel, IsAmong}
use Rattle.reversibility.proofs.Exactly.{exactly_here, exactly_place, exactly_earlier}
use Rattle.policy_tables.specs.Distances.{NearAt, IsFirstPlace, LeadsNear, IsFirstNear}
use Rattle.policy_tables.specs.Leaving.{LeavesMode, IsLeaving, AreLeaving, IsOpenAt, IsCubeOf, IsWayOf, AreWaysTo}
use Rattle.policy_tables.proofs.FirstCube.{push_each}
use Rattle.policy_tables.proofs.Approach.{approach_to, approach_from}

module _ (m : PlantModel) (w : WellFormed m) (member : Test) (c from : ℕ) where
  -- of the open moves those that leave the mode
  pub leaving_from : (numbers leaving : List ℕ) → AreOpenMoves m member c numbers → AreExactly (λ i. IsAmong numbers (length numbers) i × LeavesMode m from i) leaving
      → AreLeaving m member c from leaving
  leaving_from numbers leaving are some = record {
    rising = some.rising;
    each = λ i. (
      (λ there.
          let is = (some.each i).0 there in
          let number : IsOpenNumber m member c i = subst (IsOpenNumber m member c) is.0.2 (exactly_here (IsOpenNumber m member c) numbers are is.0.0 is.0.1) in
          let same : is.1.0 ≡ number.move = same_Some is.1.0 number.move (sym is.1.1 ∙ number.move_at) in
          record {
            move = number.move;
            move_at = number.move_at;
            own = number.own;
            source = sym (ap (λ (z : Move). z.source) same) ∙ is.1.2;
            open_move = number.open_move;
          }),
      (λ is. (some.each i).1 (
        exactly_place (IsOpenNumber m member c) numbers are i (record { move = is.move; move_at = is.move_at; own = is.own; open_move = is.open_move }),
        (is.move, is.move_at, is.source),
      )),
    );
  }

  module _ (leaving : List ℕ) (are : AreLeaving m member c from leaving) where
    pub leaving_open : (k : ℕ) → k < length leaving → IsOpenAt m member (slice_index leaving k)
    leaving_open k lt = let is : IsLeaving m member c from (slice_index leaving k) = exactly_here (IsLeaving m member c from) leaving are k lt in (is.move, is.move_at, is.open_move)

    pub leaving_within : AreMovesWithin m (slice_index (mode_counts m) c) leaving
    leaving_within place lt =
        let is : IsLeaving m member c from (slice_index leaving place) = exactly_here (IsLeaving m member c from) leaving are place lt in
        let fits : IsMove m is.move = All-contains (IsMove m) m.moves is.move w.moves (move_in m (slice_index leaving place) is.move is.move_at) in
        (is.move, is.move_at, subst (λ d. HasMode m d is.move.source) is.own fits.source, subst (λ d. HasMode m d is.move.target) is.own fits.target)

    module _ (level : List ℕ) (to : ℕ) where
      -- a move that leads near stands at some place
      pub near_place : (i : ℕ) → LeadsNear m member level c from to i → (k : ℕ) × (k < length leaving) × NearAt m leaving level to k
      near_place i h =
          let there = exactly_place (IsLeaving m member c from) leaving are i (record { move = h.move; move_at = h.move_at; own = h.own; source = h.source; open_move = h.open_move }) in
          (there.0, there.1, (h.move, subst (λ z. slice_get m.moves z ≡ Some h.move) (sym there.2) h.move_at, h.near))

      -- the first place has the first move
      pub first_near : (k : ℕ) → IsFirstPlace m leaving level to k → IsFirstNear m member level c from to (slice_index leaving k)
      first_near k h =
          let is : IsLeaving m member c from (slice_index leaving k) = exactly_here (IsLeaving m member c from) leaving are k h.within in
          let same : h.near.0 ≡ is.move = same_Some h.near.0 is.move (sym h.near.1 ∙ is.move_at) in
          record {
            leads = record {
              move = is.move;
              move_at = is.move_at;
              own = is.own;
              source = is.source;
              near = subst (λ (z : Move). in_row level z.target to ≡ true) same h.near.2;
              open_move = is.open_move;
            };
            first = λ j lt l.
                let before = exactly_earlier (IsLeaving m member c from) leaving are k j h.within
                (record { move = l.move; move_at = l.move_at; own = l.own; source = l.source; open_move = l.open_move }) lt in
                h.first before.0 before.1 (l.move, subst (λ z. slice_get m.moves z ≡ Some l.move) (sym before.2) l.move_at, l.near);
          }

-- ---- ways

-- the ways of the first moves, and that of the next
pub ways_next : (b : CompiledModel) (ways : List (List (List Pair))) (member : Test) (numbers chosen : List ℕ) (n way : ℕ) → AreWaysTo b ways member numbers chosen n
    → IsWayOf b ways member (slice_index numbers n) way → AreWaysTo b ways member numbers (chosen ++ way ∷ []) (n + 1)
ways_next b ways member numbers chosen n way h is = record {
  full = length-append chosen (way ∷ []) ∙ ap (λ k. k + 1) h.full;
  each = push_each 0 (λ k. IsWayOf b ways member (slice_index numbers k)) chosen n way h.full h.each is;
}

-- ---- steps

module _ (b : CompiledModel) (w : WellFormed b.model) (member : Test) (c from to rest : ℕ) (shortest : IsShortest b.model member c from to (suc rest)) (level : List ℕ)
    (is : IsLevel (OpenMove b.model member c) (slice_index (mode_counts b.model) c) rest level) where
  -- the first move that leads near, with its cube, is the step
  pub step_is : (i : ℕ) → IsFirstNear b.model member level c from to i → (move : Move) → slice_get b.model.moves i ≡ Some move → (cube : List Pair) → IsCubeOf b member i cube
      → IsStep b member c from to i move.command cube (suc rest)
  step_is i near move at cube of =
      let same : near.leads.move ≡ move = same_Some near.leads.move move (sym near.leads.move_at ∙ at) in
      let other : of.move ≡ move = same_Some of.move move (sym of.move_at ∙ at) in
      record {
        move = near.leads.move;
        move_at = near.leads.move_at;
        commands = ap (λ (z : Move). z.command) same;
        approaches = approach_to b.model w member c from to rest shortest level is i near.leads;
        first_move = λ earlier before lt at_earlier a. near.first earlier lt (approach_from b.model w member c from to rest shortest level is earlier before at_earlier a);
        plain = of.plain;
        prime = subst (λ z. PrimeImplicant b.model z of.plain) (other ∙ sym same) of.prime;
        inside = of.inside;
        first_cube = λ another prime. of.first_cube another (subst (λ z. PrimeImplicant b.model z another) (same ∙ sym other) prime);
        sorted = of.sorted;
      }
