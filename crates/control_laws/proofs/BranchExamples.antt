-- Programs of two branches go as the examples say.
use Rattle.std.proofs.Common.{◌≡◌, ◌==◌, false, ℕ, List, [], ◌∷◌, Some, None, slice_get, refl, sym, subst}
use Rattle.std.proofs.lemmas.List.Elements.{All-tail}
use Rattle.cca_base.specs.declared.cube.Pair.{Pair}
use Rattle.cca_base.specs.PlantModel.{PlantModel}
use Rattle.control_syntax.specs.Reading.{seq}
use Rattle.control_laws.specs.Examples.{pair, reach, branches, clash, GoesSo, turn_of_two, BranchesEnd, FirstBranchWins}
use Rattle.control_laws.specs.Rest.{Rest as rest, Rests as rests, whole, Turn}
use Rattle.control_laws.specs.Turns.{Control, TurnsBy}
use Rattle.control_laws.proofs.SmallTurns.{HasPair, asks, at, both_of_one, both_of_two, by, goes_so, not_there, one_more, reached, seq_goes, seq_stays, there, whole_both, whole_reach, whole_seq}

abbrev wanted : ℕ → ℕ → rest
wanted c mode = rest.Reach (pair c mode ∷ [])

-- the second branch, and what is left of it once its component was on
abbrev on_off : rest
on_off = rest.Seq (rests.more (wanted 1 1) (rests.more (wanted 1 0) rests.none))

abbrev then_off : rest
then_off = rest.Seq (rests.more (wanted 1 0) rests.none)

abbrev two : rest
two = rest.Both (rests.more (wanted 0 1) (rests.more on_off rests.none))

abbrev one : rest → rest
one x = rest.Both (rests.more x rests.none)

line_whole : (c mode : ℕ) → whole (reach (pair c mode ∷ [])) ≡ wanted c mode
line_whole c mode = whole_reach (pair c mode ∷ [])

branches_whole : whole branches ≡ two
branches_whole =
    let second : whole (seq (reach (pair 1 1 ∷ []) ∷ reach (pair 1 0 ∷ []) ∷ [])) ≡ on_off =
    whole_seq (reach (pair 1 1 ∷ []) ∷ reach (pair 1 0 ∷ []) ∷ []) (rests.more (wanted 1 1) (rests.more (wanted 1 0) rests.none))
    (one_more (reach (pair 1 1 ∷ [])) (reach (pair 1 0 ∷ []) ∷ []) (wanted 1 1) (rests.more (wanted 1 0) rests.none) (line_whole 1 1)
    (one_more (reach (pair 1 0 ∷ [])) [] (wanted 1 0) rests.none (line_whole 1 0) refl)) in
    whole_both (reach (pair 0 1 ∷ []) ∷ seq (reach (pair 1 1 ∷ []) ∷ reach (pair 1 0 ∷ []) ∷ []) ∷ []) (rests.more (wanted 0 1) (rests.more on_off rests.none))
    (one_more (reach (pair 0 1 ∷ [])) (seq (reach (pair 1 1 ∷ []) ∷ reach (pair 1 0 ∷ []) ∷ []) ∷ []) (wanted 0 1) (rests.more on_off rests.none) (line_whole 0 1)
    (one_more (seq (reach (pair 1 1 ∷ []) ∷ reach (pair 1 0 ∷ []) ∷ [])) [] on_off rests.none second refl))

module _ (m : PlantModel) where
  asks_one : (s : List ℕ) (c mode has : ℕ) → slice_get s c ≡ Some has → (has == mode) ≡ false → Turn m s (wanted c mode) (pair c mode ∷ []) (Some (wanted c mode))
  asks_one s c mode has at_c differ = asks m s (pair c mode ∷ []) (not_there s (pair c mode) [] has at_c differ)

  asks_on : (a : ℕ) → Turn m (a ∷ 0 ∷ []) on_off (pair 1 1 ∷ []) (Some on_off)
  asks_on a = seq_stays m (a ∷ 0 ∷ []) (wanted 1 1) (wanted 1 1) (rests.more (wanted 1 0) rests.none) (pair 1 1 ∷ []) (asks_one (a ∷ 0 ∷ []) 1 1 0 refl refl)

  asks_off : (a : ℕ) → Turn m (a ∷ 1 ∷ []) then_off (pair 1 0 ∷ []) (Some then_off)
  asks_off a = seq_stays m (a ∷ 1 ∷ []) (wanted 1 0) (wanted 1 0) rests.none (pair 1 0 ∷ []) (asks_one (a ∷ 1 ∷ []) 1 0 1 refl refl)

  comes_off : Turn m (1 ∷ 1 ∷ []) on_off (pair 1 0 ∷ []) (Some then_off)
  comes_off = seq_goes m (1 ∷ 1 ∷ []) (wanted 1 1) (rests.more (wanted 1 0) rests.none) (pair 1 0 ∷ []) (Some then_off)
      (reached m (1 ∷ 1 ∷ []) (pair 1 1 ∷ []) (there (1 ∷ 1 ∷ []) (pair 1 1) refl)) (asks_off 1)

  abbrev left : rest → Control
  left x = at two (Some x)

  both_ask : TurnsBy m (0 ∷ 0 ∷ []) (left two) (pair 0 1 ∷ pair 1 1 ∷ []) (left two)
  both_ask = by m (0 ∷ 0 ∷ []) two (Some two) (pair 0 1 ∷ pair 1 1 ∷ []) (Some two)
      (both_of_two m (0 ∷ 0 ∷ []) (wanted 0 1) on_off (pair 0 1 ∷ []) (pair 1 1 ∷ []) (Some (wanted 0 1)) (Some on_off) (asks_one (0 ∷ 0 ∷ []) 0 1 0 refl refl) (asks_on 0))

  first_ends : TurnsBy m (1 ∷ 0 ∷ []) (left two) (pair 1 1 ∷ []) (left (one on_off))
  first_ends = by m (1 ∷ 0 ∷ []) two (Some two) (pair 1 1 ∷ []) (Some (one on_off))
      (both_of_two m (1 ∷ 0 ∷ []) (wanted 0 1) on_off [] (pair 1 1 ∷ []) None (Some on_off)
      (reached m (1 ∷ 0 ∷ []) (pair 0 1 ∷ []) (there (1 ∷ 0 ∷ []) (pair 0 1) refl)) (asks_on 1))

  second_goes_on : TurnsBy m (1 ∷ 1 ∷ []) (left (one on_off)) (pair 1 0 ∷ []) (left (one then_off))
  second_goes_on = by m (1 ∷ 1 ∷ []) two (Some (one on_off)) (pair 1 0 ∷ []) (Some (one then_off))
      (both_of_one m (1 ∷ 1 ∷ []) on_off (pair 1 0 ∷ []) (Some then_off) comes_off)

  second_asks : (a : ℕ) → TurnsBy m (a ∷ 1 ∷ []) (left (one then_off)) (pair 1 0 ∷ []) (left (one then_off))
  second_asks a = by m (a ∷ 1 ∷ []) two (Some (one then_off)) (pair 1 0 ∷ []) (Some (one then_off))
      (both_of_one m (a ∷ 1 ∷ []) then_off (pair 1 0 ∷ []) (Some then_off) (asks_off a))

pub branches_end : BranchesEnd
branches_end m = goes_so m branches two branches_whole
    (turn_of_two 0 0 ∷ turn_of_two 0 0 ∷ turn_of_two 1 0 ∷ turn_of_two 1 1 ∷ turn_of_two 1 1 ∷ turn_of_two 0 1 ∷ [])
    ((pair 0 1 ∷ pair 1 1 ∷ []) ∷ (pair 0 1 ∷ pair 1 1 ∷ []) ∷ (pair 1 1 ∷ []) ∷ (pair 1 0 ∷ []) ∷ (pair 1 0 ∷ []) ∷ (pair 1 0 ∷ []) ∷ [])
    (Some (one then_off)) (
      left m two,
      both_ask m,
      (
        left m two,
        both_ask m,
        (
          left m (one on_off),
          first_ends m,
          (
            left m (one then_off),
            second_goes_on m,
            (left m (one then_off), second_asks m 1, (left m (one then_off), second_asks m 0, (refl, refl))),
          ),
        ),
      ),
    )

-- ---- a clash

abbrev others : List Pair
others = pair 0 0 ∷ pair 1 1 ∷ []

abbrev against : rest
against = rest.Both (rests.more (wanted 0 1) (rests.more (rest.Reach others) rests.none))

clash_whole : whole clash ≡ against
clash_whole = whole_both (reach (pair 0 1 ∷ []) ∷ reach others ∷ []) (rests.more (wanted 0 1) (rests.more (rest.Reach others) rests.none))
    (one_more (reach (pair 0 1 ∷ [])) (reach others ∷ []) (wanted 0 1) (rests.more (rest.Reach others) rests.none) (whole_reach (pair 0 1 ∷ []))
    (one_more (reach others) [] (rest.Reach others) rests.none (whole_reach others) refl))

clash_turn : (m : PlantModel) → Turn m (0 ∷ 0 ∷ []) against (pair 0 1 ∷ others) (Some against)
clash_turn m = both_of_two m (0 ∷ 0 ∷ []) (wanted 0 1) (rest.Reach others) (pair 0 1 ∷ []) others (Some (wanted 0 1)) (Some (rest.Reach others))
    (asks_one m (0 ∷ 0 ∷ []) 0 1 0 refl refl)
    (asks m (0 ∷ 0 ∷ []) others (λ all. not_there (0 ∷ 0 ∷ []) (pair 1 1) [] 0 refl refl (All-tail (HasPair (0 ∷ 0 ∷ [])) (pair 0 0) (pair 1 1 ∷ []) all)))

pub first_branch_wins : FirstBranchWins
first_branch_wins m = subst (λ r. GoesSo m clash (turn_of_two 0 0 ∷ []) ((pair 0 1 ∷ pair 1 1 ∷ []) ∷ []) (Some r)) (sym clash_whole)
    (goes_so m clash against clash_whole (turn_of_two 0 0 ∷ []) ((pair 0 1 ∷ pair 1 1 ∷ []) ∷ []) (Some against)
    (at against (Some against), by m (0 ∷ 0 ∷ []) against (Some against) (pair 0 1 ∷ others) (Some against) (clash_turn m), (refl, refl)))
