-- Rows of room: the numbers of one record stand next to those of the next.
use Rattle.std.proofs.Common.{◌≡◌, ◌≢◌, ℕ, ◌<◌, ◌≤◌, ◌+◌, ◌-◌, ◌*◌, inl, inr, List, length, get_or, set, take, drop, Option, None, sym, ap, ◌∙◌, arith}
use Rattle.std.proofs.Math.Nat.{mul-le-mul_right}
use Rattle.std.proofs.Math.Seq.{take-set-lt}
use Rattle.std.proofs.lemmas.Bool.{cases_lt}
use Rattle.std.proofs.lemmas.List.{drop-set-add, drop-set-lt, get_or-set_other, get_or-set_same, length-drop, length-take-le, take-set-le}

-- rows of this length
module _ (n : ℕ) (room : List (Option ℕ)) where
  abbrev pub row : List (Option ℕ) → ℕ → List (Option ℕ)
  row l at = take n (drop (at * n) l)

  pub length-row : (at : ℕ) → (at + 1) * n ≤ length room → length (row room at) ≡ n
  length-row at within = length-take-le n (drop (at * n) room) (omega (arith, length-drop (at * n) room, within))

  -- a number is put in one row
  module _ (at mode : ℕ) (cost : Option ℕ) (few : mode < n) where
    abbrev with : List (Option ℕ)
    with = set room (at * n + mode) cost

    here_set : row with at ≡ set (row room at) mode cost
    here_set = ap (take n) (drop-set-add (at * n) room mode cost) ∙ take-set-lt n (drop (at * n) room) mode cost few

    pub put_here : (at + 1) * n ≤ length room → get_or (row with at) mode None ≡ cost
    put_here within = ap (λ l. get_or l mode None) here_set ∙ get_or-set_same (row room at) mode cost None (omega (arith, length-row at within, few))

    pub put_others : (other : ℕ) → other ≢ mode → get_or (row with at) other None ≡ get_or (row room at) other None
    put_others other differs = ap (λ l. get_or l other None) here_set ∙ get_or-set_other (row room at) mode other cost None differs

    later_row : (other : ℕ) → at < other → row with other ≡ row room other
    later_row other less = ap (take n) (drop-set-lt (other * n) room (at * n + mode) cost (omega (arith, few, mul-le-mul_right {m = at + 1} {n = other} n (omega (arith, less)))))

    earlier_row : (other gap : ℕ) → other < at → other * n + gap ≡ at * n + mode → row with other ≡ row room other
    earlier_row other gap less e =
        ap (λ k. row (set room k cost) other) (sym e) ∙ ap (take n) (drop-set-add (other * n) room gap cost)
        ∙ take-set-le n (drop (other * n) room) gap cost (omega (arith, e, mul-le-mul_right {m = other + 1} {n = at} n (omega (arith, less))))

    pub put_kept : (other : ℕ) → other ≢ at → row with other ≡ row room other
    put_kept other differs = elim (cases_lt other at) [
      | inl less ↦ earlier_row other (at * n + mode - other * n) less (omega (arith, mul-le-mul_right {m = other + 1} {n = at} n (omega (arith, less))))
      | inr more ↦ later_row other (omega (arith, differs, more))
    ]
