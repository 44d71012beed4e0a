-- The ticks come one after the other.
use Rattle.std.proofs.Common.{◌≡◌, ℕ, zero, suc, ◌+◌, ◌-◌, ◌<◌, List, [], ◌∷◌, length, drop, refl, ap, ◌∙◌, arith, sub-one}
use Rattle.std.proofs.Math.Seq.{drop-cons}
use Rattle.std.proofs.lemmas.List.FromFn.{length-range_with_len, get_or-range_with_len}
use Rattle.std.specs.List.{range_with_len}
use Rattle.trial_maker.specs.Documents.{ticks}
use Rattle.trial_maker.specs.Draws.{each}
use Rattle.trial_maker.specs.ScriptLines.{tick_lines}

counted : (a n i : ℕ) → i < n → drop i (range_with_len a n) ≡ (a + i) ∷ drop (suc i) (range_with_len a n)
counted a n i within =
    let long : i < length (range_with_len a n) = rw length-range_with_len within in
    drop-cons (range_with_len a n) i 0 long ∙ ap (λ first. first ∷ drop (suc i) (range_with_len a n)) (get_or-range_with_len a n i 0 within)

counted_from_one : (n t : ℕ) → 0 < t → t < n + 1 → drop (t - 1) (range_with_len 1 n) ≡ t ∷ drop t (range_with_len 1 n)
counted_from_one n zero some within = absurd (omega arith)
counted_from_one n (suc i) some within =
    let next : 1 + i ≡ suc i = omega arith in rw sub-one (counted 1 n i (omega arith) ∙ ap (λ first. first ∷ drop (suc i) (range_with_len 1 n)) next)

next_tick : (t : ℕ) → 0 < t → t < 201 → drop (t - 1) ticks ≡ t ∷ drop t ticks
unfolding ticks
next_tick t some within = counted_from_one 200 t some within

-- behind the last tick there is none
pub no_tick : drop 200 ticks ≡ []
unfolding ticks
no_tick = refl

-- what the ticks from one on draw is what it draws, and then what those behind it draw
pub ticks_from : (t x : ℕ) → 0 < t → t < 201 → each tick_lines (drop (t - 1) ticks) x ≡ each tick_lines (t ∷ drop t ticks) x
ticks_from t x some within = ap (λ (from : List ℕ). each tick_lines from x) (next_tick t some within)
