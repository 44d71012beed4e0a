-- The guard at the first place of a chain, and at a later one.
use Rattle.std.proofs.Common.{◌≡◌, ◌≢◌, ℕ, zero, suc, ◌-◌, refl, codes, sub-one}
use Rattle.trial_maker.specs.declared.chains.Link.{Link}
use Rattle.trial_maker.specs.Chains.{link, pair_text}
use Rattle.trial_maker.specs.Draws.{draw}
use Rattle.trial_maker.specs.TransitionLines.{guard_at, guard_of}

first_at : (chain place x : ℕ) → place ≡ 0 → guard_at chain place x ≡ (codes "true", x)
first_at chain zero x first = refl
first_at chain (suc before) x first = cc

later_at : (chain place x : ℕ) → place ≢ 0 → guard_at chain place x ≡ (pair_text (link chain (place - 1)) (draw 3 x).0, (draw 3 x).1)
later_at chain zero x later = absurd (later refl)
later_at chain (suc before) x later = rw sub-one refl

pub first_guard : (link : Link) (x : ℕ) → link.place ≡ 0 → guard_of link x ≡ (codes "true", x)
unfolding guard_of
first_guard link x first = first_at link.chain link.place x first

pub later_guard : (at : Link) (x : ℕ) → at.place ≢ 0 → guard_of at x ≡ (pair_text (link at.chain (at.place - 1)) (draw 3 x).0, (draw 3 x).1)
unfolding guard_of
later_guard at x later = later_at at.chain at.place x later
