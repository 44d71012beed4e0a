-- The codes of `sent`.
use Rattle.std.proofs.Common.{◌≡◌, ◌⊎◌, inl, inr, ℕ, Bool, true, List, Option, Some, None, refl, arith}
use Rattle.cca_base.specs.declared.cube.Pair.{Pair}
use Rattle.cca_base.specs.PlantModel.{PlantModel}
use Rattle.formula_syntax.specs.Lookups.{place_of}
use Rattle.watch_lines.specs.Items.{Sent}
use Rattle.watch_lines.specs.WatchEvents.{IsLeastCode, SentCodes}

by_place : (m : PlantModel) (pending : List Pair) (sent : Bool) (command : List ℕ) (code : ℕ) (place : Option ℕ) → place_of m.commands command ≡ place
    → IsLeastCode m pending sent (Sent command) code
    → ((place_of m.commands command ≡ None) × (code ≡ 2)) ⊎ ((k : ℕ) × (place_of m.commands command ≡ Some k) × (code ≡ 15) × (sent ≡ true))
by_place m pending sent command code None at (inl (e, none), least) = inl (at, e)
by_place m pending sent command code None at (inr (e, before), least) = absurd (least 2 (omega (arith, e)) (inl (refl, at)))
by_place m pending sent command code (Some k) at (inl (e, none), least) = absurd (cc)
by_place m pending sent command code (Some k) at (inr (e, before), least) = inr (k, at, e, before)

pub sent_codes : SentCodes
sent_codes m pending sent command code h = by_place m pending sent command code (place_of m.commands command) refl h
