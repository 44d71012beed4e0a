-- Values that are lowered place by place.
use Rattle.std.specs.Prelude.{◌≡◌, ◌⊎◌, ℕ, List, take}
use Rattle.cca_base.specs.Estimates.{IsEarlier}

-- wanted values; each other ones agree with them below this place, or are later by a value there
pub record IsLowered (Want : List ℕ → Type 0) (count : ℕ) (s : List ℕ) : Type 0 where
  pub wanted : Want s
  pub first : (t : List ℕ) → Want t → (take count t ≡ take count s) ⊎ IsEarlier (take count s) (take count t)
