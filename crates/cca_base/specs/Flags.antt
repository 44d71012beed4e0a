-- Flags on numbered things.
use Rattle.std.specs.Prelude.{◌≡◌, ℕ, Bool, true, false, not, List, slice_index_or, count_by}

-- the flag of u is set
abbrev pub is_set : List Bool → ℕ → Bool
is_set flags u = slice_index_or flags u false

-- the flag at this place is set
abbrev pub IsSet : List Bool → ℕ → Type 0
IsSet flags u = is_set flags u ≡ true

-- how many flags are not set
abbrev pub unset : List Bool → ℕ
unset flags = count_by not flags
