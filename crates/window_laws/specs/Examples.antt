-- Examples by which the words of a tracker are told from others.
use Rattle.std.specs.Prelude.{◌≡◌, ℕ, false, [], ◌∷◌, ◌++◌, replicate, Some, None}
use Rattle.window_laws.specs.Ticks.{TrackerState, IsRevised, next_anchor, next_records}
use Rattle.window_laws.specs.Trajectories.{Entry, IsEarlierPath}

-- nothing was sent, and nothing seen
abbrev pub nothing : Entry
nothing = record { command = None; seen = [] }

-- a command was sent
abbrev pub something : Entry
something = record { command = Some 0; seen = [] }

-- another command was sent, and something seen
abbrev pub another : Entry
another = record { command = Some 1; seen = record { item = 0; value = 1 } ∷ [] }

-- a tracker of one component with a last trajectory of modes 1 and then 2, of ticks of which a command is known, then another and what was seen, and then so many times nothing
abbrev pub tracker : ℕ → TrackerState
tracker count = record { anchor = 0 ∷ []; records = something ∷ another ∷ replicate count nothing; last = (1 ∷ []) ∷ (2 ∷ []) ∷ replicate count (2 ∷ []); ticks = 9; holding = false }

-- what the words say there
pub record Examples : Type 0 where
  -- the oldest state counts for more than the newest
  pub oldest_first : IsEarlierPath ((0 ∷ []) ∷ (1 ∷ []) ∷ []) ((1 ∷ []) ∷ (0 ∷ []) ∷ [])
  -- of one state the first component counts for more than the last
  pub first_component : IsEarlierPath ((0 ∷ 1 ∷ []) ∷ []) ((1 ∷ 0 ∷ []) ∷ [])
  -- with seven records none goes, and the window begins where it did
  pub seven : next_records (tracker 5) another ≡ something ∷ another ∷ replicate 5 nothing ++ another ∷ []
  pub seven_anchor : next_anchor (tracker 5) ≡ 0 ∷ []
  -- with eight the oldest goes, and the window begins at the first state of the last trajectory
  pub eight : next_records (tracker 6) something ≡ another ∷ replicate 6 nothing ++ something ∷ []
  pub eight_anchor : next_anchor (tracker 6) ≡ 1 ∷ []
  -- the first tick that differs is named by its number
  pub differs : IsRevised 4 ((0 ∷ []) ∷ (0 ∷ []) ∷ (0 ∷ []) ∷ []) ((0 ∷ []) ∷ (1 ∷ []) ∷ (1 ∷ []) ∷ (0 ∷ []) ∷ []) (Some 5)
  -- a tick that only one of both has doesn't count
  pub only_new : IsRevised 4 ((0 ∷ []) ∷ []) ((0 ∷ []) ∷ (1 ∷ []) ∷ []) None
  pub only_old : IsRevised 4 ((0 ∷ []) ∷ (1 ∷ []) ∷ []) ((0 ∷ []) ∷ []) None
