-- The lines of the script, with what each tick draws.
use Rattle.std.specs.Prelude.{ℕ, ◌+◌, ◌-◌, ◌%◌, List, [], ◌∷◌, ◌++◌, map, codes, ◌==◌}
use Rattle.trial_maker.specs.declared.chains.Link.{Link}
use Rattle.trial_maker.specs.Chains.{link, link_at, component_name, variable_name, pair_text}
use Rattle.trial_maker.specs.Draws.{Drawing, draw, undrawn, drawn_if, ◌>>=◌}
use Rattle.trial_maker.specs.Sizes.{chain_count, chain_length, link_count, mode_count, goal_period, fault_chances}

-- a variable is observed from the plant
unfoldable pub mirror_line : Link → List ℕ
mirror_line link = codes "mirror " ++ variable_name link

-- the script's first line, and then all mirrors
unfoldable pub mirror_lines : List Link → List (List ℕ)
mirror_lines links = codes "script" ∷ map mirror_line links

-- a goal of two components and their modes
unfoldable pub goal_line : Link → ℕ → Link → ℕ → List ℕ
goal_line first mode second next_mode = codes "goal " ++ pair_text first mode ++ codes "," ++ pair_text second next_mode

-- a goal for a component of a chain and one of the next chain
unfoldable pub drawn_goal : Drawing (List (List ℕ))
drawn_goal = do
  chain ← draw chain_count
  place ← draw chain_length
  mode ← draw mode_count
  next_place ← draw chain_length
  next_mode ← draw mode_count
  undrawn (goal_line (link chain place) mode (link ((chain + 1) % chain_count) next_place) next_mode ∷ [])

-- a goal comes at the first tick of each period
unfoldable pub goal_lines : ℕ → Drawing (List (List ℕ))
goal_lines tick = drawn_if ((tick - 1) % goal_period == 0) drawn_goal

-- the line by which a component breaks
unfoldable pub fault_line : Link → List ℕ
fault_line link = codes "fault " ++ component_name link ++ codes "=x"

-- a fault of any component
unfoldable pub drawn_fault : Drawing (List (List ℕ))
drawn_fault = do
  number ← draw link_count
  undrawn (fault_line (link_at number) ∷ [])

-- a fault comes by chance
unfoldable pub fault_lines : Drawing (List (List ℕ))
fault_lines = do
  chance ← draw fault_chances
  drawn_if (chance == 0) drawn_fault

-- the goal and the fault of a tick, where they come, and then the tick
unfoldable pub tick_lines : ℕ → Drawing (List (List ℕ))
tick_lines tick = do
  goal ← goal_lines tick
  fault ← fault_lines
  undrawn (goal ++ fault ++ codes "tick" ∷ [])
