-- How large a document is, and from how many numbers a draw takes one.
use Rattle.std.specs.Prelude.{ℕ, ◌*◌}

-- how many chains of components there are
abbrev pub chain_count : ℕ
chain_count = 8

-- how many components a chain has
abbrev pub chain_length : ℕ
chain_length = 6

-- how many components there are
abbrev pub link_count : ℕ
link_count = chain_count * chain_length

-- how many modes a component has beside the broken one
abbrev pub mode_count : ℕ
mode_count = 3

-- the least cost of a failure
abbrev pub least_cost : ℕ
least_cost = 3

-- how many costs a failure may have
abbrev pub cost_count : ℕ
cost_count = 4

-- how many ticks there are
abbrev pub tick_count : ℕ
tick_count = 200

-- a goal comes at the first of so many ticks
abbrev pub goal_period : ℕ
goal_period = 40

-- a fault comes where a draw of so many gives 0
abbrev pub fault_chances : ℕ
fault_chances = 10
