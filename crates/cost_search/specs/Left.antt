-- How many states come after the last one given, which falls at each `next` that gives one.
use Rattle.std.specs.Prelude.{ℕ, Bool, true, cond, List, [], ◌∷◌, Option, Some, None}
use Rattle.std.specs.List.{sum_by}
use Rattle.std.specs.Ordering.{is_lt}
use Rattle.cca_base.specs.declared.choice.Choice.{Choice}
use Rattle.cost_search.specs.declared.costed.Costed.{Costed}
use Rattle.cost_search.specs.Search.{Searched, rank_cmp}
use Rattle.cost_search.specs.Queue.{modes_of, cost_of}

-- how many states of the rows pass the test
abbrev pub count_states : List (List Choice) → (List Choice → Bool) → ℕ
count_states [] test = cond (test []) 1 0
count_states (row ∷ rows) test = sum_by (λ x. count_states rows (λ picks. test (x ∷ picks))) row

-- whether the choices make a state that comes after the last one given
abbrev pub is_after_last : Option Costed → List Choice → Bool
is_after_last None picks = true
is_after_last (Some l) picks = is_lt (rank_cmp l.cost l.state.modes (cost_of picks) (modes_of picks))

-- how many states come after the last one given
abbrev pub states_left : Searched → ℕ
states_left v = count_states v.rows (is_after_last v.last)
