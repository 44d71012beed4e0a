-- The lines of moves, repairs and failures, with what each draws.
use Rattle.std.specs.Prelude.{ℕ, zero, suc, ◌+◌, List, [], ◌∷◌, ◌++◌, codes}
use Rattle.std.specs.Fmt.{decimal}
use Rattle.trial_maker.specs.declared.chains.Link.{Link}
use Rattle.trial_maker.specs.Chains.{link, component_name, command_name, pair_text}
use Rattle.trial_maker.specs.Draws.{Drawing, draw, undrawn, ◌>>=◌}
use Rattle.trial_maker.specs.Sizes.{mode_count, least_cost, cost_count}

-- the guard at a place of a chain: at the first place it is always true and nothing is drawn, at any other it is a mode of the component before
abbrev pub guard_at : ℕ → ℕ → Drawing (List ℕ)
guard_at chain zero = undrawn (codes "true")
guard_at chain (suc before) = do
  mode ← draw mode_count
  undrawn (pair_text (link chain before) mode)

-- the guard of a component's move
unfoldable pub guard_of : Link → Drawing (List ℕ)
guard_of link = guard_at link.chain link.place

-- a move or a repair: its word, which modes it joins, its command's number and its guard
unfoldable pub transition_line : Link → List ℕ → List ℕ → ℕ → List ℕ → List ℕ
transition_line link word modes number guard =
    word ++ codes " " ++ component_name link ++ codes " " ++ modes ++ codes " by " ++ command_name link number ++ codes " when " ++ guard

-- the three moves of a component and its repair, each with a guard of its own
unfoldable pub move_lines : Link → Drawing (List (List ℕ))
move_lines link = do
  first ← guard_of link
  second ← guard_of link
  third ← guard_of link
  mended ← guard_of link
  undrawn (
      transition_line link (codes "move") (codes "a->b") 0 first
      ∷ transition_line link (codes "move") (codes "b->c") 1 second
      ∷ transition_line link (codes "move") (codes "c->a") 2 third
      ∷ transition_line link (codes "repair") (codes "x->a") 3 mended
      ∷ [])

-- the cost of a failure
unfoldable pub failure_cost : Drawing ℕ
failure_cost = do
  more ← draw cost_count
  undrawn (least_cost + more)

-- a failure from a mode
unfoldable pub failure_line : Link → List ℕ → ℕ → List ℕ
failure_line link mode cost = codes "fail " ++ component_name link ++ codes " " ++ mode ++ codes "->x cost " ++ decimal cost

-- the four failures of a component, each with a cost of its own
unfoldable pub failure_lines : Link → Drawing (List (List ℕ))
failure_lines link = do
  of_a ← failure_cost
  of_b ← failure_cost
  of_c ← failure_cost
  of_x ← failure_cost
  undrawn (
      failure_line link (codes "a") of_a
      ∷ failure_line link (codes "b") of_b
      ∷ failure_line link (codes "c") of_c
      ∷ failure_line link (codes "x") of_x
      ∷ [])
