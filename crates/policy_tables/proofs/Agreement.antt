-- A component's cells are the same by two classes that agree for it.
use Rattle.std.proofs.Common.{◌≡◌, ℕ, zero, suc, List, Contains, sym, ◌∙◌}
use Rattle.cca_base.specs.declared.cube.Pair.{Pair}
use Rattle.cca_base.specs.declared.model.Move.{Move}
use Rattle.cca_base.specs.Accepted.{CompiledModel}
use Rattle.cca_base.specs.PlantModel.{PlantModel}
use Rattle.reach_laws.specs.declared.cell.Cell.{Cell}
use Rattle.reach_laws.specs.declared.cell.Cell.TheVariants as cell
use Rattle.reach_laws.specs.Classes.{Test, IsOpen, OpenMove, OpenWalk}
use Rattle.reach_laws.specs.Cells.{IsShortest, Approaches, IsStep, IsCell}
use Rattle.reach_laws.proofs.Needed.{move_in}
use Rattle.policy_tables.specs.Keeping.{AgreeFor}

agree_back : (m : PlantModel) (one other : Test) (c : ℕ) → AgreeFor m one other c → AgreeFor m other one c
agree_back m one other c agree = record {
  class = λ x. sym (agree.class x);
  ways = λ move of own cube prime. let both = agree.ways move of own cube prime in (both.1, both.0);
}

module _ (m : PlantModel) (one other : Test) (c : ℕ) (agree : AgreeFor m one other c) where
  open_agrees : (move : Move) → Contains m.moves move → move.component ≡ c → IsOpen m one move → IsOpen m other move
  open_agrees move of own o = record { cube = o.cube; prime = o.prime; inside = (agree.ways move of own o.cube o.prime).0 o.inside }

  move_agrees : (a x : ℕ) → OpenMove m one c a x → OpenMove m other c a x
  move_agrees a x o = record { move = o.move; of_model = o.of_model; own = o.own; source = o.source; target = o.target; open_move = open_agrees o.move o.of_model o.own o.open_move }

  walk_agrees : (n a x : ℕ) → OpenWalk m one c a x n → OpenWalk m other c a x n
  walk_agrees zero a x e = e
  walk_agrees (suc n) a x (next, move, rest) = (next, move_agrees a next move, walk_agrees n next x rest)

shortest_agrees : (m : PlantModel) (one other : Test) (c : ℕ) → AgreeFor m one other c → (a x n : ℕ) → IsShortest m one c a x n → IsShortest m other c a x n
shortest_agrees m one other c agree a x n s = record {
  walk = walk_agrees m one other c agree n a x s.walk;
  least = λ fewer walk. s.least fewer (walk_agrees m other one c (agree_back m one other c agree) fewer a x walk);
}

approaches_agree : (m : PlantModel) (one other : Test) (c : ℕ) → AgreeFor m one other c → (from to left : ℕ) (move : Move) → Contains m.moves move → Approaches m one c from to left move
    → Approaches m other c from to left move
approaches_agree m one other c agree from to left move of a = record {
  own = a.own;
  source = a.source;
  open_move = open_agrees m one other c agree move of a.own a.open_move;
  rest = a.rest;
  counts = a.counts;
  before = shortest_agrees m one other c agree from to left a.before;
  after = shortest_agrees m one other c agree move.target to a.rest a.after;
}

module _ (b : CompiledModel) (one other : Test) (c : ℕ) (agree : AgreeFor b.model one other c) where
  step_agrees : (from to number command : ℕ) (cube : List Pair) (left : ℕ) → IsStep b one c from to number command cube left → IsStep b other c from to number command cube left
  step_agrees from to number command cube left s =
      let back : AgreeFor b.model other one c = agree_back b.model one other c agree in
      let of : Contains b.model.moves s.move = move_in b.model number s.move s.move_at in
      record {
        move = s.move;
        move_at = s.move_at;
        commands = s.commands;
        approaches = approaches_agree b.model one other c agree from to left s.move of s.approaches;
        first_move = λ earlier before lt at a. s.first_move earlier before lt at (approaches_agree b.model other one c back from to left before (move_in b.model earlier before at) a);
        plain = s.plain;
        prime = s.prime;
        inside = (agree.ways s.move of s.approaches.own s.plain s.prime).0 s.inside;
        first_cube = λ another prime inside. s.first_cube another prime ((agree.ways s.move of s.approaches.own another prime).1 inside);
        sorted = s.sorted;
      }

  pub cell_agrees : (from to : ℕ) (x : Cell) → IsCell b one c from to x → IsCell b other c from to x
  cell_agrees from to cell.Stay e = e
  cell_agrees from to (cell.Step number command cube left) (apart, inside, step) = (apart, sym (agree.class to) ∙ inside, step_agrees from to number command cube left step)
  cell_agrees from to cell.Never (apart, outside) = (apart, sym (agree.class to) ∙ outside)
