-- A machine's run from a state on to the end of the input.
use Rattle.std.specs.Prelude.{◌≡◌, ℕ, ◌+◌, List, ◌++◌, length}
use Rattle.line_machine.specs.Next.{Next}
use Rattle.line_machine.specs.Runs.{Runs, Closes}
use Rattle.line_machine.specs.declared.machine.End.{End}
use Rattle.line_machine.specs.declared.machine.Machine.{Ghosts}

-- the lines behind n lines, and then the end of the input, lead to this end, and this is printed
pub record Completes {S : Type 0} (m : Ghosts S) (u : Next S) (n : ℕ) (ls : List (List ℕ)) (e : End) (text : List ℕ) : Type 0 where
  pub here : Next S
  pub lines : List ℕ
  pub runs : Runs m u n ls here lines
  pub last : List ℕ
  pub closes : Closes m here (n + length ls) e last
  pub parts : text ≡ lines ++ last
