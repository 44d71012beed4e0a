-- What may be printed of some bytes is nothing yet, or the whole text of some that came first.
use Rattle.std.specs.Prelude.{◌≡◌, ◌⊎◌, ℕ, List, [], ◌++◌, Option}
use Rattle.std.specs.Io.KnownBytes.{IsAtEnd}
use Rattle.line_machine.specs.Driven.{Prints}
use Rattle.line_machine.specs.Next.{Next, GoesOn}
use Rattle.line_machine.specs.Runs.{Runs, IsSure, IsText}
use Rattle.line_machine.specs.declared.machine.End.{End}
use Rattle.line_machine.specs.declared.machine.End.TheVariants.{Ended}
use Rattle.line_machine.specs.declared.machine.Machine.{Ghosts}

-- where a machine goes on behind its first lines, nothing was printed yet, or the input may end there and nothing is printed for that
abbrev pub PrintsByLines : {S : Type 0} → Ghosts S → S → Type 0
PrintsByLines {S} m first = (t : S) (ls : List (List ℕ)) (text : List ℕ) → Runs m (GoesOn first) 0 ls (GoesOn t) text → (text ≡ []) ⊎ ((n : ℕ) → m.closes t n Ended [])

-- of the whole text of some bytes nothing is owed to their stopping there: these bytes alone decide it, whatever comes behind them; or they are all of an input
-- that is over
abbrev pub IsOwnText : {S : Type 0} → Ghosts S → S → (came taken : List ℕ) (IsOver : Type 0) → List ℕ → Type 0
IsOwnText {S} m first came taken IsOver text = ((t : Next S) × IsSure m first came t text) ⊎ ((came ≡ taken) × IsOver)

-- some of the bytes came first, and this is the whole text of these
pub record IsTextSoFar {S : Type 0} (m : Ghosts S) (first : S) (taken : List ℕ) (IsOver : Type 0) (text : List ℕ) : Type 0 where
  pub came : List ℕ
  pub more : List ℕ
  pub begins : came ++ more ≡ taken
  pub end : End
  pub is : IsText m first came end text
  pub own : IsOwnText m first came taken IsOver text

-- all that may be printed while bytes are taken is nothing yet, or the whole text of some that came first
abbrev pub PrintsSoFar : {S : Type 0} → Ghosts S → S → Type 0
PrintsSoFar m first = (taken : List ℕ) (left : Option (List ℕ)) (text : List ℕ) → Prints m first taken left text → (text ≡ []) ⊎ IsTextSoFar m first taken (IsAtEnd left) text
