-- What a machine prints for bytes: what these bytes alone decide, and the whole text of an input.
use Rattle.std.specs.Prelude.{◌≡◌, ℕ, ◌+◌, List, [], ◌∷◌, ◌++◌, length, Option, Some, None, nat_lt, if◌then◌else◌}
use Rattle.line_machine.specs.Next.{Next, GoesOn, Stops}
use Rattle.line_machine.specs.Lines.{lines_in, last_line, all_lines}
use Rattle.line_machine.specs.declared.machine.End.{End}
use Rattle.line_machine.specs.declared.machine.End.TheVariants.{Refused}
use Rattle.line_machine.specs.declared.machine.TheConstants.{MAX_LINES, LONG_LINE, TOO_MANY_LINES}
use Rattle.line_machine.specs.declared.machine.Machine.{Ghosts}

-- the code that a line has by its number and its length alone
abbrev pub length_code : ℕ → ℕ → ℕ → Option ℕ
length_code limit number len = if nat_lt MAX_LINES number then Some TOO_MANY_LINES else (if nat_lt limit len then Some LONG_LINE else None)

-- what a line leads to, by that code: codes 18 and 19 come before all that the machine itself says
abbrev pub TransitionByCode : {S : Type 0} → Ghosts S → Option ℕ → S → ℕ → List ℕ → Next S → List ℕ → Type 0
TransitionByCode m (Some code) s n l u text = (u ≡ Stops Refused) × (text ≡ m.refusal s n code)
TransitionByCode m None s n l u text = m.steps s n l u text

-- from a state a line of this number leads here, and this is printed
abbrev pub Transition : {S : Type 0} → Ghosts S → S → ℕ → List ℕ → Next S → List ℕ → Type 0
Transition m s n l u text = TransitionByCode m (length_code (m.limit_of s) n (length l)) s n l u text

-- a machine may lead somewhere at this line, with this text
abbrev pub MayPrint : {S : Type 0} → Ghosts S → S → ℕ → List ℕ → List ℕ → Type 0
MayPrint {S} m s n l text = (u : Next S) × Transition m s n l u text

-- lines behind n lines lead here, one after the other, and this is printed; once the program has ended no line is looked at
abbrev pub Runs : {S : Type 0} → Ghosts S → Next S → ℕ → List (List ℕ) → Next S → List ℕ → Type 0
Runs m s n [] t text = (t ≡ s) × (text ≡ [])
Runs m (Stops e) n (l ∷ ls) t text = (t ≡ Stops e) × (text ≡ [])
Runs {S} m (GoesOn s) n (l ∷ ls) t text = (u : Next S) × (a : List ℕ) × (c : List ℕ) × Transition m s (n + 1) l u a × Runs m u (n + 1) ls t c × (text ≡ a ++ c)

-- ---- what the bytes alone decide

-- bytes behind the last LF are a line only where they have code 18 or 19 already
abbrev pub TailByCode : {S : Type 0} → Ghosts S → Option ℕ → S → ℕ → Next S → List ℕ → Type 0
TailByCode m (Some code) s n t text = (t ≡ Stops Refused) × (text ≡ m.refusal s n code)
TailByCode m None s n t text = (t ≡ GoesOn s) × (text ≡ [])

-- what these bytes lead to, by where the whole lines led; once the program has ended they aren't looked at
abbrev pub TailTransition : {S : Type 0} → Ghosts S → Next S → ℕ → List ℕ → Next S → List ℕ → Type 0
TailTransition m s n [] t text = (t ≡ s) × (text ≡ [])
TailTransition m (Stops e) n (b ∷ l) t text = (t ≡ Stops e) × (text ≡ [])
TailTransition m (GoesOn s) n (b ∷ l) t text = TailByCode m (length_code (m.limit_of s) n (length (b ∷ l))) s n t text

-- the bytes alone lead here, and decide this text
pub record IsSure {S : Type 0} (m : Ghosts S) (first : S) (bytes : List ℕ) (t : Next S) (text : List ℕ) : Type 0 where
  pub here : Next S
  pub lines : List ℕ
  pub runs : Runs m (GoesOn first) 0 (lines_in bytes).whole here lines
  pub last : List ℕ
  pub tail : TailTransition m here (length (lines_in bytes).whole + 1) (lines_in bytes).tail t last
  pub parts : text ≡ lines ++ last

-- ---- the whole text

-- what the end of the input leads to
abbrev pub Closes : {S : Type 0} → Ghosts S → Next S → ℕ → End → List ℕ → Type 0
Closes m (Stops f) n e text = (e ≡ f) × (text ≡ [])
Closes m (GoesOn s) n e text = m.closes s n e text

-- in a state behind n lines come bytes without LF, which are one more line if there are some, and then the end of the input: the program ends so, and this is printed
pub record Ends {S : Type 0} (m : Ghosts S) (s : S) (n : ℕ) (tail : List ℕ) (e : End) (text : List ℕ) : Type 0 where
  pub here : Next S
  pub line : List ℕ
  pub runs : Runs m (GoesOn s) n (last_line tail) here line
  pub last : List ℕ
  pub closes : Closes m here (n + length (last_line tail)) e last
  pub parts : text ≡ line ++ last

-- what may be printed there: nothing yet, what the line leads to, or all
pub data MayEnd {S : Type 0} (m : Ghosts S) (s : S) (n : ℕ) (tail : List ℕ) (text : List ℕ) : Type 0 where
  Nothing : text ≡ [] → MayEnd m s n tail text
  ByLine : (t : Next S) → Runs m (GoesOn s) n (last_line tail) t text → MayEnd m s n tail text
  ByEnd : (e : End) → Ends m s n tail e text → MayEnd m s n tail text

-- for this input the program ends so, and this is printed
pub record IsText {S : Type 0} (m : Ghosts S) (first : S) (input : List ℕ) (e : End) (text : List ℕ) : Type 0 where
  pub here : Next S
  pub lines : List ℕ
  pub runs : Runs m (GoesOn first) 0 (all_lines (lines_in input)) here lines
  pub last : List ℕ
  pub closes : Closes m here (length (all_lines (lines_in input))) e last
  pub parts : text ≡ lines ++ last

-- one text begins the other
abbrev pub IsPrefix : List ℕ → List ℕ → Type 0
IsPrefix x y = (z : List ℕ) × (x ++ z ≡ y)

-- the machine prints only where it ends the program
abbrev pub IsQuiet : {S : Type 0} → Ghosts S → Type 0
IsQuiet {S} m = (s : S) (n : ℕ) (line : List ℕ) (t : S) (text : List ℕ) → m.steps s n line (GoesOn t) text → text ≡ []
