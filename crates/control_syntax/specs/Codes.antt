-- What a line of a control program says, and the table of codes, in words of the names that stand in a line.
use Rattle.std.specs.Prelude.{◌≡◌, ◌⊎◌, ◌<◌, ◌≤◌, ℕ, true, false, List, [], ◌∷◌, length, Option, Some, None, Result, Ok, Err, Contains}
use Rattle.text_base.specs.Lexemes.{Lexeme}
use Rattle.text_base.specs.Pairs.{NamedPair}
use Rattle.cca_base.specs.declared.codes.TheConstants.{MALFORMED, NAME_UNKNOWN, LIMIT, BROKEN_GOAL, REPEATED_PAIR, UNMATCHED}
use Rattle.cca_base.specs.declared.cube.Pair.{Pair}
use Rattle.cca_base.specs.declared.events.Detail.TheVariants.{Nothing}
use Rattle.cca_base.specs.declared.events.Stop.{Stop}
use Rattle.cca_base.specs.declared.events.Stop.TheVariants as stops
use Rattle.cca_base.specs.Model.{is_broken}
use Rattle.cca_base.specs.PlantModel.{PlantModel}
use Rattle.formula_syntax.specs.Meanings.{names_unknown, is_deep, whole_formula}
use Rattle.script_reader.specs.Laws.{HaveNameTwice}
use Rattle.script_reader.specs.Named.{mode_pair, each_pair}
use Rattle.script_reader.specs.SaidLines.{SaidByLine, SaidByWords, SaidByTokens}
use Rattle.control_syntax.specs.declared.block.Block.{Block}
use Rattle.control_syntax.specs.declared.block.Kind.{Kind}
use Rattle.control_syntax.specs.declared.block.Kind.TheVariants as kind
use Rattle.control_syntax.specs.declared.limits.TheConstants.{MAX_LINES, MAX_BLOCKS, MAX_ROUNDS}
use Rattle.control_syntax.specs.declared.line.Line.{Line}
use Rattle.control_syntax.specs.declared.line.Line.TheVariants as line
use Rattle.control_syntax.specs.declared.program_end.ProgramEnd.{ProgramEnd}
use Rattle.control_syntax.specs.Items.{Item, Program, Reach, Await, Seq, Both, Choose, Otherwise, Repeat, Done, End, grammar}
use Rattle.control_syntax.specs.Reading.{Reading, led, end_of}

-- `program` stands a second time, or another line before it
abbrev pub IsOutOfPlace : Reading → Item → Type 0
IsOutOfPlace r Program = r.started ≡ true
IsOutOfPlace r i = r.started ≡ false

-- a name of the line is no component, or no mode of it; of a formula, a name or a value is not declared
abbrev pub NamesUnknown : PlantModel → Item → Type 0
NamesUnknown m (Reach pairs) = (p : NamedPair) × Contains pairs p × (mode_pair m p ≡ None)
NamesUnknown m (Await formula) = names_unknown m formula ≡ true
NamesUnknown m (Choose formula) = names_unknown m formula ≡ true
NamesUnknown m i = ⊥

-- the formula's text is too deep, or the number is none from 1 to the most rounds
abbrev pub IsGreat : Item → Type 0
IsGreat (Await formula) = is_deep formula ≡ true
IsGreat (Choose formula) = is_deep formula ≡ true
IsGreat (Repeat rounds) = (rounds < 1) ⊎ (MAX_ROUNDS < rounds)
IsGreat i = ⊥

-- the lines between `program` and `end` are as many as may be, and this is a further one
abbrev pub IsLineTooMany : Reading → Item → Type 0
IsLineTooMany r Program = ⊥
IsLineTooMany r End = ⊥
IsLineTooMany r i = MAX_LINES ≤ r.count

-- the line begins a block inside as many others as may be
abbrev pub IsBlockTooMany : Reading → Item → Type 0
IsBlockTooMany r Seq = MAX_BLOCKS ≤ length r.place.open_blocks
IsBlockTooMany r Both = MAX_BLOCKS ≤ length r.place.open_blocks
IsBlockTooMany r (Choose formula) = MAX_BLOCKS ≤ length r.place.open_blocks
IsBlockTooMany r (Repeat rounds) = MAX_BLOCKS ≤ length r.place.open_blocks
IsBlockTooMany r i = ⊥

-- a limit is passed
abbrev pub PassesLimit : Reading → Item → Type 0
PassesLimit r i = IsGreat i ⊎ (IsLineTooMany r i ⊎ IsBlockTooMany r i)

-- a pair of a `reach` has a broken mode
abbrev pub WantsBroken : PlantModel → Item → Type 0
WantsBroken m (Reach pairs) = (p : NamedPair) × (q : Pair) × Contains pairs p × (mode_pair m p ≡ Some q) × (is_broken m.moves q.item q.value ≡ true)
WantsBroken m i = ⊥

-- a `reach` names a component twice
abbrev pub NamesTwice : Item → Type 0
NamesTwice (Reach pairs) = HaveNameTwice pairs
NamesTwice i = ⊥

-- a `choose` before its `otherwise`
abbrev pub IsChoose : Kind → Type 0
IsChoose (kind.Choose f) = Unit {0}
IsChoose k = ⊥

-- `done` closes no block; `otherwise` doesn't stand directly in a `choose`, or is its second one; `end` stands inside a block
abbrev pub IsUnmatched : Reading → Item → Type 0
IsUnmatched r Done = r.place.open_blocks ≡ []
IsUnmatched r Otherwise = (b : Block) (bs : List Block) → r.place.open_blocks ≡ b ∷ bs → IsChoose b.kind → ⊥
IsUnmatched r End = r.place.open_blocks ≡ [] → ⊥
IsUnmatched r i = ⊥

-- the code applies to the item behind what was read
abbrev pub Applies : PlantModel → Reading → Item → ℕ → Type 0
Applies m r i code =
    ((code ≡ MALFORMED) × IsOutOfPlace r i)
    ⊎ (((code ≡ NAME_UNKNOWN) × NamesUnknown m i)
    ⊎ (((code ≡ LIMIT) × PassesLimit r i)
    ⊎ (((code ≡ BROKEN_GOAL) × WantsBroken m i)
    ⊎ (((code ≡ REPEATED_PAIR) × NamesTwice i)
    ⊎ ((code ≡ UNMATCHED) × IsUnmatched r i)))))

-- the line is the one that the item's words name
abbrev pub IsNamed : PlantModel → Item → Line → Type 0
IsNamed m (Reach pairs) l = (qs : List Pair) × (each_pair (mode_pair m) pairs ≡ Some qs) × (l ≡ line.Reach qs)
IsNamed m (Await formula) l = l ≡ line.Await (whole_formula m formula)
IsNamed m (Choose formula) l = l ≡ line.Choose (whole_formula m formula)
IsNamed m (Repeat rounds) l = l ≡ line.Repeat rounds
IsNamed m Program l = l ≡ line.Program
IsNamed m Seq l = l ≡ line.Seq
IsNamed m Both l = l ≡ line.Both
IsNamed m Otherwise l = l ≡ line.Otherwise
IsNamed m Done l = l ≡ line.Done
IsNamed m End l = l ≡ line.End

-- what the line says behind what was read: nothing where it has no tokens, or its least code
abbrev pub IsSaid : PlantModel → Reading → List ℕ → Result (Option Line) ℕ → Type 0
IsSaid m r text said = SaidByLine grammar (IsNamed m) (Applies m r) text said

-- a line says one thing, or has one code
abbrev pub LinesAreOne : Type 0
LinesAreOne = (m : PlantModel) (r : Reading) (text : List ℕ) (a b : Result (Option Line) ℕ) → IsSaid m r text a → IsSaid m r text b → a ≡ b

-- a call answered so and left this behind: what the line does where no code applies, and else its least code alone; out of memory says nothing
abbrev pub Leads : PlantModel → Reading → List ℕ → Result ProgramEnd Stop → Reading → Type 0
Leads m r text (Ok end) next = (said : Option Line) × IsSaid m r text (Ok said) × (end ≡ end_of said) × (next ≡ led r said)
Leads m r text (Err stops.Memory) next = Unit {0}
Leads m r text (Err (stops.Refused refusal)) next = IsSaid m r text (Err refusal.code) × (refusal.detail ≡ Nothing)

-- ---- what is read of some lexemes alone

-- the code applies to the words, whatever was read before
abbrev pub AppliesToWords : PlantModel → Item → ℕ → Type 0
AppliesToWords m i code = ((code ≡ NAME_UNKNOWN) × NamesUnknown m i) ⊎ ((code ≡ LIMIT) × IsGreat i)

-- what lexemes say by themselves, a first word among them
abbrev pub IsSaidByWords : PlantModel → List Lexeme → Result Line ℕ → Type 0
IsSaidByWords m ls said = SaidByWords grammar (IsNamed m) (AppliesToWords m) ls said

-- what lexemes say behind what was read, a first word among them
abbrev pub IsSaidHere : PlantModel → Reading → List Lexeme → Result Line ℕ → Type 0
IsSaidHere m r ls said = SaidByWords grammar (IsNamed m) (Applies m r) ls said

-- what the tokens of a line say, if it has any
abbrev pub IsSaidByTokens : PlantModel → Reading → List Lexeme → Result (Option Line) ℕ → Type 0
IsSaidByTokens m r ls said = SaidByTokens grammar (IsNamed m) (Applies m r) ls said
