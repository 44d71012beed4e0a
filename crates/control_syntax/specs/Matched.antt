-- When the lines that close, part or end blocks are unmatched, by the lines that were read.
use Rattle.std.specs.Prelude.{◌≡◌, ◌↔◌, ◌+◌, ℕ, List, [], ◌∷◌, ◌++◌, length, count_by, Bool, true, false, Option, None, Ok, option_to_list}
use Rattle.cca_base.specs.declared.formula.Formula.{Formula}
use Rattle.cca_base.specs.PlantModel.{PlantModel}
use Rattle.control_syntax.specs.Codes.{IsSaid, IsUnmatched}
use Rattle.control_syntax.specs.Items.{Otherwise, Done, End}
use Rattle.control_syntax.specs.Reading.{Reading, led, nothing_read}
use Rattle.control_syntax.specs.Tests.{begins_block}
use Rattle.control_syntax.specs.Written.{Texts, texts_before}
use Rattle.control_syntax.specs.declared.line.Line.{Line}
use Rattle.control_syntax.specs.declared.line.Line.TheVariants as line

-- from what was read before, what lines of bytes say one after the other, and what is read behind them: none is refused, and none comes once the program is whole
abbrev pub ReadsAs : PlantModel → Reading → List (List ℕ) → List Line → Reading → Type 0
ReadsAs m r [] ls next = (ls ≡ []) × (next ≡ r)
ReadsAs m r (text ∷ texts) ls next =
    (r.whole ≡ None) × ((said : Option Line) × (rest : List Line) × IsSaid m r text (Ok said) × ReadsAs m (led r said) texts rest next × (ls ≡ option_to_list said ++ rest))

-- behind the line `program` these lines were read, and the program isn't whole
abbrev pub IsReadBehind : PlantModel → List (List ℕ) → List Line → Reading → Type 0
IsReadBehind m texts ls r = ReadsAs m nothing_read texts (line.Program ∷ ls) r × (r.whole ≡ None)

-- the lines are whole parts, one behind the other
abbrev pub AreParts : List Line → Type 0
AreParts ls = (texts : Texts) × (ls ≡ texts_before texts [])

-- the last block that was begun and isn't closed is a `choose`, of which no `otherwise` was read: behind its line stand whole parts
abbrev pub EndInChoose : List Line → Type 0
EndInChoose ls = (before : List Line) × (f : Formula) × (texts : Texts) × (ls ≡ before ++ line.Choose f ∷ texts_before texts [])

-- `done` is unmatched exactly behind whole parts, `end` exactly behind anything else, and `otherwise` exactly where the lines don't end in a `choose`
abbrev pub UnmatchedByLines : Type 0
UnmatchedByLines = (m : PlantModel) (texts : List (List ℕ)) (ls : List Line) (r : Reading) → IsReadBehind m texts ls r
    → (IsUnmatched r Done ↔ AreParts ls) × (IsUnmatched r End ↔ (AreParts ls → ⊥)) × (IsUnmatched r Otherwise ↔ (EndInChoose ls → ⊥))

-- the line is `done`
abbrev pub closes_block : Line → Bool
closes_block line.Done = true
closes_block l = false

-- the lines that count for the limits are those behind `program`, and the open blocks are those that were begun and not closed
abbrev pub LimitsCountLines : Type 0
LimitsCountLines = (m : PlantModel) (texts : List (List ℕ)) (ls : List Line) (r : Reading) → IsReadBehind m texts ls r
    → (r.count ≡ length ls) × (count_by begins_block ls ≡ count_by closes_block ls + length r.place.open_blocks)
