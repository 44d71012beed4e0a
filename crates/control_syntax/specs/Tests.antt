-- What is tested at a line whose words are known, behind what was read.
use Rattle.std.specs.Prelude.{◌≡◌, ◌<◌, ℕ, Bool, true, false, not, if◌then◌else◌, ◌||◌, ◌&&◌, nat_le, List, [], ◌∷◌, length, Option}
use Rattle.std.specs.List.{list_any}
use Rattle.cca_base.specs.declared.codes.TheConstants.{MALFORMED, LIMIT, BROKEN_GOAL, REPEATED_PAIR, UNMATCHED}
use Rattle.cca_base.specs.declared.cube.Pair.{Pair}
use Rattle.cca_base.specs.declared.events.Stop.{Stop}
use Rattle.cca_base.specs.declared.events.Stop.TheVariants as stops
use Rattle.cca_base.specs.Refusals.{bare}
use Rattle.cca_base.specs.PlantModel.{PlantModel}
use Rattle.formula_syntax.specs.Least.{least}
use Rattle.script_reader.specs.EventCodes.{has_item_twice, is_broken_pair}
use Rattle.control_syntax.specs.Reading.{Reading}
use Rattle.control_syntax.specs.declared.block.Block.{Block}
use Rattle.control_syntax.specs.declared.block.Kind.{Kind}
use Rattle.control_syntax.specs.declared.block.Kind.TheVariants as kind
use Rattle.control_syntax.specs.declared.limits.TheConstants.{MAX_LINES, MAX_BLOCKS}
use Rattle.control_syntax.specs.declared.line.Line.{Line}
use Rattle.control_syntax.specs.declared.line.Line.TheVariants as line

-- the line is `program`
abbrev pub is_program : Line → Bool
is_program line.Program = true
is_program l = false

-- the line is `program` a second time, or another before it
abbrev pub out_of_place : Bool → Line → Bool
out_of_place started l = if is_program l then started else not started

-- the line stands between `program` and `end`
abbrev pub is_inside : Line → Bool
is_inside line.Program = false
is_inside line.End = false
is_inside l = true

-- the line begins a block
abbrev pub begins_block : Line → Bool
begins_block line.Seq = true
begins_block line.Both = true
begins_block (line.Choose f) = true
begins_block (line.Repeat n) = true
begins_block l = false

-- the lines are too many, or the open blocks
abbrev pub passes_limit : ℕ → ℕ → Line → Bool
passes_limit count open_blocks l = (is_inside l && nat_le MAX_LINES count) || (begins_block l && nat_le MAX_BLOCKS open_blocks)

-- the pairs that a line asks for
abbrev pub asked_pairs : Line → List Pair
asked_pairs (line.Reach pairs) = pairs
asked_pairs l = []

-- the block is a `choose` before its `otherwise`
abbrev pub is_choose : Kind → Bool
is_choose (kind.Choose f) = true
is_choose k = false

-- the innermost open block is so
abbrev pub in_choose : List Block → Bool
in_choose [] = false
in_choose (b ∷ bs) = is_choose b.kind

-- no block is open
abbrev pub none_open : List Block → Bool
none_open [] = true
none_open (b ∷ bs) = false

-- `done` closes no block, `otherwise` stands in no `choose`, or `end` inside a block
abbrev pub is_unmatched : List Block → Line → Bool
is_unmatched blocks line.Done = none_open blocks
is_unmatched blocks line.Otherwise = not (in_choose blocks)
is_unmatched blocks line.End = not (none_open blocks)
is_unmatched blocks l = false

-- the least code of the line, behind so many lines and inside these open blocks
unfoldable pub code_of : PlantModel → Bool → ℕ → List Block → Line → Option ℕ
code_of m started count blocks l =
    least ((MALFORMED, out_of_place started l) ∷ (LIMIT, passes_limit count (length blocks) l) ∷ (BROKEN_GOAL, list_any (is_broken_pair m) (asked_pairs l))
    ∷ (REPEATED_PAIR, has_item_twice (asked_pairs l)) ∷ (UNMATCHED, is_unmatched blocks l) ∷ [])

-- a refusal of a line's words, as one of the line: before the line `program` any other is malformed
abbrev pub stop_here : Bool → Stop → Stop
stop_here started stops.Memory = stops.Memory
stop_here started (stops.Refused refusal) = if started then stops.Refused refusal else stops.Refused (bare MALFORMED)

-- a further line may be counted, if it is counted
abbrev pub HasRoom : Reading → Line → Type 0
HasRoom r l = is_inside l ≡ true → r.count < MAX_LINES
