-- How far a control program was read, and what a line does to that.
use Rattle.std.specs.Prelude.{◌≡◌, ℕ, ◌+◌, Bool, true, false, List, [], ◌∷◌, ◌++◌, Option, Some, None, IsSome, reverse}
use Rattle.control_syntax.specs.declared.block.Block.{Block}
use Rattle.control_syntax.specs.declared.block.Kind.{Kind}
use Rattle.control_syntax.specs.declared.block.Kind.TheVariants as kind
use Rattle.control_syntax.specs.declared.line.Line.{Line}
use Rattle.control_syntax.specs.declared.line.Line.TheVariants as line
use Rattle.control_syntax.specs.declared.part.Part.{Part, roll-Part}
use Rattle.control_syntax.specs.declared.part.Part.TheOpen.{Part-F}
use Rattle.control_syntax.specs.declared.program_end.ProgramEnd.{ProgramEnd}
use Rattle.control_syntax.specs.declared.program_end.ProgramEnd.TheVariants.{Going, Whole}

-- parts that run one after the other
abbrev pub seq : List Part → Part
seq parts = roll-Part (Part-F.Seq parts)

-- the program's own parts so far, and the open blocks with theirs, the innermost first
pub record Place : Type 0 where
  pub parts : List Part
  pub open_blocks : List Block

-- whether the line `program` was read, how many lines with tokens came behind it, where the next part goes, and the whole program once it has ended
pub record Reading : Type 0 where
  pub started : Bool
  pub count : ℕ
  pub place : Place
  pub whole : Option Part

-- no line was read
abbrev pub nothing_read : Reading
nothing_read = record { started = false; count = 0; place = record { parts = []; open_blocks = [] }; whole = None }

-- the part that a block is whose lines have all been read
abbrev pub block_part : Kind → List Part → Part
block_part kind.Seq parts = seq parts
block_part kind.Both parts = roll-Part (Part-F.Both parts)
block_part (kind.Choose f) parts = roll-Part (Part-F.Choose f (seq parts) (seq []))
block_part (kind.Otherwise f first) parts = roll-Part (Part-F.Choose f (seq first) (seq parts))
block_part (kind.Repeat n) parts = roll-Part (Part-F.Repeat n (seq parts))

-- a part put behind those of the innermost open block, or of the program where none is open
abbrev pub put_in : Part → List Part → List Block → Place
put_in part parts [] = record { parts = parts ++ part ∷ []; open_blocks = [] }
put_in part parts (b ∷ bs) = record { parts = parts; open_blocks = record { kind = b.kind; parts = b.parts ++ part ∷ [] } ∷ bs }

-- a part put behind the others at a place
abbrev pub put : Part → Place → Place
put part place = put_in part place.parts place.open_blocks

-- a block is open
abbrev pub opened : Kind → Place → Place
opened k place = record { parts = place.parts; open_blocks = record { kind = k; parts = [] } ∷ place.open_blocks }

-- the first half of a `choose` is read, and its second begins
abbrev pub turned_block : Kind → List Part → Block
turned_block (kind.Choose f) parts = record { kind = kind.Otherwise f parts; parts = [] }
turned_block kind.Seq parts = record { kind = kind.Seq; parts = parts }
turned_block kind.Both parts = record { kind = kind.Both; parts = parts }
turned_block (kind.Otherwise f first) parts = record { kind = kind.Otherwise f first; parts = parts }
turned_block (kind.Repeat n) parts = record { kind = kind.Repeat n; parts = parts }

-- the blocks with the innermost of them turned to its otherwise
abbrev pub turned_in : List Block → List Block
turned_in [] = []
turned_in (b ∷ bs) = turned_block b.kind b.parts ∷ bs

-- the innermost open block has ended, and is a part of what stands around it
abbrev pub closed_in : List Part → List Block → Place
closed_in parts [] = record { parts = parts; open_blocks = [] }
closed_in parts (b ∷ bs) = put_in (block_part b.kind b.parts) parts bs

-- where the next part goes behind a line between `program` and `end`
abbrev pub moved : Line → Place → Place
moved (line.Reach pairs) place = put (roll-Part (Part-F.Reach pairs)) place
moved (line.Await f) place = put (roll-Part (Part-F.Await f)) place
moved line.Seq place = opened kind.Seq place
moved line.Both place = opened kind.Both place
moved (line.Choose f) place = opened (kind.Choose f) place
moved (line.Repeat n) place = opened (kind.Repeat n) place
moved line.Otherwise place = record { parts = place.parts; open_blocks = turned_in place.open_blocks }
moved line.Done place = closed_in place.parts place.open_blocks
moved line.Program place = place
moved line.End place = place

-- a line between `program` and `end` was read
abbrev pub inside : Line → Reading → Reading
inside l r = record { started = r.started; count = r.count + 1; place = moved l r.place; whole = r.whole }

-- what was read behind a line
abbrev pub after : Reading → Line → Reading
after r line.Program = record { started = true; count = r.count; place = r.place; whole = r.whole }
after r line.End = record { started = r.started; count = r.count; place = record { parts = []; open_blocks = [] }; whole = Some (seq r.place.parts) }
after r (line.Reach pairs) = inside (line.Reach pairs) r
after r (line.Await f) = inside (line.Await f) r
after r line.Seq = inside line.Seq r
after r line.Both = inside line.Both r
after r (line.Choose f) = inside (line.Choose f) r
after r (line.Repeat n) = inside (line.Repeat n) r
after r line.Otherwise = inside line.Otherwise r
after r line.Done = inside line.Done r

-- what is read behind a line, which may have no tokens
abbrev pub led : Reading → Option Line → Reading
led r None = r
led r (Some l) = after r l

-- whether the line ended the program
abbrev pub end_of : Option Line → ProgramEnd
end_of (Some line.End) = Whole
end_of None = Going
end_of (Some line.Program) = Going
end_of (Some (line.Reach pairs)) = Going
end_of (Some (line.Await f)) = Going
end_of (Some line.Seq) = Going
end_of (Some line.Both) = Going
end_of (Some (line.Choose f)) = Going
end_of (Some (line.Repeat n)) = Going
end_of (Some line.Otherwise) = Going
end_of (Some line.Done) = Going

-- the answer says whether the whole program was read
abbrev pub HasEnded : ProgramEnd → Option Part → Type 0
HasEnded Going whole = whole ≡ None
HasEnded Whole whole = IsSome whole

-- ---- how the code has it

-- where the next part goes, by the blocks with the outermost first
abbrev pub placed : List Part → List Block → Place
placed parts blocks = record { parts = parts; open_blocks = reverse blocks }

-- the part was put in this place, which stood around the block, and the block is as it was
abbrev pub IsPutAround : Part → Place → Block → List Part → List Block → Type 0
IsPutAround part place b parts blocks = (around : List Block) × (blocks ≡ around ++ b ∷ []) × (placed parts around ≡ put part place)
