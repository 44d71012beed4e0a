-- A program's tree with its marks as at the start.
use Rattle.std.specs.Prelude.{true, false}
use Rattle.control_syntax.specs.declared.part.Part.{Part}
use Rattle.control_syntax.specs.declared.part.Part.TheOpen.{Part-F}
use Rattle.control_syntax.specs.declared.part.Part.TheFolds.{fold-Part}
use Rattle.control_program.specs.Flat.{several_trees}
use Rattle.control_program.specs.Marks.{open_yet, Tree}

-- one layer of it
abbrev pub fresh_step : Part-F Tree → Tree
fresh_step (Part-F.Reach pairs) = Tree.Reach false pairs
fresh_step (Part-F.Await f) = Tree.Await false f
fresh_step (Part-F.Seq parts) = Tree.Parts true false (several_trees parts)
fresh_step (Part-F.Both parts) = Tree.Parts false false (several_trees parts)
fresh_step (Part-F.Choose f a b) = Tree.Choose open_yet f a b
fresh_step (Part-F.Repeat n a) = Tree.Repeat n n a

-- the whole tree
abbrev pub opened : Part → Tree
opened = fold-Part Tree fresh_step
