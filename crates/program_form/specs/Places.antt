-- What stands in a place for what a line asks for.
use Rattle.std.specs.Prelude.{ℕ, Bool, true, false, List}
use Rattle.cca_base.specs.declared.cube.Pair.{Pair}
use Rattle.cca_base.specs.declared.events.Event.{Event}
use Rattle.cca_base.specs.PlantModel.{PlantModel}
use Rattle.cca_base.specs.Trace.{MayCome}
use Rattle.program_form.specs.declared.item.ItemRef.{ItemRef}
use Rattle.program_form.specs.declared.item.ItemRef.TheVariants as refs
use Rattle.program_form.specs.declared.item.ProgramItem.{ProgramItem}
use Rattle.program_form.specs.declared.item.ProgramItem.TheVariants.{Makes, Reads}

-- an event, or a line of the program
abbrev pub item_in : Bool → Event → List ℕ → ProgramItem
item_in true e line = Makes e
item_in false e line = Reads line

-- the item, where it is read
abbrev pub item_read : ItemRef → ProgramItem
item_read (refs.Reads line) = Reads line.now
item_read (refs.Makes e) = Makes e.now

-- it is an event that may come
abbrev pub IsComing : PlantModel → List Pair → ℕ → ProgramItem → Type 0
IsComing m pending mirrored (Reads line) = ⊥
IsComing m pending mirrored (Makes e) = MayCome m pending mirrored e
