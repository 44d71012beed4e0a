-- Commands that are looked up and aren't there.
use Rattle.std.proofs.Common.{◌≡◌, ℕ, ◌<◌, false, List, length, None, IsTrue}
use Rattle.std.proofs.lemmas.List.Elements.{All-weaker}
use Rattle.std.specs.Str.{bytes_eq}
use Rattle.cca_base.specs.PlantModel.{PlantModel}
use Rattle.cca_base.specs.Model.{WellFormed}
use Rattle.formula_syntax.specs.Lookups.{place_of}
use Rattle.formula_syntax.proofs.UnknownNames.{not_long, position_none}
use Rattle.cca_base.specs.declared.limits.TheConstants.{MAX_NAME}
use Rattle.cca_base.specs.Names.{is_name}

pub long_is_none : (m : PlantModel) (text : List ℕ) → WellFormed m → MAX_NAME < length text → place_of m.commands text ≡ None
long_is_none m text w long =
    position_none (λ name. bytes_eq name text) m.commands
    (All-weaker (λ name. IsTrue (is_name name)) (λ name. bytes_eq name text ≡ false) (λ name h. not_long name text h long) m.commands w.command_names.each)
