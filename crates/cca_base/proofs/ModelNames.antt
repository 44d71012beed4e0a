-- The names of a well-formed model, and the bytes of a name.
use Rattle.std.proofs.Common.{◌≡◌, ℕ, ◌++◌, ◌||◌, ◌==◌, Bool, true, IsTrue, List, [], ◌∷◌, All, map, refl, ap}
use Rattle.std.specs.List.{list_all}
use Rattle.std.specs.Char.{is_ascii_digit, is_ascii_lowercase}
use Rattle.std.proofs.lemmas.Bool.{and_parts, and_from}
use Rattle.std.proofs.lemmas.List.Elements.{All-nil, All-cons, All-head, All-tail}
use Rattle.cca_base.specs.declared.model.Component.{Component}
use Rattle.cca_base.specs.PlantModel.{PlantModel}
use Rattle.cca_base.specs.Model.{WellFormed, IsComponent}
use Rattle.cca_base.specs.Names.{is_word_byte, is_name, is_word}

abbrev pub IsName : List ℕ → Type 0
IsName name = IsTrue (is_name name)

pub word_bytes : (name : List ℕ) → IsName name → list_all is_word_byte name ≡ true
word_bytes [] h = refl
word_bytes (b ∷ bs) h =
    let both = and_parts (is_ascii_lowercase b) (list_all is_word_byte bs) (and_parts (is_word (b ∷ bs)) _ h).0 in
    and_from (is_word_byte b) (list_all is_word_byte bs) (ap (λ (t : Bool). (t || is_ascii_digit b) || (b == 95)) both.0) both.1

-- a component's name and those of its modes
abbrev pub HasNames : Component → Type 0
HasNames c = IsName c.name × All IsName c.modes

-- behind the components' names may stand more names
components_names : (cs : List Component) (more : List (List ℕ)) → All IsName (map (λ c. c.name) cs ++ more) → All IsComponent cs → All HasNames cs
components_names [] more names each = All-nil HasNames
components_names (c ∷ cs) more names each =
    let name : IsName c.name = All-head IsName c.name (map (λ c. c.name) cs ++ more) names in
    let modes : All IsName c.modes = (All-head IsComponent c cs each).modes.names.each in
    All-cons HasNames c cs (name, modes) (components_names cs more (All-tail IsName c.name (map (λ c. c.name) cs ++ more) names) (All-tail IsComponent c cs each))

pub model_names : (m : PlantModel) → WellFormed m → All HasNames m.components
model_names m h = components_names m.components (map (λ v. v.name) m.variables) h.names.each h.components
