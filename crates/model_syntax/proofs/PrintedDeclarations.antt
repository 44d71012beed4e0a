-- The printed lines of components and variables declare them.
use Rattle.std.proofs.Common.{◌≡◌, ◌≢◌, ℕ, ◌≤◌, Bool, true, false, not, cond, codes, List, [], ◌∷◌, ◌++◌, length, map, Some, None, IsTrue, All, refl, sym, ap, subst, ◌∙◌, arith, length-append, append_assoc}
use Rattle.std.specs.Prelude.{is_some, unwrap_or, nat_le, position}
use Rattle.std.specs.Option.{option_map}
use Rattle.std.specs.Str.{bytes_eq}
use Rattle.std.proofs.lemmas.Bool.{le-ltb, lt-leb, or_from}
use Rattle.std.proofs.lemmas.List.{map-append}
use Rattle.std.proofs.lemmas.List.Elements.{All-head, All-tail, All-cons, All-nil}
use Rattle.list_laws.proofs.Elements.{all_left, all_right}
use Rattle.cca_base.specs.declared.formula.Subject.TheVariants as subjects
use Rattle.cca_base.specs.declared.model.Component.{Component}
use Rattle.cca_base.specs.declared.model.Variable.{Variable}
use Rattle.cca_base.specs.declared.limits.TheConstants.{MAX_COMPONENTS, MAX_VARIABLES, MAX_CHOICES}
use Rattle.cca_base.specs.PlantModel.{PlantModel}
use Rattle.cca_base.specs.Names.{is_name, AreNames, AreDifferent}
use Rattle.cca_base.specs.Model.{AreChoices, IsComponent, with_component, with_variable}
use Rattle.text_base.specs.Lexemes.{word}
use Rattle.model_syntax.specs.Items.{sensed_spelled}
use Rattle.text_base.specs.Lists.{name_list_spelled}
use Rattle.model_syntax.specs.Items as items
use Rattle.formula_syntax.specs.Lookups.{place_of, subject_of, or_else}
use Rattle.model_syntax.specs.Codes.{least, start_mode, list_passes, component_code, new_component, variable_code, new_variable}
use Rattle.model_syntax.specs.Lines.{Goes, Reads, LineLeads, unless, component_next}
use Rattle.model_syntax.specs.Printing.{joined, name_at, component_said, variable_said}
use Rattle.model_syntax.specs.RoundTrip.{AreOfTheirKinds}
use Rattle.formula_syntax.proofs.UnknownNames.{position_none, different_text}
use Rattle.model_syntax.proofs.PrintedLines.{begun, line_leads, IsAt, name_there, not_too_long, never_twice, none_long, name_words, all_are_names}
use Rattle.model_syntax.proofs.PrintedNames.{pairs_across, not_first}
use Rattle.model_syntax.proofs.PrintedParts.{names_kinds, name_parts, kinds_append, word_kind}

pub none_applies : (a b c : Bool) (i j k : ℕ) → a ≡ false → b ≡ false → c ≡ false → least ((i, a) ∷ (j, b) ∷ (k, c) ∷ []) ≡ None
none_applies a b c i j k e f g = rw (e, f, g) refl

neither_applies : (a b : Bool) (i j : ℕ) → a ≡ false → b ≡ false → least ((i, a) ∷ (j, b) ∷ []) ≡ None
neither_applies a b i j e f = rw (e, f) refl

list_kinds : (names : List (List ℕ)) → All (λ name. IsTrue (is_name name)) names → AreOfTheirKinds (name_list_spelled names)
list_kinds [] h = refl
list_kinds (name ∷ names) h = names_kinds name names (all_are_names (name ∷ names) h)

fits_list : (name : List ℕ) (choices : List (List ℕ)) → is_name name ≡ true → AreChoices choices → list_passes name choices ≡ false
fits_list name choices h c =
    or_from _ _ (not_too_long name h) (or_from _ _ (none_long choices c.names.each) (let few = c.few in le-ltb MAX_CHOICES (length choices) few))

-- ---- components

module _ (version : ℕ) (all : List Component) (names : AreNames (map (λ (c : Component). c.name) all)) (components : All IsComponent all) (few : length all ≤ MAX_COMPONENTS) where
  -- the model with some components and nothing else
  abbrev pub only_components : List Component → PlantModel
  only_components cs = record { version = version; components = cs; variables = []; rules = []; commands = []; moves = []; failures = [] }

  abbrev name_of_part : Component → List ℕ
  name_of_part c = c.name

  module _ (front : List Component) (x : Component) (rest : List Component) (e : front ++ x ∷ rest ≡ all) where
    abbrev n : PlantModel
    n = only_components front

    split : map name_of_part front ++ x.name ∷ map name_of_part rest ≡ map name_of_part all
    split = sym (map-append name_of_part front (x ∷ rest)) ∙ ap (map name_of_part) e

    free : subject_of n x.name ≡ None
    free =
        let across = pairs_across (λ a b. a ≢ b) (map name_of_part front) (x.name ∷ map name_of_part rest) 0 x.name (subst AreDifferent (sym split) names.different) refl in
        ap (λ o. or_else (option_map subjects.Component o) None) (position_none (λ c. bytes_eq c.name x.name) front (not_first front x.name across))

    is_named : is_name x.name ≡ true
    is_named = All-head (λ name. IsTrue (is_name name)) x.name (map name_of_part rest) (all_right (λ name. IsTrue (is_name name)) (map name_of_part front) (x.name ∷ map name_of_part rest) (subst (All (λ name. IsTrue (is_name name))) (sym split) names.each))

    is_sound : IsComponent x
    is_sound = All-head IsComponent x rest (all_right IsComponent front (x ∷ rest) (subst (All IsComponent) (sym e) components))

    start : IsAt x.modes x.start (name_at x.modes x.start)
    start = name_there x.modes x.start is_sound.modes.names is_sound.start

    start_found : start_mode x.modes (name_at x.modes x.start) ≡ Some x.start
    start_found = ap (λ b. cond b None (place_of x.modes (name_at x.modes x.start))) (not_too_long (name_at x.modes x.start) start.name) ∙ start.found

    room : nat_le MAX_COMPONENTS (length front) ≡ false
    room = let a = ap length e in let b = length-append front (x ∷ rest) in lt-leb MAX_COMPONENTS (length front) (omega (arith, a, b, few))

    no_code : component_code n x.name x.modes (name_at x.modes x.start) ≡ None
    unfolding component_code
    no_code =
        none_applies _ _ _ 2 3 4 (ap (λ o. not (is_some o)) start_found) (or_from _ _ (ap is_some free) (never_twice x.modes is_sound.modes.names.different))
        (or_from _ _ (fits_list x.name x.modes is_named is_sound.modes) room)

    goes : Goes (with_component n x) ≡ component_next n x.name x.modes (name_at x.modes x.start)
    goes = sym (ap (λ o. unless o (with_component n (new_component x.name x.modes (name_at x.modes x.start)))) no_code
        ∙ ap (λ o. Goes (with_component n (record { name = x.name; modes = x.modes; start = unwrap_or o 0 }))) start_found)

    pub component_kinds : AreOfTheirKinds (component_said x)
    component_kinds =
        let end = word (codes "start") ∷ word (name_at x.modes x.start) ∷ [] in
        word_kind x.name (name_list_spelled x.modes ++ end) is_named (kinds_append (name_list_spelled x.modes) end (list_kinds x.modes is_sound.modes.names.each) (word_kind (name_at x.modes x.start) [] start.name refl))

    pub component_leads : LineLeads (begun n) (joined (component_said x)) (Reads (begun (only_components (front ++ x ∷ []))))
    component_leads =
        line_leads n (component_said x) (items.Component x.name x.modes (name_at x.modes x.start)) (Goes (with_component n x)) component_kinds refl
        (is_sound.modes.some, ((name_parts x.name is_named).1, ((name_parts (name_at x.modes x.start) start.name).1, tt)), name_words x.modes is_sound.modes.names.each) goes

-- ---- variables

sensed_kinds : (sensed : Bool) → AreOfTheirKinds (sensed_spelled sensed)
sensed_kinds true = refl
sensed_kinds false = refl

module _ (version : ℕ) (cs : List Component) (all : List Variable) (names : AreNames (map (λ (c : Component). c.name) cs ++ map (λ (v : Variable). v.name) all)) (variables : All (λ (v : Variable). AreChoices v.values) all) (few : length all ≤ MAX_VARIABLES) where
  -- the model with these components, some variables and nothing else
  abbrev pub with_variables : List Variable → PlantModel
  with_variables vs = record { version = version; components = cs; variables = vs; rules = []; commands = []; moves = []; failures = [] }

  abbrev name_of_quantity : Variable → List ℕ
  name_of_quantity v = v.name

  abbrev part_names : List (List ℕ)
  part_names = map (λ (c : Component). c.name) cs

  module _ (front : List Variable) (x : Variable) (rest : List Variable) (e : front ++ x ∷ rest ≡ all) where
    abbrev k : PlantModel
    k = with_variables front

    divided : map name_of_quantity front ++ x.name ∷ map name_of_quantity rest ≡ map name_of_quantity all
    divided = sym (map-append name_of_quantity front (x ∷ rest)) ∙ ap (map name_of_quantity) e

    whole : AreDifferent ((part_names ++ map name_of_quantity front) ++ x.name ∷ map name_of_quantity rest)
    whole = subst AreDifferent (sym (append_assoc part_names (map name_of_quantity front) (x.name ∷ map name_of_quantity rest) ∙ ap (λ ns. part_names ++ ns) divided)) names.different

    others : All (λ (n : List ℕ). n ≢ x.name) (part_names ++ map name_of_quantity front)
    others = pairs_across (λ a b. a ≢ b) (part_names ++ map name_of_quantity front) (x.name ∷ map name_of_quantity rest) 0 x.name whole refl

    not_before : (vs : List Variable) → All (λ (n : List ℕ). n ≢ x.name) (map name_of_quantity vs) → All (λ (v : Variable). bytes_eq v.name x.name ≡ false) vs
    not_before [] h = All-nil (λ (v : Variable). bytes_eq v.name x.name ≡ false)
    not_before (v ∷ vs) h =
        All-cons (λ (d : Variable). bytes_eq d.name x.name ≡ false) v vs (different_text v.name x.name (All-head (λ n. n ≢ x.name) v.name (map name_of_quantity vs) h)) (not_before vs (All-tail (λ n. n ≢ x.name) v.name (map name_of_quantity vs) h))

    unused : subject_of k x.name ≡ None
    unused =
        let a = position_none (λ c. bytes_eq c.name x.name) cs (not_first cs x.name (all_left (λ n. n ≢ x.name) part_names (map name_of_quantity front) others)) in
        let b = position_none (λ v. bytes_eq v.name x.name) front (not_before front (all_right (λ n. n ≢ x.name) part_names (map name_of_quantity front) others)) in
        ap (λ o. or_else (option_map subjects.Component o) (option_map subjects.Variable (position (λ v. bytes_eq v.name x.name) front))) a ∙ ap (λ o. or_else None (option_map subjects.Variable o)) b

    named : is_name x.name ≡ true
    named =
        All-head (λ name. IsTrue (is_name name)) x.name (map name_of_quantity rest) (all_right (λ name. IsTrue (is_name name)) (map name_of_quantity front) (x.name ∷ map name_of_quantity rest)
        (subst (All (λ name. IsTrue (is_name name))) (sym divided) (all_right (λ name. IsTrue (is_name name)) part_names (map name_of_quantity all) names.each)))

    sound : AreChoices x.values
    sound = All-head (λ (v : Variable). AreChoices v.values) x rest (all_right (λ (v : Variable). AreChoices v.values) front (x ∷ rest) (subst (All (λ (v : Variable). AreChoices v.values)) (sym e) variables))

    space : nat_le MAX_VARIABLES (length front) ≡ false
    space = let a = ap length e in let b = length-append front (x ∷ rest) in lt-leb MAX_VARIABLES (length front) (omega (arith, a, b, few))

    codeless : variable_code k x.name x.values ≡ None
    unfolding variable_code
    codeless = neither_applies _ _ 3 4 (or_from _ _ (ap is_some unused) (never_twice x.values sound.names.different)) (or_from _ _ (fits_list x.name x.values named sound) space)

    pub variable_kinds : AreOfTheirKinds (variable_said x)
    variable_kinds = word_kind x.name (name_list_spelled x.values ++ sensed_spelled x.sensed) named (kinds_append (name_list_spelled x.values) (sensed_spelled x.sensed) (list_kinds x.values sound.names.each) (sensed_kinds x.sensed))

    pub variable_leads : LineLeads (begun k) (joined (variable_said x)) (Reads (begun (with_variables (front ++ x ∷ []))))
    variable_leads =
        line_leads k (variable_said x) (items.Variable x.name x.values x.sensed) (Goes (with_variable k x)) variable_kinds refl
        (sound.some, ((name_parts x.name named).1, tt), name_words x.values sound.names.each)
        (sym (ap (λ o. unless o (with_variable k (new_variable x.name x.values x.sensed))) codeless))
