-- What a line without a code makes of a well-formed model.
use Rattle.std.proofs.Common.{◌≡◌, ◌≢◌, ℕ, ◌<◌, ◌≤◌, Bool, true, false, not, cond, ◌||◌, List, [], ◌∷◌, length, map, Option, Some, None, IsTrue, All, refl, sym, ◌∙◌, arith}
use Rattle.std.specs.Prelude.{position, is_some, nat_lt, nat_le, unwrap_or}
use Rattle.std.specs.List.{list_all, list_any}
use Rattle.std.specs.Str.{bytes_eq}
use Rattle.std.specs.Option.{option_map}
use Rattle.std.proofs.lemmas.Bool.{and_parts, and_from, not-false}
use Rattle.std.proofs.lemmas.Bool.Decides.{nat_tests}
use Rattle.std.proofs.lemmas.List.Elements.{All-nil, All-cons, All-head, All-tail, All-append}
use Rattle.std.proofs.lemmas.List.Kept.{AllPairs-cons}
use Rattle.std.proofs.lemmas.List.Quantifiers.{position-Some}
use Rattle.std.proofs.lemmas.Slice.Eq.{bytes_eq-Decides}
use Rattle.cca_base.specs.declared.formula.Subject.TheVariants.{Component, Variable}
use Rattle.cca_base.specs.declared.limits.TheConstants.{MAX_NAME, MAX_CHOICES, MAX_COMPONENTS, MAX_VARIABLES}
use Rattle.cca_base.specs.PlantModel.{PlantModel}
use Rattle.cca_base.specs.Names.{is_word, is_reserved, is_name, AreDifferent}
use Rattle.cca_base.specs.Model.{WellFormed, AreChoices, names_of, with_component, with_variable}
use Rattle.cca_base.proofs.Growth.{component_kept, variable_kept}
use Rattle.formula_syntax.proofs.LeastLaws.{least_none}
use Rattle.formula_syntax.specs.Lookups.{subject_of, or_else, place_of}
use Rattle.formula_syntax.specs.Meanings.{has_twice}
use Rattle.model_syntax.specs.Codes.{is_long, is_taken, start_mode, list_passes, names_code, component_code, new_component, variable_code, new_variable}
use Rattle.model_syntax.specs.Lines.{is_bare_name}
use Rattle.formula_syntax.proofs.NamesInGrowth.{not_some}
use Rattle.formula_syntax.proofs.FirstPlaces.{none_passes}
pub use Rattle.std.proofs.lemmas.Bool.{or_parts, not-false as not_parts}

-- no code applies
pub below : (a b : ℕ) → nat_le a b ≡ false → b < a
below a b e = grind (arith, nat_tests)

at_most : (a b : ℕ) → nat_lt a b ≡ false → b ≤ a
at_most a b e = grind (arith, nat_tests)

-- ---- names

pub short_name : (text : List ℕ) → is_long text ≡ false → length text ≤ MAX_NAME
short_name text e = at_most MAX_NAME (length text) e

pub is_named : (text : List ℕ) → is_bare_name text ≡ true → is_long text ≡ false → IsTrue (is_name text)
is_named text h e =
    let p = and_parts (is_word text) (not (is_reserved text)) h in
    let short : nat_le (length text) MAX_NAME ≡ true = le-leb' (length text) MAX_NAME (short_name text e) in
    and_from (is_word text) _ p.0 (and_from (nat_le (length text) MAX_NAME) (not (is_reserved text)) short p.1)
  where
    le-leb' : (a b : ℕ) → a ≤ b → nat_le a b ≡ true
    le-leb' a b h = grind (arith, nat_tests)

each_named : (names : List (List ℕ)) → list_all is_bare_name names ≡ true → list_any is_long names ≡ false → All (λ name. IsTrue (is_name name)) names
each_named [] h e = All-nil (λ name. IsTrue (is_name name))
each_named (x ∷ xs) h e =
    let p = and_parts (is_bare_name x) (list_all is_bare_name xs) h in
    let q = or_parts (is_long x) (list_any is_long xs) e in
    All-cons (λ name. IsTrue (is_name name)) x xs (is_named x p.0 q.0) (each_named xs p.1 q.1)

unequal : (x y : List ℕ) → bytes_eq x y ≡ false → x ≢ y
unequal x y e same = let f = sym e ∙ (bytes_eq-Decides x y).1 same in absurd cc

others_differ : (x : List ℕ) (xs : List (List ℕ)) → list_any (bytes_eq x) xs ≡ false → All (λ y. x ≢ y) xs
others_differ x [] e = All-nil (λ y. x ≢ y)
others_differ x (y ∷ ys) e =
    let p = or_parts (bytes_eq x y) (list_any (bytes_eq x) ys) e in
    All-cons (λ y. x ≢ y) y ys (unequal x y p.0) (others_differ x ys p.1)

all_differ : (xs : List (List ℕ)) → has_twice xs ≡ false → AreDifferent xs
all_differ [] e = λ i j d h k. absurd (omega arith)
all_differ (x ∷ xs) e =
    let p = or_parts (list_any (bytes_eq x) xs) (has_twice xs) e in
    AllPairs-cons (λ a b. a ≢ b) x xs (others_differ x xs p.0) (all_differ xs p.1)

pub few_choices : (words : List (List ℕ)) → nat_lt MAX_CHOICES (length words) ≡ false → length words ≤ MAX_CHOICES
few_choices words e = at_most MAX_CHOICES (length words) e

-- words that may be modes or values
choices : (words : List (List ℕ)) → list_all is_bare_name words ≡ true → has_twice words ≡ false → list_any is_long words ≡ false → nat_lt MAX_CHOICES (length words) ≡ false → 0 < length words → AreChoices words
choices words bare twice long many some = record {
  names = record { each = each_named words bare long; different = all_differ words twice };
  some = some;
  few = at_most MAX_CHOICES (length words) many;
}

unnamed_from : {X : Type 0} (f : X → List ℕ) (name : List ℕ) (ys : List X) → All (λ x. bytes_eq (f x) name ≡ false) ys → All (λ other. other ≢ name) (map f ys)
unnamed_from f name [] h = All-nil (λ other. other ≢ name)
unnamed_from f name (y ∷ ys) h =
    All-cons (λ other. other ≢ name) (f y) (map f ys) (unequal (f y) name (All-head (λ x. bytes_eq (f x) name ≡ false) y ys h))
    (unnamed_from f name ys (All-tail (λ x. bytes_eq (f x) name ≡ false) y ys h))

unnamed : {X : Type 0} (f : X → List ℕ) (name : List ℕ) (xs : List X) → position (λ x. bytes_eq (f x) name) xs ≡ None → All (λ other. other ≢ name) (map f xs)
unnamed f name xs e = unnamed_from f name xs (none_passes (λ x. bytes_eq (f x) name) xs e)

neither : (o : Option ℕ) (v : Option ℕ) → or_else (option_map Component o) (option_map Variable v) ≡ None → (o ≡ None) × (v ≡ None)
neither None None e = (refl, refl)
neither None (Some k) e = absurd cc
neither (Some k) v e = absurd cc

-- a name that stands for nothing is no name of the model
name_is_new : (m : PlantModel) (name : List ℕ) → subject_of m name ≡ None → All (λ other. other ≢ name) (names_of m)
name_is_new m name e =
    let p = neither (position (λ c. bytes_eq c.name name) m.components) (position (λ v. bytes_eq v.name name) m.variables) e in
    All-append (λ other. other ≢ name) (map (λ c. c.name) m.components) (map (λ v. v.name) m.variables)
    (unnamed (λ c. c.name) name m.components p.0) (unnamed (λ v. v.name) name m.variables p.1)

-- ---- a name with its modes or values

-- a name that is free, and different choices, none of them too long and not too many
pub record AreNewNames (m : PlantModel) (name : List ℕ) (choices : List (List ℕ)) : Type 0 where
  pub free : subject_of m name ≡ None
  pub different : has_twice choices ≡ false
  pub short : is_long name ≡ false
  pub all_short : list_any is_long choices ≡ false
  pub few : nat_lt MAX_CHOICES (length choices) ≡ false

-- where no code of a declaration applies, and there is room for it
are_new_names : (m : PlantModel) (name : List ℕ) (choices : List (List ℕ)) (full : Bool) → names_code m name choices full ≡ None
    → AreNewNames m name choices × (full ≡ false)
are_new_names m name choices full e =
    let b = least_none 3 (is_taken m name || has_twice choices) ((4, list_passes name choices || full) ∷ []) e in
    let c = least_none 4 (list_passes name choices || full) [] b.1 in
    let taken = or_parts (is_taken m name) (has_twice choices) b.0 in
    let limits = or_parts (list_passes name choices) full c.0 in
    let passes = or_parts (is_long name) (list_any is_long choices || nat_lt MAX_CHOICES (length choices)) limits.0 in
    let many = or_parts (list_any is_long choices) (nat_lt MAX_CHOICES (length choices)) passes.1 in (
      record { free = not_some (subject_of m name) taken.0; different = taken.1; short = passes.0; all_short = many.0; few = many.1 },
      limits.1,
    )

-- ---- components

-- the start mode is one of the modes
pub start_found : (modes : List (List ℕ)) (start : List ℕ) → is_some (start_mode modes start) ≡ true → unwrap_or (start_mode modes start) 0 < length modes
start_found modes start h = go (is_long start) (place_of modes start) refl h
  where
    go : (b : Bool) (o : Option ℕ) → place_of modes start ≡ o → is_some (cond b None o) ≡ true → unwrap_or (cond b None o) 0 < length modes
    go true o e h = absurd cc
    go false None e h = absurd cc
    go false (Some k) e h = let none : List ℕ = [] in (position-Some (λ name. bytes_eq name start) modes k none e).0

-- what holds where no code applies to a component's line
pub record MayBeComponent (m : PlantModel) (name : List ℕ) (modes : List (List ℕ)) (start : List ℕ) : Type 0 where
  pub found : is_some (start_mode modes start) ≡ true
  pub names : AreNewNames m name modes
  pub room : nat_le MAX_COMPONENTS (length m.components) ≡ false

pub may_be_component : (m : PlantModel) (name : List ℕ) (modes : List (List ℕ)) (start : List ℕ) → component_code m name modes start ≡ None → MayBeComponent m name modes start
unfolding component_code
may_be_component m name modes start e =
    let full = nat_le MAX_COMPONENTS (length m.components) in
    let a = least_none 2 (not (is_some (start_mode modes start))) ((3, is_taken m name || has_twice modes) ∷ (4, list_passes name modes || full) ∷ []) e in
    let p = are_new_names m name modes full a.1 in
    record { found = not-false (is_some (start_mode modes start)) a.0; names = p.0; room = p.1 }

pub component_is_kept : (m : PlantModel) (name : List ℕ) (modes : List (List ℕ)) (start : List ℕ) → WellFormed m → list_all is_bare_name (name ∷ modes) ≡ true → component_code m name modes start ≡ None
    → WellFormed (with_component m (new_component name modes start))
component_is_kept m name modes start w bare e =
    let h = may_be_component m name modes start e in
    let b = and_parts (is_bare_name name) (list_all is_bare_name modes) bare in
    let within = start_found modes start h.found in
    component_kept m (new_component name modes start) w (below MAX_COMPONENTS (length m.components) h.room)
    (record { modes = choices modes b.1 h.names.different h.names.all_short h.names.few (omega (arith, within)); start = within })
    (is_named name b.0 h.names.short) (name_is_new m name h.names.free)

-- ---- variables

-- what holds where no code applies to a variable's line
pub may_be_variable : (m : PlantModel) (name : List ℕ) (values : List (List ℕ)) → variable_code m name values ≡ None → AreNewNames m name values × (nat_le MAX_VARIABLES (length m.variables) ≡ false)
unfolding variable_code
may_be_variable m name values e = are_new_names m name values (nat_le MAX_VARIABLES (length m.variables)) e

pub variable_is_kept : (m : PlantModel) (name : List ℕ) (values : List (List ℕ)) (sensed : Bool) → WellFormed m → list_all is_bare_name (name ∷ values) ≡ true → 0 < length values → variable_code m name values ≡ None
    → WellFormed (with_variable m (new_variable name values sensed))
variable_is_kept m name values sensed w bare some e =
    let p = may_be_variable m name values e in
    let h = p.0 in
    let b = and_parts (is_bare_name name) (list_all is_bare_name values) bare in
    variable_kept m (new_variable name values sensed) w (below MAX_VARIABLES (length m.variables) p.1)
    (choices values b.1 h.different h.all_short h.few some) (is_named name b.0 h.short) (name_is_new m name h.free)
