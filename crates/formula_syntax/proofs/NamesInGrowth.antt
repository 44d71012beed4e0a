-- What names stand for in a model that grows.
use Rattle.std.proofs.Common.{◌≡◌, ℕ, Bool, true, false, cond, List, length, Option, Some, None, refl, sym, ap, ◌∙◌}
use Rattle.std.specs.Prelude.{position, nat_eq, is_some}
use Rattle.std.specs.Option.{option_map}
use Rattle.std.specs.Str.{bytes_eq}
use Rattle.std.proofs.lemmas.Slice.Eq.{bytes_eq-Decides}
use Rattle.std.specs.Cmp.Lexicographic.{pointwise}
use Rattle.std.specs.Map.{lookup}
use Rattle.indexmap.specs.IndexMap.{IndexMap, IsUnchanged, Updates}
use Rattle.std.specs.declared.hash.FoldHasher.{FoldHasher}
use Rattle.std.specs.declared.hash.BuildHasherDefault.{BuildHasherDefault}
use Rattle.cca_base.specs.declared.formula.Subject.{Subject}
use Rattle.cca_base.specs.declared.formula.Subject.TheVariants as subjects
use Rattle.cca_base.specs.declared.model.Component.{Component}
use Rattle.cca_base.specs.declared.model.Variable.{Variable}
use Rattle.cca_base.specs.PlantModel.{PlantModel}
use Rattle.cca_base.specs.Model.{with_component, with_variable}
use Rattle.formula_syntax.specs.Lookups.{subject_of, or_else, NamesFit}
use Rattle.formula_syntax.proofs.FirstPlaces.{position_push}

-- a map from names
abbrev pub Names : Type 0 → Type 0
Names X = IndexMap (List ℕ) X (BuildHasherDefault FoldHasher)

pub not_some : {A : Type 0} (o : Option A) → is_some o ≡ false → o ≡ None
not_some None e = refl
not_some (Some x) e = absurd cc

some_component : (o : Option ℕ) (v : Option Subject) (b : Bool) (n : ℕ) → (b ≡ true → or_else (option_map subjects.Component o) v ≡ None)
    → or_else (option_map subjects.Component (or_else o (cond b (Some n) None))) v ≡ cond b (Some (subjects.Component n)) (or_else (option_map subjects.Component o) v)
some_component None v true n h = refl
some_component None v false n h = refl
some_component (Some k) v true n h = let e = h refl in absurd cc
some_component (Some k) v false n h = refl

some_variable : (o : Option ℕ) (w : Option ℕ) (b : Bool) (n : ℕ) → (b ≡ true → or_else (option_map subjects.Component o) (option_map subjects.Variable w) ≡ None)
    → or_else (option_map subjects.Component o) (option_map subjects.Variable (or_else w (cond b (Some n) None))) ≡ cond b (Some (subjects.Variable n)) (or_else (option_map subjects.Component o) (option_map subjects.Variable w))
some_variable None None true n h = refl
some_variable None None false n h = refl
some_variable None (Some k) true n h = let e = h refl in absurd cc
some_variable None (Some k) false n h = refl
some_variable (Some k) w true n h = let e = h refl in absurd cc
some_variable (Some k) w false n h = refl

-- a name that is new stands for nothing before
is_new : (m : PlantModel) (name q : List ℕ) → subject_of m name ≡ None → bytes_eq name q ≡ true → subject_of m q ≡ None
is_new m name q h e = ap (subject_of m) (sym ((bytes_eq-Decides name q).0 e)) ∙ h

component_found : (m : PlantModel) (x : Component) (q : List ℕ) → subject_of m x.name ≡ None → subject_of (with_component m x) q ≡ cond (bytes_eq x.name q) (Some (subjects.Component (length m.components))) (subject_of m q)
component_found m x q h =
    let vs = option_map subjects.Variable (position (λ v. bytes_eq v.name q) m.variables) in
    ap (λ (o : Option ℕ). or_else (option_map subjects.Component o) vs) (position_push (λ c. bytes_eq c.name q) m.components x)
    ∙ some_component (position (λ c. bytes_eq c.name q) m.components) vs (bytes_eq x.name q) (length m.components) (is_new m x.name q h)

variable_found : (m : PlantModel) (x : Variable) (q : List ℕ) → subject_of m x.name ≡ None → subject_of (with_variable m x) q ≡ cond (bytes_eq x.name q) (Some (subjects.Variable (length m.variables))) (subject_of m q)
variable_found m x q h =
    let cs = position (λ c. bytes_eq c.name q) m.components in
    ap (λ (o : Option ℕ). or_else (option_map subjects.Component cs) (option_map subjects.Variable o)) (position_push (λ v. bytes_eq v.name q) m.variables x)
    ∙ some_variable cs (position (λ v. bytes_eq v.name q) m.variables) (bytes_eq x.name q) (length m.variables) (is_new m x.name q h)

pub unchanged_fits : (old new : Names Subject) (m : PlantModel) → IsUnchanged old new → NamesFit old m → NamesFit new m
unchanged_fits old new m e fit q = ap (λ entries. lookup (pointwise nat_eq q) entries) e ∙ fit q

-- the map with the name of a new component
pub component_named : (old new : Names Subject) (m : PlantModel) (x : Component) → NamesFit old m → subject_of m x.name ≡ None → Updates (pointwise nat_eq) old new x.name (Some (subjects.Component (length m.components)))
    → NamesFit new (with_component m x)
component_named old new m x fit free h q =
    h.0 q ∙ ap (λ (o : Option Subject). cond (bytes_eq x.name q) (Some (subjects.Component (length m.components))) o) (fit q) ∙ sym (component_found m x q free)

-- the map with the name of a new variable
pub variable_named : (old new : Names Subject) (m : PlantModel) (x : Variable) → NamesFit old m → subject_of m x.name ≡ None → Updates (pointwise nat_eq) old new x.name (Some (subjects.Variable (length m.variables)))
    → NamesFit new (with_variable m x)
variable_named old new m x fit free h q =
    h.0 q ∙ ap (λ (o : Option Subject). cond (bytes_eq x.name q) (Some (subjects.Variable (length m.variables))) o) (fit q) ∙ sym (variable_found m x q free)
