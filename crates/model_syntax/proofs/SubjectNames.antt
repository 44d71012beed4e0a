-- A subject that is found by a name has that name.
use Rattle.std.proofs.Common.{◌≡◌, ℕ, false, List, [], Option, Some, None, get_or, slice_get, refl, ap, subst, ◌∙◌}
use Rattle.std.specs.Prelude.{position}
use Rattle.std.specs.Option.{option_map, option_map_or}
use Rattle.std.specs.Str.{bytes_eq}
use Rattle.std.proofs.lemmas.Option.{slice_get-get_or, same_Some}
use Rattle.std.proofs.lemmas.List.Quantifiers.{position-Some}
use Rattle.std.proofs.lemmas.Slice.Eq.{bytes_eq-Decides}
use Rattle.cca_base.specs.declared.formula.Subject.{Subject}
use Rattle.cca_base.specs.declared.formula.Subject.TheVariants.{Component, Variable}
use Rattle.cca_base.specs.PlantModel.{PlantModel}
use Rattle.formula_syntax.specs.Lookups.{or_else, subject_of}
use Rattle.model_syntax.specs.Printing.{name_of}

-- the first that has the name
first_named : {X : Type 0} (f : X → List ℕ) (xs : List X) (name : List ℕ) (i : ℕ) (d : X) → position (λ x. bytes_eq (f x) name) xs ≡ Some i → option_map_or f (slice_get xs i) [] ≡ name
first_named f xs name i d h =
    let p = position-Some (λ x. bytes_eq (f x) name) xs i d h in
    ap (λ o. option_map_or f o []) (slice_get-get_or xs i d p.0) ∙ (bytes_eq-Decides (f (get_or xs i d)) name).0 p.1

either_named : (m : PlantModel) (name : List ℕ) (s : Subject) (c v : Option ℕ) → position (λ x. bytes_eq x.name name) m.components ≡ c → position (λ x. bytes_eq x.name name) m.variables ≡ v
    → or_else (option_map Component c) (option_map Variable v) ≡ Some s → name_of m s ≡ name
either_named m name s None None p q h = absurd cc
either_named m name s (Some c) v p q h =
    subst (λ x. name_of m x ≡ name) (same_Some (Component c) s h) (first_named (λ x. x.name) m.components name c (record { name = []; modes = []; start = 0 }) p)
either_named m name s None (Some v) p q h =
    subst (λ x. name_of m x ≡ name) (same_Some (Variable v) s h) (first_named (λ x. x.name) m.variables name v (record { name = []; values = []; sensed = false }) q)

pub subject_name : (m : PlantModel) (name : List ℕ) (s : Subject) → subject_of m name ≡ Some s → name_of m s ≡ name
subject_name m name s h = either_named m name s _ _ refl refl h
