-- What is printed of a place that was found by a name.
use Rattle.std.proofs.Common.{◌≡◌, ℕ, ◌<◌, Bool, true, false, cond, List, [], ◌∷◌, ◌++◌, length, codes, Option, Some, None, get_or, refl, ap, subst, ◌∙◌}
use Rattle.std.specs.Prelude.{is_some, unwrap_or}
use Rattle.std.specs.Option.{option_map_or}
use Rattle.std.specs.Str.{bytes_eq}
use Rattle.std.proofs.lemmas.Option.{slice_get-get_or, same_Some}
use Rattle.std.proofs.lemmas.List.Quantifiers.{position-Some}
use Rattle.std.proofs.lemmas.Slice.Eq.{bytes_eq-Decides}
use Rattle.cca_base.specs.declared.formula.Subject.{Subject}
use Rattle.cca_base.specs.declared.formula.Subject.TheVariants.{Component, Variable}
use Rattle.cca_base.specs.PlantModel.{PlantModel}
use Rattle.cca_base.specs.Model.{HasMode, with_command}
use Rattle.text_base.specs.Lexemes.{Lexeme, word, symbol}
use Rattle.text_base.specs.Chain.{◌>>=◌}
use Rattle.model_syntax.specs.Items.{Ends, ends_spelled}
use Rattle.formula_syntax.specs.Lookups.{place_of, subject_of, value_of, choices_of}
use Rattle.model_syntax.specs.Codes.{is_long, start_mode, as_component, ends_of, command_number, with_named}
use Rattle.model_syntax.specs.Printing.{name_of, name_at, ends_said}
use Rattle.text_base.proofs.ChainLaws.{bind_some}
use Rattle.formula_syntax.proofs.ModesByName.{mode_of_component}
use Rattle.model_syntax.proofs.SubjectNames.{subject_name}

-- ---- names in a list

pub at_place : (names : List (List ℕ)) (k : ℕ) → k < length names → name_at names k ≡ get_or names k []
at_place names k h = let none : List ℕ = [] in ap (λ o. option_map_or (λ (x : List ℕ). x) o []) (slice_get-get_or names k none h)

place_named : (names : List (List ℕ)) (text : List ℕ) (k : ℕ) → place_of names text ≡ Some k → name_at names k ≡ text
place_named names text k h =
    let none : List ℕ = [] in
    let p = position-Some (λ name. bytes_eq name text) names k none h in
    at_place names k p.0 ∙ (bytes_eq-Decides (get_or names k none) text).0 p.1

last_named : (names : List (List ℕ)) (text : List ℕ) → name_at (names ++ text ∷ []) (length names) ≡ text
last_named [] text = refl
last_named (name ∷ names) text = last_named names text

-- the start mode is printed by its name
pub start_named : (modes : List (List ℕ)) (start : List ℕ) → is_some (start_mode modes start) ≡ true → name_at modes (unwrap_or (start_mode modes start) 0) ≡ start
start_named modes start h = go (is_long start) (place_of modes start) refl h
  where
    go : (b : Bool) (o : Option ℕ) → place_of modes start ≡ o → is_some (cond b None o) ≡ true → name_at modes (unwrap_or (cond b None o) 0) ≡ start
    go true o e h = absurd cc
    go false None e h = absurd cc
    go false (Some k) e h = place_named modes start k e

-- a command is printed by its name, if it is new too
pub command_named : (m : PlantModel) (command : List ℕ) → name_at (with_named m command).commands (command_number m command) ≡ command
command_named m command = go (place_of m.commands command) refl
  where
    go : (o : Option ℕ) → place_of m.commands command ≡ o → name_at (cond (is_some o) m (with_command m command)).commands (unwrap_or o (length m.commands)) ≡ command
    go None e = last_named m.commands command
    go (Some k) e = place_named m.commands command k e

-- ---- ends

-- the ends of a move are printed by their names
pub record AreNamed (m : PlantModel) (ends : Ends) (c a b : ℕ) : Type 0 where
  pub component : name_of m (Component c) ≡ ends.name
  pub source : name_at (choices_of m (Component c)) a ≡ ends.source
  pub target : name_at (choices_of m (Component c)) b ≡ ends.target
  pub mode : HasMode m c a

component_is : (o : Option Subject) (c : ℕ) → as_component o ≡ Some c → o ≡ Some (Component c)
component_is None c e = absurd cc
component_is (Some (Component d)) c e = ap (λ (x : ℕ). Some (Component x)) (same_Some d c e)
component_is (Some (Variable v)) c e = absurd cc

abbrev target_then : PlantModel → Ends → ℕ → ℕ → ℕ → Option (ℕ × ℕ × ℕ)
target_then m ends c a b = Some (c, a, b)

abbrev source_then : PlantModel → Ends → ℕ → ℕ → Option (ℕ × ℕ × ℕ)
source_then m ends c a = value_of m (Component c) ends.target >>= target_then m ends c a

abbrev component_then : PlantModel → Ends → ℕ → Option (ℕ × ℕ × ℕ)
component_then m ends c = value_of m (Component c) ends.source >>= source_then m ends c

pub ends_named : (m : PlantModel) (ends : Ends) (x : ℕ × ℕ × ℕ) → ends_of m ends ≡ Some x → AreNamed m ends x.0 x.1 x.2
ends_named m ends x e =
    let c = bind_some (as_component (subject_of m ends.name)) (component_then m ends) x e in
    let a = bind_some (value_of m (Component c.0) ends.source) (source_then m ends c.0) x c.2 in
    let b = bind_some (value_of m (Component c.0) ends.target) (target_then m ends c.0 a.0) x a.2 in
    let P : ℕ × ℕ × ℕ → Type 0 = λ y. AreNamed m ends y.0 y.1 y.2 in
    let choices = choices_of m (Component c.0) in
    subst P (same_Some (c.0, a.0, b.0) x b.2) (record {
      component = subject_name m ends.name (Component c.0) (component_is (subject_of m ends.name) c.0 c.1);
      source = place_named choices ends.source a.0 a.1;
      target = place_named choices ends.target b.0 b.1;
      mode = mode_of_component m c.0 a.0 ends.source a.1;
    })

pub ends_printed : (m : PlantModel) (ends : Ends) (c a b : ℕ) (rest : List Lexeme) → AreNamed m ends c a b → ends_said m c a b rest ≡ ends_spelled ends rest
ends_printed m ends c a b rest h =
    let choices = choices_of m (Component c) in
    ap (λ (x : List ℕ). word x ∷ word (name_at choices a) ∷ symbol (codes "->") ∷ word (name_at choices b) ∷ rest) h.component
    ∙ ap (λ (x : List ℕ). word ends.name ∷ word x ∷ symbol (codes "->") ∷ word (name_at choices b) ∷ rest) h.source
    ∙ ap (λ (x : List ℕ). word ends.name ∷ word ends.source ∷ symbol (codes "->") ∷ word x ∷ rest) h.target
