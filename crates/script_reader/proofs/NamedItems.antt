-- Tests of what pairs stand for, in words of their names.
use Rattle.std.proofs.Common.{◌≡◌, ℕ, true, false, ◌==◌, List, [], ◌∷◌, Option, Some, None, position, get_or, inl, inr, sym, ap, ◌∙◌}
use Rattle.std.specs.Option.{option_map}
use Rattle.std.specs.Str.{bytes_eq}
use Rattle.std.proofs.lemmas.Bool.{eqb-true, eq-eqb, or_left, or_right}
use Rattle.std.proofs.lemmas.Option.{same_Some}
use Rattle.std.proofs.lemmas.Slice.Eq.{bytes_eq-Decides}
use Rattle.std.proofs.lemmas.List.Quantifiers.{position-Some}
use Rattle.list_laws.proofs.Tests.{either}
use Rattle.list_laws.proofs.Passing.{some_passes, passes_some}
use Rattle.cca_base.specs.declared.cube.Pair.{Pair}
use Rattle.cca_base.specs.declared.formula.Subject.TheVariants.{Component, Variable}
use Rattle.cca_base.specs.declared.model.Component.{Component as ComponentOfModel}
use Rattle.cca_base.specs.declared.model.Variable.{Variable as VariableOfModel}
use Rattle.cca_base.specs.PlantModel.{PlantModel}
use Rattle.text_base.specs.Pairs.{NamedPair}
use Rattle.formula_syntax.specs.Lookups.{value_of, as_component, as_variable, or_else}
use Rattle.script_reader.specs.Named.{component_of, variable_of, mode_pair, value_pair, each_pair}
use Rattle.script_reader.specs.EventCodes.{has_item, has_item_twice}
use Rattle.script_reader.specs.Laws.{HaveNameTwice}
use Rattle.script_reader.proofs.EachPair.{each_of, comes_from, goes_to, pair_parts}

-- ---- one name, one item

-- a name and its item, where the name of an item is one
pub record OneName (item_of : List ℕ → Option ℕ) (f : NamedPair → Option Pair) : Type 0 where
  pub item : (p : NamedPair) (q : Pair) → f p ≡ Some q → item_of p.name ≡ Some q.item
  pub name : (a b : List ℕ) (c : ℕ) → item_of a ≡ Some c → item_of b ≡ Some c → a ≡ b

module _ (item_of : List ℕ → Option ℕ) (f : NamedPair → Option Pair) (one : OneName item_of f) where
  -- two pairs of one name are of one item, and so the other way
  item_again : (p p' : NamedPair) (q q' : Pair) → f p ≡ Some q → f p' ≡ Some q' → p'.name ≡ p.name → q'.item ≡ q.item
  item_again p p' q q' h k e = same_Some q'.item q.item (sym (one.item p' q' k) ∙ ap item_of e ∙ one.item p q h)

  name_again : (p p' : NamedPair) (q q' : Pair) → f p ≡ Some q → f p' ≡ Some q' → q'.item ≡ q.item → p'.name ≡ p.name
  name_again p p' q q' h k e = one.name p'.name p.name q.item (one.item p' q' k ∙ ap (λ (c : ℕ). Some c) e) (one.item p q h)

  pub twice_named : (ps : List NamedPair) (qs : List Pair) → each_pair f ps ≡ Some qs → has_item_twice qs ≡ true → HaveNameTwice ps
  twice_named [] qs h t = let e : false ≡ true = ap has_item_twice (same_Some [] qs h) ∙ t in absurd cc
  twice_named (p ∷ ps) qs h t =
      let e = each_of f p ps qs h in
      let again : has_item_twice (e.first ∷ e.rest) ≡ true = ap has_item_twice e.are ∙ t in
      either (has_item e.rest e.first.item) (has_item_twice e.rest) again
      (λ k.
      let x = passes_some (λ (q : Pair). q.item == e.first.item) e.rest k in
      let from = comes_from f ps e.rest x.0 e.is_rest x.1 in
      inl (from.0, from.1, name_again p from.0 e.first x.0 e.is_first from.2 (eqb-true x.0.item e.first.item x.2)))
      (λ k. inr (twice_named ps e.rest e.is_rest k))

  pub named_twice : (ps : List NamedPair) (qs : List Pair) → each_pair f ps ≡ Some qs → HaveNameTwice ps → has_item_twice qs ≡ true
  named_twice [] qs h t = absurd t
  named_twice (p ∷ ps) qs h (inl (x, among, same)) =
      let e = each_of f p ps qs h in
      let to = goes_to f ps e.rest x e.is_rest among in
      let equal = eq-eqb to.0.item e.first.item (item_again p x e.first to.0 e.is_first to.2 same) in
      ap has_item_twice (sym e.are) ∙ or_left (has_item e.rest e.first.item) (has_item_twice e.rest) (some_passes (λ (q : Pair). q.item == e.first.item) e.rest to.0 to.1 equal)
  named_twice (p ∷ ps) qs h (inr later) =
      let e = each_of f p ps qs h in
      ap has_item_twice (sym e.are) ∙ or_right (has_item e.rest e.first.item) (has_item_twice e.rest) (named_twice ps e.rest e.is_rest later)

-- ---- components and variables

-- the text at the place of the first that has the name is the name
at_place : {X : Type 0} (name_of : X → List ℕ) (xs : List X) (name : List ℕ) (c : ℕ) (d : X) → position (λ x. bytes_eq (name_of x) name) xs ≡ Some c → name_of (get_or xs c d) ≡ name
at_place name_of xs name c d h =
    let p = position-Some (λ x. bytes_eq (name_of x) name) xs c d h in
    (bytes_eq-Decides (name_of (get_or xs c d)) name).0 p.1

module _ (m : PlantModel) where
  component_at : (o r : Option ℕ) (c : ℕ) → as_component (or_else (option_map Component o) (option_map Variable r)) ≡ Some c → o ≡ Some c
  component_at None None c h = absurd cc
  component_at None (Some v) c h = absurd cc
  component_at (Some d) r c h = h

  variable_at : (o r : Option ℕ) (v : ℕ) → as_variable (or_else (option_map Component o) (option_map Variable r)) ≡ Some v → r ≡ Some v
  variable_at None None v h = absurd cc
  variable_at None (Some w) v h = h
  variable_at (Some d) r v h = absurd cc

  component_name : (name : List ℕ) (c : ℕ) (d : ComponentOfModel) → component_of m name ≡ Some c → (get_or m.components c d).name ≡ name
  component_name name c d h = at_place (λ (x : ComponentOfModel). x.name) m.components name c d (component_at (position (λ x. bytes_eq x.name name) m.components) (position (λ x. bytes_eq x.name name) m.variables) c h)

  variable_name : (name : List ℕ) (v : ℕ) (d : VariableOfModel) → variable_of m name ≡ Some v → (get_or m.variables v d).name ≡ name
  variable_name name v d h = at_place (λ (x : VariableOfModel). x.name) m.variables name v d (variable_at (position (λ x. bytes_eq x.name name) m.components) (position (λ x. bytes_eq x.name name) m.variables) v h)

  some_component : ComponentOfModel
  some_component = record { name = []; modes = []; start = 0 }

  some_variable : VariableOfModel
  some_variable = record { name = []; values = []; sensed = false }

  mode_item : (p : NamedPair) (q : Pair) → mode_pair m p ≡ Some q → component_of m p.name ≡ Some q.item
  mode_item p q h = (pair_parts (component_of m p.name) (λ c. value_of m (Component c) p.value) q h).0

  value_item : (p : NamedPair) (q : Pair) → value_pair m p ≡ Some q → variable_of m p.name ≡ Some q.item
  value_item p q h = (pair_parts (variable_of m p.name) (λ v. value_of m (Variable v) p.value) q h).0

  -- a component's name is one
  pub mode_names : OneName (component_of m) (mode_pair m)
  mode_names = record {
    item = mode_item;
    name = λ a b c h k. sym (component_name a c some_component h) ∙ component_name b c some_component k;
  }

  -- a variable's name is one
  pub value_names : OneName (variable_of m) (value_pair m)
  value_names = record {
    item = value_item;
    name = λ a b v h k. sym (variable_name a v some_variable h) ∙ variable_name b v some_variable k;
  }
