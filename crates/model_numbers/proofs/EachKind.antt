-- What holds of each list of names of a model holds of the names of a kind.
use Rattle.std.proofs.Common.{◌≡◌, ◌==◌, ℕ, true, false, cond, List, map, slice_get, Option, Some, None, refl, subst}
use Rattle.std.specs.Option.{option_map}
use Rattle.list_laws.proofs.Places.{all_at}
use Rattle.std.specs.Prelude.{All}
use Rattle.cca_base.specs.declared.model.Component.{Component}
use Rattle.cca_base.specs.declared.model.Variable.{Variable}
use Rattle.cca_base.specs.PlantModel.{PlantModel}
use Rattle.model_numbers.specs.declared.kind.Kind.{Kind}
use Rattle.model_numbers.specs.declared.kind.Kind.TheVariants as kinds
use Rattle.model_numbers.specs.KindNames.{names_of_kind, of_whole}

-- it holds of the names of components, of variables and of commands, and of those of each component's modes and each variable's values
pub record HoldsOfLists (P : List (List ℕ) → Type 0) (m : PlantModel) : Type 0 where
  pub components : P (map (λ c. c.name) m.components)
  pub modes : All (λ c. P c.modes) m.components
  pub variables : P (map (λ v. v.name) m.variables)
  pub values : All (λ v. P v.values) m.variables
  pub commands : P m.commands

module _ (P : List (List ℕ) → Type 0) where
  of_the_whole : (of : ℕ) (all names : List (List ℕ)) → P all → of_whole of all ≡ Some names → P names
  of_the_whole of all names h e = elim (of == 0) as (λ b. cond b (Some all) None ≡ Some names → P names) [ true ↦ (λ is. let same : all ≡ names = cc in subst P same h) | false ↦ (λ is. absurd cc) ] e

  of_a_part : {X : Type 0} (names_in : X → List (List ℕ)) (parts : List X) (of : ℕ) → All (λ x. P (names_in x)) parts → (o : Option X) → slice_get parts of ≡ o
      → (names : List (List ℕ)) → option_map names_in o ≡ Some names → P names
  of_a_part names_in parts of each None at names e = absurd cc
  of_a_part names_in parts of each (Some x) at names e = let same : names_in x ≡ names = cc in subst P same (all_at (λ y. P (names_in y)) parts of x each at)

  pub each_kind : (m : PlantModel) → HoldsOfLists P m → (kind : Kind) (of : ℕ) (names : List (List ℕ)) → names_of_kind m kind of ≡ Some names → P names
  each_kind m h kinds.Component of names e = of_the_whole of _ names h.components e
  each_kind m h kinds.Mode of names e = of_a_part (λ (c : Component). c.modes) m.components of h.modes (slice_get m.components of) refl names e
  each_kind m h kinds.Variable of names e = of_the_whole of _ names h.variables e
  each_kind m h kinds.Value of names e = of_a_part (λ (v : Variable). v.values) m.variables of h.values (slice_get m.variables of) refl names e
  each_kind m h kinds.Command of names e = of_the_whole of _ names h.commands e
