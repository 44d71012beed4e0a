-- The maps of names and commands while a model grows.
use Rattle.std.proofs.Common.{◌≡◌, ℕ, List, length, Some, None, subst, arith}
use Rattle.std.specs.Prelude.{nat_eq}
use Rattle.std.specs.Cmp.Lexicographic.{pointwise}
use Rattle.std.proofs.lemmas.List.{length_push}
use Rattle.indexmap.specs.IndexMap.{IsUnchanged, Updates}
use Rattle.cca_base.specs.declared.formula.Subject.{Subject}
use Rattle.cca_base.specs.declared.formula.Subject.TheVariants as subjects
use Rattle.cca_base.specs.declared.model.Component.{Component}
use Rattle.cca_base.specs.declared.model.Variable.{Variable}
use Rattle.cca_base.specs.declared.model.Move.{Move}
use Rattle.cca_base.specs.PlantModel.{PlantModel}
use Rattle.cca_base.specs.Model.{with_component, with_variable, with_command, with_move}
use Rattle.formula_syntax.specs.Lookups.{place_of, subject_of}
use Rattle.model_syntax.specs.Reader.{IsIndexed}
use Rattle.formula_syntax.proofs.NamesInGrowth.{Names, unchanged_fits, component_named, variable_named}
use Rattle.model_syntax.proofs.GrowthByMove.{command_numbered, unchanged_numbers, new_complete}

module _ (m : PlantModel) (names : Names Subject) (numbers : Names ℕ) (h : IsIndexed m names numbers) where
  -- room for a name more
  pub names_reserved : (room : Names Subject) → IsUnchanged names room → IsIndexed m room numbers
  names_reserved room e = record { named = unchanged_fits names room m e h.named; numbered = h.numbered; complete = h.complete; few = h.few }

  -- room for a command more
  pub numbers_reserved : (room : Names ℕ) → IsUnchanged numbers room → IsIndexed m names room
  numbers_reserved room e = record { named = h.named; numbered = unchanged_numbers numbers room m.commands e h.numbered; complete = h.complete; few = h.few }

  -- a component more
  pub component_indexed : (new : Names Subject) (x : Component) → subject_of m x.name ≡ None → Updates (pointwise nat_eq) names new x.name (Some (subjects.Component (length m.components)))
      → IsIndexed (with_component m x) new numbers
  component_indexed new x free updates = record { named = component_named names new m x h.named free updates; numbered = h.numbered; complete = h.complete; few = h.few }

  -- a variable more
  pub variable_indexed : (new : Names Subject) (x : Variable) → subject_of m x.name ≡ None → Updates (pointwise nat_eq) names new x.name (Some (subjects.Variable (length m.variables)))
      → IsIndexed (with_variable m x) new numbers
  variable_indexed new x free updates = record { named = variable_named names new m x h.named free updates; numbered = h.numbered; complete = h.complete; few = h.few }

  -- a move more, whose command is new
  pub command_indexed : (new : Names ℕ) (x : Move) (command : List ℕ) → x.command ≡ length m.commands → place_of m.commands command ≡ None
      → Updates (pointwise nat_eq) numbers new command (Some x.command) → IsIndexed (with_move (with_command m command) x) names new
  command_indexed new x command number free updates =
      record {
        named = h.named;
        numbered = command_numbered numbers new m.commands command h.numbered free (subst (λ k. Updates (pointwise nat_eq) numbers new command (Some k)) number updates);
        complete = new_complete m x command number h.complete;
        few = omega (arith, length_push m.commands command, length_push m.moves x, h.few);
      }
