-- The rows of a model have its needs.
use Rattle.std.proofs.Common.{◌≡◌, ◌<◌, ◌↔◌, ℕ, List, [], length, get_or, Contains, subst, arith}
use Rattle.std.proofs.lemmas.List.{get_or_default}
use Rattle.std.proofs.lemmas.List.Elements.{All-contains}
use Rattle.list_laws.proofs.Members.{all_from}
use Rattle.cca_base.proofs.PathLaws.{ancestor_along, takes_same, acyclic_same, shown_same}
use Rattle.cca_base.proofs.Within.{mode_within, needed_component}
use Rattle.cca_base.specs.PlantModel.{PlantModel}
use Rattle.cca_base.specs.Implicants.{Needs}
use Rattle.cca_base.specs.Model.{WellFormed, IsMove}
use Rattle.cca_base.specs.Relations.{numbers_below, TakesEffectsFirstBy}
use Rattle.causal_graph.specs.Laws.{AreNeedsOf, ModelsHaveRows, OrdersAreOfModels, CyclesAreOfModels, AncestorsAreOfModels}
use Rattle.causal_graph.specs.Needs.{RowNeeds}
use Rattle.causal_graph.proofs.DistanceRound.{row_within}

needing_component : (m : PlantModel) → WellFormed m → (c u : ℕ) → Needs m c u → c < length m.components
needing_component m w c u h =
    subst (λ n. n < length m.components) h.own (mode_within m h.move.component h.move.source (All-contains (IsMove m) m.moves h.move w.moves h.of_model).source)

-- a row has what its component needs, and nothing else
pub same_needs : (m : PlantModel) (rows : List (List ℕ)) → WellFormed m → AreNeedsOf m rows → (c u : ℕ) → RowNeeds rows c u ↔ Needs m c u
same_needs m rows w h c u = (
  λ among. ((h.each c (row_within rows c u among)).each u).0 among,
  λ needs. ((h.each c (let lt : c < length m.components = needing_component m w c u needs in omega (arith, lt, h.full))).each u).1 needs,
)

pub models_have_rows : ModelsHaveRows
models_have_rows m rows h c d within =
    all_from (λ u. u < length rows) (get_or rows c d) (λ u among.
    let row : get_or rows c d ≡ get_or rows c [] = get_or_default rows c d [] within in
    let needs : Needs m c u = ((h.each c within).each u).0 (subst (λ r. Contains r u) row among) in
    let lt : u < length m.components = needed_component m c u needs in
    omega (arith, lt, h.full))

pub orders_are_of_models : OrdersAreOfModels
orders_are_of_models m rows list w h answer = (
  acyclic_same (RowNeeds rows) (Needs m) (same_needs m rows w h) answer.0,
  subst (λ n. TakesEffectsFirstBy (Needs m) (numbers_below n) list) h.full (takes_same (RowNeeds rows) (Needs m) (same_needs m rows w h) (numbers_below (length rows)) list answer.1),
)

pub cycles_are_of_models : CyclesAreOfModels
cycles_are_of_models m rows list w h answer = shown_same (RowNeeds rows) (Needs m) (same_needs m rows w h) list answer

pub ancestors_are_of_models : AncestorsAreOfModels
ancestors_are_of_models m rows c list w h answer = record {
  rising = answer.rising;
  each = λ u. (
    λ among. ancestor_along (RowNeeds rows) (Needs m) (λ d v. (same_needs m rows w h d v).0) c u ((answer.each u).0 among),
    λ way. (answer.each u).1 (ancestor_along (Needs m) (RowNeeds rows) (λ d v. (same_needs m rows w h d v).1) c u way),
  );
}
