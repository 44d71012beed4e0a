-- What holds of the formulas of a program holds of those of what is left of it at the start, and formulas of a model are within it: by these a
-- caller meets the condition of a turn.
use Rattle.std.proofs.Common.{List, [], ◌∷◌, map, flat_map, All, sym, subst}
use Rattle.std.proofs.lemmas.List.Elements.{All-nil, All-cons, All-head, All-tail, All-append, All-weaker}
use Rattle.list_laws.proofs.Elements.{all_left, all_right}
use Rattle.cca_base.specs.declared.formula.Formula.{Formula}
use Rattle.cca_base.specs.Model.{IsFormula}
use Rattle.cca_base.specs.PlantModel.{PlantModel}
use Rattle.cca_base.proofs.HeldFormulas.{formula_within}
use Rattle.control_syntax.specs.Program.{formulas_of, formulas_step}
use Rattle.control_syntax.specs.declared.part.Part.{Part}
use Rattle.control_syntax.specs.declared.part.Part.TheOpen.{Part-F}
use Rattle.control_syntax.specs.declared.part.Part.TheFolds.{fold-roll-Part, ind-Part, map-Part}
use Rattle.control_laws.specs.Rest.{Rest as rest, rests, rest_step, whole}
use Rattle.control_program.specs.Formulas.{formulas_left, all_formulas_left, IsWithin}

module _ (P : Formula → Type 0) where
  abbrev Holds : Part → Type 0
  Holds p = All P (formulas_of p) → All P (formulas_left (whole p))

  abbrev Known : Type 0
  Known = (p : Part) × Holds p

  abbrev parts_of : List Known → List Part
  parts_of parts = map (λ (e : Known). e.0) parts

  several : (parts : List Known) → All P (flat_map (λ fs. fs) (map formulas_of (parts_of parts))) → All P (all_formulas_left (rests (map whole (parts_of parts))))
  unfolding formulas_left
  several [] h = All-nil P
  several (e ∷ parts) h =
      let others = flat_map (λ fs. fs) (map formulas_of (parts_of parts)) in
      All-append P (formulas_left (whole e.0)) (all_formulas_left (rests (map whole (parts_of parts))))
      (e.1 (all_left P (formulas_of e.0) others h)) (several parts (all_right P (formulas_of e.0) others h))

  abbrev Layer : Part-F Part → Type 0
  Layer x = All P (formulas_step (map-Part Part (List Formula) formulas_of x)) → All P (formulas_left (rest_step (map-Part Part rest whole x)))

  layer : (y : Part-F Known) → Layer (map-Part Known Part (λ e. e.0) y)
  unfolding formulas_left
  layer (Part-F.Reach g) h = h
  layer (Part-F.Await f) h = h
  layer (Part-F.Seq parts) h = several parts h
  layer (Part-F.Both parts) h = several parts h
  layer (Part-F.Choose f a b) h =
      let first = all_left P (f ∷ formulas_of a.0) (formulas_of b.0) h in
      All-append P (f ∷ formulas_left (whole a.0)) (formulas_left (whole b.0))
      (All-cons P f (formulas_left (whole a.0)) (All-head P f (formulas_of a.0) first) (a.1 (All-tail P f (formulas_of a.0) first)))
      (b.1 (all_right P (f ∷ formulas_of a.0) (formulas_of b.0) h))
  layer (Part-F.Repeat n a) h = All-append P (formulas_left (whole a.0)) (formulas_left (whole a.0)) (a.1 h) (a.1 h)

  pub formulas_of_whole : (p : Part) → All P (formulas_of p) → All P (formulas_left (whole p))
  formulas_of_whole = ind-Part Holds (λ x y is h.
      subst (λ r. All P (formulas_left r)) (sym (fold-roll-Part rest rest_step x))
      (subst Layer is (layer y) (subst (All P) (fold-roll-Part (List Formula) formulas_step x) h)))

pub formulas_within : (m : PlantModel) (fs : List Formula) → All (IsFormula m) fs → All (IsWithin m) fs
formulas_within m = All-weaker (IsFormula m) (IsWithin m) (formula_within m)
