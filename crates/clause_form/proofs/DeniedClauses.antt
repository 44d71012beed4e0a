-- Clauses of the rules beside those of a denied formula are clauses of both.
use Rattle.std.proofs.Common.{◌≡◌, ◌<◌, ◌&&◌, ◌++◌, Bool, true, false, not, ℕ, None, Some, length, slice_index_or, refl, sym, ap, subst, ◌∙◌}
use Rattle.std.specs.List.{list_all}
use Rattle.std.proofs.lemmas.List.Elements.{All-append}
use Rattle.std.proofs.lemmas.List.Folds.{list_all-append}
use Rattle.cca_base.specs.PlantModel.{PlantModel}
use Rattle.cca_base.specs.Formula.{truth}
use Rattle.cca_base.specs.declared.formula.Formula.{Formula}
use Rattle.clause_form.specs.declared.clause.Clause.{Clause}
use Rattle.clause_form.specs.declared.clause.Clauses.{Clauses}
use Rattle.clause_form.specs.Clauses.{meets, AreBelow}
use Rattle.clause_form.specs.Formulas.{AreClausesOf, AreDenying}

turned : (d r : Bool) → (d && (r && true && true)) ≡ (r && true && d)
turned true true = refl
turned true false = refl
turned false true = refl
turned false false = refl

pub denied_beside_rules : (m : PlantModel) (f : Formula) (d r : Clauses) → AreDenying m f d → AreClausesOf m None None r
    → AreClausesOf m None (Some f) (record { sizes = d.sizes; clauses = d.clauses ++ r.clauses })
denied_beside_rules m f d r h k =
    let same : length r.sizes ≡ length d.sizes = ap length (k.sizes ∙ sym h.sizes) in
    record {
      sizes = h.sizes;
      proper = All-append (λ (c : Clause). AreBelow (length d.sizes) c.literals) d.clauses r.clauses h.proper
          (subst (λ (n : ℕ). (i : ℕ) (c : Clause) → i < length r.clauses → AreBelow n (slice_index_or r.clauses i c).literals) same k.proper);
      meaning = λ modes values a b.
          list_all-append (meets (modes ++ values)) d.clauses r.clauses
          ∙ (ap (λ x. x && list_all (meets (modes ++ values)) r.clauses) (h.meaning modes values a b)
          ∙ (ap (λ x. not (truth modes values f) && x) (k.meaning modes values a b)
          ∙ turned (not (truth modes values f)) (list_all (truth modes values) m.rules)));
    }
