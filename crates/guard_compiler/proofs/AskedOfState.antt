-- What the guard's clauses and the relevant ones ask of a state.
use Rattle.std.proofs.Common.{◌≡◌, ℕ, Bool, ◌≤◌, ◌<◌, ◌&&◌, not, true, List, ◌++◌, length, filter, All, refl, sym, ◌∙◌, subst, arith}
use Rattle.std.specs.List.{list_all}
use Rattle.std.specs.Option.{ForSome}
use Rattle.std.proofs.lemmas.Bool.{and_parts, and_from}
use Rattle.std.proofs.lemmas.List.{length-map}
use Rattle.std.proofs.lemmas.List.Elements.{All-append, All-filter, All-map, All-weaker}
use Rattle.std.proofs.lemmas.List.Sums.{list_all-from_AllPass}
use Rattle.cca_base.specs.PlantModel.{PlantModel}
use Rattle.cca_base.specs.Model.{mode_counts, value_counts}
use Rattle.cca_base.specs.Formula.{truth}
use Rattle.cca_base.specs.State.{IsWorld, HasWorlds}
use Rattle.cca_base.specs.declared.formula.Formula.{Formula}
use Rattle.clause_form.specs.declared.clause.Clauses.{Clauses}
use Rattle.clause_form.specs.declared.clause.Clause.{Clause}
use Rattle.clause_form.specs.Clauses.{AreValues, AreBelow, AllBelow}
use Rattle.clause_form.specs.Formulas.{AreDenying}
use Rattle.guard_compiler.specs.Asked.{AreAskedOf}
use Rattle.guard_compiler.specs.Relevant.{bears, IsWithRelevant}
use Rattle.guard_compiler.specs.Rules.{clauses_in, AreCompletable, AreRulesBelow, AreRulesOf}
use Rattle.guard_compiler.specs.declared.rules.RuleClause.{RuleClause}
use Rattle.guard_compiler.proofs.WaysMeaning.{to_state}
use Rattle.guard_compiler.proofs.RelevantExact.{relevant_exact}

pub from_world : (m : PlantModel) (s w : List ℕ) → IsWorld m s w → AreValues (value_counts m) w × (list_all (truth s w) m.rules ≡ true)
from_world m s w k =
    let long = length-map m.variables (λ v. length v.values) in
    (record { full = k.full ∙ sym long; values = λ x h. k.values x (omega (arith, long)) }, list_all-from_AllPass (truth s w) m.rules k.rules)

-- the rules' subjects are the guard's
pub same_subjects : (m : PlantModel) (guard : Formula) (rules : List RuleClause) (denied : Clauses) → AreRulesOf m rules → AreDenying m guard denied → AreRulesBelow (length denied.sizes) rules
same_subjects m guard rules denied r d = subst (λ (z : List ℕ). AreRulesBelow (length z) rules) (sym d.sizes) r.subjects

-- what is asked of the subjects of all is so of some
pub chosen_below : (count : ℕ) (test : RuleClause → Bool) (rules : List RuleClause) → AreRulesBelow count rules → AllBelow count (clauses_in (filter test rules))
chosen_below count test rules h =
    let clause_below : RuleClause → Type 0 = λ rule. AreBelow count rule.clause.literals in
    All-map (λ (clause : Clause). AreBelow count clause.literals) (λ (rule : RuleClause). rule.clause) (filter test rules)
    (All-filter test clause_below rules (All-weaker (λ (rule : RuleClause). AreBelow count rule.clause.literals × ForSome rule.owner (λ x. x < count)) clause_below (λ rule both. both.0) rules h))

pub asked : (m : PlantModel) (guard : Formula) (n : ℕ) (rules : List RuleClause) (denied all : Clauses) → n ≡ length m.components → HasWorlds m → AreRulesOf m rules → AreDenying m guard denied
    → all.sizes ≡ denied.sizes → IsWithRelevant n rules denied.clauses all.clauses → AreAskedOf m guard all
asked m guard n rules denied all count worlds r d same with =
    let chosen = clauses_in (filter (bears with.set) rules) in
    let below : Clause → Type 0 = λ clause. AreBelow (length denied.sizes) clause.literals in
    let subjects : AllBelow (length denied.sizes) (denied.clauses ++ chosen) =
    All-append below denied.clauses chosen d.proper (chosen_below (length denied.sizes) (bears with.set) rules (same_subjects m guard rules denied r d)) in
    record {
      sizes = same ∙ d.sizes;
      proper = subst (λ (z : List ℕ). AllBelow (length z) all.clauses) (sym same) (subst (AllBelow (length denied.sizes)) (sym with.are) subjects);
      meaning = λ s v.
          let long : length s ≡ n = v.full ∙ (length-map m.components (λ c. length c.modes) ∙ sym count) in
          let world = worlds s (to_state m s v) in
          let there = from_world m s world.0 world.1 in
          let owners = subst (λ k. All (λ rule. ForSome rule.owner (λ x. k ≤ x)) rules) (sym count) r.owners in
          let completable = subst (λ k. AreCompletable (mode_counts m ++ value_counts m) k rules) (sym count) r.completable in
          let exact = relevant_exact n rules denied.clauses all.clauses with (mode_counts m) (value_counts m) s world.0 long v there.0 owners completable (r.meaning s world.0 v there.0 ∙ there.1) in (
            λ h. (let t = exact.0 h in
                (t.0, t.1, and_from (list_all (truth s t.0) m.rules && true) (not (truth s t.0 guard)) (and_from (list_all (truth s t.0) m.rules) true (sym (r.meaning s t.0 v t.1) ∙ t.2) refl) (sym (d.meaning s t.0 v t.1) ∙ t.3))),
            λ h. (let parts = and_parts (list_all (truth s h.0) m.rules && true) (not (truth s h.0 guard)) h.2 in
                let true_rules = and_parts (list_all (truth s h.0) m.rules) true parts.0 in
                exact.1 (h.0, h.1, r.meaning s h.0 v h.1 ∙ true_rules.0, d.meaning s h.0 v h.1 ∙ parts.1)),
          );
    }
