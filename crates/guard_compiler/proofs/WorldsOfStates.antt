-- States with a world, by the clauses that nobody owns.
use Rattle.std.proofs.Common.{◌≡◌, ℕ, ◌≤◌, true, false, All, not, List, ◌++◌, length, take, drop, filter, Option, Some, None, refl, sym, ap, subst, ◌∙◌, arith}
use Rattle.std.specs.Prelude.{is_some}
use Rattle.std.specs.List.{list_all}
use Rattle.std.specs.Option.{ForSome}
use Rattle.std.proofs.lemmas.List.{length-map}
use Rattle.std.proofs.lemmas.List.Sums.{AllPass-from_list_all}
use Rattle.std.proofs.Math.Seq.{take-append_seam, drop-append_seam}
use Rattle.list_laws.proofs.Members.{from_filter, to_filter}
use Rattle.cca_base.specs.PlantModel.{PlantModel}
use Rattle.cca_base.specs.Model.{mode_counts, value_counts}
use Rattle.cca_base.specs.Formula.{truth}
use Rattle.cca_base.specs.State.{IsState, IsWorld}
use Rattle.clause_form.specs.declared.clause.Clauses.{Clauses}
use Rattle.clause_form.specs.Clauses.{AreClauses, AreValues, all_met}
use Rattle.clause_form.proofs.ModelSizes.{both_values, state_values}
use Rattle.elimination.specs.Projection.{IsProjection, CanBeMet}
use Rattle.guard_compiler.specs.Rules.{clauses_in, is_unowned, is_one_of, is_none_or_one_of, AreCompletable, AreRulesOf}
use Rattle.guard_compiler.specs.Worlds.{AreStateClauses}
use Rattle.guard_compiler.specs.declared.rules.RuleClause.{RuleClause}
use Rattle.guard_compiler.proofs.AskedOfState.{from_world}
use Rattle.guard_compiler.proofs.Completions.{met_one, all_of_them, completed_world}

to_world : (m : PlantModel) (s w : List ℕ) → AreValues (value_counts m) w → list_all (truth s w) m.rules ≡ true → IsWorld m s w
to_world m s w v h =
    let long = length-map m.variables (λ x. length x.values) in
    record { full = v.full ∙ long; values = λ x k. v.values x (omega (arith, long)); rules = AllPass-from_list_all (truth s w) m.rules h }

-- with no owner in the set, the clauses that are to be true are those without an owner
none_is_unowned : (owner : Option ℕ) → is_none_or_one_of (λ x. false) owner ≡ true → not (is_some owner) ≡ true
none_is_unowned None h = refl
none_is_unowned (Some x) h = absurd cc

none_owned : (owner : Option ℕ) → is_one_of (λ x. false) owner ≡ true → ⊥
none_owned None h = absurd cc
none_owned (Some x) h = absurd cc

module _ (m : PlantModel) (rules : List RuleClause) (unowned states : Clauses) (n : ℕ) (count : n ≡ length m.components) (r : AreRulesOf m rules)
    (sizes : unowned.sizes ≡ mode_counts m ++ value_counts m) (same : unowned.clauses ≡ clauses_in (filter is_unowned rules))
    (proper : AreClauses states) (kept : states.sizes ≡ take n unowned.sizes) (exact : IsProjection unowned n states) where
  long : n ≡ length (mode_counts m)
  long = count ∙ sym (length-map m.components (λ c. length c.modes))

  first : take n unowned.sizes ≡ mode_counts m
  first = ap (take n) sizes ∙ ap (λ z. take z (mode_counts m ++ value_counts m)) long ∙ take-append_seam (mode_counts m) (value_counts m)

  rest : drop n unowned.sizes ≡ value_counts m
  rest = ap (drop n) sizes ∙ ap (λ z. drop z (mode_counts m ++ value_counts m)) long ∙ drop-append_seam (mode_counts m) (value_counts m)

  module _ (s : List ℕ) (k : IsState m s) where
    modes : AreValues (mode_counts m) s
    modes = state_values m s k

    full : length s ≡ n
    full = modes.full ∙ sym long

    has_world : (w : List ℕ) → AreValues (value_counts m) w → all_met (s ++ w) unowned.clauses ≡ true → (y : List ℕ) × IsWorld m s y
    has_world w v met =
        let chosen : all_met (s ++ w) (clauses_in (filter is_unowned rules)) ≡ true = subst (λ cs. all_met (s ++ w) cs ≡ true) same met in
        let owners = subst (λ i. All (λ rule. ForSome rule.owner (λ x. i ≤ x)) rules) (sym count) r.owners in
        let completable = subst (λ i. AreCompletable (mode_counts m ++ value_counts m) i rules) (sym count) r.completable in
        let y = completed_world n rules (mode_counts m) (value_counts m) s w (λ x. false) full modes (both_values (mode_counts m) (value_counts m) s w modes v) owners completable
        (λ rule there h. met_one (s ++ w) (filter is_unowned rules) rule chosen (to_filter is_unowned rules rule (none_is_unowned rule.owner h) there))
        (λ rule there h. absurd (none_owned rule.owner h)) in
        (y.0, to_world m s y.0 y.1 (sym (r.meaning s y.0 modes y.1) ∙ y.3))

    met_of : (w : List ℕ) → IsWorld m s w → CanBeMet unowned n s
    met_of w world =
        let there = from_world m s w world in
        let all : all_met (s ++ w) (clauses_in rules) ≡ true = r.meaning s w modes there.0 ∙ there.1 in (
          w,
          subst (λ z. AreValues z w) (sym rest) there.0,
          subst (λ cs. all_met (s ++ w) cs ≡ true) (sym same) (all_of_them (s ++ w) (filter is_unowned rules) (λ rule h. met_one (s ++ w) rules rule all (from_filter is_unowned rules rule h).1)),
        )

  pub worlds_of_rules : AreStateClauses m states
  worlds_of_rules = record {
    sizes = kept ∙ first;
    proper = proper;
    meaning = λ s k.
        let values : AreValues (take n unowned.sizes) s = subst (λ z. AreValues z s) (sym first) (modes s k) in (
          λ h. (let w = (exact s values).0 h in has_world s k w.0 (subst (λ z. AreValues z w.0) rest w.1) w.2),
          λ h. (exact s values).1 (met_of s k h.0 h.1),
        );
  }
