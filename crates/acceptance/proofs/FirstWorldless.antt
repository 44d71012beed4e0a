-- The first state without a world, by the clauses that say which states have one.
use Rattle.std.proofs.Common.{inl, inr, ℕ, List, Option, Some, None, sym, subst}
use Rattle.std.proofs.lemmas.Bool.{cases_Bool, both_ways}
use Rattle.cca_base.specs.PlantModel.{PlantModel}
use Rattle.cca_base.specs.State.{IsState}
use Rattle.clause_form.specs.declared.clause.Clauses.{Clauses}
use Rattle.clause_form.specs.Clauses.{AreValues, all_met}
use Rattle.clause_form.proofs.ModelSizes.{state_values}
use Rattle.guard_compiler.specs.Worlds.{AreStateClauses}
use Rattle.guard_compiler.proofs.WaysMeaning.{to_state}
use Rattle.acceptance.specs.Clashes.{IsFirstWorldlessOrNone}
use Rattle.acceptance.specs.Falsified.{IsFirstOrNone}

pub first_worldless : (m : PlantModel) (states : Clauses) (first : Option (List ℕ)) → AreStateClauses m states → IsFirstOrNone states.sizes states.clauses first → IsFirstWorldlessOrNone m first
first_worldless m states None a h = λ s k. (a.meaning s k).0 (h s (subst (λ z. AreValues z s) (sym a.sizes) (state_values m s k)))
first_worldless m states (Some s) a h =
    let state : IsState m s = to_state m s (subst (λ z. AreValues z s) a.sizes h.values) in
    record {
      state = state;
      worldless = λ w. both_ways (all_met s states.clauses) h.unmet ((a.meaning s state).1 w);
      first = λ t k none earlier. elim (cases_Bool (all_met t states.clauses)) [
        | inl met ↦ none ((a.meaning t k).0 met)
        | inr unmet ↦ h.first t (subst (λ z. AreValues z t) (sym a.sizes) (state_values m t k)) unmet earlier
      ];
    }
