-- One subject alone projected away.
use Rattle.std.proofs.Common.{◌≡◌, ℕ, Bool, List, sym, ◌∙◌, get_or, set}
use Rattle.clause_form.specs.declared.clause.Clauses.{Clauses}
use Rattle.clause_form.specs.Clauses.{AreValues, all_met, any_below}
use Rattle.elimination.specs.Projection.{IsWithout}
use Rattle.clause_form.proofs.SomeValue.{any_true, some_below}

pub some_value_exact : (all : Clauses) (x : ℕ) (rest : Clauses)
    → ((xs : List ℕ) → AreValues all.sizes xs → all_met xs rest.clauses ≡ any_below (get_or all.sizes x 0) (λ v. all_met (set xs x v) all.clauses)) → IsWithout all x rest
some_value_exact all x rest met xs h =
    let size = get_or all.sizes x 0 in
    let test : ℕ → Bool = λ v. all_met (set xs x v) all.clauses in (
      (λ e. any_true size test (sym (met xs h) ∙ e)),
      (λ some. met xs h ∙ some_below size test some.0 some.1 some.2),
    )
