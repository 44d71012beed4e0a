-- Tables in use, as a policy keeps them.
use Rattle.std.proofs.Common.{◌≡◌, ℕ, Bool, true, false, cond, List, Some, None, IfSome, refl, sym, subst}
use Rattle.policy_tables.specs.Tables.{TableParts}
use Rattle.trace_laws.specs.Tables.{Takes, StaysIf}
use Rattle.executive_loop.specs.Covering.{base_of, covers}

-- what holds of the tables holds of those in use
pub in_use_has : (P : TableParts → Type 0) (t : TableParts) (in_use : Bool) → P t → IfSome (cond in_use (Some t) None) P
in_use_has P t true h = h
in_use_has P t false h = tt

-- tables in use that cover the state stay
pub takes_same : (t : TableParts) (in_use : Bool) (s : List ℕ) → in_use ≡ true → covers t s ≡ true → Takes base_of covers (cond in_use (Some t) None) s (cond in_use (Some t) None)
takes_same t in_use s used covered =
    subst (λ b. Takes base_of covers (cond b (Some t) None) s (cond b (Some t) None)) (sym used) (subst (λ k. StaysIf base_of k t s (Some t)) (sym covered) refl)

-- where none in use cover it, they are made anew for it
pub takes_new : (t u : TableParts) (in_use : Bool) (s : List ℕ) → (in_use ≡ true → covers t s ≡ false) → base_of u ≡ s → Takes base_of covers (cond in_use (Some t) None) s (Some u)
takes_new t u true s uncovered base = subst (λ k. StaysIf base_of k t s (Some u)) (sym (uncovered refl)) (u, refl, base)
takes_new t u false s uncovered base = (u, refl, base)
