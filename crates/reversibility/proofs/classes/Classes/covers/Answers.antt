use Rattle.std.proofs.Common.{◌≡◌, ◌↔◌, ◌<◌, ◌≤◌, true, false, Some, refl, sym, ap, subst, slice_get, slice_index, length, arith, ℕ, List}
use Rattle.std.proofs.lemmas.Bool.{false≢true, both_ways}
use Rattle.std.proofs.lemmas.Option.{get_or_from_slice_get}
use Rattle.reversibility.specs.Promises.{StandsAt, StandsByChain, AllowsInside, MendsInside, StaysInside}
use Rattle.cca_base.specs.State.{IsState}
use Rattle.reach_laws.specs.Classes.{Stands}
use Rattle.reversibility.specs.ClassParts.{ClassParts, IsClasses, CoversState, in_row}
use Rattle.reversibility.proofs.Standing.{below_next}
use Rattle.reversibility.proofs.Promised.{allows_inside, mends_inside, stays_inside, by_chain}
use Rattle.reversibility.proofs.classes.Classes.covers.Goals as goal

-- the component of the turn is one of the model
within : {p now : ClassParts} → p ≡ now → IsClasses now → (n i : ℕ) → i < n → n ≡ length p.rows → i < length now.compiled.model.components
within same is n i less count = omega (arith, less, count, ap (λ (z : ClassParts). length z.rows) same, is.rows_full)

-- what would need the mode that was read to stand doesn't hold
not_both : (P : ℕ → Type 0) (s : List ℕ) (i : ℕ) {Q : Type 0} {mode : ℕ} → (P mode → ⊥) → slice_get s i ≡ Some mode → (Q → P (slice_index s i)) → false ≡ true ↔ Q
not_both P s i {mode = mode} fails read need =
    ((λ f. absurd (false≢true f)), (λ q. absurd (fails (subst P (get_or_from_slice_get s i mode 0 read) (need q)))))

pub returns-then-not-stands-clause-value : goal.returns-then-not-stands-clause-value
returns-then-not-stands-clause-value c =
    let now : ClassParts = c.args.self.now in
    not_both (Stands now.compiled.model now.base (in_row now.rows) c.loop-c.c) c.args.state.now.modes c.loop-c.c (λ e. both_ways c.stands.result c.if-not-stands.true (c.stands.ensures.value.1 e)) c.get.ensures.value
    (λ covers. covers c.loop-c.c (within c.self.view_is c.stands.ensures.classes c.len-c-end.result c.loop-c.c c.loop-c-test.true c.len-c-end.ensures))

pub returns-then-not-stands-clause-modes : goal.returns-then-not-stands-clause-modes
returns-then-not-stands-clause-modes c =
    not_both (StandsAt c.args.self.now c.loop-c.c) c.args.state.now.modes c.loop-c.c (λ e. both_ways c.stands.result c.if-not-stands.true (c.stands.ensures.mode.1 e)) c.get.ensures.value
    (λ by. by c.loop-c.c (within c.self.view_is c.stands.ensures.classes c.len-c-end.result c.loop-c.c c.loop-c-test.true c.len-c-end.ensures))

pub loop-c-preserved : goal.loop-c-preserved
loop-c-preserved c =
    let now : ClassParts = c.args.self.now in
    let s : List ℕ = c.args.state.now.modes in
    below_next (λ k. Stands now.compiled.model now.base (in_row now.rows) k (slice_index s k)) c.loop-c.c c.loop-c.invariant
    (subst (Stands now.compiled.model now.base (in_row now.rows) c.loop-c.c) (sym (get_or_from_slice_get s c.loop-c.c c.get.result.now 0 c.get.ensures.value))
    (c.stands.ensures.value.0 c.if-not-stands.false))

-- what holds of a state that is covered, as it is after the loop
record Keeps (now : ClassParts) (s : List ℕ) : Type 0 where
  allowed : AllowsInside now s
  mended : MendsInside now s
  later : StaysInside now s
  modes : StandsByChain now s

covered_keeps : {p now : ClassParts} (s : List ℕ) (i : ℕ) → p ≡ now → IsClasses p → IsState now.compiled.model s → length p.rows ≤ i
    → ((k : ℕ) → k < i → Stands now.compiled.model now.base (in_row now.rows) k (slice_index s k)) → Keeps now s
covered_keeps {p = p} {now = now} s i same is state past each =
    let own : IsClasses now = subst IsClasses same is in
    let covered : CoversState now s =
    record { state = state; covers = λ k lt. each k (omega (arith, past, is.rows_full, lt, ap (λ (z : ClassParts). length z.compiled.model.components) same)) } in
    record { allowed = allows_inside now own s covered; mended = mends_inside now own s covered; later = stays_inside now own s covered; modes = (by_chain now own s).0 covered.covers }

pub returns-clause-allowed : goal.returns-clause-allowed
returns-clause-allowed c _ = (covered_keeps c.args.state.now.modes c.loop-c.c c.self.view_is c.self.invariant c.requires (omega (arith, c.loop-c-test.false, c.len-c-end.ensures)) c.loop-c.invariant).allowed

pub returns-clause-mended : goal.returns-clause-mended
returns-clause-mended c _ = (covered_keeps c.args.state.now.modes c.loop-c.c c.self.view_is c.self.invariant c.requires (omega (arith, c.loop-c-test.false, c.len-c-end.ensures)) c.loop-c.invariant).mended

pub returns-clause-later : goal.returns-clause-later
returns-clause-later c _ = (covered_keeps c.args.state.now.modes c.loop-c.c c.self.view_is c.self.invariant c.requires (omega (arith, c.loop-c-test.false, c.len-c-end.ensures)) c.loop-c.invariant).later

pub returns-clause-modes : goal.returns-clause-modes
returns-clause-modes c = ((λ _. (covered_keeps c.args.state.now.modes c.loop-c.c c.self.view_is c.self.invariant c.requires (omega (arith, c.loop-c-test.false, c.len-c-end.ensures)) c.loop-c.invariant).modes), (λ _. refl))
