use Rattle.std.proofs.Common.{refl, ◌≡◌, ◌<◌, ◌-◌, ◌+◌, ◌∙◌, ℕ, List, Some, slice_get, slice_set, slice_index, drop, length, sym, ap, subst, arith}
use Rattle.list_laws.proofs.Places.{value_at}
use Rattle.cca_base.specs.Accepted.{CompiledModel, IsCompiled}
use Rattle.cca_base.specs.PlantModel.{PlantModel}
use Rattle.cca_base.specs.Model.{HasMode, is_broken}
use Rattle.reversibility.specs.ClassParts.{in_row}
use Rattle.reversibility.specs.Homes.{AreDone, IsHomeFrom, IsClassFrom}
use Rattle.reversibility.proofs.Taken.{order_at, take_none, take_some}
use Rattle.reversibility.proofs.taking.take.Goals as goal

-- where the component stands in the order
place : (o order : List ℕ) (n i c : ℕ) → n ≡ length o → o ≡ order → slice_get o (n - 1 - i) ≡ Some c → slice_get order (length order - 1 - i) ≡ Some c
place o order n i c len same at =
    subst (λ l. slice_get l (length l - 1 - i) ≡ Some c) same (subst (λ k. slice_get o (k - 1 - i) ≡ Some c) len at)

-- the component is one of the model
placed_within : (b : CompiledModel) → IsCompiled b → (i : ℕ) {o : List ℕ} {n c : ℕ} → n ≡ length o → o ≡ b.order → slice_get o (n - 1 - i) ≡ Some c → c < length b.model.components
placed_within b compiled i {o = o} {n = n} {c = c} len same at = order_at b compiled (length b.order - 1 - i) c (place o b.order n i c len same at)

pub class_around-requires-clause-within : goal.class_around-requires-clause-within
class_around-requires-clause-within c = placed_within c.args.compiled.now c.order-order.ensures.compiled c.args.i c.len.ensures c.order-order.ensures.value c.get-c.ensures.value

pub get-mode-requires : goal.get-mode-requires
get-mode-requires c =
    omega (arith, placed_within c.args.compiled.now c.order-order.ensures.compiled c.args.i c.len.ensures c.order-order.ensures.value c.get-c.ensures.value, c.requires.state.full)

pub class_around-requires-clause-mode : goal.class_around-requires-clause-mode
class_around-requires-clause-mode c =
    subst (HasMode c.args.compiled.now.model c.get-c.result.now) (value_at c.args.base.now.modes c.get-c.result.now c.get-mode.result.now c.get-mode.ensures.value)
    (c.requires.state.modes c.get-c.result.now (class_around-requires-clause-within c))

pub set-requires : goal.set-requires
set-requires c =
    omega (arith, placed_within c.args.compiled.now c.order-order.ensures.compiled c.args.i c.len.ensures c.order-order.ensures.value c.get-c.ensures.value, c.requires.done.rows_full)

pub set-requires-in-Some : goal.set-requires-in-Some
set-requires-in-Some c =
    omega (arith, placed_within c.args.compiled.now c.order-order.ensures.compiled c.args.i c.len.ensures c.order-order.ensures.value c.get-c.ensures.value, c.requires.done.flags_full)

-- what was found around the mode that was read, by the rows that were handed on
around_at : (d : ℕ) (base : List ℕ) {rows kept : List ℕ} {mode : ℕ} (P : List ℕ → ℕ → Type 0) → rows ≡ kept → slice_get base d ≡ Some mode → P rows mode → P kept (slice_index base d)
around_at d base {kept = kept} {mode = mode} P same read found =
    subst (P kept) (sym (value_at base d mode read)) (subst (λ l. P l mode) same found)

pub returns-in-Some : goal.returns-in-Some
returns-in-Some c =
    let b : CompiledModel = c.args.compiled.now in
    let base : List ℕ = c.args.base.now.modes in
    let d : ℕ = c.get-c.result.now in
    let class = around_at d base (λ l mode. IsClassFrom b.model (in_row l) d mode c.in-Some.class) c.as_slice.ensures c.get-mode.ensures.value (rw c.in-Some.is at c.class_around.ensures.some) in
    let flag_is : c.broken-broken.result ≡ is_broken b.model.moves d (slice_index base d) =
    c.broken-broken.ensures ∙ ap (λ (m : PlantModel). is_broken m.moves d c.get-mode.result.now) c.model.ensures.value
    ∙ ap (λ y. is_broken b.model.moves d y) (sym (value_at base d c.get-mode.result.now c.get-mode.ensures.value)) in
    let made = take_some b c.order-order.ensures.compiled base c.args.i d c.requires.within
    (place c.order-order.result.now b.order c.len.result c.args.i d c.len.ensures c.order-order.ensures.value c.get-c.ensures.value)
    c.args.taken.now.rows c.args.taken.now.mendable c.requires.done c.in-Some.class c.broken-broken.result flag_is class in
    subst (λ rows. AreDone b.model base rows c.set-in-Some.new.self (drop (length b.order - (c.args.i + 1)) b.order)) (sym c.set.ensures)
    (subst (λ flags. AreDone b.model base (slice_set c.args.taken.now.rows d c.in-Some.class) flags (drop (length b.order - (c.args.i + 1)) b.order)) (sym c.set-in-Some.ensures) made)

pub returns-in_default : goal.returns-in_default
returns-in_default c =
    take_none c.args.compiled.now c.order-order.ensures.compiled c.args.base.now.modes c.args.i c.get-c.result.now c.requires.within
    (place c.order-order.result.now c.args.compiled.now.order c.len.result c.args.i c.get-c.result.now c.len.ensures c.order-order.ensures.value c.get-c.ensures.value)
    c.args.taken.now.rows c.args.taken.now.mendable c.requires.done
    (around_at c.get-c.result.now c.args.base.now.modes (λ l mode. (a : ℕ) → IsHomeFrom c.args.compiled.now.model (in_row l) c.get-c.result.now mode a → ⊥)
    c.as_slice.ensures c.get-mode.ensures.value ((rw c.in_default.is at c.class_around.ensures.none) refl))
