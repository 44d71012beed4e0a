use Rattle.std.proofs.Common.{◌≡◌, ◌<◌, ℕ, slice_index, subst, sym, inl, inr, arith, length}
use Rattle.std.proofs.lemmas.Bool.{false≢true, both_ways, cases_lt}
use Rattle.std.proofs.lemmas.Option.{get_or_from_slice_get}
use Rattle.cca_base.specs.Model.{IsInChain}
use Rattle.cca_base.proofs.model.Model.is_mending.Goals as goal

pub returns-then-not-mends : goal.returns-then-not-mends
returns-then-not-mends c = (
  λ t. absurd (false≢true t),
  λ h.
      let moves = c.args.self.now.moves in
      let at : ℕ = c.loop-component.component in
      let within : at < length c.args.from.now.modes = omega (arith, c.loop-component-test.true, c.len-component-end.ensures) in
      let on : IsInChain moves at (slice_index c.args.from.now.modes at) (slice_index c.args.to.now.modes at) = h.each at within in
      absurd (both_ways c.mends.result c.if-not-mends.true (c.mends.ensures.1
      (subst (λ x. IsInChain moves at x c.get-other.result.now) (get_or_from_slice_get c.args.from.now.modes at c.get-mode.result.now 0 c.get-mode.ensures.value)
      (subst (IsInChain moves at (slice_index c.args.from.now.modes at)) (get_or_from_slice_get c.args.to.now.modes at c.get-other.result.now 0 c.get-other.ensures.value) on)))),
)

pub loop-component-preserved : goal.loop-component-preserved
loop-component-preserved c d within = elim (cases_lt d c.loop-component.component) [
  | inl before ↦ c.loop-component.invariant d before
  | inr last ↦
      let moves = c.args.self.now.moves in
      let at : ℕ = c.loop-component.component in
      let same : at ≡ d = omega (arith, within, last) in
      subst (λ k. IsInChain moves k (slice_index c.args.from.now.modes k) (slice_index c.args.to.now.modes k)) same
      (subst (λ x. IsInChain moves at x (slice_index c.args.to.now.modes at)) (sym (get_or_from_slice_get c.args.from.now.modes at c.get-mode.result.now 0 c.get-mode.ensures.value))
      (subst (IsInChain moves at c.get-mode.result.now) (sym (get_or_from_slice_get c.args.to.now.modes at c.get-other.result.now 0 c.get-other.ensures.value)) (c.mends.ensures.0 c.if-not-mends.false)))
]
