use Rattle.std.proofs.Common.{◌≡◌, ℕ, true, subst, sym, ◌∙◌, slice_index}
use Rattle.cca_base.proofs.SetLaws.{within}
use Rattle.cca_base.specs.Sets.{has}
use Rattle.clause_form.proofs.subsumption.is_part.Goals as goal

pub returns-then-one-other : goal.returns-then-one-other
returns-then-one-other c h xs one =
    subst (λ (s : ℕ). has c.args.other.now.values (slice_index xs s) ≡ true) c.if-one-other.true
    (within c.args.one.now.values c.args.other.now.values (slice_index xs c.args.one.now.subject) (sym c.is_within.ensures ∙ h) one)
