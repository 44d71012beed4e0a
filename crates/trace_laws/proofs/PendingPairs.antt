-- What is pending is of the model, and isn't mirrored.
use Rattle.std.proofs.Common.{◌≡◌, false, All}
use Rattle.std.proofs.lemmas.List.Elements.{All-weaker}
use Rattle.cca_base.specs.Accepted.{CompiledModel}
use Rattle.cca_base.specs.Sets.{has}
use Rattle.cca_base.specs.State.{HasValue}
use Rattle.cca_base.specs.Trace.{ExecutiveState}
use Rattle.trace_laws.specs.Fits.{MayBePending, Fits}

module _ (b : CompiledModel) (x : ExecutiveState) (fits : Fits b x) where
  pub pending_values : All (λ p. HasValue b.model p.item p.value) x.pending
  pending_values = All-weaker (MayBePending b.model x.mirrored) (λ p. HasValue b.model p.item p.value) (λ p h. h.value) x.pending fits.pending

  pub pending_unmirrored : All (λ p. has x.mirrored p.item ≡ false) x.pending
  pending_unmirrored = All-weaker (MayBePending b.model x.mirrored) (λ p. has x.mirrored p.item ≡ false) (λ p h. h.unmirrored) x.pending fits.pending
