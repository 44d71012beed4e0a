use Rattle.cca_laws.proofs.OneOrder.{pairwise, in_order_from, compiled_none_twice}
use Rattle.cca_laws.proofs.laws.orders.Goals as goal

pub returns-clause-pairwise : goal.returns-clause-pairwise
returns-clause-pairwise c = λ order pairs once. (pairwise order pairs, λ h. in_order_from order pairs once h.0 h.1)

pub returns-clause-none_twice : goal.returns-clause-none_twice
returns-clause-none_twice c = compiled_none_twice
