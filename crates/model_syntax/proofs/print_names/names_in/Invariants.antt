use Rattle.std.proofs.Common.{◌≡◌, ◌++◌, drop}
use Rattle.model_syntax.specs.Printing.{names_in}
use Rattle.model_syntax.proofs.print_names.names_in.Given as goal

-- with what is left, all names in the set
abbrev pub invariant-loop-k : goal.invariant-loop-k
invariant-loop-k l = l.chosen.items ++ names_in l.k (drop l.k l.names) l.set ≡ names_in 0 l.names l.set
