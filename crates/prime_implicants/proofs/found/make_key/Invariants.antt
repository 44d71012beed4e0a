use Rattle.prime_implicants.specs.Found.{key_from}
use Rattle.std.proofs.Common.{◌≡◌, length, ◌∷◌, take}
use Rattle.std.specs.List.{filter}
use Rattle.std.specs.Option.{is_some}
use Rattle.prime_implicants.proofs.found.make_key.Given as goal

abbrev pub invariant-loop-i : goal.invariant-loop-i
invariant-loop-i l = l.key.items ≡ length (filter (λ o. is_some o) l.partial) ∷ key_from 0 (take l.i l.partial)
