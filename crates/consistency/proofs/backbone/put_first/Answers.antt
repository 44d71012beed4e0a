use Rattle.std.proofs.Common.{ℕ, List, sym, subst}
use Rattle.world_search.specs.Worlds.{IsSolution}
use Rattle.consistency.proofs.PairLaws.{has_none}
use Rattle.consistency.proofs.backbone.put_first.Goals as goal

pub unreachable-requires : goal.unreachable-requires
unreachable-requires c = c.requires.some (λ xs world. c.in-Clash.ensures.answer xs (subst (λ (b : List ℕ). IsSolution c.args.problem.now.clauses b xs) (sym c.ask.ensures.base) world) (λ p among _. has_none xs p among))
