use Rattle.std.proofs.Common.{◌≡◌, ℕ, true, false, slice_index_or}
use Rattle.std.proofs.lemmas.List.Elements.{All-more}
use Rattle.list_laws.proofs.GoneThrough.{all_gone}
use Rattle.group_search.proofs.judge.all_stand.Goals as goal

pub loop-c-preserved : goal.loop-c-preserved
loop-c-preserved c =
    All-more (λ (x : ℕ). slice_index_or c.args.stands.now x false ≡ true) c.args.members.now c.loop-c.c-index 0 c.loop-c-test.true c.loop-c.invariant c.if-not-stands-c.false

pub returns-clause-yes : goal.returns-clause-yes
returns-clause-yes c _ = all_gone (λ (x : ℕ). slice_index_or c.args.stands.now x false ≡ true) c.args.members.now c.loop-c.c-index c.loop-c-test.false c.loop-c.invariant
