use Rattle.std.proofs.Common.{◌≢◌, List, [], get_or, take, sym, subst}
use Rattle.std.proofs.lemmas.List.{get_or_default}
use Rattle.std.proofs.lemmas.List.Elements.{All-filter}
use Rattle.cca_base.specs.declared.cube.Pair.{Pair}
use Rattle.cca_base.specs.Cube.{Lacks}
use Rattle.cca_base.proofs.Trying.{lacks_at}
use Rattle.clash_analysis.specs.Subjects.{is_in}
use Rattle.consistency.proofs.minimal.cube_in.Goals as goal

abbrev none : Pair
none = record { item = 0; value = 0 }

pub push-requires : goal.push-requires
push-requires c =
    let xs : List Pair = c.args.pairs.now in
    let i = c.loop-pair.pair-index in
    let p : Pair = get_or xs i none in
    subst (Lacks p.item) (sym c.loop-pair.invariant)
    (All-filter (λ (q : Pair). is_in c.args.subjects.now q.item) (λ (q : Pair). q.item ≢ p.item) (take i xs) (lacks_at [] xs i p c.requires c.loop-pair-test.true (get_or_default xs i p none c.loop-pair-test.true)))
