use Rattle.std.proofs.Common.{◌≡◌, ℕ, List, length, Option, Some, MatchOption}
use Rattle.std.proofs.lemmas.Option.{MatchOption-at_some}
use Rattle.cca_base.specs.Relations.{IsEffectsFirstBy}
use Rattle.causal_graph.specs.Needs.{RowNeeds}
use Rattle.causal_graph.specs.Search.{HasStuck}
use Rattle.causal_graph.proofs.EffectsFirst.{effects_acyclic}
use Rattle.causal_graph.proofs.ordering.order.Goals as goal

in_order : (rows : List (List ℕ)) (list : List ℕ) (o : Option (List ℕ)) → o ≡ Some list → MatchOption o (HasStuck rows) (IsEffectsFirstBy (RowNeeds rows) (length rows))
    → IsEffectsFirstBy (RowNeeds rows) (length rows) list
in_order rows list o is h = MatchOption-at_some (HasStuck rows) (IsEffectsFirstBy (RowNeeds rows) (length rows)) list is h

pub returns-in-Some-clause-order : goal.returns-in-Some-clause-order
returns-in-Some-clause-order c =
    let takes = in_order c.args.needs.now c.in-Some.list c.in_ok-list.field-0 c.in-Some.is c.in_ok-list.ensures in
    (effects_acyclic c.args.needs.now c.in-Some.list c.requires.rows takes, takes)

pub returns-in-Some-clause-acyclic : goal.returns-in-Some-clause-acyclic
returns-in-Some-clause-acyclic c =
    let takes = in_order c.args.needs.now c.in-Some.list c.in_ok-list.field-0 c.in-Some.is c.in_ok-list.ensures in
    (λ is. effects_acyclic c.args.needs.now c.in-Some.list c.requires.rows takes, λ acyclic. tt)

pub returns-in_ok-shown_cycle-in-None-clause-acyclic : goal.returns-in_ok-shown_cycle-in-None-clause-acyclic
returns-in_ok-shown_cycle-in-None-clause-acyclic c =
    let shown = c.in_ok-shown_cycle-in-None.ensures in
    (λ is. absurd is, λ acyclic. acyclic shown.first (shown.cycle.between, shown.cycle.needs))
