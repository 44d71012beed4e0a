use Rattle.std.proofs.Common.{List, ◌+◌, ◌-◌, drop, length, map, ap, subst, ◌∙◌, arith}
use Rattle.cca_base.specs.declared.state.State.{State}
use Rattle.trajectory_estimator.specs.Asked.{IsBestOf, entry_of, modes_of}
use Rattle.trajectory_estimator.specs.Tracked.{Tracked}
use Rattle.trajectory_estimator.proofs.Ticking.{found, next_few_ticks, still_tracker}
use Rattle.window_laws.specs.Ticks.{IsRevised, going}
use Rattle.trajectory_estimator.proofs.tracker.Tracker.tick.Goals as goal

pub revised_by-revised-requires-clause-some : goal.revised_by-revised-requires-clause-some
revised_by-revised-requires-clause-some c =
    let asked : IsBestOf c.args.self.now.compiled.model c.in_ok-next.next.anchor.modes (map entry_of c.in_ok-next.next.records) c.in_ok-best.best =
    subst (λ (t : Tracked). IsBestOf t.compiled.model c.in_ok-next.next.anchor.modes (map entry_of c.in_ok-next.next.records) c.in_ok-best.best) c.self.view_is c.in_ok-best.ensures.best in
    let best = rw c.in-Some.is at asked in
    let few = next_few_ticks c.self.invariant.0 c.self.view_is (entry_of c.args.entry) c.in_ok-next.next c.in_ok-next.ensures.next c.if-self.false c.in-Some.path.states c.in-Some.path.cost best in
    omega (arith, few.1, ap length c.as_slice-2.ensures)

pub revised_by-revised-requires-clause-few : goal.revised_by-revised-requires-clause-few
revised_by-revised-requires-clause-few c =
    let asked : IsBestOf c.args.self.now.compiled.model c.in_ok-next.next.anchor.modes (map entry_of c.in_ok-next.next.records) c.in_ok-best.best =
    subst (λ (t : Tracked). IsBestOf t.compiled.model c.in_ok-next.next.anchor.modes (map entry_of c.in_ok-next.next.records) c.in_ok-best.best) c.self.view_is c.in_ok-best.ensures.best in
    let best = rw c.in-Some.is at asked in
    let few = next_few_ticks c.self.invariant.0 c.self.view_is (entry_of c.args.entry) c.in_ok-next.next c.in_ok-next.ensures.next c.if-self.false c.in-Some.path.states c.in-Some.path.cost best in
    omega (arith, few.2, ap length c.as_slice-2.ensures, ap (λ (t : Tracked). t.state.ticks) c.self.view_is)

pub invariant_of-self-3 : goal.invariant_of-self-3
invariant_of-self-3 c =
    let asked : IsBestOf c.args.self.now.compiled.model c.in_ok-next.next.anchor.modes (map entry_of c.in_ok-next.next.records) c.in_ok-best.best =
    subst (λ (t : Tracked). IsBestOf t.compiled.model c.in_ok-next.next.anchor.modes (map entry_of c.in_ok-next.next.records) c.in_ok-best.best) c.self.view_is c.in_ok-best.ensures.best in
    let best = rw c.in-Some.is at asked in
    let read : List State = c.as_slice-2.result.now in
    let revises : IsRevised (c.args.self.now.state.ticks + 2 - length read) (drop (going c.args.self.now.state) c.args.self.now.state.last) (modes_of read) c.revised_by-revised.result =
    subst (λ (t : Tracked). IsRevised (t.state.ticks + 2 - length read) (drop (going t.state) t.state.last) (modes_of read) c.revised_by-revised.result) c.self.view_is c.revised_by-revised.ensures in (
      still_tracker c.self.invariant.0 c.self.view_is (entry_of c.args.entry) c.in_ok-next.next c.in_ok-next.ensures.next c.if-self.false c.in-Some.path c.in_ok-last.last c.revised_by-revised.result best
          (c.in_ok-last.ensures ∙ ap modes_of c.as_slice.ensures) read c.as_slice-2.ensures revises c.in_ok-next.ensures.good,
      c.in_ok-best.ensures.space,
    )

pub returns-clause-ok : goal.returns-clause-ok
returns-clause-ok c =
    let asked : IsBestOf c.args.self.now.compiled.model c.in_ok-next.next.anchor.modes (map entry_of c.in_ok-next.next.records) c.in_ok-best.best =
    subst (λ (t : Tracked). IsBestOf t.compiled.model c.in_ok-next.next.anchor.modes (map entry_of c.in_ok-next.next.records) c.in_ok-best.best) c.self.view_is c.in_ok-best.ensures.best in
    let best = rw c.in-Some.is at asked in
    let read : List State = c.as_slice-2.result.now in
    let revises : IsRevised (c.args.self.now.state.ticks + 2 - length read) (drop (going c.args.self.now.state) c.args.self.now.state.last) (modes_of read) c.revised_by-revised.result =
    subst (λ (t : Tracked). IsRevised (t.state.ticks + 2 - length read) (drop (going t.state) t.state.last) (modes_of read) c.revised_by-revised.result) c.self.view_is c.revised_by-revised.ensures in
    found c.self.invariant.0 c.self.view_is (entry_of c.args.entry) c.in_ok-next.next c.in_ok-next.ensures.next c.if-self.false c.in-Some.path c.in_ok-last.last c.revised_by-revised.result best
    (c.in_ok-last.ensures ∙ ap modes_of c.as_slice.ensures) read c.as_slice-2.ensures revises
