use Rattle.std.proofs.Common.{◌≡◌, ◌-◌, ℕ, length, refl, sym, ap, subst, ◌∙◌, arith}
use Rattle.std.proofs.lemmas.List.{length-map}
use Rattle.group_search.specs.Questions.{IsCut}
use Rattle.trajectory_estimator.specs.Asked.{Asked, entry_of}
use Rattle.trajectory_estimator.specs.PlaceLaws.{length-places}
use Rattle.trajectory_estimator.specs.Windows.{window_of}
use Rattle.trajectory_estimator.proofs.WindowClashes.{stand_all, stand_more}
use Rattle.trajectory_estimator.proofs.paths.WindowPathsPathsWindowSpace.clash.Goals.{then-gate_clash-via-then-gate_clash, then-gate_clash-via-else-gate_clash+then-shown_clash}
use Rattle.trajectory_estimator.proofs.paths.WindowPathsPathsWindowSpace.clash.Goals as goal

pub loop-done-init : goal.loop-done-init
loop-done-init c = record { space = c.requires.space; stand = λ whole at within late. absurd (omega arith); room = refl }

pub invariant_of-paths : goal.invariant_of-paths
invariant_of-paths c = record { full = c.requires.paths.places ∙ length-places c.args.self.now.query.now; stands = c.args.self.now.stands; named = c.requires.names }

pub returns-then-gate_clash-clause-cut : goal.returns-then-gate_clash-clause-cut
returns-then-gate_clash-clause-cut c _ =
    let q : Asked = c.args.self.now.query.now in
    elim c.then-gate_clash.branch [
      | then-gate_clash-via-then-gate_clash w ↦ subst (λ cut. IsCut (window_of q) cut.items) (sym w.cut-is) (c.gate_clash.ensures.clash w.if-gate_clash.true).clash
      | then-gate_clash-via-else-gate_clash+then-shown_clash w ↦ subst (λ cut. IsCut (window_of q) cut.items) (sym w.cut-is) (w.shown_clash.ensures.clash w.if-shown_clash.true).clash
    ]

pub loop-done-preserved : goal.loop-done-preserved
loop-done-preserved c =
    let q : Asked = c.args.self.now.query.now in
    let many : length c.records-count.result.now ≡ length q.records = sym (length-map c.records-count.result.now entry_of) ∙ ap length c.records-count.ensures.value in
    let done : ℕ = c.loop-done.done in
    let at : ℕ = length c.records-count.result.now - 1 - done in
    record {
      space = c.shown_clash.ensures.space;
      stand = stand_more q c.args.values.now c.args.names.now c.args.group done at (omega (arith, many, c.loop-done-test.true)) c.loop-done.invariant.stand (c.gate_clash.ensures.none c.if-gate_clash.false)
          (c.shown_clash.ensures.none c.if-shown_clash.false);
      room = c.shown_clash.ensures.room ∙ c.gate_clash.ensures.room ∙ c.loop-done.invariant.room;
    }

pub returns-clause-none : goal.returns-clause-none
returns-clause-none c =
    let q : Asked = c.args.self.now.query.now in
    let many : length c.records-count.result.now ≡ length q.records = sym (length-map c.records-count.result.now entry_of) ∙ ap length c.records-count.ensures.value in
    λ none. stand_all q c.args.values.now c.args.names.now c.args.group c.args.costs.now c.requires.paths c.loop-done.done (omega (arith, many, c.loop-done-test.false)) c.loop-done.invariant.stand
