use Rattle.std.proofs.Common.{◌≡◌, length, get_or, true, sym, ap, subst, ◌∙◌}
use Rattle.cca_base.specs.Model.{WellFormed}
use Rattle.successors.specs.Choices.{AreLeast}
use Rattle.trajectory_estimator.specs.Changes.{AreChangesOf}
use Rattle.trajectory_estimator.specs.Walks.{record_at}
use Rattle.trajectory_estimator.proofs.GateCosts.{read_command, sent_open}
use Rattle.trajectory_estimator.proofs.leaving.Leaving.of.Goals as goal
use Rattle.window_laws.specs.Columns.{Sends}

pub row-requires-clause-mode : goal.row-requires-clause-mode
unfolding AreChangesOf
row-requires-clause-mode c = (c.changes.ensures c.args.component c.args.from c.requires.mode).mode

pub row-requires-clause-component : goal.row-requires-clause-component
unfolding AreChangesOf
row-requires-clause-component c = (c.changes.ensures c.args.component c.args.from c.requires.mode).component

pub returns-clause-leaving : goal.returns-clause-leaving
unfolding AreChangesOf
returns-clause-leaving c =
    let q = c.args.query.now in
    let n = c.args.component in
    let from = c.args.from in
    let m = c.model.result.now in
    let has = c.changes.ensures n from c.requires.mode in
    let command = (get_or c.records.result.now c.args.at c.index-records-at.result).command in
    let read : command ≡ (record_at q c.args.at).command = read_command q c.args.at c.records.result.now c.index-records-at.result c.records.ensures.value c.requires.at in
    let sent : Sends m n command true from c.unwrap_or.result =
    sent_open m n command from c.own_target-own.result c.unwrap_or.result c.own_target-own.ensures.some c.own_target-own.ensures.none c.unwrap_or.ensures in
    record {
      model = subst WellFormed c.model.ensures.value c.own_target-own.ensures.well_formed;
      mode = c.requires.mode;
      sends = subst (λ z. Sends z n (record_at q c.args.at).command true from c.unwrap_or.result) c.model.ensures.value (subst (λ k. Sends m n k true from c.unwrap_or.result) read sent);
      full = ap length c.row.ensures ∙ has.full;
      least = subst (AreLeast q.model.failures n from) (sym c.row.ensures) has.least;
    }
