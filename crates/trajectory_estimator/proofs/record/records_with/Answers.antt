use Rattle.std.proofs.Common.{◌≡◌, ◌-◌, ◌++◌, ◌∷◌, [], List, length, drop, map, take, sym, ap, ◌∙◌, arith}
use Rattle.std.proofs.lemmas.List.{drop-map, length-drop, length-map, map-append, take_all}
use Rattle.trajectory_estimator.specs.Asked.{entry_of}
use Rattle.trajectory_estimator.specs.declared.record.Record.{Record}
use Rattle.window_laws.specs.Trajectories.{Entry}
use Rattle.trajectory_estimator.proofs.CopiedRecords.{copied_further}
use Rattle.trajectory_estimator.proofs.record.records_with.Goals as goal

pub loop-record-preserved : goal.loop-record-preserved
loop-record-preserved c =
    let records : List Record = c.args.records.now in
    let items : List Record = take (length records - c.args.gone) (drop c.args.gone records) in
    ap (map entry_of) c.in_ok-push.ensures.ok
    ∙ copied_further items c.loop-record.kept c.loop-record.record-index c.record-item.result c.in_ok-copy.field-0 c.loop-record-test.true c.loop-record.invariant
    (c.in_ok-copy.ensures ∙ ap (λ (r : Record). entry_of r) c.record-item.is)

pub returns : goal.returns
returns c =
    let records : List Record = c.args.records.now in
    let items : List Record = take (length records - c.args.gone) (drop c.args.gone records) in
    let all : items ≡ drop c.args.gone records = take_all (length records - c.args.gone) (drop c.args.gone records) (omega (arith, length-drop c.args.gone records)) in
    ap (map entry_of) c.in_ok-push-2.ensures.ok ∙ map-append entry_of c.loop-record.kept (c.args.entry ∷ [])
    ∙ ap (λ (l : List Entry). l ++ entry_of c.args.entry ∷ [])
    (c.loop-record.invariant ∙ take_all c.loop-record.record-index (map entry_of items) (omega (arith, c.loop-record-test.false, length-map items entry_of))
    ∙ ap (map entry_of) all ∙ sym (drop-map entry_of c.args.gone records))
