use Rattle.std.proofs.Common.{◌≡◌, subst}
use Rattle.line_machine.specs.Next.{GoesOn}
use Rattle.run_form.specs.ScriptMachine.{ScriptState, MakesEvent, after_event}
use Rattle.run_form.proofs.script.ScriptLineFormEventPlace.serve.Goals as goal

pub returns-clause-serves : goal.returns-clause-serves
returns-clause-serves c =
    let x = c.self.inside in
    let y = c.make.new.executive in
    let (report, acts, words, counts) = c.in_ok-make.ensures.acts in
    let old : ScriptState = record { notation = x.notation; compiled = x.executive.compiled; state = x.executive.state; counts = x.counts } in
    let new : ScriptState = record { notation = x.notation; compiled = y.compiled; state = y.state; counts = c.make.new.counts } in
    let goes : GoesOn new ≡ GoesOn (after_event old y.state report) = λ i. GoesOn (record { notation = x.notation; compiled = c.make.ensures.compiled i; state = y.state; counts = counts i }) in
    let is = subst (λ (z : ScriptState). MakesEvent c.args.item.now z (GoesOn new) words.text) c.self.view_is (y.state, report, acts, goes, words.is) in
    record { text = words.text; is = is; behind = words.behind }
