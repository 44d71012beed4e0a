use Rattle.line_machine.specs.Next.{Stops, next_of}
use Rattle.line_machine.specs.Runs.{MayPrint}
use Rattle.std.proofs.Common.{◌≡◌, refl, subst, sym}
use Rattle.line_machine.specs.Runs.{Transition}
use Rattle.line_machine.specs.declared.machine.End.TheVariants.{Refused}
use Rattle.line_machine.proofs.LineOutput.{appended_alone, sent_cut-map, front-cut, takes_refused, takes_step}
use Rattle.line_machine.proofs.line.take_line.Goals as goal

pub refuse-requires-clause-room : goal.refuse-requires-clause-room
refuse-requires-clause-room g c = c.requires.room _ (Stops Refused, takes_refused g.M.Machine c.args.machine.now c.limit.result c.args.number c.args.line.now c.limit.ensures.value c.in-Some.code _ c.in-Some.ensures.code refl)

pub returns-in-Err-clause-cut : goal.returns-in-Err-clause-cut
returns-in-Err-clause-cut g c =
    sent_cut-map (λ x. x ≡ g.M.Machine.refusal c.args.machine.now c.args.number c.in-Some.code) (MayPrint g.M.Machine c.args.machine.now c.args.number c.args.line.now) c.in-Err.cut _ _
    (λ x e. (Stops Refused, takes_refused g.M.Machine c.args.machine.now c.limit.result c.args.number c.args.line.now c.limit.ensures.value c.in-Some.code x c.in-Some.ensures.code e))
    c.in-Err.ensures.cut

pub send_out-requires : goal.send_out-requires
send_out-requires g c =
    let u = next_of c.step.new.self c.in-Ok-step.end in
    let steps = appended_alone (g.M.Machine.steps c.args.machine.now c.args.number c.args.line.now u) c.args.out.now c.step.new.out c.requires.empty c.in-Ok-step.ensures.steps in
    c.requires.room c.step.new.out.bytes (u, takes_step g.M.Machine c.args.machine.now c.limit.result c.args.number c.args.line.now c.limit.ensures.value u c.step.new.out.bytes c.in-None.ensures.code steps)

pub returns-in-Err-send_out-clause-cut : goal.returns-in-Err-send_out-clause-cut
returns-in-Err-send_out-clause-cut g c =
    let m = g.M.Machine in
    let s = c.args.machine.now in
    let u = next_of c.step.new.self c.in-Ok-step.end in
    let steps = appended_alone (m.steps s c.args.number c.args.line.now u) c.args.out.now c.step.new.out c.requires.empty c.in-Ok-step.ensures.steps in
    let takes = takes_step m s c.limit.result c.args.number c.args.line.now c.limit.ensures.value u c.step.new.out.bytes c.in-None.ensures.code steps in
    front-cut (λ x. x ≡ c.step.new.out.bytes) (MayPrint m s c.args.number c.args.line.now) c.in-Err-send_out.cut _ _
    (λ x e. (u, subst (Transition m s c.args.number c.args.line.now u) (sym e) takes))
    c.in-Err-send_out.ensures.cut c.in-Err-send_out.ensures.front
