use Rattle.std.proofs.Common.{rules, ℕ, ◌+◌, ap, subst}
use Rattle.line_machine.specs.Next.{next_of}
use Rattle.line_machine.specs.Runs.{Transition}
use Rattle.line_machine.proofs.LineOutput.{appended_alone}
use Rattle.titan_session.specs.Sessions.{SessionState}
use Rattle.titan_session.proofs.session.Session.line.Goals.{in-None, in-Some}
use Rattle.titan_session.proofs.session.Session.line.Goals as goal

pub returns-clause-said : goal.returns-clause-said
returns-clause-said g c =
    let end = c.in_ok-end.end in
    let next = next_of c.take_line.new.machine end in
    let step = appended_alone (Transition g.M.Machine c.in-Going.machine _ c.args.line.now next) c.new-out.result c.take_line.new.out c.new-out.ensures.bytes c.in_ok-end.ensures.step in
    record {
      state = c.in-Going.machine;
      went_on = search rules;
      clean = c.requires.clean;
      next = next;
      text = c.take_line.new.out.bytes;
      step = subst (λ (n : ℕ). Transition g.M.Machine c.in-Going.machine (n + 1) c.args.line.now next c.take_line.new.out.bytes) (ap (λ (s : SessionState _). s.count) c.self.view_is) step;
      stands = elim c.match-end.branch [ in-None w ↦ search rules | in-Some w ↦ search rules ];
      waits = search rules;
      counts = search rules;
    }
