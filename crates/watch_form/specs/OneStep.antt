-- A state and a line lead to one state and one text. The proofs stand here since a machine names them.
use Rattle.std.proofs.Common.{◌≡◌, ℕ, ◌+◌, List, Option, Some, Result, Ok, sym, ap, ◌∙◌, arith}
use Rattle.std.specs.Option.{is_some}
use Rattle.line_machine.specs.Next.{Next, GoesOn}
use Rattle.model_form.specs.OneStep.{AreOne}
use Rattle.watch_lines.proofs.OneWatchEvent.{watch_events_are_one}
use Rattle.watch_lines.specs.declared.watch_event.WatchEvent.{WatchEvent}
use Rattle.watch_lines.specs.declared.watch_event.WatchEvent.TheVariants.{Sent, Observe, Reset, Tick}
use Rattle.window_laws.specs.Ticks.{Answer}
use Rattle.window_laws.proofs.Tracked.{one_tick}
use Rattle.watch_form.specs.Answered.{answer_line}
use Rattle.watch_form.specs.WatchMachine.{WatchState, ServesEvent, WatchAwaits, tracking, watch_lines}

event_one : (e : WatchEvent) (x : WatchState) (u v : Next WatchState) (a c : List ℕ) → ServesEvent e x u a → ServesEvent e x v c → AreOne u v a c
event_one (Sent command) x u v a c h k = (h.0 ∙ sym k.0, h.1 ∙ sym k.1)
event_one (Observe pairs) x u v a c h k = (h.0 ∙ sym k.0, h.1 ∙ sym k.1)
event_one Reset x u v a c h k = (h.0 ∙ sym k.0, h.1 ∙ sym k.1)
event_one Tick x u v a c (y, answer, (z, ticks, to), next, text) (w, other, (q, also, too), last, words) =
    let same = one_tick x.compiled.model x.state z q x.pending answer other ticks also in (
      next ∙ ap (λ (s : WatchState). GoesOn s) (to ∙ ap (tracking x) same.0 ∙ sym too) ∙ sym last,
      text ∙ ap (λ (o : Answer). answer_line x.compiled.model (record { tick = x.state.ticks + 1; answer = o })) same.1 ∙ sym words,
    )

pub said_one : (x : WatchState) (l : List ℕ) (a b : Result (Option WatchEvent) ℕ) → watch_lines.said x l a → watch_lines.said x l b → a ≡ b
said_one x l a b h k = watch_events_are_one x.compiled.model x.pending.seen (is_some x.pending.command) l a b h k

pub serves_one : (e : WatchEvent) (x : WatchState) (l : List ℕ) (n : ℕ) (u v : Next WatchState) (a c : List ℕ) → watch_lines.said x l (Ok (Some e)) → ServesEvent e x u a → ServesEvent e x v c → AreOne u v a c
serves_one e x l n u v a c says h k = event_one e x u v a c h k

pub awaits_on : (x : WatchState) (n : ℕ) → WatchAwaits x n → WatchAwaits x (n + 1)
awaits_on x n h = omega (arith, h)
