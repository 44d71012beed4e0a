-- `watch` prints what its lines call for, does what it means, and keeps it.
use Rattle.std.proofs.Common.{ℕ, false, List, refl, sym, subst}
use Rattle.std.specs.Option.{is_some}
use Rattle.line_forms.proofs.AskedForm.{AskedForm, asked_agrees, asked_keeps, asked_told}
use Rattle.line_forms.proofs.EndsRefused.{effect_refused}
use Rattle.line_forms.specs.Asked.{Shown}
use Rattle.line_machine.specs.Next.{Stops}
use Rattle.line_machine.specs.declared.machine.End.{End}
use Rattle.model_form.specs.FormMeaning.{FormAgrees, FormKeeps}
use Rattle.model_form.proofs.RefusedOnly.{IsRefused}
use Rattle.watch_lines.proofs.OneWatchEvent.{watch_events_are_one}
use Rattle.watch_lines.specs.declared.watch_event.WatchEvent.{WatchEvent}
use Rattle.window_laws.specs.Ticks.{TrackerCall, TrackerState, start}
use Rattle.window_laws.specs.Trajectories.{Entry}
use Rattle.watch_form.specs.Answered.{CallsText}
use Rattle.watch_form.specs.Calls.{IsSaid, FollowsBy, nothing_pending}
use Rattle.watch_form.specs.LeastCosts.{TellsLeast}
use Rattle.watch_form.specs.OneStep.{said_one, serves_one}
use Rattle.watch_form.specs.WatchLaws.{WatchIsTold}
use Rattle.watch_form.specs.WatchMachine.{WatchState, ServesEvent, watch_first, watch_lines}
use Rattle.watch_form.specs.WatchMeaning.{watch_meaning}
use Rattle.watch_form.proofs.WatchLeast.{costs_are_least}
use Rattle.watch_form.proofs.WatchTelling.{at, Shows, Leads, calls_lead, does, effect, leads_one, tells, tracks_shown, shown_tracks}

event_refused : (event : WatchEvent) (x : WatchState) (n : ℕ) (e : End) (text : List ℕ) → ServesEvent event x (Stops e) text → IsRefused e
event_refused event x n e text h =
    effect_refused false x.compiled.model (at x.compiled) (Shows x.compiled) (effect x.compiled event x.pending) x.state n e text (does x.compiled x.state n (Stops e) text x.pending event h)

-- its lines call a tracker, which answers by what it was called for before
abbrev calls : AskedForm WatchState WatchEvent Entry TrackerState TrackerCall
calls = record {
  lines = watch_lines;
  first = watch_first;
  place = λ b. start b.model 0;
  settings = λ b. nothing_pending;
  at = at;
  IsSaid = λ b. IsSaid b.model;
  Follows = λ b. FollowsBy b.model;
  Leads = Leads;
  Shows = Shows;
  Ties = λ b t x. Unit {0};
  Texts = CallsText;
  begins = λ b. refl;
  ties = λ b. tt;
  tells = λ b compiled. tells b;
  leads = λ b r s n Later a h. calls_lead b r s n Later a h;
  said_once = λ b s l x y h k. watch_events_are_one b.model s.seen (is_some s.command) l x y h k;
  one_effect = λ b r s f g h k. leads_one b r s f g h k;
  texts = λ b xs y text h. (let (answers, tracks, is) = shown_tracks b xs (start b.model 0) y text h in (y, answers, tracks, is));
  shown = λ b xs text h. (let (y, answers, tracks, is) = h in (y, subst (λ (z : List ℕ). Shown (Shows b) (start b.model 0) xs y z) (sym is) (tracks_shown b xs (start b.model 0) y answers tracks)));
  said_one = said_one;
  serves_one = serves_one;
  refused = event_refused;
  silent = λ x n. refl;
}

pub watch_is_told : WatchIsTold
watch_is_told = asked_told calls

pub watch_agrees : FormAgrees watch_meaning
watch_agrees = asked_agrees calls TellsLeast

pub watch_keeps : FormKeeps watch_meaning
watch_keeps = asked_keeps calls TellsLeast costs_are_least
