-- What a line says fits the model and what is pending.
use Rattle.std.proofs.Common.{ℕ, Bool, List, Option, Some, None, Result, Ok, Err, inr, refl, sym, ap, subst, ◌∙◌}
use Rattle.std.specs.Prelude.{IfOk, IfSome}
use Rattle.cca_base.specs.declared.codes.TheConstants.{REPEATED_PAIR}
use Rattle.cca_base.specs.declared.cube.Pair.{Pair}
use Rattle.cca_base.specs.declared.events.Event.TheVariants as event
use Rattle.cca_base.specs.declared.events.Stop.{Stop}
use Rattle.cca_base.specs.PlantModel.{PlantModel}
use Rattle.cca_base.specs.Refusals.{Answers}
use Rattle.std.specs.Str.{bytes_eq}
use Rattle.script_reader.specs.EventLines.{as_event}
use Rattle.script_reader.specs.Items as scripts
use Rattle.script_reader.proofs.EventsMayCome.{event_comes}
use Rattle.script_reader.proofs.LinesSayItems.{item_said}
use Rattle.script_reader.proofs.TableOfCodes as table
use Rattle.std.proofs.lemmas.Bool.{false_from_ne_true}
use Rattle.std.proofs.lemmas.List.Quantifiers.{position-Some}
use Rattle.script_reader.specs.SaidLines.{Spells}
use Rattle.watch_lines.specs.Items.{Item, Sent, Observe, Reset, Tick, grammar}
use Rattle.watch_lines.specs.WatchEvents.{FitsWatch, IsTaken, IsWatchEventOf}
use Rattle.watch_lines.specs.declared.watch_event.WatchEvent.{WatchEvent}

module _ (m : PlantModel) (pending : List Pair) (sent : Bool) where
  item_fits : (line : List ℕ) (i : Item) (e : WatchEvent) → Spells grammar line i → IsTaken m pending sent i e → FitsWatch m pending sent e
  item_fits line (Sent command) e s ((k, h, is), none) =
      let there = position-Some (λ name. bytes_eq name command) m.commands k command h in
      subst (FitsWatch m pending sent) (sym is) (there.0, false_from_ne_true sent (λ t. none REPEATED_PAIR (inr (refl, t))))
  item_fits line (Observe pairs) e s ((qs, h, is), none) =
      let taken = (table.taken m pending 0 (scripts.Observe pairs) (event.Observe qs)).1 ((qs, h, refl), none) in
      let said = item_said m pending 0 line (scripts.Observe pairs) (s.0, s.1, s.2.0, s.2.1) ∙ ap as_event taken in
      subst (FitsWatch m pending sent) (sym is) (event_comes m pending 0 line (Some (event.Observe qs)) said)
  item_fits line Reset e s (is, none) = subst (FitsWatch m pending sent) (sym is) tt
  item_fits line Tick e s (is, none) = subst (FitsWatch m pending sent) (sym is) tt

  event_fits : (line : List ℕ) (o : Option WatchEvent) → IsWatchEventOf m pending sent line (Ok o) → IfSome o (FitsWatch m pending sent)
  event_fits line None h = tt
  event_fits line (Some e) (i, s, h) = item_fits line i e s h

  -- what a call answered fits
  pub answer_fits : (line : List ℕ) (r : Result (Option WatchEvent) Stop) → Answers r (IsWatchEventOf m pending sent line) → IfOk r (λ o. IfSome o (FitsWatch m pending sent))
  answer_fits line (Ok o) h = event_fits line o h
  answer_fits line (Err e) h = tt
