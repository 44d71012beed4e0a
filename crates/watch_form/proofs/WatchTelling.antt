-- What the lines behind a model call for and what is done for it go together.
use Rattle.std.proofs.Common.{◌≡◌, ℕ, ◌+◌, false, List, [], ◌∷◌, ◌++◌, Some, refl, sym, ap, subst, ◌∙◌}
use Rattle.cca_base.specs.Accepted.{CompiledModel}
use Rattle.line_forms.specs.Asked.{Effect, Sets, Asks, FollowsEffect, ServesEffect, Shown, Tells}
use Rattle.line_machine.specs.Next.{Next, GoesOn}
use Rattle.watch_lines.specs.declared.watch_event.WatchEvent.{WatchEvent}
use Rattle.watch_lines.specs.declared.watch_event.WatchEvent.TheVariants.{Sent, Observe, Reset, Tick}
use Rattle.window_laws.specs.Ticks as windows
use Rattle.window_laws.specs.Ticks.{Numbered, TrackerCall, TrackerState, Ticks, Tracks, start}
use Rattle.window_laws.specs.Trajectories.{Entry}
use Rattle.watch_form.specs.Answered.{answer_line, answers_text}
use Rattle.watch_form.specs.Calls.{Calls, IsSaid, FollowsBy, nothing_pending}
use Rattle.watch_form.specs.WatchMachine.{WatchState, ServesEvent, watch_lines}

module _ (b : CompiledModel) where
  -- the lines where the tracker stands so and this is pending
  abbrev pub at : TrackerState → Entry → WatchState
  at t x = record { compiled = b; state = t; pending = x }

  -- a call leads the tracker there, and this is printed of it
  abbrev pub Shows : TrackerState → TrackerCall → TrackerState → List ℕ → Type 0
  Shows t windows.Reset v text = (v ≡ start b.model t.ticks) × (text ≡ [])
  Shows t (windows.Tick entry) v text = (answer : windows.Answer) × Ticks b.model t entry v answer × (text ≡ answer_line b.model (record { tick = t.ticks + 1; answer = answer }))

  -- what an event comes to
  abbrev pub effect : WatchEvent → Entry → Effect Entry TrackerCall
  effect (Sent command) x = Sets (record { command = Some command; seen = x.seen })
  effect (Observe pairs) x = Sets (record { command = x.command; seen = x.seen ++ pairs })
  effect Reset x = Asks windows.Reset nothing_pending
  effect Tick x = Asks (windows.Tick x) nothing_pending

  abbrev pub Leads : WatchEvent → Entry → Effect Entry TrackerCall → Type 0
  Leads e x f = f ≡ effect e x

  pub leads_one : (e : WatchEvent) (x : Entry) (f g : Effect Entry TrackerCall) → Leads e x f → Leads e x g → f ≡ g
  leads_one e x f g h k = h ∙ sym k

  module _ (n : ℕ) (Later : Entry → Calls → Type 0) (a : Calls) where
    follows : (e : WatchEvent) (x : Entry) → FollowsEffect (effect e x) n Later a → FollowsBy b.model e x n Later a
    follows (Sent command) x h = h
    follows (Observe pairs) x h = h
    follows Reset x h = h
    follows Tick x h = h

    leads : (e : WatchEvent) (x : Entry) → FollowsBy b.model e x n Later a → FollowsEffect (effect e x) n Later a
    leads (Sent command) x h = h
    leads (Observe pairs) x h = h
    leads Reset x h = h
    leads Tick x h = h

  pub calls_lead : (e : WatchEvent) (x : Entry) (n : ℕ) (Later : Entry → Calls → Type 0) (a : Calls) → FollowsBy b.model e x n Later a → (f : Effect Entry TrackerCall) × Leads e x f × FollowsEffect f n Later a
  calls_lead e x n Later a h = (effect e x, refl, leads n Later a e x h)

  module _ (t : TrackerState) (n : ℕ) (u : Next WatchState) (text : List ℕ) (x : Entry) where
    -- what is done by what an event comes to
    abbrev Does : Effect Entry TrackerCall → Type 0
    Does f = ServesEffect false b.model at Shows f t n u text

    pub does : (e : WatchEvent) → ServesEvent e (at t x) u text → Does (effect e x)
    does (Sent command) h = h
    does (Observe pairs) h = h
    does Reset h = (start b.model t.ticks, (refl, h.1), h.0)
    does Tick (y, answer, (z, ticks, to), next, words) = (z, (answer, ticks, words), next ∙ ap (λ (w : WatchState). GoesOn w) to)

    serves : (e : WatchEvent) → Does (effect e x) → ServesEvent e (at t x) u text
    serves (Sent command) h = h
    serves (Observe pairs) h = h
    serves Reset (v, shows, next) = (next ∙ ap (λ (w : TrackerState). GoesOn (at w nothing_pending)) shows.0, shows.1)
    serves Tick (v, (answer, ticks, words), next) = (at v nothing_pending, answer, (v, ticks, refl), next, words)

  pub tells : Tells watch_lines false b.model at (IsSaid b.model) (FollowsBy b.model) Leads Shows (λ t x. Unit {0}) (λ t. [])
  tells = record {
    model = λ t x. refl;
    limit = λ t x. refl;
    words = λ t x. refl;
    closes = λ t x n. refl;
    says = λ t x l said tie h. h;
    said = λ t x l said tie h. h;
    follows = λ e x f n Later a h k. follows n Later a e x (subst (λ (z : Effect Entry TrackerCall). FollowsEffect z n Later a) h k);
    leads = λ e x n Later a h. calls_lead e x n Later a h;
    does = λ e t x n u text tie h. (effect e x, refl, does t n u text x e h);
    serves = λ e t x f n u text tie h k. serves t n u text x e (subst (λ (z : Effect Entry TrackerCall). ServesEffect false b.model at Shows z t n u text) h k);
    sets = λ e t x y tie h. tt;
    asks = λ e t v x y call text tie h k. tt;
  }

  -- the answers of a tracker are shown one behind the other
  pub tracks_shown : (calls : List TrackerCall) (t y : TrackerState) (answers : List Numbered) → Tracks b.model t calls y answers → Shown Shows t calls y (answers_text b.model answers)
  tracks_shown [] t y answers h = (h.0, ap (answers_text b.model) h.1)
  tracks_shown (windows.Reset ∷ calls) t y answers h = (start b.model t.ticks, [], answers_text b.model answers, (refl, refl), tracks_shown calls (start b.model t.ticks) y answers h, refl)
  tracks_shown (windows.Tick entry ∷ calls) t y answers (z, answer, others, ticks, behind, are) =
      (z, answer_line b.model (record { tick = t.ticks + 1; answer = answer }), answers_text b.model others, (answer, ticks, refl), tracks_shown calls z y others behind, ap (answers_text b.model) are)

  pub shown_tracks : (calls : List TrackerCall) (t y : TrackerState) (text : List ℕ) → Shown Shows t calls y text → (answers : List Numbered) × Tracks b.model t calls y answers × (text ≡ answers_text b.model answers)
  shown_tracks [] t y text h = ([], (h.0, refl), h.1)
  shown_tracks (windows.Reset ∷ calls) t y text (v, first, rest, shows, behind, parts) =
      let (answers, tracks, is) = shown_tracks calls v y rest behind in
      (answers, subst (λ (z : TrackerState). Tracks b.model z calls y answers) shows.0 tracks, parts ∙ ap (λ (z : List ℕ). z ++ rest) shows.1 ∙ is)
  shown_tracks (windows.Tick entry ∷ calls) t y text (v, first, rest, (answer, ticks, words), behind, parts) =
      let (others, tracks, is) = shown_tracks calls v y rest behind in
      let here : Numbered = record { tick = t.ticks + 1; answer = answer } in
      (here ∷ others, (v, answer, others, ticks, tracks, refl), parts ∙ (λ i. words i ++ is i))
