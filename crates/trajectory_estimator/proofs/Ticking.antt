-- What a tick of a tracker makes.
use Rattle.std.proofs.Common.{◌≡◌, ◌<◌, ◌≤◌, ◌+◌, ◌-◌, ◌∷◌, ◌++◌, [], ℕ, false, List, Option, length, drop, map, take, All, refl, sym, ap, subst, ◌∙◌, arith, ◌≢◌, Some}
use Rattle.std.proofs.lemmas.List.{drop-map, length-append, length-drop, length-map, take_all}
use Rattle.std.specs.List.{slice_get}
use Rattle.std.specs.Option.{option_map}
use Rattle.std.proofs.lemmas.Option.{slice_get-map}
use Rattle.std.proofs.lemmas.List.Elements.{All-append, All-cons, All-drop, All-nil}
use Rattle.cca_base.specs.Accepted.{CompiledModel}
use Rattle.cca_base.specs.State.{IsState}
use Rattle.cca_base.specs.declared.state.State.{State}
use Rattle.clause_form.specs.declared.clause.Clauses.{Clauses}
use Rattle.trajectory_estimator.specs.Asked.{AreValues, entry_of, modes_of}
use Rattle.trajectory_estimator.specs.NextWindows.{IsNextWindow, IsWindowIn}
use Rattle.trajectory_estimator.specs.Queries.{IsTracker}
use Rattle.trajectory_estimator.specs.Tracked.{Tracked, TicksBy, stands}
use Rattle.trajectory_estimator.specs.declared.record.Record.{Record}
use Rattle.trajectory_estimator.specs.declared.next_window.NextWindow.{NextWindow}
use Rattle.trajectory_estimator.specs.declared.trajectory.Trajectory.{Trajectory}
use Rattle.trajectory_estimator.specs.declared.window.Window.TheVariants as windows
use Rattle.trajectory_estimator.proofs.Opening.{first_anchor, same_anchor, some_last}
use Rattle.window_laws.proofs.Paths.{length-trajectory}
use Rattle.window_laws.proofs.Tracked.{next_few, next_is_state, ticks_keep}
use Rattle.window_laws.specs.Ticks.{Found, IsRevised, Ticks, TrackerState, going, next_anchor, next_records}
use Rattle.window_laws.specs.Trajectories.{Best, Entry}

-- so many records go
pub gone_is : (records : List Record) (count gone : ℕ) (x : TrackerState) → x.records ≡ map entry_of records → count ≡ length records → gone ≡ (count + 1) - 8 → gone ≡ going x
gone_is records count gone x e f g = omega (arith, f, g, ap length e, length-map records entry_of)

-- the states of the last ticks that stay
last_left : (last : List State) (gone : ℕ) (x : TrackerState) → x.last ≡ modes_of last → gone ≡ going x → modes_of (take (length last - gone) (drop gone last)) ≡ drop (going x) x.last
last_left last gone x e f =
    ap modes_of (take_all (length last - gone) (drop gone last) (omega (arith, length-drop gone last)))
    ∙ sym (drop-map (λ (s : State). s.modes) gone last) ∙ ap (λ n. drop n (modes_of last)) f ∙ ap (drop (going x)) (sym e)

-- the parts of the next state make it
next_is : (x : TrackerState) (entry : Entry) (y : TrackerState) {states : List (List ℕ)} → y.anchor ≡ next_anchor x → y.records ≡ next_records x entry → y.last ≡ states → y.ticks ≡ x.ticks + 1
    → y.holding ≡ false → y ≡ record { anchor = next_anchor x; records = next_records x entry; last = states; ticks = x.ticks + 1; holding = false }
next_is x entry y {states} a r l t h =
    ap (λ n. record { anchor = n; records = y.records; last = y.last; ticks = y.ticks; holding = y.holding }) a
    ∙ ap (λ n. record { anchor = next_anchor x; records = n; last = y.last; ticks = y.ticks; holding = y.holding }) r
    ∙ ap (λ n. record { anchor = next_anchor x; records = next_records x entry; last = n; ticks = y.ticks; holding = y.holding }) l
    ∙ ap (λ n. record { anchor = next_anchor x; records = next_records x entry; last = states; ticks = n; holding = y.holding }) t
    ∙ ap (λ n. record { anchor = next_anchor x; records = next_records x entry; last = states; ticks = x.ticks + 1; holding = n }) h

-- a tracker that is seen so, and what is known of its next tick
module _ {b : CompiledModel} {worlds : Clauses} {changes : List (List (List (Option ℕ)))} {x : TrackerState} (its : IsTracker b worlds changes x) {now : Tracked}
    (same : record { compiled = b; state = x } ≡ now) where
  seen : x ≡ now.state
  seen = ap (λ (t : Tracked). t.state) same

  -- not more records go than there are, nor than the last trajectory has states
  pub going_within : (records : List Record) (gone : ℕ) → x.records ≡ map entry_of records → gone ≡ going now.state → gone ≤ length records
  going_within records gone e f = omega (arith, f, its.best.few, ap going seen, ap length e, length-map records entry_of)

  pub last_within : (last : List State) (gone : ℕ) → x.last ≡ modes_of last → now.state.holding ≡ false → gone ≡ going now.state → gone ≤ length last
  last_within last gone e awake f =
      let (cost, best) = its.best.best (ap (λ (y : TrackerState). y.holding) seen ∙ awake) in
      omega (arith, f, its.best.few, ap going seen, length-trajectory b.model x.anchor x.records x.last cost best.trajectory, ap length e, length-map last (λ (s : State). s.modes))

  -- where the next window begins: where no record goes, where this one does; else at the first state
  pub has_last : (last : List State) (gone : ℕ) → x.last ≡ modes_of last → now.state.holding ≡ false → gone ≡ going now.state → gone ≢ 0 → 0 < length last
  has_last last gone e awake f some =
      omega (arith, some_last b worlds changes x its (ap (λ (y : TrackerState). y.holding) seen ∙ awake) (λ none. some (f ∙ ap going (sym seen) ∙ none)), ap length e, length-map last (λ (s : State). s.modes))

  pub anchor_stays : (gone : ℕ) → gone ≡ going now.state → gone ≡ 0 → x.anchor ≡ next_anchor now.state
  anchor_stays gone f none = sym (same_anchor x (ap going seen ∙ sym f ∙ none)) ∙ ap next_anchor seen

  pub anchor_slides : (last : List State) (s : State) (gone : ℕ) → x.last ≡ modes_of last → gone ≡ going now.state → gone ≢ 0 → slice_get last 0 ≡ Some s → s.modes ≡ next_anchor now.state
  anchor_slides last s gone e f some here =
      sym (first_anchor x s.modes (λ none. some (f ∙ ap going (sym seen) ∙ none))
      (ap (λ l. slice_get l 0) e ∙ slice_get-map (λ (s : State). s.modes) last 0 ∙ ap (option_map (λ (s : State). s.modes)) here)) ∙ ap next_anchor seen

  -- what the states that stay are compared with
  pub revises_last : (last part states : List State) (gone tick : ℕ) (revised : Option ℕ) → x.last ≡ modes_of last → gone ≡ going now.state → 0 < length states → tick ≡ x.ticks + 1 - (length states - 1)
      → part ≡ take (length last - gone) (drop gone last)
      → IsRevised tick (modes_of part) (modes_of states) revised → IsRevised (now.state.ticks + 2 - length states) (drop (going now.state) now.state.last) (modes_of states) revised
  revises_last last part states gone tick revised e f some first is revises =
      let number : tick ≡ now.state.ticks + 2 - length states = omega (arith, first, some, ap (λ (y : TrackerState). y.ticks) seen) in
      let here : modes_of part ≡ drop (going now.state) now.state.last =
      ap modes_of is ∙ last_left last gone x e (f ∙ ap going (sym seen)) ∙ ap (λ (y : TrackerState). drop (going y) y.last) seen in
      subst (λ n. IsRevised n (drop (going now.state) now.state.last) (modes_of states) revised) number (subst (λ l. IsRevised tick l (modes_of states) revised) here revises)

  module _ (entry : Entry) where
    next_count : length (next_records x entry) + going x ≡ length x.records + 1
    next_count = omega (arith, its.best.few, length-append (drop (going x) x.records) (entry ∷ []), length-drop (going x) x.records)

    next_values : AreValues b.model entry → All (AreValues b.model) (next_records x entry)
    next_values own =
        All-append (AreValues b.model) (drop (going x) x.records) (entry ∷ []) (All-drop (AreValues b.model) (going x) x.records its.values)
        (All-cons (AreValues b.model) entry [] own (All-nil (AreValues b.model)))

    -- the parts of the next window
    pub window_is : (kept : List Record) (w : NextWindow) → x.records ≡ map entry_of kept → w.gone ≡ going now.state → w.anchor.modes ≡ next_anchor now.state
        → map entry_of w.records ≡ drop w.gone (map entry_of kept) ++ entry ∷ [] → IsNextWindow now.state entry w
    window_is kept w e gone anchor records = record {
      gone = gone;
      anchor = anchor;
      records = records ∙ ap (λ l. drop w.gone l ++ entry ∷ []) (sym e ∙ ap (λ (y : TrackerState). y.records) seen) ∙ ap (λ n. drop n now.state.records ++ entry ∷ []) gone;
    }

    -- it begins in a state and has a few records with values
    pub window_good : (w : NextWindow) → x.holding ≡ false → AreValues b.model entry → IsNextWindow now.state entry w → IsWindowIn b.model w
    window_good w awake own next =
        let records : map entry_of w.records ≡ next_records x entry = next.records ∙ ap (λ (y : TrackerState). next_records y entry) (sym seen) in
        record {
          state = subst (IsState b.model) (sym (next.anchor ∙ ap next_anchor (sym seen))) (next_is_state b.model x its.best awake);
          few = omega (arith, next_few x entry its.best.few, ap length records, length-map w.records entry_of);
          values = subst (All (AreValues b.model)) (sym records) (next_values own);
        }

    module _ (w : NextWindow) (next : IsNextWindow now.state entry w) (awake : x.holding ≡ false) where
      records_are : map entry_of w.records ≡ next_records x entry
      records_are = next.records ∙ ap (λ (y : TrackerState). next_records y entry) (sym seen)

      anchor_is : w.anchor.modes ≡ next_anchor x
      anchor_is = next.anchor ∙ ap next_anchor (sym seen)

      -- a window has one record at least, and no more than ticks were made
      pub next_few_ticks : (states : List State) (cost : ℕ) → Best now.compiled.model w.anchor.modes (map entry_of w.records) (modes_of states) cost
          → (length states ≡ length (next_records x entry)) × (0 < length states) × (length states ≤ x.ticks + 1)
      next_few_ticks states cost best =
          let long : length states ≡ length (next_records x entry) = sym (length-map states (λ (s : State). s.modes))
          ∙ length-trajectory now.compiled.model w.anchor.modes (map entry_of w.records) (modes_of states) cost best.trajectory ∙ ap length records_are in
          (long, omega (arith, long, next_count, its.best.few), omega (arith, long, next_count, its.ticks))

      -- the best trajectory is found, and the tracker goes on from the window
      module _ (path : Trajectory) (last : List State) (revised : Option ℕ) (best : Best now.compiled.model w.anchor.modes (map entry_of w.records) (modes_of path.states) path.cost)
          (copied : modes_of last ≡ modes_of path.states) (read : List State) (are : read ≡ path.states)
          (revises : IsRevised (now.state.ticks + 2 - length read) (drop (going now.state) now.state.last) (modes_of read) revised) where
        abbrev Next : TrackerState
        Next = stands w.anchor w.records last (x.ticks + 1) x.holding

        goes_on : Ticks b.model x entry Next (Found (modes_of path.states) path.cost revised)
        goes_on =
            let long = (next_few_ticks path.states path.cost best).0 in
            let back : now.state ≡ x = sym seen in
            record {
              awake = awake;
              best = subst (λ a. Best b.model a (next_records x entry) (modes_of path.states) path.cost) anchor_is
                  (subst (λ l. Best b.model w.anchor.modes l (modes_of path.states) path.cost) records_are
                  (subst (λ (t : Tracked). Best t.compiled.model w.anchor.modes (map entry_of w.records) (modes_of path.states) path.cost) (sym same) best));
              revises = subst (λ n. IsRevised n (drop (going x) x.last) (modes_of path.states) revised) (ap (λ n. x.ticks + 2 - n) long)
                  (subst (λ (y : TrackerState). IsRevised (y.ticks + 2 - length path.states) (drop (going y) y.last) (modes_of path.states) revised) back
                  (subst (λ (l : List State). IsRevised (now.state.ticks + 2 - length l) (drop (going now.state) now.state.last) (modes_of l) revised) are revises));
              after = next_is x entry Next anchor_is records_are copied refl awake;
            }

        pub found : TicksBy now entry (record { compiled = b; state = Next }) (windows.Found path revised)
        found = subst (λ (t : Tracked). TicksBy t entry (record { compiled = b; state = Next }) (windows.Found path revised)) same (record { compiled = refl; ticks = goes_on })

        -- a tick keeps what a tracker keeps
        pub still_tracker : IsWindowIn now.compiled.model w → IsTracker b worlds changes Next
        still_tracker good = record {
          compiled = its.compiled;
          clauses = its.clauses;
          costs = its.costs;
          values = subst (λ (t : Tracked). All (AreValues t.compiled.model) (map entry_of w.records)) (sym same) good.values;
          best = ticks_keep b.model x Next entry (Found (modes_of path.states) path.cost revised) its.best goes_on;
          ticks = omega (arith, its.ticks, ap length records_are, next_count);
        }
