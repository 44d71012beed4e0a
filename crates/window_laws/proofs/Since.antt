-- The window of a tick, by the ticks since a start.
use Rattle.std.proofs.Common.{◌≡◌, inl, inr, ℕ, suc, ◌+◌, ◌<◌, ◌≤◌, true, false, nat_lt, List, [], ◌∷◌, ◌++◌, length, map, get_or, Option, refl, sym, ap, subst, ◌∙◌, arith, append-nil}
use Rattle.std.specs.Prelude.{Contains}
use Rattle.std.proofs.lemmas.List.{append_assoc, length-append, map-append}
use Rattle.std.proofs.lemmas.Bool.Decides.{nat_tests}
use Rattle.std.proofs.lemmas.Bool.{cond-false}
use Rattle.list_laws.proofs.Members.{contains_cases}
use Rattle.cca_base.specs.PlantModel.{PlantModel}
use Rattle.cca_base.specs.State.{IsState, start_modes}
use Rattle.window_laws.specs.Trajectories.{Entry, Best}
use Rattle.window_laws.specs.Ticks.{TrackerState, Answer, Found, Unexplained, Holding, Ticks, KeepsBest, window, next_anchor, next_records, start, TrackerCall, Tick, Reset, Numbered, Tracks}
use Rattle.window_laws.specs.LatestTicks.{IsToStart, AnswersBefore, AreSince, AreLatest, BeginsLast, IsAnchorOf, IsAnswered, ticks_among}
use Rattle.window_laws.proofs.Latest.{keeps_latest}
use Rattle.window_laws.proofs.Paths.{length-trajectory}
use Rattle.window_laws.proofs.TickNumbers.{numbers_go_on, start_keeps, tracks_on}
use Rattle.window_laws.proofs.Tracked.{next_is_state, ticks_keep}

-- ---- parts of calls

-- calls that go on from others begin with these
pub tracks_split : (m : PlantModel) (x z : TrackerState) (calls more : List TrackerCall) (answers : List Numbered) → Tracks m x (calls ++ more) z answers
    → (y : TrackerState) × (first others : List Numbered) × Tracks m x calls y first × Tracks m y more z others × (answers ≡ first ++ others)
tracks_split m x z [] more answers t = (x, [], answers, (refl, refl), t, refl)
tracks_split m x z (Reset ∷ calls) more answers t = tracks_split m (start m x.ticks) z calls more answers t
tracks_split m x z (Tick entry ∷ calls) more answers (w, answer, rest, ticks, behind, e) =
    let (y, first, others, one, two, parts) = tracks_split m w z calls more rest behind in
    let a : Numbered = record { tick = x.ticks + 1; answer = answer } in
    (y, a ∷ first, others, (w, answer, first, ticks, one, refl), two, e ∙ ap (λ l. a ∷ l) parts)

-- calls have a last start
since_start : (calls : List TrackerCall) → (entries : List Entry) × AreSince calls entries
since_start [] = ([], ([], inl refl, refl))
since_start (Reset ∷ calls) = (let (entries, (before, starts, parts)) = since_start calls in
    (entries, (Reset ∷ before, behind before starts, ap (λ l. Reset ∷ l) parts)))
  where
    behind : (before : List TrackerCall) → IsToStart before → IsToStart (Reset ∷ before)
    behind before (inl none) = inr ([], ap (λ l. Reset ∷ l) none)
    behind before (inr (front, e)) = inr (Reset ∷ front, ap (λ l. Reset ∷ l) e)
since_start (Tick entry ∷ calls) = (let (entries, (before, starts, parts)) = since_start calls in further entries before starts parts)
  where
    further : (entries : List Entry) (before : List TrackerCall) → IsToStart before → calls ≡ before ++ map Tick entries → (all : List Entry) × AreSince (Tick entry ∷ calls) all
    further entries before (inl none) parts = (entry ∷ entries, ([], inl refl, ap (λ l. Tick entry ∷ l) (parts ∙ ap (λ l. l ++ map Tick entries) none)))
    further entries before (inr (front, e)) parts = (entries, (Tick entry ∷ before, inr (Tick entry ∷ front, ap (λ l. Tick entry ∷ l) e), ap (λ l. Tick entry ∷ l) parts))

-- behind them the tracker is at the start
pub at_start : (m : PlantModel) (ticks : ℕ) (before : List TrackerCall) (x : TrackerState) (others : List Numbered) → IsToStart before → Tracks m (start m ticks) before x others
    → x ≡ start m (ticks + length others)
at_start m ticks before x others (inl none) t =
    let (e, f) = subst (λ l. Tracks m (start m ticks) l x others) none t in
    e ∙ ap (start m) (omega (arith, ap length f))
at_start m ticks before x others (inr (front, e)) t =
    let (w, first, last, one, (same, none), parts) = tracks_split m (start m ticks) x front (Reset ∷ []) others (subst (λ l. Tracks m (start m ticks) l x others) e t) in
    same ∙ ap (start m) (omega (arith, (numbers_go_on m (start m ticks) w front first one).0, ap length parts, ap length none, length-append first last))

-- ---- the window of the last tick

tracks_keep : (m : PlantModel) (x y : TrackerState) (calls : List TrackerCall) (answers : List Numbered) → IsState m (start_modes m) → KeepsBest m x → Tracks m x calls y answers → KeepsBest m y
tracks_keep m x y [] answers at keeps (e, f) = subst (KeepsBest m) (sym e) keeps
tracks_keep m x y (Reset ∷ calls) answers at keeps t = tracks_keep m (start m x.ticks) y calls answers at (start_keeps m x.ticks at) t
tracks_keep m x y (Tick entry ∷ calls) answers at keeps (z, answer, others, ticks, rest, e) = tracks_keep m z y calls others at (ticks_keep m x z entry answer keeps ticks) rest

-- the answer to the last tick, where the tracker isn't holding behind it
abbrev EndsWith : List Numbered → List (List ℕ) → Type 0
EndsWith answers states = (others : List Numbered) × (tick cost : ℕ) × (revised : Option ℕ) × (answers ≡ others ++ record { tick = tick; answer = Found states cost revised } ∷ [])

last_found : (m : PlantModel) (x y : TrackerState) (entry : Entry) (entries : List Entry) (answers : List Numbered) → Tracks m x (map Tick (entry ∷ entries)) y answers → y.holding ≡ false → EndsWith answers y.last
last_found m x y entry (next ∷ entries) answers (z, answer, others, ticks, rest, e) awake =
    let (first, tick, cost, revised, parts) = last_found m z y next entries others rest awake in
    let a : Numbered = record { tick = x.ticks + 1; answer = answer } in
    (a ∷ first, tick, cost, revised, e ∙ ap (λ l. a ∷ l) parts)
last_found m x y entry [] answers (z, Found states cost revised, others, ticks, (same, none), e) awake =
    let last : states ≡ y.last = sym (ap (λ (s : TrackerState). s.last) (same ∙ ticks.after)) in (
      [],
      x.ticks + 1,
      cost,
      revised,
      e ∙ ap (λ (l : List Numbered). record { tick = x.ticks + 1; answer = Found states cost revised } ∷ l) none
          ∙ ap (λ (l : List (List ℕ)). record { tick = x.ticks + 1; answer = Found l cost revised } ∷ []) last,
    )
last_found m x y entry [] answers (z, Unexplained, others, ticks, (same, none), e) awake =
    absurd (let f : true ≡ false = sym (ap (λ (s : TrackerState). s.holding) (same ∙ ticks.2)) ∙ awake in cc)
last_found m x y entry [] answers (z, Holding, others, ticks, (same, none), e) awake =
    absurd (let f : true ≡ false = sym (ap (λ (s : TrackerState). s.holding) (same ∙ ticks.1) ∙ ticks.0) ∙ awake in cc)

-- the first of some states
begins : (answers : List Numbered) (states : List (List ℕ)) (d : List ℕ) → 0 < length states → EndsWith answers states → BeginsLast answers (get_or states 0 d)
begins answers [] d some ends = absurd (omega arith)
begins answers (s ∷ states) d some (others, tick, cost, revised, parts) = (others, tick, states, cost, revised, parts)

module _ (m : PlantModel) (ticks : ℕ) (is : IsState m (start_modes m)) (entries : List Entry) (entry : Entry) (x y : TrackerState) (earlier : List Numbered)
    (tracks : Tracks m (start m ticks) (map Tick entries) x earlier) (states : List (List ℕ)) (cost : ℕ) (revised : Option ℕ) (found : Ticks m x entry y (Found states cost revised)) where
  -- the ticks with the last one
  with_last : Tracks m (start m ticks) (map Tick (entries ++ entry ∷ [])) y (earlier ++ record { tick = x.ticks + 1; answer = Found states cost revised } ∷ [])
  with_last = subst (λ l. Tracks m (start m ticks) l y (earlier ++ record { tick = x.ticks + 1; answer = Found states cost revised } ∷ [])) (sym (map-append Tick entries (entry ∷ [])))
      (tracks_on m (start m ticks) x y (map Tick entries) (Tick entry ∷ []) earlier (record { tick = x.ticks + 1; answer = Found states cost revised } ∷ []) tracks
      (y, Found states cost revised, [], found, (refl, refl), refl))

  -- a window that has slid
  slid_anchor : (all : List Entry) → all ≡ entries → window ≤ length all → BeginsLast earlier (next_anchor x)
  slid_anchor [] same full = absurd (omega arith)
  slid_anchor (first ∷ rest) same full =
      let keeps : KeepsBest m x = tracks_keep m (start m ticks) x (map Tick entries) earlier is (start_keeps m ticks is) tracks in
      let (kept, best) = keeps.best found.awake in
      let (gone, count, anchor) = keeps_latest m ticks entries x earlier tracks found.awake in
      let eight : length x.records ≡ 8 = omega (arith, count, full, ap length same) in
      let long : 0 < length x.last = omega (arith, eight, length-trajectory m x.anchor x.records x.last kept best.trajectory) in
      let shut : nat_lt (length x.records) window ≡ false = grind (arith, nat_tests, eight) in
      subst (BeginsLast earlier) (sym (cond-false (nat_lt (length x.records) window) x.anchor (get_or x.last 0 x.anchor) shut))
      (begins earlier x.last x.anchor long (last_found m (start m ticks) x first rest earlier (subst (λ l. Tracks m (start m ticks) (map Tick l) x earlier) (sym same) tracks) found.awake))

  latest_best : (anchor : List ℕ) × (records : List Entry) × AreLatest (entries ++ entry ∷ []) records × IsState m anchor × IsAnchorOf m (entries ++ entry ∷ []) earlier anchor × Best m anchor records states cost
  latest_best =
      let awake : y.holding ≡ false = ap (λ (s : TrackerState). s.holding) found.after in
      let ((gone, parts), count, first) = keeps_latest m ticks (entries ++ entry ∷ []) y (earlier ++ record { tick = x.ticks + 1; answer = Found states cost revised } ∷ []) with_last awake in
      let records : y.records ≡ next_records x entry = ap (λ (s : TrackerState). s.records) found.after in
      let anchor : y.anchor ≡ next_anchor x = ap (λ (s : TrackerState). s.anchor) found.after in (
        next_anchor x,
        next_records x entry,
        record { gone = gone; parts = parts ∙ ap (λ l. gone ++ l) records; count = sym (ap length records) ∙ count },
        next_is_state m x (tracks_keep m (start m ticks) x (map Tick entries) earlier is (start_keeps m ticks is) tracks) found.awake,
        record {
          at_start = λ few. sym anchor ∙ first few;
          slid = λ long. slid_anchor entries refl (omega (arith, long, length-append entries (entry ∷ [])));
        },
        found.best,
      )

-- ---- the tick of an answer

-- the calls before the tick of an answer, and those behind it
pub record IsTickOf (m : PlantModel) (x y : TrackerState) (calls : List TrackerCall) (answers : List Numbered) (a : Numbered) : Type 0 where
  pub front : List TrackerCall
  pub back : List TrackerCall
  pub entry : Entry
  pub at : TrackerState
  pub to : TrackerState
  pub earlier : List Numbered
  pub later : List Numbered
  pub calls_are : calls ≡ front ++ (Tick entry ∷ back)
  pub answers_are : answers ≡ earlier ++ (a ∷ later)
  pub tracks : Tracks m x front at earlier
  pub ticks : Ticks m at entry to a.answer
  pub number : a ≡ record { tick = at.ticks + 1; answer = a.answer }

tick_of : (m : PlantModel) (x y : TrackerState) (calls : List TrackerCall) (answers : List Numbered) → Tracks m x calls y answers → (a : Numbered) → Contains answers a → IsTickOf m x y calls answers a
tick_of m x y [] answers (e, f) a (k, below, here) = absurd (let l : length answers ≡ 0 = ap length f in omega (arith, l, below))
tick_of m x y (Reset ∷ calls) answers t a among =
    let o = tick_of m (start m x.ticks) y calls answers t a among in
    record {
      front = Reset ∷ o.front;
      back = o.back;
      entry = o.entry;
      at = o.at;
      to = o.to;
      earlier = o.earlier;
      later = o.later;
      calls_are = ap (λ l. Reset ∷ l) o.calls_are;
      answers_are = o.answers_are;
      tracks = o.tracks;
      ticks = o.ticks;
      number = o.number;
    }
tick_of m x y (Tick entry ∷ calls) answers (z, answer, others, ticks, rest, e) a among =
    let first : Numbered = record { tick = x.ticks + 1; answer = answer } in
    elim (contains_cases first a others (subst (λ (l : List Numbered). Contains l a) e among)) [
      | inl same ↦ record {
        front = [];
        back = calls;
        entry = entry;
        at = x;
        to = z;
        earlier = [];
        later = others;
        calls_are = refl;
        answers_are = e ∙ ap (λ (n : Numbered). n ∷ others) same;
        tracks = (refl, refl);
        ticks = subst (Ticks m x entry z) (ap (λ (n : Numbered). n.answer) same) ticks;
        number = sym same ∙ ap (λ (n : Numbered). record { tick = x.ticks + 1; answer = n.answer }) same;
      }
      | inr later ↦ (let o = tick_of m z y calls others rest a later in record {
        front = Tick entry ∷ o.front;
        back = o.back;
        entry = o.entry;
        at = o.at;
        to = o.to;
        earlier = first ∷ o.earlier;
        later = o.later;
        calls_are = ap (λ l. Tick entry ∷ l) o.calls_are;
        answers_are = e ∙ ap (λ l. first ∷ l) o.answers_are;
        tracks = (z, answer, o.earlier, ticks, o.tracks, refl);
        ticks = o.ticks;
        number = o.number;
      })
    ]

-- the calls, the answers and the ticks since the start, put together
put_calls : (front before back : List TrackerCall) (entries : List Entry) (entry : Entry) → front ≡ before ++ map Tick entries
    → front ++ (Tick entry ∷ back) ≡ (before ++ map Tick (entries ++ entry ∷ [])) ++ back
put_calls front before back entries entry e =
    ap (λ l. l ++ (Tick entry ∷ back)) e
    ∙ sym (append_assoc (before ++ map Tick entries) (Tick entry ∷ []) back)
    ∙ ap (λ l. l ++ back) (append_assoc before (map Tick entries) (Tick entry ∷ []) ∙ ap (λ l. before ++ l) (sym (map-append Tick entries (entry ∷ []))))

pub answers_are_of_latest : (m : PlantModel) (ticks : ℕ) (y : TrackerState) (calls : List TrackerCall) (answers : List Numbered) → IsState m (start_modes m) → Tracks m (start m ticks) calls y answers
    → (a : Numbered) (states : List (List ℕ)) (cost : ℕ) (revised : Option ℕ) → Contains answers a → a.answer ≡ Found states cost revised
    → (entries : List Entry) × (earlier : List Numbered) × IsAnswered m ticks calls answers entries earlier a
    × ((anchor : List ℕ) × (records : List Entry) × AreLatest entries records × IsState m anchor × IsAnchorOf m entries earlier anchor × Best m anchor records states cost)
answers_are_of_latest m ticks y calls answers is t a states cost revised among answer =
    let o = tick_of m (start m ticks) y calls answers t a among in
    let (entries, (before, starts, parts)) = since_start o.front in
    let (x, others, earlier, one, two, lists) = tracks_split m (start m ticks) o.at before (map Tick entries) o.earlier (subst (λ l. Tracks m (start m ticks) l o.at o.earlier) parts o.tracks) in
    let same : x ≡ start m (ticks + length others) = at_start m ticks before x others starts one in
    let since : Tracks m (start m (ticks + length others)) (map Tick entries) o.at earlier = subst (λ s. Tracks m s (map Tick entries) o.at earlier) same two in
    let found : Ticks m o.at o.entry o.to (Found states cost revised) = subst (Ticks m o.at o.entry o.to) answer o.ticks in
    let number : a ≡ record { tick = o.at.ticks + 1; answer = Found states cost revised } = o.number ∙ ap (λ (n : Answer). record { tick = o.at.ticks + 1; answer = n }) answer in (
      entries ++ o.entry ∷ [],
      earlier,
      record {
        before = before;
        after = o.back;
        others = others;
        later = o.later;
        starts = starts;
        calls_are = o.calls_are ∙ put_calls o.front before o.back entries o.entry parts;
        answers_are = o.answers_are ∙ ap (λ l. l ++ (a ∷ o.later)) lists;
        first = subst (λ s. Tracks m (start m ticks) before s others) same one;
        since = (
          o.to,
          subst (λ (n : Numbered). Tracks m (start m (ticks + length others)) (map Tick (entries ++ o.entry ∷ [])) o.to (earlier ++ n ∷ [])) (sym number)
              (with_last m (ticks + length others) is entries o.entry o.at o.to earlier since states cost revised found),
        );
      },
      latest_best m (ticks + length others) is entries o.entry o.at o.to earlier since states cost revised found,
    )

-- the same behind any calls from the start on, in the words of the calls
pub best_behind : (m : PlantModel) (ticks : ℕ) (front : List TrackerCall) (entry : Entry) (x y : TrackerState) (earlier : List Numbered) (states : List (List ℕ)) (cost : ℕ) (revised : Option ℕ)
    → IsState m (start_modes m) → Tracks m (start m ticks) front x earlier → Ticks m x entry y (Found states cost revised)
    → (entries : List Entry) × AreSince (front ++ Tick entry ∷ []) entries
    × ((anchor : List ℕ) × (records : List Entry) × (answers : List Numbered) × AreLatest entries records × IsState m anchor × AnswersBefore m entries answers × IsAnchorOf m entries answers anchor × Best m anchor records states cost)
best_behind m ticks front entry x y earlier states cost revised is t found =
    let (entries, (before, starts, parts)) = since_start front in
    let (w, others, since, one, two, lists) = tracks_split m (start m ticks) x before (map Tick entries) earlier (subst (λ l. Tracks m (start m ticks) l x earlier) parts t) in
    let again : Tracks m (start m (ticks + length others)) (map Tick entries) x since = subst (λ s. Tracks m s (map Tick entries) x since) (at_start m ticks before w others starts one) two in
    let (anchor, records, latest, state, begins, best) = latest_best m (ticks + length others) is entries entry x y since again states cost revised found in (
      entries ++ entry ∷ [],
      (before, starts, put_calls front before [] entries entry parts ∙ append-nil (before ++ map Tick (entries ++ entry ∷ []))),
      (anchor, records, since, latest, state, record { before = entries; last = entry; parts = refl; ticks = ticks + length others; state = x; tracks = again }, begins, best),
    )

-- each tick has its answer and its number
pub counts_ticks : (m : PlantModel) (x y : TrackerState) (calls : List TrackerCall) (answers : List Numbered) → Tracks m x calls y answers
    → (length answers ≡ ticks_among calls) × (y.ticks ≡ x.ticks + ticks_among calls)
counts_ticks m x y calls answers t =
    let count = counts calls x answers t in
    (count, (numbers_go_on m x y calls answers t).0 ∙ ap (λ n. x.ticks + n) count)
  where
    counts : (calls : List TrackerCall) (x : TrackerState) (answers : List Numbered) → Tracks m x calls y answers → length answers ≡ ticks_among calls
    counts [] x answers (e, f) = ap length f
    counts (Reset ∷ calls) x answers t = counts calls (start m x.ticks) answers t
    counts (Tick entry ∷ calls) x answers (z, answer, others, ticks, rest, e) = ap length e ∙ ap suc (counts calls z others rest)
