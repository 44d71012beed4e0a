-- Each printed line of a window tells a least cost.
use Rattle.std.proofs.Common.{◌≡◌, inl, inr, ℕ, ◌+◌, ◌-◌, ◌<◌, false, List, [], ◌∷◌, ◌++◌, length, map, get_or, Some, refl, sym, ap, subst, ◌∙◌, arith}
use Rattle.std.specs.List.{slice_get}
use Rattle.std.specs.Option.{option_map}
use Rattle.std.proofs.Math.Seq.{get_or-append_seam}
use Rattle.std.proofs.lemmas.List.{length-append, length-map}
use Rattle.std.proofs.lemmas.List.Folds.{flat_map-map}
use Rattle.std.proofs.lemmas.Option.{slice_get-get_or, slice_get-map}
use Rattle.cca_base.proofs.StartLaws.{start_state}
use Rattle.cca_base.specs.Accepted.{CompiledModel, IsCompiled}
use Rattle.cca_base.specs.PlantModel.{PlantModel}
use Rattle.cca_base.specs.State.{IsState, start_modes}
use Rattle.line_machine.specs.declared.machine.End.{End}
use Rattle.model_form.specs.LinesEnds.{ending}
use Rattle.model_form.proofs.Following.{answer_follows}
use Rattle.trace_text.specs.WindowLines.{window_line}
use Rattle.window_laws.specs.LatestTicks.{ticks_among}
use Rattle.window_laws.specs.Ticks as windows
use Rattle.window_laws.specs.Ticks.{Found, Unexplained, Holding, Numbered, TrackerCall, TrackerState, Tracks, Ticks, start}
use Rattle.window_laws.specs.Trajectories.{Entry, Trajectory}
use Rattle.window_laws.proofs.Paths.{length-trajectory}
use Rattle.window_laws.proofs.Since.{best_behind, counts_ticks, tracks_split}
use Rattle.window_laws.proofs.Windows.{shows_latest}
use Rattle.watch_form.specs.Answered.{SaysWatch, answer_line, last_modes}
use Rattle.watch_form.specs.LeastCosts.{SaysLeast, TellsTick, TellsTicks}
use Rattle.watch_form.specs.WatchLaws.{CostsAreLeast}

-- the last of some states
last_is : (states before : List (List ℕ)) (s : List ℕ) → states ≡ before ++ s ∷ [] → last_modes states ≡ s
last_is states before s parts =
    let at : length states - 1 ≡ length before = omega (arith, ap length parts, length-append before (s ∷ [])) in
    ap (λ n. get_or states n []) at ∙ ap (λ (l : List (List ℕ)). get_or l (length before) []) parts ∙ get_or-append_seam before s [] []

-- the line of an answer
tells_tick : (m : PlantModel) (front : List TrackerCall) (entry : Entry) (x y : TrackerState) (earlier : List Numbered) (answer : windows.Answer) (tick : ℕ) → IsState m (start_modes m)
    → Tracks m (start m 0) front x earlier → Ticks m x entry y answer → TellsTick m (front ++ windows.Tick entry ∷ []) tick (answer_line m (record { tick = tick; answer = answer }))
tells_tick m front entry x y earlier (Found states cost revised) tick is t found =
    let (ticks, since, (anchor, records, answers, latest, state, before, begins, best)) = best_behind m 0 front entry x y earlier states cost revised is t found in
    let (path, s, parts, shows) = shows_latest m x y entry states cost revised found in
    inl (record {
      ticks = ticks;
      since = since;
      records = records;
      latest = latest;
      anchor = anchor;
      state = state;
      answers = answers;
      before = before;
      begins = begins;
      modes = s;
      cost = cost;
      least = record { before = path; trajectory = subst (λ l. Trajectory m anchor records l cost) parts best.trajectory; least = best.least };
      revised = revised;
      is = ap (λ n. window_line m tick n cost (last_modes states) revised) (length-trajectory m anchor records states cost best.trajectory)
          ∙ ap (λ l. window_line m tick (length records) cost l revised) (last_is states path s parts);
    })
tells_tick m front entry x y earlier Unexplained tick is t ticks = inr (inl refl)
tells_tick m front entry x y earlier Holding tick is t ticks = inr (inr refl)

module _ (m : PlantModel) (is : IsState m (start_modes m)) (calls : List TrackerCall) (y : TrackerState) (answers : List Numbered) (tracks : Tracks m (start m 0) calls y answers) where
  tells_each : (front back : List TrackerCall) (entry : Entry) → calls ≡ front ++ (windows.Tick entry ∷ back)
      → (line : List ℕ) × (slice_get (map (answer_line m) answers) (ticks_among front) ≡ Some line) × TellsTick m (front ++ windows.Tick entry ∷ []) (ticks_among front + 1) line
  tells_each front back entry e =
      let (x, earlier, others, one, (z, answer, rest, ticks, behind, f), lists) = tracks_split m (start m 0) y front (windows.Tick entry ∷ back) answers (subst (λ l. Tracks m (start m 0) l y answers) e tracks) in
      let counts = counts_ticks m (start m 0) x front earlier one in
      let a : Numbered = record { tick = x.ticks + 1; answer = answer } in
      let number : x.ticks ≡ ticks_among front = omega (arith, counts.1) in
      let all : answers ≡ earlier ++ (a ∷ rest) = lists ∙ ap (λ l. earlier ++ l) f in
      let within : length earlier < length answers = omega (arith, ap length all, length-append earlier (a ∷ rest)) in
      let here : slice_get answers (ticks_among front) ≡ Some a =
      ap (slice_get answers) (sym counts.0) ∙ slice_get-get_or answers (length earlier) a within
      ∙ ap Some (ap (λ (l : List Numbered). get_or l (length earlier) a) all ∙ get_or-append_seam earlier a rest a) in (
        answer_line m a,
        slice_get-map (answer_line m) answers (ticks_among front) ∙ ap (option_map (answer_line m)) here,
        subst (λ n. TellsTick m (front ++ windows.Tick entry ∷ []) (n + 1) (answer_line m a)) number
            (tells_tick m front entry x z earlier answer (x.ticks + 1) is one ticks),
      )

  tells_ticks : TellsTicks m calls (map (answer_line m) answers)
  tells_ticks = record { all = length-map answers (answer_line m) ∙ (counts_ticks m (start m 0) y calls answers tracks).0; each = tells_each }

says_least : (b : CompiledModel) (n : ℕ) (ls : List (List ℕ)) (e : End) (text : List ℕ) → IsCompiled b → SaysWatch b n ls e text → SaysLeast b n ls e text
says_least b n ls e text compiled (r, told, reads, (y, answers, tracks, words), ends, parts) = (
  r,
  map (answer_line b.model) answers,
  reads,
  tells_ticks b.model (start_state b.model compiled.accepted.well_formed) r.items y answers tracks,
  ends,
  parts ∙ ap (λ l. l ++ (ending b.model r.ending).text) (words ∙ sym (flat_map-map (λ (line : List ℕ). line) (answer_line b.model) answers)),
)

pub costs_are_least : CostsAreLeast
costs_are_least input a is = answer_follows false SaysWatch SaysLeast says_least input a.end a.text is
