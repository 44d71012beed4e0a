-- What a control program puts in, and when it is said to have ended.
use Rattle.std.proofs.Common.{◌≡◌, ◌<◌, ◌≤◌, ◌↔◌, ◌⊎◌, inl, inr, ◌+◌, ◌&&◌, ℕ, Bool, true, false, cond, List, [], ◌∷◌, ◌++◌, filter, count_by, Option, Some, None, IsTrue, is_some, is_none, refl, sym, ap, subst, ◌∙◌, append_assoc, arith}
use Rattle.std.specs.Prelude.{option_to_list}
use Rattle.std.specs.Fmt.{digits}
use Rattle.std.proofs.lemmas.List.Elements.{filter-append}
use Rattle.std.proofs.lemmas.List.Sums.{sum_by-cons}
use Rattle.list_laws.proofs.Elements.{same_head, same_tail}
use Rattle.cca_base.specs.declared.cube.Pair.{Pair}
use Rattle.cca_base.specs.declared.events.Event.{Event}
use Rattle.cca_base.specs.declared.events.Event.TheVariants as event
use Rattle.cca_base.specs.declared.events.Shown.{Shown}
use Rattle.cca_base.specs.declared.events.Shown.TheVariants.{Estimated, Unexplained, Holding}
use Rattle.cca_base.specs.PlantModel.{PlantModel}
use Rattle.cca_base.specs.Trace.{ExecutiveState}
use Rattle.control_laws.specs.Rest.{Rest}
use Rattle.control_laws.specs.Turns.{Control, TurnsTo, fresh}
use Rattle.trace_laws.specs.Events.{IsTick}
use Rattle.trace_text.specs.Reports.{report_line}
use Rattle.program_form.specs.PutIn.{PutIn, PutsBefore, Sequencer, Told, TurnsBefore, asks, at_start, behind, behind_event, ends, estimate_after, is_holding}
use Rattle.program_form.specs.PutInLaws.{AsksGoal, TurnsAtStart, TurnsBetween, TurnsByReport, ResetsBeginAgain, OthersPass, is_no_reset, EndsInItsTurn, EndsOnce, KnownBehind, PutInSplits, sets_no_goal, OnlyGoalsArePut, TurnGoalIsInForce, DoneLines}

-- no list with a first pair is empty
filled : (p : Pair) (pairs : List Pair) → p ∷ pairs ≡ [] → ⊥
filled p pairs h = absurd (let never : p ∷ pairs ≡ [] = h in cc)

pub asks_goal : AsksGoal
asks_goal [] = (λ e. refl, λ h. absurd (let never : 0 < 0 = h in omega (arith, never)))
asks_goal (p ∷ pairs) = (λ e. absurd (filled p pairs e), λ h. refl)

pub turns_at_start : TurnsAtStart
turns_at_start m program full told (put, next, None, rest, others, puts, own, on, whole, list) = absurd (own tt)
turns_at_start m program full told (put, next, Some t, rest, others, (goal, turns, is), own, on, whole, list) =
    (goal, next, turns, whole ∙ (λ i. option_to_list (is i) ++ event.Tick ∷ on.0 i))

-- ---- two ticks

-- what stays as it is doesn't end
still : (o : Option Rest) → is_some o && is_none o ≡ false
still None = refl
still (Some x) = refl

-- the events of two ticks, with what is put in before each
two_ticks : (put second last : Option Event) (full rest more : List Event) → full ≡ option_to_list put ++ event.Tick ∷ rest → rest ≡ option_to_list second ++ event.Tick ∷ more → more ≡ [] → second ≡ last
    → full ≡ option_to_list put ++ event.Tick ∷ (option_to_list last ++ event.Tick ∷ [])
two_ticks put second last full rest more whole later none is =
    whole ∙ ap (λ (es : List Event). option_to_list put ++ event.Tick ∷ es) (later ∙ (λ i. option_to_list (is i) ++ event.Tick ∷ none i))

between : (m : PlantModel) (shown : Shown) (estimate : List ℕ) (y z : Control) (put second : Option Event) (full rest more : List Event) (ended : Bool)
    → TurnsBefore (is_holding shown) m (record { control = y; estimate = estimate_after estimate shown; holding = is_holding shown }) second z → ended ≡ ends y z
    → full ≡ option_to_list put ++ event.Tick ∷ rest → rest ≡ option_to_list second ++ event.Tick ∷ more → more ≡ [] → TurnsBetween m shown y (option_to_list put) full ended
between m (Estimated cost state reply) estimate y z put second full rest more ended (goal, turns, is) e whole later none =
    (goal, z, turns, two_ticks put second (Some (asks goal)) full rest more whole later none is, e)
between m Unexplained estimate y z put second full rest more ended (is, stays) e whole later none =
    (two_ticks put second None full rest more whole later none is, e ∙ ap (ends y) stays ∙ still y.left)
between m Holding estimate y z put second full rest more ended (is, stays) e whole later none =
    (two_ticks put second None full rest more whole later none is, e ∙ ap (ends y) stays ∙ still y.left)

pub turns_by_report : TurnsByReport
turns_by_report m x full a b (put, y, None, rest, others, puts, own, on, whole, list) = absurd (own tt)
turns_by_report m x full a b (put, y, Some t, rest, others, puts, own, (second, z, None, more, last, turns, said, end, later, tail), whole, list) = absurd (said tt)
turns_by_report m x full a b (put, y, Some t, rest, others, puts, own, (second, z, Some u, more, last, turns, said, end, later, tail), whole, list) =
    let one : a ≡ t = same_head a t (b ∷ []) others list in
    let two : b ≡ u = same_head b u [] last (same_tail a t (b ∷ []) others list ∙ tail) in
    let ends_so : b.ended ≡ ends y z = ap (λ (s : Told). s.ended) two ∙ said.1 in (
      put,
      y,
      puts,
      ap (λ (s : Told). s.ended) one ∙ own.1,
      subst (λ (s : Told). TurnsBetween m s.report.shown y (option_to_list put) full b.ended) (sym one)
          (between m t.report.shown x.estimate y z put second full rest more b.ended turns ends_so whole later end.0),
    )

pub resets_begin_again : ResetsBeginAgain
resets_begin_again m x events full told = (from_lines, λ h. (None, fresh x.control.program, None, h.0, told, (refl, refl), (λ t. t), h.2, h.1, refl))
  where
    from_lines : PutIn m x (event.Reset ∷ events) full told → (rest : List Event) × (full ≡ event.Reset ∷ rest) × PutIn m (at_start m x.control.program) events rest told
    from_lines (put, next, Some t, rest, others, puts, own, on, whole, list) = absurd own.0
    from_lines (put, next, None, rest, others, puts, own, on, whole, list) =
        (rest, whole ∙ ap (λ (p : Option Event). option_to_list p ++ event.Reset ∷ rest) puts.0, subst (λ (ts : List Told). PutIn m (at_start m x.control.program) events rest ts) (sym list) on)

nothing_put : (m : PlantModel) (e : Event) (x : Sequencer) (put : Option Event) (next : Control) → (IsTick e → ⊥) → PutsBefore m e x put next → put ≡ None
nothing_put m event.Tick x put next other h = absurd (other tt)
nothing_put m event.Reset x put next other h = h.0
nothing_put m (event.Goal pairs) x put next other h = h.0
nothing_put m event.Clear x put next other h = h.0
nothing_put m (event.Observe pairs) x put next other h = h.0
nothing_put m (event.Fault p) x put next other h = h.0
nothing_put m (event.Mirror v) x put next other h = h.0

passes : (m : PlantModel) (e : Event) (x : Sequencer) → (IsTick e → ⊥) → (e ≡ event.Reset → ⊥) → behind_event m e x ≡ x
passes m event.Tick x other unlike = refl
passes m event.Reset x other unlike = absurd (unlike refl)
passes m (event.Goal pairs) x other unlike = refl
passes m event.Clear x other unlike = refl
passes m (event.Observe pairs) x other unlike = refl
passes m (event.Fault p) x other unlike = refl
passes m (event.Mirror v) x other unlike = refl

pub others_pass : OthersPass
others_pass m x e events full told other (put, next, Some t, rest, others, puts, own, on, whole, list) = absurd (other own.0)
others_pass m x e events full told other (put, next, None, rest, others, puts, own, on, whole, list) =
    let later = subst (λ (ts : List Told). PutIn m (behind_event m e x) events rest ts) (sym list) on in (
      rest,
      whole ∙ ap (λ (p : Option Event). option_to_list p ++ e ∷ rest) (nothing_put m e x put next other puts),
      λ reset. subst (λ (d : Event). PutIn m (behind_event m d x) events rest told) reset later,
      λ unlike. subst (λ (z : Sequencer). PutIn m z events rest told) (passes m e x other unlike) later,
    )

-- ---- the end of a program

-- something was left, and nothing is
ended_as : (l r : Option Rest) → IsTrue (is_some l && is_none r) ↔ ((l ≡ None → ⊥) × (r ≡ None))
ended_as None r = (λ h. absurd (let never : false ≡ true = h in cc), λ h. absurd (h.0 refl))
ended_as (Some l) None = (λ h. (λ e. absurd (let never : Some l ≡ None = e in cc), refl), λ h. refl)
ended_as (Some l) (Some r) = (λ h. absurd (let never : false ≡ true = h in cc), λ h. absurd (let never : Some r ≡ None = h.1 in cc))

pub ends_in_its_turn : EndsInItsTurn
ends_in_its_turn m x events full t told (put, y, None, rest, others, puts, own, on, whole, list) = absurd (own tt)
ends_in_its_turn m x events full t told (put, y, Some u, rest, others, puts, own, on, whole, list) =
    let so : t.ended ≡ ends x.control y = ap (λ (s : Told). s.ended) (same_head t u told others list) ∙ own.1 in
    (put, y, rest, puts, whole, subst (λ (e : Bool). IsTrue e ↔ ((x.control.left ≡ None → ⊥) × (y.left ≡ None))) (sym so) (ended_as x.control.left y.left))

-- a tick with the program's end counts
abbrev one_if : Bool → ℕ
one_if ended = cond ended 1 0

-- how many are told with the program's end
abbrev ended_count : List Told → ℕ
ended_count told = count_by (λ t. t.ended) told

-- one at most, and none where nothing was left
abbrev Once : Control → List Told → Type 0
Once c told = (ended_count told ≤ 1) × (c.left ≡ None → ended_count told ≡ 0)

counted : (t : Told) (told : List Told) → ended_count (t ∷ told) ≡ one_if t.ended + ended_count told
counted t told = sum_by-cons (λ s. cond s.ended 1 0) t told

-- a turn of nothing leaves nothing
nothing_stays : (m : PlantModel) (e : List ℕ) (l : Option Rest) (asked : List Pair) (next : Option Rest) → TurnsTo m e l asked next → l ≡ None → next ≡ None
nothing_stays m e None asked next h none = h.1
nothing_stays m e (Some l) asked next h none = absurd (let never : Some l ≡ None = none in cc)

turn_stays : (holding : Bool) (m : PlantModel) (x : Sequencer) (put : Option Event) (next : Control) → TurnsBefore holding m x put next → x.control.left ≡ None → next.left ≡ None
turn_stays true m x put next (is, stays) none = ap (λ (c : Control). c.left) stays ∙ none
turn_stays false m x put next (goal, turns, is) none = ap (λ (c : Control). c.left) turns.after ∙ nothing_stays m x.estimate x.control.left turns.asked turns.next turns.turn none

tick_once : (ended : Bool) (c next : Control) (t : Told) (others : List Told) → t.ended ≡ ended → t.ended ≡ ends c next → (c.left ≡ None → next.left ≡ None) → Once next others → Once c (t ∷ others)
tick_once true c next t others is so stays h =
    let end = (ended_as c.left next.left).0 (sym so ∙ is) in
    let none : ended_count others ≡ 0 = h.1 end.1 in
    let one : one_if t.ended ≡ 1 = ap one_if is in
    (omega (arith, counted t others, none, one), λ l. absurd (end.0 l))
tick_once false c next t others is so stays h =
    let zero_here : one_if t.ended ≡ 0 = ap one_if is in
    let same : ended_count (t ∷ others) ≡ ended_count others = omega (arith, counted t others, zero_here) in
    (subst (λ k. k ≤ 1) (sym same) h.0, λ l. same ∙ h.1 (stays l))

-- an event that is no reset leaves all as it is, where it is no tick
stays_there : (m : PlantModel) (e : Event) (x : Sequencer) → IsTrue (is_no_reset e) → behind_event m e x ≡ x
stays_there m event.Reset x h = absurd (let never : false ≡ true = h in cc)
stays_there m event.Tick x h = refl
stays_there m (event.Goal pairs) x h = refl
stays_there m event.Clear x h = refl
stays_there m (event.Observe pairs) x h = refl
stays_there m (event.Fault p) x h = refl
stays_there m (event.Mirror v) x h = refl

-- before a tick stands a turn
turn_of : (e : Event) (m : PlantModel) (x : Sequencer) (put : Option Event) (next : Control) → IsTick e → PutsBefore m e x put next → TurnsBefore x.holding m x put next
turn_of event.Tick m x put next tick h = h
turn_of event.Reset m x put next tick h = absurd tick
turn_of (event.Goal pairs) m x put next tick h = absurd tick
turn_of event.Clear m x put next tick h = absurd tick
turn_of (event.Observe pairs) m x put next tick h = absurd tick
turn_of (event.Fault p) m x put next tick h = absurd tick
turn_of (event.Mirror v) m x put next tick h = absurd tick

pub ends_once : EndsOnce
ends_once m x [] full told (none, list) going = subst (Once x.control) (sym list) (omega arith, λ l. refl)
ends_once m x (e ∷ events) full told (put, next, Some t, rest, others, puts, own, on, whole, list) going =
    subst (Once x.control) (sym list) (tick_once t.ended x.control next t others refl own.1 (turn_stays x.holding m x put next (turn_of e m x put next own.0 puts)) (ends_once m (behind m e x next (Some t)) events rest others on going.1))
ends_once m x (e ∷ events) full told (put, next, None, rest, others, puts, own, on, whole, list) going =
    subst (Once x.control) (sym list) (subst (λ (s : Sequencer). Once s.control others) (stays_there m e x going.0) (ends_once m (behind_event m e x) events rest others on going.1))

-- ---- where events lead

-- nothing is left where nothing was left, or one is told with the program's end
abbrev LeftBy : Option Rest → Option Rest → List Told → Type 0
LeftBy l before told = (l ≡ None) ↔ ((before ≡ None) ⊎ (ended_count told ≡ 1))

left_at_first : (l : Option Rest) → LeftBy l l []
left_at_first l = (inl, at_first)
  where
    at_first : (l ≡ None) ⊎ (ended_count [] ≡ 1) → l ≡ None
    at_first (inl h) = h
    at_first (inr h) = absurd (let never : 0 ≡ 1 = h in omega (arith, never))

-- where nothing is left and no end is told, nothing was left
nothing_was : (l r : Option Rest) → is_some l && is_none r ≡ false → r ≡ None → l ≡ None
nothing_was None r h none = refl
nothing_was (Some l) None h none = absurd (let never : true ≡ false = h in cc)
nothing_was (Some l) (Some r) h none = absurd (let never : Some r ≡ None = none in cc)

left_behind : (c next : Control) (l : Option Rest) (t : Told) (early : List Told) → t.ended ≡ ends c next → (c.left ≡ None → next.left ≡ None) → Once next early → LeftBy l next.left early → LeftBy l c.left (t ∷ early)
left_behind c next l t early so stays once h = (λ k. there t.ended refl (h.0 k), λ k. h.1 (back t.ended refl k))
  where
    there : (e : Bool) → t.ended ≡ e → (next.left ≡ None) ⊎ (ended_count early ≡ 1) → (c.left ≡ None) ⊎ (ended_count (t ∷ early) ≡ 1)
    there true is k =
        let none : ended_count early ≡ 0 = once.1 ((ended_as c.left next.left).0 (sym so ∙ is)).1 in
        let one : one_if t.ended ≡ 1 = ap one_if is in
        inr (omega (arith, counted t early, none, one))
    there false is (inl k) = inl (nothing_was c.left next.left (sym so ∙ is) k)
    there false is (inr k) = let not_here : one_if t.ended ≡ 0 = ap one_if is in inr (omega (arith, counted t early, not_here, k))

    back : (e : Bool) → t.ended ≡ e → (c.left ≡ None) ⊎ (ended_count (t ∷ early) ≡ 1) → (next.left ≡ None) ⊎ (ended_count early ≡ 1)
    back e is (inl k) = inl (stays k)
    back true is (inr k) = inl ((ended_as c.left next.left).0 (sym so ∙ is)).1
    back false is (inr k) = let not_here : one_if t.ended ≡ 0 = ap one_if is in inr (omega (arith, counted t early, not_here, k))

-- a turn keeps the program
turn_keeps : (holding : Bool) (m : PlantModel) (x : Sequencer) (put : Option Event) (next : Control) → TurnsBefore holding m x put next → next.program ≡ x.control.program
turn_keeps true m x put next (is, stays) = ap (λ (c : Control). c.program) stays
turn_keeps false m x put next (goal, turns, is) = ap (λ (c : Control). c.program) turns.after

-- one event with what is put in before it, in front of the first of two parts
in_front : {A : Type 0} (put first last full rest : List A) (e : A) → full ≡ put ++ e ∷ rest → rest ≡ first ++ last → full ≡ (put ++ e ∷ first) ++ last
in_front put first last full rest e whole is = whole ∙ ap (λ es. put ++ e ∷ es) is ∙ sym (append_assoc put (e ∷ first) last)

told_in_front : (own early late told others : List Told) → told ≡ own ++ others → others ≡ early ++ late → told ≡ (own ++ early) ++ late
told_in_front own early late told others list is = list ∙ ap (λ ts. own ++ ts) is ∙ sym (append_assoc own early late)

pub put_in_splits : PutInSplits
put_in_splits m x [] events full told h going =
    (x, [], full, [], told, record { program = refl; estimate = refl; holding = refl; left = left_at_first x.control.left }, (refl, refl), h, refl, refl)
put_in_splits m x (e ∷ before) events full told (put, next, Some t, rest, others, puts, own, on, whole, list) going =
    let (y, first, last, early, late, leads, made, more, is, parts) = put_in_splits m (behind m e x next (Some t)) before events rest others on going.1 in
    let turn = turn_of e m x put next own.0 puts in
    let once : Once next early = ends_once m (behind m e x next (Some t)) before first early made going.1 in (
      y,
      option_to_list put ++ e ∷ first,
      last,
      t ∷ early,
      late,
      record {
        program = leads.program ∙ turn_keeps x.holding m x put next turn;
        estimate = leads.estimate;
        holding = leads.holding;
        left = left_behind x.control next y.control.left t early own.1 (turn_stays x.holding m x put next turn) once leads.left;
      },
      (put, next, Some t, first, early, puts, own, made, refl, refl),
      more,
      in_front (option_to_list put) first last full rest e whole is,
      told_in_front (t ∷ []) early late told others list parts,
    )
put_in_splits m x (e ∷ before) events full told (put, next, None, rest, others, puts, own, on, whole, list) going =
    let (y, first, last, early, late, leads, made, more, is, parts) = put_in_splits m (behind_event m e x) before events rest others on going.1 in (
      y,
      option_to_list put ++ e ∷ first,
      last,
      early,
      late,
      subst (λ (s : Sequencer). KnownBehind s y early) (stays_there m e x going.0) leads,
      (put, next, None, first, early, puts, own, made, refl, refl),
      more,
      in_front (option_to_list put) first last full rest e whole is,
      told_in_front [] early late told others list parts,
    )

-- ---- what is put in

-- what is put in is a goal, or it is cleared
abbrev PutsGoal : Option Event → Type 0
PutsGoal put = filter sets_no_goal (option_to_list put) ≡ []

goal_put : (goal : List Pair) → PutsGoal (Some (asks goal))
goal_put [] = refl
goal_put (p ∷ pairs) = refl

turn_put : (holding : Bool) (m : PlantModel) (x : Sequencer) (put : Option Event) (next : Control) → TurnsBefore holding m x put next → PutsGoal put
turn_put true m x put next (is, stays) = subst PutsGoal (sym is) refl
turn_put false m x put next (goal, turns, is) = subst PutsGoal (sym is) (goal_put goal)

puts_goal : (e : Event) (m : PlantModel) (x : Sequencer) (put : Option Event) (next : Control) → PutsBefore m e x put next → PutsGoal put
puts_goal event.Tick m x put next h = turn_put x.holding m x put next h
puts_goal event.Reset m x put next h = subst PutsGoal (sym h.0) refl
puts_goal (event.Goal pairs) m x put next h = subst PutsGoal (sym h.0) refl
puts_goal event.Clear m x put next h = subst PutsGoal (sym h.0) refl
puts_goal (event.Observe pairs) m x put next h = subst PutsGoal (sym h.0) refl
puts_goal (event.Fault p) m x put next h = subst PutsGoal (sym h.0) refl
puts_goal (event.Mirror v) m x put next h = subst PutsGoal (sym h.0) refl

-- an event that sets no goal stays
kept : (e : Event) (rest : List Event) → IsTrue (sets_no_goal e) → filter sets_no_goal (e ∷ rest) ≡ e ∷ filter sets_no_goal rest
kept e rest h = ap (λ k. cond k (e ∷ filter sets_no_goal rest) (filter sets_no_goal rest)) h

pub only_goals_are_put : OnlyGoalsArePut
only_goals_are_put m x [] full told (none, list) quiet = ap (filter sets_no_goal) none
only_goals_are_put m x (e ∷ events) full told (put, next, own, rest, others, puts, said, on, whole, list) quiet =
    ap (filter sets_no_goal) whole ∙ filter-append sets_no_goal (option_to_list put) (e ∷ rest) ∙ ap (λ (es : List Event). es ++ filter sets_no_goal (e ∷ rest)) (puts_goal e m x put next puts)
    ∙ kept e rest quiet.0 ∙ ap (λ (es : List Event). e ∷ es) (only_goals_are_put m (behind m e x next own) events rest others on quiet.1)

pub turn_goal_is_in_force : TurnGoalIsInForce
turn_goal_is_in_force b x y [] h = (λ e. ap (λ (s : ExecutiveState). s.goal) h, λ l. absurd (let never : 0 < 0 = l in omega (arith, never)))
turn_goal_is_in_force b x y (p ∷ pairs) (sorted, order, is) = (λ e. absurd (filled p pairs e), λ l. (sorted, order, ap (λ (s : ExecutiveState). s.goal) is))

pub done_lines : DoneLines
unfolding digits report_line
done_lines = record { done = refl; going = refl }
