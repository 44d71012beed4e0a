-- Ticks.
use Rattle.std.proofs.Common.{◌≡◌, inl, inr, ℕ, ◌+◌, ◌-◌, ◌<◌, ◌≤◌, true, false, nat_lt, List, [], ◌∷◌, length, drop, get_or, Option, Some, None, refl, sym, ap, subst, ◌∙◌, arith}
use Rattle.std.proofs.lemmas.List.{length-append, length-drop}
use Rattle.std.proofs.lemmas.Bool.Decides.{nat_tests}
use Rattle.std.proofs.lemmas.Bool.{cases_Bool, cond-true, cond-false}
use Rattle.list_laws.proofs.Orders.{three_ways}
use Rattle.cca_base.specs.PlantModel.{PlantModel}
use Rattle.cca_base.specs.State.{IsState}
use Rattle.window_laws.specs.Trajectories.{Entry, Trajectory}
use Rattle.window_laws.specs.Ticks.{TrackerState, Answer, Found, Unexplained, Holding, Ticks, KeepsBest, window, going, next_anchor, next_records, IsRevised, start, TrackerCall, Tick, Reset, Numbered, Tracks}
use Rattle.window_laws.proofs.Paths.{one_best}

-- ---- what a tick keeps

first_state : (m : PlantModel) (anchor : List ℕ) (records : List Entry) (states : List (List ℕ)) (cost : ℕ) (d : List ℕ) → 0 < length records → Trajectory m anchor records states cost
    → IsState m (get_or states 0 d)
first_state m anchor [] states cost d some t = absurd (omega arith)
first_state m anchor (r ∷ records) [] cost d some t = absurd t
first_state m anchor (r ∷ records) (s ∷ states) cost d some (own, rest, consistent, tail, e) = consistent.costs.state

pub next_is_state : (m : PlantModel) (x : TrackerState) → KeepsBest m x → x.holding ≡ false → IsState m (next_anchor x)
next_is_state m x keeps awake =
    elim (cases_Bool (nat_lt (length x.records) window)) [
      | inl short ↦ subst (IsState m) (sym (cond-true (nat_lt (length x.records) window) x.anchor (get_or x.last 0 x.anchor) short)) keeps.anchor
      | inr full ↦ (let (cost, best) = keeps.best awake in
          let long : 0 < length x.records = grind (arith, nat_tests, full) in
          subst (IsState m) (sym (cond-false (nat_lt (length x.records) window) x.anchor (get_or x.last 0 x.anchor) full)) (first_state m x.anchor x.records x.last cost x.anchor long best.trajectory))
    ]

pub next_few : (x : TrackerState) (entry : Entry) → length x.records ≤ window → length (next_records x entry) ≤ window
next_few x entry few = omega (arith, length-append (drop (going x) x.records) (entry ∷ []), length-drop (going x) x.records)

pub ticks_keep : (m : PlantModel) (x y : TrackerState) (entry : Entry) (answer : Answer) → KeepsBest m x → Ticks m x entry y answer → KeepsBest m y
ticks_keep m x y entry (Found states cost revised) keeps t =
    let z : TrackerState = record { anchor = next_anchor x; records = next_records x entry; last = states; ticks = x.ticks + 1; holding = false } in
    let kept : KeepsBest m z = record {
      anchor = next_is_state m x keeps t.awake;
      few = next_few x entry keeps.few;
      best = λ e. (cost, t.best);
    } in
    subst (KeepsBest m) (sym t.after) kept
ticks_keep m x y entry Unexplained keeps (awake, none, after) =
    let z : TrackerState = record x { ticks = x.ticks + 1; holding = true } in
    let kept : KeepsBest m z = record { anchor = keeps.anchor; few = keeps.few; best = λ e. absurd (cc) } in
    subst (KeepsBest m) (sym after) kept
ticks_keep m x y entry Holding keeps (holds, after) =
    let z : TrackerState = record x { ticks = x.ticks + 1 } in
    let kept : KeepsBest m z = record { anchor = keeps.anchor; few = keeps.few; best = λ e. absurd (cc) } in
    subst (KeepsBest m) (sym after) kept

-- ---- a tick has one outcome

one_revised : (tick : ℕ) (old new : List (List ℕ)) (a b : Option ℕ) → IsRevised tick old new a → IsRevised tick old new b → a ≡ b
one_revised tick old new None None h k = refl
one_revised tick old new None (Some b) h (i, s, t, e, at, there, other, first) = absurd (other (h i s t at there))
one_revised tick old new (Some a) None (i, s, t, e, at, there, other, first) k = absurd (other (k i s t at there))
one_revised tick old new (Some a) (Some b) (i, s, t, e, at, there, other, first) (j, u, v, f, also, here, apart, before) =
    elim (three_ways i j) [
      | inl lt ↦ absurd (other (before i s t lt at there))
      | inr (inl same) ↦ ap Some (e ∙ ap (λ n. tick + n) same ∙ sym f)
      | inr (inr gt) ↦ absurd (apart (first j u v gt also here))
    ]

pub one_tick : (m : PlantModel) (x y z : TrackerState) (entry : Entry) (a b : Answer) → Ticks m x entry y a → Ticks m x entry z b → (y ≡ z) × (a ≡ b)
one_tick m x y z entry (Found states cost revised) (Found others more another) t u =
    let both = one_best m (next_anchor x) (next_records x entry) states others cost more t.best u.best in
    let tick = x.ticks + 2 - length (next_records x entry) in
    let again : IsRevised tick (drop (going x) x.last) others revised = subst (λ l. IsRevised tick (drop (going x) x.last) l revised) both.0 t.revises in
    let same : revised ≡ another = one_revised tick (drop (going x) x.last) others revised another again u.revises in
    let next : List (List ℕ) → TrackerState = λ l. record { anchor = next_anchor x; records = next_records x entry; last = l; ticks = x.ticks + 1; holding = false } in
    (t.after ∙ ap next both.0 ∙ sym u.after, (let s = both.0 in let c = both.1 in cc))
one_tick m x y z entry (Found states cost revised) Unexplained t (awake, none, after) = absurd (none states cost t.best.trajectory)
one_tick m x y z entry (Found states cost revised) Holding t (holds, after) = absurd (let o = t.awake in cc)
one_tick m x y z entry Unexplained (Found states cost revised) (awake, none, after) t = absurd (none states cost t.best.trajectory)
one_tick m x y z entry Unexplained Unexplained (awake, none, after) (also, nothing, behind) = (after ∙ sym behind, refl)
one_tick m x y z entry Unexplained Holding (awake, none, after) (holds, behind) = absurd (cc)
one_tick m x y z entry Holding (Found states cost revised) (holds, after) t = absurd (let o = t.awake in cc)
one_tick m x y z entry Holding Unexplained (holds, after) (awake, none, behind) = absurd (cc)
one_tick m x y z entry Holding Holding (holds, after) (also, behind) = (after ∙ sym behind, refl)

pub one_tracking : (m : PlantModel) (x y z : TrackerState) (calls : List TrackerCall) (a b : List Numbered) → Tracks m x calls y a → Tracks m x calls z b → (y ≡ z) × (a ≡ b)
one_tracking m x y z [] a b (e, f) (g, h) = (e ∙ sym g, f ∙ sym h)
one_tracking m x y z (Reset ∷ calls) a b t u = one_tracking m (start m x.ticks) y z calls a b t u
one_tracking m x y z (Tick entry ∷ calls) a b (v, answer, others, ticks, rest, e) (w, other, more, again, behind, f) =
    let (alike, same) = one_tick m x v w entry answer other ticks again in
    let (ends, lists) = one_tracking m v y z calls others more rest (subst (λ s. Tracks m s calls z more) (sym alike) behind) in
    (ends, e ∙ ap (λ (n : Answer). record { tick = x.ticks + 1; answer = n } ∷ others) same ∙ ap (λ l. record { tick = x.ticks + 1; answer = other } ∷ l) lists ∙ sym f)
