-- Ticks by their numbers, and many calls.
use Rattle.std.proofs.Common.{◌≡◌, inl, inr, ℕ, zero, suc, ◌+◌, ◌≤◌, false, List, [], ◌∷◌, ◌++◌, length, drop, Option, Some, None, refl, sym, ap, subst, ◌∙◌, arith}
use Rattle.std.specs.Prelude.{slice_get, Contains}
use Rattle.std.proofs.lemmas.List.{length-append, length-drop}
use Rattle.std.proofs.lemmas.Option.{none-some}
use Rattle.list_laws.proofs.Members.{contains_cases}
use Rattle.cca_base.specs.PlantModel.{PlantModel}
use Rattle.cca_base.specs.State.{IsState, start_modes}
use Rattle.window_laws.specs.Trajectories.{Entry, IsEarlierPath, Best}
use Rattle.window_laws.specs.Ticks.{TrackerState, Answer, Found, Unexplained, Holding, Ticks, FindsBest, KeepsBest, going, next_anchor, next_records, start, TrackerCall, Tick, Reset, Numbered, Tracks}
use Rattle.window_laws.specs.TrackerLaws.{IsRevisedTick}
use Rattle.window_laws.proofs.Paths.{length-trajectory}
use Rattle.window_laws.proofs.Tracked.{next_is_state, next_few, ticks_keep}

tick_adds : (m : PlantModel) (x z : TrackerState) (entry : Entry) (a : Answer) → Ticks m x entry z a → z.ticks ≡ x.ticks + 1
tick_adds m x z entry (Found states cost revised) t = ap (λ (s : TrackerState). s.ticks) t.after
tick_adds m x z entry Unexplained t = ap (λ (s : TrackerState). s.ticks) t.2
tick_adds m x z entry Holding t = ap (λ (s : TrackerState). s.ticks) t.1

numbered : (n : ℕ) (first : Numbered) (others : List Numbered) → first.tick ≡ n + 1 → ((i : ℕ) (a : Numbered) → slice_get others i ≡ Some a → a.tick ≡ n + 2 + i)
    → (i : ℕ) (a : Numbered) → slice_get (first ∷ others) i ≡ Some a → a.tick ≡ n + 1 + i
numbered n first others e h zero a at = (let same : first ≡ a = cc in let t : first.tick ≡ a.tick = ap (λ (z : Numbered). z.tick) same in omega (arith, e, t))
numbered n first others e h (suc i) a at = omega (arith, h i a at)

pub numbers_go_on : (m : PlantModel) (x y : TrackerState) (calls : List TrackerCall) (answers : List Numbered) → Tracks m x calls y answers
    → (y.ticks ≡ x.ticks + length answers) × ((i : ℕ) (a : Numbered) → slice_get answers i ≡ Some a → a.tick ≡ x.ticks + 1 + i)
numbers_go_on m x y [] answers (e, f) = (
  (let t : y.ticks ≡ x.ticks = ap (λ (s : TrackerState). s.ticks) e in let l : length answers ≡ 0 = ap length f in omega (arith, t, l)),
  λ i a at. absurd (none-some a (subst (λ (l : List Numbered). slice_get l i ≡ Some a) f at)),
)
numbers_go_on m x y (Reset ∷ calls) answers t = numbers_go_on m (start m x.ticks) y calls answers t
numbers_go_on m x y (Tick entry ∷ calls) answers (z, answer, others, ticks, rest, e) =
    let (counts, each) = numbers_go_on m z y calls others rest in
    let one = tick_adds m x z entry answer ticks in
    let first : Numbered = record { tick = x.ticks + 1; answer = answer } in (
      (let l : length answers ≡ suc (length others) = ap length e in omega (arith, counts, one, l)),
      subst (λ (l : List Numbered). (i : ℕ) (a : Numbered) → slice_get l i ≡ Some a → a.tick ≡ x.ticks + 1 + i) (sym e)
          (numbered x.ticks first others refl (λ i a at. (let t = each i a at in omega (arith, t, one)))),
    )

pub nothing_to_revise : (m : PlantModel) (ticks : ℕ) (entry : Entry) (y : TrackerState) (states : List (List ℕ)) (cost : ℕ) (revised : Option ℕ)
    → Ticks m (start m ticks) entry y (Found states cost revised) → revised ≡ None
nothing_to_revise m ticks entry y states cost None t = refl
nothing_to_revise m ticks entry y states cost (Some r) t = (let (i, s, u, e, at, there, other, first) = t.revises in absurd (none-some s at))

later : (n i : ℕ) → suc (n + i) ≡ suc n + i
later n i = omega arith

get_behind : (n : ℕ) (l : List (List ℕ)) (i : ℕ) → slice_get (drop n l) i ≡ slice_get l (n + i)
get_behind zero l i = ap (slice_get l) (omega arith)
get_behind (suc n) [] i = refl
get_behind (suc n) (s ∷ l) i = get_behind n l i ∙ ap (slice_get (s ∷ l)) (later n i)

-- the lengths of a window and the next one
module _ (m : PlantModel) (x y : TrackerState) (entry : Entry) (states : List (List ℕ)) (cost : ℕ) (keeps : KeepsBest m x) (few : length x.records ≤ x.ticks) where
  longs : (revised : Option ℕ) → FindsBest m x entry y states cost revised → (length x.last ≡ length x.records) × (length states ≡ length (next_records x entry)) × (length states + going x ≡ length x.records + 1)
  longs revised f =
      let (c, best) = keeps.best f.awake in
      let a : length states ≡ length (next_records x entry) = length-trajectory m (next_anchor x) (next_records x entry) states cost f.best.trajectory in (
        length-trajectory m x.anchor x.records x.last c best.trajectory,
        a,
        omega (arith, a, keeps.few, length-append (drop (going x) x.records) (entry ∷ []), length-drop (going x) x.records),
      )

  abbrev Next : TrackerState
  Next = record { anchor = next_anchor x; records = next_records x entry; last = states; ticks = x.ticks + 1; holding = false }

  by_tick : (revised : Option ℕ) → FindsBest m x entry y states cost revised → IsRevisedTick x Next revised
  by_tick None f = λ tick s t (i, e, at) (j, g, there).
      let (a, b, c) = longs None f in
      let same : i ≡ going x + j = omega (arith, a, b, c, e, g, keeps.few) in
      f.revises j s t (get_behind (going x) x.last j ∙ ap (slice_get x.last) (sym same) ∙ at) there
  by_tick (Some r) f =
      let (a, b, c) = longs (Some r) f in
      let (i, s, t, e, at, there, other, first) = f.revises in (
        s,
        t,
        (going x + i, omega (arith, a, b, c, e, few), sym (get_behind (going x) x.last i) ∙ at),
        (i, omega (arith, a, b, c, e, few), there),
        other,
        λ tick u v below (k, p, here) (j, q, now).
            (let same : k ≡ going x + j = omega (arith, a, b, c, p, q, keeps.few) in
            first j u v (omega (arith, a, b, c, e, q, below, few)) (get_behind (going x) x.last j ∙ ap (slice_get x.last) (sym same) ∙ here) now),
      )

  pub revised_by_tick : (revised : Option ℕ) → FindsBest m x entry y states cost revised → IsRevisedTick x y revised
  revised_by_tick revised f = subst (λ (z : TrackerState). IsRevisedTick x z revised) (sym f.after) (by_tick revised f)

pub tracks_on : (m : PlantModel) (x y z : TrackerState) (calls more : List TrackerCall) (answers others : List Numbered)
    → Tracks m x calls y answers → Tracks m y more z others → Tracks m x (calls ++ more) z (answers ++ others)
tracks_on m x y z [] more answers others (e, f) t =
    subst (λ (l : List Numbered). Tracks m x more z (l ++ others)) (sym f) (subst (λ (s : TrackerState). Tracks m s more z others) e t)
tracks_on m x y z (Reset ∷ calls) more answers others h t = tracks_on m (start m x.ticks) y z calls more answers others h t
tracks_on m x y z (Tick entry ∷ calls) more answers others (w, answer, rest, ticks, behind, e) t =
    (w, answer, rest ++ others, ticks, tracks_on m w y z calls more rest others behind t, ap (λ (l : List Numbered). l ++ others) e)

none_earlier : (other : List (List ℕ)) → IsEarlierPath other [] → ⊥
none_earlier [] e = absurd (cc)
none_earlier (o ∷ other) e = absurd (cc)

pub start_keeps : (m : PlantModel) (ticks : ℕ) → IsState m (start_modes m) → KeepsBest m (start m ticks)
start_keeps m ticks is = record {
  anchor = is;
  few = omega arith;
  best = λ e. (
    0,
    record {
      trajectory = refl;
      least = λ other more t. omega arith;
      first = λ other t earlier. none_earlier other earlier;
    },
  );
}

abbrev IsSomeBest : PlantModel → List (List ℕ) → ℕ → Type 0
IsSomeBest m states cost = (anchor : List ℕ) × (records : List Entry) × IsState m anchor × (length records ≤ 8) × (length states ≡ length records) × Best m anchor records states cost

this_best : (m : PlantModel) (x z : TrackerState) (entry : Entry) (answer : Answer) → KeepsBest m x → Ticks m x entry z answer
    → (states : List (List ℕ)) (cost : ℕ) (revised : Option ℕ) → answer ≡ Found states cost revised → IsSomeBest m states cost
this_best m x z entry answer keeps t states cost revised is =
    let f : Ticks m x entry z (Found states cost revised) = subst (Ticks m x entry z) is t in (
      next_anchor x,
      next_records x entry,
      next_is_state m x keeps f.awake,
      next_few x entry keeps.few,
      length-trajectory m (next_anchor x) (next_records x entry) states cost f.best.trajectory,
      f.best,
    )

pub answers_are_best : (m : PlantModel) (x y : TrackerState) (calls : List TrackerCall) (answers : List Numbered) → IsState m (start_modes m) → KeepsBest m x → Tracks m x calls y answers
    → (a : Numbered) (states : List (List ℕ)) (cost : ℕ) (revised : Option ℕ) → Contains answers a → a.answer ≡ Found states cost revised → IsSomeBest m states cost
answers_are_best m x y [] answers at keeps (e, f) a states cost revised (k, below, here) is = absurd (let l : length answers ≡ 0 = ap length f in omega (arith, l, below))
answers_are_best m x y (Reset ∷ calls) answers at keeps t a states cost revised in_answers is =
    answers_are_best m (start m x.ticks) y calls answers at (start_keeps m x.ticks at) t a states cost revised in_answers is
answers_are_best m x y (Tick entry ∷ calls) answers at keeps (z, answer, others, ticks, rest, e) a states cost revised in_answers is =
    let first : Numbered = record { tick = x.ticks + 1; answer = answer } in
    elim (contains_cases first a others (subst (λ (l : List Numbered). Contains l a) e in_answers)) [
      | inl same ↦ this_best m x z entry answer keeps ticks states cost revised (ap (λ (n : Numbered). n.answer) same ∙ is)
      | inr later ↦ answers_are_best m z y calls others at (ticks_keep m x z entry answer keeps ticks) rest a states cost revised later is
    ]
