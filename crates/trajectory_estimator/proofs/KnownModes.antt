-- Modes before a record, and pairs that blame them.
use Rattle.std.proofs.Common.{◌≡◌, inl, inr, ℕ, zero, suc, ◌<◌, ◌+◌, ◌-◌, ◌*◌, ◌++◌, ◌∷◌, [], Bool, true, false, ◌||◌, ◌==◌, List, length, map, drop, get_or-take, get_or-drop, slice_get, slice_index, Some, Contains, refl, sym, ap, subst, ◌∙◌, arith}
use Rattle.std.proofs.lemmas.Bool.{eqb-true, or_cases}
use Rattle.std.proofs.lemmas.List.{length-map}
use Rattle.std.proofs.lemmas.List.Elements.{All-append, All-cons, All-contains, All-nil}
use Rattle.std.proofs.lemmas.Option.{get_or_from_slice_get, slice_get-get_or}
use Rattle.list_laws.proofs.Elements.{all_left, all_right}
use Rattle.cca_base.specs.declared.cube.Pair.{Pair}
use Rattle.cca_base.specs.State.{Extends}
use Rattle.group_search.specs.Questions.{in_group}
use Rattle.trajectory_estimator.specs.Asked.{Asked, entry_of}
use Rattle.trajectory_estimator.specs.Clashes.{AreOwn, Blames, IsCutWith, IsGateOf, IsKnown, SaysMore, knows}
use Rattle.trajectory_estimator.specs.PlaceLaws.{IsOwnPlace, gate_own, length-places, mode_own}
use Rattle.trajectory_estimator.specs.Walks.{gate_place, mode_before, mode_place, places}
use Rattle.trajectory_estimator.specs.Windows.{state_at, state_before, window_of}
use Rattle.trajectory_estimator.specs.declared.before.Before.{Before}
use Rattle.trajectory_estimator.specs.declared.group_paths.GroupPaths.{GroupPaths}
use Rattle.trajectory_estimator.specs.declared.record.Record.{Record}

-- a mode of the state behind a record stands at its place
pub state_place : (q : Asked) (values : List ℕ) (at c : ℕ) → c < length q.model.components → slice_index (state_at q values at) c ≡ slice_index values (mode_place q c at)
state_place q values at c inside =
    get_or-take (length q.model.components) (drop (at * length q.model.components) values) c 0 inside ∙ get_or-drop (at * length q.model.components) values c 0

-- the state before a record has each component's mode before it
pub before_modes : (q : Asked) (values : List ℕ) (at c : ℕ) → c < length q.model.components → slice_index (state_before q values at) c ≡ mode_before q c values at
before_modes q values zero c inside = refl
before_modes q values (suc at) c inside = state_place q values at c inside

-- behind the first record it stands at a place
pub place_before : (q : Asked) (values : List ℕ) (at c : ℕ) → (at ≡ 0 → ⊥) → c < length q.model.components → slice_index (state_before q values at) c ≡ slice_index values (mode_place q c (at - 1))
place_before q values zero c some inside = absurd (some refl)
place_before q values (suc at) c some inside =
    let e : at ≡ suc at - 1 = omega arith in
    state_place q values at c inside ∙ ap (λ i. slice_index values (mode_place q c i)) e

pub value_stands : (values : List ℕ) (place value : ℕ) → place < length values → slice_index values place ≡ value → slice_get values place ≡ Some value
value_stands values place value within e = slice_get-get_or values place 0 within ∙ ap Some e

-- behind the first record the known components are those of the group
pub known_own : (at : ℕ) (own : Bool) → (at ≡ 0 → ⊥) → (at == 0 || own) ≡ true → own ≡ true
known_own at own some h = elim (or_cases (at == 0) own h) [ inl first ↦ absurd (some (eqb-true at 0 first)) | inr y ↦ y ]

-- one pair more of the group's values
pub own_more : (x : GroupPaths) (cut : List Pair) (c place value : ℕ) → AreOwn x cut → IsOwnPlace x.query.now c place → in_group x.names.now x.group c ≡ true → slice_index x.values.now place ≡ value
    → AreOwn x (cut ++ record { item = place; value = value } ∷ [])
own_more x cut c place value own its among e =
    let q : Asked = x.query.now in
    let last : Pair = record { item = place; value = value } in
    let P : Pair → Type 0 = λ p. slice_get x.values.now p.item ≡ Some p.value in
    let Q : Pair → Type 0 = λ p. (p.item < length (window_of q).of) × (in_group x.names.now x.group (slice_index (window_of q).of p.item) ≡ true) in
    let full : length x.values.now ≡ places q = x.full in
    let inside : place < places q = its.within in
    record {
      held = All-append P cut (last ∷ []) own.held (All-cons P last [] (value_stands x.values.now place value (omega (arith, inside, full)) e) (All-nil P));
      own = All-append Q cut (last ∷ []) own.own
          (All-cons Q last [] (omega (arith, inside, length-places q), subst (λ d. in_group x.names.now x.group d ≡ true) (sym its.own) among) (All-nil Q));
    }

-- nothing is own at first
pub own_none : (x : GroupPaths) → AreOwn x []
own_none x = record {
  held = All-nil (λ p. slice_get x.values.now p.item ≡ Some p.value);
  own = All-nil (λ p. (p.item < length (window_of x.query.now).of) × (in_group x.names.now x.group (slice_index (window_of x.query.now).of p.item) ≡ true));
}

pub says_left : (cut : List Pair) (p : Pair) → SaysMore cut (cut ++ p ∷ [])
says_left cut p values h = all_left (λ (q : Pair). slice_get values q.item ≡ Some q.value) cut (p ∷ []) h

-- values with the last pair have its value
pub says_last : (cut : List Pair) (place value : ℕ) (values : List ℕ) → Extends values (cut ++ record { item = place; value = value } ∷ []) → slice_index values place ≡ value
says_last cut place value values h =
    let last : Pair = record { item = place; value = value } in
    get_or_from_slice_get values place value 0 (all_right (λ (q : Pair). slice_get values q.item ≡ Some q.value) cut (last ∷ []) h 0 last (omega arith))

pub blames_more : (b : Before) (old new : List Pair) (p : Pair) → SaysMore old new → Blames b old p → Blames b new p
blames_more b old new p more h values full extends = h values full (more values extends)

pub cut_itself : (b : Before) (cut : List Pair) → AreOwn b.paths cut → IsCutWith b cut cut
cut_itself b cut own = record { own = own; more = λ values h. h }

pub cut_on : (b : Before) (first old new : List Pair) → IsCutWith b first old → IsCutWith b old new → IsCutWith b first new
cut_on b first old new x y = record { own = y.own; more = λ values h. x.more values (y.more values h) }

module _ (b : Before) (p : Pair) (known : IsKnown b p) (some : b.at ≡ 0 → ⊥) where
  abbrev q : Asked
  q = b.paths.query.now

  abbrev place : ℕ
  place = mode_place q p.item (b.at - 1)

  pub inside : p.item < length q.model.components
  inside = omega (arith, known.component, b.full)

  own_place : IsOwnPlace q p.item place
  own_place = mode_own q p.item (b.at - 1) inside (let within = b.within in grind (arith, within, some))

  here : slice_index b.paths.values.now place ≡ p.value
  here = sym (place_before q b.paths.values.now b.at p.item some inside) ∙ ap (λ l. slice_index l p.item) (sym b.state) ∙ known.stands

  -- the pair of its mode's place
  pub pushed_cut : (cut : List Pair) → AreOwn b.paths cut → IsCutWith b cut (cut ++ record { item = place; value = p.value } ∷ [])
  pushed_cut cut own = record {
    own = own_more b.paths cut p.item place p.value own own_place (known_own b.at (in_group b.paths.names.now b.paths.group p.item) some known.known) here;
    more = says_left cut (record { item = place; value = p.value });
  }

  pub pushed_blames : (cut : List Pair) → Blames b (cut ++ record { item = place; value = p.value } ∷ []) p
  pushed_blames cut values full extends = place_before q values b.at p.item some inside ∙ says_last cut place p.value values extends

  -- a pair with that place is there already
  pub there_blames : (cut : List Pair) → AreOwn b.paths cut → (o : Pair) → Contains cut o → o.item ≡ place → Blames b cut p
  there_blames cut own o among e values full extends =
      let given : slice_get values o.item ≡ Some o.value = All-contains (λ (z : Pair). slice_get values z.item ≡ Some z.value) cut o extends among in
      let held : slice_get b.paths.values.now o.item ≡ Some o.value = All-contains (λ (z : Pair). slice_get b.paths.values.now z.item ≡ Some z.value) cut o own.held among in
      place_before q values b.at p.item some inside ∙ ap (slice_index values) (sym e) ∙ get_or_from_slice_get values o.item o.value 0 given
      ∙ sym (get_or_from_slice_get b.paths.values.now o.item o.value 0 held) ∙ ap (slice_index b.paths.values.now) e ∙ here

-- ---- the value of a gate

-- a component's own gate at the record, as a cut
abbrev pub gate_pairs : Before → ℕ → List Pair
gate_pairs b c = record { item = gate_place b.paths.query.now c b.at; value = slice_index b.paths.values.now (gate_place b.paths.query.now c b.at) } ∷ []

pub gate_pairs_own : (b : Before) (c : ℕ) → c < length b.modes.now → in_group b.paths.names.now b.paths.group c ≡ true → AreOwn b.paths (gate_pairs b c)
gate_pairs_own b c inside among =
    let q : Asked = b.paths.query.now in
    let place : ℕ = gate_place q c b.at in
    own_more b.paths [] c place (slice_index b.paths.values.now place) (own_none b.paths) (gate_own q c b.at (omega (arith, inside, b.full)) b.within) among refl

-- values that have the pairs have the gate
pub gate_pairs_say : (b : Before) (c : ℕ) (values : List ℕ) → Extends values (gate_pairs b c) → IsGateOf b c values
gate_pairs_say b c values extends =
    let place : ℕ = gate_place b.paths.query.now c b.at in
    says_last [] place (slice_index b.paths.values.now place) values extends

-- the pairs as they are pushed
pub gate_pushed : (b : Before) (c count : ℕ) (records : List Record) (cut new : List Pair) → cut ≡ [] → map entry_of records ≡ b.paths.query.now.records → count ≡ length b.paths.query.now.model.components
    → new ≡ cut ++ record { item = (length records + b.at) * count + c; value = slice_index b.paths.values.now ((length records + b.at) * count + c) } ∷ [] → new ≡ gate_pairs b c
gate_pushed b c count records cut new none all same e =
    let long : length records ≡ length b.paths.query.now.records = sym (length-map records entry_of) ∙ ap length all in
    e ∙ ap (λ (l : List Pair). l ++ record { item = (length records + b.at) * count + c; value = slice_index b.paths.values.now ((length records + b.at) * count + c) } ∷ []) none
    ∙ ap (λ (i : ℕ). record { item = i; value = slice_index b.paths.values.now i } ∷ []) (ap (λ n. (length records + b.at) * n + c) same ∙ ap (λ n. (n + b.at) * length b.paths.query.now.model.components + c) long)

-- what is of the group is known
pub known_by_group : (b : Before) (c : ℕ) → in_group b.paths.names.now b.paths.group c ≡ true → knows b c ≡ true
known_by_group b c = known_by (b.at == 0) (in_group b.paths.names.now b.paths.group c)
  where
    known_by : (first own : Bool) → own ≡ true → (first || own) ≡ true
    known_by true own e = refl
    known_by false own e = e
