-- What a line is taken as may come.
use Rattle.std.proofs.Common.{◌≡◌, ◌≢◌, ℕ, ◌<◌, Bool, true, false, not, ◌||◌, ◌==◌, List, [], ◌∷◌, length, map, Option, Some, None, Result, Ok, Err, All, Contains, slice_get, refl, sym, ap, subst, arith}
use Rattle.std.specs.Prelude.{IfSome}
use Rattle.std.specs.List.{list_any}
use Rattle.std.specs.Option.{option_map_or}
use Rattle.std.proofs.lemmas.Bool.{or_parts, not-false, eqb-false}
use Rattle.std.proofs.lemmas.List.Elements.{All-weaker, All-contains}
use Rattle.std.proofs.lemmas.List.Kept.{AllPairs-cons}
use Rattle.std.proofs.lemmas.Option.{same_Some}
use Rattle.list_laws.proofs.Tests.{same_ok}
use Rattle.list_laws.proofs.Passing.{none_passes}
use Rattle.list_laws.proofs.Members.{all_from}
use Rattle.cca_base.specs.declared.codes.TheConstants.{NOT_SENSED, BROKEN_GOAL, REPEATED_PAIR, MIRRORED}
use Rattle.cca_base.specs.declared.cube.Pair.{Pair}
use Rattle.cca_base.specs.declared.events.Event.{Event}
use Rattle.cca_base.specs.declared.events.Event.TheVariants as event
use Rattle.cca_base.specs.declared.formula.Subject.TheVariants as subjects
use Rattle.cca_base.specs.declared.model.Variable.{Variable}
use Rattle.cca_base.specs.PlantModel.{PlantModel}
use Rattle.cca_base.specs.Cube.{IsCube}
use Rattle.cca_base.specs.Model.{HasMode}
use Rattle.cca_base.specs.Sets.{has}
use Rattle.cca_base.specs.State.{HasValue}
use Rattle.cca_base.specs.Trace.{MayBeSeen, MayCome}
use Rattle.text_base.specs.Tokens.{Tok, tokens_of}
use Rattle.text_base.specs.Lexemes.{Lexeme, lexeme}
use Rattle.text_base.specs.Pairs.{NamedPair}
use Rattle.formula_syntax.specs.Lookups.{value_of}
use Rattle.formula_syntax.proofs.LeastLaws.{least_none}
use Rattle.formula_syntax.proofs.ModesByName.{mode_of_component, value_of_variable}
use Rattle.script_reader.specs.declared.named.Naming.TheVariants.{Modes, Values}
use Rattle.script_reader.specs.Items.{Item, Goal, Clear, Observe, Fault, Mirror, Reset, Tick, item_of, IsSpelled}
use Rattle.script_reader.specs.Named.{component_of, variable_of, mode_pair, value_pair, stands_for, each_pair}
use Rattle.script_reader.specs.EventCodes.{has_item, has_item_twice, is_sensed, is_broken_pair, goal_code, observe_code, mirror_code}
use Rattle.script_reader.specs.EventLines.{unless, named_event, event_of, event_here, event_by, as_event, by_form, by_tokens, event_line}
use Rattle.script_reader.proofs.EachPair.{as_many, comes_from, pair_parts}
use Rattle.script_reader.proofs.ItemGrammar.{item_written}

-- ---- tests that fail

others : (item : ℕ) (ps : List Pair) → has_item ps item ≡ false → All (λ p. p.item ≢ item) ps
others item ps h = All-weaker (λ (p : Pair). p.item == item ≡ false) (λ (p : Pair). p.item ≢ item) (λ p e. eqb-false p.item item e) ps (none_passes (λ (p : Pair). p.item == item) ps h)

pub once_each : (ps : List Pair) → has_item_twice ps ≡ false → IsCube ps
once_each [] h = λ i j d before within same. omega arith
once_each (p ∷ ps) h =
    let parts = or_parts (has_item ps p.item) (has_item_twice ps) h in
    let rest = All-weaker (λ (q : Pair). q.item ≢ p.item) (λ (q : Pair). p.item ≢ q.item) (λ q e s. e (sym s)) ps (others p.item ps parts.0) in
    AllPairs-cons (λ (a b : Pair). a.item ≢ b.item) p ps rest (once_each ps parts.1)

-- ---- what names stand for

pub mode_is : (m : PlantModel) (p : NamedPair) (q : Pair) → mode_pair m p ≡ Some q → HasMode m q.item q.value
mode_is m p q h = mode_of_component m q.item q.value p.value (pair_parts (component_of m p.name) (λ c. value_of m (subjects.Component c) p.value) q h).1

pub value_is : (m : PlantModel) (p : NamedPair) (q : Pair) → value_pair m p ≡ Some q → HasValue m q.item q.value
value_is m p q h = value_of_variable m q.item q.value p.value (pair_parts (variable_of m p.name) (λ v. value_of m (subjects.Variable v) p.value) q h).1

sensed_by : (m : PlantModel) (pending : List Pair) (mirrored v : ℕ) (o : Option Variable) → slice_get m.variables v ≡ o → option_map_or (λ (x : Variable). x.sensed) o false ≡ true
    → has_item pending v ≡ false → has mirrored v ≡ false → MayBeSeen m pending mirrored v
sensed_by m pending mirrored v None e s p h = absurd cc
sensed_by m pending mirrored v (Some x) e s p h = record { variable = x; of_model = e; sensed = s; unmirrored = h; new = others v pending p }

may_be_seen : (m : PlantModel) (pending : List Pair) (mirrored v : ℕ) → not (is_sensed m v) ≡ false → has_item pending v ≡ false → has mirrored v ≡ false → MayBeSeen m pending mirrored v
may_be_seen m pending mirrored v s p h = sensed_by m pending mirrored v (slice_get m.variables v) refl (not-false (is_sensed m v) s) p h

-- ---- events

taken_as : {X : Type 0} (code : Option ℕ) (x : X) (y : X) → unless code x ≡ Ok y → (code ≡ None) × (x ≡ y)
taken_as None x y h = (refl, same_ok x y h)
taken_as (Some code) x y h = absurd cc

goal_sound : (m : PlantModel) (pairs : List Pair) → goal_code m pairs ≡ None → (list_any (is_broken_pair m) pairs ≡ false) × (has_item_twice pairs ≡ false)
unfolding goal_code
goal_sound m pairs h =
    let broken = least_none BROKEN_GOAL (list_any (is_broken_pair m) pairs) ((REPEATED_PAIR, has_item_twice pairs) ∷ []) h in
    let twice = least_none REPEATED_PAIR (has_item_twice pairs) [] broken.1 in
    (broken.0, twice.0)

observe_sound : (m : PlantModel) (pending : List Pair) (mirrored : ℕ) (pairs : List Pair) → observe_code m pending mirrored pairs ≡ None
    → (list_any (λ p. not (is_sensed m p.item)) pairs ≡ false) × (has_item_twice pairs ≡ false) × (list_any (λ p. has_item pending p.item) pairs ≡ false) × (list_any (λ p. has mirrored p.item) pairs ≡ false)
unfolding observe_code
observe_sound m pending mirrored pairs h =
    let unsensed = list_any (λ (p : Pair). not (is_sensed m p.item)) pairs in
    let again = list_any (λ (p : Pair). has_item pending p.item) pairs in
    let reflected = list_any (λ (p : Pair). has mirrored p.item) pairs in
    let a = least_none NOT_SENSED unsensed ((REPEATED_PAIR, has_item_twice pairs || again) ∷ (MIRRORED, reflected) ∷ []) h in
    let b = least_none REPEATED_PAIR (has_item_twice pairs || again) ((MIRRORED, reflected) ∷ []) a.1 in
    let c = least_none MIRRORED reflected [] b.1 in
    let twice = or_parts (has_item_twice pairs) again b.0 in
    (a.0, twice.0, twice.1, c.0)

mirror_sound : (m : PlantModel) (pending : List Pair) (mirrored v : ℕ) → mirror_code m pending mirrored v ≡ None → MayBeSeen m pending mirrored v
unfolding mirror_code
mirror_sound m pending mirrored v h =
    let a = least_none NOT_SENSED (not (is_sensed m v)) ((REPEATED_PAIR, has_item pending v) ∷ (MIRRORED, has mirrored v) ∷ []) h in
    let b = least_none REPEATED_PAIR (has_item pending v) ((MIRRORED, has mirrored v) ∷ []) a.1 in
    let c = least_none MIRRORED (has mirrored v) [] b.1 in
    may_be_seen m pending mirrored v a.0 b.0 c.0

module _ (m : PlantModel) (pending : List Pair) (mirrored : ℕ) (e : Event) where
  goal_comes : (named : List NamedPair) (o : Option (List Pair)) → 0 < length named → each_pair (stands_for Modes m) named ≡ o → named_event event.Goal (goal_code m) o ≡ Ok e → MayCome m pending mirrored e
  goal_comes named None some f h = absurd cc
  goal_comes named (Some pairs) some f h =
      let t = taken_as (goal_code m pairs) (event.Goal pairs) e h in
      let sound = goal_sound m pairs t.0 in
      let mode : (q : Pair) → Contains pairs q → HasMode m q.item q.value = λ q among. let from = comes_from (stands_for Modes m) named pairs q f among in mode_is m from.0 q from.2 in
      subst (MayCome m pending mirrored) t.1 (record {
        some = omega (arith, as_many (stands_for Modes m) named pairs f, some);
        cube = once_each pairs sound.1;
        modes = all_from (λ (q : Pair). HasMode m q.item q.value) pairs mode;
        sound = none_passes (is_broken_pair m) pairs sound.0;
      })

  observe_comes : (named : List NamedPair) (o : Option (List Pair)) → 0 < length named → each_pair (stands_for Values m) named ≡ o → named_event event.Observe (observe_code m pending mirrored) o ≡ Ok e
      → MayCome m pending mirrored e
  observe_comes named None some f h = absurd cc
  observe_comes named (Some pairs) some f h =
      let t = taken_as (observe_code m pending mirrored pairs) (event.Observe pairs) e h in
      let sound = observe_sound m pending mirrored pairs t.0 in
      let value : (q : Pair) → Contains pairs q → HasValue m q.item q.value = λ q among. let from = comes_from (stands_for Values m) named pairs q f among in value_is m from.0 q from.2 in
      let sensed = none_passes (λ (q : Pair). not (is_sensed m q.item)) pairs sound.0 in
      let again = none_passes (λ (q : Pair). has_item pending q.item) pairs sound.2 in
      let reflected = none_passes (λ (q : Pair). has mirrored q.item) pairs sound.3 in
      let seen : (q : Pair) → Contains pairs q → MayBeSeen m pending mirrored q.item = λ q among.
      may_be_seen m pending mirrored q.item
      (All-contains (λ (x : Pair). not (is_sensed m x.item) ≡ false) pairs q sensed among)
      (All-contains (λ (x : Pair). has_item pending x.item ≡ false) pairs q again among)
      (All-contains (λ (x : Pair). has mirrored x.item ≡ false) pairs q reflected among)
      in
      subst (MayCome m pending mirrored) t.1 (record {
        some = omega (arith, as_many (stands_for Values m) named pairs f, some);
        cube = once_each pairs sound.1;
        values = all_from (λ (q : Pair). HasValue m q.item q.value) pairs value;
        seen = all_from (λ (q : Pair). MayBeSeen m pending mirrored q.item) pairs seen;
      })

  fault_comes : (named : NamedPair) (o : Option Pair) → mode_pair m named ≡ o → named_event event.Fault (λ p. None) o ≡ Ok e → MayCome m pending mirrored e
  fault_comes named None f h = absurd cc
  fault_comes named (Some q) f h = subst (MayCome m pending mirrored) (same_ok (event.Fault q) e h) (mode_is m named q f)

  mirror_comes : (o : Option ℕ) → named_event event.Mirror (mirror_code m pending mirrored) o ≡ Ok e → MayCome m pending mirrored e
  mirror_comes None h = absurd cc
  mirror_comes (Some v) h =
      let t = taken_as (mirror_code m pending mirrored v) (event.Mirror v) e h in
      subst (MayCome m pending mirrored) t.1 (mirror_sound m pending mirrored v t.0)

  item_comes : (i : Item) → IsSpelled i → event_of m pending mirrored i ≡ Ok e → MayCome m pending mirrored e
  item_comes (Goal named) s h = goal_comes named (each_pair (stands_for Modes m) named) s.0 refl h
  item_comes Clear s h = subst (MayCome m pending mirrored) (same_ok event.Clear e h) tt
  item_comes (Observe named) s h = observe_comes named (each_pair (stands_for Values m) named) s.0 refl h
  item_comes (Fault named) s h = fault_comes named (mode_pair m named) refl h
  item_comes (Mirror name) s h = mirror_comes (variable_of m name) h
  item_comes Reset s h = subst (MayCome m pending mirrored) (same_ok event.Reset e h) tt
  item_comes Tick s h = subst (MayCome m pending mirrored) (same_ok event.Tick e h) tt

  here_comes : (i : Item) → IsSpelled i → event_here m pending mirrored i ≡ Ok e → MayCome m pending mirrored e
  here_comes (Goal named) s h = absurd cc
  here_comes Clear s h = absurd cc
  here_comes (Observe named) s h = item_comes (Observe named) s h
  here_comes (Fault named) s h = item_comes (Fault named) s h
  here_comes (Mirror name) s h = item_comes (Mirror name) s h
  here_comes Reset s h = item_comes Reset s h
  here_comes Tick s h = item_comes Tick s h

  by_comes : (goals : Bool) (i : Item) → IsSpelled i → event_by goals m pending mirrored i ≡ Ok e → MayCome m pending mirrored e
  by_comes true i s h = item_comes i s h
  by_comes false i s h = here_comes i s h

  event_is : (r : Result Event ℕ) → as_event r ≡ Ok (Some e) → r ≡ Ok e
  event_is (Err code) h = absurd cc
  event_is (Ok x) h = ap (λ (y : Event). Ok y) (same_Some x e (same_ok (Some x) (Some e) h))

  form_comes : (goals : Bool) (ls : List Lexeme) (o : Option Item) → item_of ls ≡ o → by_form (event_by goals m pending mirrored) o ≡ Ok (Some e) → MayCome m pending mirrored e
  form_comes goals ls None f h = absurd cc
  form_comes goals ls (Some i) f h = by_comes goals i (item_written ls i f).1 (event_is (event_by goals m pending mirrored i) h)

  pub tokens_come : (goals : Bool) (t : Result (List Tok) ℕ) → by_tokens (event_by goals m pending mirrored) t ≡ Ok (Some e) → MayCome m pending mirrored e
  tokens_come goals (Err at) h = absurd cc
  tokens_come goals (Ok []) h = absurd cc
  tokens_come goals (Ok (t ∷ ts)) h = form_comes goals (map lexeme (t ∷ ts)) (item_of (map lexeme (t ∷ ts))) refl h

pub event_comes : (m : PlantModel) (pending : List Pair) (mirrored : ℕ) (line : List ℕ) (o : Option Event) → event_line m pending mirrored line ≡ Ok o → IfSome o (MayCome m pending mirrored)
unfolding event_line
event_comes m pending mirrored line None h = tt
event_comes m pending mirrored line (Some e) h = tokens_come m pending mirrored e true (tokens_of line) h
