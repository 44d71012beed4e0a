-- The answer to an item is the one of the table: its least code, or the event that it names.
use Rattle.std.proofs.Common.{Contains, ◌≡◌, ◌⊎◌, ◌↔◌, ◌<◌, ℕ, Bool, true, false, not, ◌||◌, ◌==◌, List, [], ◌∷◌, Option, Some, None, Result, Ok, Err, inl, inr, refl, sym, ap, subst, ◌∙◌, arith}
use Rattle.std.specs.List.{list_any}
use Rattle.std.proofs.lemmas.Bool.{not-true, not_from_false, eqb-true, eq-eqb, or_left, or_right}
use Rattle.std.proofs.lemmas.Option.{same_Some}
use Rattle.list_laws.proofs.Tests.{either, never, false_true}
use Rattle.list_laws.proofs.Passing.{some_passes, passes_some}
use Rattle.cca_base.specs.declared.codes.TheConstants.{MALFORMED, NAME_UNKNOWN, NOT_SENSED, BROKEN_GOAL, REPEATED_PAIR, MIRRORED}
use Rattle.cca_base.specs.declared.cube.Pair.{Pair}
use Rattle.cca_base.specs.declared.events.Event.{Event}
use Rattle.cca_base.specs.declared.events.Event.TheVariants as event
use Rattle.cca_base.specs.PlantModel.{PlantModel}
use Rattle.cca_base.specs.Sets.{has}
use Rattle.formula_syntax.specs.Least.{least}
use Rattle.text_base.specs.Pairs.{NamedPair}
use Rattle.script_reader.specs.declared.named.Naming.TheVariants.{Modes, Values}
use Rattle.script_reader.specs.Items.{Item, Goal, Clear, Observe, Fault, Mirror, Reset, Tick}
use Rattle.script_reader.specs.Named.{component_of, variable_of, mode_pair, stands_for, each_pair}
use Rattle.script_reader.specs.EventCodes.{has_item, has_item_twice, is_sensed, is_broken_pair, goal_code, observe_code, mirror_code}
use Rattle.script_reader.specs.EventLines.{unless, named_event, event_of}
use Rattle.script_reader.proofs.OneSaid.{one_least}
use Rattle.script_reader.specs.Laws.{NamesUnknown, NamesVariable, NamesUnsensed, WantsBroken, NamesTwice, NamesPending, NamesMirrored, Applies, IsLeastCode, IsNamed}
use Rattle.script_reader.proofs.EachPair.{missing, comes_from, goes_to}
use Rattle.script_reader.proofs.NamedItems.{twice_named, named_twice, mode_names, value_names}

module _ (m : PlantModel) (pending : List Pair) (mirrored : ℕ) where
  -- an answer, by the table
  abbrev pub Says : Item → Result Event ℕ → Type 0
  Says i (Ok e) = IsNamed m i e × ((code : ℕ) → Applies m pending mirrored i code → ⊥)
  Says i (Err code) = IsLeastCode m pending mirrored i code

  -- the rows of the table, one by one
  by_row : {P : Type 0} (i : Item) (code : ℕ) → Applies m pending mirrored i code
      → (code ≡ NAME_UNKNOWN → NamesUnknown m i → P) → (code ≡ NOT_SENSED → NamesUnsensed m i → P) → (code ≡ BROKEN_GOAL → WantsBroken m i → P)
      → (code ≡ REPEATED_PAIR → (NamesTwice i ⊎ NamesPending m pending i) → P) → (code ≡ MIRRORED → NamesMirrored m mirrored i → P) → P
  by_row i code (inl (e, h)) a b c d f = a e h
  by_row i code (inr (inl (e, h))) a b c d f = b e h
  by_row i code (inr (inr (inl (e, h)))) a b c d f = c e h
  by_row i code (inr (inr (inr (inl (e, h))))) a b c d f = d e h
  by_row i code (inr (inr (inr (inr (e, h))))) a b c d f = f e h

  unknown_is_least : (i : Item) → NamesUnknown m i → IsLeastCode m pending mirrored i NAME_UNKNOWN
  unknown_is_least i h =
      (inl (refl, h), λ less lt a. by_row i less a (λ e x. omega (arith, e, lt)) (λ e x. omega (arith, e, lt)) (λ e x. omega (arith, e, lt)) (λ e x. omega (arith, e, lt)) (λ e x. omega (arith, e, lt)))

  -- where all names are known, the tests of the other rows decide
  known : (i : Item) (e : Event) (n b r k : Bool) → (NamesUnknown m i → ⊥) → (NamesUnsensed m i ↔ (n ≡ true)) → (WantsBroken m i ↔ (b ≡ true))
      → ((NamesTwice i ⊎ NamesPending m pending i) ↔ (r ≡ true)) → (NamesMirrored m mirrored i ↔ (k ≡ true)) → IsNamed m i e
      → Says i (unless (least ((NOT_SENSED, n) ∷ (BROKEN_GOAL, b) ∷ (REPEATED_PAIR, r) ∷ (MIRRORED, k) ∷ [])) e)
  known i e true b r k u sn sb sr sk named =
      (inr (inl (refl, sn.1 refl)), λ less lt a. by_row i less a (λ c x. u x) (λ c x. omega (arith, c, lt)) (λ c x. omega (arith, c, lt)) (λ c x. omega (arith, c, lt)) (λ c x. omega (arith, c, lt)))
  known i e false true r k u sn sb sr sk named =
      (inr (inr (inl (refl, sb.1 refl))), λ less lt a. by_row i less a (λ c x. u x) (λ c x. false_true (sn.0 x)) (λ c x. omega (arith, c, lt)) (λ c x. omega (arith, c, lt)) (λ c x. omega (arith, c, lt)))
  known i e false false true k u sn sb sr sk named =
      (inr (inr (inr (inl (refl, sr.1 refl)))), λ less lt a. by_row i less a (λ c x. u x) (λ c x. false_true (sn.0 x)) (λ c x. false_true (sb.0 x)) (λ c x. omega (arith, c, lt)) (λ c x. omega (arith, c, lt)))
  known i e false false false true u sn sb sr sk named =
      (inr (inr (inr (inr (refl, sk.1 refl)))), λ less lt a. by_row i less a (λ c x. u x) (λ c x. false_true (sn.0 x)) (λ c x. false_true (sb.0 x)) (λ c x. false_true (sr.0 x)) (λ c x. omega (arith, c, lt)))
  known i e false false false false u sn sb sr sk named =
      (named, λ code a. by_row i code a (λ c x. u x) (λ c x. false_true (sn.0 x)) (λ c x. false_true (sb.0 x)) (λ c x. false_true (sr.0 x)) (λ c x. false_true (sk.0 x)))

  -- each pair of the line stands for something
  all_known : (f : NamedPair → Option Pair) (pairs : List NamedPair) (qs : List Pair) (p : NamedPair) → each_pair f pairs ≡ Some qs → Contains pairs p → f p ≡ None → ⊥
  all_known f pairs qs p h among none =
      let to = goes_to f pairs qs p h among in
      let both : None ≡ Some to.0 = sym none ∙ to.2 in
      absurd cc

  -- ---- goals

  module _ (pairs : List NamedPair) (qs : List Pair) (h : each_pair (stands_for Modes m) pairs ≡ Some qs) where
    goal_known : NamesUnknown m (Goal pairs) → ⊥
    goal_known (p, among, none) = all_known (stands_for Modes m) pairs qs p h among none

    goal_broken : WantsBroken m (Goal pairs) ↔ (list_any (is_broken_pair m) qs ≡ true)
    goal_broken = (
      λ x.
          let to = goes_to (stands_for Modes m) pairs qs x.0 h x.2 in
          let same : to.0 ≡ x.1 = same_Some to.0 x.1 (sym to.2 ∙ x.3) in
          some_passes (is_broken_pair m) qs to.0 to.1 (ap (is_broken_pair m) same ∙ x.4),
      λ t.
          let q = passes_some (is_broken_pair m) qs t in
          let from = comes_from (stands_for Modes m) pairs qs q.0 h q.1 in
          (from.0, q.0, from.1, from.2, q.2),
    )

    goal_twice : (NamesTwice (Goal pairs) ⊎ NamesPending m pending (Goal pairs)) ↔ (has_item_twice qs ≡ true)
    goal_twice = (
      λ x. elim x [
        | inl twice ↦ named_twice (component_of m) (stands_for Modes m) (mode_names m) pairs qs h twice
        | inr (v, p, never, among, same) ↦ absurd never
      ],
      λ t. inl (twice_named (component_of m) (stands_for Modes m) (mode_names m) pairs qs h t),
    )

    goal_says : Says (Goal pairs) (unless (goal_code m qs) (event.Goal qs))
    unfolding goal_code
    goal_says =
        known (Goal pairs) (event.Goal qs) false (list_any (is_broken_pair m) qs) (has_item_twice qs) false goal_known
        (never (λ x. x.1)) goal_broken goal_twice (never (λ x. x.1)) (qs, h, refl)

  goal_says_by : (pairs : List NamedPair) (o : Option (List Pair)) → each_pair (stands_for Modes m) pairs ≡ o → Says (Goal pairs) (named_event event.Goal (goal_code m) o)
  goal_says_by pairs None h = unknown_is_least (Goal pairs) (missing (stands_for Modes m) pairs h)
  goal_says_by pairs (Some qs) h = goal_says pairs qs h

  -- ---- observations

  module _ (pairs : List NamedPair) (qs : List Pair) (h : each_pair (stands_for Values m) pairs ≡ Some qs) where
    values_known : NamesUnknown m (Observe pairs) → ⊥
    values_known (p, among, none) = all_known (stands_for Values m) pairs qs p h among none

    -- a variable of the line passes a test exactly where its pair does
    by_variable : (test : ℕ → Bool) (v : ℕ) → NamesVariable m (Observe pairs) v → test v ≡ true → list_any (λ (q : Pair). test q.item) qs ≡ true
    by_variable test v (p, among, named) t =
        let to = goes_to (stands_for Values m) pairs qs p h among in
        let same : to.0.item ≡ v = same_Some to.0.item v (sym ((value_names m).item p to.0 to.2) ∙ named) in
        some_passes (λ (q : Pair). test q.item) qs to.0 to.1 (ap test same ∙ t)

    to_variable : (test : ℕ → Bool) → list_any (λ (q : Pair). test q.item) qs ≡ true → (v : ℕ) × NamesVariable m (Observe pairs) v × (test v ≡ true)
    to_variable test t =
        let q = passes_some (λ (x : Pair). test x.item) qs t in
        let from = comes_from (stands_for Values m) pairs qs q.0 h q.1 in
        (q.0.item, (from.0, from.1, (value_names m).item from.0 q.0 from.2), q.2)

    observe_unsensed : NamesUnsensed m (Observe pairs) ↔ (list_any (λ (q : Pair). not (is_sensed m q.item)) qs ≡ true)
    observe_unsensed = (
      λ x. by_variable (λ v. not (is_sensed m v)) x.0 x.1 (not_from_false (is_sensed m x.0) x.2),
      λ t. let v = to_variable (λ v. not (is_sensed m v)) t in (v.0, v.1, not-true (is_sensed m v.0) v.2),
    )

    observe_mirrored : NamesMirrored m mirrored (Observe pairs) ↔ (list_any (λ (q : Pair). has mirrored q.item) qs ≡ true)
    observe_mirrored = (λ x. by_variable (has mirrored) x.0 x.1 x.2, λ t. let v = to_variable (has mirrored) t in (v.0, v.1, v.2))

    pending_named : list_any (λ (q : Pair). has_item pending q.item) qs ≡ true → NamesPending m pending (Observe pairs)
    pending_named some =
        let v = to_variable (has_item pending) some in
        let p = passes_some (λ (x : Pair). x.item == v.0) pending v.2 in
        (v.0, p.0, v.1, p.1, eqb-true p.0.item v.0 p.2)

    observe_again : (NamesTwice (Observe pairs) ⊎ NamesPending m pending (Observe pairs)) ↔ ((has_item_twice qs || list_any (λ (q : Pair). has_item pending q.item) qs) ≡ true)
    observe_again =
        let again = list_any (λ (q : Pair). has_item pending q.item) qs in (
          λ x. elim x [
            | inl twice ↦ or_left (has_item_twice qs) again (named_twice (variable_of m) (stands_for Values m) (value_names m) pairs qs h twice)
            | inr (v, p, named, among, same) ↦
                or_right (has_item_twice qs) again (by_variable (has_item pending) v named (some_passes (λ (x : Pair). x.item == v) pending p among (eq-eqb p.item v same)))
          ],
          λ t. either (has_item_twice qs) again t (λ twice. inl (twice_named (variable_of m) (stands_for Values m) (value_names m) pairs qs h twice)) (λ some. inr (pending_named some)),
        )

    observe_says : Says (Observe pairs) (unless (observe_code m pending mirrored qs) (event.Observe qs))
    unfolding observe_code
    observe_says =
        known (Observe pairs) (event.Observe qs) (list_any (λ (q : Pair). not (is_sensed m q.item)) qs) false (has_item_twice qs || list_any (λ (q : Pair). has_item pending q.item) qs)
        (list_any (λ (q : Pair). has mirrored q.item) qs) values_known observe_unsensed (never (λ x. x)) observe_again observe_mirrored (qs, h, refl)

  observe_says_by : (pairs : List NamedPair) (o : Option (List Pair)) → each_pair (stands_for Values m) pairs ≡ o → Says (Observe pairs) (named_event event.Observe (observe_code m pending mirrored) o)
  observe_says_by pairs None h = unknown_is_least (Observe pairs) (missing (stands_for Values m) pairs h)
  observe_says_by pairs (Some qs) h = observe_says pairs qs h

  -- ---- faults and mirrors

  fault_says : (pair : NamedPair) (o : Option Pair) → mode_pair m pair ≡ o → Says (Fault pair) (named_event event.Fault (λ p. None) o)
  fault_says pair None h = unknown_is_least (Fault pair) h
  fault_says pair (Some q) h =
      known (Fault pair) (event.Fault q) false false false false (λ none. let both : None ≡ Some q = sym none ∙ h in absurd cc) (never (λ x. x.1)) (never (λ x. x))
      (never (λ x. elim x [ inl twice ↦ twice | inr (v, p, never, among, same) ↦ never ])) (never (λ x. x.1)) (q, h, refl)

  module _ (name : List ℕ) (v : ℕ) (h : variable_of m name ≡ Some v) where
    -- the variable of the line is this one
    only : (u : ℕ) → NamesVariable m (Mirror name) u → u ≡ v
    only u named = same_Some u v (sym named ∙ h)

    mirror_again : (NamesTwice (Mirror name) ⊎ NamesPending m pending (Mirror name)) ↔ (has_item pending v ≡ true)
    mirror_again = (
      λ x. elim x [
        | inl twice ↦ absurd twice
        | inr (u, p, named, among, same) ↦ some_passes (λ (y : Pair). y.item == v) pending p among (eq-eqb p.item v (same ∙ only u named))
      ],
      λ t. let p = passes_some (λ (y : Pair). y.item == v) pending t in inr (v, p.0, h, p.1, eqb-true p.0.item v p.2),
    )

    mirror_says : Says (Mirror name) (unless (mirror_code m pending mirrored v) (event.Mirror v))
    unfolding mirror_code
    mirror_says =
        known (Mirror name) (event.Mirror v) (not (is_sensed m v)) false (has_item pending v) (has mirrored v) (λ none. let both : None ≡ Some v = sym none ∙ h in absurd cc)
        (λ x. ap (λ (u : ℕ). not (is_sensed m u)) (sym (only x.0 x.1)) ∙ not_from_false (is_sensed m x.0) x.2, λ t. (v, h, not-true (is_sensed m v) t))
        (never (λ x. x)) mirror_again
        (λ x. ap (has mirrored) (sym (only x.0 x.1)) ∙ x.2, λ t. (v, h, t)) (v, h, refl)

  mirror_says_by : (name : List ℕ) (o : Option ℕ) → variable_of m name ≡ o → Says (Mirror name) (named_event event.Mirror (mirror_code m pending mirrored) o)
  mirror_says_by name None h = unknown_is_least (Mirror name) h
  mirror_says_by name (Some v) h = mirror_says name v h

  -- ---- all items

  -- a line that names nothing is taken
  plain : (i : Item) (e : Event) → (NamesUnknown m i → ⊥) → (NamesUnsensed m i → ⊥) → (WantsBroken m i → ⊥) → ((NamesTwice i ⊎ NamesPending m pending i) → ⊥) → (NamesMirrored m mirrored i → ⊥) → IsNamed m i e → Says i (Ok e)
  plain i e u n b r k named = known i e false false false false u (never n) (never b) (never r) (never k) named

  pub says : (i : Item) → Says i (event_of m pending mirrored i)
  says (Goal pairs) = goal_says_by pairs (each_pair (stands_for Modes m) pairs) refl
  says Clear = plain Clear event.Clear (λ x. x) (λ x. x.1) (λ x. x) (λ x. elim x [ inl t ↦ t | inr (v, p, never, among, same) ↦ never ]) (λ x. x.1) refl
  says (Observe pairs) = observe_says_by pairs (each_pair (stands_for Values m) pairs) refl
  says (Fault pair) = fault_says pair (mode_pair m pair) refl
  says (Mirror name) = mirror_says_by name (variable_of m name) refl
  says Reset = plain Reset event.Reset (λ x. x) (λ x. x.1) (λ x. x) (λ x. elim x [ inl t ↦ t | inr (v, p, never, among, same) ↦ never ]) (λ x. x.1) refl
  says Tick = plain Tick event.Tick (λ x. x) (λ x. x.1) (λ x. x) (λ x. elim x [ inl t ↦ t | inr (v, p, never, among, same) ↦ never ]) (λ x. x.1) refl

  refused_by : (i : Item) (code : ℕ) (r : Result Event ℕ) → Says i r → IsLeastCode m pending mirrored i code → r ≡ Err code
  refused_by i code (Ok e) h least = absurd (h.1 code least.0)
  refused_by i code (Err other) h least = ap (λ (c : ℕ). Err c) (one_least (Applies m pending mirrored i) other code h least)

  -- the words of a line name one event
  one_named : (i : Item) (e f : Event) → IsNamed m i e → IsNamed m i f → e ≡ f
  one_named (Goal pairs) e f (a, h, is) (b, k, was) = is ∙ ap (λ (x : List Pair). event.Goal x) (same_Some a b (sym h ∙ k)) ∙ sym was
  one_named Clear e f h k = h ∙ sym k
  one_named (Observe pairs) e f (a, h, is) (b, k, was) = is ∙ ap (λ (x : List Pair). event.Observe x) (same_Some a b (sym h ∙ k)) ∙ sym was
  one_named (Fault pair) e f (a, h, is) (b, k, was) = is ∙ ap (λ (x : Pair). event.Fault x) (same_Some a b (sym h ∙ k)) ∙ sym was
  one_named (Mirror name) e f (a, h, is) (b, k, was) = is ∙ ap (λ (x : ℕ). event.Mirror x) (same_Some a b (sym h ∙ k)) ∙ sym was
  one_named Reset e f h k = h ∙ sym k
  one_named Tick e f h k = h ∙ sym k

  taken_by : (i : Item) (e : Event) (r : Result Event ℕ) → Says i r → IsNamed m i e × ((code : ℕ) → Applies m pending mirrored i code → ⊥) → r ≡ Ok e
  taken_by i e (Err code) h named = absurd (named.1 code h.0)
  taken_by i e (Ok other) h named = ap (λ (x : Event). Ok x) (one_named i other e h.0 named.0)

  -- each code of the table is above that of a malformed line
  pub applies_above : (i : Item) (code : ℕ) → Applies m pending mirrored i code → MALFORMED < code
  applies_above i code a = by_row i code a (λ e x. omega (arith, e)) (λ e x. omega (arith, e)) (λ e x. omega (arith, e)) (λ e x. omega (arith, e)) (λ e x. omega (arith, e))

  -- ---- both ways

  pub refused : (i : Item) (code : ℕ) → (event_of m pending mirrored i ≡ Err code) ↔ IsLeastCode m pending mirrored i code
  refused i code = (λ e. subst (Says i) e (says i), λ h. refused_by i code (event_of m pending mirrored i) (says i) h)

  pub taken : (i : Item) (e : Event) → (event_of m pending mirrored i ≡ Ok e) ↔ (IsNamed m i e × ((code : ℕ) → Applies m pending mirrored i code → ⊥))
  taken i e = (λ h. subst (Says i) h (says i), λ h. taken_by i e (event_of m pending mirrored i) (says i) h)
