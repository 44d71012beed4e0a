-- Classes taken one component after the other, causes first.
use Rattle.std.proofs.Common.{◌≡◌, ◌≢◌, ◌<◌, ◌≤◌, ◌+◌, ◌-◌, ◌↔◌, ℕ, Bool, true, false, zero, suc, List, [], ◌∷◌, length, slice_get, slice_index, slice_set, drop, get_or, Some, refl, sym, ap, subst, ◌∙◌, inl, inr, arith, get_or-set_same, get_or-set_other, length-set}
use Rattle.std.proofs.Math.ListN.{drop_of_length-le}
use Rattle.std.proofs.Math.Seq.{drop-cons}
use Rattle.std.proofs.lemmas.Bool.{cases_eq, cases_lt, both_ways}
use Rattle.std.proofs.lemmas.Option.{slice_get_within, get_or_from_slice_get}
use Rattle.std.proofs.lemmas.List.{get_or_past}
use Rattle.std.proofs.lemmas.List.Elements.{All-contains}
use Rattle.list_laws.proofs.Members.{all_from}
use Rattle.cca_base.specs.PlantModel.{PlantModel}
use Rattle.cca_base.specs.Accepted.{CompiledModel, IsCompiled}
use Rattle.cca_base.specs.Flags.{is_set}
use Rattle.cca_base.specs.Implicants.{Needs}
use Rattle.cca_base.specs.Model.{is_broken}
use Rattle.cca_base.specs.Sets.{has}
use Rattle.cca_base.specs.State.{IsState}
use Rattle.cca_base.proofs.SetLaws.{has-empty}
use Rattle.reach_laws.specs.Classes.{Test, OpenMove, OpenWalk, Joined, OpenRepairs, IsHome, InClass}
use Rattle.reach_laws.proofs.Order.{Among, AreEffectsFirst, IsOrder, order_from, repair_rules}
use Rattle.reach_laws.proofs.Trails.{among_from}
use Rattle.reach_laws.proofs.Facts.{RepairRules}
use Rattle.reach_laws.proofs.Walk.{one_end, repairs_from}
use Rattle.reach_laws.proofs.Needed.{needed_among}
use Rattle.reversibility.specs.ClassParts.{in_row, IsClasses}
use Rattle.reversibility.specs.Chains.{AreOpenChains}
use Rattle.reversibility.specs.Homes.{IsHomeFrom, IsClassFrom, IsNothing, AreDone}
use Rattle.reversibility.specs.declared.taking.Taken.{Taken}

-- ---- what depends on the needed components alone

module _ (m : PlantModel) (base : List ℕ) (member other : Test) (d : ℕ) (same : (u x : ℕ) → Needs m d u → member u x ≡ other u x) where
  move_same : (a x : ℕ) → OpenMove m member d a x → OpenMove m other d a x
  move_same a x o = record {
    move = o.move;
    of_model = o.of_model;
    own = o.own;
    source = o.source;
    target = o.target;
    open_move = record {
      cube = o.open_move.cube;
      prime = o.open_move.prime;
      inside = all_from (λ p. other p.item p.value ≡ true) o.open_move.cube (λ p among.
          let need : Needs m d p.item = record { move = o.move; of_model = o.of_model; own = o.own; cube = o.open_move.cube; prime = o.open_move.prime; mode = p.value; occurs = among } in
          sym (same p.item p.value need) ∙ All-contains (λ q. member q.item q.value ≡ true) o.open_move.cube p o.open_move.inside among);
    };
  }

  walk_same : (a b n : ℕ) → OpenWalk m member d a b n → OpenWalk m other d a b n
  walk_same a b zero walk = walk
  walk_same a b (suc n) walk = (walk.0, move_same a walk.0 walk.1, walk_same walk.0 b n walk.2)

  joined_same : (a b : ℕ) → Joined m member d a b → Joined m other d a b
  joined_same a b j = record { count = j.count; walk = walk_same a b j.count j.walk }

  repairs_same : (a b n : ℕ) → OpenRepairs m member d a b n → OpenRepairs m other d a b n
  repairs_same a b zero way = way
  repairs_same a b (suc n) way = (way.0, way.1, move_same a way.0 way.2, repairs_same way.0 b n way.3)

  home_same : (a : ℕ) → IsHome m base member d a → IsHome m base other d a
  home_same a h = record { within = h.within; sound = h.sound; count = h.count; way = repairs_same (slice_index base d) a h.count h.way }

  class_same : (x : ℕ) → InClass m base member d x → InClass m base other d x
  class_same x k = record { home = k.home; is_home = home_same k.home k.is_home; to = joined_same k.home x k.to; from = joined_same x k.home k.from }

  from_same : (a : ℕ) → d < length m.components → IsHomeFrom m member d (slice_index base d) a → IsHome m base other d a
  from_same a within h = record { within = within; sound = h.sound; count = h.count; way = repairs_same (slice_index base d) a h.count h.way }

-- ---- one component more

module _ (m : PlantModel) (base rows : List ℕ) (flags : List Bool) (c : ℕ) (done : List ℕ) (first : AreEffectsFirst m (c ∷ done)) (within : c < length m.components)
    (rules : RepairRules m) (h : AreDone m base rows flags done) where
  new_apart : Among c done → ⊥
  new_apart = first.1

  done_none : ((a : ℕ) → IsHomeFrom m (in_row rows) c (slice_index base c) a → ⊥) → AreDone m base rows flags (c ∷ done)
  done_none none =
      let no_home : (a : ℕ) → IsHome m base (in_row rows) c a → ⊥ = λ a k. none a (record { sound = k.sound; count = k.count; way = k.way }) in
      record {
        rows_full = h.rows_full;
        flags_full = h.flags_full;
        each = λ d x among. elim among [
          | inr there ↦ h.each d x there
          | inl e ↦ (
            (λ yes_x. absurd (both_ways (in_row rows d x) (h.rest d x (λ there. new_apart (subst (λ z. Among z done) e there))) yes_x)),
            (λ k. absurd (no_home k.home (subst (λ z. IsHome m base (in_row rows) z k.home) e k.is_home))),
          )
        ];
        rest = λ d x apart. h.rest d x (λ there. apart (inr there));
        flagged = λ d among. elim among [
          | inr there ↦ h.flagged d there
          | inl e ↦ (
            (λ flag. absurd (both_ways (is_set flags d) (h.unflagged d (λ there. new_apart (subst (λ z. Among z done) e there))) flag)),
            (λ k. absurd (no_home k.1.0 (subst (λ z. IsHome m base (in_row rows) z k.1.0) e k.1.1))),
          )
        ];
        unflagged = λ d apart. h.unflagged d (λ there. apart (inr there));
      }

  module _ (set : ℕ) (flag : Bool) (flag_is : flag ≡ is_broken m.moves c (slice_index base c)) (class : IsClassFrom m (in_row rows) c (slice_index base c) set) where
    abbrev new_rows : List ℕ
    new_rows = slice_set rows c set

    abbrev new_flags : List Bool
    new_flags = slice_set flags c flag

    row_there : (x : ℕ) → in_row new_rows c x ≡ has set x
    row_there x = ap (λ r. has r x) (get_or-set_same rows c set 0 (subst (λ n. c < n) (sym h.rows_full) within))

    row_other : (d x : ℕ) → d ≢ c → in_row new_rows d x ≡ in_row rows d x
    row_other d x ne = ap (λ r. has r x) (get_or-set_other rows c d set 0 ne)

    flag_there : is_set new_flags c ≡ flag
    flag_there = get_or-set_same flags c flag false (subst (λ n. c < n) (sym h.flags_full) within)

    flag_other : (d : ℕ) → d ≢ c → is_set new_flags d ≡ is_set flags d
    flag_other d ne = get_or-set_other flags c d flag false ne

    -- what a done component, or the new one, needs is another one
    needed_other : (d u : ℕ) → Among d (c ∷ done) → Needs m d u → u ≢ c
    needed_other d u (inl e) need same = new_apart (subst (λ z. Among z done) same (first.0 u (subst (λ z. Needs m z u) e need)))
    needed_other d u (inr there) need same = new_apart (subst (λ z. Among z done) same (needed_among m done first.2 d u there need))

    to_new : (d : ℕ) → Among d (c ∷ done) → (u x : ℕ) → Needs m d u → in_row rows u x ≡ in_row new_rows u x
    to_new d among u x need = sym (row_other u x (needed_other d u among need))

    to_old : (d : ℕ) → Among d (c ∷ done) → (u x : ℕ) → Needs m d u → in_row new_rows u x ≡ in_row rows u x
    to_old d among u x need = row_other u x (needed_other d u among need)

    home_new : IsHome m base (in_row new_rows) c class.home
    home_new = from_same m base (in_row rows) (in_row new_rows) c (to_new c (inl refl)) class.home within class.is_home

    -- the new component's class
    class_new : (x : ℕ) → (in_row new_rows c x ≡ true) ↔ InClass m base (in_row new_rows) c x
    class_new x = (
      (λ yes_x.
          let j = (class.each x).0 (sym (row_there x) ∙ yes_x) in
          record {
            home = class.home;
            is_home = home_new;
            to = joined_same m base (in_row rows) (in_row new_rows) c (to_new c (inl refl)) class.home x j.0;
            from = joined_same m base (in_row rows) (in_row new_rows) c (to_new c (inl refl)) x class.home j.1;
          }),
      (λ k.
          let old : InClass m base (in_row rows) c x = class_same m base (in_row new_rows) (in_row rows) c (to_old c (inl refl)) x k in
          let same : old.home ≡ class.home = one_end m (in_row rows) rules c (slice_index base c) old.home class.home old.is_home.count class.is_home.count (repairs_from m (in_row rows) rules c (slice_index base c) old.home old.is_home.count old.is_home.way) (repairs_from m (in_row rows) rules c (slice_index base c) class.home class.is_home.count class.is_home.way) old.is_home.sound class.is_home.sound in
          row_there x ∙ (class.each x).1 (
            subst (λ a. Joined m (in_row rows) c a x) same old.to,
            subst (λ a. Joined m (in_row rows) c x a) same old.from,
          )),
    )

    pub done_more : AreDone m base new_rows new_flags (c ∷ done)
    done_more = record {
      rows_full = length-set rows c set ∙ h.rows_full;
      flags_full = length-set flags c flag ∙ h.flags_full;
      each = λ d x among. elim (cases_eq d c) [
        | inl e ↦ subst (λ z. (in_row new_rows z x ≡ true) ↔ InClass m base (in_row new_rows) z x) (sym e) (class_new x)
        | inr ne ↦ elim among [
          | inl e ↦ absurd (ne e)
          | inr there ↦ (
            (λ yes_x. class_same m base (in_row rows) (in_row new_rows) d (to_new d (inr there)) x ((h.each d x there).0 (sym (row_other d x ne) ∙ yes_x))),
            (λ k. row_other d x ne ∙ (h.each d x there).1 (class_same m base (in_row new_rows) (in_row rows) d (to_old d (inr there)) x k)),
          )
        ]
      ];
      rest = λ d x apart. row_other d x (λ e. apart (inl e)) ∙ h.rest d x (λ there. apart (inr there));
      flagged = λ d among. elim (cases_eq d c) [
        | inl e ↦ subst (λ z. (is_set new_flags z ≡ true) ↔ ((is_broken m.moves z (slice_index base z) ≡ true) × ((a : ℕ) × IsHome m base (in_row new_rows) z a))) (sym e) (
          (λ yes_c. (sym (flag_there ∙ flag_is) ∙ yes_c, (class.home, home_new))),
          (λ k. flag_there ∙ (flag_is ∙ k.0)),
        )
        | inr ne ↦ elim among [
          | inl e ↦ absurd (ne e)
          | inr there ↦ (
            (λ yes_d.
                let k = (h.flagged d there).0 (sym (flag_other d ne) ∙ yes_d) in
                (k.0, (k.1.0, home_same m base (in_row rows) (in_row new_rows) d (to_new d (inr there)) k.1.0 k.1.1))),
            (λ k. flag_other d ne ∙ (h.flagged d there).1 (k.0, (k.1.0, home_same m base (in_row new_rows) (in_row rows) d (to_old d (inr there)) k.1.0 k.1.1))),
          )
        ]
      ];
      unflagged = λ d apart. flag_other d (λ e. apart (inl e)) ∙ h.unflagged d (λ there. apart (inr there));
    }

-- ---- nothing taken

-- of the first n components there is no class, and none is flagged
abbrev pub AreBare : List ℕ → List Bool → ℕ → Type 0
AreBare rows flags n = (c : ℕ) → c < n → (slice_index rows c ≡ 0) × (is_set flags c ≡ false)

-- one component more is let go
pub bare_more : (rows : List ℕ) (flags : List Bool) (n : ℕ) → n < length rows → n < length flags → AreBare rows flags n → AreBare (slice_set rows n 0) (slice_set flags n false) (n + 1)
bare_more rows flags n in_rows in_flags bare c less = elim (cases_eq c n) [
  | inl e ↦ (ap (λ k. slice_index (slice_set rows n 0) k) e ∙ get_or-set_same rows n 0 0 in_rows, ap (λ k. is_set (slice_set flags n false) k) e ∙ get_or-set_same flags n false false in_flags)
  | inr ne ↦ let before = bare c (omega (arith, less, ne)) in (get_or-set_other rows n c 0 0 ne ∙ before.0, get_or-set_other flags n c false false ne ∙ before.1)
]

-- all are let go
pub all_bare : (count : ℕ) (taken : Taken) → length taken.rows ≡ count → length taken.mendable ≡ count → AreBare taken.rows taken.mendable count → IsNothing count taken
all_bare count taken rows_full flags_full bare = record {
  rows_full = rows_full;
  flags_full = flags_full;
  rows = λ c x. ap (λ r. has r x) (elim (cases_lt c count) [
    | inl less ↦ (bare c less).0
    | inr past ↦ get_or_past taken.rows c 0 (omega (arith, past, rows_full))
  ]) ∙ has-empty x;
  flags = λ c. elim (cases_lt c count) [
    | inl less ↦ (bare c less).1
    | inr past ↦ get_or_past taken.mendable c false (omega (arith, past, flags_full))
  ];
}

-- where nothing is taken, the classes of no component are done
pub nothing_done : (m : PlantModel) (base order : List ℕ) (taken : Taken) (n : ℕ) → length order ≤ n → IsNothing (length m.components) taken → AreDone m base taken.rows taken.mendable (drop n order)
nothing_done m base order taken n past none = subst (AreDone m base taken.rows taken.mendable) (sym (drop_of_length-le order past)) (record {
  rows_full = none.rows_full;
  flags_full = none.flags_full;
  each = λ d x among. absurd among;
  rest = λ d x _. none.rows d x;
  flagged = λ d among. absurd among;
  unflagged = λ d _. none.flags d;
})

-- ---- the rest of an order

effects_drop : (m : PlantModel) (k : ℕ) (order : List ℕ) → AreEffectsFirst m order → AreEffectsFirst m (drop k order)
effects_drop m zero order first = first
effects_drop m (suc k) [] first = first
effects_drop m (suc k) (c ∷ order) first = effects_drop m k order first.2

-- the next component from the order's end
next_done : (order : List ℕ) (i c : ℕ) → i < length order → slice_get order (length order - 1 - i) ≡ Some c → drop (length order - (i + 1)) order ≡ c ∷ drop (length order - i) order
next_done order i c lt at =
    let j : ℕ = length order - (i + 1) in
    let here : length order - 1 - i ≡ j = omega arith in
    let within : j < length order = omega (arith, lt) in
    let next : suc j ≡ length order - i = omega (arith, lt) in
    let item : get_or order j 0 ≡ c = get_or_from_slice_get order j c 0 (subst (λ k. slice_get order k ≡ Some c) here at) in
    drop-cons order j 0 within ∙ (ap (λ x. x ∷ drop (suc j) order) item ∙ ap (λ k. c ∷ drop k order) next)

-- all components are done
all_done : (b : CompiledModel) (is : IsCompiled b) (base rows chains : List ℕ) (flags : List Bool) → IsState b.model base → AreDone b.model base rows flags b.order
    → length chains ≡ length rows → AreOpenChains b.model base (in_row rows) chains (length rows)
    → IsClasses (record { compiled = b; base = base; rows = rows; chains = chains; mendable = flags })
all_done b is base rows chains flags state h full open_ones =
    let ordered : IsOrder b.model b.order = order_from b.model b.order is.order in
    record {
      compiled = is;
      grounded = state;
      rows_full = h.rows_full;
      mendable_full = h.flags_full;
      chains_full = full ∙ h.rows_full;
      chains = λ u x lt. let on = open_ones u (omega (arith, lt, h.rows_full)) x in (
        (λ e. let k = on.0 e in record { broken = k.0; count = k.1.0; way = k.1.1 }),
        (λ k. on.1 (k.broken, (k.count, k.way))),
      );
      classes = record {
        each = λ c x. elim (cases_lt c (length b.model.components)) [
          | inl lt ↦ h.each c x (ordered.all_there c lt)
          | inr past ↦ (
            (λ yes_x. absurd (both_ways (in_row rows c x) (ap (λ r. has r x) (get_or_past rows c 0 (omega (arith, past, h.rows_full))) ∙ has-empty x) yes_x)),
            (λ k. absurd (omega (arith, past, k.is_home.within))),
          )
        ];
      };
      mendable = λ c lt. h.flagged c (ordered.all_there c lt);
    }

-- all components are done, by the model and the sets as calls read them
pub all_done_by : (b x y : CompiledModel) (is : IsCompiled b) (base rows read chains : List ℕ) (flags : List Bool) → x ≡ b → y ≡ b → read ≡ rows → IsState b.model base
    → AreDone x.model base rows flags x.order → length chains ≡ length read → AreOpenChains y.model base (in_row read) chains (length read)
    → IsClasses (record { compiled = b; base = base; rows = rows; chains = chains; mendable = flags })
all_done_by b x y is base rows read chains flags same_x same_y same_rows state done full each =
    all_done b is base rows chains flags state (subst (λ (z : CompiledModel). AreDone z.model base rows flags z.order) same_x done) (full ∙ ap length same_rows)
    (subst (λ (z : CompiledModel). AreOpenChains z.model base (in_row rows) chains (length rows)) same_y
    (subst (λ l. AreOpenChains y.model base (in_row l) chains (length l)) same_rows each))

-- a component of the order is one of the model
pub order_at : (b : CompiledModel) → IsCompiled b → (j c : ℕ) → slice_get b.order j ≡ Some c → c < length b.model.components
order_at b is j c at =
    (order_from b.model b.order is.order).within c (among_from c b.order (j, slice_get_within b.order j c at, get_or_from_slice_get b.order j c c at))

module _ (b : CompiledModel) (is : IsCompiled b) (base : List ℕ) (i c : ℕ) (lt : i < length b.order) (at : slice_get b.order (length b.order - 1 - i) ≡ Some c) (rows : List ℕ) (flags : List Bool)
    (h : AreDone b.model base rows flags (drop (length b.order - i) b.order)) where
  next : drop (length b.order - (i + 1)) b.order ≡ c ∷ drop (length b.order - i) b.order
  next = next_done b.order i c lt at

  first : AreEffectsFirst b.model (c ∷ drop (length b.order - i) b.order)
  first = subst (AreEffectsFirst b.model) next (effects_drop b.model (length b.order - (i + 1)) b.order (order_from b.model b.order is.order).effects_first)

  pub take_none : ((a : ℕ) → IsHomeFrom b.model (in_row rows) c (slice_index base c) a → ⊥) → AreDone b.model base rows flags (drop (length b.order - (i + 1)) b.order)
  take_none none = subst (AreDone b.model base rows flags) (sym next)
      (done_none b.model base rows flags c (drop (length b.order - i) b.order) first (order_at b is (length b.order - 1 - i) c at) (repair_rules b.model is.accepted.well_formed) h none)

  pub take_some : (set : ℕ) (flag : Bool) → flag ≡ is_broken b.model.moves c (slice_index base c) → IsClassFrom b.model (in_row rows) c (slice_index base c) set
      → AreDone b.model base (slice_set rows c set) (slice_set flags c flag) (drop (length b.order - (i + 1)) b.order)
  take_some set flag flag_is class = subst (AreDone b.model base (slice_set rows c set) (slice_set flags c flag)) (sym next)
      (done_more b.model base rows flags c (drop (length b.order - i) b.order) first (order_at b is (length b.order - 1 - i) c at) (repair_rules b.model is.accepted.well_formed) h set flag flag_is class)
