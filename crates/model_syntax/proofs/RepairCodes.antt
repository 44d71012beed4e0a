-- Codes and the rules of repairs.
use Rattle.std.proofs.Common.{◌||◌, ◌≡◌, ◌==◌, ◌&&◌, ◌⊎◌, ℕ, zero, suc, true, false, not, List, [], ◌∷◌, ◌++◌, Contains, refl, sym, ap, subst, ◌∙◌, inl, inr}
use Rattle.std.specs.List.{list_any, slice_index}
use Rattle.std.proofs.lemmas.Bool.{cases_Bool, cases_eq, both_ways, and_parts, and_from, eqb-true, eq-eqb, or_parts, or_from, or_cases, not-true, not_from_false, false_from_ne_true}
use Rattle.std.proofs.lemmas.List.Elements.{All-contains, Contains-push_cases, Contains-append_left, Contains-append_right}
use Rattle.std.proofs.lemmas.List.Folds.{Any-from_list_any}
use Rattle.list_laws.proofs.Tests.{no_and, and_false}
use Rattle.list_laws.proofs.Passing.{some_passes}
use Rattle.list_laws.proofs.Members.{all_from, contains_here}
use Rattle.cca_base.specs.declared.model.Move.{Move}
use Rattle.cca_base.specs.PlantModel.{PlantModel}
use Rattle.cca_base.specs.Model.{WellFormed, IsNext, RepairChain, RepairsFit, MendsAtOnce, mode_counts, is_broken, is_repair_of}
use Rattle.cca_base.proofs.NextModes.{repair_of, repair_parts, next_broken}
use Rattle.cca_base.proofs.Growth.{ordinary_fits}
use Rattle.model_syntax.specs.Codes.{leads_to, mends_elsewhere, is_move_into_broken, is_repair_into_broken, is_into_broken, is_unmarked_exit, mends_twice, is_repair_cycle, stands_in_chain}
use Rattle.model_syntax.proofs.ChainTests.{to_chain, chains_are_tested}

-- ---- a mode that is broken, and a move that is the repair

broken_by : (moves : List Move) (c mode : ℕ) (y : Move) → Contains moves y → is_repair_of c mode y ≡ true → is_broken moves c mode ≡ true
broken_by moves c mode y among is = some_passes (is_repair_of c mode) moves y among is

module _ (m : PlantModel) (w : WellFormed m) (x : Move) where
  abbrev c : ℕ
  c = x.component

  abbrev later : List Move
  later = m.moves ++ x ∷ []

  -- a mode is broken as before, or by x
  broken_after : (d mode : ℕ) → is_broken later d mode ≡ true → (is_broken m.moves d mode ≡ true) ⊎ (is_repair_of d mode x ≡ true)
  broken_after d mode e =
      let found = Any-from_list_any (is_repair_of d mode) later e in
      elim (Contains-push_cases m.moves x found.1 (found.0, found.2, found.3)) [
        | inl old ↦ inl (broken_by m.moves d mode found.1 old found.4)
        | inr same ↦ inr (ap (is_repair_of d mode) same ∙ found.4)
      ]

  next_after : (d a b : ℕ) → IsNext later d a b → IsNext m.moves d a b ⊎ ((is_repair_of d a x ≡ true) × (x.target ≡ b))
  next_after d a b p = elim (Contains-push_cases m.moves x p.repair p.of_model) [
    | inl old ↦ inl (record { repair = p.repair; of_model = old; mends = p.mends; target = p.target })
    | inr same ↦ inr (ap (is_repair_of d a) same ∙ p.mends, ap (λ (y : Move). y.target) same ∙ p.target)
  ]

  module _ (into : is_into_broken m x ≡ false) (exit : is_unmarked_exit m.moves x ≡ false) (twice : mends_twice m.moves x ≡ false)
      (cycle : is_repair_cycle m x ≡ false) (repair : x.repair ≡ true) where
    move_into : is_move_into_broken m.moves x ≡ false
    move_into = (or_parts (is_move_into_broken m.moves x) _ into).0

    -- where no ordinary move has this end in the mode that x repairs, a move that has it is a repair
    only_repairs : (end : Move → ℕ) → ((not x.repair && is_broken m.moves c (end x)) || (x.repair && list_any (λ y. not y.repair && (y.component == c && end y == x.source)) m.moves)) ≡ false
        → (y : Move) → Contains m.moves y → y.component ≡ c → end y ≡ x.source → y.repair ≡ true
    only_repairs end none y among own there = elim (cases_Bool y.repair) [
      | inl marked ↦ marked
      | inr plain ↦
          let free = and_false x.repair _ (or_parts (not x.repair && is_broken m.moves c (end x)) _ none).1 repair in
          absurd (both_ways (list_any (λ y. not y.repair && (y.component == c && end y == x.source)) m.moves) free (some_passes (λ y. not y.repair && (y.component == c && end y == x.source)) m.moves y among
          (and_from (not y.repair) _ (not_from_false y.repair plain) (and_from (y.component == c) (end y == x.source) (eq-eqb y.component c own) (eq-eqb (end y) x.source there)))))
    ]

    -- earlier repairs of the same mode lead where x does
    same_target : (d a b : ℕ) → IsNext m.moves d a b → is_repair_of d a x ≡ true → b ≡ x.target
    same_target d a b p is = elim (cases_eq p.repair.target x.target) [
      | inl same ↦ sym p.target ∙ same
      | inr other ↦
          let y : Move = p.repair in
          let mine = repair_parts d a x is in
          let its = repair_parts d a y p.mends in
          let free = and_false x.repair _ twice repair in
          let differs : (y.target == x.target) ≡ false = false_from_ne_true (y.target == x.target) (λ e. other (eqb-true y.target x.target e)) in
          absurd (both_ways (list_any (mends_elsewhere c x.source x.target) m.moves) free (some_passes (mends_elsewhere c x.source x.target) m.moves y p.of_model
          (and_from y.repair _ its.0 (and_from (y.component == c && y.source == x.source) (not (y.target == x.target))
          (and_from (y.component == c) (y.source == x.source) (eq-eqb y.component c (its.1 ∙ sym mine.1)) (eq-eqb y.source x.source (its.2 ∙ sym mine.2)))
          (not_from_false (y.target == x.target) differs)))))
    ]

    -- ---- no cycle

    -- the earlier chain of the target has no source of x; in the first version since the source is no target at all
    not_back : (n : ℕ) → RepairChain m.moves c x.target x.source n → ⊥
    not_back n p = elim (cases_Bool (m.version == 1)) [
      | inr second ↦
          let free = and_false x.repair _ (and_false (not (m.version == 1)) _ cycle (not_from_false (m.version == 1) second)) repair in
          both_ways (stands_in_chain m c x.target x.source) free ((chains_are_tested m w c x.target x.source).1 (n, p))
      | inl first ↦ at_once first n p
    ]
      where
        at_once : (m.version == 1) ≡ true → (n : ℕ) → RepairChain m.moves c x.target x.source n → ⊥
        at_once first zero e =
            let free = and_false x.repair _ (and_false (m.version == 1) _ (or_parts (is_move_into_broken m.moves x) _ into).1 first) repair in
            let none = (or_parts (is_broken m.moves c x.target) _ free).1 in
            both_ways (list_any (leads_to c x.source) later) none (some_passes (leads_to c x.source) later x (Contains-append_right m.moves (x ∷ []) x (contains_here x x [] refl))
            (and_from (x.component == c) (x.target == x.source) (eq-eqb c c refl) (eq-eqb x.target x.source e)))
        at_once first (suc n) p =
            let free = and_false x.repair _ (and_false (m.version == 1) _ (or_parts (is_move_into_broken m.moves x) _ into).1 first) repair in
            both_ways (is_broken m.moves c x.target) (or_parts (is_broken m.moves c x.target) _ free).0 (next_broken m.moves c x.target p.0 p.1)

    -- a chain to the source of x is an earlier one, up to where it comes there first
    back_to : (a n : ℕ) → RepairChain later c a x.source n → (k : ℕ) × RepairChain m.moves c a x.source k
    back_to a zero e = (0, e)
    back_to a (suc n) p = elim (next_after c a p.0 p.1) [
      | inl old ↦ let rest = back_to p.0 n p.2 in (suc rest.0, (p.0, old, rest.1))
      | inr new ↦ (0, sym (repair_parts c a x new.0).2)
    ]

    -- a chain is an earlier one, or leads on from the target of x
    split : (d a b n : ℕ) → RepairChain later d a b n → RepairChain m.moves d a b n
        ⊎ ((c ≡ d) × ((i : ℕ) × RepairChain later d a x.source i) × ((j : ℕ) × RepairChain later d x.target b j))
    split d a b zero e = inl e
    split d a b (suc n) p = elim (next_after d a p.0 p.1) [
      | inr new ↦
          let parts = repair_parts d a x new.0 in
          inr (parts.1, (0, sym parts.2), (n, subst (λ y. RepairChain later d y b n) (sym new.1) p.2))
      | inl old ↦ elim (split d p.0 b n p.2) [
        | inl rest ↦ inl (p.0, old, rest)
        | inr more ↦ inr (more.0, (suc more.1.0, (p.0, p.1, more.1.1)), more.2)
      ]
    ]

    joined : (d a b e n k : ℕ) → RepairChain later d a b n → RepairChain later d b e k → (j : ℕ) × RepairChain later d a e j
    joined d a b e zero k same q = (k, subst (λ y. RepairChain later d y e k) (sym same) q)
    joined d a b e (suc n) k p q = let rest = joined d p.0 b e n k p.2 q in (suc rest.0, (p.0, p.1, rest.1))

    no_cycle : (d mode n : ℕ) → RepairChain later d mode mode (suc n) → ⊥
    no_cycle d mode n p = elim (split d mode mode (suc n) p) [
      | inl old ↦ w.repairs.no_cycle d mode n old
      | inr new ↦
          let round = joined d x.target mode x.source new.2.0 new.1.0 new.2.1 new.1.1 in
          let back = back_to x.target round.0 (subst (λ e. RepairChain later e x.target x.source round.0) (sym new.0) round.1) in
          not_back back.0 back.1
    ]

    -- ---- the first version

    at_once_after : m.version ≡ 1 → MendsAtOnce later
    at_once_after first d a b p = false_from_ne_true (is_broken later d b) (λ broken.
        let free = and_false x.repair _ (and_false (m.version == 1) _ (or_parts (is_move_into_broken m.moves x) _ into).1 (eq-eqb m.version 1 first)) repair in
        let parts = or_parts (is_broken m.moves c x.target) _ free in
        elim (next_after d a b p) [
          | inl old ↦ elim (broken_after d b broken) [
            | inl before ↦ both_ways (is_broken m.moves d b) (w.repairs.at_once first d a b old) before
            | inr now ↦
                let mine = repair_parts d b x now in
                let its = repair_parts d a old.repair old.mends in
                both_ways (list_any (leads_to c x.source) later) parts.1 (some_passes (leads_to c x.source) later old.repair (Contains-append_left m.moves (x ∷ []) old.repair old.of_model)
                (and_from (old.repair.component == c) (old.repair.target == x.source) (eq-eqb old.repair.component c (its.1 ∙ sym mine.1)) (eq-eqb old.repair.target x.source (old.target ∙ sym mine.2))))
          ]
          | inr new ↦
              let mine = repair_parts d a x new.0 in
              elim (broken_after d b broken) [
                | inl before ↦ both_ways (is_broken m.moves c x.target) parts.0
                    (subst (λ y. is_broken m.moves c y ≡ true) (sym new.1) (subst (λ e. is_broken m.moves e b ≡ true) (sym mine.1) before))
                | inr now ↦
                    let here = repair_parts d b x now in
                    both_ways (list_any (leads_to c x.source) later) parts.1 (some_passes (leads_to c x.source) later x (Contains-append_right m.moves (x ∷ []) x (contains_here x x [] refl))
                    (and_from (x.component == c) (x.target == x.source) (eq-eqb c c refl) (eq-eqb x.target x.source (new.1 ∙ sym here.2))))
              ]
        ])

    pub repair_fits : RepairsFit m.version later
    repair_fits = record {
      one_target = λ d mode a b p q. elim (next_after d mode a p) [
        | inl old ↦ elim (next_after d mode b q) [
          | inl also ↦ w.repairs.one_target d mode a b old also
          | inr new ↦ same_target d mode a old new.0 ∙ new.1
        ]
        | inr new ↦ elim (next_after d mode b q) [
          | inl old ↦ sym new.1 ∙ sym (same_target d mode b old new.0)
          | inr also ↦ sym new.1 ∙ also.1
        ]
      ];
      no_cycle = no_cycle;
      at_once = at_once_after;
      only_repairs_enter = all_from (λ y. is_broken later y.component y.target ≡ true → y.repair ≡ true) later (λ y among broken. elim (Contains-push_cases m.moves x y among) [
        | inr same ↦ sym (ap (λ (z : Move). z.repair) same) ∙ repair
        | inl old ↦ elim (broken_after y.component y.target broken) [
          | inl before ↦ All-contains (λ z. is_broken m.moves z.component z.target ≡ true → z.repair ≡ true) m.moves y w.repairs.only_repairs_enter old before
          | inr now ↦ let mine = repair_parts y.component y.target x now in only_repairs (λ z. z.target) move_into y old (sym mine.1) (sym mine.2)
        ]
      ]);
      only_repairs_leave = all_from (λ y. is_broken later y.component y.source ≡ true → y.repair ≡ true) later (λ y among broken. elim (Contains-push_cases m.moves x y among) [
        | inr same ↦ sym (ap (λ (z : Move). z.repair) same) ∙ repair
        | inl old ↦ elim (broken_after y.component y.source broken) [
          | inl before ↦ All-contains (λ z. is_broken m.moves z.component z.source ≡ true → z.repair ≡ true) m.moves y w.repairs.only_repairs_leave old before
          | inr now ↦ let mine = repair_parts y.component y.source x now in only_repairs (λ z. z.source) exit y old (sym mine.1) (sym mine.2)
        ]
      ]);
    }

pub codes_keep_rules : (m : PlantModel) → WellFormed m → (x : Move)
    → is_into_broken m x ≡ false → is_unmarked_exit m.moves x ≡ false → mends_twice m.moves x ≡ false → is_repair_cycle m x ≡ false
    → RepairsFit m.version (m.moves ++ x ∷ [])
codes_keep_rules m w x into exit twice cycle = elim (cases_Bool x.repair) [
  | inl repair ↦ repair_fits m w x into exit twice cycle repair
  | inr plain ↦ ordinary_fits m.version m.moves x w.repairs plain
      (and_false (not x.repair) _ (or_parts (not x.repair && is_broken m.moves x.component x.source) _ exit).0 (not_from_false x.repair plain))
      (and_false (not x.repair) _ (or_parts (not x.repair && is_broken m.moves x.component x.target) _ (or_parts (is_move_into_broken m.moves x) _ into).0).0 (not_from_false x.repair plain))
]

-- ---- no code to a move of a well-formed model

module _ (m : PlantModel) (x : Move) (rest : List Move) (h : RepairsFit m.version (m.moves ++ x ∷ rest)) where
  abbrev whole : List Move
  whole = m.moves ++ x ∷ rest

  here : Contains whole x
  here = Contains-append_right m.moves (x ∷ rest) x (contains_here x x rest refl)

  there : (y : Move) → Contains m.moves y → Contains whole y
  there y among = Contains-append_left m.moves (x ∷ rest) y among

  enters : (y : Move) → Contains whole y → is_broken whole y.component y.target ≡ true → y.repair ≡ true
  enters y among broken = All-contains (λ z. is_broken whole z.component z.target ≡ true → z.repair ≡ true) whole y h.only_repairs_enter among broken

  leaves : (y : Move) → Contains whole y → is_broken whole y.component y.source ≡ true → y.repair ≡ true
  leaves y among broken = All-contains (λ z. is_broken whole z.component z.source ≡ true → z.repair ≡ true) whole y h.only_repairs_leave among broken

  broken_whole : (d mode : ℕ) → is_broken m.moves d mode ≡ true → is_broken whole d mode ≡ true
  broken_whole d mode e = let found = Any-from_list_any (is_repair_of d mode) m.moves e in broken_by whole d mode found.1 (there found.1 (found.0, found.2, found.3)) found.4

  -- the source of a repair is broken, and its target is next
  own_source : x.repair ≡ true → is_broken whole x.component x.source ≡ true
  own_source repair = broken_by whole x.component x.source x here (repair_of x.component x.source x repair refl refl)

  own_next : (y : Move) → Contains whole y → y.repair ≡ true → IsNext whole y.component y.source y.target
  own_next y among repair = record { repair = y; of_model = among; mends = repair_of y.component y.source y repair refl refl; target = refl }

  chain_whole : (d a b n : ℕ) → RepairChain m.moves d a b n → RepairChain whole d a b n
  chain_whole d a b zero e = e
  chain_whole d a b (suc n) p =
      (p.0, record { repair = p.1.repair; of_model = there p.1.repair p.1.of_model; mends = p.1.mends; target = p.1.target }, chain_whole d p.0 b n p.2)

  -- where only repairs have an end in a broken mode: an ordinary move has none, and neither has one before a repair that breaks the mode
  no_ordinary : (end : Move → ℕ) → ((y : Move) → Contains whole y → is_broken whole y.component (end y) ≡ true → y.repair ≡ true)
      → ((not x.repair && is_broken m.moves x.component (end x)) || (x.repair && list_any (λ y. not y.repair && (y.component == x.component && end y == x.source)) m.moves)) ≡ false
  no_ordinary end repairs = or_from (not x.repair && is_broken m.moves x.component (end x)) _
      (no_and (not x.repair) (is_broken m.moves x.component (end x)) (λ plain broken.
      both_ways x.repair (not-true x.repair plain) (repairs x here (broken_whole x.component (end x) broken))))
      (no_and x.repair (list_any (λ y. not y.repair && (y.component == x.component && end y == x.source)) m.moves) (λ repair some.
      let found = Any-from_list_any (λ y. not y.repair && (y.component == x.component && end y == x.source)) m.moves some in
      let y : Move = found.1 in
      let parts = and_parts (not y.repair) (y.component == x.component && end y == x.source) found.4 in
      let ends = and_parts (y.component == x.component) (end y == x.source) parts.1 in
      both_ways y.repair (not-true y.repair parts.0) (repairs y (there y (found.0, found.2, found.3))
      (subst (λ d. is_broken whole d (end y) ≡ true) (sym (eqb-true y.component x.component ends.0))
      (subst (λ t. is_broken whole x.component t ≡ true) (sym (eqb-true (end y) x.source ends.1)) (own_source repair))))))

  not_move_into : is_move_into_broken m.moves x ≡ false
  not_move_into = no_ordinary (λ y. y.target) enters

  -- in the first version the source of a repair is no target
  no_target : m.version ≡ 1 → x.repair ≡ true → (y : Move) → Contains whole y → leads_to x.component x.source y ≡ true → ⊥
  no_target first repair y among led =
      let ends = and_parts (y.component == x.component) (y.target == x.source) led in
      let broken : is_broken whole y.component y.target ≡ true =
      subst (λ d. is_broken whole d y.target ≡ true) (sym (eqb-true y.component x.component ends.0))
      (subst (λ t. is_broken whole x.component t ≡ true) (sym (eqb-true y.target x.source ends.1)) (own_source repair)) in
      both_ways (is_broken whole y.component y.target) (h.at_once first y.component y.source y.target (own_next y among (enters y among broken))) broken

  not_repair_into : m.version ≡ 1 → is_repair_into_broken m.moves x ≡ false
  not_repair_into first = no_and x.repair _ (λ repair some. elim (or_cases (is_broken m.moves x.component x.target) _ some) [
    | inl broken ↦ both_ways (is_broken whole x.component x.target) (h.at_once first x.component x.source x.target (own_next x here repair)) (broken_whole x.component x.target broken)
    | inr led ↦
        let found = Any-from_list_any (leads_to x.component x.source) (m.moves ++ x ∷ []) led in
        elim (Contains-push_cases m.moves x found.1 (found.0, found.2, found.3)) [
          | inl old ↦ no_target first repair found.1 (there found.1 old) found.4
          | inr same ↦ no_target first repair x here (ap (leads_to x.component x.source) same ∙ found.4)
        ]
  ])

  not_exit : is_unmarked_exit m.moves x ≡ false
  not_exit = no_ordinary (λ y. y.source) leaves

  not_twice : mends_twice m.moves x ≡ false
  not_twice = no_and x.repair (list_any (mends_elsewhere x.component x.source x.target) m.moves) (λ repair some.
      let found = Any-from_list_any (mends_elsewhere x.component x.source x.target) m.moves some in
      let y : Move = found.1 in
      let parts = and_parts y.repair ((y.component == x.component && y.source == x.source) && not (y.target == x.target)) found.4 in
      let rest_parts = and_parts (y.component == x.component && y.source == x.source) (not (y.target == x.target)) parts.1 in
      let ends = and_parts (y.component == x.component) (y.source == x.source) rest_parts.0 in
      let its : IsNext whole x.component x.source y.target = record {
        repair = y;
        of_model = there y (found.0, found.2, found.3);
        mends = repair_of x.component x.source y parts.0 (eqb-true y.component x.component ends.0) (eqb-true y.source x.source ends.1);
        target = refl;
      } in
      both_ways (y.target == x.target) (not-true (y.target == x.target) rest_parts.1)
      (eq-eqb y.target x.target (h.one_target x.component x.source y.target x.target its (own_next x here repair))))

  not_cycle : is_repair_cycle m x ≡ false
  not_cycle = no_and (not (m.version == 1)) (x.repair && stands_in_chain m x.component x.target x.source) (λ _ some.
      let parts = and_parts x.repair (stands_in_chain m x.component x.target x.source) some in
      let chain = to_chain m.moves x.component (slice_index (mode_counts m) x.component) x.target x.source parts.1 in
      h.no_cycle x.component x.source chain.0 (x.target, own_next x here parts.0, chain_whole x.component x.target x.source chain.0 chain.1))

  pub rules_give_no_code : (is_into_broken m x ≡ false) × (is_unmarked_exit m.moves x ≡ false) × (mends_twice m.moves x ≡ false) × (is_repair_cycle m x ≡ false)
  rules_give_no_code = (
    or_from (is_move_into_broken m.moves x) _ not_move_into (no_and (m.version == 1) (is_repair_into_broken m.moves x) (λ first some.
        both_ways (is_repair_into_broken m.moves x) (not_repair_into (eqb-true m.version 1 first)) some)),
    not_exit,
    not_twice,
    not_cycle,
  )
