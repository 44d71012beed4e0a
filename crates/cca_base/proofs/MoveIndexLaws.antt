-- An index of moves stays right as the model grows.
use Rattle.std.proofs.Common.{◌≡◌, ◌<◌, ◌≤◌, ◌==◌, ◌||◌, if◌then◌else◌, ◌⊎◌, ℕ, ◌-◌, take, Bool, true, false, inl, inr, List, [], ◌∷◌, ◌++◌, Option, Some, None, length, map, set, get_or, slice_index, slice_get, replicate, Contains, refl, sym, ap, subst, ◌∙◌, arith}
use Rattle.std.specs.List.{list_any}
use Rattle.std.proofs.Math.Seq.{map-set_same, get_or-append_seam, take-append_seam}
use Rattle.std.proofs.lemmas.Bool.{cases_Bool, cond-true, cond-false, eq-eqb, eqb-true, false≢true, both_ways, cases_eq, cases_order, cases_lt}
use Rattle.std.proofs.lemmas.Option.{same_Some, slice_get_within, slice_get-get_or, get_or_from_slice_get}
use Rattle.std.proofs.lemmas.List.{get_or-set_same, get_or-set_other, get_or_append_left, get_or_past, get_or-take, length-take-le, length_push, length-set, set-get_or, set-set, get_or-replicate, length-replicate, map_push, length-map, get_or-map}
use Rattle.std.proofs.lemmas.List.Elements.{All-contains, Contains-get_or, Contains-push, Contains-push_cases}
use Rattle.std.proofs.lemmas.List.Folds.{list_any-append, list_any-from_Any, Any-from_list_any}
use Rattle.std.proofs.lemmas.List.Quantifiers.{all_pairs_push}
use Rattle.cca_base.specs.declared.index.MoveIndex.{MoveIndex}
use Rattle.cca_base.specs.declared.model.Component.{Component}
use Rattle.cca_base.specs.declared.model.Move.{Move}
use Rattle.cca_base.specs.PlantModel.{PlantModel}
use Rattle.cca_base.specs.Model.{WellFormed, IsMove, with_move, mode_counts, HasMode, is_broken, is_repair_of, is_used, IsNext}
use Rattle.cca_base.specs.MoveIndex.{HasKey, IsMoveBy, IsMoveNamed, AreRowsBy, IsNextOrNone, AreNexts, IsIndex, SameRows, HasComponentMore, HasCommandMore, HasMoveMore, with_next_at}
use Rattle.cca_base.specs.Relations.{AreExactly}
use Rattle.cca_base.proofs.Growth.{slice_get_front, slice_get_cases, slice_get_last}
use Rattle.cca_base.proofs.Within.{mode_within}
use Rattle.cca_base.proofs.NextModes.{repair_of, repair_parts}

module _ (key : Move → ℕ) (moves : List Move) (x : Move) where
  abbrev later : List Move
  later = moves ++ x ∷ []

  -- a move keeps its number, and the new one has the next
  has_front : (k i : ℕ) → HasKey key moves k i → HasKey key later k i
  has_front k i h = (h.0, slice_get_front moves x i h.0 h.1, h.2)

  has_cases : (k i : ℕ) → HasKey key later k i → HasKey key moves k i ⊎ ((i ≡ length moves) × (key x ≡ k))
  has_cases k i h = elim (slice_get_cases moves x i h.0 h.1) [
    | inl front ↦ inl (h.0, front, h.2)
    | inr last ↦ inr (last.0, ap key last.1 ∙ h.2)
  ]

  row_grows : (k : ℕ) (row : List ℕ) → key x ≡ k → AreExactly (HasKey key moves k) row → AreExactly (HasKey key later k) (row ++ length moves ∷ [])
  row_grows k row own h = record {
    rising = all_pairs_push (λ u v. u < v) row (length moves) h.rising
        (λ i d within. let among = (h.each (get_or row i d)).0 (Contains-get_or row i d within) in slice_get_within moves (get_or row i d) among.0 among.1);
    each = λ i. (
      λ among. elim (Contains-push_cases row (length moves) i among) [
        | inl old ↦ has_front k i ((h.each i).0 old)
        | inr new ↦ (x, slice_get_last moves x i (sym new), own)
      ],
      λ has. elim (has_cases k i has) [
        | inl old ↦ let there = (h.each i).1 old in (there.0, omega (arith, there.1, length_push row (length moves)), get_or_append_left row (length moves ∷ []) i there.0 there.1 ∙ there.2)
        | inr new ↦ subst (Contains (row ++ length moves ∷ [])) (sym new.0) (Contains-push row (length moves))
      ],
    );
  }

  row_stays : (k : ℕ) (row : List ℕ) → (key x ≡ k → ⊥) → AreExactly (HasKey key moves k) row → AreExactly (HasKey key later k) row
  row_stays k row other h = record {
    rising = h.rising;
    each = λ i. (
      λ among. has_front k i ((h.each i).0 among),
      λ has. elim (has_cases k i has) [ inl old ↦ (h.each i).1 old | inr new ↦ absurd (other new.1) ],
    );
  }

  -- the row of the new move's key has its number besides
  rows_grow : (rows : List (List ℕ)) → key x < length rows → AreRowsBy key moves rows
      → AreRowsBy key (moves ++ x ∷ []) (set rows (key x) (get_or rows (key x) [] ++ length moves ∷ []))
  rows_grow rows within h k = elim (cases_eq k (key x)) [
    | inl own ↦ subst (λ j. AreExactly (HasKey key later j) (get_or (set rows (key x) (get_or rows (key x) [] ++ length moves ∷ [])) j [])) (sym own)
        (subst (AreExactly (HasKey key later (key x))) (sym (get_or-set_same rows (key x) (get_or rows (key x) [] ++ length moves ∷ []) [] within))
        (row_grows (key x) (get_or rows (key x) []) refl (h (key x))))
    | inr other ↦ subst (AreExactly (HasKey key later k)) (sym (get_or-set_other rows (key x) k (get_or rows (key x) [] ++ length moves ∷ []) [] other))
        (row_stays k (get_or rows k []) (λ e. other (sym e)) (h k))
  ]

-- where no move has a key, its row is empty
no_row : (key : Move → ℕ) (moves : List Move) (k : ℕ) → ((move : Move) → Contains moves move → key move ≡ k → ⊥) → AreExactly (HasKey key moves k) []
no_row key moves k none = record {
  rising = λ i j d less within. absurd (omega (arith, within));
  each = λ i. (
    λ among. absurd (omega (arith, among.1)),
    λ has. absurd (none has.0 (i, slice_get_within moves i has.0 has.1, get_or_from_slice_get moves i has.0 has.0 has.1) has.2),
  );
}

-- ---- what repairs lead to

module _ (moves : List Move) (x : Move) where
  abbrev repairs : ℕ → ℕ → Bool
  repairs c mode = is_repair_of c mode x

  -- a repair leads on where it did, and the new one leads to its target
  next_front : (c a b : ℕ) → IsNext moves c a b → IsNext (moves ++ x ∷ []) c a b
  next_front c a b h =
      let among = h.of_model in
      record { repair = h.repair; of_model = (among.0, omega (arith, among.1, length_push moves x), get_or_append_left moves (x ∷ []) h.repair among.0 among.1 ∙ among.2); mends = h.mends; target = h.target }

  next_new : x.repair ≡ true → IsNext (moves ++ x ∷ []) x.component x.source x.target
  next_new marked = record { repair = x; of_model = Contains-push moves x; mends = repair_of x.component x.source x marked refl refl; target = refl }

  sound_grows : (c a : ℕ) → repairs c a ≡ false → is_broken moves c a ≡ false → is_broken (moves ++ x ∷ []) c a ≡ false
  sound_grows c a none sound = list_any-append (is_repair_of c a) moves (x ∷ []) ∙ ap (λ b. b || list_any (is_repair_of c a) (x ∷ [])) sound ∙ ap (λ b. b || false) none

  old_next : (c a : ℕ) (next : Option ℕ) → repairs c a ≡ false → IsNextOrNone moves c a next → IsNextOrNone (moves ++ x ∷ []) c a next
  old_next c a None none h = sound_grows c a none h
  old_next c a (Some b) none h = next_front c a b h

  is_other : (c a : ℕ) → (x.repair ≡ true → x.component ≡ c → x.source ≡ a → ⊥) → repairs c a ≡ false
  is_other c a other = elim (cases_Bool (repairs c a)) [
    | inl one ↦ let parts = repair_parts c a x one in absurd (other parts.0 parts.1 parts.2)
    | inr none ↦ none
  ]

  -- a move that is no repair changes nothing
  nexts_stay : (rows : List (List (Option ℕ))) → x.repair ≡ false → AreNexts moves rows → AreNexts (moves ++ x ∷ []) rows
  nexts_stay rows plain h c a =
      old_next c a (get_or (get_or rows c []) a None) (is_other c a (λ marked own source. both_ways x.repair plain marked)) (h c a)

  -- a repair's source has its target
  nexts_grow : (rows : List (List (Option ℕ))) → x.repair ≡ true → x.component < length rows → x.source < length (get_or rows x.component [])
      → AreNexts moves rows → AreNexts (moves ++ x ∷ []) (set rows x.component (set (get_or rows x.component []) x.source (Some x.target)))
  nexts_grow rows marked within inside h c a = elim (cases_eq c x.component) [
    | inl own ↦
        subst (λ row. IsNextOrNone (moves ++ x ∷ []) c a (get_or row a None)) (sym (here c own))
        (elim (cases_eq a x.source) [
          | inl source ↦ subst (IsNextOrNone (moves ++ x ∷ []) c a) (sym (there a source))
              (subst (λ d. IsNext (moves ++ x ∷ []) d a x.target) (sym own) (subst (λ d. IsNext (moves ++ x ∷ []) x.component d x.target) (sym source) (next_new marked)))
          | inr other ↦ subst (IsNextOrNone (moves ++ x ∷ []) c a) (sym (get_or-set_other row x.source a (Some x.target) None other ∙ ap (λ d. get_or (get_or rows d []) a None) (sym own)))
              (old_next c a (get_or (get_or rows c []) a None) (is_other c a (λ m e f. other (sym f))) (h c a))
        ])
    | inr other ↦
        subst (λ row. IsNextOrNone (moves ++ x ∷ []) c a (get_or row a None)) (sym (get_or-set_other rows x.component c (set row x.source (Some x.target)) [] other))
        (old_next c a (get_or (get_or rows c []) a None) (is_other c a (λ m e f. other (sym e))) (h c a))
  ]
    where
      row : List (Option ℕ)
      row = get_or rows x.component []

      here : (c : ℕ) → c ≡ x.component → get_or (set rows x.component (set row x.source (Some x.target))) c [] ≡ set row x.source (Some x.target)
      here c own = ap (λ d. get_or (set rows x.component (set row x.source (Some x.target))) d []) own ∙ get_or-set_same rows x.component (set row x.source (Some x.target)) [] within

      there : (a : ℕ) → a ≡ x.source → get_or (set row x.source (Some x.target)) a None ≡ Some x.target
      there a source = ap (λ d. get_or (set row x.source (Some x.target)) d None) source ∙ get_or-set_same row x.source (Some x.target) None inside

-- each row is as long as it was
sizes_stay : (rows : List (List (Option ℕ))) (c a : ℕ) (next : Option ℕ) → map length (set rows c (set (get_or rows c []) a next)) ≡ map length rows
sizes_stay rows c a next = map-set_same length rows c (set (get_or rows c []) a next) [] (length-set (get_or rows c []) a next)

-- ---- what is put is taken back

module _ {X : Type 0} where
  last_taken : (xs : List X) (x : X) → take (length (xs ++ x ∷ []) - 1) (xs ++ x ∷ []) ≡ xs
  last_taken xs x =
      let shorter : length (xs ++ x ∷ []) - 1 ≡ length xs = omega (arith, length_push xs x) in
      ap (λ n. take n (xs ++ x ∷ [])) shorter ∙ take-append_seam xs (x ∷ [])

  -- what was pushed and taken back again
  popped : (xs : List X) (x : X) (more less : List X) → less ≡ take (length more - 1) more → more ≡ xs ++ x ∷ [] → less ≡ xs
  popped xs x more less took pushed = took ∙ ap (λ (ys : List X). take (length ys - 1) ys) pushed ∙ last_taken xs x

  -- the rows without the last number of one, which was put there
  pub taken_again : (rows : List (List X)) (k : ℕ) (x : X) → k < length rows → let more : List (List X) = set rows k (get_or rows k [] ++ x ∷ []) in
      set more k (take (length (get_or more k []) - 1) (get_or more k [])) ≡ rows
  taken_again rows k x within =
      let row = get_or rows k [] in
      let more = set rows k (row ++ x ∷ []) in
      let longer : get_or more k [] ≡ row ++ x ∷ [] = get_or-set_same rows k (row ++ x ∷ []) [] within in
      ap (λ l. set more k (take (length l - 1) l)) longer ∙ ap (set more k) (last_taken row x) ∙ set-set rows k (row ++ x ∷ []) row ∙ set-get_or rows k []

-- ---- rows of what has no moves yet

module _ {X : Type 0} (rows : List (List X)) where
  -- an empty row more changes nothing
  empty_row_more : (k : ℕ) → get_or (rows ++ [] ∷ []) k [] ≡ get_or rows k []
  empty_row_more k = elim (cases_order k (length rows)) [
    | inl same ↦ subst (λ j. get_or (rows ++ [] ∷ []) j [] ≡ get_or rows j []) (sym same) (get_or-append_seam rows [] [] [] ∙ sym (get_or_past rows (length rows) [] (omega arith)))
    | inr (inl less) ↦ get_or_append_left rows ([] ∷ []) [] k less
    | inr (inr more) ↦ get_or_past (rows ++ [] ∷ []) k [] (omega (arith, length_push rows [], more)) ∙ sym (get_or_past rows k [] (omega (arith, more)))
  ]

abbrev nones : ℕ → List (Option ℕ)
nones n = replicate n None

-- a row more of modes without a next one changes nothing
nones_more : (rows : List (List (Option ℕ))) (n c mode : ℕ) → get_or (get_or (rows ++ nones n ∷ []) c []) mode None ≡ get_or (get_or rows c []) mode None
nones_more rows n c mode = elim (cases_order c (length rows)) [
  | inl same ↦ subst (λ j. get_or (get_or (rows ++ nones n ∷ []) j []) mode None ≡ get_or (get_or rows j []) mode None) (sym same)
      (ap (λ row. get_or row mode None) (get_or-append_seam rows (nones n) [] []) ∙ all_none
      ∙ sym (ap (λ row. get_or row mode None) (get_or_past rows (length rows) [] (omega arith))))
  | inr (inl less) ↦ ap (λ row. get_or row mode None) (get_or_append_left rows (nones n ∷ []) [] c less)
  | inr (inr more) ↦ ap (λ row. get_or row mode None)
      (get_or_past (rows ++ nones n ∷ []) c [] (omega (arith, length_push rows (nones n), more)) ∙ sym (get_or_past rows c [] (omega (arith, more))))
]
  where
    all_none : get_or (nones n) mode None ≡ None
    all_none = elim (cases_lt mode n) [
      | inl less ↦ get_or-replicate n mode None None less
      | inr more ↦ get_or_past (nones n) mode None (omega (arith, length-replicate {A = Option ℕ} n None, more))
    ]

-- ---- the whole index

module _ (cs : List Component) (ks : List (List ℕ)) (moves : List Move) (x y : MoveIndex) (h : IsIndex cs ks moves x) where
  rows_same : SameRows x y → IsIndex cs ks moves y
  rows_same e = record {
    row_a_command = ap length e.by_command ∙ h.row_a_command;
    by_command = subst (AreRowsBy (λ move. move.command) moves) (sym e.by_command) h.by_command;
    row_a_component = ap length e.by_component ∙ h.row_a_component;
    by_component = subst (AreRowsBy (λ move. move.component) moves) (sym e.by_component) h.by_component;
    mode_by_mode = ap (map length) e.next ∙ h.mode_by_mode;
    next = subst (AreNexts moves) (sym e.next) h.next;
  }

  pub component_more : (c : Component) → HasComponentMore (length c.modes) x y → IsIndex (cs ++ c ∷ []) ks moves y
  component_more c e = record {
    row_a_command = ap length e.by_command ∙ h.row_a_command;
    by_command = subst (AreRowsBy (λ move. move.command) moves) (sym e.by_command) h.by_command;
    row_a_component = omega (arith, ap length e.by_component, length_push x.by_component.items [], length_push cs c, h.row_a_component);
    by_component = subst (AreRowsBy (λ move. move.component) moves) (sym e.by_component)
        (λ k. subst (AreExactly (HasKey (λ move. move.component) moves k)) (sym (empty_row_more x.by_component.items k)) (h.by_component k));
    mode_by_mode = ap (map length) e.next ∙ map_push length x.next.items (nones (length c.modes)) ∙ ap (λ l. l ++ length (nones (length c.modes)) ∷ []) h.mode_by_mode
        ∙ ap (λ n. map (λ d. length d.modes) cs ++ n ∷ []) (length-replicate {A = Option ℕ} (length c.modes) None) ∙ sym (map_push (λ d. length d.modes) cs c);
    next = subst (AreNexts moves) (sym e.next) (λ d mode. subst (IsNextOrNone moves d mode) (sym (nones_more x.next.items (length c.modes) d mode)) (h.next d mode));
  }

  pub command_more : (name : List ℕ) → HasCommandMore x y → IsIndex cs (ks ++ name ∷ []) moves y
  command_more name e = record {
    row_a_command = omega (arith, ap length e.by_command, length_push x.by_command.items [], length_push ks name, h.row_a_command);
    by_command = subst (AreRowsBy (λ move. move.command) moves) (sym e.by_command)
        (λ k. subst (AreExactly (HasKey (λ move. move.command) moves k)) (sym (empty_row_more x.by_command.items k)) (h.by_command k));
    row_a_component = ap length e.by_component ∙ h.row_a_component;
    by_component = subst (AreRowsBy (λ move. move.component) moves) (sym e.by_component) h.by_component;
    mode_by_mode = ap (map length) e.next ∙ h.mode_by_mode;
    next = subst (AreNexts moves) (sym e.next) h.next;
  }

  pub command_less : 0 < length ks → is_used moves (length ks - 1) ≡ false → y.by_command.items ≡ take (length x.by_command.items - 1) x.by_command.items
      → y.by_component.items ≡ x.by_component.items → y.next.items ≡ x.next.items → IsIndex cs (take (length ks - 1) ks) moves y
  command_less some unused e f g = record {
    row_a_command = omega (arith, ap length e, length-take-le (length x.by_command.items - 1) x.by_command.items (omega (arith, h.row_a_command)), length-take-le (length ks - 1) ks (omega arith), h.row_a_command, some);
    by_command = subst (AreRowsBy (λ move. move.command) moves) (sym e) (λ k. elim (cases_lt k (length x.by_command.items - 1)) [
      | inl less ↦ subst (AreExactly (HasKey (λ move. move.command) moves k)) (sym (get_or-take (length x.by_command.items - 1) x.by_command.items k [] less)) (h.by_command k)
      | inr more ↦ subst (AreExactly (HasKey (λ move. move.command) moves k))
          (sym (get_or_past (take (length x.by_command.items - 1) x.by_command.items) k [] (omega (arith, more, length-take-le (length x.by_command.items - 1) x.by_command.items (omega (arith, h.row_a_command))))))
          (no_row (λ move. move.command) moves k (λ move among own. gone k more move among own))
    ]);
    row_a_component = ap length f ∙ h.row_a_component;
    by_component = subst (AreRowsBy (λ move. move.component) moves) (sym f) h.by_component;
    mode_by_mode = ap (map length) g ∙ h.mode_by_mode;
    next = subst (AreNexts moves) (sym g) h.next;
  }
    where
      gone : (k : ℕ) → length x.by_command.items - 1 ≤ k → (move : Move) → Contains moves move → move.command ≡ k → ⊥
      gone k more move among own = elim (cases_eq k (length ks - 1)) [
        | inl last ↦ false≢true (sym unused ∙ list_any-from_Any (λ d. d.command == length ks - 1) moves (among.0, move, among.1, among.2, eq-eqb move.command (length ks - 1) (own ∙ last)))
        | inr past ↦ let row = h.by_command k in
            let there : Contains (get_or x.by_command.items k []) among.0 = (row.each among.0).1 (move, slice_get-get_or moves among.0 move among.1 ∙ ap Some among.2, own) in
            absurd (omega (arith, there.1, ap length (get_or_past x.by_command.items k [] (omega (arith, more, past, h.row_a_command)))))
      ]

  pub move_more : (move : Move) → move.command < length x.by_command.items → move.component < length x.by_component.items → move.component < length x.next.items
      → move.source < length (get_or x.next.items move.component []) → HasMoveMore (length moves) move x y → IsIndex cs ks (moves ++ move ∷ []) y
  move_more move command component row mode e = record {
    row_a_command = ap length e.by_command ∙ length-set x.by_command.items move.command (get_or x.by_command.items move.command [] ++ length moves ∷ []) ∙ h.row_a_command;
    by_command = subst (AreRowsBy (λ d. d.command) (moves ++ move ∷ [])) (sym e.by_command) (rows_grow (λ d. d.command) moves move x.by_command.items command h.by_command);
    row_a_component = ap length e.by_component ∙ length-set x.by_component.items move.component (get_or x.by_component.items move.component [] ++ length moves ∷ []) ∙ h.row_a_component;
    by_component = subst (AreRowsBy (λ d. d.component) (moves ++ move ∷ [])) (sym e.by_component) (rows_grow (λ d. d.component) moves move x.by_component.items component h.by_component);
    mode_by_mode = ap (map length) e.next ∙ by_size ∙ h.mode_by_mode;
    next = subst (AreNexts (moves ++ move ∷ [])) (sym e.next) by_next;
  }
    where
      grown : List (List (Option ℕ))
      grown = with_next_at x.next.items move.component move.source move.target

      by_size : map length (if move.repair then grown else x.next.items) ≡ map length x.next.items
      by_size = elim (cases_Bool move.repair) [
        | inl marked ↦ ap (map length) (cond-true move.repair grown x.next.items marked) ∙ sizes_stay x.next.items move.component move.source (Some move.target)
        | inr plain ↦ ap (map length) (cond-false move.repair grown x.next.items plain)
      ]

      by_next : AreNexts (moves ++ move ∷ []) (if move.repair then grown else x.next.items)
      by_next = elim (cases_Bool move.repair) [
        | inl marked ↦ subst (AreNexts (moves ++ move ∷ [])) (sym (cond-true move.repair grown x.next.items marked)) (nexts_grow moves move x.next.items marked row mode h.next)
        | inr plain ↦ subst (AreNexts (moves ++ move ∷ [])) (sym (cond-false move.repair grown x.next.items plain)) (nexts_stay moves move x.next.items plain h.next)
      ]

-- a model from one of whose lists the last element was taken, after it was pushed, has an index with the same rows
pub put_back : {X : Type 0} (m : PlantModel) (with_list : List X → PlantModel) (xs : List X) (x : X) (more less : List X) (old new : MoveIndex) → with_list xs ≡ m
    → less ≡ take (length more - 1) more → more ≡ xs ++ x ∷ [] → SameRows old new → WellFormed m × IsIndex m.components m.commands m.moves old
    → WellFormed (with_list less) × IsIndex (with_list less).components (with_list less).commands (with_list less).moves new
put_back m with_list xs x more less old new own took pushed rows (well, index) =
    let same : with_list less ≡ m = ap with_list (popped xs x more less took pushed) ∙ own in (
      subst WellFormed (sym same) well,
      subst (λ (o : PlantModel). IsIndex o.components o.commands o.moves new) (sym same) (rows_same m.components m.commands m.moves old new index rows),
    )

-- ---- a move of the model has its rows

pub record HasRows (x : MoveIndex) (move : Move) : Type 0 where
  pub command : move.command < length x.by_command.items
  pub component : move.component < length x.by_component.items
  pub row : move.component < length x.next.items
  pub mode : move.source < length (get_or x.next.items move.component [])

has_rows : (m : PlantModel) (x : MoveIndex) (move : Move) → IsIndex m.components m.commands m.moves x → HasMode m move.component move.source → move.command < length m.commands → HasRows x move
has_rows m x move h source command =
    let within : move.component < length m.components = mode_within m move.component move.source source in
    let row : move.component < length x.next.items = omega (arith, within, ap length h.mode_by_mode, length-map x.next.items (λ (l : List (Option ℕ)). length l), length-map m.components (λ (d : Component). length d.modes)) in
    let counts : length (get_or x.next.items move.component []) ≡ slice_index (mode_counts m) move.component =
    sym (get_or-map (λ (l : List (Option ℕ)). length l) x.next.items move.component [] 0 row) ∙ ap (λ l. get_or l move.component 0) h.mode_by_mode in
    record {
      command = omega (arith, command, h.row_a_command);
      component = omega (arith, within, h.row_a_component);
      row = row;
      mode = omega (arith, source, counts);
    }

-- so has the last move of a model that grows by it
pub last_has_rows : (m : PlantModel) (x : MoveIndex) (move : Move) → IsIndex m.components m.commands m.moves x → WellFormed (with_move m move) → HasRows x move
last_has_rows m x move h well =
    let last : IsMove (with_move m move) (get_or (m.moves ++ move ∷ []) (length m.moves) move) = well.moves (length m.moves) move (omega (arith, length_push m.moves move)) in
    let own : IsMove (with_move m move) move = subst (IsMove (with_move m move)) (get_or-append_seam m.moves move [] move) last in
    has_rows m x move h own.source own.command

-- what stands behind the others is the last
pub is_last : {X : Type 0} (xs more : List X) (x y : X) (n : ℕ) → more ≡ xs ++ x ∷ [] → n ≡ length xs → y ≡ get_or more n y → y ≡ x
is_last xs more x y n e f g = g ∙ ap (λ l. get_or l n y) e ∙ ap (λ k. get_or (xs ++ x ∷ []) k y) f ∙ get_or-append_seam xs x [] y

-- ---- what is read in it

-- a command that is used is one of the model
pub used_within : (m : PlantModel) → WellFormed m → (command : ℕ) → is_used m.moves command ≡ true → command < length m.commands
used_within m well command used =
    let found = Any-from_list_any (λ move. move.command == command) m.moves used in
    let move : IsMove m found.1 = All-contains (IsMove m) m.moves found.1 well.moves (found.0, found.2, found.3) in
    omega (arith, move.command, eqb-true found.1.command command found.4)

-- its row begins with one of its moves
pub first_in_row : (moves : List Move) (command : ℕ) (row : List ℕ) → is_used moves command ≡ true → AreExactly (IsMoveBy moves command) row
    → (0 < length row) × IsMoveBy moves command (slice_index row 0)
first_in_row moves command row used h =
    let found = Any-from_list_any (λ move. move.command == command) moves used in
    let there : Contains row found.0 = (h.each found.0).1 (found.1, slice_get-get_or moves found.0 found.1 found.2 ∙ ap Some found.3, eqb-true found.1.command command found.4) in
    let some : 0 < length row = omega (arith, there.1) in
    (some, (h.each (slice_index row 0)).0 (Contains-get_or row 0 0 some))

module _ (moves : List Move) (command : ℕ) (row : List ℕ) (h : AreExactly (IsMoveBy moves command) row) where
  -- at each place of its row stands the number of a move
  pub in_row : (n : ℕ) → n < length row → slice_index row n < length moves
  in_row n within = let move = (h.each (slice_index row n)).0 (Contains-get_or row n 0 within) in slice_get_within moves (slice_index row n) move.0 move.1

  -- which has the command
  pub row_command : (n : ℕ) (x : Move) → n < length row → slice_get moves (slice_index row n) ≡ Some x → x.command ≡ command
  row_command n x within is =
      let move = (h.each (slice_index row n)).0 (Contains-get_or row n 0 within) in
      ap (λ d. d.command) (same_Some x move.0 (sym is ∙ move.1)) ∙ move.2

  -- what no number of the row names is named by none
  pub none_named : (s : List ℕ) → ((k : ℕ) → k < length row → IsMoveNamed moves s command (slice_index row k) → ⊥) → (i : ℕ) → IsMoveNamed moves s command i → ⊥
  none_named s none i names =
      let there = (h.each i).1 (names.0, names.1, names.2) in
      none there.0 there.1 (subst (IsMoveNamed moves s command) (sym (get_or_from_slice_get row there.0 i 0 (slice_get-get_or row there.0 i there.1 ∙ ap Some there.2))) names)
