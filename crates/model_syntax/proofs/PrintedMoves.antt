-- The printed lines of moves are read as these.
use Rattle.std.proofs.Common.{◌≡◌, ◌≢◌, ℕ, zero, suc, ◌+◌, ◌<◌, ◌≤◌, Bool, true, false, cond, ◌||◌, codes, List, [], ◌∷◌, ◌++◌, length, take, drop, max, Some, None, IsTrue, All, slice_get, inl, inr, refl, sym, ap, subst, ◌∙◌, arith, eqb, length-append, length-take}
use Rattle.std.specs.Prelude.{is_some, unwrap_or, nat_le}
use Rattle.std.specs.Option.{option_map_or}
use Rattle.std.specs.Str.{bytes_eq}
use Rattle.std.proofs.lemmas.Bool.{lt-leb, cases_lt, eqb-true, or_from}
use Rattle.std.proofs.lemmas.List.{take-append-drop}
use Rattle.std.proofs.lemmas.List.Elements.{All-head, All-tail, All-cons, All-nil}
use Rattle.list_laws.proofs.Places.{some_at, get_take}
use Rattle.list_laws.proofs.Elements.{all_left, all_right}
use Rattle.cca_base.specs.declared.model.Move.{Move}
use Rattle.cca_base.specs.declared.limits.TheConstants.{MAX_MOVES}
use Rattle.cca_base.specs.PlantModel.{PlantModel}
use Rattle.cca_base.specs.Names.{AreDifferent}
use Rattle.cca_base.specs.Model.{IsMove, RepairsFit, CommandsFit, WellFormed, is_used, with_command, with_move}
use Rattle.list_laws.proofs.Pairwise.{AllPairs-take}
use Rattle.text_base.specs.Lexemes.{Lexeme, word}
use Rattle.formula_syntax.specs.Grammar.{Whole, spelling}
use Rattle.model_syntax.specs.Items.{Ends, move_word}
use Rattle.model_syntax.specs.Items as items
use Rattle.formula_syntax.specs.Lookups.{place_of}
use Rattle.formula_syntax.specs.Meanings.{whole_formula, names_unknown, lists_twice, is_deep}
use Rattle.model_syntax.specs.Codes.{least, is_long, ends_of, command_number, new_move, with_named, is_into_broken, is_unmarked_exit, mends_twice, is_repair_cycle, move_faults, move_code, move_code_from}
use Rattle.model_syntax.specs.Lines.{Goes, Reads, LineLeads, unless, with_declared, move_next}
use Rattle.model_syntax.specs.Printing.{joined, name_at, formula_said, ends_said, move_said}
use Rattle.model_syntax.specs.RoundTrip.{AreOfTheirKinds}
use Rattle.formula_syntax.proofs.UnknownNames.{position_none, different_text}
use Rattle.model_syntax.proofs.PrintedFaults.{not_ambiguous}
use Rattle.model_syntax.proofs.RepairCodes.{rules_give_no_code}
use Rattle.model_syntax.proofs.PrintedLines.{begun, line_leads, IsAt, name_there, not_too_long, IsReadAs, formula_read}
use Rattle.model_syntax.proofs.PrintedNames.{HasNames, pairs_across, place_found}
use Rattle.model_syntax.proofs.PrintedParts.{name_parts, word_kind}
use Rattle.model_syntax.proofs.PrintedRules.{ends_words, ends_found, ends_kinds, ends_free}

-- ---- lists by their front

got_left : {X : Type 0} (xs ys : List X) (k : ℕ) → k < length xs → slice_get (xs ++ ys) k ≡ slice_get xs k
got_left [] ys k lt = absurd (omega arith)
got_left (x ∷ xs) ys zero lt = refl
got_left (x ∷ xs) ys (suc k) lt = got_left xs ys k (omega arith)

got_seam : {X : Type 0} (xs : List X) (y : X) (ys : List X) → slice_get (xs ++ y ∷ ys) (length xs) ≡ Some y
got_seam [] y ys = refl
got_seam (x ∷ xs) y ys = got_seam xs y ys

one_more : {X : Type 0} (xs : List X) (k : ℕ) (x : X) → slice_get xs k ≡ Some x → take k xs ++ x ∷ [] ≡ take (suc k) xs
one_more [] k x e = absurd cc
one_more (y ∷ ys) zero x e = let same : x ≡ y = cc in ap (λ z. z ∷ []) same
one_more (y ∷ ys) (suc k) x e = ap (λ zs. y ∷ zs) (one_more ys k x e)

got_dropped : {X : Type 0} (xs : List X) (k : ℕ) → slice_get (drop k xs) 0 ≡ slice_get xs k
got_dropped [] zero = refl
got_dropped [] (suc k) = refl
got_dropped (x ∷ xs) zero = refl
got_dropped (x ∷ xs) (suc k) = got_dropped xs k

-- ---- commands

-- one more than the greatest number of a command
abbrev pub used : List Move → ℕ
used [] = 0
used (x ∷ xs) = max (x.command + 1) (used xs)

used_push : (xs : List Move) (x : Move) → used (xs ++ x ∷ []) ≡ max (used xs) (x.command + 1)
used_push [] x = omega arith
used_push (y ∷ ys) x = let e = used_push ys x in omega (arith, e)

used_above : (xs : List Move) (k : ℕ) (x : Move) → slice_get xs k ≡ Some x → x.command < used xs
used_above [] k x e = absurd cc
used_above (y ∷ ys) zero x e = let same : y ≡ x = cc in let s = ap (λ (z : Move). z.command) same in omega (arith, s)
used_above (y ∷ ys) (suc k) x e = let h = used_above ys k x e in omega (arith, h)

used_few : (n : ℕ) (xs : List Move) → All (λ (x : Move). x.command < n) xs → used xs ≤ n
used_few n [] h = omega arith
used_few n (x ∷ xs) h =
    let a = All-head (λ (y : Move). y.command < n) x xs h in
    let b = used_few n xs (All-tail (λ (y : Move). y.command < n) x xs h) in
    omega (arith, a, b)

-- a command that a move has is below
used_has : (xs : List Move) (k : ℕ) → is_used xs k ≡ true → k < used xs
used_has [] k h = absurd cc
used_has (x ∷ xs) k h =
    elim (eqb x.command k) as (λ b. eqb x.command k ≡ b → (b || is_used xs k) ≡ true → k < used (x ∷ xs)) [
      | true ↦ (λ e g. let same = eqb-true x.command k e in omega (arith, same))
      | false ↦ (λ e g. let below = used_has xs k g in omega (arith, below))
    ] refl h

-- all commands, where each is used
pub all_used : (commands : List (List ℕ)) (xs : List Move) → ((k : ℕ) → k < length commands → IsTrue (is_used xs k)) → length commands ≤ used xs
all_used commands xs h = elim (cases_lt (used xs) (length commands)) [
  | inl l ↦ let k = used_has xs (used xs) (h (used xs) l) in absurd (omega (arith, k))
  | inr g ↦ g
]

-- the move's number and the model's commands, where the name of its command is read
record IsNumbered (n : PlantModel) (text : List ℕ) (number : ℕ) (commands : List (List ℕ)) : Type 0 where
  number_is : command_number n text ≡ number
  named_is : with_named n text ≡ record n { commands = commands }

numbered_old : (n : PlantModel) (text : List ℕ) (number : ℕ) → place_of n.commands text ≡ Some number → IsNumbered n text number n.commands
numbered_old n text number e = record {
  number_is = ap (λ o. unwrap_or o (length n.commands)) e;
  named_is = ap (λ o. cond (is_some o) n (with_command n text)) e;
}

numbered_new : (n : PlantModel) (text : List ℕ) → place_of n.commands text ≡ None → IsNumbered n text (length n.commands) (n.commands ++ text ∷ [])
numbered_new n text e = record {
  number_is = ap (λ o. unwrap_or o (length n.commands)) e;
  named_is = ap (λ o. cond (is_some o) n (with_command n text)) e;
}

no_others : (x : List ℕ) (names : List (List ℕ)) → All (λ (y : List ℕ). y ≢ x) names → All (λ (y : List ℕ). bytes_eq y x ≡ false) names
no_others x [] h = All-nil (λ (y : List ℕ). bytes_eq y x ≡ false)
no_others x (y ∷ ys) h =
    All-cons (λ (z : List ℕ). bytes_eq z x ≡ false) y ys (different_text y x (All-head (λ (z : List ℕ). z ≢ x) y ys h)) (no_others x ys (All-tail (λ (z : List ℕ). z ≢ x) y ys h))

-- the next command isn't among those before it
next_is_new : (commands : List (List ℕ)) (k : ℕ) (text : List ℕ) → AreDifferent commands → slice_get commands k ≡ Some text → place_of (take k commands) text ≡ None
next_is_new commands k text h e =
    let split = subst AreDifferent (sym (take-append-drop k commands)) h in
    position_none (λ name. bytes_eq name text) (take k commands) (no_others text (take k commands) (pairs_across (λ a b. a ≢ b) (take k commands) (drop k commands) 0 text split (got_dropped commands k ∙ e)))

none_of_eight : (a b c : Bool) (d e f g h : Bool) (i j k p q r s t : ℕ) → a ≡ false → b ≡ false → c ≡ false → d ≡ false → e ≡ false → f ≡ false → g ≡ false → h ≡ false
    → least ((i, a) ∷ (j, b) ∷ (k, c) ∷ (p, d) ∷ (q, e) ∷ (r, f) ∷ (s, g) ∷ (t, h) ∷ []) ≡ None
none_of_eight a b c d e f g h i j k p q r s t ha hb hc hd he hf hg hh = rw (ha, hb, hc, hd, he, hf, hg, hh) refl

module _ (m : PlantModel) (w : WellFormed m) where
  -- the model with some of its moves and their commands, and without failures
  abbrev pub with_moves : List Move → PlantModel
  with_moves xs = record { version = m.version; components = m.components; variables = m.variables; rules = m.rules; commands = take (used xs) m.commands; moves = xs; failures = [] }

  module _ (front : List Move) (x : Move) (rest : List Move) (e : front ++ x ∷ rest ≡ m.moves) where
    abbrev n : PlantModel
    n = with_moves front

    named : HasNames n
    named = record { names = w.names; components = w.components; variables = w.variables }

    sound : IsMove m x
    sound = All-head (IsMove m) x rest (all_right (IsMove m) front (x ∷ rest) (subst (All (IsMove m)) (sym e) w.moves))

    abbrev command : List ℕ
    command = name_at m.commands x.command

    called : IsAt m.commands x.command command
    called = name_there m.commands x.command w.command_names sound.command

    the_name : slice_get m.commands x.command ≡ Some command
    the_name = let g = some_at m.commands x.command sound.command in g.1 ∙ ap (λ t. Some t) (sym (ap (λ o. option_map_or (λ name. name) o []) g.1))

    few_used : used front ≤ length m.commands
    few_used =
        used_few (length m.commands) front
        (λ k d lt. (all_left (IsMove m) front (x ∷ rest) (subst (All (IsMove m)) (sym e) w.moves) k d lt).command)

    -- each lesser command is used before
    not_skipped : x.command ≤ used front
    not_skipped = elim (cases_lt (used front) x.command) [
      | inl l ↦
          let here : slice_get m.moves (length front) ≡ Some x = ap (λ xs. slice_get xs (length front)) (sym e) ∙ got_seam front x rest in
          let f = w.first_use (length front) (used front) x here l in
          let y = got_left front (x ∷ rest) f.0 f.2 in
          let before = used_above front f.0 f.1 (sym y ∙ ap (λ xs. slice_get xs f.0) e ∙ f.3) in
          let same = f.4 in
          absurd (omega (arith, before, same))
      | inr g ↦ g
    ]

    numbered : IsNumbered n command x.command (take (used (front ++ x ∷ [])) m.commands)
    numbered =
        let pushed = used_push front x in
        elim (cases_lt x.command (used front)) [
          | inl l ↦
              let found = place_found (take (used front) m.commands) x.command command (AllPairs-take (λ a b. a ≢ b) (used front) m.commands w.command_names.different)
              (get_take m.commands (used front) x.command l ∙ the_name)
              in
              let same : used front ≡ used (front ++ x ∷ []) = omega (arith, pushed, l) in
              subst (IsNumbered n command x.command) (ap (λ k. take k m.commands) same) (numbered_old n command x.command found)
          | inr g ↦
              let last : x.command ≡ used front = let s = not_skipped in omega (arith, g, s) in
              let the_last : slice_get m.commands (used front) ≡ Some command = ap (slice_get m.commands) (sym last) ∙ the_name in
              let count : length (take (used front) m.commands) ≡ x.command = length-take (used front) m.commands ∙ (let f = few_used in omega (arith, f, last)) in
              let grown : take (used front) m.commands ++ command ∷ [] ≡ take (used (front ++ x ∷ [])) m.commands =
              one_more m.commands (used front) command the_last ∙ ap (λ k. take k m.commands) (let same : suc (used front) ≡ used (front ++ x ∷ []) = omega (arith, pushed, last) in same)
              in
              subst (λ k. IsNumbered n command k (take (used (front ++ x ∷ [])) m.commands)) count
              (subst (IsNumbered n command (length (take (used front) m.commands))) grown (numbered_new n command (next_is_new m.commands (used front) command w.command_names.different the_last)))
        ]

    room : nat_le MAX_MOVES (length front) ≡ false
    room = let a = ap length e in let b = length-append front (x ∷ rest) in let few = w.limits.moves in lt-leb MAX_MOVES (length front) (omega (arith, a, b, few))

    abbrev words : Ends
    words = ends_words n named x.component x.source x.target sound.source sound.target

    found : ends_of n words ≡ Some (x.component, x.source, x.target)
    found = ends_found n named x.component x.source x.target sound.source sound.target

    guard : IsReadAs n (formula_said m x.guard) x.guard
    guard = formula_read n named x.guard (record { fits = sound.guard.fits; shallow = sound.guard.shallow })

    repairs : RepairsFit m.version (front ++ x ∷ rest)
    repairs = subst (RepairsFit m.version) (sym e) w.repairs

    no_faults : (is_into_broken n x ≡ false) × (is_unmarked_exit front x ≡ false) × (mends_twice front x ≡ false) × (is_repair_cycle n x ≡ false)
    no_faults = rules_give_no_code n x rest repairs

    commands : CommandsFit (front ++ x ∷ rest)
    commands = subst CommandsFit (sym e) w.commands

    new_is : (t : Whole) → whole_formula n t ≡ x.guard → new_move n x.repair (x.component, x.source, x.target) command (whole_formula n t) ≡ x
    new_is t g =
        ap (λ k. let y : Move = record { component = x.component; source = x.source; target = x.target; command = k; repair = x.repair; guard = whole_formula n t } in y) numbered.number_is
        ∙ ap (λ f. let y : Move = record { component = x.component; source = x.source; target = x.target; command = x.command; repair = x.repair; guard = f } in y) g

    no_code : (t : Whole) → names_unknown n t ≡ false → lists_twice t ≡ false → is_deep t ≡ false → whole_formula n t ≡ x.guard
        → move_code_from n x.repair (Some (x.component, x.source, x.target)) command t ≡ None
    no_code t a b d g =
        ap (λ y. least ((2, names_unknown n t) ∷ (3, lists_twice t) ∷ (4, is_deep t || (is_long command || nat_le MAX_MOVES (length front))) ∷ move_faults n y)) (new_is t g)
        ∙ none_of_eight _ _ _ _ _ _ _ _ 2 3 4 5 6 7 8 21 a b (or_from _ _ d (or_from _ _ (not_too_long command called.name) room))
        (not_ambiguous front x rest commands) no_faults.0 no_faults.1 no_faults.2 no_faults.3

    next_is : (t : Whole) → formula_said m x.guard ≡ spelling t → Goes (with_moves (front ++ x ∷ [])) ≡ move_next n x.repair words command t
    unfolding move_code
    next_is t is =
        let r = guard.each t is in
        sym (ap (λ o. unless (move_code_from n x.repair o command t) (with_declared n x.repair o command t)) found
        ∙ ap (λ o. unless o (with_declared n x.repair (Some (x.component, x.source, x.target)) command t)) (no_code t r.0 r.1 r.2 r.3)
        ∙ ap (λ k. Goes (with_move k (new_move n x.repair (x.component, x.source, x.target) command (whole_formula n t)))) numbered.named_is
        ∙ ap (λ y. Goes (with_move (record n { commands = take (used (front ++ x ∷ [])) m.commands }) y)) (new_is t r.3))

    move_kind : (repair : Bool) (ls : List Lexeme) → AreOfTheirKinds ls → AreOfTheirKinds (word (move_word repair) ∷ ls)
    move_kind true ls h = h
    move_kind false ls h = h

    pub move_kinds : AreOfTheirKinds (move_said m x)
    move_kinds =
        let rest = word (codes "by") ∷ word command ∷ word (codes "when") ∷ formula_said m x.guard in
        move_kind x.repair (ends_said n x.component x.source x.target rest)
        (ends_kinds n named x.component x.source x.target sound.source sound.target rest (word_kind command (word (codes "when") ∷ formula_said m x.guard) called.name guard.kinds))

    pub move_leads : LineLeads (begun n) (joined (move_said m x)) (Reads (begun (with_moves (front ++ x ∷ []))))
    move_leads =
        line_leads n (move_said m x) (items.Move x.repair words command (formula_said m x.guard)) (Goes (with_moves (front ++ x ∷ []))) move_kinds refl
        (ends_free n named x.component x.source x.target sound.source sound.target (command ∷ []) ((name_parts command called.name).1, tt))
        (record { of_text = next_is; or_none = inl guard.some })
