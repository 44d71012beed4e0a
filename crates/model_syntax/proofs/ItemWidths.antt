-- The line that an item adds is no longer than the text from which it was read.
use Rattle.std.proofs.Common.{◌≡◌, ℕ, ◌≤◌, inl, inr, Bool, true, false, cond, ◌||◌, List, [], ◌∷◌, ◌++◌, length, codes, Option, Some, None, refl, sym, ap, subst, ◌∙◌, arith}
use Rattle.std.specs.Prelude.{nat_le, is_some}
use Rattle.std.specs.Fmt.{decimal}
use Rattle.cca_base.specs.declared.limits.TheConstants.{MAX_RULES, MAX_MOVES}
use Rattle.cca_base.specs.PlantModel.{PlantModel}
use Rattle.cca_base.specs.declared.model.Move.{Move}
use Rattle.cca_base.specs.Model.{WellFormed, with_component, with_variable, with_rule, with_command, with_move, with_failure}
use Rattle.text_base.specs.Lexemes.{Lexeme, word, number, symbol}
use Rattle.formula_syntax.specs.Grammar.{Whole, spelling}
use Rattle.formula_syntax.specs.Meanings.{whole_formula, names_unknown, lists_twice, is_deep}
use Rattle.model_syntax.specs.Items.{Ends, Item, item_of, ends_spelled, sensed_spelled, move_word, line_spelled}
use Rattle.text_base.specs.Lists.{name_list_spelled}
use Rattle.model_syntax.specs.Items as items
use Rattle.formula_syntax.specs.Lookups.{place_of}
use Rattle.model_syntax.specs.Codes.{is_long, command_number, component_code, new_component, variable_code, new_variable, rule_code, move_code, move_code_from, move_faults, new_move, with_named, failure_code, failure_code_from, new_failure, ends_of}
use Rattle.model_syntax.specs.Lines.{Next, Goes, unless, component_next, variable_next, rule_next, move_next, failure_next, with_declared, with_fall, IsNextOfText, IsNextOfNumber, IsNextOfItem, IsNextOfForm}
use Rattle.model_syntax.specs.Printing.{joined, name_at, formula_said, ends_said, component_said, move_said, failure_said}
use Rattle.model_syntax.specs.Shorter.{AddsLine}
use Rattle.formula_syntax.proofs.LeastLaws.{least_none}
use Rattle.model_syntax.proofs.AddedParts.{may_be_component}
use Rattle.model_syntax.proofs.ItemGrammar.{item_written}
use Rattle.formula_syntax.proofs.TextFormulas as fitting
use Rattle.model_syntax.proofs.TextWidths as widths
use Rattle.model_syntax.proofs.Widths.{width, joined_width, NoLonger, same_tokens, behind, behind_all}
use Rattle.model_syntax.proofs.LineWidths.{numbers_end}
use Rattle.model_syntax.proofs.KeptLines.{Grows, keeps_all, keeps_push, formula_stays, ends_stay}
use Rattle.model_syntax.proofs.GrownModels.{component_adds, variable_adds, rule_grows, rule_adds, move_adds, failure_grows, failure_adds}
use Rattle.model_syntax.proofs.NamedPlaces.{start_named, command_named, AreNamed, ends_named, ends_printed}
use Rattle.model_syntax.proofs.NumberPlaces.{whole_passes, list_passes, sensed_passes}
use Rattle.model_syntax.proofs.Kept.{unless_goes}

-- the text has room for these tokens, if no number stands before their end
abbrev pub HasRoom : List ℕ → List Lexeme → Type 0
HasRoom text ls = numbers_end ls ≡ true → width false ls false ≤ length text

-- what is printed is no longer than what was read
printed : (text : List ℕ) (ls read : List Lexeme) → NoLonger ls read → numbers_end read ≡ true → HasRoom text read → length (joined ls) ≤ length text
printed text ls read h e room = omega (arith, joined_width ls, h false false, room e)

module _ (m : PlantModel) (w : WellFormed m) (text : List ℕ) where
  abbrev Adds : PlantModel → Type 0
  Adds n = AddsLine m n text

  -- ---- components, variables and rules

  component_line : (n : PlantModel) (name : List ℕ) (modes : List (List ℕ)) (start : List ℕ) → HasRoom text (line_spelled (items.Component name modes start)) → Goes n ≡ component_next m name modes start → Adds n
  component_line n name modes start room e =
      let g = unless_goes (component_code m name modes start) (with_component m (new_component name modes start)) n e in
      let line = line_spelled (items.Component name modes start) in
      let front : List ℕ → List Lexeme = λ x. word (codes "component") ∷ word name ∷ symbol (codes "=") ∷ name_list_spelled modes ++ word (codes "start") ∷ word x ∷ [] in
      let same : component_said (new_component name modes start) ≡ line = ap front (start_named modes start (may_be_component m name modes start g.0).found) in
      subst Adds g.1 (component_adds m w (new_component name modes start) text
      (printed text (component_said (new_component name modes start)) line (same_tokens (component_said (new_component name modes start)) line same) (list_passes modes (word (codes "start") ∷ word start ∷ [])) room))

  variable_line : (n : PlantModel) (name : List ℕ) (values : List (List ℕ)) (sensed : Bool) → HasRoom text (line_spelled (items.Variable name values sensed)) → Goes n ≡ variable_next m name values sensed → Adds n
  variable_line n name values sensed room e =
      let g = unless_goes (variable_code m name values) (with_variable m (new_variable name values sensed)) n e in
      let line = line_spelled (items.Variable name values sensed) in
      subst Adds g.1 (variable_adds m w (new_variable name values sensed) text
      (printed text line line (same_tokens line line refl) (list_passes values (sensed_spelled sensed) ∙ sensed_passes sensed) room))

  -- a formula whose names are declared is printed in the grown model no longer than it was written
  formula_printed : (n : PlantModel) (t : Whole) → Grows m n → names_unknown m t ≡ false → NoLonger (formula_said n (whole_formula m t)) (spelling t)
  formula_printed n t g known =
      subst (λ (x : List Lexeme). NoLonger x (spelling t)) (sym (formula_stays m n g (whole_formula m t) (fitting.whole_fits m t known))) (widths.whole_fits m t known)

  rule_known : (t : Whole) → rule_code m t ≡ None → names_unknown m t ≡ false
  unfolding rule_code
  rule_known t e = (least_none 2 (names_unknown m t) ((3, lists_twice t) ∷ (4, is_deep t || nat_le MAX_RULES (length m.rules)) ∷ []) e).0

  rule_line : (n : PlantModel) (t : Whole) → HasRoom text (line_spelled (items.Rule (spelling t))) → Goes n ≡ rule_next m t → Adds n
  rule_line n t room e =
      let f = whole_formula m t in
      let g = unless_goes (rule_code m t) (with_rule m f) n e in
      let said = formula_said (with_rule m f) f in
      let rule = word (codes "rule") in
      subst Adds g.1 (rule_adds m w f text
      (printed text (rule ∷ said) (rule ∷ spelling t) (behind rule said (spelling t) (formula_printed (with_rule m f) t (rule_grows m w f) (rule_known t g.0))) (whole_passes t []) room))

  -- ---- moves

  -- a move may bring a command with it
  named_grows : (b : Bool) (command : List ℕ) (x : Move) → Grows m (with_move (cond b m (with_command m command)) x)
  named_grows true command x = record { components = keeps_all m.components; variables = keeps_all m.variables; commands = keeps_all m.commands }
  named_grows false command x = record { components = keeps_all m.components; variables = keeps_all m.variables; commands = keeps_push m.commands command }

  -- a command leaves all else as it was
  abbrev KeepsItems : PlantModel → Type 0
  KeepsItems k = (k.version ≡ m.version) × (k.components ≡ m.components) × (k.variables ≡ m.variables) × (k.rules ≡ m.rules) × (k.moves ≡ m.moves) × (k.failures ≡ m.failures)

  named_keeps : (b : Bool) (command : List ℕ) → KeepsItems (cond b m (with_command m command))
  named_keeps true command = (refl, refl, refl, refl, refl, refl)
  named_keeps false command = (refl, refl, refl, refl, refl, refl)

  -- the ends are printed by their words in the grown model too
  ends_again : (n : PlantModel) (ends : Ends) (c a b : ℕ) (rest : List Lexeme) → Grows m n → AreNamed m ends c a b → ends_said n c a b rest ≡ ends_spelled ends rest
  ends_again n ends c a b rest g h = ends_stay m n g c a b rest (omega (arith, h.mode)) ∙ ends_printed m ends c a b rest h

  module _ (repair : Bool) (ends : Ends) (command : List ℕ) (t : Whole) where
    abbrev new : ℕ × ℕ × ℕ → Move
    new x = new_move m repair x command (whole_formula m t)

    abbrev grown : ℕ × ℕ × ℕ → PlantModel
    grown x = with_move (with_named m command) (new x)

    -- a move's words, and then its guard
    abbrev move_words : List Lexeme → List Lexeme
    move_words guard = line_spelled (items.Move repair ends command guard)

    move_printed : (x : ℕ × ℕ × ℕ) → Grows m (grown x) → AreNamed m ends x.0 x.1 x.2 → move_said (grown x) (new x) ≡ move_words (formula_said (grown x) (whole_formula m t))
    move_printed x g h =
        let rest : List ℕ → List Lexeme = λ y. word (codes "by") ∷ word y ∷ word (codes "when") ∷ formula_said (grown x) (whole_formula m t) in
        ap (λ (y : List Lexeme). word (move_word repair) ∷ y) (ends_again (grown x) ends x.0 x.1 x.2 (rest (name_at (with_named m command).commands (command_number m command))) g h)
        ∙ ap (λ (y : List ℕ). word (move_word repair) ∷ ends_spelled ends (rest y)) (command_named m command)

    move_fits : (x : ℕ × ℕ × ℕ) → HasRoom text (move_words (spelling t)) → AreNamed m ends x.0 x.1 x.2 → names_unknown m t ≡ false → Adds (grown x)
    move_fits x room h known =
        let b = is_some (place_of m.commands command) in
        let g = named_grows b command (new x) in
        let k = named_keeps b command in
        let said = formula_said (grown x) (whole_formula m t) in
        let front = word (move_word repair) ∷ word ends.name ∷ word ends.source ∷ symbol (codes "->") ∷ word ends.target ∷ word (codes "by") ∷ word command ∷ word (codes "when") ∷ [] in
        let short : NoLonger (move_words said) (move_words (spelling t)) = behind_all front said (spelling t) (formula_printed (grown x) t g known) in
        let line = move_said (grown x) (new x) in
        let short_line : NoLonger line (move_words (spelling t)) = subst (λ (y : List Lexeme). NoLonger y (move_words (spelling t))) (sym (move_printed x g h)) short in
        move_adds m w (with_named m command) (new x) text g k.0 k.1 k.2 k.3 k.4 k.5 (printed text line (move_words (spelling t)) short_line (whole_passes t []) room)

    move_known : (x : ℕ × ℕ × ℕ) → move_code_from m repair (Some x) command t ≡ None → names_unknown m t ≡ false
    move_known x e =
        (least_none 2 (names_unknown m t) ((3, lists_twice t) ∷ (4, is_deep t || (is_long command || nat_le MAX_MOVES (length m.moves))) ∷ move_faults m (new x)) e).0

    move_from : (n : PlantModel) (o : Option (ℕ × ℕ × ℕ)) → ends_of m ends ≡ o → HasRoom text (move_words (spelling t)) → Goes n ≡ unless (move_code_from m repair o command t) (with_declared m repair o command t) → Adds n
    move_from n None h room e = absurd cc
    move_from n (Some x) h room e =
        let g = unless_goes (move_code_from m repair (Some x) command t) (grown x) n e in
        subst Adds g.1 (move_fits x room (ends_named m ends x h) (move_known x g.0))

    move_line : (n : PlantModel) → HasRoom text (move_words (spelling t)) → Goes n ≡ move_next m repair ends command t → Adds n
    unfolding move_code
    move_line n room e = move_from n (ends_of m ends) refl room e

  -- ---- failures

  failure_from : (n : PlantModel) (ends : Ends) (cost : List ℕ) (k : ℕ) (o : Option (ℕ × ℕ × ℕ)) → ends_of m ends ≡ o → cost ≡ decimal k → HasRoom text (line_spelled (items.Failure ends cost))
      → Goes n ≡ unless (failure_code_from m o k) (with_fall m o k) → Adds n
  failure_from n ends cost k None h d room e = absurd cc
  failure_from n ends cost k (Some x) h d room e =
      let new = new_failure x k in
      let grown = with_failure m new in
      let g = unless_goes (failure_code_from m (Some x) k) grown n e in
      let line = failure_said grown new in
      let read = line_spelled (items.Failure ends cost) in
      let same : line ≡ read =
      ap (λ (y : List Lexeme). word (codes "fail") ∷ y) (ends_again grown ends x.0 x.1 x.2 (word (codes "cost") ∷ number (decimal k) ∷ []) (failure_grows m w new) (ends_named m ends x h))
      ∙ ap (λ (y : List ℕ). line_spelled (items.Failure ends y)) (sym d)
      in
      subst Adds g.1 (failure_adds m w new text (printed text line read (same_tokens line read same) refl room))

  failure_line : (n : PlantModel) (ends : Ends) (cost : List ℕ) (k : ℕ) → cost ≡ decimal k → HasRoom text (line_spelled (items.Failure ends cost)) → Goes n ≡ failure_next m ends k → Adds n
  unfolding failure_code
  failure_line n ends cost k d room e = failure_from n ends cost k (ends_of m ends) refl d room e

  -- ---- any item

  with_text : (n : PlantModel) (ls : List Lexeme) (f : Whole → Next) → IsNextOfText ls f (Goes n) → (t : Whole) × (ls ≡ spelling t) × (Goes n ≡ f t)
  with_text n ls f r = elim r.or_none [ inl p ↦ (p.0, p.1, r.of_text p.0 p.1) | inr q ↦ absurd (let e = q.1 in cc) ]

  with_number : (n : PlantModel) (digits : List ℕ) (f : ℕ → Next) → IsNextOfNumber digits f (Goes n) → (k : ℕ) × (digits ≡ decimal k) × (Goes n ≡ f k)
  with_number n digits f r = elim r [ inl p ↦ (p.0, p.2, p.3) | inr q ↦ absurd (let e = q.1 in cc) ]

  item_adds : (n : PlantModel) (item : Item) → HasRoom text (line_spelled item) → IsNextOfItem m item (Goes n) → Adds n
  item_adds n (items.Header second) room e = absurd cc
  item_adds n (items.Component name modes start) room e = component_line n name modes start room e
  item_adds n (items.Variable name values sensed) room e = variable_line n name values sensed room e
  item_adds n (items.Rule formula) room e =
      let t = with_text n formula (rule_next m) e in
      rule_line n t.0 (subst (λ (ls : List Lexeme). HasRoom text (line_spelled (items.Rule ls))) t.1 room) t.2
  item_adds n (items.Move repair ends command guard) room e =
      let t = with_text n guard (move_next m repair ends command) e in
      move_line repair ends command t.0 n (subst (λ (ls : List Lexeme). HasRoom text (line_spelled (items.Move repair ends command ls))) t.1 room) t.2
  item_adds n (items.Failure ends cost) room e =
      let k = with_number n cost (failure_next m ends) e in
      failure_line n ends cost k.0 k.1 room k.2
  item_adds n items.Script room e = absurd cc

  -- what a line's form adds
  pub form_adds : (n : PlantModel) (ls : List Lexeme) (form : Option Item) → item_of ls ≡ form → HasRoom text ls → IsNextOfForm m form (Goes n) → Adds n
  form_adds n ls None h room e = absurd cc
  form_adds n ls (Some item) h room e = item_adds n item (subst (HasRoom text) (item_written ls item h).0 room) e
