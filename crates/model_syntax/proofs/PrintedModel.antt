-- A printed model is read as that model.
use Rattle.std.proofs.Common.{◌≡◌, ◌≢◌, ℕ, false, List, [], ◌∷◌, ◌++◌, map, take, IsTrue, All, refl, sym, subst, ◌∙◌, append_assoc}
use Rattle.std.proofs.lemmas.List.{map-append, take_all}
use Rattle.std.proofs.lemmas.List.Elements.{All-nil, All-cons, All-append}
use Rattle.list_laws.proofs.Elements.{all_left}
use Rattle.cca_base.specs.declared.model.Component.{Component}
use Rattle.cca_base.specs.declared.model.Variable.{Variable}
use Rattle.cca_base.specs.PlantModel.{PlantModel}
use Rattle.cca_base.specs.Names.{is_name, AreNames}
use Rattle.cca_base.specs.Model.{WellFormed, IsComplete, empty_model}
use Rattle.text_base.specs.Lexemes.{Lexeme}
use Rattle.model_syntax.specs.Lines.{ModelSoFar}
use Rattle.model_syntax.specs.Printing.{joined, header_said, component_said, variable_said, rule_said, move_said, failure_said, lines_said}
use Rattle.model_syntax.specs.RoundTrip.{ReadsTo, AreOfTheirKinds}
use Rattle.model_syntax.proofs.PrintedDeclarations.{only_components, component_leads, component_kinds, with_variables, variable_leads, variable_kinds}
use Rattle.model_syntax.proofs.JoinedBytes.{joined_whole}
use Rattle.model_syntax.proofs.PrintedLines.{begun, header_kinds, header_leads, reads_on, run_leads}
use Rattle.model_syntax.proofs.PrintedMoves.{used, all_used, with_moves, move_leads, move_kinds}
use Rattle.model_syntax.proofs.PrintedNames.{HasNames, pairs_left}
use Rattle.model_syntax.proofs.PrintedRules.{with_rules, rule_leads, rule_kinds, with_failures, failure_leads, failure_kinds}

-- some lines and then others
both : (s t u : ModelSoFar) (ls ms : List (List Lexeme)) → ReadsTo s (map joined ls) t → ReadsTo t (map joined ms) u → ReadsTo s (map joined (ls ++ ms)) u
both s t u ls ms h k = subst (λ lines. ReadsTo s lines u) (sym (map-append joined ls ms)) (reads_on s t u (map joined ls) (map joined ms) h k)

module _ (m : PlantModel) (w : WellFormed m) where
  abbrev part_names : List (List ℕ)
  part_names = map (λ (c : Component). c.name) m.components

  abbrev quantity_names : List (List ℕ)
  quantity_names = map (λ (v : Variable). v.name) m.variables

  named : AreNames part_names
  named = record {
    each = all_left (λ name. IsTrue (is_name name)) part_names quantity_names w.names.each;
    different = pairs_left (λ a b. a ≢ b) part_names quantity_names w.names.different;
  }

  has_names : HasNames m
  has_names = record { names = w.names; components = w.components; variables = w.variables }

  -- the models in between
  abbrev with_all_components : PlantModel
  with_all_components = record { version = m.version; components = m.components; variables = []; rules = []; commands = []; moves = []; failures = [] }

  abbrev with_all_variables : PlantModel
  with_all_variables = record { version = m.version; components = m.components; variables = m.variables; rules = []; commands = []; moves = []; failures = [] }

  abbrev with_all_rules : PlantModel
  with_all_rules = record { version = m.version; components = m.components; variables = m.variables; rules = m.rules; commands = []; moves = []; failures = [] }

  abbrev with_all_moves : PlantModel
  with_all_moves = record { version = m.version; components = m.components; variables = m.variables; rules = m.rules; commands = m.commands; moves = m.moves; failures = [] }

  components_read : ReadsTo (begun (empty_model m.version)) (map joined (map component_said m.components)) (begun with_all_components)
  components_read =
      run_leads component_said (only_components m.version m.components named w.components w.limits.components) m.components (component_leads m.version m.components named w.components w.limits.components) [] m.components refl

  variables_read : ReadsTo (begun with_all_components) (map joined (map variable_said m.variables)) (begun with_all_variables)
  variables_read =
      run_leads variable_said (with_variables m.version m.components m.variables w.names w.variables w.limits.variables) m.variables
      (variable_leads m.version m.components m.variables w.names w.variables w.limits.variables) [] m.variables refl

  rules_read : ReadsTo (begun with_all_variables) (map joined (map (rule_said m) m.rules)) (begun with_all_rules)
  rules_read = run_leads (rule_said m) (with_rules m has_names w.rules w.limits.rules) m.rules (rule_leads m has_names w.rules w.limits.rules) [] m.rules refl

  all_commands : IsComplete m → take (used m.moves) m.commands ≡ m.commands
  all_commands complete = take_all (used m.moves) m.commands (all_used m.commands m.moves complete)

  moves_read : IsComplete m → ReadsTo (begun with_all_rules) (map joined (map (move_said m) m.moves)) (begun with_all_moves)
  moves_read complete =
      subst (λ commands. ReadsTo (begun with_all_rules) (map joined (map (move_said m) m.moves)) (begun (record with_all_moves { commands = commands }))) (all_commands complete)
      (run_leads (move_said m) (with_moves m w) m.moves (move_leads m w) [] m.moves refl)

  failures_read : ReadsTo (begun with_all_moves) (map joined (map (failure_said m) m.failures)) (begun m)
  failures_read = run_leads (failure_said m) (with_failures m has_names w.failures w.limits.failures) m.failures (failure_leads m has_names w.failures w.limits.failures) [] m.failures refl

  pub model_read : IsComplete m → ReadsTo (record { model = empty_model 1; begun = false }) (map joined (lines_said m)) (begun m)
  model_read complete =
      let cs = map component_said m.components in
      let vs = map variable_said m.variables in
      let rs = map (rule_said m) m.rules in
      let xs = map (move_said m) m.moves in (
        begun (empty_model m.version),
        header_leads m.version w.version,
        both (begun (empty_model m.version)) (begun with_all_moves) (begun m) (cs ++ vs ++ rs ++ xs) (map (failure_said m) m.failures)
            (both (begun (empty_model m.version)) (begun with_all_rules) (begun with_all_moves) (cs ++ vs ++ rs) xs
            (both (begun (empty_model m.version)) (begun with_all_variables) (begun with_all_rules) (cs ++ vs) rs
            (both (begun (empty_model m.version)) (begun with_all_components) (begun with_all_variables) cs vs components_read variables_read) rules_read) (moves_read complete)) failures_read,
      )

  -- ---- the bytes of the lines

  -- what holds of each element's line
  each_line : {X : Type 0} (say : X → List Lexeme) (all : List X) → ((front : List X) (x : X) (rest : List X) → front ++ x ∷ rest ≡ all → AreOfTheirKinds (say x))
      → (front rest : List X) → front ++ rest ≡ all → All (λ line. All (λ b. b ≢ 10) line) (map joined (map say rest))
  each_line say all kinds front [] e = All-nil (λ line. All (λ b. b ≢ 10) line)
  each_line say all kinds front (x ∷ rest) e =
      All-cons (λ line. All (λ b. b ≢ 10) line) (joined (say x)) (map joined (map say rest)) (joined_whole (say x) (kinds front x rest e))
      (each_line say all kinds (front ++ x ∷ []) rest (append_assoc front (x ∷ []) rest ∙ e))

  all_whole : (ls ms : List (List Lexeme)) → All (λ line. All (λ b. b ≢ 10) line) (map joined ls) → All (λ line. All (λ b. b ≢ 10) line) (map joined ms) → All (λ line. All (λ b. b ≢ 10) line) (map joined (ls ++ ms))
  all_whole ls ms h k = subst (All (λ line. All (λ b. b ≢ 10) line)) (sym (map-append joined ls ms)) (All-append (λ line. All (λ b. b ≢ 10) line) (map joined ls) (map joined ms) h k)

  pub lines_whole : All (λ line. All (λ b. b ≢ 10) line) (map joined (lines_said m))
  lines_whole =
      let cs = map component_said m.components in
      let vs = map variable_said m.variables in
      let rs = map (rule_said m) m.rules in
      let xs = map (move_said m) m.moves in
      let fs = map (failure_said m) m.failures in
      All-cons (λ line. All (λ b. b ≢ 10) line) (joined (header_said m.version)) (map joined (cs ++ vs ++ rs ++ xs ++ fs)) (joined_whole (header_said m.version) (header_kinds m.version w.version))
      (all_whole (cs ++ vs ++ rs ++ xs) fs
      (all_whole (cs ++ vs ++ rs) xs
      (all_whole (cs ++ vs) rs
      (all_whole cs vs (each_line component_said m.components (component_kinds m.version m.components named w.components w.limits.components) [] m.components refl)
      (each_line variable_said m.variables (variable_kinds m.version m.components m.variables w.names w.variables w.limits.variables) [] m.variables refl))
      (each_line (rule_said m) m.rules (rule_kinds m has_names w.rules w.limits.rules) [] m.rules refl))
      (each_line (move_said m) m.moves (move_kinds m w) [] m.moves refl))
      (each_line (failure_said m) m.failures (failure_kinds m has_names w.failures w.limits.failures) [] m.failures refl))
