-- Where the printed line of a new item stands among the others.
use Rattle.std.proofs.Common.{◌≡◌, ℕ, ◌≤◌, List, [], ◌∷◌, ◌++◌, length, map, codes, refl, sym, ap, ◌∙◌}
use Rattle.std.proofs.lemmas.List.{append_assoc, append-nil, map_push}
use Rattle.cca_base.specs.declared.formula.Formula.{Formula}
use Rattle.cca_base.specs.declared.model.Component.{Component}
use Rattle.cca_base.specs.declared.model.Variable.{Variable}
use Rattle.cca_base.specs.declared.model.Move.{Move}
use Rattle.cca_base.specs.declared.model.Failure.{Failure}
use Rattle.cca_base.specs.PlantModel.{PlantModel}
use Rattle.cca_base.specs.Model.{WellFormed, with_component, with_variable, with_rule, with_move, with_failure}
use Rattle.text_base.specs.Lexemes.{Lexeme, word}
use Rattle.model_syntax.specs.Printing.{joined, header_said, component_said, variable_said, formula_said, move_said, failure_said, lines_said}
use Rattle.model_syntax.specs.Shorter.{AddsLine}
use Rattle.model_syntax.proofs.KeptLines.{Grows, keeps_all, keeps_push, rules_stay, moves_stay, failures_stay}

abbrev Lines : Type 0
Lines = List (List Lexeme)

-- the lines of a model by their kinds, behind that of its version
abbrev page : List Lexeme → Lines → Lines → Lines → Lines → Lines → Lines
page first a b c d e = first ∷ a ++ b ++ c ++ d ++ e

-- ---- one line more of a kind

three : (x c d e : Lines) → x ++ c ++ d ++ e ≡ x ++ (c ++ d ++ e)
three x c d e = simp append_assoc

four : (x b c d e : Lines) → x ++ b ++ c ++ d ++ e ≡ x ++ (b ++ c ++ d ++ e)
four x b c d e = simp append_assoc

-- a line behind a second list
behind_both : (x y z : Lines) (l : List Lexeme) → (x ++ (y ++ l ∷ [])) ++ z ≡ (x ++ y) ++ l ∷ z
behind_both x y z l = ap (λ (w : Lines). w ++ z) (sym (append_assoc x y (l ∷ []))) ∙ append_assoc (x ++ y) (l ∷ []) z

module _ (first : List Lexeme) where
  below_first : {a b : Lines} → a ≡ b → first ∷ a ≡ first ∷ b
  below_first e = ap (λ (x : Lines). first ∷ x) e

  more_first : (a b c d e : Lines) (l : List Lexeme) → page first (a ++ l ∷ []) b c d e ≡ (first ∷ a) ++ l ∷ (b ++ c ++ d ++ e)
  more_first a b c d e l = below_first (four (a ++ l ∷ []) b c d e ∙ append_assoc a (l ∷ []) (b ++ c ++ d ++ e))

  more_second : (a b c d e : Lines) (l : List Lexeme) → page first a (b ++ l ∷ []) c d e ≡ (first ∷ a ++ b) ++ l ∷ (c ++ d ++ e)
  more_second a b c d e l = below_first (three (a ++ (b ++ l ∷ [])) c d e ∙ behind_both a b (c ++ d ++ e) l)

  more_third : (a b c d e : Lines) (l : List Lexeme) → page first a b (c ++ l ∷ []) d e ≡ (first ∷ a ++ b ++ c) ++ l ∷ (d ++ e)
  more_third a b c d e l = below_first (append_assoc (a ++ b ++ (c ++ l ∷ [])) d e ∙ behind_both (a ++ b) c (d ++ e) l)

  more_fourth : (a b c d e : Lines) (l : List Lexeme) → page first a b c (d ++ l ∷ []) e ≡ (first ∷ a ++ b ++ c ++ d) ++ l ∷ e
  more_fourth a b c d e l = below_first (behind_both (a ++ b ++ c) d e l)

  more_fifth : (a b c d e : Lines) (l : List Lexeme) → page first a b c d (e ++ l ∷ []) ≡ (first ∷ a ++ b ++ c ++ d ++ e) ++ l ∷ []
  more_fifth a b c d e l = below_first (sym (append_assoc (a ++ b ++ c ++ d) e (l ∷ [])))

same_page : (first head : List Lexeme) → first ≡ head → (a b c d e v w x y z : Lines) → a ≡ v → b ≡ w → c ≡ x → d ≡ y → e ≡ z → page first a b c d e ≡ page head v w x y z
same_page first head o a b c d e v w x y z p q r s t = cc

-- ---- one item more

module _ (m : PlantModel) (h : WellFormed m) where
  abbrev first : List Lexeme
  first = header_said m.version

  abbrev cs : Lines
  cs = map component_said m.components

  abbrev vs : Lines
  vs = map variable_said m.variables

  abbrev rule_said : PlantModel → Formula → List Lexeme
  rule_said n f = word (codes "rule") ∷ formula_said n f

  abbrev rs : Lines
  rs = map (rule_said m) m.rules

  abbrev ms : Lines
  ms = map (move_said m) m.moves

  abbrev fs : Lines
  fs = map (failure_said m) m.failures

  component_grows : (x : Component) → Grows m (with_component m x)
  component_grows x = record { components = keeps_push m.components x; variables = keeps_all m.variables; commands = keeps_all m.commands }

  variable_grows : (x : Variable) → Grows m (with_variable m x)
  variable_grows x = record { components = keeps_all m.components; variables = keeps_push m.variables x; commands = keeps_all m.commands }

  pub rule_grows : (x : Formula) → Grows m (with_rule m x)
  rule_grows x = record { components = keeps_all m.components; variables = keeps_all m.variables; commands = keeps_all m.commands }

  pub failure_grows : (x : Failure) → Grows m (with_failure m x)
  failure_grows x = record { components = keeps_all m.components; variables = keeps_all m.variables; commands = keeps_all m.commands }

  -- the line stands between these
  line_added : (n : PlantModel) (text : List ℕ) (front back : Lines) (line : List Lexeme) → lines_said m ≡ front ++ back → lines_said n ≡ front ++ line ∷ back → length (joined line) ≤ length text → AddsLine m n text
  line_added n text front back line before after short = record { front = front; back = back; line = line; before = before; after = after; no_longer = short }

  pub component_adds : (x : Component) (text : List ℕ) → length (joined (component_said x)) ≤ length text → AddsLine m (with_component m x) text
  component_adds x text short =
      let n = with_component m x in
      let g = component_grows x in
      line_added n text (first ∷ cs) (vs ++ rs ++ ms ++ fs) (component_said x) (below_first first (four cs vs rs ms fs))
      (same_page first first refl _ _ _ _ _ (cs ++ component_said x ∷ []) vs rs ms fs (map_push component_said m.components x) refl (rules_stay m n g m.rules h.rules) (moves_stay m n g m.moves h.moves) (failures_stay m n g m.failures h.failures)
      ∙ more_first first cs vs rs ms fs (component_said x)) short

  pub variable_adds : (x : Variable) (text : List ℕ) → length (joined (variable_said x)) ≤ length text → AddsLine m (with_variable m x) text
  variable_adds x text short =
      let n = with_variable m x in
      let g = variable_grows x in
      line_added n text (first ∷ cs ++ vs) (rs ++ ms ++ fs) (variable_said x) (below_first first (three (cs ++ vs) rs ms fs))
      (same_page first first refl _ _ _ _ _ cs (vs ++ variable_said x ∷ []) rs ms fs refl (map_push variable_said m.variables x) (rules_stay m n g m.rules h.rules) (moves_stay m n g m.moves h.moves) (failures_stay m n g m.failures h.failures)
      ∙ more_second first cs vs rs ms fs (variable_said x)) short

  pub rule_adds : (x : Formula) (text : List ℕ) → length (joined (rule_said (with_rule m x) x)) ≤ length text → AddsLine m (with_rule m x) text
  rule_adds x text short =
      let n = with_rule m x in
      let g = rule_grows x in
      let line = rule_said n x in
      line_added n text (first ∷ cs ++ vs ++ rs) (ms ++ fs) line (below_first first (append_assoc (cs ++ vs ++ rs) ms fs))
      (same_page first first refl _ _ _ _ _ cs vs (rs ++ line ∷ []) ms fs refl refl (map_push (rule_said n) m.rules x ∙ ap (λ (y : Lines). y ++ line ∷ []) (rules_stay m n g m.rules h.rules)) (moves_stay m n g m.moves h.moves)
      (failures_stay m n g m.failures h.failures)
      ∙ more_third first cs vs rs ms fs line) short

  pub failure_adds : (x : Failure) (text : List ℕ) → length (joined (failure_said (with_failure m x) x)) ≤ length text → AddsLine m (with_failure m x) text
  failure_adds x text short =
      let n = with_failure m x in
      let g = failure_grows x in
      let line = failure_said n x in
      line_added n text (lines_said m) [] line (sym (append-nil (lines_said m)))
      (same_page first first refl _ _ _ _ _ cs vs rs ms (fs ++ line ∷ []) refl refl (rules_stay m n g m.rules h.rules) (moves_stay m n g m.moves h.moves)
      (map_push (failure_said n) m.failures x ∙ ap (λ (y : Lines). y ++ line ∷ []) (failures_stay m n g m.failures h.failures))
      ∙ more_fifth first cs vs rs ms fs line) short

  -- a move may bring a command with it
  pub move_adds : (k : PlantModel) (x : Move) (text : List ℕ) → Grows m (with_move k x) → k.version ≡ m.version → k.components ≡ m.components → k.variables ≡ m.variables → k.rules ≡ m.rules → k.moves ≡ m.moves → k.failures ≡ m.failures
      → length (joined (move_said (with_move k x) x)) ≤ length text → AddsLine m (with_move k x) text
  move_adds k x text g ez ec ev er em ef short =
      let n = with_move k x in
      let line = move_said n x in
      line_added n text (first ∷ cs ++ vs ++ rs ++ ms) fs line refl
      (same_page (header_said k.version) first (ap header_said ez) _ _ _ _ _ cs vs rs (ms ++ line ∷ []) fs (ap (map component_said) ec) (ap (map variable_said) ev) (ap (map (rule_said n)) er ∙ rules_stay m n g m.rules h.rules)
      (map_push (move_said n) k.moves x ∙ ap (λ (y : List Move). map (move_said n) y ++ line ∷ []) em ∙ ap (λ (y : Lines). y ++ line ∷ []) (moves_stay m n g m.moves h.moves))
      (ap (map (failure_said n)) ef ∙ failures_stay m n g m.failures h.failures)
      ∙ more_fourth first cs vs rs ms fs line) short
