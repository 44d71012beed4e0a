-- Models that stay well formed as they grow by one part.
use Rattle.std.proofs.Common.{◌≡◌, ◌≢◌, ◌<◌, ℕ, zero, suc, false, ◌&&◌, ◌||◌, ◌==◌, ◌⊎◌, inl, inr, List, [], ◌∷◌, ◌++◌, length, map, slice_get, Some, Contains, IsTrue, All, refl, sym, ap, subst, ◌∙◌, arith}
use Rattle.std.proofs.lemmas.Bool.{eqb-true, false≢true}
use Rattle.std.proofs.lemmas.Option.{slice_get-get_or, same_Some}
use Rattle.std.proofs.lemmas.List.{append_assoc, map_push, length_push}
use Rattle.std.proofs.lemmas.List.Elements.{All-weaker, All-push, All-cons, All-head, All-tail, Contains-push_cases}
use Rattle.std.proofs.lemmas.List.Quantifiers.{all_pairs_push}
use Rattle.std.proofs.lemmas.List.Kept.{AllPairs-cons}
use Rattle.std.proofs.lemmas.List.Folds.{Any-from_list_any}
use Rattle.list_laws.proofs.Pairwise.{AllPairs-head, AllPairs-tail}
use Rattle.cca_base.proofs.FormulaGrowth.{Extends, counts_same, counts_push, All-IsFormula-kept, All-IsMove-kept, All-IsFailure-kept}
use Rattle.cca_base.specs.declared.formula.Formula.{Formula}
use Rattle.cca_base.specs.declared.model.Component.{Component}
use Rattle.cca_base.specs.declared.model.Variable.{Variable}
use Rattle.cca_base.specs.declared.model.Move.{Move}
use Rattle.cca_base.specs.declared.model.Failure.{Failure}
use Rattle.cca_base.specs.declared.limits.TheConstants.{MAX_COMPONENTS, MAX_VARIABLES, MAX_RULES, MAX_MOVES, MAX_FAILURES}
use Rattle.cca_base.specs.PlantModel.{PlantModel}
use Rattle.cca_base.specs.Names.{is_name, AreNames, AreDifferent}
use Rattle.cca_base.specs.Model.{WellFormed, KeepsLimits, IsVersion, CommandsFit, mode_counts, value_counts, AreChoices, IsComponent, IsFormula, IsMove, IsFailure, RepairsFit, IsNext, AreInOrderOfFirstUse, RepairChain, is_broken, is_repair_of, is_used, names_of, with_component, with_variable, with_rule, with_command, with_move, with_failure}

-- ---- names

-- what holds of each stays when one more stands between them
All-middle : {X : Type 0} (P : X → Type 0) (xs : List X) (x : X) (ys : List X) → P x → All P (xs ++ ys) → All P ((xs ++ x ∷ []) ++ ys)
All-middle P [] x ys p h = All-cons P x ys p h
All-middle P (y ∷ xs) x ys p h = All-cons P y _ (All-head P y (xs ++ ys) h) (All-middle P xs x ys p (All-tail P y (xs ++ ys) h))

-- different names, with a new one between them
AreDifferent-middle : {X : Type 0} (xs : List X) (x : X) (ys : List X) → All (λ y. y ≢ x) (xs ++ ys) → AreDifferent (xs ++ ys) → AreDifferent ((xs ++ x ∷ []) ++ ys)
AreDifferent-middle [] x ys new h = AllPairs-cons (λ a b. a ≢ b) x ys (All-weaker (λ y. y ≢ x) (λ y. x ≢ y) (λ y ne e. ne (sym e)) ys new) h
AreDifferent-middle (y ∷ xs) x ys new h =
    AllPairs-cons (λ a b. a ≢ b) y _
    (All-middle (λ b. y ≢ b) xs x ys (All-head (λ z. z ≢ x) y (xs ++ ys) new) (AllPairs-head (λ a b. a ≢ b) y (xs ++ ys) h))
    (AreDifferent-middle xs x ys (All-tail (λ z. z ≢ x) y (xs ++ ys) new) (AllPairs-tail (λ a b. a ≢ b) y (xs ++ ys) h))

-- a new name between the others
AreNames-middle : (xs : List (List ℕ)) (x : List ℕ) (ys : List (List ℕ)) → IsTrue (is_name x) → All (λ name. name ≢ x) (xs ++ ys) → AreNames (xs ++ ys) → AreNames ((xs ++ x ∷ []) ++ ys)
AreNames-middle xs x ys named new h = record {
  each = All-middle (λ name. IsTrue (is_name name)) xs x ys named h.each;
  different = AreDifferent-middle xs x ys new h.different;
}

-- a new name behind the others
AreNames-push : (xs : List (List ℕ)) (x : List ℕ) → IsTrue (is_name x) → All (λ name. name ≢ x) xs → AreNames xs → AreNames (xs ++ x ∷ [])
AreNames-push xs x named new h = record {
  each = All-push (λ name. IsTrue (is_name name)) xs x h.each named;
  different = all_pairs_push (λ a b. a ≢ b) xs x h.different new;
}

-- ---- components, variables and commands

-- a model with more choices and commands stays well formed by what holds of these
with_choices : (m : PlantModel) (components : List Component) (variables : List Variable) (commands : List (List ℕ)) → WellFormed m
    → let n : PlantModel = record m { components = components; variables = variables; commands = commands } in
    Extends m n → KeepsLimits n → AreNames (names_of n) × AreNames commands → All IsComponent components × All (λ v. AreChoices v.values) variables → WellFormed n
with_choices m components variables commands h e limits names each =
    let n : PlantModel = record m { components = components; variables = variables; commands = commands } in
    record {
      version = h.version;
      limits = limits;
      names = names.0;
      command_names = names.1;
      components = each.0;
      variables = each.1;
      rules = All-IsFormula-kept m n e m.rules h.rules;
      moves = All-IsMove-kept m n e m.moves h.moves;
      failures = All-IsFailure-kept m n e m.failures h.failures;
      repairs = h.repairs;
      commands = h.commands;
      first_use = h.first_use;
    }

-- a new component has a new name
pub component_kept : (m : PlantModel) (x : Component) → WellFormed m → length m.components < MAX_COMPONENTS → IsComponent x → IsTrue (is_name x.name) → All (λ name. name ≢ x.name) (names_of m) → WellFormed (with_component m x)
component_kept m x h few good named new =
    let old : List (List ℕ) = map (λ c. c.name) m.components in
    let others : List (List ℕ) = map (λ v. v.name) m.variables in
    with_choices m (m.components ++ x ∷ []) m.variables m.commands h
    (record { modes = counts_push (λ c. length c.modes) m.components x; values = counts_same (value_counts m); commands = omega arith })
    (record { components = omega (arith, length_push m.components x); variables = h.limits.variables; rules = h.limits.rules; moves = h.limits.moves; failures = h.limits.failures })
    (subst (λ names. AreNames (names ++ others)) (sym (map_push (λ c. c.name) m.components x)) (AreNames-middle old x.name others named new h.names), h.command_names)
    (All-push IsComponent m.components x h.components good, h.variables)

pub variable_kept : (m : PlantModel) (x : Variable) → WellFormed m → length m.variables < MAX_VARIABLES → AreChoices x.values → IsTrue (is_name x.name) → All (λ name. name ≢ x.name) (names_of m) → WellFormed (with_variable m x)
variable_kept m x h few good named new =
    let front : List (List ℕ) = map (λ c. c.name) m.components in
    let old : List (List ℕ) = map (λ v. v.name) m.variables in
    with_choices m m.components (m.variables ++ x ∷ []) m.commands h
    (record { modes = counts_same (mode_counts m); values = counts_push (λ v. length v.values) m.variables x; commands = omega arith })
    (record { components = h.limits.components; variables = omega (arith, length_push m.variables x); rules = h.limits.rules; moves = h.limits.moves; failures = h.limits.failures }) (
      subst (λ names. AreNames (front ++ names)) (sym (map_push (λ v. v.name) m.variables x))
          (subst AreNames (append_assoc front old (x.name ∷ [])) (AreNames-push (front ++ old) x.name named new h.names)),
      h.command_names,
    )
    (h.components, All-push (λ v. AreChoices v.values) m.variables x h.variables good)

pub command_kept : (m : PlantModel) (x : List ℕ) → WellFormed m → IsTrue (is_name x) → All (λ name. name ≢ x) m.commands → WellFormed (with_command m x)
command_kept m x h named new =
    with_choices m m.components m.variables (m.commands ++ x ∷ []) h
    (record { modes = counts_same (mode_counts m); values = counts_same (value_counts m); commands = omega (arith, length_push m.commands x) })
    (record { components = h.limits.components; variables = h.limits.variables; rules = h.limits.rules; moves = h.limits.moves; failures = h.limits.failures })
    (h.names, AreNames-push m.commands x named new h.command_names) (h.components, h.variables)

-- ---- rules, moves and failures

-- a model with other rules, moves and failures, each of which speaks of the same choices and commands
pub with_lists : (m : PlantModel) (version : ℕ) (rules : List Formula) (moves : List Move) (failures : List Failure) → WellFormed m
    → let n : PlantModel = record m { version = version; rules = rules; moves = moves; failures = failures } in
    IsVersion version × KeepsLimits n → All (IsFormula m) rules → All (IsMove m) moves → All (IsFailure m) failures → RepairsFit version moves × CommandsFit moves × AreInOrderOfFirstUse moves → WellFormed n
with_lists m version rules moves failures h own each_rule each_move each_failure fit =
    let n : PlantModel = record m { version = version; rules = rules; moves = moves; failures = failures } in
    let e : Extends m n = record { modes = counts_same (mode_counts m); values = counts_same (value_counts m); commands = omega arith } in
    record {
      version = own.0;
      limits = own.1;
      names = h.names;
      command_names = h.command_names;
      components = h.components;
      variables = h.variables;
      rules = All-IsFormula-kept m n e rules each_rule;
      moves = All-IsMove-kept m n e moves each_move;
      failures = All-IsFailure-kept m n e failures each_failure;
      repairs = fit.0;
      commands = fit.1;
      first_use = fit.2;
    }

pub rule_kept : (m : PlantModel) (x : Formula) → WellFormed m → length m.rules < MAX_RULES → IsFormula m x → WellFormed (with_rule m x)
rule_kept m x h few good =
    with_lists m m.version (m.rules ++ x ∷ []) m.moves m.failures h
    (h.version, record { components = h.limits.components; variables = h.limits.variables; rules = omega (arith, length_push m.rules x); moves = h.limits.moves; failures = h.limits.failures })
    (All-push (IsFormula m) m.rules x h.rules good) h.moves h.failures (h.repairs, h.commands, h.first_use)

pub failure_kept : (m : PlantModel) (x : Failure) → WellFormed m → length m.failures < MAX_FAILURES → IsFailure m x → WellFormed (with_failure m x)
failure_kept m x h few good =
    with_lists m m.version m.rules m.moves (m.failures ++ x ∷ []) h
    (h.version, record { components = h.limits.components; variables = h.limits.variables; rules = h.limits.rules; moves = h.limits.moves; failures = omega (arith, length_push m.failures x) })
    h.rules h.moves (All-push (IsFailure m) m.failures x h.failures good) (h.repairs, h.commands, h.first_use)

-- ---- moves

-- an element behind others stands where it stood
pub slice_get_front : {X : Type 0} (xs : List X) (y : X) (i : ℕ) (x : X) → slice_get xs i ≡ Some x → slice_get (xs ++ y ∷ []) i ≡ Some x
slice_get_front [] y i x h = absurd cc
slice_get_front (z ∷ xs) y zero x h = h
slice_get_front (z ∷ xs) y (suc i) x h = slice_get_front xs y i x h

-- the last element of the longer list
pub slice_get_last : {X : Type 0} (xs : List X) (y : X) (i : ℕ) → i ≡ length xs → slice_get (xs ++ y ∷ []) i ≡ Some y
slice_get_last [] y zero e = refl
slice_get_last [] y (suc i) e = absurd cc
slice_get_last (z ∷ xs) y zero e = absurd cc
slice_get_last (z ∷ xs) y (suc i) e = slice_get_last xs y i (omega (arith, e))

-- an element of the longer list is one of the shorter, or the last
pub slice_get_cases : {X : Type 0} (xs : List X) (y : X) (i : ℕ) (x : X) → slice_get (xs ++ y ∷ []) i ≡ Some x → (slice_get xs i ≡ Some x) ⊎ ((i ≡ length xs) × (y ≡ x))
slice_get_cases [] y zero x h = inr (refl, same_Some y x h)
slice_get_cases [] y (suc i) x h = absurd cc
slice_get_cases (z ∷ xs) y zero x h = inl h
slice_get_cases (z ∷ xs) y (suc i) x h = elim (slice_get_cases xs y i x h) [ inl same ↦ inl same | inr last ↦ inr (ap suc last.0, last.1) ]

-- an earlier move that has the command
abbrev EarlierUse : List Move → ℕ → ℕ → Type 0
EarlierUse moves i command = (j : ℕ) × (earlier : Move) × (j < i) × (slice_get moves j ≡ Some earlier) × (earlier.command ≡ command)

-- what is used in the list is used before its end
used_before : (moves : List Move) (x : Move) (i command : ℕ) → i ≡ length moves → IsTrue (is_used moves command) → EarlierUse (moves ++ x ∷ []) i command
used_before moves x i command at used =
    let (j, y, within, is, same) = Any-from_list_any (λ move. move.command == command) moves used in
    (j, y, omega arith, slice_get_front moves x j y (slice_get-get_or moves j y within ∙ ap Some is), eqb-true y.command command same)

-- a move that uses no command too early keeps the order
first_use_push : (moves : List Move) (x : Move) → AreInOrderOfFirstUse moves → ((command : ℕ) → command < x.command → IsTrue (is_used moves command)) → AreInOrderOfFirstUse (moves ++ x ∷ [])
first_use_push moves x h used i command move is before =
    elim (slice_get_cases moves x i move is) [
      | inl old ↦ let found = h i command move old before in (found.0, found.1, found.2, slice_get_front moves x found.0 found.1 found.3, found.4)
      | inr last ↦ used_before moves x i command last.0 (used command (subst (λ y. command < y.command) (sym last.1) before))
    ]

-- no move with its command is of another component, or leaves the same mode; every command before its own is used
pub move_kept : (m : PlantModel) (x : Move) → WellFormed m → length m.moves < MAX_MOVES → IsMove m x → RepairsFit m.version (m.moves ++ x ∷ [])
    → All (λ y. y.command ≡ x.command → (y.component ≡ x.component) × (y.source ≢ x.source)) m.moves
    → ((command : ℕ) → command < x.command → IsTrue (is_used m.moves command)) → WellFormed (with_move m x)
move_kept m x h few good repairs fit used =
    with_lists m m.version m.rules (m.moves ++ x ∷ []) m.failures h
    (h.version, record { components = h.limits.components; variables = h.limits.variables; rules = h.limits.rules; moves = omega (arith, length_push m.moves x); failures = h.limits.failures })
    h.rules (All-push (IsMove m) m.moves x h.moves good) h.failures
    (repairs, all_pairs_push (λ a b. a.command ≡ b.command → (a.component ≡ b.component) × (a.source ≢ b.source)) m.moves x h.commands fit, first_use_push m.moves x h.first_use used)

-- ---- repairs

-- an ordinary move repairs no mode
not_repair : (x : Move) (c mode : ℕ) → x.repair ≡ false → is_repair_of c mode x ≡ false
not_repair x c mode ordinary = ap (λ repair. repair && (x.component == c && x.source == mode)) ordinary

-- an ordinary move breaks no mode
broken_push : (moves : List Move) (x : Move) → x.repair ≡ false → (c mode : ℕ) → is_broken (moves ++ x ∷ []) c mode ≡ is_broken moves c mode
broken_push [] x ordinary c mode = ap (λ b. b || false) (not_repair x c mode ordinary)
broken_push (y ∷ moves) x ordinary c mode = ap (λ b. is_repair_of c mode y || b) (broken_push moves x ordinary c mode)

-- and mends none
mended_push : (moves : List Move) (x : Move) → x.repair ≡ false → (c mode a : ℕ) → IsNext (moves ++ x ∷ []) c mode a → IsNext moves c mode a
mended_push moves x ordinary c mode a h =
    let old : Contains moves h.repair =
    elim (Contains-push_cases moves x h.repair h.of_model) [
      | inl old ↦ old
      | inr e ↦ absurd (false≢true (sym (not_repair x c mode ordinary) ∙ ap (is_repair_of c mode) e ∙ h.mends))
    ]
    in
    record { repair = h.repair; of_model = old; mends = h.mends; target = h.target }

-- and so lengthens no chain
chain_push : (moves : List Move) (x : Move) → x.repair ≡ false → (c a b n : ℕ) → RepairChain (moves ++ x ∷ []) c a b n → RepairChain moves c a b n
chain_push moves x ordinary c a b zero e = e
chain_push moves x ordinary c a b (suc n) p = (p.0, mended_push moves x ordinary c a p.0 p.1, chain_push moves x ordinary c p.0 b n p.2)

-- an ordinary move that keeps off broken modes
pub ordinary_fits : (version : ℕ) (moves : List Move) (x : Move) → RepairsFit version moves → x.repair ≡ false → is_broken moves x.component x.source ≡ false
    → is_broken moves x.component x.target ≡ false → RepairsFit version (moves ++ x ∷ [])
ordinary_fits version moves x h ordinary off into =
    let same : (c mode : ℕ) → is_broken (moves ++ x ∷ []) c mode ≡ is_broken moves c mode = broken_push moves x ordinary in
    record {
      one_target = λ c mode a b p q. h.one_target c mode a b (mended_push moves x ordinary c mode a p) (mended_push moves x ordinary c mode b q);
      no_cycle = λ c mode n p. h.no_cycle c mode n (chain_push moves x ordinary c mode mode (suc n) p);
      at_once = λ first c mode next p. same c next ∙ h.at_once first c mode next (mended_push moves x ordinary c mode next p);
      only_repairs_enter = All-push (λ move. IsTrue (is_broken (moves ++ x ∷ []) move.component move.target) → IsTrue move.repair) moves x
          (All-weaker (λ move. IsTrue (is_broken moves move.component move.target) → IsTrue move.repair) (λ move. IsTrue (is_broken (moves ++ x ∷ []) move.component move.target) → IsTrue move.repair)
          (λ y enters broken. enters (sym (same y.component y.target) ∙ broken)) moves h.only_repairs_enter)
          (λ broken. absurd (false≢true (sym into ∙ sym (same x.component x.target) ∙ broken)));
      only_repairs_leave = All-push (λ move. IsTrue (is_broken (moves ++ x ∷ []) move.component move.source) → IsTrue move.repair) moves x
          (All-weaker (λ move. IsTrue (is_broken moves move.component move.source) → IsTrue move.repair) (λ move. IsTrue (is_broken (moves ++ x ∷ []) move.component move.source) → IsTrue move.repair)
          (λ y leaves broken. leaves (sym (same y.component y.source) ∙ broken)) moves h.only_repairs_leave)
          (λ broken. absurd (false≢true (sym off ∙ sym (same x.component x.source) ∙ broken)));
    }
