-- Small models are well formed by tests that compute: names that differ, moves that each have the command of their own place, one way to mend.
use Rattle.std.proofs.Common.{◌≡◌, ◌≢◌, ◌<◌, ◌+◌, ◌==◌, ℕ, zero, suc, Bool, true, false, not, ◌&&◌, ◌||◌, List, [], ◌∷◌, length, get_or, slice_get, slice_index, Some, All, Contains, IsTrue, sym, ap, ◌∙◌, arith}
use Rattle.std.specs.Prelude.{nat_lt, nat_le}
use Rattle.std.specs.List.{list_all}
use Rattle.std.specs.Str.{bytes_eq}
use Rattle.std.proofs.lemmas.Bool.{and_parts, false≢true, not-true, eq-eqb, eqb-true, ltb-true, leb-true}
use Rattle.std.proofs.lemmas.List.Elements.{All-contains}
use Rattle.std.proofs.lemmas.List.Folds.{list_any_at}
use Rattle.std.proofs.lemmas.List.Kept.{AllPairs-cons}
use Rattle.std.proofs.lemmas.List.Sums.{AllPass-from_list_all}
use Rattle.std.proofs.lemmas.Option.{slice_get-get_or, slice_get_within, same_Some, none-some}
use Rattle.std.proofs.lemmas.Slice.Eq.{bytes_eq-Decides}
use Rattle.list_laws.proofs.Tests.{either}
use Rattle.cca_base.specs.declared.limits.TheConstants.{MAX_COMPONENTS, MAX_CHOICES, MAX_VARIABLES, MAX_RULES, MAX_MOVES, MAX_FAILURES, MAX_COST}
use Rattle.cca_base.specs.declared.model.Component.{Component}
use Rattle.cca_base.specs.declared.model.Move.{Move}
use Rattle.cca_base.specs.declared.model.Failure.{Failure}
use Rattle.cca_base.specs.PlantModel.{PlantModel}
use Rattle.cca_base.specs.Names.{is_name, AreNames, AreDifferent}
use Rattle.cca_base.specs.Model.{WellFormed, KeepsLimits, IsVersion, AreChoices, IsComponent, IsFormula, IsMove, IsFailure, RepairsFit, CommandsFit, AreInOrderOfFirstUse, is_used, is_broken, is_repair_of, mode_counts, names_of}
use Rattle.cca_base.proofs.NextModes.{repair_of, repair_parts, at_once_fits}
use Rattle.cca_laws.specs.Examples.{always_true}

-- whether no text comes twice
abbrev pub differ : List (List ℕ) → Bool
differ [] = true
differ (x ∷ xs) = list_all (λ y. not (bytes_eq x y)) xs && differ xs

apart : (x y : List ℕ) → not (bytes_eq x y) ≡ true → x ≢ y
apart x y h e = false≢true (sym (ap not ((bytes_eq-Decides x y).1 e)) ∙ h)

all_differ : (xs : List (List ℕ)) → differ xs ≡ true → AreDifferent xs
all_differ [] h = λ i j d lt within. absurd (omega arith)
all_differ (x ∷ xs) h =
    let parts = and_parts (list_all (λ y. not (bytes_eq x y)) xs) (differ xs) h in
    AllPairs-cons (λ y z. y ≢ z) x xs (λ k d within. apart x (get_or xs k d) (AllPass-from_list_all (λ y. not (bytes_eq x y)) xs parts.0 k d within))
    (all_differ xs parts.1)

texts_fit : (xs : List (List ℕ)) → (list_all is_name xs && differ xs) ≡ true → AreNames xs
texts_fit xs h =
    let (each, different) = and_parts (list_all is_name xs) (differ xs) h in
    record { each = AllPass-from_list_all is_name xs each; different = all_differ xs different }

-- ---- commands

-- whether each move has the command of its own place, where the first place has this number
abbrev pub numbered : ℕ → List Move → Bool
numbered first [] = true
numbered first (move ∷ moves) = (first == move.command) && numbered (suc first) moves

own_place : (moves : List Move) (first i : ℕ) (move : Move) → numbered first moves ≡ true → slice_get moves i ≡ Some move → first + i ≡ move.command
own_place [] first i move h e = absurd (none-some move e)
own_place (x ∷ moves) first zero move h e =
    let here : first ≡ x.command = eqb-true first x.command (and_parts (first == x.command) _ h).0 in
    omega (arith, here, ap (λ (y : Move). y.command) (same_Some x move e))
own_place (x ∷ moves) first (suc i) move h e = let rest = own_place moves (suc first) i move (and_parts (first == x.command) _ h).1 e in omega (arith, rest)

module _ (moves : List Move) (h : numbered 0 moves ≡ true) where
  own : (i : ℕ) (move : Move) → slice_get moves i ≡ Some move → i ≡ move.command
  own i move e = omega (arith, own_place moves 0 i move h e)

  command_at : (i : ℕ) (d : Move) → i < length moves → i ≡ (get_or moves i d).command
  command_at i d within = own i (get_or moves i d) (slice_get-get_or moves i d within)

  own_fit : CommandsFit moves
  own_fit i j d before within e = absurd (omega (arith, command_at i d (omega arith), command_at j d within, e))

  own_first_use : AreInOrderOfFirstUse moves
  own_first_use i command move e less =
      let here : i < length moves = slice_get_within moves i move e in
      let last : i ≡ move.command = own i move e in
      let before : command < i = omega arith in
      (command, get_or moves command move, before, slice_get-get_or moves command move (omega arith), sym (command_at command move (omega arith)))

  -- the move at the place of a command's number is the one move by that command
  pub the_one : (move : Move) (k : ℕ) → slice_get moves k ≡ Some move → (other : Move) → other.command ≡ k → Contains moves other → move ≡ other
  the_one move k at other by (i, within, e) =
      let there : slice_get moves i ≡ Some other = slice_get-get_or moves i other within ∙ ap Some e in
      same_Some move other (sym at ∙ ap (slice_get moves) (sym (own i other there ∙ by)) ∙ there)

  pub own_used : (command : ℕ) → command < length moves → IsTrue (is_used moves command)
  own_used command within =
      let d : Move = record { component = 0; source = 0; target = 0; command = 0; repair = false; guard = always_true } in
      let at = command_at command d within in
      list_any_at (λ move. move.command == command) moves command d within (eq-eqb (get_or moves command d).command command (sym at))

-- ---- repairs

-- whether not both are repairs of one mode, unless they lead to one mode
abbrev one_way : Move → Move → Bool
one_way x y = not (is_repair_of x.component x.source y) || (not x.repair || x.target == y.target)

-- whether all repairs of a mode lead to one mode, nothing leads into a broken mode, and only repairs leave one
abbrev mends_at_once : List Move → Bool
mends_at_once moves =
    list_all (λ x. list_all (one_way x) moves) moves
    && (list_all (λ x. not (is_broken moves x.component x.target)) moves && list_all (λ x. not (is_broken moves x.component x.source) || x.repair) moves)

either_way : (x y : Move) (c mode : ℕ) → one_way x y ≡ true → is_repair_of c mode x ≡ true → is_repair_of c mode y ≡ true → x.target ≡ y.target
either_way x y c mode h mends other =
    let (repair, own, source) = repair_parts c mode x mends in
    let parts = repair_parts c mode y other in
    let same : is_repair_of x.component x.source y ≡ true = repair_of x.component x.source y parts.0 (parts.1 ∙ sym own) (parts.2 ∙ sym source) in
    either (not (is_repair_of x.component x.source y)) (not x.repair || x.target == y.target) h (λ no. absurd (false≢true (sym (ap not same) ∙ no)))
    (λ rest. either (not x.repair) (x.target == y.target) rest (λ no. absurd (false≢true (sym (ap not repair) ∙ no))) (eqb-true x.target y.target))

pub mending_fits : (version : ℕ) (moves : List Move) → mends_at_once moves ≡ true → RepairsFit version moves
mending_fits version moves h =
    let (one, rest) = and_parts (list_all (λ x. list_all (one_way x) moves) moves) _ h in
    let (into, leave) = and_parts (list_all (λ x. not (is_broken moves x.component x.target)) moves) _ rest in
    at_once_fits version moves
    (λ c mode a b p q.
    let among = All-contains (λ x. list_all (one_way x) moves ≡ true) moves p.repair (AllPass-from_list_all (λ x. list_all (one_way x) moves) moves one) p.of_model in
    let way : one_way p.repair q.repair ≡ true = All-contains (λ y. one_way p.repair y ≡ true) moves q.repair (AllPass-from_list_all (one_way p.repair) moves among) q.of_model in
    sym p.target ∙ either_way p.repair q.repair c mode way p.mends q.mends ∙ q.target)
    (λ k d within. not-true (is_broken moves (get_or moves k d).component (get_or moves k d).target) (AllPass-from_list_all (λ x. not (is_broken moves x.component x.target)) moves into k d within))
    (λ k d within broken.
    let x : Move = get_or moves k d in
    either (not (is_broken moves x.component x.source)) x.repair (AllPass-from_list_all (λ x. not (is_broken moves x.component x.source) || x.repair) moves leave k d within)
    (λ no. absurd (false≢true (sym (ap not broken) ∙ no))) (λ repair. repair))

-- ---- whole models

-- whether the texts are some names and not too many
abbrev fit_choices : List (List ℕ) → Bool
fit_choices xs = (list_all is_name xs && differ xs) && (nat_lt 0 (length xs) && nat_le (length xs) MAX_CHOICES)

pub choices_fit : (xs : List (List ℕ)) → fit_choices xs ≡ true → AreChoices xs
choices_fit xs h =
    let (names, counts) = and_parts (list_all is_name xs && differ xs) _ h in
    let (some, few) = and_parts (nat_lt 0 (length xs)) (nat_le (length xs) MAX_CHOICES) counts in
    record { names = texts_fit xs names; some = ltb-true 0 (length xs) some; few = leb-true (length xs) MAX_CHOICES few }

abbrev fit_component : Component → Bool
fit_component x = fit_choices x.modes && nat_lt x.start (length x.modes)

component_fits : (x : Component) → fit_component x ≡ true → IsComponent x
component_fits x h =
    let parts = and_parts (fit_choices x.modes) _ h in
    record { modes = choices_fit x.modes parts.0; start = ltb-true x.start (length x.modes) parts.1 }

-- whether the modes are modes of the component
abbrev has_modes : PlantModel → ℕ → ℕ → ℕ → Bool
has_modes m c source target = nat_lt source (slice_index (mode_counts m) c) && nat_lt target (slice_index (mode_counts m) c)

abbrev fit_move : PlantModel → Move → Bool
fit_move m x = has_modes m x.component x.source x.target && nat_lt x.command (length m.commands)

move_fits : (m : PlantModel) (x : Move) → fit_move m x ≡ true → IsFormula m x.guard → IsMove m x
move_fits m x h guard =
    let (modes, command) = and_parts (has_modes m x.component x.source x.target) _ h in
    let (source, target) = and_parts (nat_lt x.source (slice_index (mode_counts m) x.component)) _ modes in
    record { source = ltb-true _ _ source; target = ltb-true _ _ target; command = ltb-true _ _ command; guard = guard }

abbrev fit_failure : PlantModel → Failure → Bool
fit_failure m x = has_modes m x.component x.source x.target && (nat_lt 0 x.cost && nat_le x.cost MAX_COST)

failure_fits : (m : PlantModel) (x : Failure) → fit_failure m x ≡ true → IsFailure m x
failure_fits m x h =
    let (modes, costs) = and_parts (has_modes m x.component x.source x.target) _ h in
    let (source, target) = and_parts (nat_lt x.source (slice_index (mode_counts m) x.component)) _ modes in
    let (some, cheap) = and_parts (nat_lt 0 x.cost) (nat_le x.cost MAX_COST) costs in
    record { source = ltb-true _ _ source; target = ltb-true _ _ target; costs = ltb-true _ _ some; cheap = leb-true _ _ cheap }

pub failures_fit : (m : PlantModel) → list_all (fit_failure m) m.failures ≡ true → All (IsFailure m) m.failures
failures_fit m h k d within = failure_fits m (get_or m.failures k d) (AllPass-from_list_all (fit_failure m) m.failures h k d within)

-- whether there is not more of anything than there may be
abbrev fit_limits : PlantModel → Bool
fit_limits m =
    (nat_le (length m.components) MAX_COMPONENTS && nat_le (length m.variables) MAX_VARIABLES)
    && (nat_le (length m.rules) MAX_RULES && (nat_le (length m.moves) MAX_MOVES && nat_le (length m.failures) MAX_FAILURES))

limits_fit : (m : PlantModel) → fit_limits m ≡ true → KeepsLimits m
limits_fit m h =
    let (choices, lists) = and_parts (nat_le (length m.components) MAX_COMPONENTS && nat_le (length m.variables) MAX_VARIABLES) _ h in
    let (components, variables) = and_parts (nat_le (length m.components) MAX_COMPONENTS) _ choices in
    let (rules, rest) = and_parts (nat_le (length m.rules) MAX_RULES) _ lists in
    let (moves, failures) = and_parts (nat_le (length m.moves) MAX_MOVES) _ rest in
    record { components = leb-true _ _ components; variables = leb-true _ _ variables; rules = leb-true _ _ rules; moves = leb-true _ _ moves; failures = leb-true _ _ failures }

-- whether there is nothing against the model but its formulas, failures and repairs
abbrev fit_parts : PlantModel → Bool
fit_parts m =
    (fit_limits m && ((list_all is_name (names_of m) && differ (names_of m)) && (list_all is_name m.commands && differ m.commands)))
    && ((list_all fit_component m.components && list_all (λ v. fit_choices v.values) m.variables) && (list_all (fit_move m) m.moves && numbered 0 m.moves))

-- a model whose moves each have the command of their own place
pub small_fits : (m : PlantModel) → fit_parts m ≡ true → IsVersion m.version → All (IsFormula m) m.rules → All (λ move. IsFormula m move.guard) m.moves → All (IsFailure m) m.failures
    → RepairsFit m.version m.moves → WellFormed m
small_fits m h version rules guards failures repairs =
    let (first, parts) = and_parts (fit_limits m && ((list_all is_name (names_of m) && differ (names_of m)) && (list_all is_name m.commands && differ m.commands))) _ h in
    let (limits, texts) = and_parts (fit_limits m) _ first in
    let (names, commands) = and_parts (list_all is_name (names_of m) && differ (names_of m)) _ texts in
    let (choices, moves) = and_parts (list_all fit_component m.components && list_all (λ v. fit_choices v.values) m.variables) _ parts in
    let (components, variables) = and_parts (list_all fit_component m.components) _ choices in
    let (fit, own) = and_parts (list_all (fit_move m) m.moves) _ moves in
    record {
      version = version;
      limits = limits_fit m limits;
      names = texts_fit (names_of m) names;
      command_names = texts_fit m.commands commands;
      components = λ k d within. component_fits (get_or m.components k d) (AllPass-from_list_all fit_component m.components components k d within);
      variables = λ k d within. choices_fit (get_or m.variables k d).values (AllPass-from_list_all (λ v. fit_choices v.values) m.variables variables k d within);
      rules = rules;
      moves = λ k d within. move_fits m (get_or m.moves k d) (AllPass-from_list_all (fit_move m) m.moves fit k d within) (guards k d within);
      failures = failures;
      repairs = repairs;
      commands = own_fit m.moves own;
      first_use = own_first_use m.moves own;
    }
