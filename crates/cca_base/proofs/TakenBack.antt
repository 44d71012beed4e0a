-- A model stays well formed without its last command, where no move has it.
use Rattle.std.proofs.Common.{◌≡◌, ◌≢◌, ◌<◌, ◌-◌, ◌==◌, ℕ, false, List, length, take, get_or, All, IsTrue, sym, ◌∙◌, arith, eq-eqb}
use Rattle.std.proofs.lemmas.Bool.{false≢true}
use Rattle.std.proofs.lemmas.List.{length-take-le}
use Rattle.std.proofs.lemmas.List.Elements.{All-take}
use Rattle.std.proofs.lemmas.List.Folds.{list_any_at}
use Rattle.list_laws.proofs.Pairwise.{AllPairs-take}
use Rattle.cca_base.specs.declared.model.Move.{Move}
use Rattle.cca_base.specs.PlantModel.{PlantModel}
use Rattle.cca_base.specs.Names.{is_name}
use Rattle.cca_base.specs.Model.{WellFormed, IsMove, is_used, without_last_command}

-- no move has a command that is not used
unused : (moves : List Move) (command : ℕ) → is_used moves command ≡ false → All (λ move. move.command ≢ command) moves
unused moves command h k d within e =
    false≢true (sym h ∙ list_any_at (λ move. move.command == command) moves k d within (eq-eqb (get_or moves k d).command command e))

-- so each move keeps its command
kept : (m : PlantModel) → 0 < length m.commands → is_used m.moves (length m.commands - 1) ≡ false → All (IsMove m) m.moves → All (IsMove (without_last_command m)) m.moves
kept m some free moves k d within =
    let move = moves k d within in
    let other = unused m.moves (length m.commands - 1) free k d within in
    let left : length (take (length m.commands - 1) m.commands) ≡ length m.commands - 1 = length-take-le (length m.commands - 1) m.commands (omega arith) in
    record { source = move.source; target = move.target; command = omega (arith, move.command, other, left, some); guard = record { fits = move.guard.fits; shallow = move.guard.shallow } }

pub taken_back : (m : PlantModel) → 0 < length m.commands → is_used m.moves (length m.commands - 1) ≡ false → WellFormed m → WellFormed (without_last_command m)
taken_back m some free h = record {
  version = h.version;
  limits = record { components = h.limits.components; variables = h.limits.variables; rules = h.limits.rules; moves = h.limits.moves; failures = h.limits.failures };
  names = h.names;
  command_names = record {
    each = All-take (λ name. IsTrue (is_name name)) (length m.commands - 1) m.commands h.command_names.each;
    different = AllPairs-take (λ x y. x ≢ y) (length m.commands - 1) m.commands h.command_names.different;
  };
  components = h.components;
  variables = h.variables;
  rules = λ k d within. record { fits = (h.rules k d within).fits; shallow = (h.rules k d within).shallow };
  moves = kept m some free h.moves;
  failures = λ k d within. record {
    source = (h.failures k d within).source;
    target = (h.failures k d within).target;
    costs = (h.failures k d within).costs;
    cheap = (h.failures k d within).cheap;
  };
  repairs = h.repairs;
  commands = h.commands;
  first_use = h.first_use;
}
