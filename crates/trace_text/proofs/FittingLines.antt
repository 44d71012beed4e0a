-- Commands of the model and its worlds fit the lines of a trace.
use Rattle.std.proofs.Common.{◌≡◌, ◌≤◌, ℕ, suc, List, [], ◌∷◌, length, slice_get, Some, All, Contains, refl, sym, subst, arith}
use Rattle.std.proofs.lemmas.Option.{slice_get_read}
use Rattle.std.proofs.lemmas.List.Elements.{All-contains, All-cons, All-nil}
use Rattle.cca_base.specs.declared.limits.TheConstants.{MAX_MOVES}
use Rattle.cca_base.specs.declared.model.Move.{Move}
use Rattle.cca_base.specs.PlantModel.{PlantModel}
use Rattle.cca_base.specs.Model.{WellFormed, IsMove}
use Rattle.cca_base.specs.State.{IsWorld}
use Rattle.cca_base.specs.Steps.{Run}
use Rattle.cca_base.proofs.CommandPlaces.{by_place}
use Rattle.trace_text.specs.TraceLines.{HasCommand, HasValues}

pub command_fits : (m : PlantModel) → WellFormed m → (move : Move) → Contains m.moves move → HasCommand m move.command
command_fits m wf move (i, within, is) =
    let at : slice_get m.moves i ≡ Some move = slice_get_read m.moves (length m.moves) i move refl within (sym is) in
    let most : move.command ≤ i = by_place m wf.first_use (suc i) i move (omega arith) at in
    let few : length m.moves ≤ MAX_MOVES = wf.limits.moves in
    record { of_model = (All-contains (IsMove m) m.moves move wf.moves (i, within, is)).command; narrow = omega (arith, most, within, few) }

pub run_fits : (m : PlantModel) → WellFormed m → (s : List ℕ) (ks : List ℕ) (last : List ℕ) → Run m s ks last → All (HasCommand m) ks
run_fits m wf s [] last h = All-nil (HasCommand m)
run_fits m wf s (k ∷ ks) last (mid, step, rest) = All-cons (HasCommand m) k ks (subst (HasCommand m) step.command (command_fits m wf step.move step.of_model)) (run_fits m wf mid ks last rest)

-- ---- worlds

pub world_fits : (m : PlantModel) (s w : List ℕ) → IsWorld m s w → HasValues m w
world_fits m s w h = record { full = h.full; each = h.values }
