-- What a running program asks for may be set as a goal, whatever its turns.
use Rattle.std.proofs.Common.{◌≡◌, ℕ, Bool, true, false, not, ◌&&◌, is_some, is_none, List, [], ◌∷◌, Option, Some, None, All, Contains, refl, sym, ap, subst, ◌∙◌, arith}
use Rattle.std.specs.Prelude.{◌↔◌, IsNone, IsTrue}
use Rattle.std.proofs.lemmas.List.Elements.{All-contains}
use Rattle.list_laws.proofs.Members.{all_from}
use Rattle.cca_base.specs.declared.cube.Pair.{Pair}
use Rattle.cca_base.specs.Cube.{IsCube}
use Rattle.cca_base.specs.Model.{HasMode, IsFormula, is_broken}
use Rattle.cca_base.specs.PlantModel.{PlantModel}
use Rattle.cca_base.specs.Trace.{MayCome}
use Rattle.control_laws.specs.Asked.{pairs_left, pairs_of_left}
use Rattle.control_laws.specs.Rest.{Rest, whole}
use Rattle.control_laws.specs.Turns.{Control, TurnsBy, fresh}
use Rattle.control_laws.proofs.Controlled.{turn_of_left}
use Rattle.control_laws.proofs.FirstPairs.{goals_are_cubes}
use Rattle.control_laws.proofs.ProgramPairs.{of_lines}
use Rattle.control_program.specs.Formulas.{formulas_left}
use Rattle.control_program.specs.Rooms.{IsTurnRoomOf}
use Rattle.control_program.proofs.ProgramFormulas.{formulas_of_whole}
use Rattle.control_syntax.specs.Program.{MayRun, pairs_of}
use Rattle.control_syntax.specs.declared.part.Part.{Part}
use Rattle.trace_laws.specs.Events.{IsTick}
use Rattle.program_form.specs.PutIn.{asks, ends}
use Rattle.program_form.specs.Stages.{RunsInRoom, RunsWell}
use Rattle.program_form.specs.declared.running.Running.{Running}

pub asks_no_tick : (goal : List Pair) → IsTick (asks goal) → ⊥
asks_no_tick [] h = h
asks_no_tick (p ∷ pairs) h = h

module _ (m : PlantModel) where
  -- the pairs of a goal are the program's
  of_program : (e : List ℕ) (c : Control) (goal : List Pair) (d : Control) → RunsWell m c → TurnsBy m e c goal d → (p : Pair) → Contains goal p → Contains (pairs_left c.program) p
  of_program e c goal d well h p among = well.left p ((turn_of_left m e c goal d p h).0 among)

  all_of : (P : Pair → Type 0) (e : List ℕ) (c : Control) (goal : List Pair) (d : Control) → RunsWell m c → TurnsBy m e c goal d → All P (pairs_left c.program) → All P goal
  all_of P e c goal d well h all = all_from P goal (λ p among. All-contains P (pairs_left c.program) p all (of_program e c goal d well h p among))

  pub goal_comes : (e : List ℕ) (c : Control) (goal : List Pair) (d : Control) (pending : List Pair) (mirrored : ℕ) → RunsWell m c → TurnsBy m e c goal d → MayCome m pending mirrored (asks goal)
  goal_comes e c [] d pending mirrored well h = tt
  goal_comes e c (p ∷ pairs) d pending mirrored well h = record {
    some = omega arith;
    cube = subst IsCube (sym h.goals) (goals_are_cubes h.asked);
    modes = all_of (λ q. HasMode m q.item q.value) e c (p ∷ pairs) d well h well.modes;
    sound = all_of (λ q. is_broken m.moves q.item q.value ≡ false) e c (p ∷ pairs) d well h well.sound;
  }

  well_by : (c d : Control) → d.program ≡ c.program → RunsWell m c → ((p : Pair) → Contains (pairs_of_left d.left) p → Contains (pairs_left c.program) p) → RunsWell m d
  well_by c d same well left = record {
    modes = subst (λ r. All (λ p. HasMode m p.item p.value) (pairs_left r)) (sym same) well.modes;
    sound = subst (λ r. All (λ p. is_broken m.moves p.item p.value ≡ false) (pairs_left r)) (sym same) well.sound;
    formulas = subst (λ r. All (IsFormula m) (formulas_left r)) (sym same) well.formulas;
    left = λ p among. subst (λ r. Contains (pairs_left r) p) (sym same) (left p among);
  }

  pub well_after : (e : List ℕ) (c : Control) (goal : List Pair) (d : Control) → RunsWell m c → TurnsBy m e c goal d → RunsWell m d
  well_after e c goal d well h = well_by c d (ap (λ (x : Control). x.program) h.after) well (λ p among. well.left p ((turn_of_left m e c goal d p h).1 among))

  -- so a turn in its room leaves a program that runs
  pub runs_after : (e : List ℕ) (x : Running) (goal : List Pair) (y : Running) → RunsInRoom m x → TurnsBy m e x.runner goal y.runner → IsTurnRoomOf m x.runner.program y.room → RunsInRoom m y
  runs_after e x goal y runs h room = record {
    well = well_after e x.runner goal y.runner runs.well h;
    room = subst (λ p. IsTurnRoomOf m p y.room) (sym (ap (λ (c : Control). c.program) h.after)) room;
  }

  pub well_again : (c : Control) → RunsWell m c → RunsWell m (fresh c.program)
  well_again c well = well_by c (fresh c.program) refl well (λ p among. among)

  pub well_at_first : (part : Part) → MayRun m part → RunsWell m (fresh (whole part))
  well_at_first part h = record {
    modes = all_from (λ p. HasMode m p.item p.value) (pairs_left (whole part)) (λ p among. All-contains (λ q. HasMode m q.item q.value) (pairs_of part) p h.range.modes (of_lines part p among));
    sound = all_from (λ p. is_broken m.moves p.item p.value ≡ false) (pairs_left (whole part)) (λ p among. All-contains (λ q. is_broken m.moves q.item q.value ≡ false) (pairs_of part) p h.sound (of_lines part p among));
    formulas = formulas_of_whole (IsFormula m) part h.range.formulas;
    left = λ p among. among;
  }

-- ---- whether a program ends

none_by : (b : Bool) (o : Option Rest) → IsTrue b ↔ IsNone o → b ≡ is_none o
none_by true None h = refl
none_by true (Some x) h = absurd (let never : true ≡ false = h.0 refl in cc)
none_by false None h = absurd (let never : false ≡ true = h.1 refl in cc)
none_by false (Some x) h = refl

pub ends_by : (c d : Control) (before after : Bool) → IsTrue before ↔ IsNone c.left → IsTrue after ↔ IsNone d.left → (not before && after) ≡ ends c d
ends_by c d before after h k = (λ i. not (none_by before c.left h i) && none_by after d.left k i) ∙ ap (λ z. z && is_none d.left) (some_or_none c.left)
  where
    some_or_none : (o : Option Rest) → not (is_none o) ≡ is_some o
    some_or_none None = refl
    some_or_none (Some x) = refl
