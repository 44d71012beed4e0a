use Rattle.std.proofs.Common.{◌≡◌, ◌<◌, ◌≤◌, ◌-◌, ℕ, List, length, slice_get, slice_index, Some, sym, subst}
use Rattle.cca_base.specs.declared.limits.TheConstants.{MAX_CHOICES}
use Rattle.cca_base.specs.PlantModel.{PlantModel}
use Rattle.cca_base.specs.Model.{WellFormed, mode_counts}
use Rattle.reach_laws.specs.Classes.{Test}
use Rattle.reversibility.specs.ClassParts.{in_row}
use Rattle.reversibility.specs.Levels.{AreMovesWithin, MoveLeads, AreLevelsOf}
use Rattle.reversibility.specs.Homes.{IsHomeBy}
use Rattle.reversibility.proofs.OpenMoves.{within_modes}
use Rattle.cca_base.proofs.NextModes.{few_modes as modes_few}
use Rattle.reversibility.proofs.Shortest.{class_from, home_from, home_by, home_mode}
use Rattle.reversibility.proofs.around.class_around.Goals as goal

pub home_of-requires : goal.home_of-requires
home_of-requires c =
    let m : PlantModel = c.args.compiled.now.model in
    let n : ℕ = slice_index (mode_counts m) c.args.component in (
      n,
      subst (λ l. AreMovesWithin c.model.result.now n l) (sym c.numbers.ensures.numbers)
          (subst (λ (z : PlantModel). AreMovesWithin z n c.find.new.self.numbers) (sym c.model.ensures.value)
          (within_modes m c.model.ensures.compiled.accepted.well_formed (in_row c.args.rows.now) c.args.component c.find.new.self.numbers c.find.ensures.open_moves)),
    )

pub returns-in_err-home-clause-none : goal.returns-in_err-home-clause-none
returns-in_err-home-clause-none c _ a h =
    let m : PlantModel = c.args.compiled.now.model in
    let by = home_by m c.model.ensures.compiled.accepted.well_formed (in_row c.args.rows.now) c.args.component c.find.new.self.numbers c.find.ensures.open_moves c.args.mode a h in
    c.in_err-home.ensures a (subst (λ (x : PlantModel). IsHomeBy x.moves (MoveLeads x c.numbers.result.now (length c.numbers.result.now)) c.args.component c.args.mode a) (sym c.model.ensures.value)
    (subst (λ l. IsHomeBy m.moves (MoveLeads m l (length l)) c.args.component c.args.mode a) (sym c.numbers.ensures.numbers) by))

-- the last level is of the component's modes
last_level : (m : PlantModel) (member : Test) (c n : ℕ) (levels : List (List ℕ)) (closed : List ℕ) → AreLevelsOf m member c levels → n ≡ length levels → slice_get levels (n - 1) ≡ Some closed
    → (slice_get levels (length levels - 1) ≡ Some closed) × (length closed ≡ slice_index (mode_counts m) c)
last_level m member c n levels closed of counted at =
    let here : slice_get levels (length levels - 1) ≡ Some closed = subst (λ k. slice_get levels (k - 1) ≡ Some closed) counted at in
    (here, (of.each (length levels - 1) closed here).full)

pub around-requires-clause-few : goal.around-requires-clause-few
around-requires-clause-few c =
    let m : PlantModel = c.args.compiled.now.model in
    let few = modes_few m c.model.ensures.compiled.accepted.well_formed c.args.component c.requires.within in
    let last = last_level m (in_row c.args.rows.now) c.args.component c.height.result c.find.new.self.levels c.level-closed.result.now c.find.ensures.levels c.height.ensures c.level-closed.ensures.value in
    subst (λ n. n ≤ MAX_CHOICES) (sym (last.1)) few

pub around-requires-clause-within : goal.around-requires-clause-within
around-requires-clause-within c =
    let m : PlantModel = c.args.compiled.now.model in
    let well : WellFormed m = c.model.ensures.compiled.accepted.well_formed in
    let member : Test = in_row c.args.rows.now in
    let numbers : List ℕ = c.find.new.self.numbers in
    let home : ℕ = c.in_ok-home.home in
    let last = last_level m member c.args.component c.height.result c.find.new.self.levels c.level-closed.result.now c.find.ensures.levels c.height.ensures c.level-closed.ensures.value in
    let by : IsHomeBy m.moves (MoveLeads m numbers (length numbers)) c.args.component c.args.mode home =
    subst (λ (x : PlantModel). IsHomeBy x.moves (MoveLeads x numbers (length numbers)) c.args.component c.args.mode home) c.model.ensures.value
    (subst (λ l. IsHomeBy c.model.result.now.moves (MoveLeads c.model.result.now l (length l)) c.args.component c.args.mode home) c.numbers.ensures.numbers c.in_ok-home.ensures) in
    subst (λ n. home < n) (sym (last.1))
    (home_mode m well member c.args.component numbers c.find.ensures.open_moves c.args.mode home c.requires.mode by)

pub returns-clause-some : goal.returns-clause-some
returns-clause-some c =
    let m : PlantModel = c.args.compiled.now.model in
    let well : WellFormed m = c.model.ensures.compiled.accepted.well_formed in
    let member : Test = in_row c.args.rows.now in
    let numbers : List ℕ = c.find.new.self.numbers in
    let are = c.find.ensures.open_moves in
    let closed : List ℕ = c.level-closed.result.now in
    let home : ℕ = c.in_ok-home.home in
    let last = last_level m member c.args.component c.height.result c.find.new.self.levels closed c.find.ensures.levels c.height.ensures c.level-closed.ensures.value in
    let by : IsHomeBy m.moves (MoveLeads m numbers (length numbers)) c.args.component c.args.mode home =
    subst (λ (x : PlantModel). IsHomeBy x.moves (MoveLeads x numbers (length numbers)) c.args.component c.args.mode home) c.model.ensures.value
    (subst (λ l. IsHomeBy c.model.result.now.moves (MoveLeads c.model.result.now l (length l)) c.args.component c.args.mode home) c.numbers.ensures.numbers c.in_ok-home.ensures) in
    class_from m well member c.args.component c.find.new.self.levels c.find.ensures.levels closed last.0 c.args.mode home c.around.result
    (home_mode m well member c.args.component numbers are c.args.mode home c.requires.mode by)
    (home_from m well member c.args.component numbers are c.args.mode home by) c.around.ensures
