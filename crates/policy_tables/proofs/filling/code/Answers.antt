use Rattle.std.proofs.Common.{◌≡◌, ◌≢◌, ◌<◌, ◌≤◌, ◌-◌, ◌∙◌, ℕ, true, suc, List, length, slice_get, slice_index, Some, refl, sym, ap, subst, arith}
use Rattle.std.proofs.lemmas.Option.{slice_get_within, get_or_from_slice_get}
use Rattle.cca_base.specs.declared.cube.Pair.{Pair}
use Rattle.cca_base.specs.declared.limits.TheConstants.{MAX_CHOICES}
use Rattle.cca_base.specs.Accepted.{CompiledModel}
use Rattle.cca_base.specs.PlantModel.{PlantModel}
use Rattle.cca_base.specs.Model.{WellFormed, HasMode, mode_counts}
use Rattle.cca_base.specs.Sets.{has}
use Rattle.reach_laws.specs.Cells.{IsShortest, IsStep}
use Rattle.reach_laws.specs.Classes.{Test, OpenMove}
use Rattle.reversibility.specs.Levels.{AreMovesWithin, IsLevel, AreLevelsOf}
use Rattle.reversibility.specs.ClassParts.{ClassParts, in_row}
use Rattle.cca_base.proofs.NextModes.{few_modes as modes_few}
use Rattle.policy_tables.specs.Distances.{NearAt, IsFirstLevel, IsFirstPlace, IsFirstNear}
use Rattle.policy_tables.specs.Codes.{way_at}
use Rattle.policy_tables.specs.Leaving.{AreLeaving, IsLeavingOf, IsWayOf}
use Rattle.policy_tables.specs.declared.leaving.Leaving.{Leaving}
use Rattle.policy_tables.proofs.Approach.{no_level, level_shortest, apart_some, some_leads}
use Rattle.policy_tables.proofs.Filled.{joined_here}
use Rattle.policy_tables.proofs.Leavers.{leaving_within, near_place, first_near, step_is}
use Rattle.policy_tables.proofs.filling.code.Goals as goal

-- where the modes differ, an open move is left, and the others are one less
some_left : (m : PlantModel) → WellFormed m → (member : Test) (c : ℕ) (levels : List (List ℕ)) → AreLevelsOf m member c levels → (from to left : ℕ) → HasMode m c from → IsFirstLevel levels from to left
    → from ≢ to → (0 < left) × IsShortest m member c from to (suc (left - 1))
some_left m w member c levels of from to left has first apart =
    let short = level_shortest m w member c levels of from to left has first in
    let some = apart_some m w member c from to left short apart in
    let e : left ≡ suc (left - 1) = omega (arith, some) in
    (some, subst (IsShortest m member c from to) e short)

pub unreachable-requires : goal.unreachable-requires
unreachable-requires c =
    let p : ClassParts = c.args.classes.now in
    let d : ℕ = c.args.work.now.leaving.component in
    let inside : in_row p.rows d c.args.to ≡ true = subst (λ r. has r c.args.to ≡ true) c.class.ensures.value (sym c.has.ensures ∙ c.if-not-has.false) in
    no_level p.compiled.model c.class.ensures.classes.compiled.accepted.well_formed (in_row p.rows) d c.args.work.now.paths.levels c.requires.paths.levels c.args.work.now.leaving.mode c.args.to c.requires.from
    (joined_here p c.class.ensures.classes d c.args.work.now.leaving.mode c.args.to c.requires.stands inside) c.in_default.ensures

pub overflow_sub-left : goal.overflow_sub-left
overflow_sub-left c =
    let p : ClassParts = c.args.classes.now in
    let d : ℕ = c.args.work.now.leaving.component in
    let w : WellFormed p.compiled.model = c.class.ensures.classes.compiled.accepted.well_formed in
    (some_left p.compiled.model w (in_row p.rows) d c.args.work.now.paths.levels c.requires.paths.levels c.args.work.now.leaving.mode c.args.to c.in-Some.left c.requires.from c.in-Some.ensures c.if-leaving-to.false).0

pub level-level-requires : goal.level-level-requires
level-level-requires c =
    let first = c.in-Some.ensures in
    omega (arith, slice_get_within c.args.work.now.paths.levels c.in-Some.left first.level first.at)

-- the level of one move less, and the moves that leave
module _ (m : PlantModel) (w : WellFormed m) (member : Test) (c : ℕ) (model : PlantModel) (same : model ≡ m) (levels : List (List ℕ)) (of : AreLevelsOf m member c levels) (k : ℕ) (level : List ℕ)
    (at : slice_get levels k ≡ Some level) where
  level_is : IsLevel (OpenMove m member c) (slice_index (mode_counts m) c) k level
  level_is = of.each k level at

  moves_within : (from : ℕ) (numbers list : List ℕ) → AreLeaving m member c from numbers → list ≡ numbers → AreMovesWithin model (length level) list
  moves_within from numbers list are list_is =
      subst (λ n. AreMovesWithin model n list) (sym level_is.full)
      (subst (AreMovesWithin model (slice_index (mode_counts m) c)) (sym list_is)
      (subst (λ (z : PlantModel). AreMovesWithin z (slice_index (mode_counts m) c) numbers) (sym same) (leaving_within m w member c from numbers are)))

pub first_near-requires : goal.first_near-requires
first_near-requires c =
    let p : ClassParts = c.args.classes.now in
    let w : WellFormed p.compiled.model = c.class.ensures.classes.compiled.accepted.well_formed in
    moves_within p.compiled.model w (in_row p.rows) c.args.work.now.leaving.component c.model-model.result.now (c.model-model.ensures.value ∙ ap (λ z. z.model) c.compiled.ensures.value)
    c.args.work.now.paths.levels c.requires.paths.levels (c.in-Some.left - 1) c.level-level.result.now c.level-level.ensures.value
    c.args.work.now.leaving.mode c.args.work.now.leaving.numbers.items c.as_slice.result.now c.requires.leaving.numbers c.as_slice.ensures.items

-- one of the moves that leave leads near
near_at : (m : PlantModel) → WellFormed m → (member : Test) (c from to rest : ℕ) (numbers : List ℕ) → AreLeaving m member c from numbers → IsShortest m member c from to (suc rest) → (level : List ℕ)
    → IsLevel (OpenMove m member c) (slice_index (mode_counts m) c) rest level → (place : ℕ) × (place < length numbers) × NearAt m numbers level to place
near_at m w member c from to rest numbers are shortest level is =
    let leads = some_leads m w member c from to rest shortest level is in
    near_place m w member c from numbers are level to leads.0 leads.1

pub unreachable-requires-in_default-first_near : goal.unreachable-requires-in_default-first_near
unreachable-requires-in_default-first_near c =
    let p : ClassParts = c.args.classes.now in
    let d : ℕ = c.args.work.now.leaving.component in
    let w : WellFormed p.compiled.model = c.class.ensures.classes.compiled.accepted.well_formed in
    let level : List ℕ = c.level-level.result.now in
    let there = near_at p.compiled.model w (in_row p.rows) d c.args.work.now.leaving.mode c.args.to (c.in-Some.left - 1) c.args.work.now.leaving.numbers.items c.requires.leaving.numbers
    (some_left p.compiled.model w (in_row p.rows) d c.args.work.now.paths.levels c.requires.paths.levels c.args.work.now.leaving.mode c.args.to c.in-Some.left c.requires.from c.in-Some.ensures c.if-leaving-to.false).1
    level (level_is p.compiled.model w (in_row p.rows) d p.compiled.model refl c.args.work.now.paths.levels c.requires.paths.levels (c.in-Some.left - 1) level c.level-level.ensures.value) in
    c.in_default-first_near.ensures there.0 (subst (λ l. there.0 < length l) (sym c.as_slice.ensures.items) there.1)
    (subst (λ l. NearAt c.model-model.result.now l level c.args.to there.0) (sym c.as_slice.ensures.items)
    (subst (λ (z : PlantModel). NearAt z c.args.work.now.leaving.numbers.items level c.args.to there.0) (sym (c.model-model.ensures.value ∙ ap (λ z. z.model) c.compiled.ensures.value)) there.2))

pub get-requires : goal.get-requires
get-requires c =
    let p : ClassParts = c.args.classes.now in
    let m : PlantModel = p.compiled.model in
    let d : ℕ = c.args.work.now.leaving.component in
    let numbers : List ℕ = c.args.work.now.leaving.numbers.items in
    let place : ℕ = c.in-Some-first_near.place in
    let number_is : slice_index numbers place ≡ c.get-number.result.now = get_or_from_slice_get numbers place c.get-number.result.now 0 c.get-number.ensures.value in
    let w : WellFormed m = c.class.ensures.classes.compiled.accepted.well_formed in
    let fits = leaving_within m w (in_row p.rows) d c.args.work.now.leaving.mode numbers c.requires.leaving.numbers place (slice_get_within numbers place c.get-number.result.now c.get-number.ensures.value) in
    let moves_are = c.moves.ensures.value ∙ (ap (λ (z : PlantModel). z.moves) (c.model-model.ensures.value ∙ ap (λ z. z.model) c.compiled.ensures.value)) in
    omega (arith, slice_get_within m.moves (slice_index numbers place) fits.0 fits.1, number_is, ap length moves_are)

pub overflow_cast-result : goal.overflow_cast-result
overflow_cast-result c =
    let p : ClassParts = c.args.classes.now in
    let first = c.in-Some.ensures in
    let few : slice_index (mode_counts p.compiled.model) c.args.work.now.leaving.component ≤ MAX_CHOICES = modes_few p.compiled.model c.class.ensures.classes.compiled.accepted.well_formed c.args.work.now.leaving.component c.requires.within in
    omega (arith, slice_get_within c.args.work.now.paths.levels c.in-Some.left first.level first.at, c.requires.paths.levels.few, few)

-- the prime implicant for which the move waits
way_here : (b : CompiledModel) (ways : List (List (List Pair))) (member : Test) (l : Leaving) → IsLeavingOf b ways member l → (place number way : ℕ) → slice_get l.numbers.items place ≡ Some number
    → slice_get l.ways.items place ≡ Some way → IsWayOf b ways member number way
way_here b ways member l are place number way at here =
    subst (IsWayOf b ways member number) (get_or_from_slice_get l.ways.items place way 0 here)
    (subst (λ i. IsWayOf b ways member i (slice_index l.ways.items place)) (get_or_from_slice_get l.numbers.items place number 0 at) (are.ways.each place (slice_get_within l.numbers.items place number at)))

pub returns-clause-cell : goal.returns-clause-cell
returns-clause-cell c =
    let p : ClassParts = c.args.classes.now in
    let m : PlantModel = p.compiled.model in
    let member : Test = in_row p.rows in
    let d : ℕ = c.args.work.now.leaving.component in
    let from : ℕ = c.args.work.now.leaving.mode in
    let w : WellFormed m = c.class.ensures.classes.compiled.accepted.well_formed in
    let numbers : List ℕ = c.args.work.now.leaving.numbers.items in
    let place : ℕ = c.in-Some-first_near.place in
    let number : ℕ = c.get-number.result.now in
    let near_by = some_left m w member d c.args.work.now.paths.levels c.requires.paths.levels from c.args.to c.in-Some.left c.requires.from c.in-Some.ensures c.if-leaving-to.false in
    let left_is : suc (c.in-Some.left - 1) ≡ c.in-Some.left = omega (arith, near_by.0) in
    let level : List ℕ = c.level-level.result.now in
    let is = level_is m w member d m refl c.args.work.now.paths.levels c.requires.paths.levels (c.in-Some.left - 1) level c.level-level.ensures.value in
    let found : IsFirstPlace m numbers level c.args.to place =
    subst (λ (z : PlantModel). IsFirstPlace z numbers level c.args.to place) (c.model-model.ensures.value ∙ ap (λ z. z.model) c.compiled.ensures.value)
    (subst (λ l. IsFirstPlace c.model-model.result.now l level c.args.to place) c.as_slice.ensures.items c.in-Some-first_near.ensures) in
    let number_is : slice_index numbers place ≡ number = get_or_from_slice_get numbers place number 0 c.get-number.ensures.value in
    let near = first_near m w member d from numbers c.requires.leaving.numbers level c.args.to place found in
    let moves_are = c.moves.ensures.value ∙ (ap (λ (z : PlantModel). z.moves) (c.model-model.ensures.value ∙ ap (λ z. z.model) c.compiled.ensures.value)) in
    let move_at : slice_get m.moves number ≡ Some c.get.result.now = subst (λ l. slice_get l number ≡ Some c.get.result.now) moves_are c.get.ensures.value in
    let is_way = way_here p.compiled c.args.ways.now member c.args.work.now.leaving c.requires.leaving place number c.get-2.result.now c.get-number.ensures.value c.get-2.ensures.value in (
      c.if-leaving-to.false,
      subst (λ r. has r c.args.to ≡ true) c.class.ensures.value (sym c.has.ensures ∙ c.if-not-has.false),
      subst (IsStep p.compiled member d from c.args.to number c.get.result.now.command (way_at c.args.ways.now number c.get-2.result.now)) left_is
          (step_is p.compiled w member d from c.args.to (c.in-Some.left - 1) near_by.1 level is number
          (subst (IsFirstNear m member level d from c.args.to) number_is near) c.get.result.now move_at (way_at c.args.ways.now number c.get-2.result.now) is_way.cube),
    )

pub returns-clause-code : goal.returns-clause-code
returns-clause-code c =
    let is_way = way_here c.args.classes.now.compiled c.args.ways.now (in_row c.args.classes.now.rows) c.args.work.now.leaving c.requires.leaving c.in-Some-first_near.place c.get-number.result.now c.get-2.result.now
    c.get-number.ensures.value c.get-2.ensures.value in
    (is_way.move_within, is_way.within)
