use Rattle.std.proofs.Common.{◌≡◌, ◌∙◌, ap, sym, subst, slice_get, Some, refl}
use Rattle.std.proofs.lemmas.Option.{same_Some}
use Rattle.cca_base.specs.Accepted.{AreWays}
use Rattle.guard_compiler.specs.Ways.{HasManyWays}
use Rattle.guard_compiler.proofs.WaysMeaning.{move_of, guard_within}
use Rattle.guard_compiler.proofs.implicants.ways_of.Goals as goal

pub implicants_of-requires-clause-from : goal.implicants_of-requires-clause-from
implicants_of-requires-clause-from c =
    let m = c.args.model.now in
    let move = c.get-the_move.result.now in
    let there : slice_get m.moves c.args.move_number ≡ Some move = ap (λ z. slice_get z c.args.move_number) (sym c.moves.ensures.value) ∙ c.get-the_move.ensures.value in
    record { worlds = c.requires.worlds; clauses = c.requires.rules; source = (move_of m c.args.move_number move c.moves.ensures.well_formed there).source }

pub implicants_of-requires-clause-guard : goal.implicants_of-requires-clause-guard
implicants_of-requires-clause-guard c =
    let m = c.args.model.now in
    let move = c.get-the_move.result.now in
    let there : slice_get m.moves c.args.move_number ≡ Some move = ap (λ z. slice_get z c.args.move_number) (sym c.moves.ensures.value) ∙ c.get-the_move.ensures.value in
    guard_within m move (move_of m c.args.move_number move c.moves.ensures.well_formed there)

pub returns-in-Every-clause-ways : goal.returns-in-Every-clause-ways
returns-in-Every-clause-ways c = record {
  ways = λ move h.
      let m = c.args.model.now in
      let the_move = c.get-the_move.result.now in
      let there : slice_get m.moves c.args.move_number ≡ Some the_move = ap (λ z. slice_get z c.args.move_number) (sym c.moves.ensures.value) ∙ c.get-the_move.ensures.value in
      subst (λ z. AreWays m z c.in-Every.cubes) (same_Some the_move move (sym there ∙ h)) (rw c.in-Every.is at c.in_ok-cubes.ensures.every);
  few = rw c.in-Every.is at c.in_ok-cubes.ensures.few;
}

pub returns-in-Every-clause-many : goal.returns-in-Every-clause-many
returns-in-Every-clause-many c = λ move h k.
    let m = c.args.model.now in
    let the_move = c.get-the_move.result.now in
    let there : slice_get m.moves c.args.move_number ≡ Some the_move = ap (λ z. slice_get z c.args.move_number) (sym c.moves.ensures.value) ∙ c.get-the_move.ensures.value in
    let same : the_move ≡ move = same_Some the_move move (sym there ∙ h) in
    absurd ((rw c.in-Every.is at c.in_ok-cubes.ensures.more).1 (subst (HasManyWays m) (sym same) k))

pub returns-in-More-clause-refused : goal.returns-in-More-clause-refused
returns-in-More-clause-refused c = (
  refl,
  λ move h.
      let m = c.args.model.now in
      let the_move = c.get-the_move.result.now in
      let there : slice_get m.moves c.args.move_number ≡ Some the_move = ap (λ z. slice_get z c.args.move_number) (sym c.moves.ensures.value) ∙ c.get-the_move.ensures.value in
      let same : the_move ≡ move = same_Some the_move move (sym there ∙ h) in
      subst (HasManyWays m) same ((rw c.in-More.is at c.in_ok-cubes.ensures.more).0 tt),
)
