use Rattle.std.proofs.Common.{◌∙◌, length, sym, subst, arith}
use Rattle.cca_base.specs.Cube.{IsPart}
use Rattle.cca_base.specs.Shown.{Clash}
use Rattle.cca_base.specs.State.{Extends}
use Rattle.cca_base.proofs.PathLaws.{length-numbers}
use Rattle.group_search.specs.Questions.{AreOf, IsCut, in_group}
use Rattle.mode_estimator.specs.TickLaws.{asked}
use Rattle.mode_estimator.specs.declared.tick.Tick.{Tick}
use Rattle.mode_estimator.proofs.TickPairs.{as_many, clash_cuts, free_are_of, free_stand, none_solves, pairs_have_modes, part_within}
use Rattle.mode_estimator.proofs.tick.TickPathsTickSpace.clash.Goals as goal

pub write_pairs-requires-clause-rows : goal.write_pairs-requires-clause-rows
write_pairs-requires-clause-rows c = sym (as_many c.args.self.now c.args.names.now c.args.group c.args.values.now c.args.costs.now c.requires.paths)

pub write_pairs-requires-clause-names : goal.write_pairs-requires-clause-names
write_pairs-requires-clause-names c = c.requires.names ∙ sym (as_many c.args.self.now c.args.names.now c.args.group c.args.values.now c.args.costs.now c.requires.paths)

pub write_pairs-requires-clause-few : goal.write_pairs-requires-clause-few
write_pairs-requires-clause-few c = omega (arith, c.args.self.now.of_rows.rows_fit.few, c.requires.paths.places, length-numbers (length c.args.self.now.rows.now.rows))

pub write_pairs-requires-clause-room : goal.write_pairs-requires-clause-room
write_pairs-requires-clause-room c = omega (arith, c.requires.space.asked, c.requires.paths.places, length-numbers (length c.args.self.now.rows.now.rows))

pub clash_into-requires-clause-modes : goal.clash_into-requires-clause-modes
clash_into-requires-clause-modes c =
    pairs_have_modes c.args.self.now c.args.names.now c.args.group c.args.values.now c.args.costs.now c.requires.paths c.write_pairs.new.pairs.items c.as_slice-asked.result.now c.write_pairs.ensures.pairs
    c.as_slice-asked.ensures.items

pub write_free-requires-clause-rows : goal.write_free-requires-clause-rows
write_free-requires-clause-rows c =
    let part : IsPart c.as_slice.result.now c.as_slice-asked.result.now = subst (λ l. IsPart l c.as_slice-asked.result.now) (sym c.as_slice.ensures.items) (c.clash_into.ensures.part c.if-not-clash_into.false) in
    part_within c.args.self.now c.args.names.now c.args.group c.args.values.now c.args.costs.now c.requires.paths c.write_pairs.new.pairs.items c.as_slice-asked.result.now c.write_pairs.ensures.pairs
    c.as_slice-asked.ensures.items c.as_slice.result.now part

pub returns-clause-cut : goal.returns-clause-cut
returns-clause-cut c _ =
    let t : Tick = c.args.self.now in
    let part : IsPart c.as_slice.result.now c.as_slice-asked.result.now = subst (λ l. IsPart l c.as_slice-asked.result.now) (sym c.as_slice.ensures.items) (c.clash_into.ensures.part c.if-not-clash_into.false) in
    let clash : Clash t.rules.now.model.now t.seen.now c.as_slice.result.now =
    subst (Clash t.rules.now.model.now t.seen.now) (sym c.as_slice.ensures.items)
    (c.clash_into.ensures.clash c.if-not-clash_into.false) in
    subst (IsCut (asked t)) (sym c.write_free.ensures.part)
    (clash_cuts t c.args.names.now c.args.group c.args.values.now c.args.costs.now c.requires.paths c.write_pairs.new.pairs.items c.as_slice-asked.result.now c.write_pairs.ensures.pairs
    c.as_slice-asked.ensures.items c.as_slice.result.now part clash)

pub returns-clause-held : goal.returns-clause-held
returns-clause-held c _ =
    let part : IsPart c.as_slice.result.now c.as_slice-asked.result.now = subst (λ l. IsPart l c.as_slice-asked.result.now) (sym c.as_slice.ensures.items) (c.clash_into.ensures.part c.if-not-clash_into.false) in
    subst (Extends c.args.values.now) (sym c.write_free.ensures.part)
    (free_stand c.args.self.now c.args.names.now c.args.group c.args.values.now c.args.costs.now c.requires.paths c.write_pairs.new.pairs.items c.as_slice-asked.result.now c.write_pairs.ensures.pairs
    c.as_slice-asked.ensures.items c.as_slice.result.now part)

pub returns-clause-own : goal.returns-clause-own
returns-clause-own c _ =
    let part : IsPart c.as_slice.result.now c.as_slice-asked.result.now = subst (λ l. IsPart l c.as_slice-asked.result.now) (sym c.as_slice.ensures.items) (c.clash_into.ensures.part c.if-not-clash_into.false) in
    subst (AreOf (asked c.args.self.now) (in_group c.args.names.now c.args.group)) (sym c.write_free.ensures.part)
    (free_are_of c.args.self.now c.args.names.now c.args.group c.args.values.now c.args.costs.now c.requires.paths c.write_pairs.new.pairs.items c.as_slice-asked.result.now c.write_pairs.ensures.pairs
    c.as_slice-asked.ensures.items c.as_slice.result.now part)

pub returns-then-not-clash_into-clause-none : goal.returns-then-not-clash_into-clause-none
returns-then-not-clash_into-clause-none c _ =
    let t : Tick = c.args.self.now in
    let shows = c.clash_into.ensures.none.0 c.if-not-clash_into.true in
    none_solves t c.args.names.now c.args.group c.args.values.now c.args.costs.now c.requires.paths c.write_pairs.new.pairs.items c.as_slice-asked.result.now c.write_pairs.ensures.pairs
    c.as_slice-asked.ensures.items shows

pub write_free-requires-clause-room : goal.write_free-requires-clause-room
write_free-requires-clause-room c =
    omega (arith, c.as_slice.ensures.within, c.clash_into.ensures.room, c.requires.space.blamed, c.requires.room, length-numbers (length c.args.self.now.rows.now.rows))
