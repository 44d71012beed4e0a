use Rattle.std.proofs.Common.{◌≡◌, ◌<◌, ◌∙◌, [], length, get_or, sym, ap, subst, arith}
use Rattle.std.proofs.Math.Seq.{map-set_same}
use Rattle.std.proofs.lemmas.List.{get_or_read}
use Rattle.successors.specs.Choices.{AreLeast}
use Rattle.successors.proofs.Changes.{all_least_set}
use Rattle.successors.proofs.row.note_failure.Goals as goal

pub returns-clause-sizes : goal.returns-clause-sizes
returns-clause-sizes c =
    let f = c.args.failure.now in
    let table = c.args.table.now.items in
    let within : f.component < length table = omega (arith, c.requires.full, c.requires.component) in
    let was : c.index_mut.result.now ≡ get_or table f.component [] = get_or_read table f.component c.index_mut.result.now within c.index_mut.ensures.value [] in
    map-set_same length table f.component c.note_cost.new.costs [] (c.note_cost.ensures.full ∙ ap length was)

pub returns-clause-least : goal.returns-clause-least
returns-clause-least c fs h =
    let f = c.args.failure.now in
    let table = c.args.table.now.items in
    let within : f.component < length table = omega (arith, c.requires.full, c.requires.component) in
    let was : c.index_mut.result.now ≡ get_or table f.component [] = get_or_read table f.component c.index_mut.result.now within c.index_mut.ensures.value [] in
    all_least_set fs f c.args.modes.now table c.note_cost.new.costs within
    (λ known. c.note_cost.ensures.least fs (subst (AreLeast fs f.component (get_or c.args.modes.now f.component 0)) (sym was) known)) h
