use Rattle.std.proofs.Common.{◌≡◌, ◌<◌, List, length, ap, get_or, None, sym, subst, ◌∙◌, arith}
use Rattle.std.proofs.lemmas.List.{get_or_default}
use Rattle.cca_base.specs.Model.{mode_counts}
use Rattle.cca_base.specs.declared.model.Component.{Component}
use Rattle.cca_base.specs.LeastCosts.{IsLeast}
use Rattle.successors.specs.Choices.{AreChanges}
use Rattle.successors.proofs.Changes.{row_none, row_more, change_is, row_sorted, sorted_each, mode_count}
use Rattle.successors.proofs.row.fill_row.Goals as goal

pub loop-to-init : goal.loop-to-init
loop-to-init c =
    record {
      row = row_none c.args.model.now c.args.component c.args.from c.args.nominal c.clear.new.self.items c.clear.ensures.items;
      len = omega (arith, ap length c.clear.ensures.items);
      room = c.clear.ensures.capacity;
    }

pub loop-to-preserved : goal.loop-to-preserved
loop-to-preserved c =
    let m = c.args.model.now in
    let comps = c.components.ensures.value in
    let get : c.get.result.now ≡ get_or m.components c.args.component c.get.result.now = subst (λ (l : List Component). c.get.result.now ≡ get_or l c.args.component c.get.result.now) comps c.get.ensures.item in
    let modes = mode_count m c.args.component c.get.result.now c.requires.component get in
    let within : c.loop-to.to < length c.args.costs.now = omega (arith, c.loop-to-test.true, c.len-modes.ensures, modes, c.requires.full) in
    let failure : c.get-in-loop-to.result.now ≡ get_or c.args.costs.now c.loop-to.to None = c.get-in-loop-to.ensures.item ∙ get_or_default c.args.costs.now c.loop-to.to c.get-in-loop-to.result.now None within in
    let least = subst (IsLeast m.failures c.args.component c.args.from c.loop-to.to) (sym failure) (c.requires.least c.loop-to.to within) in
    record {
      row = row_more m c.args.component c.args.from c.args.nominal c.loop-to.to c.loop-to.row.items c.add_choice.new.row.items c.change.result
          (change_is m c.args.component c.args.from c.args.nominal c.loop-to.to c.get-in-loop-to.result.now c.change.result least c.change.ensures.same c.change.ensures.other) c.add_choice.ensures.added c.loop-to.invariant.row;
      len = omega (arith, c.add_choice.ensures.len, c.loop-to.invariant.len);
      room = c.add_choice.ensures.room ∙ c.loop-to.invariant.room;
    }

pub returns-clause-row : goal.returns-clause-row
returns-clause-row c =
    row_sorted c.args.model.now c.args.component c.args.from c.args.nominal c.loop-to.to c.loop-to.row.items c.sort_unstable.new.self.items c.components.ensures.well_formed c.loop-to.invariant.row
    c.sort_unstable.ensures.permutation c.sort_unstable.ensures.sorted

pub returns-clause-each : goal.returns-clause-each
returns-clause-each c =
    let m = c.args.model.now in
    let get : c.get.result.now ≡ get_or m.components c.args.component c.get.result.now = subst (λ (l : List Component). c.get.result.now ≡ get_or l c.args.component c.get.result.now) c.components.ensures.value c.get.ensures.item in
    let modes = mode_count m c.args.component c.get.result.now c.requires.component get in
    let all : c.loop-to.to ≡ get_or (mode_counts m) c.args.component 0 = omega (arith, c.loop-to.auto.to-end, c.loop-to-test.false, c.len-modes.ensures) in
    subst (λ n. AreChanges m c.args.component c.args.from c.args.nominal n c.sort_unstable.new.self.items) all
    (sorted_each m c.args.component c.args.from c.args.nominal c.loop-to.to c.loop-to.row.items c.sort_unstable.new.self.items c.loop-to.invariant.row.each c.sort_unstable.ensures.permutation)
