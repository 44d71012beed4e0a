use Rattle.std.proofs.Common.{Some, subst, ◌∙◌, arith}
use Rattle.std.specs.Prelude.{nat_eq}
use Rattle.std.specs.Cmp.Lexicographic.{pointwise}
use Rattle.std.proofs.lemmas.List.{length_push}
use Rattle.indexmap.specs.IndexMap.{Updates}
use Rattle.cca_base.specs.Model.{IsComplete}
use Rattle.model_syntax.specs.Reader.{IsIndexed}
use Rattle.model_syntax.proofs.AddedParts.{short_name}
use Rattle.model_syntax.proofs.GrowthByMove.{may_move, new_command_kept, new_move_kept, number_new, unused_last, command_taken_back}
use Rattle.model_syntax.proofs.IndexedGrowth.{numbers_reserved, command_indexed}
use Rattle.model_syntax.proofs.indexed_model.IndexedModel.add_with_command.Goals as goal

pub of-name-requires : goal.of-name-requires
of-name-requires c = short_name c.args.command.now (may_move c.args.self.now c.args.x c.args.command.now c.requires.code).short

pub add_command-requires : goal.add_command-requires
add_command-requires c =
    let may = may_move c.args.self.now c.args.x c.args.command.now c.requires.code in
    let complete = subst IsComplete c.self.view_is c.self.invariant.complete in
    rw (c.self.view_is, c.of-name.ensures)
    (new_command_kept c.args.self.now c.args.x c.args.command.now c.requires.well_formed may c.requires.declared.guard c.requires.declared.source c.requires.declared.target complete c.requires.declared.number c.requires.free c.requires.declared.bare)

pub add_move-requires : goal.add_move-requires
add_move-requires c =
    let may = may_move c.args.self.now c.args.x c.args.command.now c.requires.code in
    let complete = subst IsComplete c.self.view_is c.self.invariant.complete in
    rw (c.in_ok-add_command.ensures.ok, c.self.view_is, c.of-name.ensures)
    (new_move_kept c.args.self.now c.args.x c.args.command.now c.requires.well_formed may c.requires.declared.guard c.requires.declared.source c.requires.declared.target complete c.requires.declared.number c.requires.free c.requires.declared.bare)

pub take_back_command-requires : goal.take_back_command-requires
take_back_command-requires c =
    let m = c.args.self.now in
    rw (c.in-Err.ensures.err, c.in_ok-add_command.ensures.ok, c.self.view_is, c.of-name.ensures)
    (record { some = omega (arith, length_push m.commands c.args.command.now); unused = unused_last m c.args.command.now c.requires.well_formed })

pub invariant_of-self-in-Ok : goal.invariant_of-self-in-Ok
invariant_of-self-in-Ok c =
    let m = c.args.self.now in
    let names = c.self.inside.names in
    let was = subst (λ n. IsIndexed n names c.self.inside.numbers) c.self.view_is c.self.invariant in
    let room = numbers_reserved m names c.self.inside.numbers was c.reserve.new.self c.reserve.ensures.entries in
    let may = may_move m c.args.x c.args.command.now c.requires.code in
    let number = number_new m c.args.x c.args.command.now c.requires.well_formed may c.requires.declared.guard c.requires.declared.source c.requires.declared.target was.complete c.requires.declared.number c.requires.free in
    let updates = subst (λ k. Updates (pointwise nat_eq) c.reserve.new.self c.insert_new.new.map k (Some c.args.x.command)) c.of-name.ensures c.insert_new.ensures in
    rw (c.in-Ok.ensures.ok, c.in_ok-add_command.ensures.ok, c.self.view_is, c.of-name.ensures)
    (command_indexed m names c.reserve.new.self room c.insert_new.new.map c.args.x c.args.command.now number c.requires.free updates)

pub returns-in-Err-clause-err : goal.returns-in-Err-clause-err
returns-in-Err-clause-err c =
    c.take_back_command.ensures
    ∙ (rw (c.in-Err.ensures.err, c.in_ok-add_command.ensures.ok, c.self.view_is, c.of-name.ensures) (command_taken_back c.args.self.now c.args.command.now))
