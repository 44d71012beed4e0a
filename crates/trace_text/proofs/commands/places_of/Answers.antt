use Rattle.trace_text.proofs.MappedCommands.{place_added}
use Rattle.trace_text.proofs.commands.places_of.Goals as goal

pub loop-i-preserved : goal.loop-i-preserved
loop-i-preserved c =
    let name = c.index-names-i in
    place_added c.loop-i.places c.insert_place.new.places c.args.names.now c.loop-i.i name.result c.requires c.loop-i-test.true name.is c.loop-i.invariant c.in_ok-insert_place.ensures
