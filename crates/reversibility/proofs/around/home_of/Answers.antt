use Rattle.std.proofs.Common.{length, arith}
use Rattle.std.proofs.lemmas.Bool.{both_ways}
use Rattle.cca_base.proofs.NextModes.{chain_short}
use Rattle.reversibility.specs.Levels.{Edges, MoveLeads}
use Rattle.reversibility.proofs.EdgeRepairs.{edge_chain, edge_push, goes_on}
use Rattle.reversibility.proofs.around.home_of.Goals as goal

pub returns-then-not-leads : goal.returns-then-not-leads
returns-then-not-leads c a h =
    let m = c.args.model.now in
    let edge : Edges = MoveLeads m c.args.numbers.now (length c.args.numbers.now) in
    both_ways c.leads.result c.if-not-leads.true (c.leads.ensures.1
    (goes_on m.version m.moves c.moves-moves.ensures.well_formed.repairs edge c.args.component c.args.mode c.loop-taken.at c.in-Some.next a c.loop-taken.taken
    c.loop-taken.invariant c.in-Some.ensures.next h))

pub loop-taken-preserved : goal.loop-taken-preserved
loop-taken-preserved c =
    let m = c.args.model.now in
    let edge : Edges = MoveLeads m c.args.numbers.now (length c.args.numbers.now) in
    edge_push m.version m.moves c.moves-moves.ensures.well_formed.repairs edge c.args.component c.args.mode c.loop-taken.at c.in-Some.next c.loop-taken.taken
    c.loop-taken.invariant c.in-Some.ensures.next (c.leads.ensures.0 c.if-not-leads.false)

pub unreachable-requires : goal.unreachable-requires
unreachable-requires c =
    let m = c.args.model.now in
    let edge : Edges = MoveLeads m c.args.numbers.now (length c.args.numbers.now) in
    let chain = edge_chain m.version m.moves c.moves-moves.ensures.well_formed.repairs edge c.args.component c.args.mode c.loop-taken.at c.loop-taken.taken c.loop-taken.invariant in
    let short = chain_short m c.moves-moves.ensures.well_formed c.args.component c.args.mode c.loop-taken.at c.loop-taken.taken chain in
    omega (arith, short, c.loop-taken-test.false)
