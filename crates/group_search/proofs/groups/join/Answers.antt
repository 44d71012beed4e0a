use Rattle.std.proofs.Common.{refl}
use Rattle.group_search.proofs.JoinLaws.{joined_by, joined_long, joined_none, renamed}
use Rattle.group_search.proofs.groups.join.Goals as goal

pub loop-pair-init : goal.loop-pair-init
loop-pair-init c = record { joined = joined_none c.args.names.now; long = refl }

pub loop-pair-preserved : goal.loop-pair-preserved
loop-pair-preserved c =
    let joined = joined_by c.args.names.now c.loop-pair.names c.rename.new.names (renamed c.get-from.result.now c.get-to.result.now) c.loop-pair.invariant.joined c.rename.ensures in
    record { joined = joined; long = joined_long c.args.names.now c.rename.new.names joined }
