use Rattle.group_search.proofs.BoxLaws.{put_read}
use Rattle.group_search.proofs.path_box.PathBox.put.Goals as goal

pub returns-clause-ready : goal.returns-clause-ready
returns-clause-ready g c =
    let p = c.args.problem.now in let call = c.column-stands in
    put_read (g.P.Paths.means.question p) (g.met.P.Paths.own_places p) (g.met.P.Paths.owned p) c.args.self.now c.args.place c.args.mask
    c.components.result.now c.as_slice.result.now c.set.new.self call.new.columns c.set-2.new.self call.result c.requires.ready c.requires.place c.ranges.mask.fits
    c.components.ensures c.set.ensures c.as_slice.ensures call.ensures.others call.ensures.stands call.ensures.none c.set-2.ensures
