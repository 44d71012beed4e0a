use Rattle.std.proofs.Common.{map, reverse, ◌∙◌, arith}
use Rattle.control_program.specs.Opened.{opened}
use Rattle.control_program.specs.Places.{fresh_node}
use Rattle.control_program.proofs.Laying.{lay_grows, lay_node}
use Rattle.control_program.proofs.OpenedPrograms.{laid_start, laid_more, laid_all}
use Rattle.control_program.proofs.opening.+laying.Goals as goal

pub lay_all-loop-part-init : goal.lay_all-loop-part-init
lay_all-loop-part-init t c = laid_start c.args.parts (map fresh_node (reverse c.args.nodes.now.items))

pub lay_all-loop-part-preserved : goal.lay_all-loop-part-preserved
lay_all-loop-part-preserved t c =
    let old = (map fresh_node (reverse c.args.nodes.now.items)) in
    laid_more c.args.parts c.loop-part.parts c.pop.new.self c.in-Some.part old (map fresh_node (reverse c.loop-part.nodes.items)) (map fresh_node
    (reverse c.lay.new.nodes.items))
    c.loop-part.invariant c.in-Some.ensures c.in_ok-lay.ensures

pub lay_all-returns : goal.lay_all-returns
lay_all-returns t c =
    laid_all c.args.in_order c.args.parts c.loop-part.parts c.len-count.result (map fresh_node (reverse c.args.nodes.now.items)) (map fresh_node (reverse c.loop-part.nodes.items))
    c.loop-part.invariant c.in_default.ensures.0 c.len-count.ensures

pub lay-overflow_sub-size : goal.lay-overflow_sub-size
lay-overflow_sub-size t c =
    omega (
      arith,
      c.len-start.ensures,
      c.len.ensures,
      c.args.nodes.now.ok.0,
      c.lay_inner.new.nodes.ok.0,
      lay_grows c.args.nodes.now.items c.lay_inner.new.nodes.items (opened c.args.part) c.in_ok-kind.kind c.in_ok-kind.ensures,
    )

pub lay-returns : goal.lay-returns
lay-returns t c =
    lay_node c.args.nodes.now.items c.lay_inner.new.nodes.items (opened c.args.part) c.in_ok-kind.kind c.in_ok-kind.ensures c.len-start.result c.len.result
    c.push.new.self.items c.in_ok-push.ensures.items (c.len-start.ensures ∙ c.args.nodes.now.ok.0) (c.len.ensures ∙ c.lay_inner.new.nodes.ok.0)
