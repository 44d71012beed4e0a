use Rattle.std.proofs.Common.{◌≡◌, length, map, reverse, sym, ap, ◌∙◌, arith}
use Rattle.std.proofs.lemmas.List.{length-map}
use Rattle.control_program.specs.Flat.{laid}
use Rattle.control_program.specs.Marks.{is_nothing}
use Rattle.control_program.specs.Opened.{opened}
use Rattle.control_program.specs.Places.{fresh_node, fresh_mark, marked}
use Rattle.control_program.proofs.Laying.{marked-fresh}
use Rattle.control_program.proofs.OpenedPrograms.{opened_proper, rest_of-opened}
use Rattle.control_program.proofs.RunningLaws.{control-laid, control-opened}
use Rattle.control_program.proofs.runner.Runner.open.Goals as goal

pub invariant_of-result : goal.invariant_of-result
invariant_of-result c =
    let ns = c.reverse.new.self.items in
    let marks : c.in_ok-marks.marks ≡ map fresh_mark ns = c.in_ok-marks.ensures ∙ ap (map fresh_mark) c.as_slice.ensures.value in
    record {
      tree = opened c.args.part;
      is = ap (marked ns) marks ∙ marked-fresh ns ∙ ap (map fresh_node) c.reverse.ensures.items ∙ c.in_ok-lay.ensures
          ∙ ap (λ l. laid (opened c.args.part) (map fresh_node (reverse l))) c.new-nodes.ensures.items;
      full = omega (arith, ap length marks, length-map ns fresh_mark);
      proper = opened_proper c.args.part;
      ended = sym (ap is_nothing (rest_of-opened c.args.part));
    }

pub returns : goal.returns
returns c =
    let ns = c.reverse.new.self.items in
    let marks : c.in_ok-marks.marks ≡ map fresh_mark ns = c.in_ok-marks.ensures ∙ ap (map fresh_mark) c.as_slice.ensures.value in
    control-laid ns c.in_ok-marks.marks (opened c.args.part)
    (ap (marked ns) marks ∙ marked-fresh ns ∙ ap (map fresh_node) c.reverse.ensures.items ∙ c.in_ok-lay.ensures
    ∙ ap (λ l. laid (opened c.args.part) (map fresh_node (reverse l))) c.new-nodes.ensures.items)
    ∙ control-opened c.args.part
