use Rattle.std.proofs.Common.{ℕ, All, Some, map, refl, ap, rules, ◌∙◌, sym, subst, arith}
use Rattle.control_program.specs.declared.nodes.Task.{Task}
use Rattle.control_program.specs.Questions.{IsAmong, kind_question, node_question, task_question}
use Rattle.control_program.specs.declared.nodes.Kind.{Kind}
use Rattle.control_program.specs.Courses.{TaskIn}
use Rattle.control_program.specs.Places.{marked}
use Rattle.control_program.proofs.AskedParts.{among_at, asks_at}
use Rattle.control_program.proofs.ChoiceTurns.{choice_turned}
use Rattle.control_program.proofs.PartsTurns.{start_in, next_stands, next_in_nodes, next_ends, is_behind, step_in, stop_in, finish_in}
use Rattle.control_program.proofs.PlaceLaws.{lies, in_nodes, in_marks, of_kind}
use Rattle.control_program.proofs.RoundTurns.{body_stands, round_at, round_waits, round_turned}
use Rattle.control_program.proofs.TaskTurns.{task_in, task_had_ended, task_waits, task_lies, task_is_done, parts_stand, reach_works, await_works, parts_work}
use Rattle.control_program.proofs.turning.+turning.Goals as goal

pub turn_at-node_at-requires : goal.turn_at-node_at-requires
turn_at-node_at-requires t c = in_nodes c.args.asking.now.nodes.now c.args.course.now.marks c.args.at (lies c.requires.stands)

pub turn_at-get-requires : goal.turn_at-get-requires
turn_at-get-requires t c = in_marks c.args.asking.now.nodes.now c.args.course.now.marks c.args.at (lies c.requires.stands)

pub turn_at-returns-then-is_ended-clause-turns : goal.turn_at-returns-then-is_ended-clause-turns
turn_at-returns-then-is_ended-clause-turns t c = λ s.
    task_had_ended c.args.asking.now c.args.course.now.marks c.args.at s c.in-Once.task c.node_at.result.now c.node_at.ensures c.in-Once.is c.args.course.now.goal.items c.get.result.now c.get.ensures.value
    (sym c.is_ended.ensures ∙ c.if-is_ended.true)

pub turn_at-work-requires : goal.turn_at-work-requires
turn_at-work-requires t c = (
  omega (arith, c.decreases),
  (task_in c.args.asking.now c.args.course.now.marks c.args.at c.requires.stands c.in-Once.task c.node_at.result.now c.node_at.ensures c.in-Once.is c.get.result.now c.get.ensures.value (sym c.is_ended.ensures ∙ c.if-is_ended.false), (c.requires.ready, asks_at c.args.asking.now.nodes.now c.args.at c.node_at.result.now c.node_at.ensures ∙ ap (λ (v : Kind). Some (kind_question v)) c.in-Once.is)),
)

pub turn_at-returns-then-not-work-clause-turns : goal.turn_at-returns-then-not-work-clause-turns
turn_at-returns-then-not-work-clause-turns t c = λ s.
    task_waits c.args.asking.now c.args.at c.args.course.now c.work.new.course s c.in-Once.task c.node_at.result.now c.node_at.ensures c.in-Once.is c.get.result.now c.get.ensures.value (sym c.is_ended.ensures ∙ c.if-is_ended.false) c.work.result c.work.ensures.works c.if-not-work.true

pub turn_at-set-requires : goal.turn_at-set-requires
turn_at-set-requires t c =
    in_marks c.args.asking.now.nodes.now c.work.new.course.marks c.args.at
    (task_lies c.args.asking.now c.args.at c.args.course.now c.work.new.course c.requires.stands c.in-Once.task c.node_at.result.now c.node_at.ensures c.in-Once.is c.get.result.now c.get.ensures.value (sym c.is_ended.ensures ∙ c.if-is_ended.false) c.work.result c.work.ensures.works)

pub turn_at-returns-else-not-work-clause-turns : goal.turn_at-returns-else-not-work-clause-turns
turn_at-returns-else-not-work-clause-turns t c = λ s.
    task_is_done c.args.asking.now c.args.at c.args.course.now c.work.new.course s c.in-Once.task c.node_at.result.now c.node_at.ensures c.in-Once.is c.get.result.now c.get.ensures.value (sym c.is_ended.ensures ∙ c.if-is_ended.false) c.work.result c.work.ensures.works c.if-not-work.false
    c.set.new.self c.set.ensures

pub turn_at-choose-part-requires-clause-kind : goal.turn_at-choose-part-requires-clause-kind
turn_at-choose-part-requires-clause-kind t c =
    (c.in-Choose.field-0, of_kind c.args.asking.now.nodes.now c.args.at c.node_at.result.now (Kind.Choose c.in-Choose.field-0) c.node_at.ensures c.in-Choose.is)

pub turn_at-turn_at-requires : goal.turn_at-turn_at-requires
turn_at-turn_at-requires t c = (
  omega (arith, c.decreases, in_nodes c.args.asking.now.nodes.now c.args.course.now.marks c.args.at (lies c.requires.stands), (c.choose-part.ensures.takes c.requires.stands).behind),
  ((c.choose-part.ensures.takes c.requires.stands).stands, record { denied = c.requires.ready.denied; among = c.requires.ready.among; fits = c.requires.ready.fits; memory = c.choose-part.ensures.space }),
)

pub turn_at-returns-in-Choose-clause-turns : goal.turn_at-returns-in-Choose-clause-turns
turn_at-returns-in-Choose-clause-turns t c =
    choice_turned c.args.asking.now c.args.at c.choose-part.result c.args.course.now c.turn_at.new.course (record c.args.course.now { marks = c.choose-part.new.marks; space = c.choose-part.new.space }) refl c.choose-part.ensures.takes c.turn_at.result c.turn_at.ensures.turns

pub turn_at-overflow_add-at : goal.turn_at-overflow_add-at
turn_at-overflow_add-at t c =
    let inside = in_nodes c.args.asking.now.nodes.now c.args.course.now.marks c.args.at (lies c.requires.stands) in
    search rules

pub turn_at-turn_at-requires-in-Repeat : goal.turn_at-turn_at-requires-in-Repeat
turn_at-turn_at-requires-in-Repeat t c = (
  omega (arith, c.decreases, in_nodes c.args.asking.now.nodes.now c.args.course.now.marks c.args.at (lies c.requires.stands)),
  (body_stands c.args.asking.now c.args.course.now.marks c.args.at c.requires.stands c.in-Repeat.number (of_kind c.args.asking.now.nodes.now c.args.at c.node_at.result.now (Kind.Repeat c.in-Repeat.number) c.node_at.ensures c.in-Repeat.is), c.requires.ready),
)

pub turn_at-returns-then-not-turn_at-clause-turns : goal.turn_at-returns-then-not-turn_at-clause-turns
turn_at-returns-then-not-turn_at-clause-turns t c = λ s.
    round_waits c.args.asking.now c.args.course.now.marks c.args.at s c.in-Repeat.number (of_kind c.args.asking.now.nodes.now c.args.at c.node_at.result.now (Kind.Repeat c.in-Repeat.number) c.node_at.ensures c.in-Repeat.is) c.args.course.now.goal.items c.turn_at-in-Repeat.result c.turn_at-in-Repeat.new.course.marks c.turn_at-in-Repeat.new.course.goal.items
    (c.turn_at-in-Repeat.ensures.turns (body_stands c.args.asking.now c.args.course.now.marks c.args.at s c.in-Repeat.number (of_kind c.args.asking.now.nodes.now c.args.at c.node_at.result.now (Kind.Repeat c.in-Repeat.number) c.node_at.ensures c.in-Repeat.is))) c.if-not-turn_at.true

pub turn_at-end_round-requires-clause-round : goal.turn_at-end_round-requires-clause-round
turn_at-end_round-requires-clause-round t c =
    round_at c.args.asking.now c.args.course.now.marks c.args.at c.requires.stands c.in-Repeat.number (of_kind c.args.asking.now.nodes.now c.args.at c.node_at.result.now (Kind.Repeat c.in-Repeat.number) c.node_at.ensures c.in-Repeat.is) c.args.course.now.goal.items c.turn_at-in-Repeat.result c.turn_at-in-Repeat.new.course.marks c.turn_at-in-Repeat.new.course.goal.items
    (c.turn_at-in-Repeat.ensures.turns (body_stands c.args.asking.now c.args.course.now.marks c.args.at c.requires.stands c.in-Repeat.number (of_kind c.args.asking.now.nodes.now c.args.at c.node_at.result.now (Kind.Repeat c.in-Repeat.number) c.node_at.ensures c.in-Repeat.is)))

pub turn_at-end_round-requires-clause-kind : goal.turn_at-end_round-requires-clause-kind
turn_at-end_round-requires-clause-kind t c = of_kind c.args.asking.now.nodes.now c.args.at c.node_at.result.now (Kind.Repeat c.in-Repeat.number) c.node_at.ensures c.in-Repeat.is

pub turn_at-returns-else-not-turn_at-clause-turns : goal.turn_at-returns-else-not-turn_at-clause-turns
turn_at-returns-else-not-turn_at-clause-turns t c = λ s.
    round_turned c.args.asking.now c.args.course.now.marks c.args.at s c.in-Repeat.number (of_kind c.args.asking.now.nodes.now c.args.at c.node_at.result.now (Kind.Repeat c.in-Repeat.number) c.node_at.ensures c.in-Repeat.is) c.args.course.now.goal.items c.turn_at-in-Repeat.result c.turn_at-in-Repeat.new.course.marks c.turn_at-in-Repeat.new.course.goal.items
    (c.turn_at-in-Repeat.ensures.turns (body_stands c.args.asking.now c.args.course.now.marks c.args.at s c.in-Repeat.number (of_kind c.args.asking.now.nodes.now c.args.at c.node_at.result.now (Kind.Repeat c.in-Repeat.number) c.node_at.ensures c.in-Repeat.is))) c.if-not-turn_at.false c.end_round.result (marked c.args.asking.now.nodes.now c.end_round.new.marks) c.end_round.ensures

pub work-reaches-requires-clause-among : goal.work-reaches-requires-clause-among
work-reaches-requires-clause-among t c = among_at c.args.asking.now.nodes.now c.args.at c.in-Reach.pairs c.args.course.now.goal.room (c.requires.node ∙ ap (λ (v : Task). Some (task_question v)) c.in-Reach.is) c.requires.ready.among

pub work-returns-in-Reach-clause-works : goal.work-returns-in-Reach-clause-works
work-returns-in-Reach-clause-works t c =
    reach_works c.args.asking.now c.args.at c.args.course.now (record c.args.course.now { goal = c.reaches.new.goal }) c.args.task.now c.reaches.result c.in-Reach.pairs c.in-Reach.is refl c.reaches.ensures.reaches

pub work-returns-in-Reach-clause-ready : goal.work-returns-in-Reach-clause-ready
work-returns-in-Reach-clause-ready t c = record {
  denied = c.requires.ready.denied;
  among = subst (λ (n : ℕ). All (IsAmong n) (map node_question c.args.asking.now.nodes.now)) (sym c.reaches.ensures.room) c.requires.ready.among;
  fits = c.reaches.ensures.fits;
  memory = c.requires.ready.memory;
}

pub work-holds-requires-clause-asks : goal.work-holds-requires-clause-asks
work-holds-requires-clause-asks t c = (c.in-Await.field-0, c.requires.node ∙ ap (λ (v : Task). Some (task_question v)) c.in-Await.is)

pub work-returns-in-Await-clause-works : goal.work-returns-in-Await-clause-works
work-returns-in-Await-clause-works t c =
    await_works c.args.asking.now c.args.at c.args.course.now (record c.args.course.now { space = c.holds.new.space }) c.args.task.now c.holds.result c.in-Await.field-0 c.in-Await.is refl refl
    (c.holds.ensures.holds c.in-Await.field-0 (c.requires.node ∙ ap (λ (v : Task). Some (task_question v)) c.in-Await.is))

pub work-returns-in-Await-clause-ready : goal.work-returns-in-Await-clause-ready
work-returns-in-Await-clause-ready t c = record { denied = c.requires.ready.denied; among = c.requires.ready.among; fits = c.requires.ready.fits; memory = c.holds.ensures.space }

pub work-overflow_add-at : goal.work-overflow_add-at
work-overflow_add-at t c =
    let inside = in_nodes c.args.asking.now.nodes.now c.args.course.now.marks c.args.at (lies c.requires.task.stands) in
    search rules

pub work-turn_parts-requires : goal.work-turn_parts-requires
work-turn_parts-requires t c = (
  omega (arith, c.decreases, in_nodes c.args.asking.now.nodes.now c.args.course.now.marks c.args.at (lies c.requires.task.stands)),
  (parts_stand c.args.asking.now c.args.course.now.marks c.args.at c.in-Parts.in_order c.in-Parts.count (subst (TaskIn c.args.asking.now c.args.course.now.marks c.args.at) c.in-Parts.is c.requires.task), c.requires.ready),
)

pub work-returns-in-Parts-clause-works : goal.work-returns-in-Parts-clause-works
work-returns-in-Parts-clause-works t c =
    parts_work c.args.asking.now c.args.at c.args.course.now c.turn_parts.new.course c.args.task.now c.turn_parts.result c.in-Parts.in_order c.in-Parts.count c.in-Parts.is c.turn_parts.ensures.turn

pub turn_parts-loop-init : goal.turn_parts-loop-init
turn_parts-loop-init t c = record {
  along = start_in c.args.asking.now c.args.in_order c.args.at c.args.count c.args.course.now;
  ready = c.requires.ready;
}

pub turn_parts-node_at-requires : goal.turn_parts-node_at-requires
turn_parts-node_at-requires t c =
    next_in_nodes c.args.asking.now c.args.in_order c.args.at c.args.count c.args.course.now c.loop.course c.loop.place c.loop.counter c.loop.all_ended c.loop.invariant.along c.requires.stand c.loop-test.true

pub turn_parts-overflow_add-end : goal.turn_parts-overflow_add-end
turn_parts-overflow_add-end t c =
    let inside = next_ends c.args.asking.now c.args.in_order c.args.at c.args.count c.args.course.now c.loop.course c.loop.place c.loop.counter c.loop.all_ended c.loop.invariant.along c.requires.stand c.loop-test.true c.node_at.result.now c.node_at.ensures in
    search rules

pub turn_parts-turn_at-ended-requires : goal.turn_parts-turn_at-ended-requires
turn_parts-turn_at-ended-requires t c = (
  omega (arith, c.decreases, next_in_nodes c.args.asking.now c.args.in_order c.args.at c.args.count c.args.course.now c.loop.course c.loop.place c.loop.counter c.loop.all_ended c.loop.invariant.along c.requires.stand c.loop-test.true, is_behind c.args.asking.now c.args.in_order c.args.at c.args.count c.args.course.now c.loop.course c.loop.place c.loop.counter c.loop.all_ended c.loop.invariant.along c.requires.stand),
  (next_stands c.args.asking.now c.args.in_order c.args.at c.args.count c.args.course.now c.loop.course c.loop.place c.loop.counter c.loop.all_ended c.loop.invariant.along c.requires.stand c.loop-test.true, c.loop.invariant.ready),
)

pub turn_parts-returns-then-in_order-ended-clause-turn : goal.turn_parts-returns-then-in_order-ended-clause-turn
turn_parts-returns-then-in_order-ended-clause-turn t c =
    stop_in c.args.asking.now c.args.in_order c.args.at c.args.count c.args.course.now c.loop.course c.loop.place c.loop.counter c.loop.all_ended c.loop.invariant.along
    c.loop-test.true c.turn_at-ended.new.course c.turn_at-ended.result c.turn_at-ended.ensures.turns c.if-in_order-ended.true

pub turn_parts-loop-preserved : goal.turn_parts-loop-preserved
turn_parts-loop-preserved t c = record {
  along =
      step_in c.args.asking.now c.args.in_order c.args.at c.args.count c.args.course.now c.loop.course c.loop.place c.loop.counter c.loop.all_ended c.loop.invariant.along
      c.loop-test.true c.turn_at-ended.new.course c.turn_at-ended.result c.turn_at-ended.ensures.turns c.if-in_order-ended.false c.node_at.result.now c.node_at.ensures;
  ready = c.turn_at-ended.ensures.ready;
}

pub turn_parts-returns-clause-turn : goal.turn_parts-returns-clause-turn
turn_parts-returns-clause-turn t c =
    finish_in c.args.asking.now c.args.in_order c.args.at c.args.count c.args.course.now c.loop.course c.loop.place c.loop.counter c.loop.all_ended c.loop.invariant.along c.loop-test.false
