use Rattle.watch_lines.proofs.watch_line.item_event.Goals as goal

pub returns-in-Observe : goal.returns-in-Observe
returns-in-Observe c = rw c.in-Observe.is (rw c.deref.ensures.value at c.observe_event.ensures)
