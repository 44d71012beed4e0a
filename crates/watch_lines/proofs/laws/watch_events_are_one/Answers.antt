use Rattle.watch_lines.proofs.OneWatchEvent as one
use Rattle.watch_lines.proofs.laws.watch_events_are_one.Goals as goal

pub returns : goal.returns
returns c = one.watch_events_are_one
