use Rattle.clash_analysis.specs.Laws.{Passes}
use Rattle.clash_analysis.proofs.LearnLaws.{resolved_apart, resolved_learned}
use Rattle.clash_analysis.proofs.UndoLaws.{learned_entry, nothing_left, others_apart, undone_front}
use Rattle.clash_analysis.proofs.laws.learning.Goals as goal

pub returns-clause-resolved : goal.returns-clause-resolved
returns-clause-resolved c want pairs start dom learn new e blamed more all long wide right resolved grown is learned apart =
    (resolved_learned (Passes want) pairs start dom learn new e blamed more all long wide right resolved grown is learned, resolved_apart (Passes want) pairs start dom learn new e right resolved apart)

pub returns-clause-others : goal.returns-clause-others
returns-clause-others c want pairs = others_apart (Passes want) pairs

pub returns-clause-undone : goal.returns-clause-undone
returns-clause-undone c want pairs = undone_front (Passes want) pairs

pub returns-clause-narrows : goal.returns-clause-narrows
returns-clause-narrows c want pairs = learned_entry (Passes want) pairs

pub returns-clause-nothing : goal.returns-clause-nothing
returns-clause-nothing c want pairs = nothing_left (Passes want) pairs
