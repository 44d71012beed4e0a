use Rattle.std.proofs.Common.{◌≡◌, ◌++◌, take, map}
use Rattle.std.specs.String.{string_bytes}
use Rattle.trial_maker.specs.Documents.{text_of}
use Rattle.trial_maker.specs.PlantLines.{line_of}
use Rattle.trial_maker.proofs.plant.push_lines.Given as goal

-- the lines so far
abbrev pub invariant-loop-link : goal.invariant-loop-link
invariant-loop-link l = string_bytes l.out ≡ string_bytes l.fn.out ++ text_of (map (line_of l.declared) (take l.link-index l.links))
