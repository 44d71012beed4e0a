use Rattle.std.proofs.Common.{◌≡◌, ◌++◌, take, map}
use Rattle.std.specs.String.{string_bytes}
use Rattle.trial_maker.specs.Documents.{text_of}
use Rattle.trial_maker.specs.ScriptLines.{mirror_line}
use Rattle.trial_maker.proofs.script.push_mirrors.Given as goal

-- the lines so far
abbrev pub invariant-loop-link : goal.invariant-loop-link
invariant-loop-link l = string_bytes l.out ≡ string_bytes l.initial.out ++ text_of (map mirror_line (take l.link-index l.links))
