use Rattle.std.proofs.Common.{◌≡◌, drop}
use Rattle.text_base.specs.Lists.{name_list_spelled}
use Rattle.model_syntax.specs.Drafts.{with_tokens}
use Rattle.model_syntax.proofs.PrintedTokens.{commas}
use Rattle.model_syntax.proofs.print_names.list.Given as goal

-- with what is left, the list is whole
abbrev pub invariant-loop-name : goal.invariant-loop-name
invariant-loop-name l = with_tokens l.out (commas (drop l.name-index l.rest)) ≡ with_tokens l.fn.out (name_list_spelled l.names)
