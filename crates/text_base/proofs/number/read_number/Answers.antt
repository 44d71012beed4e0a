use Rattle.std.proofs.Common.{sym, ◌∙◌}
use Rattle.text_base.proofs.NumberTexts.{no_numeral, utf8_numeral, read_some, read_none}
use Rattle.text_base.proofs.number.read_number.Goals as goal

pub returns-then-not-is_numeral-clause-none : goal.returns-then-not-is_numeral-clause-none
returns-then-not-is_numeral-clause-none c = no_numeral c.args.text.now (sym c.is_numeral.ensures ∙ c.if-not-is_numeral.true)

pub returns-in-Err-clause-none : goal.returns-in-Err-clause-none
returns-in-Err-clause-none c = absurd (c.in-Err.ensures.cases.0 (utf8_numeral c.args.text.now (sym c.is_numeral.ensures ∙ c.if-not-is_numeral.false)))

pub returns-in-Ok-clause-some : goal.returns-in-Ok-clause-some
returns-in-Ok-clause-some c = read_some _ c.args.text.now _ c.parse.result _ c.ok.ensures.value (sym c.is_numeral.ensures ∙ c.if-not-is_numeral.false) c.in-Ok.ensures.cases.0 c.parse.ensures.value.0

pub returns-in-Ok-clause-none : goal.returns-in-Ok-clause-none
returns-in-Ok-clause-none c = read_none _ c.args.text.now _ c.parse.result _ c.ok.ensures.value c.in-Ok.ensures.cases.0 c.parse.ensures.value.0
