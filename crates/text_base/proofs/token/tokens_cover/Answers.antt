use Rattle.text_base.proofs.NothingLeftOut.{tokens_cover_line}
use Rattle.text_base.proofs.NoTokenInComment.{tokens_before_comment}
use Rattle.text_base.proofs.FirstBadByte.{line_stops}
use Rattle.text_base.proofs.token.tokens_cover.Goals as goal

pub returns-clause-all : goal.returns-clause-all
returns-clause-all c = tokens_cover_line

pub returns-clause-comment : goal.returns-clause-comment
returns-clause-comment c = tokens_before_comment

pub returns-clause-stops : goal.returns-clause-stops
returns-clause-stops c = line_stops
