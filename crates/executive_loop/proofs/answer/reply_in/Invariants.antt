use Rattle.executive_loop.proofs.answer.reply_in.Given as goal

abbrev pub ghosts-reply_by : goal.ghosts-reply_by
ghosts-reply_by a = record { name = a.blank.name; parts = a.blank.parts }
