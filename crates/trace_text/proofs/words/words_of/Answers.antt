use Rattle.std.proofs.Common.{arith, refl}
use Rattle.trace_text.proofs.CutLines.{word_cut, cut_goes_on, last_word_cut}
use Rattle.trace_text.proofs.words.words_of.Goals as goal
use Rattle.trace_text.proofs.words.words_of.Goals.{then-b-eq32+in_ok-push, else-b-eq32}

pub loop-i-preserved : goal.loop-i-preserved
loop-i-preserved c = elim c.if-b-eq32.branch [
  | then-b-eq32+in_ok-push w ↦
      (rw (w.words-is, w.start-is) (word_cut c.args.line.now c.loop-i.words.items _ _ c.loop-i.start c.loop-i.i c.loop-i.invariant c.loop-i-test.true w.if-b-eq32.true w.in_ok-push.ensures.items refl))
  | else-b-eq32 w ↦ (rw (w.words-is, w.start-is) (cut_goes_on c.args.line.now _ c.loop-i.start c.loop-i.i c.loop-i.invariant w.if-b-eq32.false))
]

pub returns : goal.returns
returns c = last_word_cut c.args.line.now c.loop-i.words.items c.push-2.new.self.items _ c.loop-i.start c.loop-i.i c.loop-i.invariant (omega arith) c.in_ok-push-2.ensures.items refl
