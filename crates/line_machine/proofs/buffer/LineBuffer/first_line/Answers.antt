use Rattle.std.proofs.Common.{◌+◌, ◌-◌, length, take, drop, arith, ap, subst}
use Rattle.line_machine.specs.Lines.{HasNoLf, HasLine}
use Rattle.line_machine.proofs.FirstLineFeed.{line_from, none_from, front_clean}
use Rattle.line_machine.proofs.buffer.LineBuffer.first_line.Goals as goal

pub invariant_of-self : goal.invariant_of-self
invariant_of-self c =
    let f = c.self.inside in
    let same = ap (λ l. length (take (length l - (f.start + f.scanned)) (drop (f.start + f.scanned) l))) c.deref.ensures.value in (
      omega (arith, c.self.invariant.0, c.in-Some.ensures.within, same),
      (line_from f.bytes.items c.deref.result.now f.start f.scanned c.deref.ensures.value c.self.invariant.1 c.in-Some.len (omega (arith, c.self.invariant.0)) c.in-Some.ensures.place).1,
      c.self.invariant.2,
    )

pub invariant_of-self-in-None : goal.invariant_of-self-in-None
invariant_of-self-in-None c =
    let f = c.self.inside in (
      omega (arith, c.self.invariant.0, c.len.ensures),
      front_clean _ (drop f.start f.bytes.items) (none_from f.bytes.items c.deref.result.now f.start f.scanned c.deref.ensures.value c.self.invariant.1 c.in-None.ensures.place),
      c.self.invariant.2,
    )

pub returns-in-Some-clause-some : goal.returns-in-Some-clause-some
returns-in-Some-clause-some c =
    let f = c.self.inside in
    subst (λ l. HasLine l (f.scanned + c.in-Some.len)) c.self.view_is
    (line_from f.bytes.items c.deref.result.now f.start f.scanned c.deref.ensures.value c.self.invariant.1 c.in-Some.len (omega (arith, c.self.invariant.0)) c.in-Some.ensures.place).0

pub returns-in-None-clause-none : goal.returns-in-None-clause-none
returns-in-None-clause-none c =
    let f = c.self.inside in
    subst HasNoLf c.self.view_is (none_from f.bytes.items c.deref.result.now f.start f.scanned c.deref.ensures.value c.self.invariant.1 c.in-None.ensures.place)
