-- What a call of C answers is of what is held behind it, and which calls are wrong.
use Rattle.std.proofs.Common.{◌≡◌, ◌==◌, ℕ, Bool, true, false, List, [], ◌∷◌, Option, Some, None, inl, inr, refl, sym, subst, arith}
use Rattle.line_machine.specs.Lines.{HasNoLf}
use Rattle.run_form.specs.declared.notation.Notation.{Notation}
use Rattle.run_form.specs.declared.notation.Notation.TheVariants.{Words, Json, Proof}
use Rattle.titan_session.specs.RunSessions.{RunSession, RunState}
use Rattle.titan_session.specs.Sessions.{IsGoing}
use Rattle.titan_session.specs.declared.session.Stage.{Stage}
use Rattle.titan_session.specs.declared.session.Stage.TheVariants.{Going, Over, Lost}
use Rattle.titan_c.specs.CallLaws.{CallsAnswer, GoesOnBehind, IsAnswerOf, NumbersOfC}
use Rattle.titan_c.specs.Calls.{HandedOver, HoldsGoing, IsWrongLine, Prints}
use Rattle.titan_c.specs.Statuses.{status_of}
use Rattle.titan_c.specs.declared.status.TheConstants.{GOES_ON}
use Rattle.titan_c.proofs.CallsPrintRuns.{calls_print_runs}

answers : (old new : Option RunSession) (out out' : List ℕ) (n status : ℕ) → HandedOver old new out out' n status → IsAnswerOf new out out' n status
answers old new out out' n status w = record {
  session = w.after;
  is_held = w.now;
  stands = w.status_is;
  fits = w.hands.fits;
  rest = w.hands.rest;
  all = λ less. calls_print_runs.nothing_waits w.before w.after out out' n w.hands less;
}

-- ---- which calls are wrong

says_going : (s : Stage RunState) → IsGoing s → status_of s ≡ GOES_ON
says_going (Going x) h = refl
says_going (Over e) h = absurd h
says_going Lost h = absurd h

goes_on : (held : Option RunSession) → HoldsGoing held → GoesOnBehind held
goes_on None h = absurd h
goes_on (Some z) h = (z, refl, says_going z.stage h)

holds : (held : Option RunSession) → GoesOnBehind held → HoldsGoing held
holds held h = subst HoldsGoing (sym h.1) (calls_print_runs.goes_on h.0 h.2)

-- what isn't wrong is right
no_true : (x : Bool) → ((x ≡ false → ⊥) → ⊥) → x ≡ false
no_true false h = refl
no_true true h = absurd (h (λ e. absurd cc))

clean : (line : List ℕ) → ((HasNoLf line → ⊥) → ⊥) → HasNoLf line
clean [] h = tt
clean (b ∷ line) h = (no_true (b == 10) (λ k. h (λ c. k c.0)), clean line (λ k. h (λ c. k c.1)))

going : (s : Stage RunState) → ((IsGoing s → ⊥) → ⊥) → IsGoing s
going (Going x) h = tt
going (Over e) h = absurd (h (λ x. x))
going Lost h = absurd (h (λ x. x))

held_going : (held : Option RunSession) → ((HoldsGoing held → ⊥) → ⊥) → HoldsGoing held
held_going None h = absurd (h (λ x. x))
held_going (Some z) h = going z.stage h

not_wrong : (held : Option RunSession) (line : List ℕ) → HasNoLf line → HoldsGoing held → IsWrongLine held line → ⊥
not_wrong held line c h (inl broken) = broken c
not_wrong held line c h (inr over) = over h

pub calls_answer : CallsAnswer
calls_answer = record {
  line = λ old new line out out' n status w. answers (Some w.between) new out out' n status w.hands;
  end = λ old new out out' n status w. answers (Some w.between) new out out' n status w.hands;
  take = answers;
  may_end = λ held. (goes_on held, holds held);
  may_line = λ held line. (
    λ right. (clean line (λ broken. right (inl broken)), goes_on held (held_going held (λ over. right (inr over)))),
    λ h. not_wrong held line h.0 (holds held h.1),
  );
}

-- ---- numbers

in_words : (notation : Notation) → Prints 0 notation → notation ≡ Words
in_words notation (inl (e, is)) = is
in_words notation (inr (inl (e, is))) = absurd (omega (arith, e))
in_words notation (inr (inr (e, is))) = absurd (omega (arith, e))

as_json : (notation : Notation) → Prints 1 notation → notation ≡ Json
as_json notation (inl (e, is)) = absurd (omega (arith, e))
as_json notation (inr (inl (e, is))) = is
as_json notation (inr (inr (e, is))) = absurd (omega (arith, e))

with_proofs : (notation : Notation) → Prints 2 notation → notation ≡ Proof
with_proofs notation (inl (e, is)) = absurd (omega (arith, e))
with_proofs notation (inr (inl (e, is))) = absurd (omega (arith, e))
with_proofs notation (inr (inr (e, is))) = is

pub numbers_of_c : NumbersOfC
numbers_of_c = record {
  statuses = refl;
  words = λ notation. (in_words notation, λ is. inl (refl, is));
  json = λ notation. (as_json notation, λ is. inr (inl (refl, is)));
  proofs = λ notation. (with_proofs notation, λ is. inr (inr (refl, is)));
}
