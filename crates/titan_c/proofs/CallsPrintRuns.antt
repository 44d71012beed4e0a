-- What the calls of C wrote is what a run prints of their lines.
use Rattle.std.proofs.Common.{◌≡◌, ◌⊎◌, ◌<◌, ◌∷◌, ◌++◌, ℕ, List, [], length, Option, Some, inl, inr, refl, sym, ap, subst, ◌∙◌, append-nil, arith}
use Rattle.std.proofs.lemmas.Option.{same_Some}
use Rattle.line_machine.specs.Next.{Next, GoesOn, Stops}
use Rattle.line_machine.specs.declared.machine.End.{End}
use Rattle.line_machine.specs.declared.machine.End.TheVariants.{Ended, Rejected, Refused}
use Rattle.model_form.specs.Answers.{answer}
use Rattle.run_form.specs.declared.notation.Notation.{Notation}
use Rattle.titan_session.specs.RunSessions.{RunSession, RunState, AreCalls}
use Rattle.titan_session.specs.SessionLaws.{IsRunOfLines}
use Rattle.titan_session.specs.Sessions.{stage_of, Call, Finish, IsGoing, lines_of, taken_of}
use Rattle.titan_session.specs.declared.session.Stage.{Stage}
use Rattle.titan_session.specs.declared.session.Stage.TheVariants.{Going, Over, Lost}
use Rattle.titan_session.proofs.SessionsAreRuns.{sessions_are_runs}
use Rattle.titan_c.specs.CallLaws.{CallsPrintRuns, HoldsAfter, IsAllDecided, IsPlace}
use Rattle.titan_c.specs.Calls.{HandedOver}
use Rattle.titan_c.proofs.CallsLeadOn.{led}
use Rattle.titan_c.specs.Statuses.{status_of}
use Rattle.titan_c.specs.declared.status.TheConstants.{GOES_ON, ENDED, REFUSED}

-- where a session stands, by its status
going_stage : (s : Stage RunState) → status_of s ≡ GOES_ON → (x : RunState) × (s ≡ Going x)
going_stage (Going x) h = (x, refl)
going_stage (Over Ended) h = let never : 1 ≡ 0 = h in absurd (omega (arith, never))
going_stage (Over Refused) h = let never : 2 ≡ 0 = h in absurd (omega (arith, never))
going_stage (Over Rejected) h = let never : 3 ≡ 0 = h in absurd (omega (arith, never))
going_stage Lost h = let never : 5 ≡ 0 = h in absurd (omega (arith, never))

ended_stage : (s : Stage RunState) → status_of s ≡ ENDED → s ≡ Over Ended
ended_stage (Going x) h = let never : 0 ≡ 1 = h in absurd (omega (arith, never))
ended_stage (Over Ended) h = refl
ended_stage (Over Refused) h = let never : 2 ≡ 1 = h in absurd (omega (arith, never))
ended_stage (Over Rejected) h = let never : 3 ≡ 1 = h in absurd (omega (arith, never))
ended_stage Lost h = let never : 5 ≡ 1 = h in absurd (omega (arith, never))

refused_stage : (s : Stage RunState) → status_of s ≡ REFUSED → s ≡ Over Refused
refused_stage (Going x) h = let never : 0 ≡ 2 = h in absurd (omega (arith, never))
refused_stage (Over Ended) h = let never : 1 ≡ 2 = h in absurd (omega (arith, never))
refused_stage (Over Refused) h = refl
refused_stage (Over Rejected) h = let never : 3 ≡ 2 = h in absurd (omega (arith, never))
refused_stage Lost h = let never : 5 ≡ 2 = h in absurd (omega (arith, never))

few_by : (s : Stage RunState) → (s ≡ Over Rejected → ⊥) → (s ≡ Lost → ⊥) → IsPlace (status_of s)
few_by (Going x) rejected lost = inl refl
few_by (Over Ended) rejected lost = inr (inl refl)
few_by (Over Refused) rejected lost = inr (inr refl)
few_by (Over Rejected) rejected lost = absurd (rejected refl)
few_by Lost rejected lost = absurd (lost refl)

-- where nothing waits, all that was said was taken
all_taken : (notation : Notation) (calls : List Call) (z : RunSession) (e : End) → AreCalls notation calls z → z.stage ≡ Over e → z.pending ≡ [] → IsRunOfLines notation (lines_of calls) (answer e (taken_of calls))
all_taken notation calls z e led is none =
    let said : taken_of calls ++ z.pending ≡ taken_of calls = ap (λ (l : List ℕ). taken_of calls ++ l) none ∙ append-nil (taken_of calls) in
    subst (λ (l : List ℕ). IsRunOfLines notation (lines_of calls) (answer e l)) said (sessions_are_runs.whole notation calls z e led is)

-- and so it is where the session goes on
all_decided : (notation : Notation) (calls : List Call) (z : RunSession) → AreCalls notation calls z → status_of z.stage ≡ GOES_ON → z.pending ≡ [] → IsAllDecided notation (lines_of calls) (taken_of calls)
all_decided notation calls z led status none =
    let (s, is) = going_stage z.stage status in
    let said : taken_of calls ++ z.pending ≡ taken_of calls = ap (λ (l : List ℕ). taken_of calls ++ l) none ∙ append-nil (taken_of calls) in
    subst (IsAllDecided notation (lines_of calls)) said (record {
      decided = (s, sessions_are_runs.prompt notation calls z s led is);
      begins = sessions_are_runs.begins notation calls z s led is;
      so_far = sessions_are_runs.so_far notation calls z s led is;
    })

held : (notation : Notation) (calls : List Call) (z : RunSession) → HoldsAfter notation calls (Some z) → AreCalls notation calls z
held notation calls z h = led notation calls (Some z) z refl h

few : (notation : Notation) (calls : List Call) (z : RunSession) → AreCalls notation calls z → IsPlace (status_of z.stage)
few notation calls z led = few_by z.stage (sessions_are_runs.not_rejected notation calls z led) (sessions_are_runs.not_lost notation calls z led)

-- what hands over stands where it stood
stands : (x : RunSession) (new : Option RunSession) (out out' : List ℕ) (n status : ℕ) → HandedOver (Some x) new out out' n status → status_of x.stage ≡ status
stands x new out out' n status w =
    ap (λ (y : RunSession). status_of y.stage) (same_Some x w.before w.was) ∙ ap (λ (s : Stage RunState). status_of s) (sym w.hands.gives.stays) ∙ sym w.status_is

of_line : (s : Stage RunState) (u : Next RunState) → s ≡ stage_of u → ((e : End) → s ≡ Over e → e ≡ Refused) → (status_of s ≡ GOES_ON) ⊎ (status_of s ≡ REFUSED)
of_line s (GoesOn x) is only = inl (ap (λ (t : Stage RunState). status_of t) is)
of_line s (Stops e) is only = inr (ap (λ (t : Stage RunState). status_of t) (is ∙ ap (λ (f : End). Over f) (only e is)))

of_end : (s : Stage RunState) (e : End) → s ≡ Over e → (s ≡ Over Rejected → ⊥) → (status_of s ≡ ENDED) ⊎ (status_of s ≡ REFUSED)
of_end s Ended is rejected = inl (ap (λ (t : Stage RunState). status_of t) is)
of_end s Refused is rejected = inr (ap (λ (t : Stage RunState). status_of t) is)
of_end s Rejected is rejected = absurd (rejected is)

going : (s : Stage RunState) → status_of s ≡ GOES_ON → IsGoing s
going (Going x) h = tt
going (Over Ended) h = let never : 1 ≡ 0 = h in absurd (omega (arith, never))
going (Over Refused) h = let never : 2 ≡ 0 = h in absurd (omega (arith, never))
going (Over Rejected) h = let never : 3 ≡ 0 = h in absurd (omega (arith, never))
going Lost h = let never : 5 ≡ 0 = h in absurd (omega (arith, never))

-- where less than all of the buffer was used
nothing_left : (P : Type 0) (n room : ℕ) → n < room → (n ≡ room) ⊎ P → P
nothing_left P n room less (inl same_Some) = absurd (omega (arith, less, same_Some))
nothing_left P n room less (inr p) = p

pub calls_print_runs : CallsPrintRuns
calls_print_runs = record {
  ended = λ notation calls z h status none. all_taken notation calls z Ended (held notation calls z h) (ended_stage z.stage status) none;
  refused = λ notation calls z h status none. all_taken notation calls z Refused (held notation calls z h) (refused_stage z.stage status) none;
  going = λ notation calls z h status none. all_decided notation calls z (held notation calls z h) status none;
  few = λ notation calls z h. few notation calls z (held notation calls z h);
  line = λ notation calls old new line out out' n status h w.
      subst (λ (k : ℕ). (k ≡ GOES_ON) ⊎ (k ≡ REFUSED)) (stands w.between new out out' n status w.hands)
      (of_line w.between.stage w.takes.next w.takes.stands (λ e is. sessions_are_runs.by_line notation calls w.before w.between line e (led notation calls old w.before w.was h) w.takes is));
  end = λ notation calls old new out out' n status h w.
      subst (λ (k : ℕ). (k ≡ ENDED) ⊎ (k ≡ REFUSED)) (stands w.between new out out' n status w.hands)
      (of_end w.between.stage w.takes.end w.takes.is_over (sessions_are_runs.not_rejected notation (Finish ∷ calls) w.between (w.before, led notation calls old w.before w.was h, w.takes)));
  take = λ notation calls old new out out' n status h w.
      subst IsPlace (ap (λ (s : Stage RunState). status_of s) (sym w.hands.gives.stays) ∙ sym w.status_is) (few notation calls w.before (led notation calls old w.before w.was h));
  goes_on = λ z status. going z.stage status;
  nothing_waits = λ x y out out' n hands less. nothing_left (y.pending ≡ []) n (length out) less hands.all;
}
