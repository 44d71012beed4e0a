-- The calls of C are calls of a session.
use Rattle.std.proofs.Common.{◌≡◌, ℕ, List, ◌∷◌, take, Option, Some, inl, inr, refl, sym, subst, ◌∙◌}
use Rattle.std.proofs.lemmas.Option.{same_Some}
use Rattle.run_form.specs.declared.notation.Notation.{Notation}
use Rattle.titan_session.specs.RunSessions.{RunSession, AreCalls}
use Rattle.titan_session.specs.Sessions.{Call, Line, Finish, Take}
use Rattle.titan_c.specs.CallLaws.{CallsLeadOn, HoldsAfter, IsLineByLine}
use Rattle.titan_c.specs.Calls.{Prints, HandedOver}

-- what is held is led to
pub led : (notation : Notation) (calls : List Call) (held : Option RunSession) (x : RunSession) → held ≡ Some x → HoldsAfter notation calls held → AreCalls notation calls x
led notation calls held x is h = subst (AreCalls notation calls) (same_Some h.0 x (sym h.1 ∙ is)) h.2

-- no session of C prints anything at the end of its lines
line_by_line : (words : ℕ) (notation : Notation) → Prints words notation → IsLineByLine notation
line_by_line words notation (inl (number, is)) = subst IsLineByLine (sym is) (λ counts. refl)
line_by_line words notation (inr (inl (number, is))) = subst IsLineByLine (sym is) (λ counts. refl)
line_by_line words notation (inr (inr (number, is))) = subst IsLineByLine (sym is) (λ counts. refl)

handed : (notation : Notation) (calls : List Call) (old new : Option RunSession) (out out' : List ℕ) (n status : ℕ) → HandedOver old new out out' n status → HoldsAfter notation calls old → HoldsAfter notation (Take (take n out') ∷ calls) new
handed notation calls old new out out' n status w h = (w.after, w.now, (w.before, led notation calls old w.before w.was h, w.hands.gives))

pub calls_lead_on : CallsLeadOn
calls_lead_on = record {
  opened = λ words held h. (h.0, h.1, line_by_line words h.0 h.1, (_, h.2, refl));
  line = λ notation calls old new line out out' n status w h. handed notation (Line line ∷ calls) (Some w.between) new out out' n status w.hands (w.between, refl, (w.before, led notation calls old w.before w.was h, w.takes));
  end = λ notation calls old new out out' n status w h. handed notation (Finish ∷ calls) (Some w.between) new out out' n status w.hands (w.between, refl, (w.before, led notation calls old w.before w.was h, w.takes));
  take = λ notation calls old new out out' n status w h. handed notation calls old new out out' n status w h;
}
