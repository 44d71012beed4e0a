-- Where memory ran out, by the bytes that were taken.
use Rattle.std.proofs.Common.{◌≡◌, ℕ, ◌≤◌, ◌⊎◌, inl, inr, List, [], ◌∷◌, ◌++◌, length, Option, Some, None, Result, refl, sym, ap, subst, ◌∙◌, append_assoc, append-nil, arith}
use Rattle.std.specs.Prelude.{IsErrOf}
use Rattle.line_machine.specs.Call.{Call, bytes_of, AreReads}
use Rattle.line_machine.specs.Calls.{InTurn, DrivenInTurn}
use Rattle.line_machine.specs.Driven.{WroteSure}
use Rattle.line_machine.specs.Next.{GoesOn}
use Rattle.line_machine.specs.Runs.{IsSure}
use Rattle.line_machine.specs.declared.buffer.TheConstants.{TAKE}
use Rattle.line_machine.specs.declared.driver.TheConstants.{OUT_ROOM}
use Rattle.line_machine.specs.declared.machine.End.{End}
use Rattle.line_machine.specs.declared.machine.Machine.{Ghosts}
use Rattle.line_machine.specs.declared.send.Cut.{Cut}
use Rattle.line_machine.specs.declared.send.Cut.TheVariants.{Memory}
use Rattle.line_machine.proofs.Calls.{bytes_of-append}

-- bytes lead to a state from which a line may take memory
pub record LeadsUnsteady {S : Type 0} (m : Ghosts S) (first : S) (bytes : List ℕ) : Type 0 where
  pub state : S
  pub text : List ℕ
  pub sure : IsSure m first bytes (GoesOn state) text
  pub unsteady : m.steady state OUT_ROOM → ⊥

-- some bytes came first, and the others of one read; nothing was taken, or the first ones lead to a state from which a line may take memory
pub record RanOutBehind {S : Type 0} (m : Ghosts S) (first : S) (taken : List ℕ) : Type 0 where
  pub before : List ℕ
  pub last : List ℕ
  pub parts : before ++ last ≡ taken
  pub few : length last ≤ TAKE
  pub here : (before ≡ []) ⊎ LeadsUnsteady m first before

-- some calls, and the last one
record Snoc (calls : List Call) : Type 0 where
  front : List Call
  last : Call
  is : calls ≡ front ++ last ∷ []

snoc : (c : Call) (calls : List Call) → Snoc (c ∷ calls)
snoc c [] = record { front = []; last = c; is = refl }
snoc c (d ∷ calls) =
    let s = snoc d calls in
    record { front = c ∷ s.front; last = s.last; is = ap (λ (l : List Call). c ∷ l) s.is }

last_read : (front : List Call) (last : Call) → AreReads (front ++ last ∷ []) → length last.came ≤ TAKE
last_read [] last h = h.0
last_read (c ∷ front) last h = last_read front last h.1

module _ {S : Type 0} (m : Ghosts S) (first : S) where
  turn_at : (out : Option (List ℕ)) (front : List Call) (last : Call) (taken : List ℕ) → InTurn m first out taken (front ++ last ∷ []) → WroteSure m first (taken ++ bytes_of front) out last.written
  turn_at out [] last taken t = subst (λ (b : List ℕ). WroteSure m first b out last.written) (sym (append-nil taken)) t.0
  turn_at out (c ∷ front) last taken (wrote, ends, turns) =
      subst (λ (b : List ℕ). WroteSure m first b out last.written) (append_assoc taken c.came (bytes_of front)) (turn_at out front last (taken ++ c.came) turns)

  module _ {left left' out out' : Option (List ℕ)} {calls calls' : Option (List Call)} {r : Result End Cut} (d : DrivenInTurn m first left left' out out' calls calls' r) (e : IsErrOf r Memory) where
    by_calls : (asked : List Call) → d.order.asked ≡ asked → RanOutBehind m first (bytes_of asked)
    by_calls [] is = record { before = []; last = []; parts = refl; few = omega arith; here = inl refl }
    by_calls (c ∷ calls) is =
        let s = snoc c calls in
        let same : d.order.asked ≡ s.front ++ s.last ∷ [] = is ∙ s.is in
        let wrote : WroteSure m first (bytes_of s.front) out s.last.written = turn_at out s.front s.last [] (subst (InTurn m first out []) same d.order.turns) in
        record {
          before = bytes_of s.front;
          last = s.last.came;
          parts = sym (ap bytes_of s.is ∙ bytes_of-append s.front (s.last ∷ []) ∙ ap (λ (l : List ℕ). bytes_of s.front ++ l) (append-nil s.last.came));
          few = last_read s.front s.last (subst AreReads same d.order.reads);
          here = inr record { state = wrote.state; text = wrote.text; sure = wrote.sure; unsteady = d.memory e s.front s.last same wrote.state wrote.text wrote.sure };
        }

    pub ran_out : RanOutBehind m first d.driven.taken
    ran_out = subst (RanOutBehind m first) (sym d.came) (by_calls d.order.asked refl)
