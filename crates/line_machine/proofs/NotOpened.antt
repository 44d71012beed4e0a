-- Memory ran out before the machine was there: then nothing was taken and nothing written.
use Rattle.std.proofs.Common.{ℕ, List, [], Option, Some, None, Err, refl, sym}
use Rattle.std.specs.Prelude.{IfSome}
use Rattle.std.proofs.KnownBytes.{prepend_known-nil}
use Rattle.line_machine.specs.Call.{Call}
use Rattle.line_machine.specs.Calls.{DrivenInTurn}
use Rattle.line_machine.specs.Driven.{Driven, BySure}
use Rattle.line_machine.specs.Faults.{AnswersFaults}
use Rattle.line_machine.specs.KnownInput.{WroteFront, OutputFor}
use Rattle.line_machine.specs.Next.{GoesOn}
use Rattle.line_machine.specs.Runs.{IsSure}
use Rattle.line_machine.specs.declared.machine.Machine.{Ghosts}
use Rattle.line_machine.specs.declared.send.Cut.TheVariants as cuts
use Rattle.line_machine.proofs.Calls.{notes_none}
use Rattle.line_machine.proofs.SentPieces.{append_known-nil}
use Rattle.line_machine.proofs.SteadyCalls.{no_last}
use Rattle.line_machine.specs.IsDriven.{EndsFor, IsDriven}

nothing_written : (text : List ℕ) (out : Option (List ℕ)) → WroteFront text out out
nothing_written text out = record { front = []; begins = (text, refl); written = sym (append_known-nil out) }

module _ {S : Type 0} (m : Ghosts S) (first : S) (left out : Option (List ℕ)) (calls : Option (List Call)) where
  unfoldable nothing_driven : Driven m first left left out out (Err cuts.Memory)
  nothing_driven =
      let sure : IsSure m first [] (GoesOn first) [] = record { here = GoesOn first; lines = []; runs = (refl, refl); last = []; tail = (refl, refl); parts = refl } in
      record { taken = []; moved = sym (prepend_known-nil left); says = record { text = []; rest = []; is = BySure [] [] (GoesOn first) refl sure; written = sym (append_known-nil out) } }

  pub no_order : DrivenInTurn m first left left out out calls calls (Err cuts.Memory)
  unfolding nothing_driven
  no_order = record { driven = nothing_driven; order = record { asked = []; noted = notes_none calls; moved = sym (prepend_known-nil left); turns = tt; reads = tt }; came = refl; memory = λ _ before last e x text sure h. no_last before last e }

module _ {S : Type 0} (m : Ghosts S) where
  no_text : (first : S) (left out : Option (List ℕ)) → IfSome left (λ input. OutputFor m first input out out (Err cuts.Memory))
  no_text first None out = tt
  no_text first (Some input) out = λ e text is. nothing_written text out

  no_end : (first : S) (left : Option (List ℕ)) → IfSome left (λ input. EndsFor m first input (Err cuts.Memory))
  no_end first None = tt
  no_end first (Some input) = λ e text is. tt

  pub not_opened : (first : S) (left out : Option (List ℕ)) (calls : Option (List Call)) → IsDriven m first left left out out calls calls (Err cuts.Memory)
  not_opened first left out calls = record {
    streamed = record { driven = nothing_driven m first left out calls; sure = λ more t text is. nothing_written text out };
    order = no_order m first left out calls;
    text = no_text first left out;
    ends = no_end first left;
  }

-- and no fault rose
pub no_fault : (reads writes : ℕ) → AnswersFaults reads reads writes writes (Err cuts.Memory)
no_fault reads writes = record { read = λ e. absurd cc; write = λ e. absurd cc; quiet_read = λ _. refl; quiet_write = λ _. refl; complete = λ _ _. refl }
