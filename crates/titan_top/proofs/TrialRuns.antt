-- A trial is a run of its document: room, text and end are those of the run.
use Rattle.std.proofs.Common.{◌≡◌, ℕ, List, Option, Some, None, Result, Err, refl, sym, subst}
use Rattle.std.specs.Prelude.{IfSome}
use Rattle.line_machine.specs.Call.{Call}
use Rattle.line_machine.specs.Driven.{HasRoomFor}
use Rattle.line_machine.specs.IsDriven.{EndsFor}
use Rattle.line_machine.specs.KnownInput.{OutputFor, Streamed}
use Rattle.line_machine.specs.declared.machine.End.{End}
use Rattle.line_machine.specs.declared.send.Cut.{Cut}
use Rattle.line_machine.specs.declared.send.Cut.TheVariants.{Memory}
use Rattle.line_machine.proofs.NotOpened.{not_opened}
use Rattle.trial_maker.specs.Documents.{document}
use Rattle.model_form.specs.FormStates.{FormState}
use Rattle.run_form.specs.RunMachine.{run_machine, run_first}
use Rattle.run_form.specs.ScriptMachine.{ScriptState}
use Rattle.run_form.specs.declared.notation.Notation.TheVariants.{Summary}
use Rattle.run_form.specs.declared.run.RunAs.{RunAs}
use Rattle.titan_top.specs.Streams.{HasRoomForWords, IsDrivenAs}
use Rattle.titan_top.specs.declared.words.Form.TheVariants.{Trial}

-- memory ran out before the machine was there
pub no_trial : (seed : ℕ) (out : Option (List ℕ)) (calls : Option (List Call)) → IsDrivenAs (Trial seed) None None out out calls calls (Err Memory)
no_trial seed out calls =
    let d = not_opened run_machine (run_first (Summary seed)) (Some (document seed)) out None in
    record { streamed = record { rest = Some (document seed); driven = d.streamed; stays = refl }; text = d.text; ends = d.ends; unasked = refl }

-- of whatever source nothing is taken
pub trial_leaves : (seed : ℕ) (left out out' : Option (List ℕ)) (calls : Option (List Call)) (r : Result End Cut) → IsDrivenAs (Trial seed) None None out out' None None r → IsDrivenAs (Trial seed) left left out out' calls calls r
trial_leaves seed left out out' calls r d = record { streamed = record { rest = d.streamed.rest; driven = d.streamed.driven; stays = refl }; text = d.text; ends = d.ends; unasked = refl }

module _ (seed : ℕ) (first : FormState RunAs ScriptState) (left : Option (List ℕ)) (begins : first ≡ run_first (Summary seed)) (is : left ≡ Some (document seed)) where
  pub trial_room : (space : Option ℕ) → HasRoomForWords (Some (Trial seed)) None space → HasRoomFor run_machine first left space
  trial_room None h = λ taken text after moved may. tt
  trial_room (Some n) h =
      subst (λ (s : FormState RunAs ScriptState). HasRoomFor run_machine s left (Some n)) (sym begins) (subst (λ (l : Option (List ℕ)). HasRoomFor run_machine (run_first (Summary seed)) l (Some n)) (sym is) h)

  -- what was driven from the machine's first state is the trial
  pub trial_driven : (rest out out' : Option (List ℕ)) (calls : Option (List Call)) (r : Result End Cut) → Streamed run_machine first left rest out out' r → IfSome left (λ input. OutputFor run_machine first input out out' r) → IfSome left (λ input. EndsFor run_machine first input r)
      → IsDrivenAs (Trial seed) None None out out' calls calls r
  trial_driven rest out out' calls r streamed text ends =
      record {
        streamed = record {
          rest = rest;
          driven = subst (λ (s : FormState RunAs ScriptState). Streamed run_machine s (Some (document seed)) rest out out' r) begins (subst (λ (l : Option (List ℕ)). Streamed run_machine first l rest out out' r) is streamed);
          stays = refl;
        };
        text = subst (λ (s : FormState RunAs ScriptState). OutputFor run_machine s (document seed) out out' r) begins (subst (λ (l : Option (List ℕ)). IfSome l (λ input. OutputFor run_machine first input out out' r)) is text);
        ends = subst (λ (s : FormState RunAs ScriptState). EndsFor run_machine s (document seed) r) begins (subst (λ (l : Option (List ℕ)). IfSome l (λ input. EndsFor run_machine first input r)) is ends);
        unasked = refl;
      }
