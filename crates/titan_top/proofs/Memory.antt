-- A run in words runs out of memory only before an accepted model is read.
use Rattle.std.proofs.Common.{◌≡◌, ℕ, inl, inr, List, [], ◌++◌, Option, Result, Ok, Err, refl, sym, ap, subst, ◌∙◌}
use Rattle.std.specs.Prelude.{IsErrOf}
use Rattle.std.specs.Io.KnownBytes.{prepend_known}
use Rattle.line_machine.specs.Call.{Call}
use Rattle.line_machine.specs.declared.machine.End.{End}
use Rattle.line_machine.specs.declared.machine.End.TheVariants as ends
use Rattle.line_machine.specs.declared.send.Cut.{Cut}
use Rattle.line_machine.specs.declared.send.Cut.TheVariants as cuts
use Rattle.line_machine.proofs.RanOut.{RanOutBehind, ran_out}
use Rattle.model_form.specs.ModelEnds.{HoldsModel, IsAcceptedEnd}
use Rattle.run_form.specs.RunMachine.{run_machine, run_first}
use Rattle.run_form.specs.declared.notation.Notation.TheVariants.{Words}
use Rattle.run_form.proofs.SteadyRuns.{runs_steady}
use Rattle.titan_top.specs.LastRead.{BeforeLastRead}
use Rattle.titan_top.specs.Statuses.{end_status, cut_status, status_of}
use Rattle.titan_top.specs.Streams.{IsDrivenAs}
use Rattle.titan_top.specs.declared.status.Status.TheVariants.{Memory}
use Rattle.titan_top.specs.declared.words.Form.{Form}
use Rattle.titan_top.specs.declared.words.Form.TheVariants.{Run}

no_memory_ended : (e : End) → end_status e ≡ Memory → ⊥
no_memory_ended ends.Ended h = absurd cc
no_memory_ended ends.Rejected h = absurd cc
no_memory_ended ends.Refused h = absurd cc

cut_memory : (c : Cut) → cut_status c ≡ Memory → c ≡ cuts.Memory
cut_memory cuts.ReadFault h = absurd cc
cut_memory cuts.WriteFault h = absurd cc
cut_memory cuts.Memory h = refl

is_memory : (r : Result End Cut) → status_of r ≡ Memory → IsErrOf r cuts.Memory
is_memory (Ok e) h = absurd (no_memory_ended e h)
is_memory (Err c) h = ap (λ (x : Cut). Err x) (cut_memory c h)

-- no bytes hold no model
none_held : (bytes : List ℕ) → bytes ≡ [] → HoldsModel bytes → ⊥
none_held bytes none holds = (let (end, reads, accepted) = subst HoldsModel none holds in absurd (subst IsAcceptedEnd reads accepted))

module _ (left left' out out' : Option (List ℕ)) (calls calls' : Option (List Call)) (r : Result End Cut) where
  run_memory : IsDrivenAs (Run Words) left left' out out' calls calls' r → status_of r ≡ Memory → BeforeLastRead HoldsModel left left'
  run_memory d h =
      let x : RanOutBehind run_machine (run_first Words) d.order.driven.taken = ran_out run_machine (run_first Words) d.order (is_memory r h) in
      record {
        before = x.before;
        last = x.last;
        moved = d.order.driven.moved ∙ ap (λ (b : List ℕ). prepend_known b left') (sym x.parts);
        few = x.few;
        none = λ holds. elim x.here [ inl none ↦ none_held x.before none holds | inr leads ↦ leads.unsteady (runs_steady x.before leads.state leads.text holds leads.sure) ];
      }

  pub words_memory : (form : Form) → form ≡ Run Words → IsDrivenAs form left left' out out' calls calls' r → status_of r ≡ Memory → BeforeLastRead HoldsModel left left'
  words_memory form is d = run_memory (subst (λ (f : Form). IsDrivenAs f left left' out out' calls calls' r) is d)
