-- An input's answer by what is said behind its model follows from another one.
use Rattle.std.proofs.Common.{ℕ, Bool, false, List, [], ◌++◌, refl, sym, ap, subst, ◌∙◌}
use Rattle.cca_base.specs.Accepted.{CompiledModel, IsCompiled}
use Rattle.cca_base.specs.PlantModel.{PlantModel}
use Rattle.line_machine.specs.Completes.{Completes}
use Rattle.line_machine.specs.Next.{Next, GoesOn}
use Rattle.line_machine.specs.declared.machine.End.{End}
use Rattle.line_machine.specs.declared.machine.Machine.{Ghosts}
use Rattle.model_form.specs.Acceptance.{Acceptance, AcceptedAs, RefusedFor, IsAcceptanceOf}
use Rattle.model_form.specs.Answers.{Saying, AnswersByAcceptance, AnswersByEnd, IsAnswer, PrintsBehind, TextsAreAnswers, AreTold}
use Rattle.model_form.specs.FormMachine.{form_machine}
use Rattle.model_form.specs.FormStates.{form_first}
use Rattle.model_form.specs.LineMachines.{form_of_lines}
use Rattle.model_form.specs.ModelTexts.{ModelText, WholeModel, RefusedModel}
use Rattle.model_form.specs.declared.form.ModelForm.{Ghosts as FormGhosts}
use Rattle.model_form.proofs.TextsAreAnswers.{texts_are_answers}

module _ (json : Bool) (P Q : Saying) (follows : (b : CompiledModel) (n : ℕ) (ls : List (List ℕ)) (e : End) (text : List ℕ) → IsCompiled b → P b n ls e text → Q b n ls e text) where
  by_acceptance : (v : Acceptance) (m : PlantModel) (n : ℕ) (ls : List (List ℕ)) (e : End) (text : List ℕ) → IsAcceptanceOf m v → AnswersByAcceptance json P v m n ls e text → AnswersByAcceptance json Q v m n ls e text
  by_acceptance (AcceptedAs b) m n ls e text is h = follows b n ls e text is.0 h
  by_acceptance (RefusedFor r) m n ls e text is h = h

  end_follows : (end : ModelText) (e : End) (text : List ℕ) → AnswersByEnd json P end e text → AnswersByEnd json Q end e text
  end_follows (WholeModel m n ls) e text (v, is, h) = (v, is, by_acceptance v m n ls e text is h)
  end_follows (RefusedModel m line r) e text h = h

  pub answer_follows : (input : List ℕ) (e : End) (text : List ℕ) → IsAnswer json P input e text → IsAnswer json Q input e text
  answer_follows input e text (end, reads, h) = (end, reads, end_follows end e text h)

-- what is printed behind an accepted model is what is said there, both ways: so the texts of the whole machine are told
pub are_told : {F B : Type 0} (form : FormGhosts F B) (m : Ghosts B) (f : F) (Says : Saying)
    → ((b : CompiledModel) (n : ℕ) (ls : List (List ℕ)) (e : End) (text : List ℕ) → IsCompiled b → PrintsBehind form m f b n ls e text → Says b n ls e text)
    → ((b : CompiledModel) (n : ℕ) (ls : List (List ℕ)) (e : End) (text : List ℕ) → IsCompiled b → Says b n ls e text → PrintsBehind form m f b n ls e text)
    → AreTold (form_machine form m) (form_first f) (form.is_json f) Says
are_told form m f Says told tells =
    let t : TextsAreAnswers form m = texts_are_answers form m in
    record {
      says = λ input e text is. answer_follows (form.is_json f) (PrintsBehind form m f) Says told input e text (t.says f input e text is);
      comes = λ input e text is. t.comes f input e text (answer_follows (form.is_json f) Says (PrintsBehind form m f) tells input e text is);
    }

-- the same of a form of lines: what its machine prints from where it first stands is what is said
module _ {S : Type 0} (first : CompiledModel → S) (m : Ghosts S) (Says : Saying) where
  behind : (b : CompiledModel) (n : ℕ) (ls : List (List ℕ)) (e : End) (text : List ℕ) → PrintsBehind (form_of_lines first) m (record {}) b n ls e text → Completes m (GoesOn (first b)) n ls e text
  behind b n ls e text p = subst (λ (z : List ℕ). Completes m (GoesOn (first b)) n ls e z) (sym (p.parts ∙ ap (λ (z : List ℕ). z ++ p.rest) p.begins.1)) (subst (λ (v : Next S). Completes m v n ls e p.rest) p.begins.0 p.completes)

  pub lines_told : ((b : CompiledModel) (n : ℕ) (ls : List (List ℕ)) (e : End) (text : List ℕ) → IsCompiled b → Completes m (GoesOn (first b)) n ls e text → Says b n ls e text)
      → ((b : CompiledModel) (n : ℕ) (ls : List (List ℕ)) (e : End) (text : List ℕ) → IsCompiled b → Says b n ls e text → Completes m (GoesOn (first b)) n ls e text)
      → AreTold (form_machine (form_of_lines first) m) (form_first (record {})) false Says
  lines_told told tells =
      are_told (form_of_lines first) m (record {}) Says (λ b n ls e text compiled p. told b n ls e text compiled (behind b n ls e text p))
      (λ b n ls e text compiled h. record { next = GoesOn (first b); first = []; begins = (refl, refl); rest = text; completes = tells b n ls e text compiled h; parts = refl })
