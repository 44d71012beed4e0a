-- What the machine of `show` prints for an input is its model's text, or the line of a refusal.
use Rattle.std.proofs.Common.{◌≡◌, ℕ, List, [], ◌++◌, refl, sym, subst, ◌∙◌, append-nil}
use Rattle.cca_base.specs.Accepted.{CompiledModel, IsCompiled}
use Rattle.line_machine.specs.Next.{Next, Stops}
use Rattle.line_machine.specs.declared.machine.End.{End}
use Rattle.line_machine.specs.declared.machine.End.TheVariants.{Ended}
use Rattle.trace_text.specs.Compiled.{show_text}
use Rattle.line_machine.specs.Completes.{Completes}
use Rattle.model_form.specs.Answers.{PrintsBehind}
use Rattle.model_form.specs.NoLines.{no_lines}
use Rattle.model_form.specs.declared.no_lines.NoLines.{NoLines}
use Rattle.model_form.proofs.Following.{are_told}
use Rattle.line_machine.proofs.RunLines.{at_stop, stops}
use Rattle.show_form.specs.Shown.{show_form, SaysShown, ModelsAreShown}
use Rattle.show_form.specs.declared.show.Show.{Show}

-- the text of the compiled model, and nothing behind it
whole : (x rest text own : List ℕ) → text ≡ x ++ rest → x ≡ own → rest ≡ [] → text ≡ own
whole x rest text own parts is none = parts ∙ rw (is, none) (append-nil own)

is_shown : (s : Show) (b : CompiledModel) (n : ℕ) (ls : List (List ℕ)) (e : End) (text : List ℕ) → IsCompiled b → PrintsBehind show_form no_lines s b n ls e text → SaysShown b n ls e text
is_shown s b n ls e text compiled p =
    let q = at_stop {S = NoLines} no_lines Ended n ls e p.rest (subst (λ (v : Next NoLines). Completes no_lines v n ls e p.rest) p.begins.0 p.completes) in
    (q.0, whole p.first p.rest text (show_text b) p.parts p.begins.1 q.1)

shown_is : (s : Show) (b : CompiledModel) (n : ℕ) (ls : List (List ℕ)) (e : End) (text : List ℕ) → IsCompiled b → SaysShown b n ls e text → PrintsBehind show_form no_lines s b n ls e text
shown_is s b n ls e text compiled p = record {
  next = Stops Ended;
  first = show_text b;
  begins = (refl, refl);
  rest = [];
  completes = subst (λ (z : End). Completes {S = NoLines} no_lines (Stops Ended) n ls z []) (sym p.0) (stops {S = NoLines} no_lines Ended n ls);
  parts = p.1 ∙ sym (append-nil (show_text b));
}

pub models_are_shown : ModelsAreShown
models_are_shown = are_told show_form no_lines (record {}) SaysShown (is_shown (record {})) (shown_is (record {}))
