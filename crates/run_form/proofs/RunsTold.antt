-- What the machine of `run` prints for an input is what is printed of its document, both ways.
use Rattle.std.proofs.Common.{◌≡◌, ℕ, List, [], ◌++◌, refl, sym, ap, subst, ◌∙◌}
use Rattle.cca_base.specs.Accepted.{CompiledModel, IsCompiled}
use Rattle.cca_base.specs.Trace.{start}
use Rattle.line_forms.proofs.Telling as telling
use Rattle.line_machine.specs.Completes.{Completes}
use Rattle.line_machine.specs.Next.{Next, GoesOn}
use Rattle.line_machine.specs.declared.machine.End.{End}
use Rattle.model_form.specs.Answers.{Answer, PrintsBehind}
use Rattle.model_form.specs.LinesEnds.{Asked}
use Rattle.model_form.proofs.Following.{are_told}
use Rattle.model_form.proofs.SameAnswer.{same_answer}
use Rattle.cca_base.specs.declared.events.Event.{Event}
use Rattle.run_form.specs.Document.{Document}
use Rattle.run_form.specs.Notations.{is_json}
use Rattle.run_form.specs.Printed.{SaysRun}
use Rattle.run_form.specs.RunLaws.{RunsAreTold}
use Rattle.run_form.specs.RunMachine.{run_form}
use Rattle.run_form.specs.ScriptMachine.{ScriptState, script_first, script_lines, script_machine}
use Rattle.run_form.specs.ScriptReading.{as_it_is, document_of, its_event, nothing_known}
use Rattle.run_form.specs.Summaries.{counts_of, added}
use Rattle.run_form.specs.declared.counts.Counts.{Counts}
use Rattle.run_form.specs.declared.notation.Notation.{Notation}
use Rattle.run_form.specs.declared.run.RunAs.{RunAs}
use Rattle.run_form.proofs.CountedTicks.{counted_all}
use Rattle.run_form.proofs.MadeTexts.{MakesText, made_is_told, told_is_made}
use Rattle.run_form.proofs.PrintedDocuments.{printed_with, printed_counts}
use Rattle.run_form.proofs.ReadScripts.{is_itself, reads_say, says_read}
use Rattle.run_form.proofs.ScriptTelling.{Place, Ties, at, Said, Goes, Comes, Shows, closing_at, tells, shown_made, made_shown, ends_so}

module _ (notation : Notation) where
  abbrev form : RunAs
  form = record { notation = notation }

  module _ (b : CompiledModel) (n : ℕ) (ls : List (List ℕ)) (e : End) (text : List ℕ) (compiled : IsCompiled b) where
    -- before the first line
    abbrev first : Place
    first = record { state = start b.model 0; counts = counts_of [] }

    -- the document of what the lines ask for
    abbrev document : Asked Event → Document
    document = document_of as_it_is its_event b.model

    -- what the machine prints behind an accepted model is what a run says
    told : PrintsBehind run_form script_machine form b n ls e text → SaysRun notation b n ls e text
    told p =
        let run = subst (λ (v : Next ScriptState). Completes script_machine v n ls e p.rest) p.begins.0 p.completes in
        let q = telling.told script_lines (is_json notation) b.model (at notation b compiled) (Said notation b compiled) (Goes notation b compiled) (Comes notation b compiled) (Shows notation b compiled) Ties (closing_at notation b compiled)
        (tells notation b compiled) ls first nothing_known refl n e p.rest run in
        let made = shown_made notation b compiled q.asked.items first q.last q.told q.shown in
        let t = made_is_told notation b (document q.asked).events q.last.state made.reports q.told made.made in
        let words : text ≡ p.rest = p.parts ∙ ap (λ (z : List ℕ). z ++ p.rest) p.begins.1 in
        let end = ends_so notation b compiled q.last q.asked.ending in (
          document q.asked,
          made.reports,
          q.told,
          reads_say as_it_is its_event is_itself b.model ls nothing_known n q.asked q.reads,
          t.trace,
          t.told,
          same_answer (q.end ∙ ap (λ (a : Answer). a.end) end) (words ∙ q.parts ∙ ap (λ (a : Answer). q.told ++ a.text) end)
              ∙ ap (λ (c : Counts). printed_with notation (document q.asked) c q.told) (made.counted ∙ counted_all made.reports) ∙ sym (printed_counts notation (document q.asked) made.reports q.told),
        )

    -- and the other way round
    prints : SaysRun notation b n ls e text → PrintsBehind run_form script_machine form b n ls e text
    prints (r, reports, words, says, trace, of_ticks, is) =
        let (last, made) = told_is_made notation b r.events reports words trace of_ticks in
        let (a, reads, same) = says_read as_it_is its_event is_itself b.model ls nothing_known n r says in
        let shown = made_shown notation b compiled a.items first last reports words (subst (λ (d : Document). MakesText notation b (start b.model 0) d.events last reports words) same made) in
        let there : Place = record { state = last; counts = added (counts_of []) (counts_of reports) } in
        let end = ends_so notation b compiled there a.ending in
        let all = is ∙ printed_counts notation r reports words ∙ (λ i. printed_with notation (same i) (sym (counted_all reports) i) words) in
        record {
          next = GoesOn (script_first notation b);
          first = [];
          begins = (refl, refl);
          rest = text;
          completes = telling.tells script_lines (is_json notation) b.model (at notation b compiled) (Said notation b compiled) (Goes notation b compiled) (Comes notation b compiled) (Shows notation b compiled) Ties (closing_at notation b compiled)
              (tells notation b compiled) ls first nothing_known refl n e text (record {
                asked = a;
                told = words;
                last = there;
                reads = reads;
                shown = shown;
                end = ap (λ (z : Answer). z.end) all ∙ sym (ap (λ (z : Answer). z.end) end);
                parts = ap (λ (z : Answer). z.text) all ∙ sym (ap (λ (z : Answer). words ++ z.text) end);
              });
          parts = refl;
        }

pub runs_are_told : RunsAreTold
runs_are_told notation = are_told run_form script_machine (form notation) (SaysRun notation) (told notation) (prints notation)
