-- How a report and a refusal are printed in each notation.
use Rattle.std.proofs.Common.{◌≡◌, ◌+◌, ◌<◌, ℕ, [], ◌∷◌, refl, arith}
use Rattle.std.specs.Fmt.{decimal}
use Rattle.std.proofs.lemmas.Fmt.{decimal_digit}
use Rattle.json.specs.Print.{escape_byte}
use Rattle.trace_text.specs.Json.{report_object, refusal_object, bare_detail, json_line}
use Rattle.trace_text.specs.Refusals.{refusal_line}
use Rattle.trace_text.specs.Reports.{report_line}
use Rattle.form_examples.specs.RunExamples.{ReportsAreNoted}

pub reports_are_noted : ReportsAreNoted
unfolding report_line refusal_line report_object refusal_object bare_detail json_line escape_byte
reports_are_noted =
    let one : decimal 1 ≡ 49 ∷ [] = decimal_digit 1 (omega arith) in
    let three : decimal 3 ≡ 51 ∷ [] = decimal_digit 3 (omega arith) in
    let four : decimal 4 ≡ 52 ∷ [] = decimal_digit 4 (omega arith) in
    let seven : decimal 7 ≡ 55 ∷ [] = decimal_digit 7 (omega arith) in
    record {
      words = λ b x. rw (three) refl;
      holds = λ b x. rw (four) refl;
      json = λ b x. rw (three) refl;
      json_holds = λ b x. rw (four) refl;
      summary = λ seed b x. refl;
      refused_words = λ m. rw (seven, one) refl;
      refused_proof = λ m. rw (seven, one) refl;
      refused_json = λ m. rw (seven, one) refl;
    }
