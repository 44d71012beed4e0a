-- The lines of a model's printed text give the model.
use Rattle.std.proofs.Common.{ℕ, true, List, sym, subst}
use Rattle.model_form.specs.FormStates.{nothing_read}
use Rattle.model_form.proofs.PrintedLines.{printed_again}
use Rattle.model_syntax.specs.RoundTrip.{ReadsTo}
use Rattle.model_syntax.proofs.PrintedModel.{model_read}
use Rattle.titan_top.specs.Laws.{PrintedTextsReadBack}

pub printed_texts_read_back : PrintedTextsReadBack
printed_texts_read_back m w complete = subst (λ (ls : List (List ℕ)). ReadsTo nothing_read ls (record { model = m; begun = true })) (sym (printed_again m w)) (model_read m w complete)
