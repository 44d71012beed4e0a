use Rattle.std.proofs.Common.{Some, None, Ok, map, sym, ap, ◌∙◌, refl}
use Rattle.text_base.proofs.LexemesOfTokens.{lexemes_of}
use Rattle.text_base.specs.Tokens.{token_view}
use Rattle.model_syntax.specs.Items.{item_of, shown_item}
use Rattle.model_syntax.specs.Lines.{ModelSoFar, Refuses, LeadsByForm, LeadsByTokens}
use Rattle.model_syntax.proofs.ItemWords.{item_has_bare_names}
use Rattle.model_syntax.proofs.LineAnswers.{form_leads, line_weaker, no_form}
use Rattle.model_syntax.proofs.token_lines.tokens_line.Goals as goal

pub form_line-requires : goal.form_line-requires
form_line-requires c =
    let ts = c.args.tokens.now in
    let e = rw c.in-Some.is at c.in_ok-item_of.ensures in
    item_has_bare_names (map token_view ts) (shown_item c.in-Some.item) c.requires (ap item_of (lexemes_of ts) ∙ sym e)

pub returns-in-None : goal.returns-in-None
returns-in-None c =
    let s : ModelSoFar = record { model = c.args.model.now; begun = c.args.begun.now } in
    let e = rw c.in-None.is at c.in_ok-item_of.ensures in
    let some = sym c.is_empty.ensures ∙ c.if-is_empty.false in
    rw c.refused.ensures (form_leads s c.args.tokens.now None some e (Refuses 1) (no_form s (Refuses 1) refl), refl, refl)

pub returns-in-Some : goal.returns-in-Some
returns-in-Some c =
    let s : ModelSoFar = record { model = c.args.model.now; begun = c.args.begun.now } in
    let t : ModelSoFar = record { model = c.form_line.new.model; begun = c.form_line.new.begun } in
    let e = rw c.in-Some.is at c.in_ok-item_of.ensures in
    let some = sym c.is_empty.ensures ∙ c.if-is_empty.false in
    line_weaker c.form_line.result s t (LeadsByForm s.begun s.model (Some (shown_item c.in-Some.item))) (LeadsByTokens s (Ok (map token_view c.args.tokens.now)))
    (form_leads s c.args.tokens.now (Some (shown_item c.in-Some.item)) some e) c.form_line.ensures
