-- What lines answer, from what their items answer.
use Rattle.std.proofs.Common.{◌≡◌, Bool, true, false, ◌==◌, length, List, [], ◌∷◌, map, Option, Some, None, Result, Ok, Err, refl, sym, ap, subst, ◌∙◌}
use Rattle.text_base.proofs.LexemesOfTokens.{lexemes_of}
use Rattle.cca_base.specs.declared.events.Stop.{Stop}
use Rattle.cca_base.specs.declared.events.Stop.TheVariants as stops
use Rattle.cca_base.specs.PlantModel.{PlantModel}
use Rattle.text_base.specs.declared.token.Token.{Token}
use Rattle.text_base.specs.Tokens.{token_view}
use Rattle.text_base.specs.Lexemes.{lexeme_of}
use Rattle.model_syntax.specs.declared.line_end.LineEnd.{LineEnd}
use Rattle.model_syntax.specs.declared.line_end.LineEnd.TheVariants as ends
use Rattle.model_syntax.specs.Items.{Item, item_of}
use Rattle.model_syntax.specs.Lines.{Goes, Refused, Ended, ModelSoFar, LineOutcome, Reads, Refuses, Finishes, IsNextOfItem, FailsModel, AnswersItem, FailsLine, AnswersLine, LeadsByForm, LeadsByTokens}

-- the reading behind the line of the version
abbrev begun : PlantModel → ModelSoFar
begun m = record { model = m; begun = true }

fails_item : (e : Stop) (item : Item) (old new : PlantModel) → FailsModel e old new (IsNextOfItem old item) → FailsLine e (begun old) (begun new) (LeadsByForm true old (Some item))
fails_item stops.Memory item old new h = ap begun h
fails_item (stops.Refused refusal) item old new h = ((Refused refusal.code, h.0, refl), h.1, ap begun h.2)

-- behind the line of the version
pub item_answers : (r : Result LineEnd Stop) (item : Item) (old new : PlantModel) → AnswersItem r old new (IsNextOfItem old item) → AnswersLine r (begun old) (begun new) (LeadsByForm true old (Some item))
item_answers (Ok ends.Going) item old new h = (Goes new, h, refl)
item_answers (Ok ends.Script) item old new h = ((Ended, h.0, refl), ap begun h.1)
item_answers (Err e) item old new h = fails_item e item old new h

-- what tokens that are some lead to is what their form leads to
some_tokens : (s : ModelSoFar) (t : Token) (ts : List Token) (form : Option Item) → form ≡ item_of (map lexeme_of (t ∷ ts)) → (o : LineOutcome) → LeadsByForm s.begun s.model form o → LeadsByTokens s (Ok (map token_view (t ∷ ts))) o
some_tokens s t ts form e o h =
    subst (λ f. LeadsByForm s.begun s.model f o) (e ∙ ap item_of (sym (lexemes_of (t ∷ ts)))) h

pub form_leads : (s : ModelSoFar) (ts : List Token) (form : Option Item) → (length ts == 0) ≡ false → form ≡ item_of (map lexeme_of ts) → (o : LineOutcome) → LeadsByForm s.begun s.model form o → LeadsByTokens s (Ok (map token_view ts)) o
form_leads s [] form some e o h = absurd cc
form_leads s (t ∷ ts) form some e o h = some_tokens s t ts form e o h

line_fails : (e : Stop) (old new : ModelSoFar) (P Q : LineOutcome → Type 0) → ((o : LineOutcome) → P o → Q o) → FailsLine e old new P → FailsLine e old new Q
line_fails stops.Memory old new P Q f h = h
line_fails (stops.Refused refusal) old new P Q f h = (f (Refuses refusal.code) h.0, h.1, h.2)

-- what a line answered is also this
pub line_weaker : (r : Result LineEnd Stop) (old new : ModelSoFar) (P Q : LineOutcome → Type 0) → ((o : LineOutcome) → P o → Q o) → AnswersLine r old new P → AnswersLine r old new Q
line_weaker (Ok ends.Going) old new P Q f h = f (Reads new) h
line_weaker (Ok ends.Script) old new P Q f h = (f Finishes h.0, h.1)
line_weaker (Err e) old new P Q f h = line_fails e old new P Q f h

-- a line of no form is malformed
pub no_form : (s : ModelSoFar) (o : LineOutcome) → o ≡ Refuses 1 → LeadsByForm s.begun s.model None o
no_form s o e = by (s.begun)
  where
    by : (b : Bool) → LeadsByForm b s.model None o
    by true = (Refused 1, refl, e)
    by false = e
