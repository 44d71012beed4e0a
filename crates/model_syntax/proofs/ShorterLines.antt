-- A line that is read adds no line that is longer than itself.
use Rattle.std.proofs.Common.{◌≡◌, ◌∙◌, ℕ, inl, inr, Bool, true, false, List, [], ◌∷◌, map, Option, Some, Result, Ok, Err, refl, sym, ap, subst}
use Rattle.std.proofs.lemmas.Bool.{false≢true}
use Rattle.cca_base.specs.PlantModel.{PlantModel}
use Rattle.cca_base.specs.Model.{WellFormed, in_second}
use Rattle.text_base.specs.Lexemes.{Lexeme, lexeme}
use Rattle.text_base.specs.Tokens.{Tok, tokens_of}
use Rattle.model_syntax.specs.Items.{Item, Header, item_of}
use Rattle.model_syntax.specs.Lines.{Next, Goes, Refused, Ended, IsNextOfForm, ModelSoFar, Reads, outcome, opening, LeadsByForm, LeadsByTokens}
use Rattle.model_syntax.specs.Printing.{lines_said}
use Rattle.model_syntax.specs.Shorter.{AddsNoLonger, LinesAreNoLonger}
use Rattle.model_syntax.proofs.HeaderLine.{first_is}
use Rattle.model_syntax.proofs.LineWidths.{line_width}
use Rattle.model_syntax.proofs.ItemWidths.{HasRoom, form_adds}

reads_is : (s t : ModelSoFar) → Reads s ≡ Reads t → s.model ≡ t.model
reads_is s t e = let f : s ≡ t = cc in ap (λ (r : ModelSoFar). r.model) f

-- a line that leaves the model as it is
unchanged : (m n : PlantModel) (text : List ℕ) → m ≡ n → AddsNoLonger m n text
unchanged m n text e = inl (ap lines_said (sym e))

-- the lines behind it
went : (s t : ModelSoFar) (text : List ℕ) (ls : List Lexeme) (next : Next) → WellFormed s.model → HasRoom text ls → IsNextOfForm s.model (item_of ls) next → Reads t ≡ outcome next → AddsNoLonger s.model t.model text
went s t text ls (Goes n) w room h e =
    subst (λ (x : PlantModel). AddsNoLonger s.model x text) (sym (reads_is t (record { model = n; begun = true }) e)) (inr (form_adds s.model w text n ls (item_of ls) refl room h))
went s t text ls (Refused code) w room h e = absurd cc
went s t text ls Ended w room h e = absurd cc

-- the line of the version begins the reading
header_begins : (m : PlantModel) (second : Bool) (t : ModelSoFar) → Reads t ≡ opening m (Some (Header second)) → t.begun ≡ true
header_begins m false t e = let same : t ≡ record { model = m; begun = true } = cc in ap (λ (r : ModelSoFar). r.begun) same
header_begins m true t e = let same : t ≡ record { model = in_second m; begun = true } = cc in ap (λ (r : ModelSoFar). r.begun) same

opening_begins : (m : PlantModel) (form : Option Item) (t : ModelSoFar) → Reads t ≡ opening m form → t.begun ≡ true
opening_begins m form t e =
    let first = first_is m form t e in
    header_begins m first.0 t (subst (λ (f : Option Item). Reads t ≡ opening m f) first.1 e)

by_form : (s t : ModelSoFar) (text : List ℕ) (ls : List Lexeme) (begun : Bool) → begun ≡ t.begun → WellFormed s.model → HasRoom text ls → LeadsByForm begun s.model (item_of ls) (Reads t) → AddsNoLonger s.model t.model text
by_form s t text ls true b w room h = went s t text ls h.0 w room h.1 h.2
by_form s t text ls false b w room h = absurd (false≢true (b ∙ opening_begins s.model (item_of ls) t h))

-- all lines
by_tokens : (s t : ModelSoFar) (text : List ℕ) (read : Result (List Tok) ℕ) → tokens_of text ≡ read → s.begun ≡ t.begun → WellFormed s.model → LeadsByTokens s read (Reads t) → AddsNoLonger s.model t.model text
by_tokens s t text (Err at) r b w h = absurd cc
by_tokens s t text (Ok []) r b w h = unchanged s.model t.model text (sym (reads_is t s h))
by_tokens s t text (Ok (x ∷ xs)) r b w h = by_form s t text (map lexeme (x ∷ xs)) s.begun b w (line_width text (x ∷ xs) r) h

pub lines_are_no_longer : LinesAreNoLonger
lines_are_no_longer s t text w b h = by_tokens s t text (tokens_of text) refl b w h
