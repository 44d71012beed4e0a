-- A line that begins a reading is no shorter than the header's printed line.
use Rattle.std.proofs.Common.{◌≡◌, ◌==◌, ℕ, ◌≤◌, Bool, true, false, if◌then◌else◌, codes, List, [], ◌∷◌, length, map, Option, Some, None, Result, Ok, Err, refl, sym, ap, subst, ◌∙◌, arith}
use Rattle.cca_base.specs.PlantModel.{PlantModel}
use Rattle.text_base.specs.Lexemes.{Lexeme, lexeme, word, number}
use Rattle.text_base.specs.Tokens.{Tok, tokens_of}
use Rattle.model_syntax.specs.Items.{Item, Header, Component, Variable, Rule, Move, Failure, Script, item_of, line_spelled}
use Rattle.model_syntax.specs.Lines.{ModelSoFar, Reads, opening, LeadsByForm, LeadsByTokens}
use Rattle.model_syntax.specs.Printing.{joined, header_said}
use Rattle.model_syntax.specs.Shorter.{HeaderIsNoLonger}
use Rattle.model_syntax.proofs.ItemGrammar.{item_written}
use Rattle.model_syntax.proofs.ItemWidths.{HasRoom}
use Rattle.model_syntax.proofs.LineWidths.{line_width}
use Rattle.model_syntax.proofs.Widths.{joined_width}

-- no other item is read first
pub first_is : (m : PlantModel) (form : Option Item) (t : ModelSoFar) → Reads t ≡ opening m form → (second : Bool) × (form ≡ Some (Header second))
first_is m None t e = absurd cc
first_is m (Some (Header second)) t e = (second, refl)
first_is m (Some (Component name modes start)) t e = absurd cc
first_is m (Some (Variable name values sensed)) t e = absurd cc
first_is m (Some (Rule formula)) t e = absurd cc
first_is m (Some (Move repair ends command guard)) t e = absurd cc
first_is m (Some (Failure ends cost)) t e = absurd cc
first_is m (Some Script) t e = absurd cc

-- the headers of both versions are of one width, as they are printed and as they are spelled
printed_width : (second : Bool) → length (joined (word (codes "titan") ∷ number (if second then codes "2" else codes "1") ∷ [])) ≡ 7
printed_width true = refl
printed_width false = refl

header_width : (version : ℕ) → length (joined (header_said version)) ≡ 7
header_width version = printed_width (version == 2)

spelled_width : (second : Bool) → length (joined (line_spelled (Header second))) ≡ 7
spelled_width true = refl
spelled_width false = refl

-- a line with the tokens of a header has room for a printed one
by_header : (text : List ℕ) (version : ℕ) (second : Bool) → HasRoom text (line_spelled (Header second)) → length (joined (header_said version)) ≤ length text
by_header text version true room = omega (arith, joined_width (line_spelled (Header true)), room refl, spelled_width true, header_width version)
by_header text version false room = omega (arith, joined_width (line_spelled (Header false)), room refl, spelled_width false, header_width version)

-- a line with tokens has exactly a header's
by_form : (s t : ModelSoFar) (text : List ℕ) (ls : List Lexeme) (begun : Bool) → begun ≡ false → HasRoom text ls → LeadsByForm begun s.model (item_of ls) (Reads t)
    → length (joined (header_said t.model.version)) ≤ length text
by_form s t text ls true b room h = absurd cc
by_form s t text ls false b room h =
    let first = first_is s.model (item_of ls) t h in
    by_header text t.model.version first.0 (subst (HasRoom text) (item_written ls (Header first.0) first.1).0 room)

-- a line without tokens doesn't begin a reading
by_tokens : (s t : ModelSoFar) (text : List ℕ) (read : Result (List Tok) ℕ) → tokens_of text ≡ read → s.begun ≡ false → t.begun ≡ true → LeadsByTokens s read (Reads t)
    → length (joined (header_said t.model.version)) ≤ length text
by_tokens s t text (Err at) r b c h = absurd cc
by_tokens s t text (Ok []) r b c h = absurd (let e : t ≡ s = cc in let f = sym b ∙ (sym (ap (λ (x : ModelSoFar). x.begun) e) ∙ c) in cc)
by_tokens s t text (Ok (x ∷ xs)) r b c h = by_form s t text (map lexeme (x ∷ xs)) s.begun b (line_width text (x ∷ xs) r) h

pub header_is_no_longer : HeaderIsNoLonger
header_is_no_longer s t text b c h = by_tokens s t text (tokens_of text) refl b c h
