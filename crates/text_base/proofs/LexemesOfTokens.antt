-- The lexemes of tokens, as the code has them and as the definitions do.
use Rattle.std.proofs.Common.{◌≡◌, List, [], ◌∷◌, map, refl, ap}
use Rattle.text_base.specs.declared.token.Token.{Token}
use Rattle.text_base.specs.Lexemes.{lexeme, lexeme_of}
use Rattle.text_base.specs.Tokens.{token_view}

pub lexemes_of : (ts : List Token) → map lexeme (map token_view ts) ≡ map lexeme_of ts
lexemes_of [] = refl
lexemes_of (t ∷ ts) = ap (λ ls. lexeme_of t ∷ ls) (lexemes_of ts)
