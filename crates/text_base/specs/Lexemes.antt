-- Reading the tokens of a line from left to right.
use Rattle.std.specs.Prelude.{ℕ, Bool, true, false, not, List, [], ◌∷◌, Option, Some, None, codes, if◌then◌else◌, ◌&&◌}
use Rattle.std.specs.Str.{bytes_eq}
use Rattle.cca_base.specs.Names.{is_reserved}
use Rattle.text_base.specs.declared.token.Kind.{Kind}
use Rattle.text_base.specs.declared.token.Kind.TheVariants.{Word, Number, Symbol}
use Rattle.text_base.specs.declared.token.Token.{Token}
use Rattle.text_base.specs.Tokens.{Tok}

-- a token apart from where it stands
abbrev pub Lexeme : Type 0
Lexeme = Kind × List ℕ

-- what a token is, apart from where it stands
abbrev pub lexeme : Tok → Lexeme
lexeme t = (t.kind, t.text)

-- the lexeme of a token of the code
abbrev pub lexeme_of : Token → Lexeme
lexeme_of t = (t.kind, t.text.now)

-- the word with this text
abbrev pub word : List ℕ → Lexeme
word text = (Word, text)

-- the number with these digits
abbrev pub number : List ℕ → Lexeme
number text = (Number, text)

-- the symbol with this text
abbrev pub symbol : List ℕ → Lexeme
symbol text = (Symbol, text)

-- whether two kinds are one
abbrev pub same_kind : Kind → Kind → Bool
same_kind Word Word = true
same_kind Number Number = true
same_kind Symbol Symbol = true
same_kind a b = false

-- the second is the first
abbrev pub is_lexeme : Lexeme → Lexeme → Bool
is_lexeme l m = same_kind m.0 l.0 && bytes_eq m.1 l.1

-- a word that may stand in place of a name
abbrev pub is_name_word : Lexeme → Bool
is_name_word l = same_kind l.0 Word && not (is_reserved l.1)

-- what stands behind this lexeme
abbrev pub next_is : Lexeme → List Lexeme → Option (List Lexeme)
next_is l [] = None
next_is l (m ∷ ls) = if is_lexeme l m then Some ls else None

-- a word in place of a name, and what stands behind it
abbrev pub name_word_at : List Lexeme → Option (List ℕ × List Lexeme)
name_word_at [] = None
name_word_at (l ∷ ls) = if is_name_word l then Some (l.1, ls) else None

-- the symbol between the parts of a list
abbrev pub comma : Lexeme
comma = symbol (codes ",")
