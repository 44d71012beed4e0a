-- Lines that spell items of a grammar, and what they say: nothing, what their item says, or their least code.
use Rattle.std.specs.Prelude.{◌≡◌, ◌⊎◌, ◌<◌, ℕ, List, [], ◌∷◌, length, map, Option, Some, None, Result, Ok, Err}
use Rattle.cca_base.specs.declared.codes.TheConstants.{MALFORMED}
use Rattle.text_base.specs.Lexemes.{Lexeme, lexeme}
use Rattle.text_base.specs.Tokens.{Tok, tokens_of}

-- how an item is spelled, and which items are
pub record Grammar (I : Type 0) : Type 1 where
  pub spelled : I → List Lexeme
  pub IsSpelled : I → Type 0

module _ {I : Type 0} (g : Grammar I) where
  -- these lexemes spell the item
  abbrev pub AreSpelling : List Lexeme → I → Type 0
  AreSpelling ls i = (ls ≡ g.spelled i) × g.IsSpelled i

  -- the tokens of the line spell the item
  abbrev pub Spells : List ℕ → I → Type 0
  Spells line i = (ts : List Tok) × (tokens_of line ≡ Ok ts) × AreSpelling (map lexeme ts) i

  -- the line has a byte that belongs to nothing, or it has tokens that spell no item
  abbrev pub IsMalformed : List ℕ → Type 0
  IsMalformed line = ((at : ℕ) × (tokens_of line ≡ Err at)) ⊎ ((t : Tok) × (ts : List Tok) × (tokens_of line ≡ Ok (t ∷ ts)) × ((i : I) → Spells line i → ⊥))

-- the code applies, and none that is less
abbrev pub IsLeast : (ℕ → Type 0) → ℕ → Type 0
IsLeast Applies code = Applies code × ((less : ℕ) → less < code → Applies less → ⊥)

-- where an item says such a thing, or has a code that applies
module _ {I R : Type 0} (g : Grammar I) (IsNamed : I → R → Type 0) (Applies : I → ℕ → Type 0) where
  -- what an item says where no code applies, or its least code
  abbrev pub SaidByItem : I → Result R ℕ → Type 0
  SaidByItem i (Ok r) = IsNamed i r × ((code : ℕ) → Applies i code → ⊥)
  SaidByItem i (Err code) = IsLeast (Applies i) code

  -- what a line says: nothing where it has no tokens, or what the item says that it spells; or its code, where malformed comes first
  abbrev pub SaidByLine : List ℕ → Result (Option R) ℕ → Type 0
  SaidByLine line (Ok None) = tokens_of line ≡ Ok []
  SaidByLine line (Ok (Some r)) = (i : I) × Spells g line i × SaidByItem i (Ok r)
  SaidByLine line (Err code) = ((code ≡ MALFORMED) × IsMalformed g line) ⊎ ((i : I) × Spells g line i × SaidByItem i (Err code))

  -- what lexemes say, a first word among them
  abbrev pub SaidByWords : List Lexeme → Result R ℕ → Type 0
  SaidByWords ls (Ok r) = (i : I) × AreSpelling g ls i × SaidByItem i (Ok r)
  SaidByWords ls (Err code) = ((code ≡ MALFORMED) × ((i : I) → AreSpelling g ls i → ⊥)) ⊎ ((i : I) × AreSpelling g ls i × SaidByItem i (Err code))

  -- what lexemes say, if there are any
  abbrev pub SaidByTokens : List Lexeme → Result (Option R) ℕ → Type 0
  SaidByTokens ls (Ok None) = ls ≡ []
  SaidByTokens ls (Ok (Some r)) = SaidByWords ls (Ok r)
  SaidByTokens ls (Err code) = (0 < length ls) × SaidByWords ls (Err code)
