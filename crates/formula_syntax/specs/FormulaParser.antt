-- Reading a formula's text from left to right, one token after the other.
use Rattle.std.specs.Prelude.{ℕ, zero, suc, ◌+◌, Bool, true, false, if◌then◌else◌, List, [], ◌∷◌, reverse, Option, Some, None, codes}
use Rattle.cca_base.specs.declared.formula.Formula.{roll-Formula}
use Rattle.cca_base.specs.declared.formula.Formula.TheOpen.{Formula-F}
use Rattle.cca_base.specs.PlantModel.{PlantModel}
use Rattle.text_base.specs.Lexemes.{Lexeme, word, symbol, comma, is_lexeme, is_name_word}
use Rattle.formula_syntax.specs.declared.read_part.ReadPart.{ReadPart}
use Rattle.formula_syntax.specs.declared.read_part.ReadPart.TheVariants.{Sound}
use Rattle.formula_syntax.specs.declared.read_parts.ReadParts.{ReadParts}
use Rattle.formula_syntax.specs.declared.atom.Atom.{Atom}
use Rattle.formula_syntax.specs.declared.formula_parser.Connective.{Connective}
use Rattle.formula_syntax.specs.declared.formula_parser.Connective.TheVariants as link
use Rattle.formula_syntax.specs.declared.formula_parser.Side.{Side}
use Rattle.formula_syntax.specs.declared.formula_parser.Level.{Level}
use Rattle.formula_syntax.specs.declared.formula_parser.Expected.{Expected}
use Rattle.formula_syntax.specs.declared.formula_parser.Expected.TheVariants.{Operand, Operator, Named, Compared, Opened, Listed, Followed}
use Rattle.formula_syntax.specs.declared.formula_parser.FormulaParser.{FormulaParser}
use Rattle.text_base.specs.Chain.{◌>>=◌}
use Rattle.formula_syntax.specs.ReadParts.{negated, enclosed, linked, one, more, all_of, any_of, named, with_value, among}

-- what was read so far: the levels around this one, innermost first, this level, and what comes next
pub record State : Type 0 where
  pub outer : List Level
  pub level : Level
  pub place : Expected

-- the same of the code, which has the innermost level last
abbrev pub state_of : FormulaParser → State
state_of machine = record { outer = reverse machine.outer; level = machine.level; place = machine.place }

-- a level of which nothing was read
abbrev pub fresh : Level
fresh = record { left = None; any = None; all = None; nots = 0 }

-- nothing was read
abbrev pub start : State
start = record { outer = []; level = fresh; place = Operand }

-- the reading behind so many words `not`
abbrev pub nots : ℕ → ReadPart → ReadPart
nots zero x = x
nots (suc n) x = nots n (negated x)

-- one part more, or the first
abbrev pub more_or_one : Option ReadParts → ReadPart → ReadParts
more_or_one None x = one x
more_or_one (Some parts) x = more parts x

-- a factor was read
abbrev pub completed : Level → ReadPart → Level
completed k x = record k { all = Some (more_or_one k.all (nots k.nots x)); nots = 0 }

-- the level's conjunctions
abbrev pub cases_read : Option ReadParts → Option ReadParts → Option ReadParts
cases_read any None = None
cases_read any (Some all) = Some (more_or_one any (all_of all))

-- the level's disjunction
abbrev pub side_read : Option ReadParts → Option ReadParts → Option ReadPart
side_read any all = cases_read any all >>= λ cases. Some (any_of cases)

-- with the side before it
abbrev pub against : Option Side → ReadPart → ReadPart
against None x = x
against (Some left) x = linked left.link left.reading x

-- all that the level says
abbrev pub level_read : Level → Option ReadPart
level_read k = side_read k.any k.all >>= λ x. Some (against k.left x)

-- behind `or`
abbrev pub or_step : State → Option State
or_step s = cases_read s.level.any s.level.all >>= λ any. Some (record s { level = record { left = s.level.left; any = Some any; all = None; nots = 0 }; place = Operand })

-- behind `implies` or `iff`, one of which may stand in a level
abbrev pub link_from : State → Connective → Option Side → Option State
link_from s l (Some left) = None
link_from s l None =
    side_read s.level.any s.level.all >>= λ x. Some (record s { level = record { left = Some (record { link = l; reading = x }); any = None; all = None; nots = 0 }; place = Operand })

-- the same from a state
abbrev pub link_step : State → Connective → Option State
link_step s l = link_from s l s.level.left

-- behind a closing parenthesis
abbrev pub close_from : Level → List Level → Option State
close_from k [] = None
close_from k (around ∷ outer) =
    level_read k >>= λ x. Some (record { outer = outer; level = completed around (enclosed x); place = Operator })

-- the same from a state
abbrev pub close_step : State → Option State
close_step s = close_from s.level s.outer

-- behind an opening parenthesis
abbrev pub open_step : State → State
open_step s = record { outer = s.level ∷ s.outer; level = fresh; place = Operand }

-- behind a factor
abbrev pub factor_step : State → ReadPart → State
factor_step s x = record { outer = s.outer; level = completed s.level x; place = Operator }

-- at another place
abbrev pub at : State → Expected → State
at s place = record s { place = place }

-- behind one more word `not`
abbrev pub not_step : State → State
not_step s = record s { level = record s.level { nots = s.level.nots + 1 } }

-- where a factor has to begin
abbrev pub operand_step : PlantModel → State → Lexeme → Option State
operand_step m s l =
    if is_lexeme (word (codes "not")) l then Some (not_step s)
    else (if is_lexeme (symbol (codes "(")) l then Some (open_step s)
    else (if is_lexeme (word (codes "true")) l then Some (factor_step s (Sound (roll-Formula Formula-F.True) 1))
    else (if is_lexeme (word (codes "false")) l then Some (factor_step s (Sound (roll-Formula Formula-F.False) 1))
    else (if is_name_word l then Some (at s (Named (named m l.1)))
    else None))))

-- behind a factor
abbrev pub operator_step : State → Lexeme → Option State
operator_step s l =
    if is_lexeme (word (codes "and")) l then Some (at s Operand)
    else (if is_lexeme (word (codes "or")) l then or_step s
    else (if is_lexeme (word (codes "implies")) l then link_step s link.Implies
    else (if is_lexeme (word (codes "iff")) l then link_step s link.Iff
    else (if is_lexeme (symbol (codes ")")) l then close_step s
    else None))))

-- behind an atom's name
abbrev pub named_step : State → Atom → Lexeme → Option State
named_step s atom l =
    if is_lexeme (symbol (codes "=")) l then Some (at s (Compared atom false))
    else (if is_lexeme (symbol (codes "!=")) l then Some (at s (Compared atom true))
    else (if is_lexeme (word (codes "in")) l then Some (at s (Opened atom))
    else None))

-- the atom, or not the atom
abbrev pub compared : Atom → Bool → ReadPart
compared atom false = among atom
compared atom true = negated (among atom)

-- behind `=` or `!=`
abbrev pub compared_step : Bool → PlantModel → State → Atom → Bool → Lexeme → Option State
compared_step strict m s atom differs l = if is_name_word l then Some (factor_step s (compared (with_value strict m atom l.1) differs)) else None

-- behind `in`
abbrev pub opened_step : State → Atom → Lexeme → Option State
opened_step s atom l = if is_lexeme (symbol (codes "{")) l then Some (at s (Listed atom)) else None

-- behind a brace or a comma
abbrev pub listed_step : Bool → PlantModel → State → Atom → Lexeme → Option State
listed_step strict m s atom l = if is_name_word l then Some (at s (Followed (with_value strict m atom l.1))) else None

-- behind a value in braces
abbrev pub followed_step : State → Atom → Lexeme → Option State
followed_step s atom l =
    if is_lexeme comma l then Some (at s (Listed atom))
    else (if is_lexeme (symbol (codes "}")) l then Some (factor_step s (among atom))
    else None)

-- by what has to come next
abbrev pub step_at : Bool → PlantModel → State → Expected → Lexeme → Option State
step_at strict m s Operand l = operand_step m s l
step_at strict m s Operator l = operator_step s l
step_at strict m s (Named atom) l = named_step s atom l
step_at strict m s (Compared atom differs) l = compared_step strict m s atom differs l
step_at strict m s (Opened atom) l = opened_step s atom l
step_at strict m s (Listed atom) l = listed_step strict m s atom l
step_at strict m s (Followed atom) l = followed_step s atom l

-- behind one more token
unfoldable pub step : Bool → PlantModel → State → Lexeme → Option State
step strict m s l = step_at strict m s s.place l

-- what has to come next behind an atom's name and this token
abbrev pub behind_name : Atom → Lexeme → Option Expected
behind_name atom l =
    if is_lexeme (symbol (codes "=")) l then Some (Compared atom false)
    else (if is_lexeme (symbol (codes "!=")) l then Some (Compared atom true)
    else (if is_lexeme (word (codes "in")) l then Some (Opened atom)
    else None))

-- what has to come next behind a token that changes nothing else
abbrev pub place_behind : Bool → PlantModel → Expected → Lexeme → Option Expected
place_behind strict m Operand l = if is_name_word l then Some (Named (named m l.1)) else None
place_behind strict m Operator l = if is_lexeme (word (codes "and")) l then Some Operand else None
place_behind strict m (Named atom) l = behind_name atom l
place_behind strict m (Compared atom differs) l = None
place_behind strict m (Opened atom) l = if is_lexeme (symbol (codes "{")) l then Some (Listed atom) else None
place_behind strict m (Listed atom) l = if is_name_word l then Some (Followed (with_value strict m atom l.1)) else None
place_behind strict m (Followed atom) l = if is_lexeme comma l then Some (Listed atom) else None

-- behind the last token: the outermost level has to be at its end
abbrev pub ended_at : Expected → List Level → Level → Option ReadPart
ended_at Operator [] k = level_read k
ended_at Operator (around ∷ outer) k = None
ended_at Operand outer k = None
ended_at (Named atom) outer k = None
ended_at (Compared atom differs) outer k = None
ended_at (Opened atom) outer k = None
ended_at (Listed atom) outer k = None
ended_at (Followed atom) outer k = None

-- what a text says that ends there, if one may
unfoldable pub ended : State → Option ReadPart
ended s = ended_at s.place s.outer s.level

-- all tokens, one after the other
unfoldable pub run : Bool → PlantModel → State → List Lexeme → Option ReadPart
run strict m s [] = ended s
run strict m s (l ∷ ls) = step strict m s l >>= λ t. run strict m t ls
