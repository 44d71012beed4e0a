-- Each form of a line in bytes, a small program with its lines, and the numbers of limits and codes.
use Rattle.std.specs.Prelude.{◌≡◌, ◌≤◌, ◌↔◌, ℕ, List, [], ◌∷◌, map, codes, Result, Ok, Err}
use Rattle.cca_base.specs.declared.codes.TheConstants.{MALFORMED, NAME_UNKNOWN, LIMIT, BROKEN_GOAL, REPEATED_PAIR, UNMATCHED}
use Rattle.cca_base.specs.declared.cube.Pair.{Pair}
use Rattle.cca_base.specs.declared.formula.Formula.{Formula, roll-Formula}
use Rattle.cca_base.specs.declared.formula.Formula.TheOpen.{Formula-F}
use Rattle.control_syntax.specs.Items.{Item, Program, Reach, Await, Seq, Both, Choose, Otherwise, Repeat, Done, End, grammar}
use Rattle.control_syntax.specs.Program.{RepeatsOnce}
use Rattle.control_syntax.specs.Written.{IsProgram}
use Rattle.control_syntax.specs.declared.limits.TheConstants.{MAX_LINES, MAX_BLOCKS, MAX_ROUNDS}
use Rattle.control_syntax.specs.declared.line.Line.{Line}
use Rattle.control_syntax.specs.declared.line.Line.TheVariants as line
use Rattle.control_syntax.specs.declared.part.Part.{Part, roll-Part}
use Rattle.control_syntax.specs.declared.part.Part.TheOpen.{Part-F}
use Rattle.formula_syntax.specs.Grammar.{Whole, Plain, Case, Single, Not, True, False}
use Rattle.text_base.specs.Lexemes.{Lexeme, lexeme}
use Rattle.text_base.specs.Pairs.{NamedPair}
use Rattle.text_base.specs.Tokens.{Tok, tokens_of}

-- the tokens' lexemes, where no byte is bad
abbrev pub lexemes : Result (List Tok) ℕ → Result (List Lexeme) ℕ
lexemes (Ok ts) = Ok (map lexeme ts)
lexemes (Err at) = Err at

-- the bytes are those of the item
abbrev pub IsWrittenSo : List ℕ → Item → Type 0
IsWrittenSo bytes item = lexemes (tokens_of bytes) ≡ Ok (grammar.spelled item)

-- a component with its mode, by their names
abbrev pub named : List ℕ → List ℕ → NamedPair
named component mode = record { name = component; value = mode }

-- the formulas' texts `true` and `not false`
abbrev pub always : Whole
always = Plain (Case (Single True))

abbrev pub not_false : Whole
not_false = Plain (Case (Single (Not False)))

-- each form of a line, as it is typed
pub record FormsInBytes : Type 0 where
  pub program : IsWrittenSo (codes "program") Program
  pub reach : IsWrittenSo (codes "reach drv = on, valve=open # both") (Reach (named (codes "drv") (codes "on") ∷ named (codes "valve") (codes "open") ∷ []))
  pub await_ : IsWrittenSo (codes "await true") (Await always)
  pub seq : IsWrittenSo (codes "  seq") Seq
  pub both : IsWrittenSo (codes "both") Both
  pub choose : IsWrittenSo (codes "choose not false") (Choose not_false)
  pub otherwise_ : IsWrittenSo (codes "otherwise") Otherwise
  pub rounds : IsWrittenSo (codes "repeat 12") (Repeat 12)
  pub done : IsWrittenSo (codes "done") Done
  pub end : IsWrittenSo (codes "end") End

-- ---- a program with one part of each kind

-- a goal of one pair
abbrev pub goal : ℕ → List Pair
goal mode = record { item = 0; value = mode } ∷ []

-- the formula `true`
abbrev pub truth : Formula
truth = roll-Formula Formula-F.True

abbrev pub lines_of_each : List Line
lines_of_each =
    line.Program ∷ line.Both ∷ line.Reach (goal 1) ∷ line.Seq ∷ line.Await truth ∷ line.Done ∷ line.Done ∷ line.Choose truth ∷ line.Otherwise ∷ line.Reach (goal 2) ∷ line.Done
    ∷ line.Choose truth ∷ line.Reach (goal 3) ∷ line.Done ∷ line.Repeat 2 ∷ line.Reach (goal 4) ∷ line.Reach (goal 5) ∷ line.Done ∷ line.End ∷ []

abbrev pub reach : ℕ → Part
reach mode = roll-Part (Part-F.Reach (goal mode))

-- the branches of `both` have no `seq` around them; the two parts of a `choose` and the body of a `repeat` do, and a part without lines is an empty one
abbrev pub part_of_each : Part
part_of_each =
    roll-Part
    (
    Part-F.Seq
    (
    roll-Part (Part-F.Both (reach 1 ∷ roll-Part (Part-F.Seq (roll-Part (Part-F.Await truth) ∷ [])) ∷ []))
    ∷ roll-Part (Part-F.Choose truth (roll-Part (Part-F.Seq [])) (roll-Part (Part-F.Seq (reach 2 ∷ []))))
    ∷ roll-Part (Part-F.Choose truth (roll-Part (Part-F.Seq (reach 3 ∷ []))) (roll-Part (Part-F.Seq [])))
    ∷ roll-Part (Part-F.Repeat 2 (roll-Part (Part-F.Seq (reach 4 ∷ reach 5 ∷ []))))
    ∷ []
    )
    )

-- the lines are that program
abbrev pub OneOfEach : Type 0
OneOfEach = IsProgram lines_of_each part_of_each

-- ---- numbers

-- the limits of a program, and the codes of its lines
pub record NumbersOfPrograms : Type 0 where
  pub lines : MAX_LINES ≡ 1024
  pub blocks : MAX_BLOCKS ≡ 16
  pub rounds : MAX_ROUNDS ≡ 1000
  pub malformed : MALFORMED ≡ 1
  pub name_unknown : NAME_UNKNOWN ≡ 2
  pub limit : LIMIT ≡ 4
  pub broken_goal : BROKEN_GOAL ≡ 14
  pub repeated_pair : REPEATED_PAIR ≡ 15
  pub unmatched : UNMATCHED ≡ 23

-- each round counts: a `repeat` goes round once at least, and so does each one in its body
abbrev pub GoesRoundOnce : Type 0
GoesRoundOnce = (n : ℕ) (body : Part) → RepeatsOnce (roll-Part (Part-F.Repeat n body)) ↔ ((1 ≤ n) × RepeatsOnce body)
