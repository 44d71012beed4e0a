-- How a control program is written: the lines of its parts, one after the other.
use Rattle.std.specs.Prelude.{◌≡◌, ◌<◌, ◌≤◌, ◌+◌, ◌⊎◌, ◌↔◌, ℕ, max, List, [], ◌∷◌, length, Option, Some, None, Ok}
use Rattle.cca_base.specs.declared.cube.Pair.{Pair}
use Rattle.cca_base.specs.declared.formula.Formula.{Formula}
use Rattle.cca_base.specs.PlantModel.{PlantModel}
use Rattle.text_base.specs.Tokens.{tokens_of}
use Rattle.script_reader.specs.SaidLines.{Spells}
use Rattle.control_syntax.specs.declared.limits.TheConstants.{MAX_LINES, MAX_BLOCKS}
use Rattle.control_syntax.specs.declared.line.Line.{Line}
use Rattle.control_syntax.specs.declared.line.Line.TheVariants as line
use Rattle.control_syntax.specs.declared.part.Part.{Part, roll-Part}
use Rattle.control_syntax.specs.declared.part.Part.TheOpen.{Part-F}
use Rattle.control_syntax.specs.Codes.{IsGreat, IsNamed, IsSaid, NamesTwice, NamesUnknown, WantsBroken}
use Rattle.control_syntax.specs.Items.{Item, grammar}
use Rattle.control_syntax.specs.Reading.{Reading, led, nothing_read}

mutual
  -- a part as it is written: a `choose` with or without an `otherwise`
  pub data Text : Type 0 where
    Reach : List Pair → Text
    Await : Formula → Text
    Seq : Texts → Text
    Both : Texts → Text
    Choose : Formula → Texts → Text
    Either : Formula → Texts → Texts → Text
    Repeat : ℕ → Texts → Text

  -- parts, one behind the other
  pub data Texts : Type 0 where
    none : Texts
    more : Text → Texts → Texts

abbrev mutual
  -- the part that is written so
  pub part_of : Text → Part
  part_of (Reach pairs) = roll-Part (Part-F.Reach pairs)
  part_of (Await f) = roll-Part (Part-F.Await f)
  part_of (Seq xs) = roll-Part (Part-F.Seq (parts_of xs))
  part_of (Both xs) = roll-Part (Part-F.Both (parts_of xs))
  part_of (Choose f xs) = roll-Part (Part-F.Choose f (roll-Part (Part-F.Seq (parts_of xs))) (roll-Part (Part-F.Seq [])))
  part_of (Either f xs ys) = roll-Part (Part-F.Choose f (roll-Part (Part-F.Seq (parts_of xs))) (roll-Part (Part-F.Seq (parts_of ys))))
  part_of (Repeat n xs) = roll-Part (Part-F.Repeat n (roll-Part (Part-F.Seq (parts_of xs))))

  -- the parts that are written so
  pub parts_of : Texts → List Part
  parts_of none = []
  parts_of (more x xs) = part_of x ∷ parts_of xs

abbrev mutual
  -- the lines of a part, with these lines behind them
  pub text_before : Text → List Line → List Line
  text_before (Reach pairs) rest = line.Reach pairs ∷ rest
  text_before (Await f) rest = line.Await f ∷ rest
  text_before (Seq xs) rest = line.Seq ∷ texts_before xs (line.Done ∷ rest)
  text_before (Both xs) rest = line.Both ∷ texts_before xs (line.Done ∷ rest)
  text_before (Choose f xs) rest = line.Choose f ∷ texts_before xs (line.Done ∷ rest)
  text_before (Either f xs ys) rest = line.Choose f ∷ texts_before xs (line.Otherwise ∷ texts_before ys (line.Done ∷ rest))
  text_before (Repeat n xs) rest = line.Repeat n ∷ texts_before xs (line.Done ∷ rest)

  -- the lines of several parts, with these lines behind them
  pub texts_before : Texts → List Line → List Line
  texts_before none rest = rest
  texts_before (more x xs) rest = text_before x (texts_before xs rest)

abbrev mutual
  -- how many blocks stand inside one another
  pub depth : Text → ℕ
  depth (Reach pairs) = 0
  depth (Await f) = 0
  depth (Seq xs) = deepest xs + 1
  depth (Both xs) = deepest xs + 1
  depth (Choose f xs) = deepest xs + 1
  depth (Either f xs ys) = max (deepest xs) (deepest ys) + 1
  depth (Repeat n xs) = deepest xs + 1

  -- how many blocks stand inside one another in the deepest of several parts
  pub deepest : Texts → ℕ
  deepest none = 0
  deepest (more x xs) = max (depth x) (deepest xs)

-- these lines are the program, within the limits: `program`, the lines of its parts, and `end`
pub record IsProgram (ls : List Line) (part : Part) : Type 0 where
  pub texts : Texts
  pub lines : ls ≡ line.Program ∷ texts_before texts (line.End ∷ [])
  pub is : part ≡ roll-Part (Part-F.Seq (parts_of texts))
  pub few : length ls ≤ MAX_LINES + 2
  pub flat : deepest texts ≤ MAX_BLOCKS

-- the line may stand in a program, as far as its own words say
pub record MayStand (m : PlantModel) (i : Item) : Type 0 where
  pub known : NamesUnknown m i → ⊥
  pub small : IsGreat i → ⊥
  pub sound : WantsBroken m i → ⊥
  pub once : NamesTwice i → ⊥

-- what lines of bytes say one by one, those without tokens left out, of which none is the last
abbrev pub AreLines : PlantModel → List (List ℕ) → List Line → Type 0
AreLines m [] ls = ls ≡ []
AreLines m (text ∷ texts) ls =
    ((tokens_of text ≡ Ok []) × (0 < length texts) × AreLines m texts ls)
    ⊎ ((i : Item) × (l : Line) × (rest : List Line) × Spells grammar text i × MayStand m i × IsNamed m i l × (ls ≡ l ∷ rest) × AreLines m texts rest)

-- lines of bytes are read one after the other, none is refused, none comes once the program is whole, and this was read in the end
abbrev pub AreRead : PlantModel → Reading → List (List ℕ) → Reading → Type 0
AreRead m r [] next = next ≡ r
AreRead m r (text ∷ texts) next = (r.whole ≡ None) × ((said : Option Line) × IsSaid m r text (Ok said) × AreRead m (led r said) texts next)

-- lines of bytes are read to the end of a program exactly where what they say is that program, as it is written
abbrev pub ProgramsAreRead : Type 0
ProgramsAreRead =
    (m : PlantModel) (texts : List (List ℕ)) (part : Part)
    → ((next : Reading) × AreRead m nothing_read texts next × (next.whole ≡ Some part)) ↔ ((ls : List Line) × AreLines m texts ls × IsProgram ls part)

-- lines are one program
abbrev pub ProgramsAreOne : Type 0
ProgramsAreOne = (ls : List Line) (a b : Part) → IsProgram ls a → IsProgram ls b → a ≡ b
