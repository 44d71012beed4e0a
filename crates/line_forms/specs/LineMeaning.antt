-- What the lines of a form mean.
use Rattle.std.specs.Prelude.{ℕ, Bool, true, false, List, Option, Some, None, Result, Ok, Err}
use Rattle.cca_base.specs.PlantModel.{PlantModel}
use Rattle.line_machine.specs.Next.{Next}
use Rattle.model_form.specs.Answers.{Answer}

-- in a state: the model that the lines stand behind; whether a refusal is printed as JSON; the most bytes of the next line, without its LF; what a line says,
-- which is nothing, an item, or its least code; what is known of an item that was read; where the item of the line of a number leads, and what it prints; what is
-- printed at the end of the input behind so many lines, and how the program ends; whether the line of a number may come next; and whether no line takes memory
-- from here on where what is printed has room for so many bytes
pub record LineMeaning (L I : Type 0) : Type 1 where
  pub model_of : L → PlantModel
  pub is_json : L → Bool
  pub limit_of : L → ℕ
  pub said : L → List ℕ → Result (Option I) ℕ → Type 0
  pub fits : L → I → Type 0
  pub serves : I → L → ℕ → Next L → List ℕ → Type 0
  pub closing : L → ℕ → Answer
  pub awaits : L → ℕ → Type 0
  pub steady : L → ℕ → Type 0

-- an item, if a line asks for it
abbrev pub item_if : {I : Type 0} → I → Bool → Option I
item_if item true = Some item
item_if item false = None

-- what a line was read as, by a call that puts an item into its place and answers whether the line asks for it
abbrev pub read_into : {I E : Type 0} → I → Result Bool E → Result (Option I) E
read_into item (Ok asks) = Ok (item_if item asks)
read_into item (Err e) = Err e
