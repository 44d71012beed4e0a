-- What lines do: the items that they say, in order, their texts one behind the other, and how they end.
use Rattle.std.specs.Prelude.{◌≡◌, ℕ, ◌+◌, List, [], ◌∷◌, ◌++◌, length, Option, Some, None, Result, Ok, Err}
use Rattle.cca_base.specs.Refusals.{bare}
use Rattle.line_machine.specs.Completes.{Completes}
use Rattle.line_machine.specs.Lines.{lines_in}
use Rattle.line_machine.specs.Next.{Next, GoesOn, Stops}
use Rattle.line_machine.specs.Runs.{length_code, Runs, Closes, IsSure}
use Rattle.line_machine.specs.declared.machine.End.{End}
use Rattle.line_machine.specs.declared.machine.End.TheVariants.{Refused}
use Rattle.trace_text.specs.Json.{refusal_text}
use Rattle.line_forms.specs.LinesMachine.{lines_machine}
use Rattle.line_forms.specs.LineMeaning.{LineMeaning}

module _ {L I : Type 0} (form : LineMeaning L I) where
  -- the code of a line of this number that is too long, or one too many
  abbrev pub code_at : L → ℕ → List ℕ → Option ℕ
  code_at x n l = length_code (form.limit_of x) n (length l)

  -- what a line says: its number and its length come before all that it says
  abbrev pub SaidByCode : Option ℕ → L → List ℕ → Result (Option I) ℕ → Type 0
  SaidByCode (Some code) x l said = said ≡ Err code
  SaidByCode None x l said = form.said x l said

  -- a line before the later ones, by what it says: a refusal ends them, and an item is served, with its text before theirs
  abbrev pub DoBy : Result (Option I) ℕ → L → ℕ → (Next L → List I → Next L → List ℕ → Type 0) → List I → Next L → List ℕ → Type 0
  DoBy (Err code) x n Later items t text = (items ≡ []) × (t ≡ Stops Refused) × (text ≡ refusal_text (form.is_json x) (form.model_of x) n (bare code))
  DoBy (Ok None) x n Later items t text = Later (GoesOn x) items t text
  DoBy (Ok (Some item)) x n Later items t text =
      (v : Next L) × (first : List ℕ) × (more : List I) × (rest : List ℕ) × form.serves item x n v first × Later v more t rest × (items ≡ item ∷ more) × (text ≡ first ++ rest)

  -- lines behind n lines say these items, lead there, and this is printed; once the program has ended no line is looked at
  abbrev pub LinesDo : Next L → ℕ → List (List ℕ) → List I → Next L → List ℕ → Type 0
  LinesDo s n [] items t text = (items ≡ []) × (t ≡ s) × (text ≡ [])
  LinesDo (Stops e) n (l ∷ ls) items t text = (items ≡ []) × (t ≡ Stops e) × (text ≡ [])
  LinesDo (GoesOn x) n (l ∷ ls) items t text =
      (said : Result (Option I) ℕ) × SaidByCode (code_at x (n + 1) l) x l said × DoBy said x (n + 1) (λ v more u rest. LinesDo v (n + 1) ls more u rest) items t text

  -- the lines behind n lines, and then the end of the input
  pub record LinesEndSo (s : Next L) (n : ℕ) (ls : List (List ℕ)) (items : List I) (e : End) (text : List ℕ) : Type 0 where
    pub here : Next L
    pub told : List ℕ
    pub done : LinesDo s n ls items here told
    pub last : List ℕ
    pub closes : Closes (lines_machine form) here (n + length ls) e last
    pub parts : text ≡ told ++ last

  -- what the machine does for lines is what they do, both ways; that is one; and what bytes alone decide, where the machine goes on, is what their whole lines do
  pub record LinesAreDone : Type 0 where
    pub done : (s t : Next L) (n : ℕ) (ls : List (List ℕ)) (text : List ℕ) → Runs (lines_machine form) s n ls t text → (items : List I) × LinesDo s n ls items t text
    pub does : (s t : Next L) (n : ℕ) (ls : List (List ℕ)) (items : List I) (text : List ℕ) → LinesDo s n ls items t text → Runs (lines_machine form) s n ls t text
    pub ended : (s : Next L) (n : ℕ) (ls : List (List ℕ)) (e : End) (text : List ℕ) → Completes (lines_machine form) s n ls e text → (items : List I) × LinesEndSo s n ls items e text
    pub ends : (s : Next L) (n : ℕ) (ls : List (List ℕ)) (items : List I) (e : End) (text : List ℕ) → LinesEndSo s n ls items e text → Completes (lines_machine form) s n ls e text
    pub one : (s t u : Next L) (n : ℕ) (ls : List (List ℕ)) (items others : List I) (a c : List ℕ) → LinesDo s n ls items t a → LinesDo s n ls others u c → (items ≡ others) × (t ≡ u) × (a ≡ c)
    pub one_end : (s : Next L) (n : ℕ) (ls : List (List ℕ)) (items others : List I) (e f : End) (a c : List ℕ) → LinesEndSo s n ls items e a → LinesEndSo s n ls others f c → (items ≡ others) × (e ≡ f) × (a ≡ c)
    pub sure : (x y : L) (bytes text : List ℕ) → IsSure (lines_machine form) x bytes (GoesOn y) text → (items : List I) × LinesDo (GoesOn x) 0 (lines_in bytes).whole items (GoesOn y) text
