-- The forms of words.
use Rattle.std.specs.Prelude.{◌≡◌, ℕ, ◌^◌, ◌&&◌, nat_lt, List, [], ◌∷◌, Option, Some, None, codes, map, if◌then◌else◌, string_bytes, String}
use Rattle.std.specs.Global.{Global}
use Rattle.std.specs.Fmt.{decimal}
use Rattle.std.specs.List.{find}
use Rattle.std.specs.Option.{option_map}
use Rattle.std.specs.Str.{bytes_eq}
use Rattle.std.specs.Str.Parse.{digits_value}
use Rattle.titan_top.specs.declared.words.Form.{Form}
use Rattle.titan_top.specs.declared.words.Form.TheVariants.{Run, Show, Trial, Check, Migrate, Want, Watch, Program}
use Rattle.run_form.specs.declared.notation.Notation.TheVariants.{Words, Json, Proof}

-- the number of 64 bits that the word says, if it says one
abbrev pub seed_of : List ℕ → Option ℕ
seed_of word = if bytes_eq (decimal (digits_value 10 word)) word && nat_lt (digits_value 10 word) (2 ^ 64) then Some (digits_value 10 word) else None

-- the first word of a form
abbrev pub word_of : Form → List ℕ
word_of (Run notation) = codes "run"
word_of Show = codes "show"
word_of (Trial seed) = codes "trial"
word_of Check = codes "check"
word_of Migrate = codes "migrate"
word_of Want = codes "want"
word_of Watch = codes "watch"
word_of Program = codes "program"

-- the forms that one word asks for
abbrev pub by_one_word : List Form
by_one_word = Run Words ∷ Show ∷ Check ∷ Migrate ∷ Want ∷ Watch ∷ Program ∷ []

-- the form that one word asks for
abbrev pub form_of_word : List ℕ → Option Form
form_of_word word = find (λ form. bytes_eq word (word_of form)) by_one_word

-- the form of the words, if they have one
abbrev pub form_of : List (List ℕ) → Option Form
form_of [] = None
form_of (a ∷ []) = form_of_word a
form_of (a ∷ b ∷ []) =
    if bytes_eq a (codes "run")
    then (if bytes_eq b (codes "--json") then Some (Run Json) else (if bytes_eq b (codes "--proof") then Some (Run Proof) else None))
    else (if bytes_eq a (codes "trial") then option_map Trial (seed_of b) else None)
form_of (a ∷ b ∷ c ∷ cs) = None

-- the bytes of the words
abbrev pub texts : List (String Global) → List (List ℕ)
texts words = map string_bytes words

-- what the words ask for, if they have a form
abbrev pub asked : List (String Global) → Option Form
asked words = form_of (texts words)

-- the words have this form
abbrev pub IsForm : List (String Global) → Form → Type 0
IsForm words form = asked words ≡ Some form
