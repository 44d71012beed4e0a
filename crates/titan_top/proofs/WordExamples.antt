-- The words of each form.
use Rattle.std.proofs.Common.{◌≡◌, ℕ, List, [], ◌∷◌, Some, refl}
use Rattle.std.specs.Prelude.{codes}
use Rattle.run_form.specs.declared.notation.Notation.TheVariants.{Words, Json, Proof, Summary}
use Rattle.titan_top.specs.WordExamples.{WordsAreForms}
use Rattle.titan_top.specs.Words.{form_of}
use Rattle.titan_top.specs.declared.words.Form.{Form}
use Rattle.titan_top.specs.declared.words.Form.TheVariants.{Run, Show, Trial, Check, Migrate, Want, Watch, Program}

all_have_words : (form : Form) → ((seed : ℕ) → form ≡ Trial seed → ⊥) → ((seed : ℕ) → form ≡ Run (Summary seed) → ⊥) → (words : List (List ℕ)) × (form_of words ≡ Some form)
all_have_words (Run Words) tries sums = (codes "run" ∷ [], refl)
all_have_words (Run Json) tries sums = (codes "run" ∷ codes "--json" ∷ [], refl)
all_have_words (Run Proof) tries sums = (codes "run" ∷ codes "--proof" ∷ [], refl)
all_have_words (Run (Summary seed)) tries sums = absurd (sums seed refl)
all_have_words Show tries sums = (codes "show" ∷ [], refl)
all_have_words (Trial seed) tries sums = absurd (tries seed refl)
all_have_words Check tries sums = (codes "check" ∷ [], refl)
all_have_words Migrate tries sums = (codes "migrate" ∷ [], refl)
all_have_words Want tries sums = (codes "want" ∷ [], refl)
all_have_words Watch tries sums = (codes "watch" ∷ [], refl)
all_have_words Program tries sums = (codes "program" ∷ [], refl)

pub words_are_forms : WordsAreForms
words_are_forms = record {
  all = all_have_words;
  run = refl;
  json = refl;
  proof = refl;
  show = refl;
  check = refl;
  migrate = refl;
  want = refl;
  watch = refl;
  program = refl;
  no_word = refl;
  another = refl;
  one_more = refl;
  migrate_more = refl;
  want_more = refl;
  watch_more = refl;
  program_more = refl;
}
