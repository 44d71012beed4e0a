-- What words ask for: the words of each form but a trial, and words that are none.
use Rattle.std.specs.Prelude.{◌≡◌, ℕ, List, [], ◌∷◌, None, Some, codes}
use Rattle.run_form.specs.declared.notation.Notation.TheVariants.{Words, Json, Proof, Summary}
use Rattle.titan_top.specs.Words.{form_of}
use Rattle.titan_top.specs.declared.words.Form.{Form}
use Rattle.titan_top.specs.declared.words.Form.TheVariants.{Run, Show, Trial, Check, Migrate, Want, Watch, Program}

-- each form but a trial has its words, all of them; no word, another one, or one more is none
pub record WordsAreForms : Type 0 where
  pub all : (form : Form) → ((seed : ℕ) → form ≡ Trial seed → ⊥) → ((seed : ℕ) → form ≡ Run (Summary seed) → ⊥) → (words : List (List ℕ)) × (form_of words ≡ Some form)
  pub run : form_of (codes "run" ∷ []) ≡ Some (Run Words)
  pub json : form_of (codes "run" ∷ codes "--json" ∷ []) ≡ Some (Run Json)
  pub proof : form_of (codes "run" ∷ codes "--proof" ∷ []) ≡ Some (Run Proof)
  pub show : form_of (codes "show" ∷ []) ≡ Some Show
  pub check : form_of (codes "check" ∷ []) ≡ Some Check
  pub migrate : form_of (codes "migrate" ∷ []) ≡ Some Migrate
  pub want : form_of (codes "want" ∷ []) ≡ Some Want
  pub watch : form_of (codes "watch" ∷ []) ≡ Some Watch
  pub program : form_of (codes "program" ∷ []) ≡ Some Program
  pub no_word : form_of [] ≡ None
  pub another : form_of (codes "shown" ∷ []) ≡ None
  pub one_more : form_of (codes "show" ∷ codes "--json" ∷ []) ≡ None
  pub migrate_more : form_of (codes "migrate" ∷ codes "--json" ∷ []) ≡ None
  pub want_more : form_of (codes "want" ∷ codes "--json" ∷ []) ≡ None
  pub watch_more : form_of (codes "watch" ∷ codes "--json" ∷ []) ≡ None
  pub program_more : form_of (codes "program" ∷ codes "--json" ∷ []) ≡ None
