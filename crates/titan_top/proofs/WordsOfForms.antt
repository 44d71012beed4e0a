-- Words of no form, and words of a form.
use Rattle.std.proofs.Common.{◌≡◌, ℕ, ◌⊎◌, inl, inr, List, Option, Some, None, refl, sym, subst, ◌∙◌}
use Rattle.std.specs.Global.{Global}
use Rattle.std.specs.Prelude.{IfSome, String}
use Rattle.titan_top.specs.declared.status.Status.{Status}
use Rattle.titan_top.specs.declared.status.Status.TheVariants.{Usage, WriteFault, Memory}
use Rattle.titan_top.specs.declared.words.Form.{Form}
use Rattle.titan_top.specs.Output.{Outcome, usage, IsOutcomeFor, IsOutcomeOf, IsOutcome}
use Rattle.titan_top.specs.Streams.{OfInput, input_for}
use Rattle.titan_top.specs.Wire.{Writes, WritesAs}
use Rattle.titan_top.specs.Words.{asked}

-- ---- words of no form

module _ (words : List (String Global)) (none : asked words ≡ None) where
  usage_is : (input : List ℕ) → IsOutcome words input usage
  unfolding IsOutcome
  usage_is input = subst (λ (f : Option Form). IsOutcomeOf f input usage) (sym none) refl

  usage_only : (input : List ℕ) (o : Outcome) → IsOutcome words input o → o ≡ usage
  unfolding IsOutcome
  usage_only input o is = subst (λ (f : Option Form). IsOutcomeOf f input o) none is

  usage_one : (t : Status) (old now : Option (List ℕ)) (input : List ℕ) → Writes t old now usage → WritesAs t old now (IsOutcome words input)
  usage_one t old now input h = record { each = λ o is. subst (Writes t old now) (sym (usage_only input o is)) h; some = inr (usage, usage_is input) }

  pub usage_answers : (t : Status) (left old now : Option (List ℕ)) → Writes t old now usage → IfSome left (λ b. WritesAs t old now (IsOutcome words b))
  usage_answers t None old now h = tt
  usage_answers t (Some b) old now h = usage_one t old now b h

  usage_status : (t : Status) → (t ≡ Usage) ⊎ (t ≡ WriteFault) → (t ≡ WriteFault → ⊥) → t ≡ Usage
  usage_status t (inl e) quiet = e
  usage_status t (inr e) quiet = absurd (quiet e)

  pub usage_completes : (t : Status) (left : Option (List ℕ)) → (t ≡ Usage) ⊎ (t ≡ WriteFault) → (t ≡ WriteFault → ⊥) → IfSome left (λ b. ((o : Outcome) × IsOutcome words b o × (t ≡ o.status)) ⊎ (t ≡ Memory))
  usage_completes t None only quiet = tt
  usage_completes t (Some b) only quiet = inl (usage, usage_is b, usage_status t only quiet)

-- ---- words of a form

module _ (words : List (String Global)) (form : Form) (is : Some form ≡ asked words) where
  form_is : (input : List ℕ) (o : Outcome) → IsOutcomeFor form input o → IsOutcome words input o
  unfolding IsOutcome
  form_is input o h = subst (λ (f : Option Form). IsOutcomeOf f input o) is h

  is_form : (input : List ℕ) (o : Outcome) → IsOutcome words input o → IsOutcomeFor form input o
  unfolding IsOutcome
  is_form input o h = subst (λ (f : Option Form). IsOutcomeOf f input o) (sym is) h

  to_words : (t : Status) (old now : Option (List ℕ)) (b : List ℕ) → WritesAs t old now (IsOutcomeFor form b) → WritesAs t old now (IsOutcome words b)
  to_words t old now b a = record {
    each = λ o k. a.each o (is_form b o k);
    some = elim a.some [ inl cut ↦ inl cut | inr (o, k) ↦ inr (o, form_is b o k) ];
  }

  form_text : (t : Status) (left old now : Option (List ℕ)) → IfSome left (λ b. WritesAs t old now (IsOutcomeFor form b)) → IfSome left (λ b. WritesAs t old now (IsOutcome words b))
  form_text t None old now h = tt
  form_text t (Some b) old now h = to_words t old now b h

  -- what is said of the form and of the input that it reads is said of the words
  pub all_words : (P : Option Form → List ℕ → Type 0) (left : Option (List ℕ)) → OfInput (Some form) left (P (Some form)) → OfInput (asked words) left (P (asked words))
  all_words P left h = subst (λ (f : Option Form). OfInput f left (P f)) is h

  pub form_writes : (t : Status) (left old now : Option (List ℕ)) → OfInput (Some form) left (λ b. WritesAs t old now (IsOutcomeFor form b)) → OfInput (asked words) left (λ b. WritesAs t old now (IsOutcome words b))
  form_writes t left old now h = all_words (λ f b. WritesAs t old now (IsOutcome words b)) left (form_text t (input_for (Some form) left) old now h)

  -- the words' form is this one
  pub the_form : (other : Form) → asked words ≡ Some other → form ≡ other
  the_form other h = same_form form other (is ∙ h)
    where
      same_form : (a b : Form) → Some a ≡ Some b → a ≡ b
      same_form a b e = cc
