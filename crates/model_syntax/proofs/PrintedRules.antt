-- The printed lines of rules and failures are read as these.
use Rattle.std.proofs.Common.{◌≡◌, ℕ, ◌<◌, ◌≤◌, ◌^◌, true, false, not, codes, List, [], ◌∷◌, ◌++◌, length, Some, None, All, slice_index, inl, refl, sym, ap, subst, ◌∙◌, arith, length-append, lit<}
use Rattle.std.specs.Prelude.{nat_lt, nat_le}
use Rattle.std.specs.Fmt.{decimal}
use Rattle.std.proofs.lemmas.Bool.{lt-leb, lt-ltb, le-leb, and_from, or_from}
use Rattle.std.proofs.lemmas.List.Elements.{All-head}
use Rattle.list_laws.proofs.Elements.{all_right}
use Rattle.cca_base.specs.declared.formula.Formula.{Formula}
use Rattle.cca_base.specs.declared.formula.Subject.TheVariants as subjects
use Rattle.cca_base.specs.declared.model.Failure.{Failure}
use Rattle.cca_base.specs.declared.limits.TheConstants.{MAX_RULES, MAX_FAILURES, MAX_COST}
use Rattle.cca_base.specs.PlantModel.{PlantModel}
use Rattle.cca_base.specs.Model.{HasMode, IsFormula, IsFailure, mode_counts, with_rule, with_failure}
use Rattle.text_base.specs.Lexemes.{Lexeme, word, number, symbol}
use Rattle.text_base.specs.Chain.{◌>>=◌}
use Rattle.formula_syntax.specs.Grammar.{Whole, spelling}
use Rattle.model_syntax.specs.Items.{Ends}
use Rattle.text_base.specs.Lists.{AreNameWords}
use Rattle.model_syntax.specs.Items as items
use Rattle.formula_syntax.specs.Lookups.{value_of, choices_of}
use Rattle.model_syntax.specs.Codes.{least, as_component, ends_of, rule_code, is_cost, failure_code, failure_code_from}
use Rattle.formula_syntax.specs.Meanings.{whole_formula}
use Rattle.model_syntax.specs.Lines.{Goes, Reads, LineLeads, unless, rule_next, with_fall, failure_next}
use Rattle.model_syntax.specs.Printing.{joined, name_of, name_at, formula_said, rule_said, ends_said, failure_said}
use Rattle.model_syntax.specs.RoundTrip.{AreOfTheirKinds}
use Rattle.model_syntax.proofs.PrintedDeclarations.{none_applies}
use Rattle.model_syntax.proofs.PrintedLines.{begun, line_leads, IsAt, name_there, decimal_digits, IsReadAs, formula_read}
use Rattle.model_syntax.proofs.PrintedNames.{HasNames, IsThere, there}
use Rattle.model_syntax.proofs.PrintedParts.{name_parts, word_kind}

module _ (m : PlantModel) (h : HasNames m) (rules : All (IsFormula m) m.rules) (few : length m.rules ≤ MAX_RULES) where
  -- the model with some of its rules, and without moves and failures
  abbrev pub with_rules : List Formula → PlantModel
  with_rules rs = record { version = m.version; components = m.components; variables = m.variables; rules = rs; commands = []; moves = []; failures = [] }

  module _ (front : List Formula) (f : Formula) (rest : List Formula) (e : front ++ f ∷ rest ≡ m.rules) where
    abbrev n : PlantModel
    n = with_rules front

    sound : IsFormula n f
    sound = let s = All-head (IsFormula m) f rest (all_right (IsFormula m) front (f ∷ rest) (subst (All (IsFormula m)) (sym e) rules)) in record { fits = s.fits; shallow = s.shallow }

    read : IsReadAs n (formula_said m f) f
    read = formula_read n (record { names = h.names; components = h.components; variables = h.variables }) f sound

    room : nat_le MAX_RULES (length front) ≡ false
    room = let a = ap length e in let b = length-append front (f ∷ rest) in lt-leb MAX_RULES (length front) (omega (arith, a, b, few))

    next_is : (t : Whole) → formula_said m f ≡ spelling t → Goes (with_rule n f) ≡ rule_next n t
    unfolding rule_code
    next_is t is =
        let r = read.each t is in
        sym (ap (λ o. unless o (with_rule n (whole_formula n t))) (none_applies _ _ _ 2 3 4 r.0 r.1 (or_from _ _ r.2 room)) ∙ ap (λ g. Goes (with_rule n g)) r.3)

    pub rule_kinds : AreOfTheirKinds (rule_said m f)
    rule_kinds = read.kinds

    pub rule_leads : LineLeads (begun n) (joined (rule_said m f)) (Reads (begun (with_rules (front ++ f ∷ []))))
    rule_leads = line_leads n (rule_said m f) (items.Rule (formula_said m f)) (Goes (with_rule n f)) rule_kinds refl tt (record { of_text = next_is; or_none = inl read.some })

-- ---- ends

module _ (n : PlantModel) (h : HasNames n) (c a b : ℕ) (source : HasMode n c a) (target : HasMode n c b) where
  -- the words of a component and two of its modes
  abbrev pub ends_words : Ends
  ends_words = record { name = name_of n (subjects.Component c); source = name_at (choices_of n (subjects.Component c)) a; target = name_at (choices_of n (subjects.Component c)) b }

  is_there : IsThere n h (subjects.Component c) (slice_index (mode_counts n) c)
  is_there = there n h (subjects.Component c) (omega (arith, source))

  from : IsAt (choices_of n (subjects.Component c)) a (name_at (choices_of n (subjects.Component c)) a)
  from = name_there (choices_of n (subjects.Component c)) a is_there.choices.names (let k = is_there.count in omega (arith, k, source))

  to : IsAt (choices_of n (subjects.Component c)) b (name_at (choices_of n (subjects.Component c)) b)
  to = name_there (choices_of n (subjects.Component c)) b is_there.choices.names (let k = is_there.count in omega (arith, k, target))

  pub ends_found : ends_of n ends_words ≡ Some (c, a, b)
  ends_found =
      ap (λ o. as_component o >>= λ c. value_of n (subjects.Component c) ends_words.source >>= λ a. value_of n (subjects.Component c) ends_words.target >>= λ b. Some (c, a, b)) is_there.subject
      ∙ ap (λ o. o >>= λ a. value_of n (subjects.Component c) ends_words.target >>= λ b. Some (c, a, b)) from.found
      ∙ ap (λ o. o >>= λ b. Some (c, a, b)) to.found

  pub ends_kinds : (rest : List Lexeme) → AreOfTheirKinds rest → AreOfTheirKinds (ends_said n c a b rest)
  ends_kinds rest k =
      word_kind ends_words.name (word ends_words.source ∷ symbol (codes "->") ∷ word ends_words.target ∷ rest) is_there.name
      (word_kind ends_words.source (word ends_words.target ∷ rest) from.name (word_kind ends_words.target rest to.name k))

  pub ends_free : (names : List (List ℕ)) → AreNameWords names → AreNameWords (ends_words.name ∷ ends_words.source ∷ ends_words.target ∷ names)
  ends_free names k = ((name_parts ends_words.name is_there.name).1, ((name_parts ends_words.source from.name).1, ((name_parts ends_words.target to.name).1, k)))

-- ---- failures

module _ (m : PlantModel) (h : HasNames m) (failures : All (IsFailure m) m.failures) (few : length m.failures ≤ MAX_FAILURES) where
  -- the model with some of its failures
  abbrev pub with_failures : List Failure → PlantModel
  with_failures fs = record { version = m.version; components = m.components; variables = m.variables; rules = m.rules; commands = m.commands; moves = m.moves; failures = fs }

  module _ (front : List Failure) (x : Failure) (rest : List Failure) (e : front ++ x ∷ rest ≡ m.failures) where
    abbrev k : PlantModel
    k = with_failures front

    known : HasNames k
    known = record { names = h.names; components = h.components; variables = h.variables }

    failure_sound : IsFailure m x
    failure_sound = All-head (IsFailure m) x rest (all_right (IsFailure m) front (x ∷ rest) (subst (All (IsFailure m)) (sym e) failures))

    space : nat_le MAX_FAILURES (length front) ≡ false
    space = let a = ap length e in let b = length-append front (x ∷ rest) in lt-leb MAX_FAILURES (length front) (omega (arith, a, b, few))

    abbrev words : Ends
    words = ends_words k known x.component x.source x.target failure_sound.source failure_sound.target

    found : ends_of k words ≡ Some (x.component, x.source, x.target)
    found = ends_found k known x.component x.source x.target failure_sound.source failure_sound.target

    cost : is_cost x.cost ≡ true
    cost = let a = failure_sound.costs in let b = failure_sound.cheap in and_from (nat_lt 0 x.cost) (nat_le x.cost MAX_COST) (lt-ltb 0 x.cost a) (le-leb x.cost MAX_COST b)

    no_code : failure_code_from k (Some (x.component, x.source, x.target)) x.cost ≡ None
    no_code = ap (λ b. least ((4, b) ∷ [])) (or_from (not (is_cost x.cost)) (nat_le MAX_FAILURES (length front)) (ap not cost) space)

    next_of : Goes (with_failure k x) ≡ failure_next k words x.cost
    unfolding failure_code
    next_of = sym (ap (λ o. unless (failure_code_from k o x.cost) (with_fall k o x.cost)) found ∙ ap (λ o. unless o (with_failure k x)) no_code)

    pub failure_kinds : AreOfTheirKinds (failure_said m x)
    failure_kinds =
        let small : x.cost < 10 ^ 64 = let b = failure_sound.cheap in let low : MAX_COST < 10 ^ 64 = lit< tt in omega (arith, b, low) in
        ends_kinds k known x.component x.source x.target failure_sound.source failure_sound.target (word (codes "cost") ∷ number (decimal x.cost) ∷ []) (and_from _ true (decimal_digits x.cost small) refl)

    pub failure_leads : LineLeads (begun k) (joined (failure_said m x)) (Reads (begun (with_failures (front ++ x ∷ []))))
    failure_leads =
        let short : x.cost < 2 ^ 128 = let b = failure_sound.cheap in let low : MAX_COST < 2 ^ 128 = lit< tt in omega (arith, b, low) in
        line_leads k (failure_said m x) (items.Failure words (decimal x.cost)) (Goes (with_failure k x)) failure_kinds refl
        (ends_free k known x.component x.source x.target failure_sound.source failure_sound.target [] tt) (inl (x.cost, short, refl, next_of))
