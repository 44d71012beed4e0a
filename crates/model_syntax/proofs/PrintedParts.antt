-- A printed text stands in another as it is, or in parentheses where they are needed.
use Rattle.std.proofs.Common.{◌≡◌, ℕ, zero, suc, ◌+◌, ◌<◌, Bool, true, false, not, ◌&&◌, codes, List, [], ◌∷◌, ◌++◌, length, Some, refl, sym, ap, subst, ◌∙◌, arith, append_assoc}
use Rattle.std.specs.Prelude.{nat_le, is_some}
use Rattle.std.specs.List.{list_all, list_any}
use Rattle.std.proofs.lemmas.Bool.{and_parts, and_from}
use Rattle.std.proofs.lemmas.List.Folds.{list_all-append}
use Rattle.cca_base.specs.declared.formula.Formula.{Formula, roll-Formula}
use Rattle.cca_base.specs.declared.formula.Formula.TheOpen.{Formula-F}
use Rattle.cca_base.specs.declared.formula.Formula.TheFolds.{fold-Formula}
use Rattle.cca_base.specs.declared.formula.Subject.{Subject}
use Rattle.cca_base.specs.declared.limits.TheConstants.{MAX_NAME}
use Rattle.cca_base.specs.PlantModel.{PlantModel}
use Rattle.cca_base.specs.Names.{is_name, is_word, is_reserved}
use Rattle.cca_base.specs.Formula.{Printed, part_depth, printed_step}
use Rattle.text_base.specs.Tokens.{is_of_kind}
use Rattle.text_base.specs.Lexemes.{Lexeme, word, symbol, comma}
use Rattle.formula_syntax.specs.Grammar.{Factor, Conjunction, Disjunction, Whole, Not, Parens, Single, Case, Plain, factor_spelled, conjunction_spelled, disjunction_spelled, whole_spelled}
use Rattle.text_base.specs.Lists.{names_spelled}
use Rattle.formula_syntax.specs.Lookups.{subject_of, value_of}
use Rattle.formula_syntax.specs.Meanings.{Comparison, is_unknown, has_twice, with_numbers, factor_depth, conjunction_depth, disjunction_depth, whole_depth, factor_comparisons, conjunction_comparisons, disjunction_comparisons, whole_comparisons, factor_formula, conjunction_formula, disjunction_formula, whole_formula}
use Rattle.model_syntax.specs.Printing.{Said, part_said, plainly, name_of}
use Rattle.model_syntax.specs.RoundTrip.{AreOfTheirKinds}

-- a formula's printed depth
abbrev pub printed : Formula → Printed
printed = fold-Formula Printed printed_step

pub kinds_append : (ls ms : List Lexeme) → AreOfTheirKinds ls → AreOfTheirKinds ms → AreOfTheirKinds (ls ++ ms)
kinds_append ls ms h k = list_all-append (λ l. is_of_kind l.0 l.1) ls ms ∙ and_from _ _ h k

-- ---- names

pub name_parts : (name : List ℕ) → is_name name ≡ true → (is_word name ≡ true) × (is_reserved name ≡ false)
name_parts name h =
    let p = and_parts (is_word name) (nat_le (length name) MAX_NAME && not (is_reserved name)) h in
    let q = and_parts (nat_le (length name) MAX_NAME) (not (is_reserved name)) p.1 in
    (p.0, free (is_reserved name) q.1)
  where
    free : (b : Bool) → not b ≡ true → b ≡ false
    free true e = absurd cc
    free false e = refl

pub word_kind : (name : List ℕ) (ls : List Lexeme) → is_name name ≡ true → AreOfTheirKinds ls → AreOfTheirKinds (word name ∷ ls)
word_kind name ls h k = and_from (is_word name) _ (name_parts name h).0 k

pub names_kinds : (v : List ℕ) (names : List (List ℕ)) → list_all is_name (v ∷ names) ≡ true → AreOfTheirKinds (names_spelled v names)
names_kinds v [] h = word_kind v [] (and_parts (is_name v) true h).0 refl
names_kinds v (n ∷ ns) h = let p = and_parts (is_name v) (list_all is_name (n ∷ ns)) h in word_kind v (comma ∷ names_spelled n ns) p.0 (names_kinds n ns p.1)

module _ (m : PlantModel) where
  -- the words of a set are these names, and are read as the set
  pub record IsAtom (s : Subject) (set : ℕ) (names : List (List ℕ)) : Type 0 where
    pub some : 0 < set
    pub name : is_name (name_of m s) ≡ true
    pub subject : subject_of m (name_of m s) ≡ Some s
    pub named : list_all is_name names ≡ true
    pub known : list_any (λ v. not (is_some (value_of m s v))) names ≡ false
    pub once : has_twice names ≡ false
    pub gives : with_numbers m s 0 names ≡ set

  -- a text is spelled by these lexemes, means the formula, is so deep, and names what is declared and each value once
  pub record IsText (spelled : List Lexeme → List Lexeme) (means : Formula) (deep : ℕ) (comparisons : List Comparison) (tokens : List Lexeme) (f : Formula) (d : ℕ) : Type 0 where
    pub same : (rest : List Lexeme) → spelled rest ≡ tokens ++ rest
    pub formula : means ≡ f
    pub depth : deep ≡ d
    pub known : list_any (is_unknown m) comparisons ≡ false
    pub once : list_any (λ c. has_twice c.values) comparisons ≡ false
    pub kinds : AreOfTheirKinds tokens

  abbrev pub FactorText : List Lexeme → Formula → ℕ → Type 0
  FactorText tokens f d = (t : Factor) × IsText (factor_spelled t) (factor_formula m t) (factor_depth t) (factor_comparisons t) tokens f d

  abbrev pub ConjunctionText : List Lexeme → Formula → ℕ → Type 0
  ConjunctionText tokens f d = (t : Conjunction) × IsText (conjunction_spelled t) (conjunction_formula m t) (conjunction_depth t) (conjunction_comparisons t) tokens f d

  abbrev pub DisjunctionText : List Lexeme → Formula → ℕ → Type 0
  DisjunctionText tokens f d = (t : Disjunction) × IsText (disjunction_spelled t) (disjunction_formula m t) (disjunction_depth t) (disjunction_comparisons t) tokens f d

  abbrev pub WholeText : List Lexeme → Formula → ℕ → Type 0
  WholeText tokens f d = (t : Whole) × IsText (whole_spelled t) (whole_formula m t) (whole_depth t) (whole_comparisons t) tokens f d

  -- a text whose outermost word binds so loosely
  abbrev pub AtLevel : ℕ → List Lexeme → Formula → ℕ → Type 0
  AtLevel zero tokens f d = FactorText tokens f d
  AtLevel (suc zero) tokens f d = ConjunctionText tokens f d
  AtLevel (suc (suc zero)) tokens f d = DisjunctionText tokens f d
  AtLevel (suc (suc (suc zero))) tokens f d = WholeText tokens f d
  AtLevel (suc (suc (suc (suc n)))) tokens f d = ⊥

  pub whole_at : (n : ℕ) (tokens : List Lexeme) (f : Formula) (d : ℕ) → AtLevel n tokens f d → WholeText tokens f d
  whole_at zero tokens f d x = (Plain (Case (Single x.0)), x.1)
  whole_at (suc zero) tokens f d x = (Plain (Case x.0), x.1)
  whole_at (suc (suc zero)) tokens f d x = (Plain x.0, x.1)
  whole_at (suc (suc (suc zero))) tokens f d x = x
  whole_at (suc (suc (suc (suc n)))) tokens f d x = absurd x

  enclosed : (tokens : List Lexeme) (f : Formula) (d : ℕ) → WholeText tokens f d → FactorText (symbol (codes "(") ∷ tokens ++ symbol (codes ")") ∷ []) f (d + 1)
  enclosed tokens f d x =
      let close = symbol (codes ")") ∷ [] in (
        Parens x.0,
        record {
          same = λ rest. ap (λ ls. symbol (codes "(") ∷ ls) (x.1.same (symbol (codes ")") ∷ rest) ∙ sym (append_assoc tokens close rest));
          formula = x.1.formula;
          depth = ap (λ n. n + 1) x.1.depth;
          known = x.1.known;
          once = x.1.once;
          kinds = kinds_append tokens close x.1.kinds refl;
        },
      )

  -- a text as a part of another, in parentheses where they are needed
  tight_part : (n : ℕ) (tokens denied : List Lexeme) (f : Formula) (d : ℕ) → AtLevel n tokens f d
      → FactorText (part_said 0 (record { precedence = n; tokens = tokens; denied = denied })) f (part_depth 0 (record { precedence = n; depth = d }))
  tight_part zero tokens denied f d x = x
  tight_part (suc zero) tokens denied f d x = enclosed tokens f d (whole_at 1 tokens f d x)
  tight_part (suc (suc zero)) tokens denied f d x = enclosed tokens f d (whole_at 2 tokens f d x)
  tight_part (suc (suc (suc zero))) tokens denied f d x = enclosed tokens f d x
  tight_part (suc (suc (suc (suc n)))) tokens denied f d x = absurd x

  case_part : (n : ℕ) (tokens denied : List Lexeme) (f : Formula) (d : ℕ) → AtLevel n tokens f d
      → ConjunctionText (part_said 1 (record { precedence = n; tokens = tokens; denied = denied })) f (part_depth 1 (record { precedence = n; depth = d }))
  case_part zero tokens denied f d x = (Single x.0, x.1)
  case_part (suc zero) tokens denied f d x = x
  case_part (suc (suc zero)) tokens denied f d x = let y = enclosed tokens f d (whole_at 2 tokens f d x) in (Single y.0, y.1)
  case_part (suc (suc (suc zero))) tokens denied f d x = let y = enclosed tokens f d x in (Single y.0, y.1)
  case_part (suc (suc (suc (suc n)))) tokens denied f d x = absurd x

  side_part : (n : ℕ) (tokens denied : List Lexeme) (f : Formula) (d : ℕ) → AtLevel n tokens f d
      → DisjunctionText (part_said 2 (record { precedence = n; tokens = tokens; denied = denied })) f (part_depth 2 (record { precedence = n; depth = d }))
  side_part zero tokens denied f d x = (Case (Single x.0), x.1)
  side_part (suc zero) tokens denied f d x = (Case x.0, x.1)
  side_part (suc (suc zero)) tokens denied f d x = x
  side_part (suc (suc (suc zero))) tokens denied f d x = let y = enclosed tokens f d x in (Case (Single y.0), y.1)
  side_part (suc (suc (suc (suc n)))) tokens denied f d x = absurd x

  -- what is said of a formula is its text, and so is what denies it
  pub record IsPrintedAs (s : Said) (p : Printed) (f : Formula) : Type 0 where
    pub precedence : s.precedence ≡ p.precedence
    pub text : AtLevel s.precedence s.tokens f p.depth
    pub denial : FactorText s.denied (roll-Formula (Formula-F.Not f)) (1 + part_depth 0 p)

  module _ (s : Said) (p : Printed) (f : Formula) (h : IsPrintedAs s p f) where
    same_depth : (allowed : ℕ) → part_depth allowed (record { precedence = s.precedence; depth = p.depth }) ≡ part_depth allowed p
    same_depth allowed = ap (λ n. part_depth allowed (record { precedence = n; depth = p.depth })) h.precedence

    pub tight : FactorText (part_said 0 s) f (part_depth 0 p)
    tight = subst (FactorText (part_said 0 s) f) (same_depth 0) (tight_part s.precedence s.tokens s.denied f p.depth h.text)

    pub in_case : ConjunctionText (part_said 1 s) f (part_depth 1 p)
    in_case = subst (ConjunctionText (part_said 1 s) f) (same_depth 1) (case_part s.precedence s.tokens s.denied f p.depth h.text)

    pub in_side : DisjunctionText (part_said 2 s) f (part_depth 2 p)
    in_side = subst (DisjunctionText (part_said 2 s) f) (same_depth 2) (side_part s.precedence s.tokens s.denied f p.depth h.text)

  negated : (tokens : List Lexeme) (f : Formula) (d : ℕ) → FactorText tokens f d → FactorText (word (codes "not") ∷ tokens) (roll-Formula (Formula-F.Not f)) (1 + d)
  negated tokens f d x = (
    Not x.0,
    record {
      same = λ rest. ap (λ ls. word (codes "not") ∷ ls) (x.1.same rest);
      formula = ap (λ g. roll-Formula (Formula-F.Not g)) x.1.formula;
      depth = let e = x.1.depth in omega (arith, e);
      known = x.1.known;
      once = x.1.once;
      kinds = x.1.kinds;
    },
  )

  -- what is denied by the word `not`
  pub by_not : (n : ℕ) (tokens : List Lexeme) (f : Formula) (d : ℕ) → AtLevel n tokens f d → IsPrintedAs (plainly n tokens) (record { precedence = n; depth = d }) f
  by_not n tokens f d x = record {
    precedence = refl;
    text = x;
    denial = negated _ f (part_depth 0 (record { precedence = n; depth = d })) (tight_part n tokens [] f d x);
  }
