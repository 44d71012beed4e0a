-- Each formula's text is read, as what its parts say.
use Rattle.std.proofs.Common.{◌≡◌, ℕ, ◌+◌, Bool, true, false, codes, List, [], ◌∷◌, Option, Some, None, refl, ap, ◌∙◌, add-one}
use Rattle.std.proofs.lemmas.Bool.{or_parts}
use Rattle.std.specs.Str.{bytes_eq}
use Rattle.cca_base.specs.PlantModel.{PlantModel}
use Rattle.cca_base.specs.Names.{is_reserved}
use Rattle.text_base.specs.Lexemes.{Lexeme, word, symbol}
use Rattle.formula_syntax.specs.declared.read_part.ReadPart.{ReadPart}
use Rattle.formula_syntax.specs.declared.read_parts.ReadParts.{ReadParts}
use Rattle.formula_syntax.specs.declared.atom.Atom.{Atom}
use Rattle.formula_syntax.specs.declared.formula_parser.Connective.{Connective}
use Rattle.formula_syntax.specs.declared.formula_parser.Connective.TheVariants as link
use Rattle.formula_syntax.specs.declared.formula_parser.Side.{Side}
use Rattle.formula_syntax.specs.declared.formula_parser.Level.{Level}
use Rattle.formula_syntax.specs.declared.formula_parser.Expected.{Expected}
use Rattle.formula_syntax.specs.declared.formula_parser.Expected.TheVariants.{Operand, Operator, Named, Compared, Listed, Followed}
use Rattle.formula_syntax.specs.Grammar.{NameWord, Factor, Conjunction, Disjunction, Whole, True, False, Equal, Differs, In, Not, Parens, Single, And, Case, Or, Plain, Implies, Iff, name_word, values_spelled, factor_spelled, conjunction_spelled, disjunction_spelled, whole_spelled}
use Rattle.formula_syntax.specs.ReadParts.{any_of, all_of, named, with_value, among, negated, enclosed}
use Rattle.formula_syntax.specs.FormulaParser.{State, start, fresh, nots, more_or_one, completed, level_read, step, ended, run}
use Rattle.formula_syntax.proofs.TextReadings.{with_values, factor_read, conjunction_read, disjunction_read, whole_read}

-- a level at a place
abbrev pub here : List Level → Level → Expected → State
here outer level place = record { outer = outer; level = level; place = place }

-- a level by its parts
abbrev pub level : Option Side → Option ReadParts → Option ReadParts → ℕ → Level
level left any all n = record { left = left; any = any; all = all; nots = n }

-- a word that may be a name is none of the words that begin a factor
pub record BeginsNone (text : List ℕ) : Type 0 where
  pub not_word : bytes_eq text (codes "not") ≡ false
  pub true_word : bytes_eq text (codes "true") ≡ false
  pub false_word : bytes_eq text (codes "false") ≡ false

pub begins_none : (text : List ℕ) → is_reserved text ≡ false → BeginsNone text
begins_none text free =
    let test : List ℕ → Bool = bytes_eq text in
    let a = or_parts (test (codes "and")) _ free in
    let b = or_parts (test (codes "or")) _ a.1 in
    let c = or_parts (test (codes "not")) _ b.1 in
    let d = or_parts (test (codes "in")) _ c.1 in
    let e = or_parts (test (codes "implies")) _ d.1 in
    let f = or_parts (test (codes "iff")) _ e.1 in
    let g = or_parts (test (codes "true")) _ f.1 in
    let h = or_parts (test (codes "false")) _ g.1 in
    record { not_word = c.0; true_word = g.0; false_word = h.0 }

module _ (strict : Bool) (m : PlantModel) where
  abbrev Runs : State → List Lexeme → State → List Lexeme → Type 0
  Runs s ls t rest = run strict m s ls ≡ run strict m t rest

  -- the names of atoms and their values
  name_goes : (outer : List Level) (k : Level) (name : NameWord) (rest : List Lexeme)
      → Runs (here outer k Operand) (name_word name ∷ rest) (here outer k (Named (named m name.text))) rest
  unfolding run step
  name_goes outer k name rest =
      let b = begins_none name.text name.free in
      rw (name.free, b.not_word, b.true_word, b.false_word) refl

  compared_goes : (outer : List Level) (k : Level) (atom : Atom) (value : NameWord) (rest : List Lexeme)
      → Runs (here outer k (Compared atom false)) (name_word value ∷ rest) (here outer (completed k (among (with_value strict m atom value.text))) Operator) rest
  unfolding run step
  compared_goes outer k atom value rest = rw value.free refl

  differs_goes : (outer : List Level) (k : Level) (atom : Atom) (value : NameWord) (rest : List Lexeme)
      → Runs (here outer k (Compared atom true)) (name_word value ∷ rest) (here outer (completed k (negated (among (with_value strict m atom value.text)))) Operator) rest
  unfolding run step
  differs_goes outer k atom value rest = rw value.free refl

  listed_goes : (outer : List Level) (k : Level) (atom : Atom) (value : NameWord) (rest : List Lexeme)
      → Runs (here outer k (Listed atom)) (name_word value ∷ rest) (here outer k (Followed (with_value strict m atom value.text))) rest
  unfolding run step
  listed_goes outer k atom value rest = rw value.free refl

  values_go : (outer : List Level) (k : Level) (atom : Atom) (values : List NameWord) (rest : List Lexeme)
      → Runs (here outer k (Followed atom)) (values_spelled values rest) (here outer (completed k (among (with_values strict m atom values))) Operator) rest
  unfolding run step
  values_go outer k atom [] rest = refl
  values_go outer k atom (value ∷ values) rest =
      listed_goes outer k atom value (values_spelled values rest) ∙ values_go outer k (with_value strict m atom value.text) values rest

  -- the cases before the last one of a disjunction, and that one
  abbrev pub before : Disjunction → Option ReadParts
  before (Case part) = None
  before (Or front last) = Some (disjunction_read strict m front)

  abbrev pub last_of : Disjunction → ReadParts
  last_of (Case part) = conjunction_read strict m part
  last_of (Or front last) = conjunction_read strict m last

  all_cases : (d : Disjunction) → more_or_one (before d) (all_of (last_of d)) ≡ disjunction_read strict m d
  all_cases (Case part) = refl
  all_cases (Or front last) = refl

  -- a level at its end
  abbrev pub whole_level : Whole → Level
  whole_level (Plain part) = level None (before part) (Some (last_of part)) 0
  whole_level (Implies a b) = level (Some (record { link = link.Implies; reading = any_of (disjunction_read strict m a) })) (before b) (Some (last_of b)) 0
  whole_level (Iff a b) = level (Some (record { link = link.Iff; reading = any_of (disjunction_read strict m a) })) (before b) (Some (last_of b)) 0

  whole_ends : (t : Whole) → level_read (whole_level t) ≡ Some (whole_read strict m t)
  whole_ends (Plain part) = rw (all_cases part) refl
  whole_ends (Implies a b) = rw (all_cases b) refl
  whole_ends (Iff a b) = rw (all_cases b) refl

  or_goes : (outer : List Level) (left : Option Side) (d : Disjunction) (rest : List Lexeme)
      → Runs (here outer (level left (before d) (Some (last_of d)) 0) Operator) (word (codes "or") ∷ rest) (here outer (level left (Some (disjunction_read strict m d)) None 0) Operand) rest
  unfolding run step
  or_goes outer left d rest = rw (all_cases d) refl

  link_goes : (outer : List Level) (l : Connective) (d : Disjunction) (rest : List Lexeme)
      → Runs (here outer (level None (before d) (Some (last_of d)) 0) Operator) (word (elim l [ link.Implies ↦ codes "implies" | link.Iff ↦ codes "iff" ]) ∷ rest)
      (here outer (level (Some (record { link = l; reading = any_of (disjunction_read strict m d) })) None None 0) Operand) rest
  unfolding run step
  link_goes outer link.Implies d rest = rw (all_cases d) refl
  link_goes outer link.Iff d rest = rw (all_cases d) refl

  close_goes : (outer : List Level) (k : Level) (t : Whole) (rest : List Lexeme)
      → Runs (here (k ∷ outer) (whole_level t) Operator) (symbol (codes ")") ∷ rest) (here outer (completed k (enclosed (whole_read strict m t))) Operator) rest
  unfolding run step
  close_goes outer k t rest = rw (whole_ends t) refl

  and_goes : (outer : List Level) (k : Level) (rest : List Lexeme) → Runs (here outer k Operator) (word (codes "and") ∷ rest) (here outer k Operand) rest
  unfolding run step
  and_goes outer k rest = refl

  not_goes : (outer : List Level) (k : Level) (rest : List Lexeme) → Runs (here outer k Operand) (word (codes "not") ∷ rest) (here outer (level k.left k.any k.all (k.nots + 1)) Operand) rest
  unfolding run step
  not_goes outer k rest = refl

  open_goes : (outer : List Level) (k : Level) (rest : List Lexeme) → Runs (here outer k Operand) (symbol (codes "(") ∷ rest) (here (k ∷ outer) fresh Operand) rest
  unfolding run step
  open_goes outer k rest = refl

  true_goes : (outer : List Level) (k : Level) (rest : List Lexeme) → Runs (here outer k Operand) (word (codes "true") ∷ rest) (here outer (completed k (factor_read strict m True)) Operator) rest
  unfolding run step
  true_goes outer k rest = refl

  false_goes : (outer : List Level) (k : Level) (rest : List Lexeme) → Runs (here outer k Operand) (word (codes "false") ∷ rest) (here outer (completed k (factor_read strict m False)) Operator) rest
  unfolding run step
  false_goes outer k rest = refl

  equals_goes : (outer : List Level) (k : Level) (atom : Atom) (rest : List Lexeme) → Runs (here outer k (Named atom)) (symbol (codes "=") ∷ rest) (here outer k (Compared atom false)) rest
  unfolding run step
  equals_goes outer k atom rest = refl

  unequal_goes : (outer : List Level) (k : Level) (atom : Atom) (rest : List Lexeme) → Runs (here outer k (Named atom)) (symbol (codes "!=") ∷ rest) (here outer k (Compared atom true)) rest
  unfolding run step
  unequal_goes outer k atom rest = refl

  in_goes : (outer : List Level) (k : Level) (atom : Atom) (rest : List Lexeme) → Runs (here outer k (Named atom)) (word (codes "in") ∷ symbol (codes "{") ∷ rest) (here outer k (Listed atom)) rest
  unfolding run step
  in_goes outer k atom rest = refl

  one_more_not : (k : Level) (x : ReadPart) → completed (level k.left k.any k.all (k.nots + 1)) x ≡ completed k (negated x)
  one_more_not k x = ap (λ (n : ℕ). level k.left k.any (Some (more_or_one k.all (nots n x))) 0) (add-one k.nots)

  mutual
    factor_runs : (t : Factor) (outer : List Level) (k : Level) (rest : List Lexeme)
        → Runs (here outer k Operand) (factor_spelled t rest) (here outer (completed k (factor_read strict m t)) Operator) rest
    factor_runs True outer k rest = true_goes outer k rest
    factor_runs False outer k rest = false_goes outer k rest
    factor_runs (Equal name value) outer k rest =
        name_goes outer k name (symbol (codes "=") ∷ name_word value ∷ rest)
        ∙ equals_goes outer k (named m name.text) (name_word value ∷ rest)
        ∙ compared_goes outer k (named m name.text) value rest
    factor_runs (Differs name value) outer k rest =
        name_goes outer k name (symbol (codes "!=") ∷ name_word value ∷ rest)
        ∙ unequal_goes outer k (named m name.text) (name_word value ∷ rest)
        ∙ differs_goes outer k (named m name.text) value rest
    factor_runs (In name first values) outer k rest =
        name_goes outer k name (word (codes "in") ∷ symbol (codes "{") ∷ name_word first ∷ values_spelled values rest)
        ∙ in_goes outer k (named m name.text) (name_word first ∷ values_spelled values rest)
        ∙ listed_goes outer k (named m name.text) first (values_spelled values rest)
        ∙ values_go outer k (with_value strict m (named m name.text) first.text) values rest
    factor_runs (Not part) outer k rest =
        not_goes outer k (factor_spelled part rest)
        ∙ factor_runs part outer (level k.left k.any k.all (k.nots + 1)) rest
        ∙ ap (λ (x : Level). run strict m (here outer x Operator) rest) (one_more_not k (factor_read strict m part))
    factor_runs (Parens part) outer k rest =
        open_goes outer k (whole_spelled part (symbol (codes ")") ∷ rest))
        ∙ whole_runs part (k ∷ outer) (symbol (codes ")") ∷ rest)
        ∙ close_goes outer k part rest

    conjunction_runs : (c : Conjunction) (outer : List Level) (left : Option Side) (any : Option ReadParts) (rest : List Lexeme)
        → Runs (here outer (level left any None 0) Operand) (conjunction_spelled c rest) (here outer (level left any (Some (conjunction_read strict m c)) 0) Operator) rest
    conjunction_runs (Single part) outer left any rest = factor_runs part outer (level left any None 0) rest
    conjunction_runs (And front last) outer left any rest =
        conjunction_runs front outer left any (word (codes "and") ∷ factor_spelled last rest)
        ∙ and_goes outer (level left any (Some (conjunction_read strict m front)) 0) (factor_spelled last rest)
        ∙ factor_runs last outer (level left any (Some (conjunction_read strict m front)) 0) rest

    disjunction_runs : (d : Disjunction) (outer : List Level) (left : Option Side) (rest : List Lexeme)
        → Runs (here outer (level left None None 0) Operand) (disjunction_spelled d rest) (here outer (level left (before d) (Some (last_of d)) 0) Operator) rest
    disjunction_runs (Case part) outer left rest = conjunction_runs part outer left None rest
    disjunction_runs (Or front last) outer left rest =
        disjunction_runs front outer left (word (codes "or") ∷ conjunction_spelled last rest)
        ∙ or_goes outer left front (conjunction_spelled last rest)
        ∙ conjunction_runs last outer left (Some (disjunction_read strict m front)) rest

    whole_runs : (t : Whole) (outer : List Level) (rest : List Lexeme)
        → Runs (here outer fresh Operand) (whole_spelled t rest) (here outer (whole_level t) Operator) rest
    whole_runs (Plain part) outer rest = disjunction_runs part outer None rest
    whole_runs (Implies a b) outer rest =
        disjunction_runs a outer None (word (codes "implies") ∷ disjunction_spelled b rest)
        ∙ link_goes outer link.Implies a (disjunction_spelled b rest)
        ∙ disjunction_runs b outer (Some (record { link = link.Implies; reading = any_of (disjunction_read strict m a) })) rest
    whole_runs (Iff a b) outer rest =
        disjunction_runs a outer None (word (codes "iff") ∷ disjunction_spelled b rest)
        ∙ link_goes outer link.Iff a (disjunction_spelled b rest)
        ∙ disjunction_runs b outer (Some (record { link = link.Iff; reading = any_of (disjunction_read strict m a) })) rest

  -- all of a formula's text
  pub text_is_read : (t : Whole) → run strict m start (whole_spelled t []) ≡ Some (whole_read strict m t)
  unfolding run ended
  text_is_read t = whole_runs t [] [] ∙ whole_ends t
