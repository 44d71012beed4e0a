-- Only a formula's text is read.
use Rattle.std.proofs.Common.{◌≡◌, ℕ, zero, suc, ◌+◌, Bool, true, false, codes, List, [], ◌∷◌, ◌++◌, map, Option, Some, None, refl, sym, ap, ◌∙◌, add-one}
use Rattle.std.proofs.lemmas.Option.{same_Some}
use Rattle.text_base.proofs.LexemeLaws.{lexeme_is, name_word_is}
use Rattle.list_laws.proofs.Tests.{cond_either}
use Rattle.cca_base.specs.PlantModel.{PlantModel}
use Rattle.text_base.specs.Lexemes.{Lexeme, word, symbol, comma, is_lexeme, is_name_word}
use Rattle.formula_syntax.specs.declared.read_part.ReadPart.{ReadPart}
use Rattle.formula_syntax.specs.declared.read_parts.ReadParts.{ReadParts}
use Rattle.formula_syntax.specs.declared.atom.Atom.{Atom}
use Rattle.formula_syntax.specs.declared.formula_parser.Connective.{Connective}
use Rattle.formula_syntax.specs.declared.formula_parser.Connective.TheVariants as link
use Rattle.formula_syntax.specs.declared.formula_parser.Side.{Side}
use Rattle.formula_syntax.specs.declared.formula_parser.Level.{Level}
use Rattle.formula_syntax.specs.declared.formula_parser.Expected.TheVariants.{Operand, Operator, Named, Compared, Opened, Listed, Followed}
use Rattle.formula_syntax.specs.Grammar.{NameWord, Factor, Conjunction, Disjunction, Whole, True, False, Equal, Differs, In, Not, Parens, Single, And, Case, Or, Plain, Implies, Iff, name_word, values_spelled, factor_spelled, conjunction_spelled, disjunction_spelled, whole_spelled}
use Rattle.formula_syntax.specs.ReadParts.{any_of, all_of, named, with_value, enclosed}
use Rattle.text_base.specs.Chain.{◌>>=◌}
use Rattle.text_base.proofs.ChainLaws.{bind_some}
use Rattle.formula_syntax.specs.FormulaParser.{State, start, nots, more_or_one, completed, level_read, against, step, ended, run, link_from, close_from}
use Rattle.formula_syntax.proofs.TextReadings.{with_values, factor_read, conjunction_read, disjunction_read, whole_read}
use Rattle.formula_syntax.proofs.Complete.{here, level}

pub no_reading : {P : Type 0} (x : ReadPart) → ◌≡◌ {A = Option ReadPart} None (Some x) → P
no_reading x e = absurd cc

-- the text read so far between two parentheses, where a factor has to come
pub record Frame : Type 0 where
  pub left : Option (Connective × Disjunction)
  pub any : Option Disjunction
  pub all : Option Conjunction
  pub nots : ℕ

-- where the text has come
pub data Reached : Type 0 where
  AtOperand : Frame → Reached
  AtOperator : (left : Option (Connective × Disjunction)) → (any : Option Disjunction) → (all : Conjunction) → Reached
  AtNamed : Frame → (name : NameWord) → Reached
  AtCompared : Frame → (name : NameWord) → (differs : Bool) → Reached
  AtOpened : Frame → (name : NameWord) → Reached
  AtBrace : Frame → (name : NameWord) → Reached
  AtComma : Frame → (name first : NameWord) → (values : List NameWord) → Reached
  AtFollowed : Frame → (name first : NameWord) → (values : List NameWord) → Reached

-- ---- the text

abbrev link_word : Connective → Lexeme
link_word link.Implies = word (codes "implies")
link_word link.Iff = word (codes "iff")

abbrev left_text : Option (Connective × Disjunction) → List Lexeme → List Lexeme
left_text None r = r
left_text (Some side) r = disjunction_spelled side.1 (link_word side.0 ∷ r)

abbrev any_text : Option Disjunction → List Lexeme → List Lexeme
any_text None r = r
any_text (Some d) r = disjunction_spelled d (word (codes "or") ∷ r)

abbrev all_text : Option Conjunction → List Lexeme → List Lexeme
all_text None r = r
all_text (Some c) r = conjunction_spelled c (word (codes "and") ∷ r)

abbrev nots_text : ℕ → List Lexeme → List Lexeme
nots_text zero r = r
nots_text (suc n) r = nots_text n (word (codes "not") ∷ r)

abbrev frame_text : Frame → List Lexeme → List Lexeme
frame_text f r = left_text f.left (any_text f.any (all_text f.all (nots_text f.nots r)))

abbrev outer_text : List Frame → List Lexeme → List Lexeme
outer_text [] r = r
outer_text (f ∷ fs) r = outer_text fs (frame_text f (symbol (codes "(") ∷ r))

abbrev values_text : List NameWord → List Lexeme → List Lexeme
values_text [] r = r
values_text (value ∷ values) r = comma ∷ name_word value ∷ values_text values r

abbrev listed_text : NameWord → NameWord → List NameWord → List Lexeme → List Lexeme
listed_text name first values r = name_word name ∷ word (codes "in") ∷ symbol (codes "{") ∷ name_word first ∷ values_text values r

abbrev sign : Bool → Lexeme
sign false = symbol (codes "=")
sign true = symbol (codes "!=")

abbrev reached_text : Reached → List Lexeme → List Lexeme
reached_text (AtOperand f) r = frame_text f r
reached_text (AtOperator left any all) r = left_text left (any_text any (conjunction_spelled all r))
reached_text (AtNamed f name) r = frame_text f (name_word name ∷ r)
reached_text (AtCompared f name differs) r = frame_text f (name_word name ∷ sign differs ∷ r)
reached_text (AtOpened f name) r = frame_text f (name_word name ∷ word (codes "in") ∷ r)
reached_text (AtBrace f name) r = frame_text f (name_word name ∷ word (codes "in") ∷ symbol (codes "{") ∷ r)
reached_text (AtComma f name first values) r = frame_text f (listed_text name first values (comma ∷ r))
reached_text (AtFollowed f name first values) r = frame_text f (listed_text name first values r)

abbrev text_of : List Frame → Reached → List Lexeme → List Lexeme
text_of outer place r = outer_text outer (reached_text place r)

-- ---- what ends a level

abbrev case_of : Option Disjunction → Conjunction → Disjunction
case_of None c = Case c
case_of (Some d) c = Or d c

case_text : (any : Option Disjunction) (c : Conjunction) (r : List Lexeme) → any_text any (conjunction_spelled c r) ≡ disjunction_spelled (case_of any c) r
case_text None c r = refl
case_text (Some d) c r = refl

abbrev whole_of : Option (Connective × Disjunction) → Disjunction → Whole
whole_of None d = Plain d
whole_of (Some (link.Implies, a)) d = Implies a d
whole_of (Some (link.Iff, a)) d = Iff a d

whole_text : (left : Option (Connective × Disjunction)) (d : Disjunction) (r : List Lexeme) → left_text left (disjunction_spelled d r) ≡ whole_spelled (whole_of left d) r
whole_text None d r = refl
whole_text (Some (link.Implies, a)) d r = refl
whole_text (Some (link.Iff, a)) d r = refl

abbrev joined : Option Conjunction → Factor → Conjunction
joined None u = Single u
joined (Some c) u = And c u

joined_text : (all : Option Conjunction) (u : Factor) (r : List Lexeme) → all_text all (factor_spelled u r) ≡ conjunction_spelled (joined all u) r
joined_text None u r = refl
joined_text (Some c) u r = refl

abbrev behind_nots : ℕ → Factor → Factor
behind_nots zero u = u
behind_nots (suc n) u = behind_nots n (Not u)

nots_spelled : (n : ℕ) (u : Factor) (r : List Lexeme) → nots_text n (factor_spelled u r) ≡ factor_spelled (behind_nots n u) r
nots_spelled zero u r = refl
nots_spelled (suc n) u r = nots_spelled n (Not u) r

-- a factor ends the frame's text
abbrev factor_ends : Frame → Factor → Reached
factor_ends f u = AtOperator f.left f.any (joined f.all (behind_nots f.nots u))

factor_text : (outer : List Frame) (f : Frame) (u : Factor) (r : List Lexeme) → outer_text outer (frame_text f (factor_spelled u r)) ≡ text_of outer (factor_ends f u) r
factor_text outer f u r =
    ap (λ (x : List Lexeme). outer_text outer (left_text f.left (any_text f.any (all_text f.all x)))) (nots_spelled f.nots u r)
    ∙ ap (λ (x : List Lexeme). outer_text outer (left_text f.left (any_text f.any x))) (joined_text f.all (behind_nots f.nots u) r)

one_more_value : (values : List NameWord) (value : NameWord) (r : List Lexeme) → values_text values (comma ∷ name_word value ∷ r) ≡ values_text (values ++ value ∷ []) r
one_more_value [] value r = refl
one_more_value (v ∷ values) value r = ap (λ (x : List Lexeme). comma ∷ name_word v ∷ x) (one_more_value values value r)

last_value : (values : List NameWord) (r : List Lexeme) → values_text values (symbol (codes "}") ∷ r) ≡ values_spelled values r
last_value [] r = refl
last_value (v ∷ values) r = ap (λ (x : List Lexeme). comma ∷ name_word v ∷ x) (last_value values r)

module _ (strict : Bool) (m : PlantModel) where
  -- ---- the state

  abbrev left_shown : Option (Connective × Disjunction) → Option Side
  left_shown None = None
  left_shown (Some side) = Some (record { link = side.0; reading = any_of (disjunction_read strict m side.1) })

  abbrev any_shown : Option Disjunction → Option ReadParts
  any_shown None = None
  any_shown (Some d) = Some (disjunction_read strict m d)

  abbrev all_shown : Option Conjunction → Option ReadParts
  all_shown None = None
  all_shown (Some c) = Some (conjunction_read strict m c)

  abbrev frame_shown : Frame → Level
  frame_shown f = level (left_shown f.left) (any_shown f.any) (all_shown f.all) f.nots

  abbrev ended_shown : Option (Connective × Disjunction) → Option Disjunction → Conjunction → Level
  ended_shown left any all = level (left_shown left) (any_shown any) (Some (conjunction_read strict m all)) 0

  abbrev shown_in : List Level → Reached → State
  shown_in outer (AtOperand f) = here outer (frame_shown f) Operand
  shown_in outer (AtOperator left any all) = here outer (ended_shown left any all) Operator
  shown_in outer (AtNamed f name) = here outer (frame_shown f) (Named (named m name.text))
  shown_in outer (AtCompared f name differs) = here outer (frame_shown f) (Compared (named m name.text) differs)
  shown_in outer (AtOpened f name) = here outer (frame_shown f) (Opened (named m name.text))
  shown_in outer (AtBrace f name) = here outer (frame_shown f) (Listed (named m name.text))
  shown_in outer (AtComma f name first values) = here outer (frame_shown f) (Listed (with_values strict m (with_value strict m (named m name.text) first.text) values))
  shown_in outer (AtFollowed f name first values) = here outer (frame_shown f) (Followed (with_values strict m (with_value strict m (named m name.text) first.text) values))

  abbrev state_of : List Frame → Reached → State
  state_of outer place = shown_in (map frame_shown outer) place

  -- ---- readings

  case_read : (any : Option Disjunction) (c : Conjunction) → more_or_one (any_shown any) (all_of (conjunction_read strict m c)) ≡ disjunction_read strict m (case_of any c)
  case_read None c = refl
  case_read (Some d) c = refl

  whole_is_read : (left : Option (Connective × Disjunction)) (d : Disjunction) → against (left_shown left) (any_of (disjunction_read strict m d)) ≡ whole_read strict m (whole_of left d)
  whole_is_read None d = refl
  whole_is_read (Some (link.Implies, a)) d = refl
  whole_is_read (Some (link.Iff, a)) d = refl

  level_is_read : (left : Option (Connective × Disjunction)) (any : Option Disjunction) (c : Conjunction) → level_read (ended_shown left any c) ≡ Some (whole_read strict m (whole_of left (case_of any c)))
  level_is_read left any c =
      ap (λ (x : ReadParts). Some (against (left_shown left) (any_of x))) (case_read any c)
      ∙ ap (λ (x : ReadPart). Some x) (whole_is_read left (case_of any c))

  joined_read : (all : Option Conjunction) (u : Factor) → more_or_one (all_shown all) (factor_read strict m u) ≡ conjunction_read strict m (joined all u)
  joined_read None u = refl
  joined_read (Some c) u = refl

  nots_read : (n : ℕ) (u : Factor) → nots n (factor_read strict m u) ≡ factor_read strict m (behind_nots n u)
  nots_read zero u = refl
  nots_read (suc n) u = nots_read n (Not u)

  factor_shown : (outer : List Level) (f : Frame) (u : Factor) → here outer (completed (frame_shown f) (factor_read strict m u)) Operator ≡ shown_in outer (factor_ends f u)
  factor_shown outer f u =
      ap (λ (x : ReadPart). here outer (level (left_shown f.left) (any_shown f.any) (Some (more_or_one (all_shown f.all) x)) 0) Operator) (nots_read f.nots u)
      ∙ ap (λ (x : ReadParts). here outer (level (left_shown f.left) (any_shown f.any) (Some x) 0) Operator) (joined_read f.all (behind_nots f.nots u))

  more_values : (atom : Atom) (values : List NameWord) (value : NameWord) → with_value strict m (with_values strict m atom values) value.text ≡ with_values strict m atom (values ++ value ∷ [])
  more_values atom [] value = refl
  more_values atom (v ∷ values) value = more_values (with_value strict m atom v.text) values value

  -- ---- one token

  -- the token leads there
  record TokenLeads (outer : List Frame) (place : Reached) (l : Lexeme) (t : State) : Type 0 where
    outside : List Frame
    next : Reached
    is : t ≡ state_of outside next
    text : (r : List Lexeme) → text_of outer place (l ∷ r) ≡ text_of outside next r

  -- the same, where it is known what the token is
  leads : (outer : List Frame) (place : Reached) (l k : Lexeme) (t s : State) (outside : List Frame) (next : Reached) → l ≡ k → Some s ≡ Some t → s ≡ state_of outside next → ((r : List Lexeme) → text_of outer place (k ∷ r) ≡ text_of outside next r) → TokenLeads outer place l t
  leads outer place l k t s outside next same e is text = record {
    outside = outside;
    next = next;
    is = sym (same_Some s t e) ∙ is;
    text = λ r. ap (λ (x : Lexeme). text_of outer place (x ∷ r)) same ∙ text r;
  }

  -- a name's word
  abbrev name_of : (l : Lexeme) → is_name_word l ≡ true → NameWord
  name_of l h = record { text = l.1; free = (name_word_is l h).1 }

  ends_here : (outer : List Frame) (f : Frame) (place : Reached) (u : Factor) (l k : Lexeme) (t : State) → l ≡ k → Some (here (map frame_shown outer) (completed (frame_shown f) (factor_read strict m u)) Operator) ≡ Some t
      → ((r : List Lexeme) → text_of outer place (k ∷ r) ≡ outer_text outer (frame_text f (factor_spelled u r))) → TokenLeads outer place l t
  ends_here outer f place u l k t same e text =
      leads outer place l k t _ outer (factor_ends f u) same e (factor_shown (map frame_shown outer) f u) (λ r. text r ∙ factor_text outer f u r)

  one_more_not : (outer : List Frame) (f : Frame) (r : List Lexeme) → outer_text outer (frame_text f (word (codes "not") ∷ r)) ≡ outer_text outer (frame_text (record f { nots = f.nots + 1 }) r)
  one_more_not outer f r = ap (λ (n : ℕ). outer_text outer (left_text f.left (any_text f.any (all_text f.all (nots_text n r))))) (sym (add-one f.nots))

  nothing_leads : {P : Type 0} (t : State) → ◌≡◌ {A = Option State} None (Some t) → P
  nothing_leads t e = absurd cc

  operand_leads : (outer : List Frame) (f : Frame) (l : Lexeme) (t : State) → step strict m (state_of outer (AtOperand f)) l ≡ Some t → TokenLeads outer (AtOperand f) l t
  unfolding step
  operand_leads outer f l t e =
      let p : Reached = AtOperand f in
      cond_either (is_lexeme (word (codes "not")) l) _ _ (Some t) e
      (λ h g. leads outer p l (word (codes "not")) t _ outer (AtOperand (record f { nots = f.nots + 1 })) (lexeme_is _ l h) g refl (one_more_not outer f))
      (λ _ e. cond_either (is_lexeme (symbol (codes "(")) l) _ _ (Some t) e
      (λ h g. leads outer p l (symbol (codes "(")) t _ (f ∷ outer) (AtOperand (record { left = None; any = None; all = None; nots = 0 })) (lexeme_is _ l h) g refl (λ r. refl))
      (λ _ e. cond_either (is_lexeme (word (codes "true")) l) _ _ (Some t) e
      (λ h g. ends_here outer f p True l (word (codes "true")) t (lexeme_is _ l h) g (λ r. refl))
      (λ _ e. cond_either (is_lexeme (word (codes "false")) l) _ _ (Some t) e
      (λ h g. ends_here outer f p False l (word (codes "false")) t (lexeme_is _ l h) g (λ r. refl))
      (λ _ e. cond_either (is_name_word l) _ _ (Some t) e
      (λ h g. leads outer p l (word l.1) t _ outer (AtNamed f (name_of l h)) (name_word_is l h).0 g refl (λ r. refl))
      (λ _ e. nothing_leads t e)))))

  or_leads : (outer : List Frame) (left : Option (Connective × Disjunction)) (any : Option Disjunction) (c : Conjunction) (l : Lexeme) (t : State) → l ≡ word (codes "or")
      → Some (here (map frame_shown outer) (level (left_shown left) (Some (more_or_one (any_shown any) (all_of (conjunction_read strict m c)))) None 0) Operand) ≡ Some t → TokenLeads outer (AtOperator left any c) l t
  or_leads outer left any c l t same g =
      leads outer (AtOperator left any c) l (word (codes "or")) t _ outer (AtOperand (record { left = left; any = Some (case_of any c); all = None; nots = 0 })) same g
      (ap (λ (x : ReadParts). here (map frame_shown outer) (level (left_shown left) (Some x) None 0) Operand) (case_read any c))
      (λ r. ap (λ (x : List Lexeme). outer_text outer (left_text left x)) (case_text any c (word (codes "or") ∷ r)))

  link_leads : (outer : List Frame) (left : Option (Connective × Disjunction)) (any : Option Disjunction) (c : Conjunction) (l : Lexeme) (t : State) (by : Connective) → l ≡ link_word by
      → link_from (state_of outer (AtOperator left any c)) by (left_shown left) ≡ Some t → TokenLeads outer (AtOperator left any c) l t
  link_leads outer (Some side) any c l t by same g = nothing_leads t g
  link_leads outer None any c l t by same g =
      leads outer (AtOperator None any c) l (link_word by) t _ outer (AtOperand (record { left = Some (by, case_of any c); any = None; all = None; nots = 0 })) same g
      (ap (λ (x : ReadParts). here (map frame_shown outer) (level (Some (record { link = by; reading = any_of x })) None None 0) Operand) (case_read any c))
      (λ r. ap (outer_text outer) (case_text any c (link_word by ∷ r)))

  close_leads : (outer : List Frame) (left : Option (Connective × Disjunction)) (any : Option Disjunction) (c : Conjunction) (l : Lexeme) (t : State) → l ≡ symbol (codes ")")
      → close_from (ended_shown left any c) (map frame_shown outer) ≡ Some t → TokenLeads outer (AtOperator left any c) l t
  close_leads [] left any c l t same g = nothing_leads t g
  close_leads (f ∷ fs) left any c l t same g =
      let whole = whole_of left (case_of any c) in
      let closed = ap (λ (x : Option ReadPart). x >>= λ y. Some (here (map frame_shown fs) (completed (frame_shown f) (enclosed y)) Operator)) (level_is_read left any c) in
      leads (f ∷ fs) (AtOperator left any c) l (symbol (codes ")")) t _ fs (factor_ends f (Parens whole)) same (sym closed ∙ g) (factor_shown (map frame_shown fs) f (Parens whole))
      (λ r. ap (λ (x : List Lexeme). outer_text fs (frame_text f (symbol (codes "(") ∷ left_text left x))) (case_text any c (symbol (codes ")") ∷ r))
      ∙ ap (λ (x : List Lexeme). outer_text fs (frame_text f (symbol (codes "(") ∷ x))) (whole_text left (case_of any c) (symbol (codes ")") ∷ r))
      ∙ factor_text fs f (Parens whole) r)

  operator_leads : (outer : List Frame) (left : Option (Connective × Disjunction)) (any : Option Disjunction) (c : Conjunction) (l : Lexeme) (t : State) → step strict m (state_of outer (AtOperator left any c)) l ≡ Some t → TokenLeads outer (AtOperator left any c) l t
  unfolding step
  operator_leads outer left any c l t e =
      let p : Reached = AtOperator left any c in
      cond_either (is_lexeme (word (codes "and")) l) _ _ (Some t) e
      (λ h g. leads outer p l (word (codes "and")) t _ outer (AtOperand (record { left = left; any = any; all = Some c; nots = 0 })) (lexeme_is _ l h) g refl (λ r. refl))
      (λ _ e. cond_either (is_lexeme (word (codes "or")) l) _ _ (Some t) e
      (λ h g. or_leads outer left any c l t (lexeme_is _ l h) g)
      (λ _ e. cond_either (is_lexeme (word (codes "implies")) l) _ _ (Some t) e
      (λ h g. link_leads outer left any c l t link.Implies (lexeme_is _ l h) g)
      (λ _ e. cond_either (is_lexeme (word (codes "iff")) l) _ _ (Some t) e
      (λ h g. link_leads outer left any c l t link.Iff (lexeme_is _ l h) g)
      (λ _ e. cond_either (is_lexeme (symbol (codes ")")) l) _ _ (Some t) e
      (λ h g. close_leads outer left any c l t (lexeme_is _ l h) g)
      (λ _ e. nothing_leads t e)))))

  named_leads : (outer : List Frame) (f : Frame) (name : NameWord) (l : Lexeme) (t : State) → step strict m (state_of outer (AtNamed f name)) l ≡ Some t → TokenLeads outer (AtNamed f name) l t
  unfolding step
  named_leads outer f name l t e =
      let p : Reached = AtNamed f name in
      cond_either (is_lexeme (symbol (codes "=")) l) _ _ (Some t) e
      (λ h g. leads outer p l (symbol (codes "=")) t _ outer (AtCompared f name false) (lexeme_is _ l h) g refl (λ r. refl))
      (λ _ e. cond_either (is_lexeme (symbol (codes "!=")) l) _ _ (Some t) e
      (λ h g. leads outer p l (symbol (codes "!=")) t _ outer (AtCompared f name true) (lexeme_is _ l h) g refl (λ r. refl))
      (λ _ e. cond_either (is_lexeme (word (codes "in")) l) _ _ (Some t) e
      (λ h g. leads outer p l (word (codes "in")) t _ outer (AtOpened f name) (lexeme_is _ l h) g refl (λ r. refl))
      (λ _ e. nothing_leads t e)))

  compared_leads : (outer : List Frame) (f : Frame) (name : NameWord) (differs : Bool) (l : Lexeme) (t : State) → step strict m (state_of outer (AtCompared f name differs)) l ≡ Some t → TokenLeads outer (AtCompared f name differs) l t
  unfolding step
  compared_leads outer f name false l t e =
      cond_either (is_name_word l) _ _ (Some t) e
      (λ h g. ends_here outer f (AtCompared f name false) (Equal name (name_of l h)) l (word l.1) t (name_word_is l h).0 g (λ r. refl))
      (λ _ e. nothing_leads t e)
  compared_leads outer f name true l t e =
      cond_either (is_name_word l) _ _ (Some t) e
      (λ h g. ends_here outer f (AtCompared f name true) (Differs name (name_of l h)) l (word l.1) t (name_word_is l h).0 g (λ r. refl))
      (λ _ e. nothing_leads t e)

  opened_leads : (outer : List Frame) (f : Frame) (name : NameWord) (l : Lexeme) (t : State) → step strict m (state_of outer (AtOpened f name)) l ≡ Some t → TokenLeads outer (AtOpened f name) l t
  unfolding step
  opened_leads outer f name l t e =
      cond_either (is_lexeme (symbol (codes "{")) l) _ _ (Some t) e
      (λ h g. leads outer (AtOpened f name) l (symbol (codes "{")) t _ outer (AtBrace f name) (lexeme_is _ l h) g refl (λ r. refl))
      (λ _ e. nothing_leads t e)

  brace_leads : (outer : List Frame) (f : Frame) (name : NameWord) (l : Lexeme) (t : State) → step strict m (state_of outer (AtBrace f name)) l ≡ Some t → TokenLeads outer (AtBrace f name) l t
  unfolding step
  brace_leads outer f name l t e =
      cond_either (is_name_word l) _ _ (Some t) e
      (λ h g. leads outer (AtBrace f name) l (word l.1) t _ outer (AtFollowed f name (name_of l h) []) (name_word_is l h).0 g refl (λ r. refl))
      (λ _ e. nothing_leads t e)

  comma_leads : (outer : List Frame) (f : Frame) (name first : NameWord) (values : List NameWord) (l : Lexeme) (t : State) → step strict m (state_of outer (AtComma f name first values)) l ≡ Some t → TokenLeads outer (AtComma f name first values) l t
  unfolding step
  comma_leads outer f name first values l t e =
      cond_either (is_name_word l) _ _ (Some t) e
      (λ h g. leads outer (AtComma f name first values) l (word l.1) t _ outer (AtFollowed f name first (values ++ name_of l h ∷ [])) (name_word_is l h).0 g
      (ap (λ (x : Atom). here (map frame_shown outer) (frame_shown f) (Followed x)) (more_values (with_value strict m (named m name.text) first.text) values (name_of l h)))
      (λ r. ap (λ (x : List Lexeme). outer_text outer (frame_text f (name_word name ∷ word (codes "in") ∷ symbol (codes "{") ∷ name_word first ∷ x))) (one_more_value values (name_of l h) r)))
      (λ _ e. nothing_leads t e)

  followed_leads : (outer : List Frame) (f : Frame) (name first : NameWord) (values : List NameWord) (l : Lexeme) (t : State) → step strict m (state_of outer (AtFollowed f name first values)) l ≡ Some t → TokenLeads outer (AtFollowed f name first values) l t
  unfolding step
  followed_leads outer f name first values l t e =
      let p : Reached = AtFollowed f name first values in
      cond_either (is_lexeme comma l) _ _ (Some t) e
      (λ h g. leads outer p l comma t _ outer (AtComma f name first values) (lexeme_is _ l h) g refl (λ r. refl))
      (λ _ e. cond_either (is_lexeme (symbol (codes "}")) l) _ _ (Some t) e
      (λ h g. ends_here outer f p (In name first values) l (symbol (codes "}")) t (lexeme_is _ l h) g
      (λ r. ap (λ (x : List Lexeme). outer_text outer (frame_text f (name_word name ∷ word (codes "in") ∷ symbol (codes "{") ∷ name_word first ∷ x))) (last_value values r)))
      (λ _ e. nothing_leads t e))

  one_leads : (outer : List Frame) (place : Reached) (l : Lexeme) (t : State) → step strict m (state_of outer place) l ≡ Some t → TokenLeads outer place l t
  one_leads outer (AtOperand f) l t e = operand_leads outer f l t e
  one_leads outer (AtOperator left any c) l t e = operator_leads outer left any c l t e
  one_leads outer (AtNamed f name) l t e = named_leads outer f name l t e
  one_leads outer (AtCompared f name differs) l t e = compared_leads outer f name differs l t e
  one_leads outer (AtOpened f name) l t e = opened_leads outer f name l t e
  one_leads outer (AtBrace f name) l t e = brace_leads outer f name l t e
  one_leads outer (AtComma f name first values) l t e = comma_leads outer f name first values l t e
  one_leads outer (AtFollowed f name first values) l t e = followed_leads outer f name first values l t e

  -- ---- all tokens

  -- these lexemes are a formula's text, and this is what it says
  pub record IsRead (ls : List Lexeme) (x : ReadPart) : Type 0 where
    pub text : Whole
    pub spelled : ls ≡ whole_spelled text []
    pub says : x ≡ whole_read strict m text

  ends_whole : (outer : List Frame) (place : Reached) (x : ReadPart) → ended (state_of outer place) ≡ Some x → IsRead (text_of outer place []) x
  unfolding ended
  ends_whole [] (AtOperator left any c) x e = record {
    text = whole_of left (case_of any c);
    spelled = ap (left_text left) (case_text any c []) ∙ whole_text left (case_of any c) [];
    says = sym (same_Some _ x (sym (level_is_read left any c) ∙ e));
  }
  ends_whole (f ∷ fs) (AtOperator left any c) x e = no_reading x e
  ends_whole outer (AtOperand f) x e = no_reading x e
  ends_whole outer (AtNamed f name) x e = no_reading x e
  ends_whole outer (AtCompared f name differs) x e = no_reading x e
  ends_whole outer (AtOpened f name) x e = no_reading x e
  ends_whole outer (AtBrace f name) x e = no_reading x e
  ends_whole outer (AtComma f name first values) x e = no_reading x e
  ends_whole outer (AtFollowed f name first values) x e = no_reading x e

  only_text : (ls : List Lexeme) (outer : List Frame) (place : Reached) (x : ReadPart) → run strict m (state_of outer place) ls ≡ Some x → IsRead (text_of outer place ls) x
  unfolding run
  only_text [] outer place x e = ends_whole outer place x e
  only_text (l ∷ ls) outer place x e =
      let b = bind_some (step strict m (state_of outer place) l) (λ t. run strict m t ls) x e in
      let n = one_leads outer place l b.0 b.1 in
      let rest = only_text ls n.outside n.next x (ap (λ (s : State). run strict m s ls) (sym n.is) ∙ b.2) in
      record { text = rest.text; spelled = n.text ls ∙ rest.spelled; says = rest.says }

  pub only_text_is_read : (ls : List Lexeme) (x : ReadPart) → run strict m start ls ≡ Some x → IsRead ls x
  only_text_is_read ls x e = only_text ls [] (AtOperand (record { left = None; any = None; all = None; nots = 0 })) x e
