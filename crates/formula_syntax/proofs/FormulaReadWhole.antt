-- Tokens that are read one after the other, and what is read of all of them.
use Rattle.std.proofs.Common.{◌≡◌, ℕ, ◌+◌, ◌<◌, ◌≤◌, Bool, codes, List, [], ◌∷◌, length, get_or, drop, map, Option, Some, None, refl, sym, ap, subst, ◌∙◌, add-one, drop-cons, arith}
use Rattle.std.proofs.lemmas.List.{length-drop, nil_from_length}
use Rattle.std.proofs.lemmas.Option.{same_Some}
use Rattle.list_laws.proofs.Tests.{cond_either}
use Rattle.cca_base.specs.PlantModel.{PlantModel}
use Rattle.text_base.specs.declared.token.Token.{Token}
use Rattle.text_base.specs.Lexemes.{Lexeme, lexeme_of, word, symbol, comma, is_lexeme, is_name_word}
use Rattle.formula_syntax.specs.declared.read_part.ReadPart.{ReadPart}
use Rattle.formula_syntax.specs.declared.formula_parser.Connective.{Connective}
use Rattle.formula_syntax.specs.declared.formula_parser.Side.{Side}
use Rattle.formula_syntax.specs.declared.formula_parser.Level.{Level}
use Rattle.formula_syntax.specs.declared.formula_parser.Expected.{Expected}
use Rattle.formula_syntax.specs.declared.formula_parser.Expected.TheVariants.{Operand, Operator, Named, Compared, Opened, Listed, Followed}
use Rattle.text_base.specs.Chain.{◌>>=◌}
use Rattle.formula_syntax.specs.Grammar.{Whole, spelling}
use Rattle.formula_syntax.specs.FormulaParser.{State, start, step, step_at, run, ended, cases_read, side_read, level_read, link_from, close_from}
use Rattle.formula_syntax.specs.Meanings.{IsReadingOf, reading_of}
use Rattle.formula_syntax.proofs.Complete.{text_is_read}
use Rattle.formula_syntax.proofs.Sound.{only_text_is_read}
use Rattle.formula_syntax.proofs.Verdicts.{text_verdict}

pub run_is_reading : (strict : Bool) (m : PlantModel) (ls : List Lexeme) (o : Option ReadPart) → o ≡ run strict m start ls → IsReadingOf strict m ls o
run_is_reading strict m ls o e = record {
  read_of = λ text same. e ∙ ap (run strict m start) same ∙ text_is_read strict m text ∙ ap (λ (z : ReadPart). Some z) (text_verdict strict m text);
  spelled = λ r f. let found = only_text_is_read strict m ls r (sym e ∙ f) in (found.text, found.spelled);
}

-- a text is read in one way
pub one_way : (strict : Bool) (m : PlantModel) (s t : Whole) → spelling s ≡ spelling t → reading_of strict m s ≡ reading_of strict m t
one_way strict m s t e =
    same_Some (reading_of strict m s) (reading_of strict m t)
    (ap (λ (z : ReadPart). Some z) (sym (text_verdict strict m s)) ∙ sym (text_is_read strict m s) ∙ ap (run strict m start) e ∙ text_is_read strict m t ∙ ap (λ (z : ReadPart). Some z) (text_verdict strict m t))

-- ---- how many words `not` wait

module _ (t : State) (n : ℕ) where
  abbrev Few : State → Type 0
  Few s = s.level.nots ≤ n + 1

  few : (s : State) → Some s ≡ Some t → Few s → Few t
  few s e h = subst Few (same_Some s t e) h

  few_none : {P : Type 0} → ◌≡◌ {A = Option State} None (Some t) → P
  few_none e = absurd cc

few_bind : {A : Type 0} (o : Option A) (f : A → State) (t : State) (n : ℕ) → ((x : A) → (f x).level.nots ≤ n + 1) → (o >>= λ x. Some (f x)) ≡ Some t → t.level.nots ≤ n + 1
few_bind None f t n h e = few_none t n e
few_bind (Some x) f t n h e = few t n (f x) e (h x)

few_link : (s : State) (l : Connective) (left : Option Side) (t : State) (n : ℕ) → link_from s l left ≡ Some t → t.level.nots ≤ n + 1
few_link s l (Some left) t n e = few_none t n e
few_link s l None t n e =
    few_bind (side_read s.level.any s.level.all) (λ x. record { outer = s.outer; level = record { left = Some (record { link = l; reading = x }); any = None; all = None; nots = 0 }; place = Operand }) t n (λ x. omega arith) e

few_close : (k : Level) (outer : List Level) (t : State) (n : ℕ) → close_from k outer ≡ Some t → t.level.nots ≤ n + 1
few_close k [] t n e = few_none t n e
few_close k (around ∷ outer) t n e = few_bind (level_read k) _ t n (λ x. omega arith) e

few_at : (strict : Bool) (m : PlantModel) (s : State) (place : Expected) (l : Lexeme) (t : State) → step_at strict m s place l ≡ Some t → t.level.nots ≤ s.level.nots + 1
few_at strict m s Operand l t e =
    let n : ℕ = s.level.nots in
    cond_either (is_lexeme (word (codes "not")) l) _ _ (Some t) e (λ h g. few t n _ g (omega arith))
    (λ _ e. cond_either (is_lexeme (symbol (codes "(")) l) _ _ (Some t) e (λ h g. few t n _ g (omega arith))
    (λ _ e. cond_either (is_lexeme (word (codes "true")) l) _ _ (Some t) e (λ h g. few t n _ g (omega arith))
    (λ _ e. cond_either (is_lexeme (word (codes "false")) l) _ _ (Some t) e (λ h g. few t n _ g (omega arith))
    (λ _ e. cond_either (is_name_word l) _ _ (Some t) e (λ h g. few t n _ g (omega arith)) (λ _ e. few_none t n e)))))
few_at strict m s Operator l t e =
    let n : ℕ = s.level.nots in
    cond_either (is_lexeme (word (codes "and")) l) _ _ (Some t) e (λ h g. few t n _ g (omega arith))
    (λ _ e. cond_either (is_lexeme (word (codes "or")) l) _ _ (Some t) e (λ h g. few_bind (cases_read s.level.any s.level.all) _ t n (λ x. omega arith) g)
    (λ _ e. cond_either (is_lexeme (word (codes "implies")) l) _ _ (Some t) e (λ h g. few_link s _ s.level.left t n g)
    (λ _ e. cond_either (is_lexeme (word (codes "iff")) l) _ _ (Some t) e (λ h g. few_link s _ s.level.left t n g)
    (λ _ e. cond_either (is_lexeme (symbol (codes ")")) l) _ _ (Some t) e (λ h g. few_close s.level s.outer t n g) (λ _ e. few_none t n e)))))
few_at strict m s (Named atom) l t e =
    let n : ℕ = s.level.nots in
    cond_either (is_lexeme (symbol (codes "=")) l) _ _ (Some t) e (λ h g. few t n _ g (omega arith))
    (λ _ e. cond_either (is_lexeme (symbol (codes "!=")) l) _ _ (Some t) e (λ h g. few t n _ g (omega arith))
    (λ _ e. cond_either (is_lexeme (word (codes "in")) l) _ _ (Some t) e (λ h g. few t n _ g (omega arith)) (λ _ e. few_none t n e)))
few_at strict m s (Compared atom differs) l t e =
    let n : ℕ = s.level.nots in
    cond_either (is_name_word l) _ _ (Some t) e (λ h g. few t n _ g (omega arith)) (λ _ e. few_none t n e)
few_at strict m s (Opened atom) l t e =
    let n : ℕ = s.level.nots in
    cond_either (is_lexeme (symbol (codes "{")) l) _ _ (Some t) e (λ h g. few t n _ g (omega arith)) (λ _ e. few_none t n e)
few_at strict m s (Listed atom) l t e =
    let n : ℕ = s.level.nots in
    cond_either (is_name_word l) _ _ (Some t) e (λ h g. few t n _ g (omega arith)) (λ _ e. few_none t n e)
few_at strict m s (Followed atom) l t e =
    let n : ℕ = s.level.nots in
    cond_either (is_lexeme comma l) _ _ (Some t) e (λ h g. few t n _ g (omega arith))
    (λ _ e. cond_either (is_lexeme (symbol (codes "}")) l) _ _ (Some t) e (λ h g. few t n _ g (omega arith)) (λ _ e. few_none t n e))

few_nots : (strict : Bool) (m : PlantModel) (s : State) (l : Lexeme) (t : State) → step strict m s l ≡ Some t → t.level.nots ≤ s.level.nots + 1
unfolding step
few_nots strict m s l t e = few_at strict m s s.place l t e

-- ---- the loop

-- what the loop keeps: the tokens before a place were read
pub record IsRunning (strict : Bool) (m : PlantModel) (ts : List Token) (at : ℕ) (s : State) : Type 0 where
  pub same : run strict m s (map lexeme_of (drop at ts)) ≡ run strict m start (map lexeme_of ts)
  pub few : s.level.nots ≤ at

here_first : (ts : List Token) (at : ℕ) (d : Token) → at < length ts → map lexeme_of (drop at ts) ≡ lexeme_of (get_or ts at d) ∷ map lexeme_of (drop (at + 1) ts)
here_first ts at d h = rw (add-one, drop-cons ts at d) refl

module _ {strict : Bool} {m : PlantModel} {ts : List Token} {at : ℕ} {s : State} (r : IsRunning strict m ts at s) (d : Token) (within : at < length ts) where
  goes_from : run strict m s (lexeme_of (get_or ts at d) ∷ map lexeme_of (drop (at + 1) ts)) ≡ run strict m start (map lexeme_of ts)
  goes_from = ap (run strict m s) (sym (here_first ts at d within)) ∙ r.same

  pub running_goes_on : (t : State) → Some t ≡ step strict m s (lexeme_of (get_or ts at d)) → IsRunning strict m ts (at + 1) t
  unfolding run
  running_goes_on t e = record {
    same = ap (λ (o : Option State). o >>= λ x. run strict m x (map lexeme_of (drop (at + 1) ts))) e ∙ goes_from;
    few = let one = few_nots strict m s (lexeme_of (get_or ts at d)) t (sym e) in let before = r.few in omega (arith, one, before);
  }

  pub running_stops : None ≡ step strict m s (lexeme_of (get_or ts at d)) → None ≡ run strict m start (map lexeme_of ts)
  unfolding run
  running_stops e = ap (λ (o : Option State). o >>= λ x. run strict m x (map lexeme_of (drop (at + 1) ts))) e ∙ goes_from

pub running_ends : {strict : Bool} {m : PlantModel} {ts : List Token} {at : ℕ} {s : State} → IsRunning strict m ts at s → length ts ≤ at → ended s ≡ run strict m start (map lexeme_of ts)
unfolding run
running_ends {strict} {m} {ts} {at} {s} r h =
    let e : drop at ts ≡ [] = nil_from_length (drop at ts) (omega (arith, length-drop at ts)) in
    sym (ap (λ (l : List Token). run strict m s (map lexeme_of l)) e) ∙ r.same
