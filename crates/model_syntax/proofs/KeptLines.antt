-- The printed lines of a model that grows.
use Rattle.std.proofs.Common.{◌≡◌, ℕ, zero, suc, ◌<◌, Bool, true, ◌&&◌, All, List, [], ◌∷◌, ◌++◌, length, map, codes, Some, slice_get, slice_index, get_or, refl, sym, ap, subst, ◌∙◌, arith}
use Rattle.std.specs.Prelude.{nat_le}
use Rattle.std.specs.List.{list_all}
use Rattle.std.specs.Option.{option_map_or}
use Rattle.std.specs.Fmt.{decimal}
use Rattle.std.proofs.lemmas.Option.{slice_get-get_or}
use Rattle.std.proofs.lemmas.Bool.{and_parts}
use Rattle.std.proofs.lemmas.List.Elements.{All-head, All-tail}
use Rattle.cca_base.specs.declared.formula.Subject.{Subject}
use Rattle.cca_base.specs.declared.formula.Subject.TheVariants as subjects
use Rattle.cca_base.specs.declared.formula.Formula.{Formula}
use Rattle.cca_base.specs.declared.formula.Formula.TheOpen.{Formula-F}
use Rattle.cca_base.specs.declared.formula.Formula.TheFolds.{fold-roll-Formula, ind-Formula, map-Formula}
use Rattle.cca_base.specs.declared.model.Component.{Component}
use Rattle.cca_base.specs.declared.model.Variable.{Variable}
use Rattle.cca_base.specs.declared.model.Move.{Move}
use Rattle.cca_base.specs.declared.model.Failure.{Failure}
use Rattle.cca_base.specs.PlantModel.{PlantModel}
use Rattle.cca_base.specs.Formula.{fits, fits_step, is_choice_of, subject_value}
use Rattle.cca_base.specs.Model.{HasMode, IsFormula, IsMove, IsFailure, mode_counts, value_counts}
use Rattle.cca_base.proofs.Within.{choice_positive}
use Rattle.text_base.specs.Lexemes.{Lexeme, word, number, symbol}
use Rattle.formula_syntax.specs.Lookups.{choices_of}
use Rattle.model_syntax.specs.Items.{move_word}
use Rattle.model_syntax.specs.Printing.{Said, among_said, said_step, names_in, name_of, name_at, formula_said, ends_said, move_said, failure_said}
use Rattle.model_syntax.proofs.SaidWidths.{said}

-- what the first list has stays where it is
abbrev pub Keeps : {X : Type 0} → List X → List X → Type 0
Keeps {X = X} xs ys = (k : ℕ) (x : X) → slice_get xs k ≡ Some x → slice_get ys k ≡ Some x

pub keeps_all : {X : Type 0} (xs : List X) → Keeps xs xs
keeps_all xs k x h = h

pub keeps_push : {X : Type 0} (xs : List X) (y : X) → Keeps xs (xs ++ y ∷ [])
keeps_push [] y k x h = absurd cc
keeps_push (z ∷ xs) y zero x h = h
keeps_push (z ∷ xs) y (suc k) x h = keeps_push xs y k x h

-- the second model has what the first has, in the same places, and maybe more
pub record Grows (m n : PlantModel) : Type 0 where
  pub components : Keeps m.components n.components
  pub variables : Keeps m.variables n.variables
  pub commands : Keeps m.commands n.commands

-- a place with a count is a place of the list
counted : {X : Type 0} (f : X → ℕ) (xs : List X) (k : ℕ) → 0 < slice_index (map f xs) k → (x : X) × (slice_get xs k ≡ Some x)
counted f [] k h = absurd (omega arith)
counted f (x ∷ xs) zero h = (x, refl)
counted f (x ∷ xs) (suc k) h = counted f xs k h

-- what is looked up there stays
stays : {X A : Type 0} (f : X → A) (xs ys : List X) (k : ℕ) (d : A) → Keeps xs ys → (x : X) × (slice_get xs k ≡ Some x) → option_map_or f (slice_get ys k) d ≡ option_map_or f (slice_get xs k) d
stays f xs ys k d h p = ap (λ o. option_map_or f o d) (h k p.0 p.1 ∙ sym p.1)

module _ (m n : PlantModel) (grows : Grows m n) where
  abbrev IsDeclared : Subject → Type 0
  IsDeclared s = 0 < subject_value s (mode_counts m) (value_counts m)

  name_stays : (s : Subject) → IsDeclared s → name_of n s ≡ name_of m s
  name_stays (subjects.Component c) h = stays (λ (x : Component). x.name) m.components n.components c [] grows.components (counted (λ (x : Component). length x.modes) m.components c h)
  name_stays (subjects.Variable v) h = stays (λ (x : Variable). x.name) m.variables n.variables v [] grows.variables (counted (λ (x : Variable). length x.values) m.variables v h)

  choices_stay : (s : Subject) → IsDeclared s → choices_of n s ≡ choices_of m s
  choices_stay (subjects.Component c) h = stays (λ (x : Component). x.modes) m.components n.components c [] grows.components (counted (λ (x : Component). length x.modes) m.components c h)
  choices_stay (subjects.Variable v) h = stays (λ (x : Variable). x.values) m.variables n.variables v [] grows.variables (counted (λ (x : Variable). length x.values) m.variables v h)

  -- ---- formulas

  abbrev Stays : Formula → Type 0
  Stays f = fits (mode_counts m) (value_counts m) f ≡ true → said n f ≡ said m f

  abbrev StayingPart : Type 0
  StayingPart = (f : Formula) × Stays f

  abbrev layer_fits : Formula-F Formula → Bool
  layer_fits x = fits_step (mode_counts m) (value_counts m) (map-Formula Formula Bool (fits (mode_counts m) (value_counts m)) x)

  abbrev layer_said : PlantModel → Formula-F Formula → Said
  layer_said k x = said_step k (map-Formula Formula Said (said k) x)

  abbrev LayerStays : Formula-F Formula → Type 0
  LayerStays x = layer_fits x ≡ true → layer_said n x ≡ layer_said m x

  abbrev formulas : List StayingPart → List Formula
  formulas parts = map (λ (e : StayingPart). e.0) parts

  parts_stay : (parts : List StayingPart) → list_all (λ b. b) (map (fits (mode_counts m) (value_counts m)) (formulas parts)) ≡ true → map (said n) (formulas parts) ≡ map (said m) (formulas parts)
  parts_stay [] h = refl
  parts_stay (e ∷ parts) h =
      let p = and_parts (fits (mode_counts m) (value_counts m) e.0) _ h in
      ap (λ (x : Said). x ∷ map (said n) (formulas parts)) (e.1 p.0) ∙ ap (λ (x : List Said). said m e.0 ∷ x) (parts_stay parts p.1)

  many_stay : (parts : List StayingPart) → layer_fits (Formula-F.All (formulas parts)) ≡ true → map (said n) (formulas parts) ≡ map (said m) (formulas parts)
  many_stay parts h = parts_stay parts (and_parts (nat_le 2 (length (map (fits (mode_counts m) (value_counts m)) (formulas parts)))) _ h).1

  pair_stays : (f : Said → Said → Said) (a b : StayingPart) → (fits (mode_counts m) (value_counts m) a.0 && fits (mode_counts m) (value_counts m) b.0) ≡ true → f (said n a.0) (said n b.0) ≡ f (said m a.0) (said m b.0)
  pair_stays f a b h =
      let p = and_parts (fits (mode_counts m) (value_counts m) a.0) (fits (mode_counts m) (value_counts m) b.0) h in
      ap (λ (x : Said). f x (said n b.0)) (a.1 p.0) ∙ ap (λ (x : Said). f (said m a.0) x) (b.1 p.1)

  among_stays : (s : Subject) (set : ℕ) → is_choice_of (subject_value s (mode_counts m) (value_counts m)) set ≡ true → said_step n (Formula-F.Among s set) ≡ said_step m (Formula-F.Among s set)
  among_stays s set h =
      let declared = choice_positive (subject_value s (mode_counts m) (value_counts m)) set h in
      ap (λ (x : List ℕ). among_said x (names_in 0 (choices_of n s) set)) (name_stays s declared) ∙ ap (λ (x : List (List ℕ)). among_said (name_of m s) (names_in 0 x set)) (choices_stay s declared)

  layer_stays : (y : Formula-F StayingPart) → LayerStays (map-Formula StayingPart Formula (λ e. e.0) y)
  layer_stays Formula-F.True h = refl
  layer_stays Formula-F.False h = refl
  layer_stays (Formula-F.Among s set) h = among_stays s set h
  layer_stays (Formula-F.Not a) h = ap (λ (x : Said). said_step m (Formula-F.Not x)) (a.1 h)
  layer_stays (Formula-F.All parts) h = ap (λ (x : List Said). said_step m (Formula-F.All x)) (many_stay parts h)
  layer_stays (Formula-F.Any parts) h = ap (λ (x : List Said). said_step m (Formula-F.Any x)) (many_stay parts h)
  layer_stays (Formula-F.Implies a b) h = pair_stays (λ x y. said_step m (Formula-F.Implies x y)) a b h
  layer_stays (Formula-F.Iff a b) h = pair_stays (λ x y. said_step m (Formula-F.Iff x y)) a b h

  said_stays : (f : Formula) → Stays f
  said_stays = ind-Formula Stays (λ x y is h.
      fold-roll-Formula Said (said_step n) x ∙ subst LayerStays is (layer_stays y) (sym (fold-roll-Formula Bool (fits_step (mode_counts m) (value_counts m)) x) ∙ h) ∙ sym (fold-roll-Formula Said (said_step m) x))

  -- what is printed of a formula that speaks of the first model stays
  pub formula_stays : (f : Formula) → fits (mode_counts m) (value_counts m) f ≡ true → formula_said n f ≡ formula_said m f
  formula_stays f h = ap (λ (s : Said). s.tokens) (said_stays f h)

  -- ---- lines

  same_lines : {X : Type 0} (P : X → Type 0) (f g : X → List Lexeme) → ((x : X) → P x → f x ≡ g x) → (xs : List X) → All P xs → map f xs ≡ map g xs
  same_lines P f g e [] h = refl
  same_lines P f g e (x ∷ xs) h =
      ap (λ (l : List Lexeme). l ∷ map f xs) (e x (All-head P x xs h)) ∙ ap (λ (ls : List (List Lexeme)). g x ∷ ls) (same_lines P f g e xs (All-tail P x xs h))

  -- a subject that has a mode is declared
  with_mode : (c mode : ℕ) → HasMode m c mode → 0 < slice_index (mode_counts m) c
  with_mode c mode h = omega arith

  pub ends_stay : (c a b : ℕ) (rest : List Lexeme) → 0 < slice_index (mode_counts m) c → ends_said n c a b rest ≡ ends_said m c a b rest
  ends_stay c a b rest h =
      let choices = choices_of n (subjects.Component c) in
      ap (λ (x : List ℕ). word x ∷ word (name_at choices a) ∷ symbol (codes "->") ∷ word (name_at choices b) ∷ rest) (name_stays (subjects.Component c) h)
      ∙ ap (λ (x : List (List ℕ)). word (name_of m (subjects.Component c)) ∷ word (name_at x a) ∷ symbol (codes "->") ∷ word (name_at x b) ∷ rest) (choices_stay (subjects.Component c) h)

  pub rules_stay : (fs : List Formula) → All (IsFormula m) fs → map (λ f. word (codes "rule") ∷ formula_said n f) fs ≡ map (λ f. word (codes "rule") ∷ formula_said m f) fs
  rules_stay = same_lines (IsFormula m) (λ f. word (codes "rule") ∷ formula_said n f) (λ f. word (codes "rule") ∷ formula_said m f) (λ f h. ap (λ (x : List Lexeme). word (codes "rule") ∷ x) (formula_stays f h.fits))

  command_stays : (k : ℕ) → k < length m.commands → name_at n.commands k ≡ name_at m.commands k
  command_stays k h =
      let none : List ℕ = [] in
      stays (λ (x : List ℕ). x) m.commands n.commands k [] grows.commands (get_or m.commands k none, slice_get-get_or m.commands k none h)

  move_stays : (x : Move) → IsMove m x → move_said n x ≡ move_said m x
  move_stays x h =
      let tail : List ℕ → List Lexeme → List Lexeme = λ command guard. word (codes "by") ∷ word command ∷ word (codes "when") ∷ guard in
      ap (λ (y : List Lexeme). word (move_word x.repair) ∷ y) (ends_stay x.component x.source x.target (tail (name_at n.commands x.command) (formula_said n x.guard)) (with_mode x.component x.source h.source))
      ∙ ap (λ (y : List ℕ). word (move_word x.repair) ∷ ends_said m x.component x.source x.target (tail y (formula_said n x.guard))) (command_stays x.command h.command)
      ∙ ap (λ (y : List Lexeme). word (move_word x.repair) ∷ ends_said m x.component x.source x.target (tail (name_at m.commands x.command) y)) (formula_stays x.guard h.guard.fits)

  pub moves_stay : (xs : List Move) → All (IsMove m) xs → map (move_said n) xs ≡ map (move_said m) xs
  moves_stay = same_lines (IsMove m) (move_said n) (move_said m) move_stays

  pub failures_stay : (xs : List Failure) → All (IsFailure m) xs → map (failure_said n) xs ≡ map (failure_said m) xs
  failures_stay = same_lines (IsFailure m) (failure_said n) (failure_said m)
      (λ x h. ap (λ (y : List Lexeme). word (codes "fail") ∷ y) (ends_stay x.component x.source x.target (word (codes "cost") ∷ number (decimal x.cost) ∷ []) (with_mode x.component x.source h.source)))
