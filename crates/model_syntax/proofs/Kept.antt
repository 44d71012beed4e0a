-- What the lines of a model lead to is well formed, and uses each of its commands.
use Rattle.std.proofs.Common.{◌≡◌, ◌⊎◌, ℕ, inl, inr, Bool, true, false, cond, ◌||◌, List, [], ◌∷◌, length, map, Option, Some, None, Result, Ok, Err, refl, sym, ap, subst, ◌∙◌}
use Rattle.std.specs.Prelude.{nat_le}
use Rattle.cca_base.specs.declared.formula.Subject.TheVariants as subjects
use Rattle.cca_base.specs.declared.limits.TheConstants.{MAX_RULES, MAX_MOVES}
use Rattle.cca_base.specs.declared.model.Move.{Move}
use Rattle.cca_base.specs.PlantModel.{PlantModel}
use Rattle.cca_base.specs.Model.{HasMode, in_second, with_component, with_variable, with_rule, with_move, with_failure}
use Rattle.cca_base.proofs.EmptyModel.{second_well_formed}
use Rattle.text_base.specs.Tokens.{Tok, tokens_of, IsOfItsKind}
use Rattle.std.specs.List.{AllByRecursion}
use Rattle.std.proofs.lemmas.Bool.{or_parts}
use Rattle.text_base.specs.Lexemes.{Lexeme, lexeme}
use Rattle.text_base.proofs.TokenKinds.{tokens_of_kinds}
use Rattle.formula_syntax.specs.declared.read_part.ReadPart.TheVariants.{Sound}
use Rattle.text_base.specs.Chain.{◌>>=◌}
use Rattle.text_base.proofs.ChainLaws.{bind_some}
use Rattle.formula_syntax.specs.Grammar.{Whole, spelling}
use Rattle.model_syntax.specs.Items.{Ends, Item, item_of}
use Rattle.model_syntax.specs.Items as items
use Rattle.formula_syntax.specs.Lookups.{subject_of, value_of, place_of}
use Rattle.formula_syntax.specs.Meanings.{verdict, reading_of, whole_formula, whole_depth, IsReadingOf, names_unknown, lists_twice, is_deep}
use Rattle.model_syntax.specs.Codes.{least, is_long, as_component, ends_of, component_code, new_component, variable_code, new_variable, rule_code, new_move, move_faults, move_code, move_code_from, with_named, failure_code, failure_code_from, new_failure}
use Rattle.model_syntax.specs.Lines.{is_bare_name, HasBareNames, Next, Goes, Refused, Ended, unless, with_declared, with_fall, component_next, variable_next, rule_next, move_next, failure_next, IsNextOfText, IsNextOfNumber, IsNextOfItem, IsNextOfForm, ModelSoFar, Reads, outcome, opening, LeadsByForm, LeadsByTokens}
use Rattle.model_syntax.specs.Kept.{IsGood, LinesKeepModelsGood}
use Rattle.formula_syntax.proofs.LeastLaws.{least_none}
use Rattle.model_syntax.proofs.AddedParts.{component_is_kept, variable_is_kept}
use Rattle.model_syntax.proofs.FormulaLines.{rule_well_formed}
use Rattle.formula_syntax.proofs.SoundReadings.{sound_is_formula}
use Rattle.formula_syntax.proofs.FormulaReadWhole.{one_way}
use Rattle.formula_syntax.proofs.ModesByName.{mode_of_component}
use Rattle.model_syntax.proofs.GrowthByMove.{may_move, old_move_kept, new_move_kept, number_new, old_complete, new_complete, with_named_old, with_named_new}
use Rattle.model_syntax.proofs.FailureLines.{failure_well_formed}
use Rattle.model_syntax.proofs.ItemWords.{item_has_bare_names}

-- ---- from where a line leads, back to why

goes_same : (m n : PlantModel) → Goes m ≡ Goes n → m ≡ n
goes_same m n e = cc

pub unless_goes : (o : Option ℕ) (m n : PlantModel) → Goes n ≡ unless o m → (o ≡ None) × (m ≡ n)
unless_goes None m n e = (refl, sym (goes_same n m e))
unless_goes (Some code) m n e = absurd cc

-- the kept model is this one
kept : (o : Option ℕ) (m n : PlantModel) → (o ≡ None → IsGood m) → Goes n ≡ unless o m → IsGood n
kept o m n good e = let p = unless_goes o m n e in subst IsGood p.1 (good p.0)

text_goes : (ls : List Lexeme) (f : Whole → Next) (n : PlantModel) → IsNextOfText ls f (Goes n) → (text : Whole) × (Goes n ≡ f text)
text_goes ls f n h = elim h.or_none [
  | inl (text, e) ↦ (text, h.of_text text e)
  | inr (none, e) ↦ absurd cc
]

number_goes : (digits : List ℕ) (f : ℕ → Next) (n : PlantModel) → IsNextOfNumber digits f (Goes n) → (k : ℕ) × (Goes n ≡ f k)
number_goes digits f n (inl (k, small, e, h)) = (k, h)
number_goes digits f n (inr (none, h)) = absurd cc

-- ---- formulas

is_reading : (m : PlantModel) (text : Whole) → IsReadingOf true m (spelling text) (Some (reading_of true m text))
is_reading m text = record {
  read_of = λ other e. ap (λ r. Some r) (one_way true m text other e);
  spelled = λ r e. (text, refl);
}

verdict_sound : (u r p : Bool) (m : PlantModel) (text : Whole) → u ≡ false → r ≡ false → p ≡ false → verdict u r p (Sound (whole_formula m text) (whole_depth text)) ≡ Sound (whole_formula m text) (whole_depth text)
verdict_sound u r p m text a b c = rw (a, b, c) refl

-- a text without unknown names and repeated ones that is not too deep
sound_reading : (m : PlantModel) (text : Whole) → names_unknown m text ≡ false → lists_twice text ≡ false → is_deep text ≡ false → IsReadingOf true m (spelling text) (Some (Sound (whole_formula m text) (whole_depth text)))
unfolding reading_of
sound_reading m text a b c =
    subst (λ r. IsReadingOf true m (spelling text) (Some r)) (verdict_sound (names_unknown m text) (lists_twice text) (is_deep text) m text a b c) (is_reading m text)

-- ---- items

component_good : (m n : PlantModel) (name : List ℕ) (modes : List (List ℕ)) (start : List ℕ) → IsGood m → HasBareNames (items.Component name modes start) → Goes n ≡ component_next m name modes start → IsGood n
component_good m n name modes start good bare e =
    kept (component_code m name modes start) (with_component m (new_component name modes start)) n
    (λ none. record { well_formed = component_is_kept m name modes start good.well_formed bare none; complete = good.complete }) e

variable_good : (m n : PlantModel) (name : List ℕ) (values : List (List ℕ)) (sensed : Bool) → IsGood m → HasBareNames (items.Variable name values sensed) → Goes n ≡ variable_next m name values sensed → IsGood n
variable_good m n name values sensed good bare e =
    kept (variable_code m name values) (with_variable m (new_variable name values sensed)) n
    (λ none. record { well_formed = variable_is_kept m name values sensed good.well_formed bare.0 bare.1 none; complete = good.complete }) e

rule_kept : (m : PlantModel) (text : Whole) → IsGood m → rule_code m text ≡ None → IsGood (with_rule m (whole_formula m text))
unfolding rule_code
rule_kept m text good none =
    let a = least_none 2 (names_unknown m text) ((3, lists_twice text) ∷ (4, is_deep text || nat_le MAX_RULES (length m.rules)) ∷ []) none in
    let b = least_none 3 (lists_twice text) ((4, is_deep text || nat_le MAX_RULES (length m.rules)) ∷ []) a.1 in
    let c = least_none 4 (is_deep text || nat_le MAX_RULES (length m.rules)) [] b.1 in
    let limits = or_parts (is_deep text) (nat_le MAX_RULES (length m.rules)) c.0 in
    record {
      well_formed = rule_well_formed m (spelling text) (whole_formula m text) (whole_depth text) good.well_formed limits.1 (sound_reading m text a.0 b.0 limits.0);
      complete = good.complete;
    }

rule_good : (m n : PlantModel) (ls : List Lexeme) → IsGood m → IsNextOfText ls (rule_next m) (Goes n) → IsGood n
rule_good m n ls good h =
    let t = text_goes ls (rule_next m) n h in
    kept (rule_code m t.0) (with_rule m (whole_formula m t.0)) n (rule_kept m t.0 good) t.1

-- ---- ends

-- known ends are modes of their component
ends_are_modes : (m : PlantModel) (ends : Ends) (x : ℕ × ℕ × ℕ) → ends_of m ends ≡ Some x → HasMode m x.0 x.1 × HasMode m x.0 x.2
ends_are_modes m ends x e =
    let c = bind_some (as_component (subject_of m ends.name)) (λ c. value_of m (subjects.Component c) ends.source >>= λ a. value_of m (subjects.Component c) ends.target >>= λ b. Some (c, a, b)) x e in
    let a = bind_some (value_of m (subjects.Component c.0) ends.source) (λ a. value_of m (subjects.Component c.0) ends.target >>= λ b. Some (c.0, a, b)) x c.2 in
    let b = bind_some (value_of m (subjects.Component c.0) ends.target) (λ b. Some (c.0, a.0, b)) x a.2 in
    let same : (c.0, a.0, b.0) ≡ x = cc in (
      subst (λ (y : ℕ × ℕ × ℕ). HasMode m y.0 y.1) same (mode_of_component m c.0 a.0 ends.source a.1),
      subst (λ (y : ℕ × ℕ × ℕ). HasMode m y.0 y.2) same (mode_of_component m c.0 b.0 ends.target b.1),
    )

-- ---- moves

module _ (m : PlantModel) (good : IsGood m) (repair : Bool) (ends : Ends) (command : List ℕ) (text : Whole) (bare : is_bare_name command ≡ true) where
  abbrev x_of : ℕ × ℕ × ℕ → Move
  x_of known = new_move m repair known command (whole_formula m text)

  move_kept : (known : ℕ × ℕ × ℕ) → ends_of m ends ≡ Some known → move_code_from m repair (Some known) command text ≡ None → IsGood (with_move (with_named m command) (x_of known))
  move_kept known e none =
      let faults = move_faults m (x_of known) in
      let limit = is_deep text || (is_long command || nat_le MAX_MOVES (length m.moves)) in
      let a = least_none 2 (names_unknown m text) ((3, lists_twice text) ∷ (4, limit) ∷ faults) none in
      let b = least_none 3 (lists_twice text) ((4, limit) ∷ faults) a.1 in
      let c = least_none 4 limit faults b.1 in
      let limits = or_parts (is_deep text) (is_long command || nat_le MAX_MOVES (length m.moves)) c.0 in
      let code : least ((4, is_long command || nat_le MAX_MOVES (length m.moves)) ∷ faults) ≡ None = ap (λ (t : Bool). cond t (Some 4) (least faults)) limits.1 ∙ c.1 in
      let may = may_move m (x_of known) command code in
      let guard = sound_is_formula true m (spelling text) (whole_formula m text) (whole_depth text) (sound_reading m text a.0 b.0 limits.0) in
      let modes = ends_are_modes m ends known e in
      elim (place_of m.commands command) as (λ o. place_of m.commands command ≡ o → IsGood (with_move (with_named m command) (x_of known))) [
        | Some k ↦ λ is. subst (λ (y : PlantModel). IsGood (with_move y (x_of known))) (sym (with_named_old m command k is)) (record {
          well_formed = old_move_kept m (x_of known) command good.well_formed may guard modes.0 modes.1 good.complete refl k is;
          complete = old_complete m (x_of known) good.complete;
        })
        | None ↦ λ is. subst (λ (y : PlantModel). IsGood (with_move y (x_of known))) (sym (with_named_new m command is)) (record {
          well_formed = new_move_kept m (x_of known) command good.well_formed may guard modes.0 modes.1 good.complete refl is bare;
          complete = new_complete m (x_of known) command (number_new m (x_of known) command good.well_formed may guard modes.0 modes.1 good.complete refl is) good.complete;
        })
      ] refl

  move_good_from : (o : Option (ℕ × ℕ × ℕ)) (n : PlantModel) → ends_of m ends ≡ o → Goes n ≡ unless (move_code_from m repair o command text) (with_declared m repair o command text) → IsGood n
  move_good_from None n e h = absurd cc
  move_good_from (Some known) n e h = kept (move_code_from m repair (Some known) command text) (with_move (with_named m command) (x_of known)) n (move_kept known e) h

  move_good : (n : PlantModel) → Goes n ≡ move_next m repair ends command text → IsGood n
  unfolding move_code
  move_good n h = move_good_from (ends_of m ends) n refl h

-- ---- failures

failure_good_from : (m n : PlantModel) (ends : Ends) (k : ℕ) (o : Option (ℕ × ℕ × ℕ)) → IsGood m → ends_of m ends ≡ o → Goes n ≡ unless (failure_code_from m o k) (with_fall m o k) → IsGood n
failure_good_from m n ends k None good e h = absurd cc
failure_good_from m n ends k (Some known) good e h =
    kept (failure_code_from m (Some known) k) (with_failure m (new_failure known k)) n
    (λ none. record {
      well_formed = failure_well_formed m known.0 known.1 known.2 k good.well_formed (ends_are_modes m ends known e).0 (ends_are_modes m ends known e).1 (least_none 4 _ [] none).0;
      complete = good.complete;
    }) h

failure_good : (m n : PlantModel) (ends : Ends) (k : ℕ) → IsGood m → Goes n ≡ failure_next m ends k → IsGood n
unfolding failure_code
failure_good m n ends k good h = failure_good_from m n ends k (ends_of m ends) good refl h

-- ---- lines

item_good : (m n : PlantModel) (item : Item) → IsGood m → HasBareNames item → IsNextOfItem m item (Goes n) → IsGood n
item_good m n (items.Header second) good bare h = absurd cc
item_good m n (items.Component name modes start) good bare h = component_good m n name modes start good bare h
item_good m n (items.Variable name values sensed) good bare h = variable_good m n name values sensed good bare h
item_good m n (items.Rule formula) good bare h = rule_good m n formula good h
item_good m n (items.Move repair ends command guard) good bare h =
    let t = text_goes guard (move_next m repair ends command) n h in
    move_good m good repair ends command t.0 bare n t.1
item_good m n (items.Failure ends cost) good bare h =
    let k = number_goes cost (failure_next m ends) n h in
    failure_good m n ends k.0 good k.1
item_good m n items.Script good bare h = absurd cc

form_good : (m n : PlantModel) (form : Option Item) → IsGood m → ((item : Item) → form ≡ Some item → HasBareNames item) → IsNextOfForm m form (Goes n) → IsGood n
form_good m n None good bare h = absurd cc
form_good m n (Some item) good bare h = item_good m n item good (bare item refl) h

next_goes : (next : Next) (t : ModelSoFar) → Reads t ≡ outcome next → next ≡ Goes t.model
next_goes (Goes m) t e = let same : t ≡ record { model = m; begun = true } = cc in ap (λ (r : ModelSoFar). Goes r.model) (sym same)
next_goes (Refused code) t e = absurd cc
next_goes Ended t e = absurd cc

opening_same : (m : PlantModel) (form : Option Item) (t : ModelSoFar) → Reads t ≡ opening m form → (t.model ≡ m) ⊎ (t.model ≡ in_second m)
opening_same m None t e = absurd cc
opening_same m (Some (items.Header false)) t e = let same : t ≡ record { model = m; begun = true } = cc in inl (ap (λ (r : ModelSoFar). r.model) same)
opening_same m (Some (items.Header true)) t e = let same : t ≡ record { model = in_second m; begun = true } = cc in inr (ap (λ (r : ModelSoFar). r.model) same)
opening_same m (Some (items.Component name modes start)) t e = absurd cc
opening_same m (Some (items.Variable name values sensed)) t e = absurd cc
opening_same m (Some (items.Rule formula)) t e = absurd cc
opening_same m (Some (items.Move repair ends command guard)) t e = absurd cc
opening_same m (Some (items.Failure ends cost)) t e = absurd cc
opening_same m (Some items.Script) t e = absurd cc

leads_good : (begun : Bool) (m : PlantModel) (form : Option Item) (t : ModelSoFar) → IsGood m → ((item : Item) → form ≡ Some item → HasBareNames item) → LeadsByForm begun m form (Reads t) → IsGood t.model
leads_good true m form t good bare (next, h, e) = form_good m t.model form good bare (subst (IsNextOfForm m form) (next_goes next t e) h)
leads_good false m form t good bare h = elim (opening_same m form t h) [
  | inl same ↦ subst IsGood (sym same) good
  | inr second ↦ subst IsGood (sym second) (record { well_formed = second_well_formed m good.well_formed; complete = good.complete })
]

tokens_good : (s t : ModelSoFar) (ts : Result (List Tok) ℕ) → IsGood s.model → ((toks : List Tok) → ts ≡ Ok toks → AllByRecursion IsOfItsKind toks) → LeadsByTokens s ts (Reads t) → IsGood t.model
tokens_good s t (Err at) good kinds h = absurd cc
tokens_good s t (Ok []) good kinds h = let same : t ≡ s = cc in subst (λ (r : ModelSoFar). IsGood r.model) (sym same) good
tokens_good s t (Ok (tok ∷ toks)) good kinds h =
    leads_good s.begun s.model (item_of (map lexeme (tok ∷ toks))) t good (λ item e. item_has_bare_names (tok ∷ toks) item (kinds (tok ∷ toks) refl) e) h

pub lines_keep_models_good : LinesKeepModelsGood
lines_keep_models_good s t line good h = tokens_good s t (tokens_of line) good (λ toks e. tokens_of_kinds line toks e) h
