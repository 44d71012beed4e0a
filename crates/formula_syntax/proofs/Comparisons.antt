-- What is read of a name and its values.
use Rattle.std.proofs.Common.{◌≡◌, ℕ, Bool, true, false, not, ◌||◌, ◌&&◌, List, [], ◌∷◌, Option, Some, None, get_or, refl, sym, ap, ◌∙◌, eqb, eq-eqb}
use Rattle.std.specs.Prelude.{is_some}
use Rattle.std.specs.List.{list_any}
use Rattle.std.specs.Str.{bytes_eq}
use Rattle.std.proofs.lemmas.Bool.{eqb-true}
use Rattle.std.proofs.lemmas.List.Quantifiers.{position-Some}
use Rattle.std.proofs.lemmas.Slice.Eq.{bytes_eq-Decides}
use Rattle.cca_base.specs.declared.formula.Formula.{roll-Formula}
use Rattle.cca_base.specs.declared.formula.Formula.TheOpen.{Formula-F}
use Rattle.cca_base.specs.declared.formula.Subject.{Subject}
use Rattle.cca_base.specs.PlantModel.{PlantModel}
use Rattle.cca_base.specs.Sets.{has, with_number}
use Rattle.cca_base.proofs.SetLaws.{has-with_number, has-empty}
use Rattle.formula_syntax.specs.declared.read_part.ReadPart.TheVariants.{Sound, Faulty}
use Rattle.formula_syntax.specs.declared.atom.Atom.TheVariants.{Known, Unknown}
use Rattle.formula_syntax.specs.Grammar.{NameWord}
use Rattle.formula_syntax.specs.Lookups.{subject_of, choices_of, value_of}
use Rattle.formula_syntax.specs.ReadParts.{begun, named, counted, among}
use Rattle.formula_syntax.specs.Meanings.{words, lacks_value, is_unknown, has_twice, with_found, with_numbers, has_among, is_among, verdict}
use Rattle.formula_syntax.proofs.TextReadings.{with_values}
use Rattle.formula_syntax.proofs.UnknownNames.{different_text}

or_later : (strict a b c : Bool) → ((a || (strict && b)) || (strict && c)) ≡ (a || (strict && (b || c)))
or_later true true b c = refl
or_later true false b c = refl
or_later false true b c = refl
or_later false false b c = refl

or_none : (strict a : Bool) → (a || (strict && false)) ≡ a
or_none true true = refl
or_none true false = refl
or_none false true = refl
or_none false false = refl

pub same_text : (a : List ℕ) → bytes_eq a a ≡ true
same_text a = (bytes_eq-Decides a a).1 refl

bytes_sym : (a b : List ℕ) → bytes_eq a b ≡ bytes_eq b a
bytes_sym a b = elim (bytes_eq a b) as (λ t. bytes_eq a b ≡ t → t ≡ bytes_eq b a) [
  | true ↦ (λ e. sym (ap (λ x. bytes_eq x a) (sym ((bytes_eq-Decides a b).0 e)) ∙ same_text a))
  | false ↦ (λ e. sym (different_text b a (λ same. let h = sym e ∙ ap (λ x. bytes_eq x b) (sym same) ∙ same_text b in absurd cc)))
] refl

-- one of the words is among those that were seen, or stands twice
abbrev again : List (List ℕ) → List (List ℕ) → Bool
again seen [] = false
again seen (v ∷ vs) = list_any (bytes_eq v) seen || again (v ∷ seen) vs

module _ (strict : Bool) (m : PlantModel) (s : Subject) where
  -- a value's number is that of no other value
  same_number : (v w : List ℕ) (k : ℕ) → value_of m s v ≡ Some k → value_of m s w ≡ Some k → v ≡ w
  same_number v w k a b =
      let names : List (List ℕ) = choices_of m s in
      let none : List ℕ = [] in
      let x = (position-Some (λ name. bytes_eq name v) names k none a).1 in
      let y = (position-Some (λ name. bytes_eq name w) names k none b).1 in
      sym ((bytes_eq-Decides (get_or names k none) v).0 x) ∙ (bytes_eq-Decides (get_or names k none) w).0 y

  some_same : (i j : ℕ) → Some i ≡ Some j → i ≡ j
  some_same i j e = cc

  equal_numbers : (v w : List ℕ) (i j : ℕ) → value_of m s v ≡ Some i → value_of m s w ≡ Some j → eqb j i ≡ bytes_eq w v
  equal_numbers v w i j a b = elim (bytes_eq w v) as (λ t. bytes_eq w v ≡ t → eqb j i ≡ t) [
    | true ↦ (λ e. eq-eqb j i (some_same j i (sym b ∙ ap (value_of m s) ((bytes_eq-Decides w v).0 e) ∙ a)))
    | false ↦ (λ e. elim (eqb j i) as (λ t. eqb j i ≡ t → t ≡ false) [
      | true ↦ (λ h. let same = same_number w v i (b ∙ ap (λ (n : ℕ). Some n) (eqb-true j i h)) a in let f = sym e ∙ ap (λ x. bytes_eq x v) same ∙ same_text v in absurd cc)
      | false ↦ (λ h. refl)
    ] refl)
  ] refl

  -- the set has the numbers of the values that were seen
  abbrev SetFits : ℕ → List (List ℕ) → Type 0
  SetFits set seen = (w : List ℕ) (k : ℕ) → value_of m s w ≡ Some k → has set k ≡ list_any (bytes_eq w) seen

  one_more_fits : (set : ℕ) (seen : List (List ℕ)) (v : List ℕ) (i : ℕ) → SetFits set seen → value_of m s v ≡ Some i → SetFits (with_number set i) (v ∷ seen)
  one_more_fits set seen v i h e w k f =
      has-with_number set i k
      ∙ ap (λ (b : Bool). b || has set k) (equal_numbers v w i k e f)
      ∙ ap (λ (b : Bool). bytes_eq w v || b) (h w k f)

  unknown_stays : (values : List NameWord) → among (with_values strict m Unknown values) ≡ Faulty 2
  unknown_stays [] = refl
  unknown_stays (v ∷ values) = unknown_stays values

  known_is_read : (set : ℕ) (repeated : Bool) → among (Known s set repeated) ≡ verdict false repeated false (Sound (roll-Formula (Formula-F.Among s set)) 1)
  known_is_read set true = refl
  known_is_read set false = refl

  abbrev lacking : List ℕ → Bool
  lacking value = not (is_some (value_of m s value))

  values_are_read : (values : List NameWord) (set : ℕ) (repeated : Bool) (seen : List (List ℕ)) → SetFits set seen
      → among (with_values strict m (Known s set repeated) values)
      ≡ verdict (list_any lacking (words values)) (repeated || (strict && again seen (words values))) false (Sound (roll-Formula (Formula-F.Among s (with_numbers m s set (words values)))) 1)
  values_are_read [] set repeated seen h = known_is_read set repeated ∙ ap (λ (b : Bool). verdict false b false (Sound (roll-Formula (Formula-F.Among s set)) 1)) (sym (or_none strict repeated))
  values_are_read (v ∷ values) set repeated seen h =
      let P : Option ℕ → Type 0 = λ o. among (with_values strict m (counted strict s set repeated o) values)
      ≡ verdict (not (is_some o) || list_any lacking (words values)) (repeated || (strict && (list_any (bytes_eq v.text) seen || again (v.text ∷ seen) (words values)))) false
      (Sound (roll-Formula (Formula-F.Among s (with_numbers m s (with_found set o) (words values)))) 1)
      in
      elim (value_of m s v.text) as (λ o. value_of m s v.text ≡ o → P o) [
        | None ↦ (λ e. unknown_stays values)
        | Some i ↦ (λ e.
            let ih = values_are_read values (with_number set i) (repeated || (strict && has set i)) (v.text ∷ seen) (one_more_fits set seen v.text i h e) in
            let set_of = Sound (roll-Formula (Formula-F.Among s (with_numbers m s (with_number set i) (words values)))) 1 in
            ih
            ∙ ap (λ (b : Bool). verdict (list_any lacking (words values)) ((repeated || (strict && b)) || (strict && again (v.text ∷ seen) (words values))) false set_of) (h v.text i e)
            ∙ ap (λ (b : Bool). verdict (list_any lacking (words values)) b false set_of) (or_later strict repeated (list_any (bytes_eq v.text) seen) (again (v.text ∷ seen) (words values))))
      ] refl

-- no word is among none
any_in : List (List ℕ) → List (List ℕ) → Bool
any_in seen vs = list_any (λ v. list_any (bytes_eq v) seen) vs

any_in_more : (x : List ℕ) (seen vs : List (List ℕ)) → any_in (x ∷ seen) vs ≡ (list_any (bytes_eq x) vs || any_in seen vs)
unfolding any_in
any_in_more x seen [] = refl
any_in_more x seen (v ∷ vs) =
    ap (λ (b : Bool). (bytes_eq v x || list_any (bytes_eq v) seen) || b) (any_in_more x seen vs)
    ∙ or_four (bytes_eq v x) (list_any (bytes_eq v) seen) (list_any (bytes_eq x) vs) (any_in seen vs)
    ∙ ap (λ (b : Bool). (b || list_any (bytes_eq x) vs) || (list_any (bytes_eq v) seen || any_in seen vs)) (bytes_sym v x)
  where
    or_four : (a b c d : Bool) → ((a || b) || (c || d)) ≡ ((a || c) || (b || d))
    or_four true b c d = refl
    or_four false true true d = refl
    or_four false true false d = refl
    or_four false false c d = refl

again_is : (seen vs : List (List ℕ)) → again seen vs ≡ (any_in seen vs || has_twice vs)
unfolding any_in
again_is seen [] = refl
again_is seen (v ∷ vs) =
    ap (λ (b : Bool). list_any (bytes_eq v) seen || b) (again_is (v ∷ seen) vs ∙ ap (λ (b : Bool). b || has_twice vs) (any_in_more v seen vs))
    ∙ regroup (list_any (bytes_eq v) seen) (list_any (bytes_eq v) vs) (any_in seen vs) (has_twice vs)
  where
    regroup : (a b c d : Bool) → (a || ((b || c) || d)) ≡ ((a || c) || (b || d))
    regroup true b c d = refl
    regroup false true true d = refl
    regroup false true false d = refl
    regroup false false c d = refl

none_in : (vs : List (List ℕ)) → any_in [] vs ≡ false
unfolding any_in
none_in [] = refl
none_in (v ∷ vs) = none_in vs

again_none : (vs : List (List ℕ)) → again [] vs ≡ has_twice vs
again_none vs = again_is [] vs ∙ ap (λ (b : Bool). b || has_twice vs) (none_in vs)

-- a name with its values
pub comparison_is_read : (strict : Bool) (m : PlantModel) (name : NameWord) (values : List NameWord) → among (with_values strict m (named m name.text) values)
    ≡ verdict (is_unknown m (record { name = name.text; values = words values })) (strict && has_twice (words values)) false (Sound (is_among m name.text (words values)) 1)
comparison_is_read strict m name values =
    elim (subject_of m name.text) as (λ o. among (with_values strict m (begun o) values) ≡ verdict (lacks_value m o (words values)) (strict && has_twice (words values)) false (Sound (has_among m o (words values)) 1)) [
      | None ↦ nothing
      | Some s ↦
          values_are_read strict m s values 0 false [] (λ w k e. has-empty k)
          ∙ ap (λ (b : Bool). verdict (list_any (λ value. not (is_some (value_of m s value))) (words values)) (strict && b) false (Sound (roll-Formula (Formula-F.Among s (with_numbers m s 0 (words values)))) 1)) (again_none (words values))
    ]
  where
    nothing_from : (vs : List NameWord) → among (with_values strict m Unknown vs) ≡ Faulty 2
    nothing_from [] = refl
    nothing_from (v ∷ vs) = nothing_from vs

    nothing : among (with_values strict m Unknown values) ≡ Faulty 2
    nothing = nothing_from values
