-- States with the pairs of a cube.
use Rattle.std.proofs.Common.{◌≡◌, ◌≢◌, inl, inr, ℕ, ◌+◌, ◌<◌, true, false, List, [], ◌∷◌, ◌++◌, length, get_or, take, slice_get, slice_index, slice_index_or, slice_set, Some, All, Contains, refl, sym, ap, subst, ◌∙◌, arith}
use Rattle.std.proofs.lemmas.Bool.{cases_eq}
use Rattle.std.proofs.lemmas.Grind.{get_or-set_at}
use Rattle.std.proofs.lemmas.List.{get_or-set_other, length-set, get_or-take, get_or_default, length-take, take_more}
use Rattle.std.proofs.lemmas.List.Elements.{All-push, All-contains, Contains-append_left, Contains-append_right}
use Rattle.std.proofs.lemmas.Option.{slice_get-get_or, slice_get_within, get_or_from_slice_get}
use Rattle.list_laws.proofs.Members.{all_from, contains_here}
use Rattle.cca_base.specs.declared.cube.Pair.{Pair}
use Rattle.cca_base.specs.PlantModel.{PlantModel}
use Rattle.cca_base.specs.Cube.{IsCube}
use Rattle.cca_base.specs.Model.{HasMode}
use Rattle.cca_base.specs.Sets.{has}
use Rattle.cca_base.proofs.Within.{mode_within}
use Rattle.reach_laws.specs.Classes.{Test}
use Rattle.reversibility.specs.ClassParts.{in_row}
use Rattle.wish_laws.specs.Lightest.{MayStand, IsLighterMode, IsLightestOf}

pub stands_in_class : (rows s : List ℕ) (c v : ℕ) → has (slice_index rows c) v ≡ true → MayStand (in_row rows) s c v
stands_in_class rows s c v h = inl h

pub not_beside : (rows s : List ℕ) (c v free : ℕ) → has (slice_index rows c) v ≡ false → has (slice_index rows c) free ≡ true → MayStand (in_row rows) s c v → ⊥
not_beside rows s c v free h k (inl is) = absurd (cc)
not_beside rows s c v free h k (inr (own, none)) = none free k

pub own_stands : (rows s : List ℕ) (c v free : ℕ) → has (slice_index rows c) free ≡ false → MayStand (in_row rows) s c free → v ≡ slice_index s c → MayStand (in_row rows) s c v
own_stands rows s c v free h (inl is) e = absurd (cc)
own_stands rows s c v free h (inr (own, none)) e = inr (e, none)

pub not_own : (rows s : List ℕ) (c v : ℕ) → has (slice_index rows c) v ≡ false → (v ≡ slice_index s c → ⊥) → MayStand (in_row rows) s c v → ⊥
not_own rows s c v h k (inl is) = absurd (cc)
not_own rows s c v h k (inr (own, none)) = k own

-- ---- one pair more

module _ (m : PlantModel) (member : Test) (weights : List (List ℕ)) (s : List ℕ) where
  one_more : (pairs : List Pair) (t : List ℕ) (p : Pair) → IsLightestOf m member weights s pairs t → p.item < length m.components → HasMode m p.item p.value → MayStand member s p.item p.value
      → ((q : Pair) → Contains pairs q → q.item ≢ p.item) → IsLightestOf m member weights s (pairs ++ p ∷ []) (slice_set t p.item p.value)
  one_more pairs t p its within mode may other =
      let inside : p.item < length t = (let full = its.stands.state.full in omega (arith, full, within)) in
      let at : (c : ℕ) → c ≡ p.item → slice_index (slice_set t p.item p.value) c ≡ p.value = λ c e. get_or-set_at t p.item c p.value 0 e inside in
      let apart : (c : ℕ) → c ≢ p.item → slice_index (slice_set t p.item p.value) c ≡ slice_index t c = λ c ne. get_or-set_other t p.item c p.value 0 ne in
      let long : length (slice_set t p.item p.value) ≡ length t = length-set t p.item p.value in
      record {
        stands = record {
          state = record {
            full = long ∙ its.stands.state.full;
            modes = λ c h. elim (cases_eq c p.item) [
              | inl e ↦ subst (HasMode m c) (sym (at c e)) (subst (λ d. HasMode m d p.value) (sym e) mode)
              | inr ne ↦ subst (HasMode m c) (sym (apart c ne)) (its.stands.state.modes c h)
            ];
          };
          each = λ c h. elim (cases_eq c p.item) [
            | inl e ↦ subst (MayStand member s c) (sym (at c e)) (subst (λ d. MayStand member s d p.value) (sym e) may)
            | inr ne ↦ subst (MayStand member s c) (sym (apart c ne)) (its.stands.each c h)
          ];
        };
        extends = All-push (λ (q : Pair). slice_get (slice_set t p.item p.value) q.item ≡ Some q.value) pairs p
            (all_from (λ (q : Pair). slice_get (slice_set t p.item p.value) q.item ≡ Some q.value) pairs (λ q among.
            let here : slice_get t q.item ≡ Some q.value = All-contains (λ (z : Pair). slice_get t z.item ≡ Some z.value) pairs q its.extends among in
            let there : q.item < length t = slice_get_within t q.item q.value here in
            slice_get-get_or (slice_set t p.item p.value) q.item 0 (omega (arith, long, there)) ∙ ap Some (apart q.item (other q among) ∙ get_or_from_slice_get t q.item q.value 0 here)))
            (slice_get-get_or (slice_set t p.item p.value) p.item 0 (omega (arith, long, inside)) ∙ ap Some (at p.item refl));
        others = λ c h. elim (cases_eq c p.item) [
          | inl e ↦ inl (
            p.value,
            Contains-append_right pairs (p ∷ []) (record { item = c; value = p.value })
                (contains_here p (record { item = c; value = p.value }) [] (ap (λ n. record { item = n; value = p.value }) (sym e))),
          )
          | inr ne ↦ elim (its.others c h) [
            | inl (mode_c, among) ↦ inl (mode_c, Contains-append_left pairs (p ∷ []) (record { item = c; value = mode_c }) among)
            | inr lightest ↦ inr (λ mode_c may_c. subst (λ x. IsLighterMode (slice_index_or weights c []) x mode_c) (sym (apart c ne)) (lightest mode_c may_c))
          ]
        ];
      }

  -- the next pair of a cube
  pub next_pair : (cube : List Pair) (i : ℕ) (t : List ℕ) (p : Pair) → i < length cube → get_or cube i p ≡ p → IsCube cube → All (λ q. HasMode m q.item q.value) cube
      → MayStand member s p.item p.value → IsLightestOf m member weights s (take i cube) t → IsLightestOf m member weights s (take (i + 1) cube) (slice_set t p.item p.value)
  next_pair cube i t p inside here once modes may its =
      let longer : take (i + 1) cube ≡ take i cube ++ p ∷ [] = take_more cube i p inside ∙ ap (λ q. take i cube ++ q ∷ []) here in
      let mode : HasMode m p.item p.value = subst (λ (q : Pair). HasMode m q.item q.value) here (modes i p inside) in
      subst (λ l. IsLightestOf m member weights s l (slice_set t p.item p.value)) (sym longer)
      (one_more (take i cube) t p its (mode_within m p.item p.value mode) mode may (λ q among e.
      let (k, short, at) = among in
      let less : k < i = omega (arith, short, length-take i cube) in
      let early : get_or cube k q ≡ q = sym (get_or-take i cube k q less) ∙ at in
      let apart : (get_or cube k p).item ≢ (get_or cube i p).item = once k i p less inside in
      apart (ap (λ (z : Pair). z.item) (get_or_default cube k p q (omega arith) ∙ early) ∙ e ∙ ap (λ (z : Pair). z.item) (sym here))))
