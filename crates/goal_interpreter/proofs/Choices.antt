-- The lighter of states, cube by cube.
use Rattle.std.proofs.Common.{◌≡◌, ◌⊎◌, inl, inr, ℕ, true, false, List, [], ◌∷◌, ◌++◌, Option, None, Some, All, refl, sym, ap, subst, ◌∙◌, arith}
use Rattle.std.specs.Ordering.{nat_cmp, ordering_reverse, is_le}
use Rattle.std.specs.Cmp.Lexicographic.{slice_cmp}
use Rattle.std.specs.declared.cmp.Ordering.TheVariants.{Less, Equal, Greater}
use Rattle.std.proofs.lemmas.Cmp.{nat_list_cmp_total}
use Rattle.std.proofs.lemmas.Map.Lookups.{exact_bytes}
use Rattle.std.proofs.lemmas.List.Elements.{All-push, Contains-append_left, Contains-append_right}
use Rattle.list_laws.proofs.Members.{contains_here}
use Rattle.cca_base.specs.declared.cube.Pair.{Pair}
use Rattle.cca_base.specs.PlantModel.{PlantModel}
use Rattle.cca_base.specs.Estimates.{IsEarlier}
use Rattle.reach_laws.specs.Classes.{Test}
use Rattle.wish_laws.specs.Settled.{weight_of}
use Rattle.wish_laws.specs.Lightest.{IsBarred, IsLighter}
use Rattle.wish_laws.proofs.Weighing.{lighter_trans}
use Rattle.goal_interpreter.specs.declared.candidate.Weighed.{Weighed}
use Rattle.goal_interpreter.specs.Choosing.{IsLightest, IsLightestAmong, IsLighterOne, IsNoHeavier, IsUpTo}

pub no_later : (a b : List ℕ) → is_le (slice_cmp nat_cmp a b) ≡ true → (a ≡ b) ⊎ IsEarlier a b
no_later a b h =
    elim (slice_cmp nat_cmp a b) as (λ o. slice_cmp nat_cmp a b ≡ o → (a ≡ b) ⊎ IsEarlier a b) [
      | Less ↦ λ e. inr e
      | Equal ↦ λ e. inl (exact_bytes a b e)
      | Greater ↦ λ e. absurd (let f = ap is_le e in cc)
    ] refl

pub no_earlier : (a b : List ℕ) → is_le (slice_cmp nat_cmp a b) ≡ false → (b ≡ a) ⊎ IsEarlier b a
no_earlier a b h =
    elim (slice_cmp nat_cmp a b) as (λ o. slice_cmp nat_cmp a b ≡ o → (b ≡ a) ⊎ IsEarlier b a) [
      | Less ↦ λ e. absurd (let f = ap is_le e in cc)
      | Equal ↦ λ e. absurd (let f = ap is_le e in cc)
      | Greater ↦ λ e. inr (nat_list_cmp_total.antisymm b a ∙ ap ordering_reverse e)
    ] refl

module _ (m : PlantModel) (member : Test) (weights : List (List ℕ)) (s : List ℕ) where
  -- by right weights, what is no heavier is lighter
  lighter_by : (x y : Weighed) → x.weight ≡ weight_of weights x.state.modes → y.weight ≡ weight_of weights y.state.modes → IsNoHeavier x y
      → IsLighter weights x.state.modes y.state.modes
  lighter_by x y e f (inl less) = inl (omega (arith, e, f, less))
  lighter_by x y e f (inr same) = inr (sym e ∙ same.0 ∙ f, same.1)

  -- a lighter state is up to what the other is up to
  up_to_more : (t u : List ℕ) → IsLighter weights t u → (cube : List Pair) → IsUpTo m member weights s u cube → IsUpTo m member weights s t cube
  up_to_more t u less cube (inl barred) = inl barred
  up_to_more t u less cube (inr (v, its, lighter)) = inr (v, its, lighter_trans weights t u v less lighter)

  up_to_itself : (x : Weighed) (cube : List Pair) → IsLightest m member weights s cube (Some x) → IsUpTo m member weights s x.state.modes cube
  up_to_itself x cube its = inr (x.state.modes, its.0, inr (refl, inl refl))

  all_more : (P Q : List Pair → Type 0) → ((cube : List Pair) → P cube → Q cube) → (cubes : List (List Pair)) → All P cubes → All Q cubes
  all_more P Q then cubes h k d l = then _ (h k d l)

  -- one cube more
  pub among_more : (cubes : List (List Pair)) (cube : List Pair) (best next one : Option Weighed) → IsLightestAmong m member weights s cubes best → IsLightest m member weights s cube next
      → IsLighterOne best next one → IsLightestAmong m member weights s (cubes ++ cube ∷ []) one
  among_more cubes cube None None one barred its e = subst (IsLightestAmong m member weights s (cubes ++ cube ∷ [])) (sym e) (All-push (IsBarred member s) cubes cube barred its)
  among_more cubes cube None (Some y) one barred its e = subst (IsLightestAmong m member weights s (cubes ++ cube ∷ [])) (sym e) (
    (cube, Contains-append_right cubes (cube ∷ []) cube (contains_here cube cube [] refl), its),
    All-push (IsUpTo m member weights s y.state.modes) cubes cube
        (all_more (IsBarred member s) (IsUpTo m member weights s y.state.modes) (λ other b. inl b) cubes barred) (up_to_itself y cube its),
  )
  among_more cubes cube (Some x) None one ((other, among, lightest), upto) its e = subst (IsLightestAmong m member weights s (cubes ++ cube ∷ [])) (sym e) (
    (other, Contains-append_left cubes (cube ∷ []) other among, lightest),
    All-push (IsUpTo m member weights s x.state.modes) cubes cube upto (inl its),
  )
  among_more cubes cube (Some x) (Some y) one ((other, among, lightest), upto) its (inl (e, less)) = subst (IsLightestAmong m member weights s (cubes ++ cube ∷ [])) (sym e) (
    (other, Contains-append_left cubes (cube ∷ []) other among, lightest),
    All-push (IsUpTo m member weights s x.state.modes) cubes cube upto (inr (y.state.modes, its.0, lighter_by x y lightest.1 its.1 less)),
  )
  among_more cubes cube (Some x) (Some y) one ((other, among, lightest), upto) its (inr (e, less)) = subst (IsLightestAmong m member weights s (cubes ++ cube ∷ [])) (sym e) (
    (cube, Contains-append_right cubes (cube ∷ []) cube (contains_here cube cube [] refl), its),
    All-push (IsUpTo m member weights s y.state.modes) cubes cube
        (all_more (IsUpTo m member weights s x.state.modes) (IsUpTo m member weights s y.state.modes) (up_to_more y.state.modes x.state.modes (lighter_by y x its.1 lightest.1 less)) cubes upto)
        (up_to_itself y cube its),
  )
