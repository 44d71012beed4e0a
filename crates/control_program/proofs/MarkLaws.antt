-- What marks stand for when they are cleared.
use Rattle.std.proofs.Common.{◌≡◌, true, false, Some, refl, sym, ap, ◌∙◌}
use Rattle.control_laws.specs.Rest.{Rest as rest, Rests as rests, joined}
use Rattle.control_program.specs.Marks.{Tree, Trees, none, more, several, begun, all_begun, cleared, all_cleared, again, rest_of, rests_of, is_nothing, IsProper, AreProper}

mutual
  unfolding begun cleared

  pub begun-cleared : (x : Tree) → begun (cleared x) ≡ begun x
  begun-cleared (Tree.Reach b g) = refl
  begun-cleared (Tree.Await b f) = refl
  begun-cleared (Tree.Parts o b xs) = ap (several o) (all_begun-all_cleared xs)
  begun-cleared (Tree.Choose c f x y) = ap (λ v. rest.Choose f v (begun (cleared y))) (begun-cleared x) ∙ ap (λ v. rest.Choose f (begun x) v) (begun-cleared y)
  begun-cleared (Tree.Repeat n k x) = ap (λ v. rest.Repeat n v v) (begun-cleared x)

  all_begun-all_cleared : (xs : Trees) → all_begun (all_cleared xs) ≡ all_begun xs
  all_begun-all_cleared none = refl
  all_begun-all_cleared (more x xs) = ap (λ v. rests.more v (all_begun (all_cleared xs))) (begun-cleared x) ∙ ap (rests.more (begun x)) (all_begun-all_cleared xs)

mutual
  unfolding begun cleared rest_of

  pub rest_of-cleared : (x : Tree) → rest_of (cleared x) ≡ Some (begun x)
  rest_of-cleared (Tree.Reach b g) = refl
  rest_of-cleared (Tree.Await b f) = refl
  rest_of-cleared (Tree.Parts o b xs) = ap (λ v. Some (several o v)) (rests_of-all_cleared xs)
  rest_of-cleared (Tree.Choose c f x y) = ap Some (begun-cleared (Tree.Choose c f x y))
  rest_of-cleared (Tree.Repeat n k x) = ap (again n (begun (cleared x))) (rest_of-cleared x) ∙ ap (λ v. Some (rest.Repeat n v (begun x))) (begun-cleared x)

  rests_of-all_cleared : (xs : Trees) → rests_of (all_cleared xs) ≡ all_begun xs
  rests_of-all_cleared none = refl
  rests_of-all_cleared (more x xs) = ap (λ v. joined v (rests_of (all_cleared xs))) (rest_of-cleared x) ∙ ap (rests.more (begun x)) (rests_of-all_cleared xs)

mutual
  unfolding begun cleared rest_of IsProper

  pub cleared_proper : (x : Tree) → IsProper (cleared x)
  cleared_proper (Tree.Reach b g) = tt
  cleared_proper (Tree.Await b f) = tt
  cleared_proper (Tree.Parts o b xs) = all_cleared_proper xs
  cleared_proper (Tree.Choose c f x y) =
      ((rest_of-cleared x ∙ ap Some (sym (begun-cleared x)), rest_of-cleared y ∙ ap Some (sym (begun-cleared y))), cleared_proper x, cleared_proper y)
  cleared_proper (Tree.Repeat n k x) = (λ h. let e : false ≡ true = sym (ap is_nothing (rest_of-cleared x)) ∙ h in absurd cc, cleared_proper x)

  all_cleared_proper : (xs : Trees) → AreProper (all_cleared xs)
  all_cleared_proper none = tt
  all_cleared_proper (more x xs) = (cleared_proper x, all_cleared_proper xs)
