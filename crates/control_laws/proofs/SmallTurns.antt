-- How a small program goes is shown by its turns, which are constructed; these are their steps.
use Rattle.std.proofs.Common.{◌≡◌, ◌==◌, false, ℕ, List, [], ◌∷◌, ◌++◌, map, Option, Some, None, slice_get, inl, inr, refl, sym, ap, subst, ◌∙◌}
use Rattle.std.proofs.lemmas.List.Elements.{All-nil, All-cons, All-head}
use Rattle.cca_base.specs.declared.cube.Pair.{Pair}
use Rattle.cca_base.specs.declared.formula.Formula.{Formula}
use Rattle.cca_base.specs.PlantModel.{PlantModel}
use Rattle.cca_base.specs.State.{Extends, Holds}
use Rattle.control_syntax.specs.declared.part.Part.{Part}
use Rattle.control_syntax.specs.declared.part.Part.TheOpen.{Part-F}
use Rattle.control_syntax.specs.declared.part.Part.TheFolds.{fold-roll-Part}
use Rattle.control_syntax.specs.Reading.{seq}
use Rattle.control_laws.specs.Examples.{reach, both, chosen, twice, place, GoesSo}
use Rattle.control_laws.specs.Rest.{Rest as rest, Rests as rests, rests as rests_of, rest_step, whole, Turn, TurnSeq, TurnBoth, left_of, joined, round}
use Rattle.control_laws.specs.Turns.{Control, ControlCall, Controls, TurnsTo, TurnsBy, firsts, fresh}
use Rattle.control_laws.proofs.Controlled.{one_control}
use Rattle.control_laws.proofs.SomeTurn.{unequal}

-- ---- what is left of each part at the start

pub whole_reach : (g : List Pair) → whole (reach g) ≡ rest.Reach g
whole_reach g = fold-roll-Part rest rest_step (Part-F.Reach g)

pub whole_seq : (parts : List Part) (xs : rests) → rests_of (map whole parts) ≡ xs → whole (seq parts) ≡ rest.Seq xs
whole_seq parts xs is = fold-roll-Part rest rest_step (Part-F.Seq parts) ∙ ap rest.Seq is

pub whole_both : (parts : List Part) (xs : rests) → rests_of (map whole parts) ≡ xs → whole (both parts) ≡ rest.Both xs
whole_both parts xs is = fold-roll-Part rest rest_step (Part-F.Both parts) ∙ ap rest.Both is

pub whole_twice : (part : Part) (x : rest) → whole part ≡ x → whole (twice part) ≡ rest.Repeat 2 x x
whole_twice part x is = fold-roll-Part rest rest_step (Part-F.Repeat 2 part) ∙ ap (λ r. rest.Repeat 2 r r) is

pub whole_chosen : (f : Formula) (a b : Part) (x y : rest) → whole a ≡ x → whole b ≡ y → whole (chosen f a b) ≡ rest.Choose f x y
whole_chosen f a b x y is also = fold-roll-Part rest rest_step (Part-F.Choose f a b) ∙ ap (λ r. rest.Choose f r (whole b)) is ∙ ap (λ r. rest.Choose f x r) also

pub one_more : (part : Part) (parts : List Part) (x : rest) (xs : rests) → whole part ≡ x → rests_of (map whole parts) ≡ xs → rests_of (map whole (part ∷ parts)) ≡ rests.more x xs
one_more part parts x xs is also = ap (λ r. rests.more r (rests_of (map whole parts))) is ∙ ap (λ r. rests.more x r) also

-- ---- single turns

abbrev pub at : rest → Option rest → Control
at program left = record { program = program; left = left }

pub goes_so : (m : PlantModel) (part : Part) (x : rest) → whole part ≡ x → (calls : List ControlCall) (goals : List (List Pair)) (left : Option rest)
    → Controls m (fresh x) calls goals (at x left) → GoesSo m part calls goals left
goes_so m part x is calls goals left h asked y =
    let own : Controls m (fresh (whole part)) calls goals (place part left) = subst (λ r. Controls m (fresh r) calls goals (at r left)) (sym is) h in (
      λ k. one_control m (fresh (whole part)) y (place part left) calls asked goals k own,
      λ k. subst (λ l. Controls m (fresh (whole part)) calls l y) (sym k.0) (subst (Controls m (fresh (whole part)) calls goals) (sym k.1) own),
    )

pub by : (m : PlantModel) (e : List ℕ) (program : rest) (x : Option rest) (asked : List Pair) (next : Option rest) → TurnsTo m e x asked next
    → TurnsBy m e (at program x) (firsts asked) (at program next)
by m e program x asked next t = record { asked = asked; next = next; turn = t; goals = refl; after = refl }

abbrev pub HasPair : List ℕ → Pair → Type 0
HasPair s p = slice_get s p.item ≡ Some p.value

pub there : (s : List ℕ) (p : Pair) → HasPair s p → Extends s (p ∷ [])
there s p h = All-cons (HasPair s) p [] h (All-nil (HasPair s))

pub not_there : (s : List ℕ) (p : Pair) (pairs : List Pair) (mode : ℕ) → slice_get s p.item ≡ Some mode → (mode == p.value) ≡ false → Extends s (p ∷ pairs) → ⊥
not_there s p pairs mode h differ all = unequal mode p.value differ (sym h ∙ All-head (HasPair s) p pairs all)

module _ (m : PlantModel) (e : List ℕ) where
  pub reached : (g : List Pair) → Extends e g → Turn m e (rest.Reach g) [] None
  unfolding Turn
  reached g h = inl (h, refl, refl)

  pub asks : (g : List Pair) → (Extends e g → ⊥) → Turn m e (rest.Reach g) g (Some (rest.Reach g))
  unfolding Turn
  asks g h = inr (h, refl, refl)

  pub seq_ends : Turn m e (rest.Seq rests.none) [] None
  unfolding Turn TurnSeq
  seq_ends = (rests.none, (refl, refl), refl)

  pub seq_stays : (x y : rest) (xs : rests) (asked : List Pair) → Turn m e x asked (Some y)
      → Turn m e (rest.Seq (rests.more x xs)) asked (Some (rest.Seq (rests.more y xs)))
  unfolding Turn TurnSeq
  seq_stays x y xs asked t = (rests.more y xs, inr (y, t, refl), refl)

  pub seq_goes : (x : rest) (xs : rests) (asked : List Pair) (next : Option rest) → Turn m e x [] None → Turn m e (rest.Seq xs) asked next
      → Turn m e (rest.Seq (rests.more x xs)) asked next
  unfolding Turn TurnSeq
  seq_goes x xs asked next t on = (on.0, inl ([], asked, t, on.1, refl), on.2)

  pub rounds_on : (n : ℕ) (body x : rest) (asked : List Pair) (y : Option rest) → Turn m e x asked y → Turn m e (rest.Repeat n body x) asked (round n body y)
  unfolding Turn
  rounds_on n body x asked y t = (y, t, refl)

  pub both_of_two : (x z : rest) (a b : List Pair) (y w : Option rest) → Turn m e x a y → Turn m e z b w
      → Turn m e (rest.Both (rests.more x (rests.more z rests.none))) (a ++ (b ++ [])) (left_of rest.Both (joined y (joined w rests.none)))
  unfolding Turn TurnBoth
  both_of_two x z a b y w t u = (
    joined y (joined w rests.none),
    (a, b ++ [], y, joined w rests.none, t, (b, [], w, rests.none, u, (refl, refl), refl, refl), refl, refl),
    refl,
  )

  pub both_of_one : (x : rest) (a : List Pair) (y : Option rest) → Turn m e x a y
      → Turn m e (rest.Both (rests.more x rests.none)) (a ++ []) (left_of rest.Both (joined y rests.none))
  unfolding Turn TurnBoth
  both_of_one x a y t = (joined y rests.none, (a, [], y, rests.none, t, (refl, refl), refl, refl), refl)

  pub takes_first : (f : Formula) (a b : rest) (asked : List Pair) (next : Option rest) → Holds m e f → Turn m e a asked next → Turn m e (rest.Choose f a b) asked next
  unfolding Turn
  takes_first f a b asked next h t = inl (h, t)

  pub takes_second : (f : Formula) (a b : rest) (asked : List Pair) (next : Option rest) → (Holds m e f → ⊥) → Turn m e b asked next
      → Turn m e (rest.Choose f a b) asked next
  unfolding Turn
  takes_second f a b asked next h t = inr (h, t)
