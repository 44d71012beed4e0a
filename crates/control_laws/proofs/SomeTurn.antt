-- There is a turn with each estimate, and all calls have goals.
use Rattle.std.proofs.Common.{◌≡◌, ◌==◌, ◌⊎◌, ℕ, zero, suc, false, List, [], ◌∷◌, ◌++◌, Option, Some, None, slice_get, inl, inr, refl, ap, arith}
use Rattle.std.proofs.lemmas.Bool.{cases_Bool, eqb-true}
use Rattle.std.proofs.lemmas.Bool.Decides.{nat_tests}
use Rattle.std.proofs.lemmas.List.Elements.{All-nil, All-cons, All-head, All-tail}
use Rattle.std.proofs.lemmas.Option.{none-some, same_Some}
use Rattle.cca_base.specs.declared.cube.Pair.{Pair}
use Rattle.cca_base.specs.declared.formula.Formula.{Formula}
use Rattle.cca_base.specs.PlantModel.{PlantModel}
use Rattle.cca_base.specs.State.{Extends, Holds}
use Rattle.control_laws.specs.Laws.{HasTurn, HasGoals}
use Rattle.control_laws.specs.Rest.{Rest as rest, Rests as rests, Turn, TurnSeq, TurnBoth, left_of, joined, round}
use Rattle.control_laws.specs.Turns.{Control, TurnWith, Reset, TurnsTo, firsts, fresh}

pub unequal : (a b : ℕ) → (a == b) ≡ false → Some a ≡ Some b → ⊥
unequal a b h e = let same : a ≡ b = same_Some a b e in grind (arith, nat_tests, h, same)

has_at : (s : List ℕ) (i v : ℕ) → (slice_get s i ≡ Some v) ⊎ (slice_get s i ≡ Some v → ⊥)
has_at [] i v = inr (λ h. none-some v h)
has_at (x ∷ s) zero v = elim (cases_Bool (x == v)) [
  | inl is ↦ inl (ap (λ n. Some n) (eqb-true x v is))
  | inr differ ↦ inr (unequal x v differ)
]
has_at (x ∷ s) (suc i) v = has_at s i v

abbrev HasPair : List ℕ → Pair → Type 0
HasPair s p = slice_get s p.item ≡ Some p.value

extends_or_not : (s : List ℕ) (pairs : List Pair) → Extends s pairs ⊎ (Extends s pairs → ⊥)
extends_or_not s [] = inl (All-nil (HasPair s))
extends_or_not s (p ∷ pairs) = elim (has_at s p.item p.value) [
  | inl here ↦ elim (extends_or_not s pairs) [
    | inl all ↦ inl (All-cons (HasPair s) p pairs here all)
    | inr some ↦ inr (λ h. some (All-tail (HasPair s) p pairs h))
  ]
  | inr gone ↦ inr (λ h. gone (All-head (HasPair s) p pairs h))
]

abbrev SomeSeq : PlantModel → List ℕ → rests → Type 0
SomeSeq m e xs = (asked : List Pair) × (next : rests) × TurnSeq m e xs asked next

go_on : (m : PlantModel) (e : List ℕ) (x : rest) (xs : rests) (own : List Pair) (next : Option rest) → Turn m e x own next → SomeSeq m e xs → SomeSeq m e (rests.more x xs)
unfolding TurnSeq
go_on m e x xs own None t (others, ys, on) = (own ++ others, ys, inl (own, others, t, on, refl))
go_on m e x xs own (Some y) t on = (own, rests.more y xs, inr (y, t, refl))

module _ (m : PlantModel) (e : List ℕ) (decided : (f : Formula) → Holds m e f ⊎ (Holds m e f → ⊥)) where
  mutual
    unfolding Turn TurnSeq TurnBoth

    some_turn : (x : rest) → (asked : List Pair) × (next : Option rest) × Turn m e x asked next
    some_turn (rest.Reach g) = elim (extends_or_not e g) [
      | inl there ↦ ([], None, inl (there, refl, refl))
      | inr gone ↦ (g, Some (rest.Reach g), inr (gone, refl, refl))
    ]
    some_turn (rest.Await f) = elim (decided f) [
      | inl there ↦ ([], None, inl (there, refl, refl))
      | inr gone ↦ ([], Some (rest.Await f), inr (gone, refl, refl))
    ]
    some_turn (rest.Seq xs) = let t = some_seq xs in (t.0, left_of rest.Seq t.1, (t.1, t.2, refl))
    some_turn (rest.Both xs) = let t = some_both xs in (t.0, left_of rest.Both t.1, (t.1, t.2, refl))
    some_turn (rest.Choose f a b) = elim (decided f) [
      | inl there ↦ let t = some_turn a in (t.0, t.1, inl (there, t.2))
      | inr gone ↦ let t = some_turn b in (t.0, t.1, inr (gone, t.2))
    ]
    some_turn (rest.Repeat n body x) = let t = some_turn x in (t.0, round n body t.1, (t.1, t.2, refl))

    some_seq : (xs : rests) → (asked : List Pair) × (next : rests) × TurnSeq m e xs asked next
    some_seq rests.none = ([], rests.none, (refl, refl))
    some_seq (rests.more x xs) = let t = some_turn x in go_on m e x xs t.0 t.1 t.2 (some_seq xs)

    some_both : (xs : rests) → (asked : List Pair) × (next : rests) × TurnBoth m e xs asked next
    some_both rests.none = ([], rests.none, (refl, refl))
    some_both (rests.more x xs) =
        let t = some_turn x in
        let u = some_both xs in
        (t.0 ++ u.0, joined t.1 u.1, (t.0, u.0, t.1, u.1, t.2, u.2, refl, refl))

pub has_turn : HasTurn
has_turn m e decided x = some_turn m e decided x

turn_from : (m : PlantModel) (e : List ℕ) → ((f : Formula) → Holds m e f ⊎ (Holds m e f → ⊥)) → (x : Option rest)
    → (asked : List Pair) × (next : Option rest) × TurnsTo m e x asked next
turn_from m e decided None = ([], None, (refl, refl))
turn_from m e decided (Some x) = some_turn m e decided x

pub has_goals : HasGoals
has_goals m decided x [] = ([], x, (refl, refl))
has_goals m decided x (TurnWith e ∷ calls) =
    let t = turn_from m e (decided e) x.left in
    let z : Control = record { program = x.program; left = t.1 } in
    let on = has_goals m decided z calls in
    (firsts t.0 ∷ on.0, on.1, (z, record { asked = t.0; next = t.1; turn = t.2; goals = refl; after = refl }, on.2))
has_goals m decided x (Reset ∷ calls) = has_goals m decided (fresh x.program) calls
