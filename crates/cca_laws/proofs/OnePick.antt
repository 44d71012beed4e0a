-- What is picked and replied is determined.
use Rattle.std.proofs.Common.{◌≡◌, ℕ, ◌⊎◌, List, All, Contains, slice_get, inl, inr, refl, sym, ap, subst, ◌∙◌}
use Rattle.std.proofs.lemmas.Bool.{cases_order}
use Rattle.std.proofs.lemmas.List.Elements.{All-contains}
use Rattle.std.proofs.lemmas.List.Sorted.{All-permutation}
use Rattle.std.proofs.lemmas.Option.{same_Some}
use Rattle.list_laws.proofs.Elements.{contains_middle}
use Rattle.cca_base.specs.declared.cube.Pair.{Pair}
use Rattle.cca_base.specs.declared.model.Move.{Move}
use Rattle.cca_base.specs.declared.events.Reply.{Reply}
use Rattle.cca_base.specs.declared.events.Reply.TheVariants.{Idle, Send, Achieved, Unreachable}
use Rattle.cca_base.specs.PlantModel.{PlantModel}
use Rattle.cca_base.specs.Accepted.{CompiledModel}
use Rattle.cca_base.specs.Implicants.{PrimeImplicant}
use Rattle.cca_base.specs.State.{Extends}
use Rattle.cca_base.specs.Steps.{Reach}
use Rattle.cca_base.specs.Orders.{IsFirstMissing, IsNextOf}
use Rattle.cca_base.specs.Goals.{IsFirstUnreached}
use Rattle.cca_base.specs.Choice.{IsChosen, Picks, Now, First, PicksForGoal, IsChosenReply}
use Rattle.cca_laws.proofs.OneOrder.{one_sorted, neither_cube}
use Rattle.cca_laws.specs.Laws.{NoneTwice}
use Rattle.cca_laws.proofs.GoalLaws.{Held, same_split, one_first_missing, sends_serve, standing_is_reached}

one_move : (m : PlantModel) (s : List ℕ) (c to : ℕ) (a b : Move) (x y : List Pair) → IsChosen m s c to a x → IsChosen m s c to b y → a ≡ b
one_move m s c to a b x y h k = elim (cases_order h.at k.at) [
  | inl e ↦ same_Some a b (sym h.move_at ∙ ap (slice_get m.moves) e ∙ k.move_at)
  | inr (inl before) ↦ absurd (k.first_move h.at a before h.move_at h.nearer)
  | inr (inr after) ↦ absurd (h.first_move k.at b after k.move_at k.nearer)
]

one_cube : (m : PlantModel) (s : List ℕ) (c to : ℕ) (a b : Move) (x y : List Pair) → IsChosen m s c to a x → IsChosen m s c to b y → x ≡ y
one_cube m s c to a b x y h k =
    let e : a ≡ b = one_move m s c to a b x y h k in
    neither_cube x y
    (λ before. k.first_cube x (subst (λ z. PrimeImplicant m z x) e h.prime) h.reached before)
    (λ before. h.first_cube y (subst (λ z. PrimeImplicant m z y) (sym e) k.prime) k.reached before)

one_next : (order s : List ℕ) (cube : List Pair) (p q : Pair) → NoneTwice order → IsNextOf order s cube p → IsNextOf order s cube q → p ≡ q
one_next order s cube p q once h k =
    let e : h.sorted ≡ k.sorted = one_sorted order cube h.sorted k.sorted once h.is_sorted k.is_sorted in
    one_first_missing s k.sorted p q (subst (λ l. IsFirstMissing s l p) e h.first) k.first

none_next : (order s : List ℕ) (cube : List Pair) (p : Pair) → Extends s cube → IsNextOf order s cube p → ⊥
none_next order s cube p held h =
    let sorted_held : Extends s h.sorted = All-permutation (Held s) cube h.sorted h.is_sorted.same held in
    h.first.missing (All-contains (Held s) h.sorted p sorted_held (subst (λ l. Contains l p) (sym h.first.split) (contains_middle h.first.before h.first.after p)))

module _ (b : CompiledModel) (s : List ℕ) (once : NoneTwice b.order) where
  -- how a command was picked
  abbrev Opened : ℕ → ℕ → ℕ → Type 0
  Opened c to k =
      ((move : Move) × (cube : List Pair) × IsChosen b.model s c to move cube × Extends s cube × (k ≡ move.command))
      ⊎ ((move : Move) × (cube : List Pair) × (p : Pair) × IsChosen b.model s c to move cube × IsNextOf b.order s cube p × Picks b s p.item p.value k)

  opened : (c to k : ℕ) → Picks b s c to k → Opened c to k
  opened _ _ _ (Now c to move cube chosen held) = inl (move, cube, chosen, held, refl)
  opened _ _ _ (First c to k move cube p chosen next rest) = inr (move, cube, p, chosen, next, rest)

  one_pick : (c to k l : ℕ) → Picks b s c to k → Opened c to l → k ≡ l
  one_pick _ _ _ l (Now c to move cube chosen held) (inl (other, part, is, there, e)) = ap (λ z. z.command) (one_move b.model s c to move other cube part chosen is) ∙ sym e
  one_pick _ _ _ l (Now c to move cube chosen held) (inr (other, part, p, is, next, rest)) =
      absurd (none_next b.order s part p (subst (Extends s) (one_cube b.model s c to move other cube part chosen is) held) next)
  one_pick _ _ _ l (First c to k move cube p chosen next rest) (inl (other, part, is, there, e)) =
      absurd (none_next b.order s cube p (subst (Extends s) (sym (one_cube b.model s c to move other cube part chosen is)) there) next)
  one_pick _ _ _ l (First c to k move cube p chosen next rest) (inr (other, part, q, is, after, more)) =
      let same : cube ≡ part = one_cube b.model s c to move other cube part chosen is in
      let e : q ≡ p = one_next b.order s part q p once after (subst (λ z. IsNextOf b.order s z p) same next) in
      one_pick p.item p.value k l rest (opened p.item p.value l (subst (λ z. Picks b s z.item z.value l) e more))

  pub one_command : (goal : List Pair) (k l : ℕ) → PicksForGoal b s goal k → PicksForGoal b s goal l → k ≡ l
  one_command goal k l (p, missing, picks) (q, other, more) =
      let e : q ≡ p = one_first_missing s goal q p other missing in
      one_pick p.item p.value k l picks (opened p.item p.value l (subst (λ z. Picks b s z.item z.value l) e more))

  abbrev Reached : Pair → Type 0
  Reached p = Reach b.model s p.item p.value

  one_unreached : (goal : List Pair) (p q : Pair) → IsFirstUnreached b.model s goal p → IsFirstUnreached b.model s goal q → p ≡ q
  one_unreached goal p q h k = same_split Reached h.before h.after k.before k.after p q h.reached k.reached h.unreached k.unreached (sym h.split ∙ k.split)

  all_reached : (goal : List Pair) (p : Pair) → All Reached goal → IsFirstUnreached b.model s goal p → ⊥
  all_reached goal p h k = k.unreached (All-contains Reached goal p h (subst (λ l. Contains l p) (sym k.split) (contains_middle k.before k.after p)))

  -- there is one chosen reply at most
  pub one_reply : (goal : List Pair) (r t : Reply) → IsChosenReply b s goal r → IsChosenReply b s goal t → r ≡ t
  one_reply goal Idle t h k = absurd h.good
  one_reply goal r Idle h k = absurd k.good
  one_reply goal (Send x) (Send y) h k = ap Send (one_command goal x y (h.picked x refl) (k.picked y refl))
  one_reply goal (Send x) Achieved h k = absurd ((sends_serve b.model s goal x h.good).0 k.good)
  one_reply goal (Send x) (Unreachable c mode) h k = absurd (all_reached goal _ (sends_serve b.model s goal x h.good).1 k.good)
  one_reply goal Achieved (Send y) h k = absurd ((sends_serve b.model s goal y k.good).0 h.good)
  one_reply goal Achieved Achieved h k = refl
  one_reply goal Achieved (Unreachable c mode) h k = absurd (standing_is_reached b.model s goal c mode h.good k.good)
  one_reply goal (Unreachable c mode) (Send y) h k = absurd (all_reached goal _ (sends_serve b.model s goal y k.good).1 h.good)
  one_reply goal (Unreachable c mode) Achieved h k = absurd (standing_is_reached b.model s goal c mode k.good h.good)
  one_reply goal (Unreachable c mode) (Unreachable d other) h k =
      let e = one_unreached goal (record { item = c; value = mode }) (record { item = d; value = other }) h.good k.good in
      λ i. Unreachable (e i).item (e i).value
