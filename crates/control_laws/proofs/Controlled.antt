-- Calls one after the other have one list of goals, whose pairs are the program's.
use Rattle.std.proofs.Common.{◌≡◌, ◌⊎◌, ℕ, zero, suc, List, [], ◌∷◌, ◌++◌, Option, Some, None, Contains, inl, inr, refl, sym, ap, subst, ◌∙◌}
use Rattle.std.proofs.lemmas.List.Elements.{Contains-append_left, Contains-append_right, Contains-append_cases}
use Rattle.list_laws.proofs.Members.{contains_cases, contains_none}
use Rattle.cca_base.specs.declared.cube.Pair.{Pair}
use Rattle.cca_base.specs.PlantModel.{PlantModel}
use Rattle.control_laws.specs.Asked.{pairs_left, all_pairs_left, pairs_of_left}
use Rattle.control_laws.specs.Laws.{OneControl}
use Rattle.control_laws.specs.Rest.{Rest as rest, Rests as rests, Turn, TurnSeq, TurnBoth, left_of, joined, round}
use Rattle.control_laws.specs.Turns.{Control, ControlCall, TurnWith, Reset, Controls, TurnsTo, TurnsBy, firsts, fresh}
use Rattle.control_laws.proofs.OneTurn.{one_turn}
use Rattle.control_laws.proofs.FirstPairs.{of_asked}

pub one_turning : (m : PlantModel) (e : List ℕ) (x : Option rest) (a b : List Pair) (y z : Option rest) → TurnsTo m e x a y → TurnsTo m e x b z → (a ≡ b) × (y ≡ z)
one_turning m e None a b y z h k = (h.0 ∙ sym k.0, h.1 ∙ sym k.1)
one_turning m e (Some x) a b y z h k = one_turn m e x a b y z h k

abbrev with_left : Control → Option rest → Control
with_left x next = record { program = x.program; left = next }

pub one_turn_by : (m : PlantModel) (e : List ℕ) (x : Control) (a b : List Pair) (y z : Control) → TurnsBy m e x a y → TurnsBy m e x b z → (a ≡ b) × (y ≡ z)
one_turn_by m e x a b y z h k =
    let same = one_turning m e x.left h.asked k.asked h.next k.next h.turn k.turn in (
      h.goals ∙ ap firsts same.0 ∙ sym k.goals,
      h.after ∙ ap (with_left x) same.1 ∙ sym k.after,
    )

pub one_control : OneControl
one_control m x y z [] a b h k = (h.0 ∙ sym k.0, h.1 ∙ sym k.1)
one_control m x y z (TurnWith e ∷ calls) [] b h k = absurd h
one_control m x y z (TurnWith e ∷ calls) (a ∷ gs) [] h k = absurd k
one_control m x y z (TurnWith e ∷ calls) (a ∷ gs) (b ∷ hs) (u, t, on) (v, s, also) =
    let same = one_turn_by m e x a b u v t s in
    let rest = one_control m v y z calls gs hs (subst (λ w. Controls m w calls gs y) same.1 on) also in
    (ap (λ c. c ∷ gs) same.0 ∙ ap (λ l. b ∷ l) rest.0, rest.1)
one_control m x y z (Reset ∷ calls) a b h k = one_control m (fresh x.program) y z calls a b h k

-- ---- which pairs are asked for

-- what is asked and what is left has no other pairs
abbrev Within : List Pair → List Pair → List Pair → Type 0
Within pairs asked next = (p : Pair) → Contains asked p ⊎ Contains next p → Contains pairs p

nothing_within : (pairs asked next : List Pair) → asked ≡ [] → next ≡ [] → Within pairs asked next
nothing_within pairs asked next a b p (inl among) = absurd (contains_none p (subst (λ l. Contains l p) a among))
nothing_within pairs asked next a b p (inr among) = absurd (contains_none p (subst (λ l. Contains l p) b among))

seq_pairs : (ys : rests) → pairs_of_left (left_of rest.Seq ys) ≡ all_pairs_left ys
unfolding all_pairs_left pairs_left
seq_pairs rests.none = refl
seq_pairs (rests.more y ys) = refl

both_pairs : (ys : rests) → pairs_of_left (left_of rest.Both ys) ≡ all_pairs_left ys
unfolding all_pairs_left pairs_left
both_pairs rests.none = refl
both_pairs (rests.more y ys) = refl

joined_pairs : (y : Option rest) (ys : rests) → all_pairs_left (joined y ys) ≡ pairs_of_left y ++ all_pairs_left ys
unfolding all_pairs_left pairs_left
joined_pairs None ys = refl
joined_pairs (Some y) ys = refl

round_pairs : (n : ℕ) (body : rest) (y : Option rest) (p : Pair) → Contains (pairs_of_left (round n body y)) p → Contains (pairs_left body) p ⊎ Contains (pairs_of_left y) p
unfolding pairs_left
round_pairs n body (Some x) p among = Contains-append_cases (pairs_left body) (pairs_left x) p among
round_pairs zero body None p among = absurd (contains_none p among)
round_pairs (suc zero) body None p among = absurd (contains_none p among)
round_pairs (suc (suc n)) body None p among = elim (Contains-append_cases (pairs_left body) (pairs_left body) p among) [
  | inl a ↦ inl a
  | inr b ↦ inl b
]

-- asked and left pairs of a first part and of the others
split_asked : (first others asked : List Pair) (p : Pair) → asked ≡ first ++ others → Contains asked p → Contains first p ⊎ Contains others p
split_asked first others asked p e among = Contains-append_cases first others p (subst (λ l. Contains l p) e among)

mutual
  unfolding Turn TurnSeq TurnBoth pairs_left all_pairs_left

  turn_within : (m : PlantModel) (e : List ℕ) (x : rest) (asked : List Pair) (next : Option rest) → Turn m e x asked next → Within (pairs_left x) asked (pairs_of_left next)
  turn_within m e (rest.Reach g) asked next (inl h) p among = nothing_within g asked (pairs_of_left next) h.1 (ap pairs_of_left h.2) p among
  turn_within m e (rest.Reach g) asked next (inr h) p (inl among) = subst (λ l. Contains l p) h.1 among
  turn_within m e (rest.Reach g) asked next (inr h) p (inr among) = subst (λ o. Contains (pairs_of_left o) p) h.2 among
  turn_within m e (rest.Await f) asked next (inl h) p among = nothing_within [] asked (pairs_of_left next) h.1 (ap pairs_of_left h.2) p among
  turn_within m e (rest.Await f) asked next (inr h) p among = nothing_within [] asked (pairs_of_left next) h.1 (ap pairs_of_left h.2) p among
  turn_within m e (rest.Seq xs) asked next (ys, t, last) p among =
      subst (Within (all_pairs_left xs) asked) (sym (ap pairs_of_left last ∙ seq_pairs ys)) (seq_within m e xs asked ys t) p among
  turn_within m e (rest.Both xs) asked next (ys, t, last) p among =
      subst (Within (all_pairs_left xs) asked) (sym (ap pairs_of_left last ∙ both_pairs ys)) (both_within m e xs asked ys t) p among
  turn_within m e (rest.Choose f a b) asked next (inl h) p among = Contains-append_left (pairs_left a) (pairs_left b) p (turn_within m e a asked next h.1 p among)
  turn_within m e (rest.Choose f a b) asked next (inr h) p among = Contains-append_right (pairs_left a) (pairs_left b) p (turn_within m e b asked next h.1 p among)
  turn_within m e (rest.Repeat n body x) asked next (y, t, last) p (inl among) =
      Contains-append_right (pairs_left body) (pairs_left x) p (turn_within m e x asked y t p (inl among))
  turn_within m e (rest.Repeat n body x) asked next (y, t, last) p (inr among) =
      elim (round_pairs n body y p (subst (λ o. Contains (pairs_of_left o) p) last among)) [
        | inl of_body ↦ Contains-append_left (pairs_left body) (pairs_left x) p of_body
        | inr of_rest ↦ Contains-append_right (pairs_left body) (pairs_left x) p (turn_within m e x asked y t p (inr of_rest))
      ]

  seq_within : (m : PlantModel) (e : List ℕ) (xs : rests) (asked : List Pair) (ys : rests) → TurnSeq m e xs asked ys → Within (all_pairs_left xs) asked (all_pairs_left ys)
  seq_within m e rests.none asked ys h p among = nothing_within [] asked (all_pairs_left ys) h.0 (ap all_pairs_left h.1) p among
  seq_within m e (rests.more x xs) asked ys (inl (first, others, t, on, asks)) p (inl among) = elim (split_asked first others asked p asks among) [
    | inl a ↦ Contains-append_left (pairs_left x) (all_pairs_left xs) p (turn_within m e x first None t p (inl a))
    | inr b ↦ Contains-append_right (pairs_left x) (all_pairs_left xs) p (seq_within m e xs others ys on p (inl b))
  ]
  seq_within m e (rests.more x xs) asked ys (inl (first, others, t, on, asks)) p (inr among) =
      Contains-append_right (pairs_left x) (all_pairs_left xs) p (seq_within m e xs others ys on p (inr among))
  seq_within m e (rests.more x xs) asked ys (inr (y, t, stays)) p (inl among) =
      Contains-append_left (pairs_left x) (all_pairs_left xs) p (turn_within m e x asked (Some y) t p (inl among))
  seq_within m e (rests.more x xs) asked ys (inr (y, t, stays)) p (inr among) =
      elim (Contains-append_cases (pairs_left y) (all_pairs_left xs) p (subst (λ l. Contains (all_pairs_left l) p) stays among)) [
        | inl a ↦ Contains-append_left (pairs_left x) (all_pairs_left xs) p (turn_within m e x asked (Some y) t p (inr a))
        | inr b ↦ Contains-append_right (pairs_left x) (all_pairs_left xs) p b
      ]

  both_within : (m : PlantModel) (e : List ℕ) (xs : rests) (asked : List Pair) (ys : rests) → TurnBoth m e xs asked ys → Within (all_pairs_left xs) asked (all_pairs_left ys)
  both_within m e rests.none asked ys h p among = nothing_within [] asked (all_pairs_left ys) h.0 (ap all_pairs_left h.1) p among
  both_within m e (rests.more x xs) asked ys (first, others, y, zs, t, on, asks, left) p (inl among) = elim (split_asked first others asked p asks among) [
    | inl a ↦ Contains-append_left (pairs_left x) (all_pairs_left xs) p (turn_within m e x first y t p (inl a))
    | inr b ↦ Contains-append_right (pairs_left x) (all_pairs_left xs) p (both_within m e xs others zs on p (inl b))
  ]
  both_within m e (rests.more x xs) asked ys (first, others, y, zs, t, on, asks, left) p (inr among) =
      elim (Contains-append_cases (pairs_of_left y) (all_pairs_left zs) p (subst (λ l. Contains l p) (ap all_pairs_left left ∙ joined_pairs y zs) among)) [
        | inl a ↦ Contains-append_left (pairs_left x) (all_pairs_left xs) p (turn_within m e x first y t p (inr a))
        | inr b ↦ Contains-append_right (pairs_left x) (all_pairs_left xs) p (both_within m e xs others zs on p (inr b))
      ]

turning_within : (m : PlantModel) (e : List ℕ) (x : Option rest) (asked : List Pair) (next : Option rest) → TurnsTo m e x asked next
    → Within (pairs_of_left x) asked (pairs_of_left next)
turning_within m e None asked next h = nothing_within [] asked (pairs_of_left next) h.0 (ap pairs_of_left h.1)
turning_within m e (Some x) asked next h = turn_within m e x asked next h

-- a goal's pairs are of what was left, and so are those of what is left behind it
pub turn_of_left : (m : PlantModel) (e : List ℕ) (x : Control) (goal : List Pair) (y : Control) (p : Pair) → TurnsBy m e x goal y
    → (Contains goal p → Contains (pairs_of_left x.left) p) × (Contains (pairs_of_left y.left) p → Contains (pairs_of_left x.left) p)
turn_of_left m e x goal y p h =
    let within = turning_within m e x.left h.asked h.next h.turn in (
      λ among. within p (inl (of_asked h.asked p (subst (λ l. Contains l p) h.goals among))),
      λ among. within p (inr (subst (λ (c : Control). Contains (pairs_of_left c.left) p) h.after among)),
    )

-- the same of calls, from a place of which nothing is left that the program doesn't have
pub goals_of_program : (m : PlantModel) (x : Control) (calls : List ControlCall) (goals : List (List Pair)) (y : Control)
    → ((p : Pair) → Contains (pairs_of_left x.left) p → Contains (pairs_left x.program) p) → Controls m x calls goals y
    → (goal : List Pair) (p : Pair) → Contains goals goal → Contains goal p → Contains (pairs_left x.program) p
goals_of_program m x [] goals y keeps h goal p among of = absurd (contains_none goal (subst (λ l. Contains l goal) h.0 among))
goals_of_program m x (TurnWith e ∷ calls) [] y keeps h goal p among of = absurd h
goals_of_program m x (TurnWith e ∷ calls) (g ∷ goals) y keeps (z, t, on) goal p among of =
    let program : z.program ≡ x.program = ap (λ (c : Control). c.program) t.after in
    elim (contains_cases g goal goals among) [
      | inl here ↦ keeps p ((turn_of_left m e x g z p t).0 (subst (λ l. Contains l p) (sym here) of))
      | inr there ↦ subst (λ r. Contains (pairs_left r) p) program
          (goals_of_program m z calls goals y (λ q left. subst (λ r. Contains (pairs_left r) q) (sym program) (keeps q ((turn_of_left m e x g z q t).1 left))) on goal p there of)
    ]
goals_of_program m x (Reset ∷ calls) goals y keeps h goal p among of = goals_of_program m (fresh x.program) calls goals y (λ q left. left) h goal p among of
