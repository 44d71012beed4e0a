-- What each kind of part does in a turn.
use Rattle.std.proofs.Common.{◌≡◌, ℕ, zero, suc, ◌+◌, ◌<◌, ◌≤◌, List, [], ◌++◌, Option, Some, None, inl, inr, refl, sym, ap, subst, ◌∙◌, arith}
use Rattle.std.proofs.lemmas.Option.{same_Some}
use Rattle.cca_base.specs.declared.cube.Pair.{Pair}
use Rattle.cca_base.specs.PlantModel.{PlantModel}
use Rattle.control_laws.specs.Rest.{Rest as rest, Rests as rests, Turn, TurnSeq, TurnBoth, left_of, joined, round}
use Rattle.control_laws.specs.Laws.{ReachesAll, Awaits, OneByOne, GoesOnAtOnce, SideBySide, ChoosesByFormula, NextRound, SameRound, EmptyEnds, EndsSilently}
use Rattle.control_laws.proofs.OneTurn.{one_turn, one_both}

pub reaches_all : ReachesAll
unfolding Turn
reaches_all m e g asked next (inl h) = ((λ k. h.0, λ k. h.2), λ k. h.1, λ gone. absurd (gone h.0))
reaches_all m e g asked next (inr h) = ((λ k. absurd (let gone : None ≡ Some (rest.Reach g) = sym k ∙ h.2 in cc), λ k. absurd (h.0 k)), λ k. absurd (h.0 k), λ gone. (h.1, h.2))

pub awaits : Awaits
unfolding Turn
awaits m e f asked next (inl h) = (h.1, (λ k. h.0, λ k. h.2), λ gone. absurd (gone h.0))
awaits m e f asked next (inr h) = (h.1, (λ k. absurd (let gone : None ≡ Some (rest.Await f) = sym k ∙ h.2 in cc), λ k. absurd (h.0 k)), λ gone. h.2)

pub one_by_one : OneByOne
unfolding Turn TurnSeq
one_by_one m e x y xs own asked next h (ys, inl t, last) =
    let same = one_turn m e x own t.0 (Some y) None h t.2 in absurd (let gone : Some y ≡ None = same.1 in cc)
one_by_one m e x y xs own asked next h (ys, inr t, last) =
    let same = one_turn m e x own asked (Some y) (Some t.0) h t.1 in
    (sym same.0, last ∙ ap (left_of rest.Seq) t.2 ∙ ap (λ r. Some (rest.Seq (rests.more r xs))) (sym (same_Some y t.0 same.1)))

none_left : (wrap : rests → rest) (ys : rests) → left_of wrap ys ≡ None → ys ≡ rests.none
none_left wrap rests.none e = refl
none_left wrap (rests.more y ys) e = absurd (let gone : Some (wrap (rests.more y ys)) ≡ None = e in cc)

mutual
  unfolding Turn TurnSeq TurnBoth

  pub silent : EndsSilently
  silent m e (rest.Reach g) asked (inl h) = h.1
  silent m e (rest.Reach g) asked (inr h) = absurd (let gone : None ≡ Some (rest.Reach g) = h.2 in cc)
  silent m e (rest.Await f) asked (inl h) = h.1
  silent m e (rest.Await f) asked (inr h) = h.1
  silent m e (rest.Seq xs) asked (ys, t, last) = silent_seq m e xs asked ys t (none_left rest.Seq ys (sym last))
  silent m e (rest.Both xs) asked (ys, t, last) = silent_both m e xs asked ys t (none_left rest.Both ys (sym last))
  silent m e (rest.Choose f a b) asked (inl h) = silent m e a asked h.1
  silent m e (rest.Choose f a b) asked (inr h) = silent m e b asked h.1
  silent m e (rest.Repeat n body x) asked (None, t, last) = silent m e x asked t
  silent m e (rest.Repeat n body x) asked (Some y, t, last) = absurd (let gone : None ≡ Some (rest.Repeat n body y) = last in cc)

  silent_seq : (m : PlantModel) (e : List ℕ) (xs : rests) (asked : List Pair) (ys : rests) → TurnSeq m e xs asked ys → ys ≡ rests.none → asked ≡ []
  silent_seq m e rests.none asked ys h gone = h.0
  silent_seq m e (rests.more x xs) asked ys (inl h) gone = h.4 ∙ ap (λ l. l ++ h.1) (silent m e x h.0 h.2) ∙ silent_seq m e xs h.1 ys h.3 gone
  silent_seq m e (rests.more x xs) asked ys (inr h) gone = absurd (let k : rests.more h.0 xs ≡ rests.none = sym h.2 ∙ gone in cc)

  silent_both : (m : PlantModel) (e : List ℕ) (xs : rests) (asked : List Pair) (ys : rests) → TurnBoth m e xs asked ys → ys ≡ rests.none → asked ≡ []
  silent_both m e rests.none asked ys h gone = h.0
  silent_both m e (rests.more x xs) asked ys (first, others, None, zs, t, u, asks, left) gone =
      asks ∙ ap (λ l. l ++ others) (silent m e x first t) ∙ silent_both m e xs others zs u (sym left ∙ gone)
  silent_both m e (rests.more x xs) asked ys (first, others, Some y, zs, t, u, asks, left) gone = absurd (let k : rests.more y zs ≡ rests.none = sym left ∙ gone in cc)

pub goes_on_at_once : GoesOnAtOnce
unfolding Turn TurnSeq
goes_on_at_once m e x xs own asked next h (ys, inl t, last) =
    let none = ap (λ l. l ++ t.1) (silent m e x t.0 t.2) in
    (ys, subst (λ l. TurnSeq m e xs l ys) (sym (t.4 ∙ none)) t.3, last)
goes_on_at_once m e x xs own asked next h (ys, inr t, last) =
    let same = one_turn m e x own asked None (Some t.0) h t.1 in absurd (let gone : None ≡ Some t.0 = same.1 in cc)

-- what is left of branches, by what is left of the first and of the others
branch_goes : (y after : Option rest) (zs : rests) → after ≡ left_of rest.Both zs → y ≡ None → left_of rest.Both (joined y zs) ≡ after
branch_goes None after zs last e = sym last
branch_goes (Some z) after zs last e = absurd (let gone : Some z ≡ None = e in cc)

branch_alone : (y after : Option rest) (zs : rests) (z : rest) → after ≡ left_of rest.Both zs → y ≡ Some z → after ≡ None
    → left_of rest.Both (joined y zs) ≡ Some (rest.Both (rests.more z rests.none))
branch_alone y after zs z last e gone =
    ap (λ o. left_of rest.Both (joined o zs)) e ∙ ap (λ r. Some (rest.Both (rests.more z r))) (none_left rest.Both zs (sym last ∙ gone))

same_left : (zs ws : rests) → left_of rest.Both zs ≡ Some (rest.Both ws) → zs ≡ ws
same_left rests.none ws e = absurd (let gone : None ≡ Some (rest.Both ws) = e in cc)
same_left (rests.more x xs) ws e = let k : Some (rest.Both (rests.more x xs)) ≡ Some (rest.Both ws) = e in cc

branch_stays : (y after : Option rest) (zs : rests) (z : rest) (ws : rests) → after ≡ left_of rest.Both zs → y ≡ Some z → after ≡ Some (rest.Both ws)
    → left_of rest.Both (joined y zs) ≡ Some (rest.Both (rests.more z ws))
branch_stays y after zs z ws last e some =
    ap (λ o. left_of rest.Both (joined o zs)) e ∙ ap (λ r. Some (rest.Both (rests.more z r))) (same_left zs ws (sym last ∙ some))

pub side_by_side : SideBySide
unfolding Turn TurnBoth
side_by_side m e x xs own others asked y after next h (zs, rest_turns, is) (ys, (first, more, z, ws, t, u, asks, left), last) =
    let same = one_turn m e x own first y z h t in
    let also = one_both m e xs others more zs ws rest_turns u in
    let to : next ≡ left_of rest.Both (joined y zs) =
    last ∙ ap (left_of rest.Both) (left ∙ ap (λ o. joined o ws) (sym same.1) ∙ ap (joined y) (sym also.1)) in (
      asks ∙ ap (λ l. l ++ more) (sym same.0) ∙ ap (λ l. own ++ l) (sym also.0),
      λ gone. to ∙ branch_goes y after zs is gone,
      λ w some none. to ∙ branch_alone y after zs w is some none,
      λ w vs some all. to ∙ branch_stays y after zs w vs is some all,
    )

pub chooses : ChoosesByFormula
unfolding Turn
chooses m e f a b asked next (inl h) = (λ k. h.1, λ gone. absurd (gone h.0))
chooses m e f a b asked next (inr h) = (λ k. absurd (h.0 k), λ gone. h.1)

last_round : (n : ℕ) (body : rest) → n ≤ 1 → round n body None ≡ None
last_round zero body few = refl
last_round (suc zero) body few = refl
last_round (suc (suc n)) body few = absurd (omega (arith, few))

one_less : (n : ℕ) (body : rest) (k : ℕ) → n ≡ k + 1 → 0 < k → round n body None ≡ Some (rest.Repeat k body body)
one_less zero body k e some = absurd (omega (arith, e))
one_less (suc zero) body k e some = absurd (omega (arith, e, some))
one_less (suc (suc n)) body k e some = ap (λ i. Some (rest.Repeat i body body)) (omega (arith, e))

pub next_round : NextRound
unfolding Turn
next_round m e n body x own asked next h (y, t, last) =
    let same = one_turn m e x own asked None y h t in
    let to = last ∙ ap (round n body) (sym same.1) in
    (sym same.0, λ few. to ∙ last_round n body few, λ k is some. to ∙ one_less n body k is some)

pub same_round : SameRound
unfolding Turn
same_round m e n body x y own asked next h (z, t, last) =
    let same = one_turn m e x own asked (Some y) z h t in (sym same.0, last ∙ ap (round n body) (sym same.1))

pub empty_ends : EmptyEnds
unfolding Turn TurnSeq TurnBoth
empty_ends m e asked next = (λ h. h.2 ∙ ap (left_of rest.Seq) h.1.1, λ h. h.2 ∙ ap (left_of rest.Both) h.1.1)
