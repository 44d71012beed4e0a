-- What each kind of part becomes in a turn.
use Rattle.std.proofs.Common.{◌≡◌, ◌≤◌, ◌+◌, ℕ, zero, suc, Bool, true, false, List, [], ◌++◌, Option, Some, None, inl, inr, refl, sym, ap, subst, ◌∙◌, arith}
use Rattle.cca_base.specs.declared.cube.Pair.{Pair}
use Rattle.cca_base.specs.declared.formula.Formula.{Formula}
use Rattle.cca_base.specs.PlantModel.{PlantModel}
use Rattle.cca_base.specs.State.{Extends, Holds}
use Rattle.control_laws.specs.Rest.{Rest as rest, Rests as rests, joined, left_of, Turn, TurnSeq, TurnBoth}
use Rattle.control_laws.specs.Turns.{TurnsTo}
use Rattle.control_program.specs.Flat.{size, all_size}
use Rattle.control_program.specs.Marks.{Choice, open_yet, first, second, Tree, Trees, none, more, several, begun, all_begun, cleared, again, rest_of, rests_of, is_nothing, is_none, unless, has_ended, IsProper, AreProper}
use Rattle.control_program.specs.Turned.{Became, AllBecame, Chooses, TurnAll}
use Rattle.control_program.proofs.MarkLaws.{begun-cleared, rest_of-cleared, cleared_proper}
use Rattle.control_program.proofs.Sizes.{size-cleared}

unless-left : (wrap : rests → rest) (ys : rests) → unless (is_none ys) (wrap ys) ≡ left_of wrap ys
unless-left wrap rests.none = refl
unless-left wrap (rests.more x xs) = refl

module _ (m : PlantModel) (e : List ℕ) where
  pub stays_ended : (x : Tree) → IsProper x → rest_of x ≡ None → Became m e x [] x
  stays_ended x p h = record { turn = subst (λ o. TurnsTo m e o [] o) (sym h) (refl, refl); same = refl; size = refl; proper = p }

  pub reach_ends : (g : List Pair) → Extends e g → Became m e (Tree.Reach false g) [] (Tree.Reach true g)
  unfolding Turn begun rest_of size IsProper
  reach_ends g h = record { turn = inl (h, refl, refl); same = refl; size = refl; proper = tt }

  pub reach_stays : (g : List Pair) → (Extends e g → ⊥) → Became m e (Tree.Reach false g) g (Tree.Reach false g)
  unfolding Turn begun rest_of size IsProper
  reach_stays g h = record { turn = inr (h, refl, refl); same = refl; size = refl; proper = tt }

  pub await_ends : (f : Formula) → Holds m e f → Became m e (Tree.Await false f) [] (Tree.Await true f)
  unfolding Turn begun rest_of size IsProper
  await_ends f h = record { turn = inl (h, refl, refl); same = refl; size = refl; proper = tt }

  pub await_stays : (f : Formula) → (Holds m e f → ⊥) → Became m e (Tree.Await false f) [] (Tree.Await false f)
  unfolding Turn begun rest_of size IsProper
  await_stays f h = record { turn = inr (h, refl, refl); same = refl; size = refl; proper = tt }

  several_turn : (o : Bool) (xs ys : rests) (own : List Pair) (next : Option rest) → TurnAll o m e xs own ys → next ≡ left_of (several o) ys → Turn m e (several o xs) own next
  unfolding Turn
  several_turn true xs ys own next h is = (ys, h, is)
  several_turn false xs ys own next h is = (ys, h, is)

  pub parts_became : (o : Bool) (xs ys : Trees) (own : List Pair) (d : Bool) → d ≡ is_none (rests_of ys) → AllBecame o m e xs own ys
      → Became m e (Tree.Parts o false xs) own (Tree.Parts o d ys)
  unfolding begun rest_of size IsProper
  parts_became o xs ys own d is h = record {
    turn = several_turn o (rests_of xs) (rests_of ys) own (unless d (several o (rests_of ys))) h.turn
        (ap (λ b. unless b (several o (rests_of ys))) is ∙ unless-left (several o) (rests_of ys));
    same = ap (several o) h.same;
    size = ap suc h.size;
    proper = h.proper;
  }

  first_turn : (c : Choice) (f : Formula) (x y z : Tree) (own : List Pair) → Chooses m e c f true → IsProper (Tree.Choose c f x y) → Became m e x own z
      → TurnsTo m e (rest_of (Tree.Choose c f x y)) own (rest_of z)
  unfolding Turn rest_of IsProper
  first_turn open_yet f x y z own takes p b = inl (takes.0 refl, subst (λ o. TurnsTo m e o own (rest_of z)) p.0.0 b.turn)
  first_turn first f x y z own takes p b = b.turn
  first_turn second f x y z own takes p b = let no : true ≡ false = takes in absurd cc

  second_turn : (c : Choice) (f : Formula) (x y z : Tree) (own : List Pair) → Chooses m e c f false → IsProper (Tree.Choose c f x y) → Became m e y own z
      → TurnsTo m e (rest_of (Tree.Choose c f x y)) own (rest_of z)
  unfolding Turn rest_of IsProper
  second_turn open_yet f x y z own takes p b =
      inr ((λ holds. let no : false ≡ true = takes.1 holds in absurd cc), subst (λ o. TurnsTo m e o own (rest_of z)) p.0.1 b.turn)
  second_turn first f x y z own takes p b = let no : false ≡ true = takes in absurd cc
  second_turn second f x y z own takes p b = b.turn

  pub takes_first : (c : Choice) (f : Formula) (x y z : Tree) (own : List Pair) → Chooses m e c f true → IsProper (Tree.Choose c f x y) → Became m e x own z
      → Became m e (Tree.Choose c f x y) own (Tree.Choose first f z y)
  unfolding begun rest_of size IsProper
  takes_first c f x y z own takes p b = record {
    turn = first_turn c f x y z own takes p b;
    same = ap (λ v. rest.Choose f v (begun y)) b.same;
    size = ap (λ n. suc (n + size y)) b.size;
    proper = (tt, b.proper, p.2);
  }

  pub takes_second : (c : Choice) (f : Formula) (x y z : Tree) (own : List Pair) → Chooses m e c f false → IsProper (Tree.Choose c f x y) → Became m e y own z
      → Became m e (Tree.Choose c f x y) own (Tree.Choose second f x z)
  unfolding begun rest_of size IsProper
  takes_second c f x y z own takes p b = record {
    turn = second_turn c f x y z own takes p b;
    same = ap (λ v. rest.Choose f (begun x) v) b.same;
    size = ap (λ n. suc (size x + n)) b.size;
    proper = (tt, p.1, b.proper);
  }

  goes : (o u : Option rest) (k : ℕ) (v w : rest) (own : List Pair) → w ≡ v → is_nothing u ≡ false → TurnsTo m e o own u → TurnsTo m e (again k v o) own (again k w u)
  unfolding Turn
  goes None u k v w own same left h = let no : true ≡ false = sym (ap is_nothing h.1) ∙ left in absurd cc
  goes (Some r) None k v w own same left h = let no : true ≡ false = left in absurd cc
  goes (Some r) (Some q) k v w own same left h = (Some q, h, ap (λ z. Some (rest.Repeat k z q)) same)

  pub round_goes : (n k : ℕ) (x y : Tree) (own : List Pair) → has_ended y ≡ false → Became m e x own y → Became m e (Tree.Repeat n k x) own (Tree.Repeat n k y)
  unfolding begun rest_of size IsProper
  round_goes n k x y own left b = record {
    turn = goes (rest_of x) (rest_of y) k (begun x) (begun y) own b.same left b.turn;
    same = ap (λ v. rest.Repeat n v v) b.same;
    size = ap suc b.size;
    proper = ((λ ended. let no : false ≡ true = sym left ∙ ended in absurd cc), b.proper);
  }

  ends : (o u : Option rest) (k : ℕ) (v w : rest) (own : List Pair) → k ≤ 1 → is_nothing u ≡ true → TurnsTo m e o own u → TurnsTo m e (again k v o) own (again k w u)
  unfolding Turn
  ends None u k v w own last ended h = (h.0, ap (again k w) h.1)
  ends (Some r) None zero v w own last ended h = (None, h, refl)
  ends (Some r) None (suc zero) v w own last ended h = (None, h, refl)
  ends (Some r) None (suc (suc k)) v w own last ended h = absurd (omega (arith, last))
  ends (Some r) (Some q) k v w own last ended h = let no : false ≡ true = ended in absurd cc

  pub last_round_ends : (n k : ℕ) (x y : Tree) (own : List Pair) → k ≤ 1 → has_ended y ≡ true → Became m e x own y → Became m e (Tree.Repeat n k x) own (Tree.Repeat n k y)
  unfolding begun rest_of size IsProper
  last_round_ends n k x y own last ended b = record {
    turn = ends (rest_of x) (rest_of y) k (begun x) (begun y) own last ended b.turn;
    same = ap (λ v. rest.Repeat n v v) b.same;
    size = ap suc b.size;
    proper = ((λ _. last), b.proper);
  }

  next : (o u : Option rest) (k : ℕ) (v : rest) (own : List Pair) → (is_nothing o ≡ true → suc (suc k) ≤ 1) → is_nothing u ≡ true → TurnsTo m e o own u
      → TurnsTo m e (again (suc (suc k)) v o) own (Some (rest.Repeat (suc k) v v))
  unfolding Turn
  next None u k v own proper ended h = absurd (omega (arith, proper refl))
  next (Some r) None k v own proper ended h = (None, h, refl)
  next (Some r) (Some q) k v own proper ended h = let no : false ≡ true = ended in absurd cc

  rest_of-next : (n k : ℕ) (x y : Tree) → begun y ≡ begun x → rest_of (Tree.Repeat n k (cleared y)) ≡ Some (rest.Repeat k (begun x) (begun x))
  unfolding rest_of
  rest_of-next n k x y same =
      ap (again k (begun (cleared y))) (rest_of-cleared y) ∙ ap (λ v. Some (rest.Repeat k v (begun y))) (begun-cleared y) ∙ ap (λ v. Some (rest.Repeat k v v)) same

  next_proper : (n k : ℕ) (y : Tree) → IsProper (Tree.Repeat n k (cleared y))
  unfolding IsProper
  next_proper n k y = (λ h. let no : false ≡ true = sym (ap is_nothing (rest_of-cleared y)) ∙ h in absurd cc, cleared_proper y)

  pub round_ends : (n k : ℕ) (x y : Tree) (own : List Pair) → IsProper (Tree.Repeat n (suc (suc k)) x) → has_ended y ≡ true → Became m e x own y
      → Became m e (Tree.Repeat n (suc (suc k)) x) own (Tree.Repeat n (suc k) (cleared y))
  unfolding begun rest_of size IsProper
  round_ends n k x y own p ended b = record {
    turn = subst (λ o. TurnsTo m e (again (suc (suc k)) (begun x) (rest_of x)) own o) (sym (rest_of-next n (suc k) x y b.same))
        (next (rest_of x) (rest_of y) k (begun x) own p.0 ended b.turn);
    same = ap (λ v. rest.Repeat n v v) (begun-cleared y ∙ b.same);
    size = ap suc (size-cleared y ∙ b.size);
    proper = next_proper n (suc k) y;
  }

  -- ---- several parts
  pub none_became : (in_order : Bool) → AllBecame in_order m e none [] none
  unfolding Turn begun rest_of size IsProper
  none_became true = record { turn = (refl, refl); same = refl; size = refl; number = refl; proper = tt }
  none_became false = record { turn = (refl, refl); same = refl; size = refl; number = refl; proper = tt }

  stops : (o u : Option rest) (R : rests) (own : List Pair) → is_nothing u ≡ false → TurnsTo m e o own u → TurnSeq m e (joined o R) own (joined u R)
  unfolding Turn
  stops None u R own left h = let no : true ≡ false = sym (ap is_nothing h.1) ∙ left in absurd cc
  stops (Some q) None R own left h = let no : true ≡ false = left in absurd cc
  stops (Some q) (Some r) R own left h = inr (r, h, refl)

  pub seq_stops : (x y : Tree) (xs : Trees) (own : List Pair) → has_ended y ≡ false → AreProper xs → Became m e x own y → AllBecame true m e (more x xs) own (more y xs)
  unfolding begun rest_of size IsProper
  seq_stops x y xs own left p b = record {
    turn = stops (rest_of x) (rest_of y) (rests_of xs) own left b.turn;
    same = ap (λ v. rests.more v (all_begun xs)) b.same;
    size = ap (λ n. n + all_size xs) b.size;
    number = refl;
    proper = (b.proper, p);
  }

  goes_on : (o u : Option rest) (R Y : rests) (own others : List Pair) → is_nothing u ≡ true → TurnsTo m e o own u → TurnSeq m e R others Y
      → TurnSeq m e (joined o R) (own ++ others) (joined u Y)
  unfolding Turn
  goes_on None u R Y own others ended h k = subst (λ v. TurnSeq m e R (own ++ others) (joined v Y)) (sym h.1) (subst (λ a. TurnSeq m e R (a ++ others) Y) (sym h.0) k)
  goes_on (Some q) None R Y own others ended h k = inl (own, others, h, k, refl)
  goes_on (Some q) (Some r) R Y own others ended h k = let no : false ≡ true = ended in absurd cc

  beside : (o u : Option rest) (R Y : rests) (own others : List Pair) → TurnsTo m e o own u → TurnBoth m e R others Y → TurnBoth m e (joined o R) (own ++ others) (joined u Y)
  unfolding Turn
  beside None u R Y own others h k = subst (λ v. TurnBoth m e R (own ++ others) (joined v Y)) (sym h.1) (subst (λ a. TurnBoth m e R (a ++ others) Y) (sym h.0) k)
  beside (Some q) u R Y own others h k = (own, others, u, Y, h, k, refl, refl)

  both_kinds : (in_order : Bool) (o u : Option rest) (R Y : rests) (own others : List Pair) → (in_order ≡ true → is_nothing u ≡ true) → TurnsTo m e o own u
      → TurnAll in_order m e R others Y → TurnAll in_order m e (joined o R) (own ++ others) (joined u Y)
  both_kinds true o u R Y own others ended h k = goes_on o u R Y own others (ended refl) h k
  both_kinds false o u R Y own others ended h k = beside o u R Y own others h k

  pub all_go : (in_order : Bool) (x y : Tree) (xs ys : Trees) (own others : List Pair) → (in_order ≡ true → has_ended y ≡ true) → Became m e x own y
      → AllBecame in_order m e xs others ys → AllBecame in_order m e (more x xs) (own ++ others) (more y ys)
  unfolding begun rest_of size IsProper
  all_go in_order x y xs ys own others ended b h = record {
    turn = both_kinds in_order (rest_of x) (rest_of y) (rests_of xs) (rests_of ys) own others ended b.turn h.turn;
    same = ap (λ v. rests.more v (all_begun ys)) b.same ∙ ap (rests.more (begun x)) h.same;
    size = ap (λ n. n + all_size ys) b.size ∙ ap (λ n. size x + n) h.size;
    number = ap suc h.number;
    proper = (b.proper, h.proper);
  }
