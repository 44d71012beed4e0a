-- The turns of repetitions, on the flat list.
use Rattle.std.proofs.Common.{◌≡◌, ◌+◌, ◌-◌, ◌<◌, ◌≤◌, ℕ, suc, Bool, true, false, List, [], ◌∷◌, ◌++◌, length, map, get_or, slice_get, slice_set, Option, Some, None, refl, sym, ap, subst, ◌∙◌, arith, append_assoc}
use Rattle.std.proofs.lemmas.Option.{slice_get-get_or}
use Rattle.cca_base.specs.declared.cube.Pair.{Pair}
use Rattle.control_laws.specs.Rest.{Rest as rest}
use Rattle.control_program.specs.declared.asking.Asking.{Asking}
use Rattle.control_program.specs.declared.nodes.Kind.{Kind}
use Rattle.control_program.specs.declared.nodes.Mark.{Mark}
use Rattle.control_program.specs.declared.nodes.Node.{Node}
use Rattle.control_program.specs.Courses.{StandsIn, RoundAt, EndsRound}
use Rattle.control_program.specs.Flat.{Marked, Entry, fresh_entry, size, laid}
use Rattle.control_program.specs.Marks.{Tree, begun, cleared, again, rest_of, has_ended, is_nothing, IsProper}
use Rattle.control_program.specs.Places.{IsOfKind, IsCleared, marked, rounds_of}
use Rattle.control_program.specs.Turned.{Became, HasTurned}
use Rattle.control_program.proofs.MarkLaws.{rest_of-cleared}
use Rattle.control_program.proofs.PartTurns.{round_goes, last_round_ends, round_ends}
use Rattle.control_program.proofs.PlaceLaws.{LiesAt, lies, in_marks, headed, written, size_at, end_in_nodes, end_in_marks, place_behind}
use Rattle.control_program.proofs.Sizes.{laid-append, laid-cleared, length-laid, size-cleared}

ended-again : (k : ℕ) (r : rest) (o : Option rest) → is_nothing (again k r o) ≡ is_nothing o
ended-again k r None = refl
ended-again k r (Some q) = refl

ended-repeat : (n k : ℕ) (x : Tree) → has_ended (Tree.Repeat n k x) ≡ has_ended x
unfolding rest_of
ended-repeat n k x = ended-again k (begun x) (rest_of x)

same_rounds : (x y : Tree) (n k l : ℕ) → Tree.Repeat n k x ≡ Tree.Repeat n l y → k ≡ l
same_rounds x y n k l e = cc

-- ---- behind a round

module _ (ns : List Node) (ms : List Mark) (at number : ℕ) (r : RoundAt (marked ns ms) at number) (of : IsOfKind ns at (Kind.Repeat number)) where
  abbrev pub round_lies : LiesAt (marked ns ms) at
  round_lies = record { before = r.before; tree = Tree.Repeat number r.rounds r.body; after = r.after; place = r.place; nodes = r.nodes }

  -- the rounds that are read
  pub rounds_read : (k : Mark) → slice_get ms at ≡ Some k → rounds_of k ≡ r.rounds
  rounds_read k h = let y = headed ns ms at round_lies (Kind.Repeat number) of k h in same_rounds y.0 r.body number (rounds_of k) r.rounds (sym y.1)

  -- how many nodes it has
  round_size : (n : Node) → slice_get ns at ≡ Some n → n.size ≡ suc (size r.body)
  unfolding size
  round_size n h = size_at ns ms at round_lies n h

  abbrev head : Entry
  head = (Marked.Repeat number r.rounds, suc (size r.body))

  cleared_nodes : (ms' : List Mark) (end : ℕ) → end ≡ at + suc (size r.body) → IsCleared (at + 1) end (marked ns ms) (marked ns ms')
      → marked ns ms' ≡ r.before ++ laid (Tree.Repeat number r.rounds (cleared r.body)) r.after
  unfolding laid
  cleared_nodes ms' end ends clear =
      clear (r.before ++ head ∷ []) (laid r.body []) r.after
      (r.nodes ∙ sym (append_assoc r.before (head ∷ []) (laid r.body r.after)) ∙ ap (λ l. (r.before ++ head ∷ []) ++ l) (laid-append r.body r.after)
      ∙ sym (append_assoc (r.before ++ head ∷ []) (laid r.body []) r.after))
      (place_behind r.before head at r.place)
      (omega (arith, place_behind r.before head at r.place, length-laid r.body [], ends))
      ∙ append_assoc (r.before ++ head ∷ []) (map fresh_entry (laid r.body [])) r.after
      ∙ ap (λ l. (r.before ++ head ∷ []) ++ l) (sym (laid-cleared r.body r.after))
      ∙ append_assoc r.before (head ∷ []) (laid (cleared r.body) r.after)
      ∙ ap (λ v. r.before ++ (Marked.Repeat number r.rounds, suc v) ∷ laid (cleared r.body) r.after) (sym (size-cleared r.body))

  next_nodes : (ms' : List Mark) (end j : ℕ) → end ≡ at + suc (size r.body) → IsCleared (at + 1) end (marked ns ms) (marked ns ms')
      → marked ns (slice_set ms' at (Mark.Rounds (suc j))) ≡ r.before ++ laid (Tree.Repeat number (suc j) (cleared r.body)) r.after
  unfolding size
  next_nodes ms' end j ends clear =
      written ns ms' at
      (record { before = r.before; tree = Tree.Repeat number r.rounds (cleared r.body); after = r.after; place = r.place; nodes = cleared_nodes ms' end ends clear })
      (Kind.Repeat number) of (Mark.Rounds (suc j)) (Tree.Repeat number (suc j) (cleared r.body)) refl refl refl

  pub ends_in_nodes : (n : Node) → slice_get ns at ≡ Some n → at + n.size ≤ length ns
  ends_in_nodes n h = omega (arith, size_at ns ms at round_lies n h, end_in_nodes ns ms at round_lies)

  pub ends_in_marks : (n : Node) → slice_get ns at ≡ Some n → at + n.size ≤ length ms
  ends_in_marks n h = omega (arith, size_at ns ms at round_lies n h, end_in_marks ns ms at round_lies)

  -- with the marks cleared and the rounds written, a round is left less
  pub round_next : (k : Mark) → slice_get ms at ≡ Some k → (ms' : List Mark) (n : Node) → slice_get ns at ≡ Some n → IsCleared (at + 1) (at + n.size) (marked ns ms) (marked ns ms')
      → (rounds : ℕ) → rounds ≡ rounds_of k → 1 < rounds → (new : List Mark) → new ≡ slice_set ms' at (Mark.Rounds (rounds - 1))
      → (j : ℕ) × (r.rounds ≡ suc (suc j)) × (marked ns new ≡ r.before ++ laid (Tree.Repeat number (suc j) (cleared r.body)) r.after)
  round_next k h ms' n of clear rounds read lt new set =
      let left : rounds - 1 ≡ suc (rounds - 2) = omega (arith, lt) in (
        rounds - 2,
        omega (arith, rounds_read k h, read, lt),
        ap (marked ns) (set ∙ ap (λ v. slice_set ms' at (Mark.Rounds v)) left) ∙ next_nodes ms' (at + n.size) (rounds - 2) (ap (λ v. at + v) (round_size n of)) clear,
      )

-- ---- a turn

module _ (a : Asking) (ms : List Mark) (at : ℕ) (s : StandsIn a ms at) (number : ℕ) (of : IsOfKind a.nodes.now at (Kind.Repeat number)) where
  abbrev pub k : Mark
  k = get_or ms at Mark.Open

  abbrev pub body : (y : Tree) × (s.tree ≡ Tree.Repeat number (rounds_of k) y)
  body = headed a.nodes.now ms at (lies s) (Kind.Repeat number) of k (slice_get-get_or ms at Mark.Open (in_marks a.nodes.now ms at (lies s)))

  abbrev pub body_head : Entry
  body_head = (Marked.Repeat number (rounds_of k), suc (size body.0))

  pub body_nodes : marked a.nodes.now ms ≡ (s.before ++ body_head ∷ []) ++ laid body.0 s.after
  unfolding laid
  body_nodes = s.nodes ∙ ap (λ v. s.before ++ laid v s.after) body.1 ∙ sym (append_assoc s.before (body_head ∷ []) (laid body.0 s.after))

  pub body_proper : IsProper body.0
  unfolding IsProper
  body_proper = (subst IsProper body.1 s.proper).1

  abbrev pub body_stands : StandsIn a ms (at + 1)
  body_stands = record {
    before = s.before ++ body_head ∷ [];
    tree = body.0;
    after = s.after;
    place = place_behind s.before body_head at s.place;
    nodes = body_nodes;
    proper = body_proper;
  }

  module _ (goal : List Pair) (ended : Bool) (ms' : List Mark) (all : List Pair)
      (b : HasTurned a.model.now a.estimate.now.modes (s.before ++ body_head ∷ []) body.0 s.after goal ended (marked a.nodes.now ms') all) where
    pub turned_nodes : marked a.nodes.now ms' ≡ s.before ++ laid (Tree.Repeat number (rounds_of k) b.next) s.after
    unfolding laid
    turned_nodes =
        b.nodes ∙ append_assoc s.before (body_head ∷ []) (laid b.next s.after)
        ∙ ap (λ v. s.before ++ (Marked.Repeat number (rounds_of k), suc v) ∷ laid b.next s.after) (sym b.became.size)

    abbrev pub round_at : RoundAt (marked a.nodes.now ms') at number
    round_at = record { before = s.before; rounds = rounds_of k; body = b.next; after = s.after; place = s.place; nodes = turned_nodes }

    turned : (j : ℕ) (y : Tree) (entries : List Entry) (d : Bool) → Became a.model.now a.estimate.now.modes (Tree.Repeat number (rounds_of k) body.0) b.own (Tree.Repeat number j y)
        → entries ≡ s.before ++ laid (Tree.Repeat number j y) s.after → d ≡ has_ended y
        → HasTurned a.model.now a.estimate.now.modes s.before s.tree s.after goal d entries all
    turned j y entries d c nodes left = record {
      own = b.own;
      next = Tree.Repeat number j y;
      became = subst (λ v. Became a.model.now a.estimate.now.modes v b.own (Tree.Repeat number j y)) (sym body.1) c;
      nodes = nodes;
      asks = b.asks;
      left = left ∙ sym (ended-repeat number j y);
    }

    pub round_waits : ended ≡ false → HasTurned a.model.now a.estimate.now.modes s.before s.tree s.after goal false (marked a.nodes.now ms') all
    round_waits waits =
        let left = sym b.left ∙ waits in
        turned (rounds_of k) b.next (marked a.nodes.now ms') false
        (round_goes a.model.now a.estimate.now.modes number (rounds_of k) body.0 b.next b.own left b.became) turned_nodes (sym left)

    round_proper : (j : ℕ) → rounds_of k ≡ j → IsProper (Tree.Repeat number j body.0)
    round_proper j is = subst IsProper (body.1 ∙ ap (λ n. Tree.Repeat number n body.0) is) s.proper

    pub round_turned : ended ≡ true → (d : Bool) (new : List Entry) → EndsRound (marked a.nodes.now ms') at number d new
        → HasTurned a.model.now a.estimate.now.modes s.before s.tree s.after goal d new all
    round_turned done true new ends =
        let left = sym b.left ∙ done in
        turned (rounds_of k) b.next new true
        (last_round_ends a.model.now a.estimate.now.modes number (rounds_of k) body.0 b.next b.own (ends.1 round_at) left b.became) (ends.0 ∙ turned_nodes) (sym left)
    round_turned done false new ends =
        let next = ends round_at in
        turned (suc next.0) (cleared b.next) new false
        (subst (λ n. Became a.model.now a.estimate.now.modes (Tree.Repeat number n body.0) b.own (Tree.Repeat number (suc next.0) (cleared b.next))) (sym next.1)
        (round_ends a.model.now a.estimate.now.modes number next.0 body.0 b.next b.own (round_proper (suc (suc next.0)) next.1) (sym b.left ∙ done) b.became))
        next.2 (sym (ap is_nothing (rest_of-cleared b.next)))
