-- The turns of choices, on the flat list.
use Rattle.std.proofs.Common.{◌≡◌, ◌+◌, ◌<◌, ◌≤◌, ℕ, suc, Bool, true, false, List, [], ◌∷◌, ◌++◌, length, slice_get, slice_set, Some, refl, sym, ap, subst, ◌∙◌, arith, append_assoc}
use Rattle.std.proofs.lemmas.List.{length-append}
use Rattle.cca_base.specs.declared.cube.Pair.{Pair}
use Rattle.cca_base.specs.declared.formula.Formula.{Formula}
use Rattle.control_program.specs.declared.asking.Asking.{Asking}
use Rattle.control_program.specs.declared.asking.Course.{Course}
use Rattle.control_program.specs.declared.nodes.Kind.{Kind}
use Rattle.control_program.specs.declared.nodes.Mark.{Mark}
use Rattle.control_program.specs.declared.nodes.Node.{Node}
use Rattle.control_program.specs.Courses.{StandsIn, Takes, TakesIn, TurnsIn}
use Rattle.control_program.specs.Flat.{Marked, Entry, size, laid, tail_of}
use Rattle.control_program.specs.Marks.{first, second, Tree, rest_of, IsProper}
use Rattle.control_program.specs.Places.{IsOfKind, choice_of, marked}
use Rattle.control_program.specs.Turned.{Became, HasTurned, Chooses}
use Rattle.control_program.proofs.PartTurns.{takes_first, takes_second}
use Rattle.control_program.proofs.PlaceLaws.{lies, in_nodes, headed, written, size_at, end_in_nodes, place_behind}
use Rattle.control_program.proofs.Sizes.{laid-append, length-laid}

-- a whole tree behind others
behind_one_part : (before : List Entry) (x : Tree) (rest : List Entry) → before ++ laid x rest ≡ (before ++ laid x []) ++ rest
behind_one_part before x rest = ap (λ l. before ++ l) (laid-append x rest) ∙ sym (append_assoc before (laid x []) rest)

module _ (a : Asking) (ms : List Mark) (at : ℕ) (s : StandsIn a ms at) (f : Formula) (of : IsOfKind a.nodes.now at (Kind.Choose f)) (k : Mark) (h : slice_get ms at ≡ Some k) where
  -- its two parts
  abbrev two : (y z : Tree) × (s.tree ≡ Tree.Choose (choice_of k) f y z)
  two = headed a.nodes.now ms at (lies s) (Kind.Choose f) of k h

  choose_proper : IsProper (Tree.Choose (choice_of k) f two.0 two.1)
  choose_proper = subst IsProper two.2 s.proper

  parts_proper : IsProper two.0 × IsProper two.1
  unfolding IsProper
  parts_proper = let p = subst IsProper two.2 s.proper in (p.1, p.2)

  -- the list with the choice written
  module _ (w : Mark) where
    abbrev head : Entry
    head = (Marked.Choose (choice_of w) f, suc (size two.0 + size two.1))

    chosen_nodes : marked a.nodes.now (slice_set ms at w) ≡ (s.before ++ head ∷ []) ++ laid two.0 (laid two.1 s.after)
    unfolding laid size
    chosen_nodes =
        written a.nodes.now ms at (lies s) (Kind.Choose f) of w (Tree.Choose (choice_of w) f two.0 two.1) refl (ap (λ v. tail_of v s.after) (sym two.2)) (ap size (sym two.2))
        ∙ sym (append_assoc s.before (head ∷ []) (laid two.0 (laid two.1 s.after)))

    -- the first part behind it
    abbrev one_stands : StandsIn a (slice_set ms at w) (at + 1)
    one_stands = record {
      before = s.before ++ head ∷ [];
      tree = two.0;
      after = laid two.1 s.after;
      place = place_behind s.before head at s.place;
      nodes = chosen_nodes;
      proper = parts_proper.0;
    }

    two_place : (n : ℕ) → n ≡ size two.0 → length ((s.before ++ head ∷ []) ++ laid two.0 []) ≡ at + 1 + n
    two_place n is =
        omega (arith, is, place_behind s.before head at s.place, length-append (s.before ++ head ∷ []) (laid two.0 []), length-laid two.0 [])

    -- the second one behind both
    abbrev two_stands : (n : ℕ) → n ≡ size two.0 → StandsIn a (slice_set ms at w) (at + 1 + n)
    two_stands n is = record {
      before = (s.before ++ head ∷ []) ++ laid two.0 [];
      tree = two.1;
      after = s.after;
      place = two_place n is;
      nodes = chosen_nodes ∙ behind_one_part (s.before ++ head ∷ []) two.0 (laid two.1 s.after);
      proper = parts_proper.1;
    }

  one_turns : Chooses a.model.now a.estimate.now.modes (choice_of k) f true → (goal : List Pair) (ended : Bool) (entries : List Entry) (all : List Pair)
      → HasTurned a.model.now a.estimate.now.modes (s.before ++ head Mark.First ∷ []) two.0 (laid two.1 s.after) goal ended entries all
      → HasTurned a.model.now a.estimate.now.modes s.before s.tree s.after goal ended entries all
  unfolding laid rest_of
  one_turns takes goal ended entries all b = record {
    own = b.own;
    next = Tree.Choose first f b.next two.1;
    became =
        subst (λ v. Became a.model.now a.estimate.now.modes v b.own (Tree.Choose first f b.next two.1)) (sym two.2)
        (takes_first a.model.now a.estimate.now.modes (choice_of k) f two.0 two.1 b.next b.own takes choose_proper b.became);
    nodes =
        b.nodes ∙ append_assoc s.before (head Mark.First ∷ []) (laid b.next (laid two.1 s.after))
        ∙ ap (λ v. s.before ++ (Marked.Choose first f, suc (v + size two.1)) ∷ laid b.next (laid two.1 s.after)) (sym b.became.size);
    asks = b.asks;
    left = b.left;
  }

  pub takes_one : (d : Bool) → Chooses a.model.now a.estimate.now.modes (choice_of k) f d → d ≡ true → (new : List Mark) → new ≡ slice_set ms at Mark.First
      → Takes a at ms (at + 1) new s
  takes_one d takes is new set =
      subst (λ v. Takes a at ms (at + 1) v s) (sym set)
      (record { stands = one_stands Mark.First; behind = omega arith; turns = one_turns (subst (Chooses a.model.now a.estimate.now.modes (choice_of k) f) is takes) })

  two_turns : Chooses a.model.now a.estimate.now.modes (choice_of k) f false → (goal : List Pair) (ended : Bool) (entries : List Entry) (all : List Pair)
      → HasTurned a.model.now a.estimate.now.modes ((s.before ++ head Mark.Second ∷ []) ++ laid two.0 []) two.1 s.after goal ended entries all
      → HasTurned a.model.now a.estimate.now.modes s.before s.tree s.after goal ended entries all
  unfolding laid rest_of
  two_turns takes goal ended entries all b = record {
    own = b.own;
    next = Tree.Choose second f two.0 b.next;
    became =
        subst (λ v. Became a.model.now a.estimate.now.modes v b.own (Tree.Choose second f two.0 b.next)) (sym two.2)
        (takes_second a.model.now a.estimate.now.modes (choice_of k) f two.0 two.1 b.next b.own takes choose_proper b.became);
    nodes =
        b.nodes ∙ sym (behind_one_part (s.before ++ head Mark.Second ∷ []) two.0 (laid b.next s.after))
        ∙ append_assoc s.before (head Mark.Second ∷ []) (laid two.0 (laid b.next s.after))
        ∙ ap (λ v. s.before ++ (Marked.Choose second f, suc (size two.0 + v)) ∷ laid two.0 (laid b.next s.after)) (sym b.became.size);
    asks = b.asks;
    left = b.left;
  }

  -- the first part, that is passed over
  passed_size : (n : Node) → slice_get a.nodes.now (at + 1) ≡ Some n → n.size ≡ size two.0
  passed_size n is = size_at a.nodes.now (slice_set ms at Mark.Second) (at + 1) (lies (one_stands Mark.Second)) n is

  pub passed_in_nodes : at + 1 < length a.nodes.now
  passed_in_nodes = in_nodes a.nodes.now (slice_set ms at Mark.Second) (at + 1) (lies (one_stands Mark.Second))

  pub passed_ends : (n : Node) → slice_get a.nodes.now (at + 1) ≡ Some n → at + 1 + n.size ≤ length a.nodes.now
  passed_ends n is = omega (arith, passed_size n is, end_in_nodes a.nodes.now (slice_set ms at Mark.Second) (at + 1) (lies (one_stands Mark.Second)))

  pub takes_two : (d : Bool) → Chooses a.model.now a.estimate.now.modes (choice_of k) f d → d ≡ false → (n : Node) → slice_get a.nodes.now (at + 1) ≡ Some n
      → (new : List Mark) → new ≡ slice_set ms at Mark.Second → Takes a at ms (at + 1 + n.size) new s
  takes_two d takes is n of-n new set =
      subst (λ v. Takes a at ms (at + 1 + n.size) v s) (sym set)
      (record {
        stands = two_stands Mark.Second n.size (passed_size n of-n);
        behind = omega arith;
        turns = two_turns (subst (Chooses a.model.now a.estimate.now.modes (choice_of k) f) is takes);
      })

-- the turn of the part that is taken is that of the choice
pub choice_turned : (a : Asking) (at part : ℕ) (old new between : Course) → between.goal.items ≡ old.goal.items → TakesIn a at old.marks part between.marks → (d : Bool)
    → TurnsIn a part between d new → TurnsIn a at old d new
choice_turned a at part old new between same takes d turns = λ s.
    subst (λ g. HasTurned a.model.now a.estimate.now.modes s.before s.tree s.after g d (marked a.nodes.now new.marks) new.goal.items) same
    ((takes s).turns between.goal.items d (marked a.nodes.now new.marks) new.goal.items (turns (takes s).stands))
