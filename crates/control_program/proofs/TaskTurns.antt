-- The turns of tasks, on the flat list.
use Rattle.std.proofs.Common.{◌≡◌, ◌↔◌, ◌+◌, ℕ, suc, Bool, true, false, IsTrue, List, [], ◌∷◌, ◌++◌, slice_get, slice_set, Some, None, refl, sym, ap, subst, ◌∙◌, append_assoc}
use Rattle.cca_base.specs.declared.cube.Pair.{Pair}
use Rattle.cca_base.specs.declared.formula.Formula.{Formula}
use Rattle.cca_base.specs.State.{Holds}
use Rattle.control_program.specs.declared.asking.Asking.{Asking}
use Rattle.control_program.specs.declared.asking.Course.{Course}
use Rattle.control_program.specs.declared.nodes.Kind.{Kind}
use Rattle.control_program.specs.declared.nodes.Mark.{Mark}
use Rattle.control_program.specs.declared.nodes.Node.{Node}
use Rattle.control_program.specs.declared.nodes.Task.{Task}
use Rattle.control_program.specs.Courses.{StandsIn, StandIn, TaskIn, WorksIn, TurnIn, HasParts, HasWorked, task_tree}
use Rattle.control_program.specs.Flat.{Marked, Entry, count, size, all_size, laid, all_laid, head_of, tail_of}
use Rattle.control_program.specs.Marks.{Tree, Trees, none, rest_of, has_ended, is_nothing, IsProper, AreProper}
use Rattle.control_program.specs.Places.{marked, marked_task, is_ended}
use Rattle.control_program.specs.Turned.{Became, HasTurned, HaveTurned, Reaches}
use Rattle.control_program.proofs.PartTurns.{stays_ended, reach_ends, reach_stays, await_ends, await_stays, parts_became}
use Rattle.control_program.proofs.PlaceLaws.{LiesAt, lies, IsHead, headed, of_kind, written, place_behind}

-- ---- a task as a tree

rest_of-task : (t : Task) (xs : Trees) → rest_of (task_tree t xs true) ≡ None
unfolding rest_of
rest_of-task (Task.Reach g) xs = refl
rest_of-task (Task.Await f) xs = refl
rest_of-task (Task.Parts o n) xs = refl

task_left : (t : Task) (xs : Trees) → false ≡ has_ended (task_tree t xs false)
unfolding rest_of
task_left (Task.Reach g) xs = refl
task_left (Task.Await f) xs = refl
task_left (Task.Parts o n) xs = refl

task_head : (t : Task) (xs : Trees) → HasParts t xs → marked_task t true ≡ (head_of (task_tree t xs true)).0
task_head (Task.Reach g) xs has = refl
task_head (Task.Await f) xs has = refl
task_head (Task.Parts o n) xs has = ap (Marked.Parts o true) (sym has)

task_tail : (t : Task) (xs : Trees) (ns : List Entry) → tail_of (task_tree t xs true) ns ≡ tail_of (task_tree t xs false) ns
task_tail (Task.Reach g) xs ns = refl
task_tail (Task.Await f) xs ns = refl
task_tail (Task.Parts o n) xs ns = refl

task_size : (t : Task) (xs : Trees) → size (task_tree t xs true) ≡ size (task_tree t xs false)
unfolding size
task_size (Task.Reach g) xs = refl
task_size (Task.Await f) xs = refl
task_size (Task.Parts o n) xs = refl

-- a tree is a task with its parts
pub record IsTask (x : Tree) (t : Task) (d : Bool) : Type 0 where
  pub parts : Trees
  pub is : x ≡ task_tree t parts d
  pub has : HasParts t parts

task_of : (x : Tree) (t : Task) (d : Bool) → IsHead (marked_task t d) x → IsTask x t d
task_of x (Task.Reach g) d h = record { parts = none; is = h; has = tt }
task_of x (Task.Await f) d h = record { parts = none; is = h; has = tt }
task_of x (Task.Parts o n) d h = record { parts = h.0; is = h.1; has = h.2 }

-- ---- a turn of it

module _ (a : Asking) (ms : List Mark) (at : ℕ) (s : StandsIn a ms at) (t : Task) (n : Node) (of : slice_get a.nodes.now at ≡ Some n) (kind : n.kind ≡ Kind.Once t) where
  pub task : (k : Mark) (d : Bool) → slice_get ms at ≡ Some k → is_ended k ≡ d → IsTask s.tree t d
  task k d h e = task_of s.tree t d (subst (λ b. IsHead (marked_task t b) s.tree) e (headed a.nodes.now ms at (lies s) (Kind.Once t) (of_kind a.nodes.now at n (Kind.Once t) of kind) k h))

  pub task_had_ended : (goal : List Pair) (k : Mark) → slice_get ms at ≡ Some k → is_ended k ≡ true
      → HasTurned a.model.now a.estimate.now.modes s.before s.tree s.after goal true (marked a.nodes.now ms) goal
  task_had_ended goal k h e =
      let x = task k true h e in
      let nothing : rest_of s.tree ≡ None = ap rest_of x.is ∙ rest_of-task t x.parts in
      record {
        own = [];
        next = s.tree;
        became = stays_ended a.model.now a.estimate.now.modes s.tree s.proper nothing;
        nodes = s.nodes;
        asks = refl;
        left = sym (ap is_nothing nothing);
      }

  abbrev pub task_in : (k : Mark) → slice_get ms at ≡ Some k → is_ended k ≡ false → TaskIn a ms at t
  task_in k h e = record { stands = s; parts = (task k false h e).parts; is = (task k false h e).is; has = (task k false h e).has }

-- what it did, and its mark
module _ (a : Asking) (at : ℕ) (old new : Course) (s : StandsIn a old.marks at) (t : Task) (n : Node) (of : slice_get a.nodes.now at ≡ Some n) (kind : n.kind ≡ Kind.Once t)
    (k : Mark) (h : slice_get old.marks at ≡ Some k) (going : is_ended k ≡ false) (d : Bool) (works : WorksIn a at t old d new) where
  worked : HasWorked a.model.now a.estimate.now.modes s.before s.tree s.after t old.goal.items d (marked a.nodes.now new.marks) new.goal.items
  worked = works (task_in a old.marks at s t n of kind k h going)

  pub task_waits : d ≡ false → HasTurned a.model.now a.estimate.now.modes s.before s.tree s.after old.goal.items false (marked a.nodes.now new.marks) new.goal.items
  task_waits waits = record {
    own = worked.own;
    next = task_tree t worked.parts false;
    became = subst (λ b. Became a.model.now a.estimate.now.modes s.tree worked.own (task_tree t worked.parts b)) waits worked.became;
    nodes = worked.nodes;
    asks = worked.asks;
    left = task_left t worked.parts;
  }

  pub task_lies : LiesAt (marked a.nodes.now new.marks) at
  task_lies = record { before = s.before; tree = task_tree t worked.parts false; after = s.after; place = s.place; nodes = worked.nodes }

  task_nodes : marked a.nodes.now (slice_set new.marks at Mark.Ended) ≡ s.before ++ laid (task_tree t worked.parts true) s.after
  task_nodes =
      written a.nodes.now new.marks at (record { before = s.before; tree = task_tree t worked.parts false; after = s.after; place = s.place; nodes = worked.nodes })
      (Kind.Once t) (of_kind a.nodes.now at n (Kind.Once t) of kind) Mark.Ended (task_tree t worked.parts true)
      (task_head t worked.parts worked.has) (task_tail t worked.parts s.after) (task_size t worked.parts)

  pub task_is_done : d ≡ true → (marks : List Mark) → marks ≡ slice_set new.marks at Mark.Ended
      → HasTurned a.model.now a.estimate.now.modes s.before s.tree s.after old.goal.items true (marked a.nodes.now marks) new.goal.items
  task_is_done done marks set = record {
    own = worked.own;
    next = task_tree t worked.parts true;
    became = subst (λ b. Became a.model.now a.estimate.now.modes s.tree worked.own (task_tree t worked.parts b)) done worked.became;
    nodes = ap (marked a.nodes.now) set ∙ task_nodes;
    asks = worked.asks;
    left = sym (ap is_nothing (rest_of-task t worked.parts));
  }

-- ---- what a task does

module _ (a : Asking) (ms : List Mark) (at : ℕ) (goal all : List Pair) where
  reach_worked : (g : List Pair) (s : TaskIn a ms at (Task.Reach g)) (d : Bool) → Reaches a.estimate.now.modes g goal d all
      → HasWorked a.model.now a.estimate.now.modes s.stands.before s.stands.tree s.stands.after (Task.Reach g) goal d (marked a.nodes.now ms) all
  reach_worked g s true h = record {
    own = [];
    parts = none;
    became = subst (λ v. Became a.model.now a.estimate.now.modes v [] (Tree.Reach true g)) (sym s.is) (reach_ends a.model.now a.estimate.now.modes g h.0);
    nodes = s.stands.nodes ∙ ap (λ v. s.stands.before ++ laid v s.stands.after) s.is;
    has = tt;
    asks = h.1;
  }
  reach_worked g s false h = record {
    own = g;
    parts = none;
    became = subst (λ v. Became a.model.now a.estimate.now.modes v g (Tree.Reach false g)) (sym s.is) (reach_stays a.model.now a.estimate.now.modes g h.0);
    nodes = s.stands.nodes ∙ ap (λ v. s.stands.before ++ laid v s.stands.after) s.is;
    has = tt;
    asks = h.1;
  }

  await_became : (f : Formula) (d : Bool) → IsTrue d ↔ Holds a.model.now a.estimate.now.modes f → Became a.model.now a.estimate.now.modes (Tree.Await false f) [] (Tree.Await d f)
  await_became f true h = await_ends a.model.now a.estimate.now.modes f (h.0 refl)
  await_became f false h = await_stays a.model.now a.estimate.now.modes f (λ holds. let no : false ≡ true = h.1 holds in absurd cc)

  await_worked : (f : Formula) (s : TaskIn a ms at (Task.Await f)) (d : Bool) → IsTrue d ↔ Holds a.model.now a.estimate.now.modes f → all ≡ goal
      → HasWorked a.model.now a.estimate.now.modes s.stands.before s.stands.tree s.stands.after (Task.Await f) goal d (marked a.nodes.now ms) all
  await_worked f s d h same = record {
    own = [];
    parts = none;
    became = subst (λ v. Became a.model.now a.estimate.now.modes v [] (Tree.Await d f)) (sym s.is) (await_became f d h);
    nodes = s.stands.nodes ∙ ap (λ v. s.stands.before ++ laid v s.stands.after) s.is;
    has = tt;
    asks = same;
  }

module _ (a : Asking) (ms : List Mark) (at : ℕ) (o : Bool) (n : ℕ) (s : TaskIn a ms at (Task.Parts o n)) where
  abbrev pub parts_head : Entry
  parts_head = (Marked.Parts o false (count s.parts), suc (all_size s.parts))

  pub parts_nodes : marked a.nodes.now ms ≡ (s.stands.before ++ parts_head ∷ []) ++ all_laid s.parts s.stands.after
  unfolding laid
  parts_nodes = s.stands.nodes ∙ ap (λ v. s.stands.before ++ laid v s.stands.after) s.is ∙ sym (append_assoc s.stands.before (parts_head ∷ []) (all_laid s.parts s.stands.after))

  pub parts_proper : AreProper s.parts
  unfolding IsProper
  parts_proper = subst IsProper s.is s.stands.proper

  abbrev pub parts_stand : StandIn a ms (at + 1) n
  parts_stand = record {
    before = s.stands.before ++ parts_head ∷ [];
    trees = s.parts;
    after = s.stands.after;
    place = place_behind s.stands.before parts_head at s.stands.place;
    number = s.has;
    nodes = parts_nodes;
    proper = parts_proper;
  }

  next_head : (next : Trees) → count next ≡ count s.parts → all_size next ≡ all_size s.parts → ◌≡◌ {A = Entry} parts_head (Marked.Parts o false (count next), suc (all_size next))
  next_head next many sizes =
      ap (λ v. (Marked.Parts o false v, suc (all_size s.parts))) (sym many) ∙ ap (λ v. (Marked.Parts o false (count next), suc v)) (sym sizes)

  parts_worked : (goal all : List Pair) (d : Bool) (entries : List Entry)
      → HaveTurned o a.model.now a.estimate.now.modes (s.stands.before ++ parts_head ∷ []) s.parts s.stands.after goal d entries all
      → HasWorked a.model.now a.estimate.now.modes s.stands.before s.stands.tree s.stands.after (Task.Parts o n) goal d entries all
  unfolding laid
  parts_worked goal all d entries h = record {
    own = h.own;
    parts = h.next;
    became =
        subst (λ v. Became a.model.now a.estimate.now.modes v h.own (Tree.Parts o d h.next)) (sym s.is)
        (parts_became a.model.now a.estimate.now.modes o s.parts h.next h.own d h.left h.became);
    nodes =
        h.nodes ∙ append_assoc s.stands.before (parts_head ∷ []) (all_laid h.next s.stands.after)
        ∙ ap (λ v. s.stands.before ++ v ∷ all_laid h.next s.stands.after) (next_head h.next h.became.number h.became.size);
    has = h.became.number ∙ s.has;
    asks = h.asks;
  }

-- ---- what the code answers

module _ (a : Asking) (at : ℕ) (old new : Course) (t : Task) (d : Bool) where
  pub reach_works : (g : List Pair) → t ≡ Task.Reach g → new.marks ≡ old.marks → Reaches a.estimate.now.modes g old.goal.items d new.goal.items → WorksIn a at t old d new
  reach_works g is same r =
      subst (λ v. WorksIn a at v old d new) (sym is) (λ s.
      subst (λ v. HasWorked a.model.now a.estimate.now.modes s.stands.before s.stands.tree s.stands.after (Task.Reach g) old.goal.items d (marked a.nodes.now v) new.goal.items) (sym same)
      (reach_worked a old.marks at old.goal.items new.goal.items g s d r))

  pub await_works : (f : Formula) → t ≡ Task.Await f → new.marks ≡ old.marks → new.goal.items ≡ old.goal.items → IsTrue d ↔ Holds a.model.now a.estimate.now.modes f → WorksIn a at t old d new
  await_works f is same same_goal h =
      subst (λ v. WorksIn a at v old d new) (sym is) (λ s.
      subst (λ v. HasWorked a.model.now a.estimate.now.modes s.stands.before s.stands.tree s.stands.after (Task.Await f) old.goal.items d (marked a.nodes.now v) new.goal.items) (sym same)
      (await_worked a old.marks at old.goal.items new.goal.items f s d h same_goal))

  pub parts_work : (o : Bool) (n : ℕ) → t ≡ Task.Parts o n → TurnIn a o (at + 1) n old d new → WorksIn a at t old d new
  parts_work o n is r =
      subst (λ v. WorksIn a at v old d new) (sym is)
      (λ s. parts_worked a old.marks at o n s old.goal.items new.goal.items d (marked a.nodes.now new.marks) (r (parts_stand a old.marks at o n s)))
