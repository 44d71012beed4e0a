-- What stands at a place of the flat list, and what a written mark makes of it.
use Rattle.std.proofs.Common.{◌≡◌, ◌+◌, ◌<◌, ◌≤◌, ℕ, List, [], ◌∷◌, ◌++◌, length, slice_get, slice_set, Some, refl, sym, ap, subst, ◌∙◌, arith}
use Rattle.std.proofs.lemmas.List.{length-append}
use Rattle.std.proofs.lemmas.Option.{same_Some, slice_get_within}
use Rattle.control_program.specs.declared.nodes.Kind.{Kind}
use Rattle.control_program.specs.declared.nodes.Mark.{Mark}
use Rattle.control_program.specs.declared.nodes.Node.{Node}
use Rattle.control_program.specs.Flat.{Marked, Entry, count, size, laid, head_of, tail_of}
use Rattle.control_program.specs.Marks.{Tree, Trees}
use Rattle.control_program.specs.Places.{IsOfKind, StandsAt, entry_of, marked, marked_kind}
use Rattle.control_program.proofs.Sizes.{laid-split, head_of-size, length-laid}

-- a node and its mark, that make an entry
pub record Here (ns : List Node) (ms : List Mark) (at : ℕ) (entry : Entry) : Type 0 where
  pub node : Node
  pub mark : Mark
  pub of_nodes : slice_get ns at ≡ Some node
  pub of_marks : slice_get ms at ≡ Some mark
  pub is : entry_of node mark ≡ entry

pub marked-at : (ns : List Node) (ms : List Mark) (before : List Entry) (y : Entry) (rest : List Entry) → marked ns ms ≡ before ++ y ∷ rest → Here ns ms (length before) y
marked-at [] ms [] y rest e = absurd cc
marked-at [] ms (b ∷ before) y rest e = absurd cc
marked-at (n ∷ ns) [] [] y rest e = absurd cc
marked-at (n ∷ ns) [] (b ∷ before) y rest e = absurd cc
marked-at (n ∷ ns) (k ∷ ms) [] y rest e =
    let is : entry_of n k ∷ marked ns ms ≡ y ∷ rest = e in
    let first : entry_of n k ≡ y = cc in
    record { node = n; mark = k; of_nodes = refl; of_marks = refl; is = first }
marked-at (n ∷ ns) (k ∷ ms) (b ∷ before) y rest e =
    let is : entry_of n k ∷ marked ns ms ≡ b ∷ (before ++ y ∷ rest) = e in
    let others : marked ns ms ≡ before ++ y ∷ rest = cc in
    let h = marked-at ns ms before y rest others in
    record { node = h.node; mark = h.mark; of_nodes = h.of_nodes; of_marks = h.of_marks; is = h.is }

pub marked-set : (ns : List Node) (ms : List Mark) (before : List Entry) (y : Entry) (rest : List Entry) (n : Node) (k : Mark) → marked ns ms ≡ before ++ y ∷ rest
    → slice_get ns (length before) ≡ Some n → marked ns (slice_set ms (length before) k) ≡ before ++ entry_of n k ∷ rest
marked-set [] ms [] y rest n k e h = absurd cc
marked-set [] ms (b ∷ before) y rest n k e h = absurd cc
marked-set (n' ∷ ns) [] [] y rest n k e h = absurd cc
marked-set (n' ∷ ns) [] (b ∷ before) y rest n k e h = absurd cc
marked-set (n' ∷ ns) (k' ∷ ms) [] y rest n k e h =
    let is : entry_of n' k' ∷ marked ns ms ≡ y ∷ rest = e in
    let others : marked ns ms ≡ rest = cc in
    let same : n' ≡ n = same_Some n' n h in
    ap (λ l. entry_of n' k ∷ l) others ∙ ap (λ v. entry_of v k ∷ rest) same
marked-set (n' ∷ ns) (k' ∷ ms) (b ∷ before) y rest n k e h =
    let is : entry_of n' k' ∷ marked ns ms ≡ b ∷ (before ++ y ∷ rest) = e in
    let others : marked ns ms ≡ before ++ y ∷ rest = cc in
    let first : entry_of n' k' ≡ b = cc in
    ap (λ v. v ∷ marked ns (slice_set ms (length before) k)) first ∙ ap (λ l. b ∷ l) (marked-set ns ms before y rest n k others h)

marked-nodes : (ns : List Node) (ms : List Mark) → length (marked ns ms) ≤ length ns
marked-nodes [] ms = omega arith
marked-nodes (n ∷ ns) [] = omega arith
marked-nodes (n ∷ ns) (k ∷ ms) = omega (arith, marked-nodes ns ms)

pub marked-marks : (ns : List Node) (ms : List Mark) → length (marked ns ms) ≤ length ms
marked-marks [] ms = omega arith
marked-marks (n ∷ ns) [] = omega arith
marked-marks (n ∷ ns) (k ∷ ms) = omega (arith, marked-marks ns ms)

-- two halves of an entry
pub same_entry : (a b : Marked) (n k : ℕ) → a ≡ b → n ≡ k → ◌≡◌ {A = Entry} (a, n) (b, k)
same_entry a b n k p q = ap (λ v. (v, n)) p ∙ ap (λ v. (b, v)) q

-- the place behind it
pub place_behind : (before : List Entry) (h : Entry) (at : ℕ) → length before ≡ at → length (before ++ h ∷ []) ≡ at + 1
place_behind before h at place = omega (arith, length-append before (h ∷ []), place)

-- a tree lies at the place, whatever its marks are
pub record LiesAt (entries : List Entry) (at : ℕ) : Type 0 where
  pub before : List Entry
  pub tree : Tree
  pub after : List Entry
  pub place : length before ≡ at
  pub nodes : entries ≡ before ++ laid tree after

-- what stands there lies there
abbrev pub lies : {entries : List Entry} {at : ℕ} → StandsAt entries at → LiesAt entries at
lies s = record { before = s.before; tree = s.tree; after = s.after; place = s.place; nodes = s.nodes }

-- a tree by its first node
abbrev pub IsHead : Marked → Tree → Type 0
IsHead (Marked.Reach d g) x = x ≡ Tree.Reach d g
IsHead (Marked.Await d f) x = x ≡ Tree.Await d f
IsHead (Marked.Parts o d n) x = (xs : Trees) × (x ≡ Tree.Parts o d xs) × (count xs ≡ n)
IsHead (Marked.Choose c f) x = (y z : Tree) × (x ≡ Tree.Choose c f y z)
IsHead (Marked.Repeat n k) x = (y : Tree) × (x ≡ Tree.Repeat n k y)

by_head : (x : Tree) → IsHead (head_of x).0 x
by_head (Tree.Reach b g) = refl
by_head (Tree.Await b f) = refl
by_head (Tree.Parts o b xs) = (xs, refl, refl)
by_head (Tree.Choose c f y z) = (y, z, refl)
by_head (Tree.Repeat n k y) = (y, refl)

module _ (ns : List Node) (ms : List Mark) (at : ℕ) (l : LiesAt (marked ns ms) at) where
  split : marked ns ms ≡ l.before ++ head_of l.tree ∷ tail_of l.tree l.after
  split = l.nodes ∙ ap (λ v. l.before ++ v) (laid-split l.tree l.after)

  here : Here ns ms at (head_of l.tree)
  here = subst (λ i. Here ns ms i (head_of l.tree)) l.place (marked-at ns ms l.before (head_of l.tree) (tail_of l.tree l.after) split)

  pub in_nodes : at < length ns
  in_nodes = slice_get_within ns at here.node here.of_nodes

  pub in_marks : at < length ms
  in_marks = slice_get_within ms at here.mark here.of_marks

  pub size_at : (n : Node) → slice_get ns at ≡ Some n → n.size ≡ size l.tree
  size_at n h =
      let node : here.node ≡ n = same_Some here.node n (sym here.of_nodes ∙ h) in
      sym (ap (λ v. v.size) node) ∙ ap (λ v. v.1) here.is ∙ head_of-size l.tree

  -- the tree, by the node's kind and by its mark
  pub headed : (kind : Kind) (of : IsOfKind ns at kind) (k : Mark) → slice_get ms at ≡ Some k → IsHead (marked_kind kind k) l.tree
  headed kind of k h =
      let n : Node = record { kind = kind; size = of.0 } in
      let node : here.node ≡ n = same_Some here.node n (sym here.of_nodes ∙ of.1) in
      let mark : here.mark ≡ k = same_Some here.mark k (sym here.of_marks ∙ h) in
      subst (λ v. IsHead v.0 l.tree) (sym (ap (λ v. entry_of v k) (sym node) ∙ ap (λ v. entry_of here.node v) (sym mark) ∙ here.is)) (by_head l.tree)

  -- a written mark makes another tree of it
  pub written : (kind : Kind) (of : IsOfKind ns at kind) (k : Mark) (y : Tree) → marked_kind kind k ≡ (head_of y).0 → tail_of y l.after ≡ tail_of l.tree l.after
      → size y ≡ size l.tree → marked ns (slice_set ms at k) ≡ l.before ++ laid y l.after
  written kind of k y head tail same =
      let n : Node = record { kind = kind; size = of.0 } in
      subst (λ i. marked ns (slice_set ms i k) ≡ l.before ++ (marked_kind kind k, of.0) ∷ tail_of l.tree l.after) l.place
      (marked-set ns ms l.before (head_of l.tree) (tail_of l.tree l.after) n k split (subst (λ i. slice_get ns i ≡ Some n) (sym l.place) of.1))
      ∙ ap (λ h. l.before ++ h ∷ tail_of l.tree l.after)
      (same_entry (marked_kind kind k) (head_of y).0 of.0 (head_of y).1 head (size_at n of.1 ∙ sym same ∙ sym (head_of-size y)))
      ∙ ap (λ v. l.before ++ head_of y ∷ v) (sym tail)
      ∙ ap (λ v. l.before ++ v) (sym (laid-split y l.after))

  -- the tree ends within the list
  pub end_in_nodes : at + size l.tree ≤ length ns
  end_in_nodes = omega (arith, l.place, ap length l.nodes, length-append l.before (laid l.tree l.after), length-laid l.tree l.after, marked-nodes ns ms)

  pub end_in_marks : at + size l.tree ≤ length ms
  end_in_marks = omega (arith, l.place, ap length l.nodes, length-append l.before (laid l.tree l.after), length-laid l.tree l.after, marked-marks ns ms)

-- the kind of a node that was read
pub of_kind : (ns : List Node) (at : ℕ) (n : Node) (kind : Kind) → slice_get ns at ≡ Some n → n.kind ≡ kind → IsOfKind ns at kind
of_kind ns at n kind h is = (n.size, h ∙ ap (λ k. Some (record { kind = k; size = n.size })) is)
