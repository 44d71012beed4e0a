-- One flat list of a program's nodes, each with its mark, in preorder.
use Rattle.std.specs.Prelude.{ℕ, suc, ◌+◌, Bool, true, false, List, [], ◌∷◌, take, drop}
use Rattle.cca_base.specs.declared.cube.Pair.{Pair}
use Rattle.cca_base.specs.declared.formula.Formula.{Formula}
use Rattle.control_program.specs.Marks.{Choice, open_yet, Tree as tree, Trees as trees}

-- a node: its mark, and of parts how many they are
pub data Marked : Type 0 where
  Reach : Bool → List Pair → Marked
  Await : Bool → Formula → Marked
  Parts : Bool → Bool → ℕ → Marked
  Choose : Choice → Formula → Marked
  Repeat : ℕ → ℕ → Marked

-- a node with how many nodes its tree has
abbrev pub Entry : Type 0
Entry = Marked × ℕ

-- how many parts
abbrev pub count : trees → ℕ
count trees.none = 0
count (trees.more x xs) = suc (count xs)

unfoldable mutual
  -- how many nodes
  pub size : tree → ℕ
  size (tree.Reach b g) = 1
  size (tree.Await b f) = 1
  size (tree.Parts o b xs) = suc (all_size xs)
  size (tree.Choose c f x y) = suc (size x + size y)
  size (tree.Repeat n k x) = suc (size x)

  -- of several together
  pub all_size : trees → ℕ
  all_size trees.none = 0
  all_size (trees.more x xs) = size x + all_size xs

unfoldable mutual
  -- the tree's nodes in front of others
  pub laid : tree → List Entry → List Entry
  laid (tree.Reach b g) ns = (Reach b g, 1) ∷ ns
  laid (tree.Await b f) ns = (Await b f, 1) ∷ ns
  laid (tree.Parts o b xs) ns = (Parts o b (count xs), suc (all_size xs)) ∷ all_laid xs ns
  laid (tree.Choose c f x y) ns = (Choose c f, suc (size x + size y)) ∷ laid x (laid y ns)
  laid (tree.Repeat n k x) ns = (Repeat n k, suc (size x)) ∷ laid x ns

  -- the nodes of several, one behind the other, in front of others
  pub all_laid : trees → List Entry → List Entry
  all_laid trees.none ns = ns
  all_laid (trees.more x xs) ns = laid x (all_laid xs ns)

-- the first of a tree's nodes
abbrev pub head_of : tree → Entry
head_of (tree.Reach b g) = (Reach b g, 1)
head_of (tree.Await b f) = (Await b f, 1)
head_of (tree.Parts o b xs) = (Parts o b (count xs), suc (all_size xs))
head_of (tree.Choose c f x y) = (Choose c f, suc (size x + size y))
head_of (tree.Repeat n k x) = (Repeat n k, suc (size x))

-- its other nodes in front of others
abbrev pub tail_of : tree → List Entry → List Entry
tail_of (tree.Reach b g) ns = ns
tail_of (tree.Await b f) ns = ns
tail_of (tree.Parts o b xs) ns = all_laid xs ns
tail_of (tree.Choose c f x y) ns = laid x (laid y ns)
tail_of (tree.Repeat n k x) ns = laid x ns

-- a node with its mark as at the start
abbrev pub fresh_marked : Marked → Marked
fresh_marked (Reach b g) = Reach false g
fresh_marked (Await b f) = Await false f
fresh_marked (Parts o b n) = Parts o false n
fresh_marked (Choose c f) = Choose open_yet f
fresh_marked (Repeat n k) = Repeat n n

-- the same with its number
abbrev pub fresh_entry : Entry → Entry
fresh_entry e = (fresh_marked e.0, e.1)

-- several trees as one value
abbrev pub several_trees : List tree → trees
several_trees [] = trees.none
several_trees (x ∷ xs) = trees.more x (several_trees xs)

-- the first made into another, in front of the others
abbrev pub with_first : {A : Type 0} → (A → A) → List A → List A
with_first f [] = []
with_first f (x ∷ xs) = f x ∷ xs

-- the first two made into one, in front of the others
abbrev pub with_two : {A : Type 0} → (A → A → A) → List A → List A
with_two f [] = []
with_two f (x ∷ []) = []
with_two f (x ∷ y ∷ xs) = f x y ∷ xs

-- a node in front of the trees that were read behind it
abbrev pub read_one : Marked → List tree → List tree
read_one (Reach b g) xs = tree.Reach b g ∷ xs
read_one (Await b f) xs = tree.Await b f ∷ xs
read_one (Parts o b n) xs = tree.Parts o b (several_trees (take n xs)) ∷ drop n xs
read_one (Choose c f) xs = with_two (tree.Choose c f) xs
read_one (Repeat n k) xs = with_first (tree.Repeat n k) xs

-- the trees that a list of nodes holds, one behind the other; read from its end
unfoldable pub read : List Entry → List tree
read [] = []
read (e ∷ ns) = read_one e.0 (read ns)

-- the first tree of a list
abbrev pub root : List tree → tree
root [] = tree.Parts true false trees.none
root (x ∷ xs) = x
