-- How many nodes a tree has, and what its nodes are as at the start.
use Rattle.std.proofs.Common.{◌≡◌, ◌+◌, suc, false, List, [], ◌∷◌, ◌++◌, length, map, refl, sym, ap, ◌∙◌, arith, append_assoc}
use Rattle.control_program.specs.Flat.{Marked, Entry, fresh_entry, count, size, all_size, laid, all_laid, head_of, tail_of}
use Rattle.control_program.specs.Marks.{open_yet, Tree, Trees, none, more, cleared, all_cleared}

-- some trees before others
abbrev pub before : Trees → Trees → Trees
before none ys = ys
before (more x xs) ys = more x (before xs ys)

pub laid-split : (x : Tree) (ns : List Entry) → laid x ns ≡ head_of x ∷ tail_of x ns
unfolding laid
laid-split (Tree.Reach b g) ns = refl
laid-split (Tree.Await b f) ns = refl
laid-split (Tree.Parts o b xs) ns = refl
laid-split (Tree.Choose c f x y) ns = refl
laid-split (Tree.Repeat n k x) ns = refl

pub head_of-size : (x : Tree) → (head_of x).1 ≡ size x
unfolding size
head_of-size (Tree.Reach b g) = refl
head_of-size (Tree.Await b f) = refl
head_of-size (Tree.Parts o b xs) = refl
head_of-size (Tree.Choose c f x y) = refl
head_of-size (Tree.Repeat n k x) = refl

mutual
  unfolding laid size

  pub length-laid : (x : Tree) (ns : List Entry) → length (laid x ns) ≡ size x + length ns
  length-laid (Tree.Reach b g) ns = omega arith
  length-laid (Tree.Await b f) ns = omega arith
  length-laid (Tree.Parts o b xs) ns = omega (arith, length-all_laid xs ns)
  length-laid (Tree.Choose c f x y) ns = omega (arith, length-laid x (laid y ns), length-laid y ns)
  length-laid (Tree.Repeat n k x) ns = omega (arith, length-laid x ns)

  length-all_laid : (xs : Trees) (ns : List Entry) → length (all_laid xs ns) ≡ all_size xs + length ns
  length-all_laid none ns = omega arith
  length-all_laid (more x xs) ns = omega (arith, length-laid x (all_laid xs ns), length-all_laid xs ns)

mutual
  unfolding laid

  pub laid-append : (x : Tree) (ns : List Entry) → laid x ns ≡ laid x [] ++ ns
  laid-append (Tree.Reach b g) ns = refl
  laid-append (Tree.Await b f) ns = refl
  laid-append (Tree.Parts o b xs) ns = ap (λ l. (Marked.Parts o b (count xs), suc (all_size xs)) ∷ l) (all_laid-append xs ns)
  laid-append (Tree.Choose c f x y) ns = ap (λ l. (Marked.Choose c f, suc (size x + size y)) ∷ l)
      (laid-append x (laid y ns) ∙ ap (λ l. laid x [] ++ l) (laid-append y ns) ∙ sym (append_assoc (laid x []) (laid y []) ns) ∙ ap (λ l. l ++ ns) (sym (laid-append x (laid y []))))
  laid-append (Tree.Repeat n k x) ns = ap (λ l. (Marked.Repeat n k, suc (size x)) ∷ l) (laid-append x ns)

  pub all_laid-append : (xs : Trees) (ns : List Entry) → all_laid xs ns ≡ all_laid xs [] ++ ns
  all_laid-append none ns = refl
  all_laid-append (more x xs) ns =
      laid-append x (all_laid xs ns) ∙ ap (λ l. laid x [] ++ l) (all_laid-append xs ns) ∙ sym (append_assoc (laid x []) (all_laid xs []) ns)
      ∙ ap (λ l. l ++ ns) (sym (laid-append x (all_laid xs [])))

pub all_laid-before : (xs ys : Trees) (ns : List Entry) → all_laid (before xs ys) ns ≡ all_laid xs (all_laid ys ns)
unfolding laid
all_laid-before none ys ns = refl
all_laid-before (more x xs) ys ns = ap (laid x) (all_laid-before xs ys ns)

mutual
  unfolding size cleared

  pub size-cleared : (x : Tree) → size (cleared x) ≡ size x
  size-cleared (Tree.Reach b g) = refl
  size-cleared (Tree.Await b f) = refl
  size-cleared (Tree.Parts o b xs) = ap suc (all_size-all_cleared xs)
  size-cleared (Tree.Choose c f x y) = omega (arith, size-cleared x, size-cleared y)
  size-cleared (Tree.Repeat n k x) = ap suc (size-cleared x)

  all_size-all_cleared : (xs : Trees) → all_size (all_cleared xs) ≡ all_size xs
  all_size-all_cleared none = refl
  all_size-all_cleared (more x xs) = omega (arith, size-cleared x, all_size-all_cleared xs)

count-all_cleared : (xs : Trees) → count (all_cleared xs) ≡ count xs
unfolding cleared
count-all_cleared none = refl
count-all_cleared (more x xs) = ap suc (count-all_cleared xs)

abbrev freshly : List Entry → List Entry
freshly ns = map fresh_entry ns

freshly-append : (xs ys zs : List Entry) → freshly (xs ++ ys) ++ zs ≡ freshly xs ++ (freshly ys ++ zs)
freshly-append [] ys zs = refl
freshly-append (x ∷ xs) ys zs = ap (λ l. fresh_entry x ∷ l) (freshly-append xs ys zs)

mutual
  unfolding laid cleared size

  pub laid-cleared : (x : Tree) (ns : List Entry) → laid (cleared x) ns ≡ map fresh_entry (laid x []) ++ ns
  laid-cleared (Tree.Reach b g) ns = refl
  laid-cleared (Tree.Await b f) ns = refl
  laid-cleared (Tree.Parts o b xs) ns =
      ap (λ v. (Marked.Parts o false v, suc (all_size (all_cleared xs))) ∷ all_laid (all_cleared xs) ns) (count-all_cleared xs)
      ∙ ap (λ v. (Marked.Parts o false (count xs), suc v) ∷ all_laid (all_cleared xs) ns) (all_size-all_cleared xs)
      ∙ ap (λ l. (Marked.Parts o false (count xs), suc (all_size xs)) ∷ l) (all_laid-all_cleared xs ns)
  laid-cleared (Tree.Choose c f x y) ns =
      ap (λ v. (Marked.Choose open_yet f, suc v) ∷ laid (cleared x) (laid (cleared y) ns)) (ap (λ v. v + size (cleared y)) (size-cleared x) ∙ ap (λ v. size x + v) (size-cleared y))
      ∙ ap (λ l. (Marked.Choose open_yet f, suc (size x + size y)) ∷ l)
      (laid-cleared x (laid (cleared y) ns) ∙ ap (λ l. freshly (laid x []) ++ l) (laid-cleared y ns) ∙ sym (freshly-append (laid x []) (laid y []) ns)
      ∙ ap (λ l. freshly l ++ ns) (sym (laid-append x (laid y []))))
  laid-cleared (Tree.Repeat n k x) ns =
      ap (λ v. (Marked.Repeat n n, suc v) ∷ laid (cleared x) ns) (size-cleared x) ∙ ap (λ l. (Marked.Repeat n n, suc (size x)) ∷ l) (laid-cleared x ns)

  all_laid-all_cleared : (xs : Trees) (ns : List Entry) → all_laid (all_cleared xs) ns ≡ map fresh_entry (all_laid xs []) ++ ns
  all_laid-all_cleared none ns = refl
  all_laid-all_cleared (more x xs) ns =
      laid-cleared x (all_laid (all_cleared xs) ns) ∙ ap (λ l. freshly (laid x []) ++ l) (all_laid-all_cleared xs ns)
      ∙ sym (freshly-append (laid x []) (all_laid xs []) ns) ∙ ap (λ l. freshly l ++ ns) (sym (laid-append x (all_laid xs [])))
