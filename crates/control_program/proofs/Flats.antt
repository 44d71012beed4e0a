-- A flat list holds one tree: what was laid is read.
use Rattle.std.proofs.Common.{◌≡◌, Bool, List, [], ◌∷◌, ◌++◌, length, drop, suc, refl, sym, ap, ◌∙◌}
use Rattle.std.proofs.Math.Seq.{take-append_seam, drop-append_seam}
use Rattle.control_program.specs.Marks.{Tree as tree, Trees as trees}
use Rattle.control_program.specs.Flat.{Marked, Entry, count, laid, all_laid, several_trees, with_first, with_two, read_one, read}

-- several as a list
abbrev listed : trees → List tree
listed trees.none = []
listed (trees.more x xs) = x ∷ listed xs

trees-listed : (xs : trees) → several_trees (listed xs) ≡ xs
trees-listed trees.none = refl
trees-listed (trees.more x xs) = ap (trees.more x) (trees-listed xs)

length-listed : (xs : trees) → length (listed xs) ≡ count xs
length-listed trees.none = refl
length-listed (trees.more x xs) = ap suc (length-listed xs)

read-parts : (o b : Bool) (xs : trees) (l ys : List tree) → l ≡ listed xs ++ ys → read_one (Marked.Parts o b (count xs)) l ≡ tree.Parts o b xs ∷ ys
read-parts o b xs l ys e =
    ap (λ n. read_one (Marked.Parts o b n) l) (sym (length-listed xs)) ∙ ap (read_one (Marked.Parts o b (length (listed xs)))) e
    ∙ ap (λ s. tree.Parts o b (several_trees s) ∷ drop (length (listed xs)) (listed xs ++ ys)) (take-append_seam (listed xs) ys)
    ∙ ap (λ s. tree.Parts o b s ∷ drop (length (listed xs)) (listed xs ++ ys)) (trees-listed xs)
    ∙ ap (λ s. tree.Parts o b xs ∷ s) (drop-append_seam (listed xs) ys)

mutual
  unfolding laid read

  pub read-laid : (x : tree) (ns : List Entry) → read (laid x ns) ≡ x ∷ read ns
  read-laid (tree.Reach b g) ns = refl
  read-laid (tree.Await b f) ns = refl
  read-laid (tree.Parts o b xs) ns = read-parts o b xs (read (all_laid xs ns)) (read ns) (read-all_laid xs ns)
  read-laid (tree.Choose c f x y) ns = ap (with_two (tree.Choose c f)) (read-laid x (laid y ns) ∙ ap (λ l. x ∷ l) (read-laid y ns))
  read-laid (tree.Repeat n k x) ns = ap (with_first (tree.Repeat n k)) (read-laid x ns)

  read-all_laid : (xs : trees) (ns : List Entry) → read (all_laid xs ns) ≡ listed xs ++ read ns
  read-all_laid trees.none ns = refl
  read-all_laid (trees.more x xs) ns = read-laid x (all_laid xs ns) ∙ ap (λ l. x ∷ l) (read-all_laid xs ns)
