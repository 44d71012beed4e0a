-- A node that is put behind those of its parts.
use Rattle.std.proofs.Common.{◌≡◌, ◌+◌, ◌-◌, ◌≤◌, ℕ, suc, List, [], ◌∷◌, ◌++◌, length, map, reverse, refl, sym, ap, ◌∙◌, arith}
use Rattle.std.proofs.lemmas.List.{length-map, length-reverse, reverse-append}
use Rattle.control_program.specs.declared.nodes.Kind.{Kind}
use Rattle.control_program.specs.declared.nodes.Node.{Node}
use Rattle.control_program.specs.Flat.{size, laid, head_of, tail_of}
use Rattle.control_program.specs.Marks.{Tree}
use Rattle.control_program.specs.Places.{IsInner, fresh_kind, fresh_mark, fresh_node, marked, marked_kind}
use Rattle.control_program.proofs.Sizes.{laid-split, head_of-size, length-laid}
use Rattle.control_program.proofs.PlaceLaws.{same_entry}

size_some : (x : Tree) → 1 ≤ size x
unfolding size
size_some (Tree.Reach b g) = omega arith
size_some (Tree.Await b f) = omega arith
size_some (Tree.Parts o b xs) = omega arith
size_some (Tree.Choose c f x y) = omega arith
size_some (Tree.Repeat n k x) = omega arith

length-fresh : (ns : List Node) → length (map fresh_node (reverse ns)) ≡ length ns
length-fresh ns = length-map (reverse ns) fresh_node ∙ length-reverse ns

module _ (N0 N1 : List Node) (y : Tree) (kind : Kind) (is : IsInner y (map fresh_node (reverse N0)) kind (map fresh_node (reverse N1))) where
  whole_length : suc (length N1) ≡ size y + length N0
  whole_length =
      ap (λ n. suc n) (sym (length-fresh N1) ∙ ap length is.1) ∙ sym (ap length (laid-split y (map fresh_node (reverse N0)))) ∙ length-laid y (map fresh_node (reverse N0))
      ∙ ap (λ n. size y + n) (length-fresh N0)

  pub lay_grows : length N0 ≤ length N1
  lay_grows = omega (arith, whole_length, size_some y)

  pub lay_node : (start len : ℕ) (pushed : List Node) → pushed ≡ N1 ++ record { kind = kind; size = len - start + 1 } ∷ [] → start ≡ length N0 → len ≡ length N1
      → map fresh_node (reverse pushed) ≡ laid y (map fresh_node (reverse N0))
  lay_node start len pushed push at end =
      let n : Node = record { kind = kind; size = len - start + 1 } in
      let sized : len - start + 1 ≡ size y = omega (arith, whole_length, size_some y, at, end) in
      ap (λ l. map fresh_node (reverse l)) push ∙ ap (map fresh_node) (reverse-append N1 (n ∷ []))
      ∙ ap (λ l. fresh_node n ∷ l) is.1
      ∙ ap (λ v. v ∷ tail_of y (map fresh_node (reverse N0))) (same_entry (marked_kind kind (fresh_kind kind)) (head_of y).0 (len - start + 1) (head_of y).1 is.0 (sized ∙ sym (head_of-size y)))
      ∙ sym (laid-split y (map fresh_node (reverse N0)))

pub marked-fresh : (ns : List Node) → marked ns (map fresh_mark ns) ≡ map fresh_node ns
marked-fresh [] = refl
marked-fresh (n ∷ ns) = ap (λ l. fresh_node n ∷ l) (marked-fresh ns)
