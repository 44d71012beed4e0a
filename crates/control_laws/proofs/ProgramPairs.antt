-- At the start a program has the pairs of its lines.
use Rattle.std.proofs.Common.{◌↔◌, List, [], ◌∷◌, ◌++◌, map, flat_map, Contains, inl, inr, sym, subst}
use Rattle.std.proofs.lemmas.List.Elements.{Contains-append_left, Contains-append_right, Contains-append_cases}
use Rattle.cca_base.specs.declared.cube.Pair.{Pair}
use Rattle.control_syntax.specs.declared.part.Part.{Part, roll-Part}
use Rattle.control_syntax.specs.declared.part.Part.TheOpen.{Part-F}
use Rattle.control_syntax.specs.declared.part.Part.TheFolds.{fold-roll-Part, ind-Part, map-Part}
use Rattle.control_syntax.specs.Program.{pairs_of, pairs_step}
use Rattle.control_laws.specs.Asked.{pairs_left, all_pairs_left}
use Rattle.control_laws.specs.Laws.{AsksOfProgram, LeftAtFirst}
use Rattle.control_laws.specs.Rest.{Rest as rest, rests, rest_step, whole}
use Rattle.control_laws.specs.Turns.{fresh}
use Rattle.control_laws.proofs.Controlled.{goals_of_program}

-- the pairs of both lists are the same
abbrev SamePairs : List Pair → List Pair → Type 0
SamePairs pairs others = (p : Pair) → Contains pairs p ↔ Contains others p

abbrev IsOfLines : Part → Type 0
IsOfLines part = SamePairs (pairs_left (whole part)) (pairs_of part)

abbrev Known : Type 0
Known = (part : Part) × IsOfLines part

abbrev parts_of : List Known → List Part
parts_of known = map (λ (k : Known). k.0) known

among_both : (a b c d : List Pair) (p : Pair) → (Contains a p → Contains c p) → (Contains b p → Contains d p) → Contains (a ++ b) p → Contains (c ++ d) p
among_both a b c d p f g among = elim (Contains-append_cases a b p among) [
  | inl left ↦ Contains-append_left c d p (f left)
  | inr right ↦ Contains-append_right c d p (g right)
]

same_both : (a b c d : List Pair) → SamePairs a c → SamePairs b d → SamePairs (a ++ b) (c ++ d)
same_both a b c d f g p = (among_both a b c d p (f p).0 (g p).0, among_both c d a b p (f p).1 (g p).1)

all_of_lines : (known : List Known) → SamePairs (all_pairs_left (rests (map whole (parts_of known)))) (flat_map (λ ps. ps) (map pairs_of (parts_of known)))
unfolding all_pairs_left
all_of_lines [] p = (λ among. among, λ among. among)
all_of_lines (k ∷ known) p =
    same_both (pairs_left (whole k.0)) (all_pairs_left (rests (map whole (parts_of known)))) (pairs_of k.0) (flat_map (λ ps. ps) (map pairs_of (parts_of known)))
    k.1 (all_of_lines known) p

abbrev LayerIsOfLines : Part-F Part → Type 0
LayerIsOfLines x = SamePairs (pairs_left (rest_step (map-Part Part rest whole x))) (pairs_step (map-Part Part (List Pair) pairs_of x))

twice : (a b : List Pair) (p : Pair) → (Contains a p → Contains b p) → Contains (a ++ a) p → Contains b p
twice a b p f among = elim (Contains-append_cases a a p among) [
  | inl left ↦ f left
  | inr right ↦ f right
]

layer : (y : Part-F Known) → LayerIsOfLines (map-Part Known Part (λ k. k.0) y)
unfolding pairs_left
layer (Part-F.Reach g) p = (λ among. among, λ among. among)
layer (Part-F.Await f) p = (λ among. among, λ among. among)
layer (Part-F.Seq parts) p = all_of_lines parts p
layer (Part-F.Both parts) p = all_of_lines parts p
layer (Part-F.Choose f a b) p = same_both (pairs_left (whole a.0)) (pairs_left (whole b.0)) (pairs_of a.0) (pairs_of b.0) a.1 b.1 p
layer (Part-F.Repeat n a) p = (
  twice (pairs_left (whole a.0)) (pairs_of a.0) p (a.1 p).0,
  λ among. Contains-append_left (pairs_left (whole a.0)) (pairs_left (whole a.0)) p ((a.1 p).1 among),
)

pub left_at_first : LeftAtFirst
left_at_first = ind-Part IsOfLines (λ x y is p.
    subst (λ l. Contains (pairs_left (whole (roll-Part x))) p ↔ Contains l p) (sym (fold-roll-Part (List Pair) pairs_step x))
    (subst (λ r. Contains (pairs_left r) p ↔ Contains (pairs_step (map-Part Part (List Pair) pairs_of x)) p) (sym (fold-roll-Part rest rest_step x))
    (subst LayerIsOfLines is (layer y) p)))

pub of_lines : (part : Part) (p : Pair) → Contains (pairs_left (whole part)) p → Contains (pairs_of part) p
of_lines part p = (left_at_first part p).0

pub asks_of_program : AsksOfProgram
asks_of_program m part calls goals y h goal p among of =
    of_lines part p (goals_of_program m (fresh (whole part)) calls goals y (λ q left. left) h goal p among of)
