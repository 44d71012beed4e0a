-- What a fresh program's marks stand for is the whole program.
use Rattle.std.proofs.Common.{◌≡◌, ◌++◌, ℕ, suc, Bool, true, false, List, [], ◌∷◌, Some, length, map, refl, sym, ap, subst, ◌∙◌, append-nil, append_assoc}
use Rattle.control_syntax.specs.declared.part.Part.{Part}
use Rattle.control_syntax.specs.declared.part.Part.TheOpen.{Part-F}
use Rattle.control_syntax.specs.declared.part.Part.TheFolds.{fold-roll-Part, ind-Part, map-Part}
use Rattle.control_laws.specs.Rest.{Rest as rest, Rests as rests_type, rests, rest_step, whole}
use Rattle.control_program.specs.Flat.{Marked, Entry, count, laid, all_laid, several_trees}
use Rattle.control_program.specs.Marks.{open_yet, Tree, Trees, begun, all_begun, cleared, all_cleared, rest_of, IsProper}
use Rattle.control_program.proofs.MarkLaws.{rest_of-cleared, cleared_proper}
use Rattle.control_program.specs.Places.{IsInner}
use Rattle.control_program.specs.declared.nodes.Kind.{Kind}
use Rattle.control_program.specs.declared.nodes.Task.{Task}
use Rattle.control_program.specs.Opened.{fresh_step, opened}

-- the program is whole, and its marks are clear
abbrev IsFresh : Part → Type 0
IsFresh p = (begun (opened p) ≡ whole p) × (cleared (opened p) ≡ opened p)

abbrev Known : Type 0
Known = (p : Part) × IsFresh p

abbrev firsts : List Known → List Part
firsts parts = map (λ (e : Known). e.0) parts

all_fresh : (parts : List Known)
    → (all_begun (several_trees (map opened (firsts parts))) ≡ rests (map whole (firsts parts)))
    × (all_cleared (several_trees (map opened (firsts parts))) ≡ several_trees (map opened (firsts parts)))
unfolding begun cleared
all_fresh [] = (refl, refl)
all_fresh (e ∷ parts) =
    let others = several_trees (map opened (firsts parts)) in (
      ap (λ v. rests_type.more v (all_begun others)) e.1.0 ∙ ap (rests_type.more (whole e.0)) (all_fresh parts).0,
      ap (λ v. Trees.more v (all_cleared others)) e.1.1 ∙ ap (Trees.more (opened e.0)) (all_fresh parts).1,
    )

-- the same of one layer
abbrev IsFreshLayer : Part-F Part → Type 0
IsFreshLayer x =
    (begun (fresh_step (map-Part Part Tree opened x)) ≡ rest_step (map-Part Part rest whole x))
    × (cleared (fresh_step (map-Part Part Tree opened x)) ≡ fresh_step (map-Part Part Tree opened x))

layer : (y : Part-F Known) → IsFreshLayer (map-Part Known Part (λ e. e.0) y)
unfolding begun cleared
layer (Part-F.Reach g) = (refl, refl)
layer (Part-F.Await f) = (refl, refl)
layer (Part-F.Seq parts) = (ap rest.Seq (all_fresh parts).0, ap (Tree.Parts true false) (all_fresh parts).1)
layer (Part-F.Both parts) = (ap rest.Both (all_fresh parts).0, ap (Tree.Parts false false) (all_fresh parts).1)
layer (Part-F.Choose f a b) = (
  ap (λ v. rest.Choose f v (begun (opened b.0))) a.1.0 ∙ ap (λ v. rest.Choose f (whole a.0) v) b.1.0,
  ap (λ v. Tree.Choose open_yet f v (cleared (opened b.0))) a.1.1 ∙ ap (λ v. Tree.Choose open_yet f (opened a.0) v) b.1.1,
)
layer (Part-F.Repeat n a) = (ap (λ v. rest.Repeat n v v) a.1.0, ap (Tree.Repeat n n) a.1.1)

fresh-opened : (p : Part) → IsFresh p
fresh-opened = ind-Part IsFresh (λ x y is.
    let one = fold-roll-Part Tree fresh_step x in
    let known = subst IsFreshLayer is (layer y) in (
      ap begun one ∙ known.0 ∙ sym (fold-roll-Part rest rest_step x),
      ap cleared one ∙ known.1 ∙ sym one,
    ))

pub begun-opened : (p : Part) → begun (opened p) ≡ whole p
begun-opened p = (fresh-opened p).0

-- the last parts of a program are laid in front of other nodes
pub record LaidLast (parts left : List Part) (nodes laid_nodes : List Entry) : Type 0 where
  pub gone : List Part
  pub whole : parts ≡ left ++ gone
  pub is : laid_nodes ≡ all_laid (several_trees (map opened gone)) nodes

pub laid_start : (parts : List Part) (nodes : List Entry) → LaidLast parts parts nodes nodes
unfolding laid
laid_start parts nodes = record { gone = []; whole = sym (append-nil parts); is = refl }

pub laid_more : (parts left fewer : List Part) (part : Part) (nodes laid_nodes more_nodes : List Entry) → LaidLast parts left nodes laid_nodes → left ≡ fewer ++ part ∷ []
    → more_nodes ≡ laid (opened part) laid_nodes → LaidLast parts fewer nodes more_nodes
unfolding laid
laid_more parts left fewer part nodes laid_nodes more_nodes h e k = record {
  gone = part ∷ h.gone;
  whole = h.whole ∙ ap (λ l. l ++ h.gone) e ∙ append_assoc fewer (part ∷ []) h.gone;
  is = k ∙ ap (laid (opened part)) h.is;
}

count-opened : (parts : List Part) → count (several_trees (map opened parts)) ≡ length parts
count-opened [] = refl
count-opened (p ∷ parts) = ap suc (count-opened parts)

pub laid_all : (o : Bool) (parts left : List Part) (number : ℕ) (nodes laid_nodes : List Entry) → LaidLast parts left nodes laid_nodes → left ≡ [] → number ≡ length parts
    → IsInner (Tree.Parts o false (several_trees (map opened parts))) nodes (Kind.Once (Task.Parts o number)) laid_nodes
laid_all o parts left number nodes laid_nodes h none many = (
  ap (Marked.Parts o false) (many ∙ sym (count-opened parts)),
  h.is ∙ ap (λ l. all_laid (several_trees (map opened l)) nodes) (sym (h.whole ∙ ap (λ l. l ++ h.gone) none)),
)

pub opened_proper : (p : Part) → IsProper (opened p)
opened_proper p = subst IsProper (fresh-opened p).1 (cleared_proper (opened p))

pub rest_of-opened : (p : Part) → rest_of (opened p) ≡ Some (whole p)
rest_of-opened p = ap rest_of (sym (fresh-opened p).1) ∙ rest_of-cleared (opened p) ∙ ap Some (begun-opened p)
