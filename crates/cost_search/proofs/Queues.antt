-- Parts in the place of the first one.
use Rattle.std.proofs.Common.{◌≡◌, inl, inr, ℕ, ◌<◌, ◌≤◌, List, [], ◌∷◌, ◌++◌, length, map, get_or, All, Contains, Some, Option, sym, ap, subst, ◌∙◌, arith}
use Rattle.std.specs.List.{AllZip, slice_get}
use Rattle.std.proofs.lemmas.List.{get_or_default, length-map, get_or-map, ext_get_or}
use Rattle.std.proofs.lemmas.Option.{slice_get-get_or, slice_get_within}
use Rattle.std.proofs.lemmas.Slice.Zip.{AllZip-long}
use Rattle.std.proofs.lemmas.List.Sums.{sum_by-append}
use Rattle.std.proofs.lemmas.List.Sorted.{Contains-permutation, All-permutation, sum_by-IsPermutation, sum_by_popped}
use Rattle.std.proofs.lemmas.List.Elements.{All-append, All-tail, Contains-append_left, Contains-append_right, All-contains}
use Rattle.list_laws.proofs.Members.{all_from, contains_cases, contains_here, contains_there, contains_none}
use Rattle.cca_base.specs.declared.limits.TheConstants.{MAX_ROWS}
use Rattle.cca_base.specs.declared.cube.Pair.{Pair}
use Rattle.cca_base.specs.State.{Extends}
use Rattle.cca_base.specs.declared.choice.Choice.{Choice}
use Rattle.cost_search.specs.declared.costed.Costed.{Costed}
use Rattle.cost_search.specs.declared.part.Part.{Part}
use Rattle.cost_search.specs.SearchParts.{IsPart, IsReplaced, AreInstead, KeepsFirst, nothing, head_of, heads, box_of, size, size_of}
use Rattle.cost_search.specs.Search.{IsAfterLast}
use Rattle.cca_base.specs.Choices.{AreRows}
use Rattle.cost_search.proofs.Boxes.{length-modes}
use Rattle.cost_search.specs.Queue.{Covers, MayBeGiven, IsBlocked, Replaces, modes_of, cost_of}

same_top : (rows : List (List Choice)) (last : Option Costed) (cuts : List (List Pair)) (old pieces new : List Part) (r : IsReplaced old pieces new) (p : Replaces rows last cuts old pieces)
    → r.top ≡ p.top
same_top rows last cuts old pieces new r p = r.is_top ∙ get_or_default old 0 r.top p.top p.some ∙ sym p.is_top

pub replaced-each : (rows : List (List Choice)) (last : Option Costed) (cuts : List (List Pair)) (old pieces new : List Part) → IsReplaced old pieces new → Replaces rows last cuts old pieces
    → All (IsPart rows) old → All (IsPart rows) new
replaced-each rows last cuts old pieces new r p each =
    All-permutation (IsPart rows) (r.rest ++ pieces) new r.joined
    (All-append (IsPart rows) r.rest pieces (All-tail (IsPart rows) r.top r.rest (All-permutation (IsPart rows) old (r.top ∷ r.rest) r.taken each)) p.each)

pub replaced-covers : (rows : List (List Choice)) (last : Option Costed) (cuts : List (List Pair)) (old pieces new : List Part) → IsReplaced old pieces new → Replaces rows last cuts old pieces
    → Covers rows last cuts old → Covers rows last cuts new
replaced-covers rows last cuts old pieces new r p covers picks has left =
    let (q, among, within) = covers picks has left in
    elim (contains_cases r.top q r.rest (Contains-permutation old (r.top ∷ r.rest) q r.taken among)) [
      | inl e ↦ let (x, there, inside) = p.covers picks (subst (λ z. AllZip Contains (box_of rows z) picks) (sym e ∙ same_top rows last cuts old pieces new r p) within) left in
          (x, Contains-permutation (r.rest ++ pieces) new x r.joined (Contains-append_right r.rest pieces x there), inside)
      | inr there ↦ (q, Contains-permutation (r.rest ++ pieces) new q r.joined (Contains-append_left r.rest pieces q there), within)
    ]

pub replaced-fewer : (rows : List (List Choice)) (last : Option Costed) (cuts : List (List Pair)) (old pieces new : List Part) → IsReplaced old pieces new → Replaces rows last cuts old pieces
    → size_of rows new < size_of rows old
replaced-fewer rows last cuts old pieces new r p =
    let f : Part → ℕ = λ q. size (box_of rows q) in
    let whole = sum_by_popped f r.top old r.rest r.taken in
    let joined = sum_by-IsPermutation f (r.rest ++ pieces) new r.joined in
    let both = sum_by-append f r.rest pieces in
    let same : f r.top ≡ f p.top = ap f (same_top rows last cuts old pieces new r p) in
    let fewer = p.fewer in
    omega arith

-- the component of a pair is among those of the cube
pub item_among : (cube : List Pair) (p : Pair) → Contains cube p → Contains (map (λ (q : Pair). q.item) cube) p.item
item_among [] p h = absurd (contains_none p h)
item_among (q ∷ cube) p h = elim (contains_cases q p cube h) [
  | inl e ↦ contains_here q.item p.item (map (λ (x : Pair). x.item) cube) (ap (λ (x : Pair). x.item) e)
  | inr there ↦ contains_there q.item p.item (map (λ (x : Pair). x.item) cube) (item_among cube p there)
]

-- ---- a blocked first state, and those that agree with it

-- a mode of the state that choices make
mode-at : (picks : List Choice) (c : ℕ) → c < length picks → slice_get (modes_of picks) c ≡ Some (get_or picks c nothing).mode
mode-at picks c h =
    let long : c < length (modes_of picks) = omega (arith, length-map picks (λ (x : Choice). x.mode)) in
    slice_get-get_or (modes_of picks) c 0 long ∙ ap Some (get_or-map (λ (x : Choice). x.mode) picks c nothing 0 h)

same_mode : (b : List (List Choice)) (components : List ℕ) (picks : List Choice) (c v : ℕ) → length picks ≡ length b → KeepsFirst b components picks → Contains components c
    → slice_get (modes_of (heads b)) c ≡ Some v → slice_get (modes_of picks) c ≡ Some v
same_mode b components picks c v long keeps among e =
    let within : c < length (modes_of (heads b)) = slice_get_within (modes_of (heads b)) c v e in
    let of_heads : c < length (heads b) = omega (arith, length-map (heads b) (λ (x : Choice). x.mode)) in
    let of_picks : c < length picks = omega (arith, length-map b head_of) in
    mode-at picks c of_picks ∙ ap (λ (x : Choice). Some x.mode) (All-contains (λ d. get_or picks d nothing ≡ get_or (heads b) d nothing) components c keeps among)
    ∙ sym (mode-at (heads b) c of_heads) ∙ e

length-picks : (b : List (List Choice)) (picks : List Choice) → AllZip Contains b picks → length picks ≡ length b
length-picks b picks h = AllZip-long Contains b picks h

all_first : (b : List (List Choice)) (components : List ℕ) (picks : List Choice) → length picks ≡ length b → KeepsFirst b components picks → ((c : ℕ) → c < length b → Contains components c)
    → picks ≡ heads b
all_first b components picks long keeps all =
    let long_heads = length-map b head_of in
    ext_get_or nothing picks (heads b) (omega arith)
    (λ c h. All-contains (λ d. get_or picks d nothing ≡ get_or (heads b) d nothing) components c keeps (all c (omega arith)))

blocked_closed : (rows : List (List Choice)) (last : Option Costed) (cuts : List (List Pair)) (p : Part) (components : List ℕ) (picks : List Choice) → IsPart rows p
    → AllZip Contains (box_of rows p) picks → KeepsFirst (box_of rows p) components picks → IsBlocked last cuts p.modes p.cost components → MayBeGiven last cuts (modes_of picks) (cost_of picks) → ⊥
blocked_closed rows last cuts p components picks part has keeps (inl (given, all)) left =
    let b = box_of rows p in
    let long = length-picks b picks has in
    let sizes : length p.modes ≡ length b = ap length part.starts ∙ length-map (heads b) (λ (x : Choice). x.mode) ∙ length-map b head_of in
    let same : picks ≡ heads b = all_first b components picks long keeps (λ c h. all c (omega arith)) in
    given (subst (λ m. IsAfterLast last m p.cost) (ap modes_of same ∙ sym part.starts) (subst (λ k. IsAfterLast last (modes_of picks) k) (ap cost_of same ∙ sym part.costs) left.after))
blocked_closed rows last cuts p components picks part has keeps (inr (cube, among, holds, within)) left =
    let b = box_of rows p in
    let long = length-picks b picks has in
    All-contains (λ cut. Extends (modes_of picks) cut → ⊥) cuts cube left.uncut among
    (all_from (λ q. slice_get (modes_of picks) q.item ≡ Some q.value) cube
    (λ q inside. same_mode b components picks q.item q.value long keeps (All-contains (λ x. Contains components x.item) cube q within inside)
    (subst (λ m. slice_get m q.item ≡ Some q.value) part.starts (All-contains (λ x. slice_get p.modes x.item ≡ Some x.value) cube q holds inside))))

pub replaces : (rows : List (List Choice)) (last : Option Costed) (cuts : List (List Pair)) (old pieces : List Part) (p : Part) (components : List ℕ) → 0 < length old → p ≡ get_or old 0 p
    → IsPart rows p → IsBlocked last cuts p.modes p.cost components → AreInstead rows (box_of rows p) components pieces → Replaces rows last cuts old pieces
replaces rows last cuts old pieces p components some first part blocked instead = record {
  some = some;
  top = p;
  is_top = first;
  each = instead.each;
  covers = λ picks has left. elim (instead.covers picks has) [
    | inl there ↦ there
    | inr keeps ↦ absurd (blocked_closed rows last cuts p components picks part has keeps blocked left)
  ];
  fewer = instead.fewer;
}

-- the first part
pub top-part : (rows : List (List Choice)) (parts : List Part) (p : Part) → All (IsPart rows) parts → 0 < length parts → p ≡ get_or parts 0 p → IsPart rows p
top-part rows parts p each some e = subst (IsPart rows) (sym e) (each 0 p some)

pub modes-few : (rows : List (List Choice)) (parts : List Part) (p : Part) → AreRows rows → All (IsPart rows) parts → 0 < length parts → p ≡ get_or parts 0 p → length p.modes ≤ MAX_ROWS
modes-few rows parts p a each some e =
    let part = top-part rows parts p each some e in
    omega (arith, length-modes rows p.cost p.modes p.spans part, a.few)
