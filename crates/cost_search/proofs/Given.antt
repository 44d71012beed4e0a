-- What is so after the state of the first part was given.
use Rattle.std.proofs.Common.{◌≡◌, ◌<◌, List, length, get_or, Option, Some, sym, subst}
use Rattle.std.specs.BinaryHeap.{IsHeap, IsUpperBound}
use Rattle.cca_base.specs.declared.cube.Pair.{Pair}
use Rattle.cca_base.specs.declared.choice.Choice.{Choice}
use Rattle.cost_search.specs.declared.costed.Costed.{Costed}
use Rattle.cost_search.specs.declared.part.Part.{Part}
use Rattle.cost_search.specs.Search.{Searched, IsFirstLeft}
use Rattle.cost_search.specs.SearchParts.{part_cmp}
use Rattle.cost_search.specs.Queue.{IsSearch, IsQueue, MayBeGiven, TopMayBeGiven, Covers}
use Rattle.cost_search.specs.Left.{states_left}
use Rattle.cost_search.proofs.Left.{fewer_left}
use Rattle.cost_search.proofs.Searches.{settled, next_some, given_search}

-- the part's first state, with its cost
abbrev pub costed : Part → Costed
costed p = record { state = record { modes = p.modes }; cost = p.cost }

-- the search goes on, the state was the first that was left, and fewer are left
pub record IsGiven (rows : List (List Choice)) (last : Option Costed) (cuts : List (List Pair)) (parts : List Part) (p : Part) : Type 0 where
  pub search : IsSearch rows (Some (costed p)) cuts parts
  pub first : IsFirstLeft (record { rows = rows; last = last; cuts = cuts }) p.modes p.cost
  pub fewer : states_left (record { rows = rows; last = Some (costed p); cuts = cuts }) < states_left (record { rows = rows; last = last; cuts = cuts })

pub given_first : {rows rows2 : List (List Choice)} {last : Option Costed} {cuts cuts2 : List (List Pair)} {old new : List Part} (p : Part) → rows2 ≡ rows → cuts2 ≡ cuts
    → IsSearch rows last cuts old → IsQueue rows2 new → (Covers rows2 last cuts2 old → Covers rows2 last cuts2 new) → TopMayBeGiven last cuts2 new
    → 0 < length new → p ≡ get_or new 0 p → (IsHeap part_cmp new → IsUpperBound part_cmp p new) → IsGiven rows last cuts new p
given_first {rows = rows} {rows2 = rows2} {last = last} {cuts = cuts} {cuts2 = cuts2} {old = old} {new = new} p same_rows same_cuts before queue covers top some lookup greatest =
    let v : Searched = record { rows = rows; last = last; cuts = cuts } in
    let all : IsSearch rows last cuts new = settled rows rows2 last cuts cuts2 old new same_rows same_cuts before queue covers in
    let may : MayBeGiven last cuts p.modes p.cost =
    subst (λ k. MayBeGiven last k p.modes p.cost) same_cuts (subst (λ (q : Part). MayBeGiven last cuts2 q.modes q.cost) (sym lookup) (top p some)) in
    let first : IsFirstLeft v p.modes p.cost = next_some rows last cuts new p all some lookup (greatest all.queue.heap) may in
    record { search = given_search rows last cuts new (costed p) all may.after; first = first; fewer = fewer_left v (costed p) first }
