-- What a search gives, and what stays.
use Rattle.std.proofs.Common.{◌≡◌, ℕ, ◌<◌, false, List, [], ◌∷◌, ◌++◌, length, get_or, Some, None, Option, sym, subst, arith}
use Rattle.std.specs.Ordering.{is_lt}
use Rattle.std.specs.BinaryHeap.{IsUpperBound}
use Rattle.std.proofs.lemmas.List.Elements.{All-contains, All-from_recursion}
use Rattle.list_laws.proofs.Elements.{all_left}
use Rattle.cca_base.specs.declared.cube.Pair.{Pair}
use Rattle.cca_base.specs.State.{Extends}
use Rattle.cca_base.specs.declared.choice.Choice.{Choice}
use Rattle.cost_search.specs.declared.costed.Costed.{Costed}
use Rattle.cost_search.specs.declared.part.Part.{Part}
use Rattle.cost_search.specs.Search.{IsLeft, IsFirstLeft, NoneLeft, IsUpTo, IsBefore, IsAfterLast, IsUncut}
use Rattle.cost_search.specs.SearchParts.{IsPart, IsIn, heads, box_of, part_cmp}
use Rattle.cost_search.specs.Queue.{IsSearch, IsQueue, MayBeGiven, Covers, modes_of, cost_of}
use Rattle.cost_search.proofs.Ranks.{heads_chosen, heads_upto, upto_from_test, upto-trans, before-trans}
use Rattle.cost_search.proofs.Queues.{top-part}

pub cut_search : (rows : List (List Choice)) (last : Option Costed) (cuts : List (List Pair)) (parts : List Part) (cube : List Pair) → IsSearch rows last cuts parts
    → IsSearch rows last (cuts ++ cube ∷ []) parts
cut_search rows last cuts parts cube s = record {
  rows_fit = s.rows_fit;
  queue = s.queue;
  covers = λ picks has left. s.covers picks has (record { after = left.after; uncut = all_left (λ c. Extends (modes_of picks) c → ⊥) cuts (cube ∷ []) left.uncut });
}

pub settled : (rows rows2 : List (List Choice)) (last : Option Costed) (cuts cuts2 : List (List Pair)) (old new : List Part) → rows2 ≡ rows → cuts2 ≡ cuts → IsSearch rows last cuts old
    → IsQueue rows2 new → (Covers rows2 last cuts2 old → Covers rows2 last cuts2 new) → IsSearch rows last cuts new
settled rows rows2 last cuts cuts2 old new e f s q covers = record {
  rows_fit = s.rows_fit;
  queue = subst (λ r. IsQueue r new) e q;
  covers = subst (λ r. Covers r last cuts old → Covers r last cuts new) e (subst (λ k. Covers rows2 last k old → Covers rows2 last k new) f covers) s.covers;
}

-- a state that is left is in some part
left_in : (rows : List (List Choice)) (last : Option Costed) (cuts : List (List Pair)) (parts : List Part) (t : List ℕ) (more : ℕ) → Covers rows last cuts parts
    → IsLeft (record { rows = rows; last = last; cuts = cuts }) t more
    → (picks : List Choice) × (t ≡ modes_of picks) × (more ≡ cost_of picks) × IsIn rows parts picks
left_in rows last cuts parts t more covers left =
    let chosen = left.chosen in
    let picks = chosen.picks in (
      picks,
      chosen.modes,
      chosen.total,
      covers picks chosen.each (record {
        after = subst (λ m. IsAfterLast last m (cost_of picks)) chosen.modes (subst (λ k. IsAfterLast last t k) chosen.total left.after);
        uncut = subst (IsUncut cuts) chosen.modes left.uncut;
      }),
    )

pub next_none : (rows : List (List Choice)) (last : Option Costed) (cuts : List (List Pair)) (parts : List Part) → Covers rows last cuts parts → length parts ≡ 0
    → NoneLeft (record { rows = rows; last = last; cuts = cuts })
next_none rows last cuts parts covers none t more left =
    let (picks, m, k, (p, (at, within, e), has)) = left_in rows last cuts parts t more covers left in
    absurd (omega arith)

pub next_some : (rows : List (List Choice)) (last : Option Costed) (cuts : List (List Pair)) (parts : List Part) (p : Part) → IsSearch rows last cuts parts
    → 0 < length parts → p ≡ get_or parts 0 p → IsUpperBound part_cmp p parts → MayBeGiven last cuts p.modes p.cost → IsFirstLeft (record { rows = rows; last = last; cuts = cuts }) p.modes p.cost
next_some rows last cuts parts p s some first greatest left =
    let part = top-part rows parts p s.queue.each some first in
    record {
      left = record {
        chosen = record { picks = heads (box_of rows p); each = heads_chosen rows p.spans part.each; modes = part.starts; total = part.costs };
        after = left.after;
        uncut = left.uncut;
      };
      first = λ t more other.
          let (picks, m, k, (q, among, has)) = left_in rows last cuts parts t more s.covers other in
          let its = All-contains (IsPart rows) parts q s.queue.each among in
          let lower : is_lt (part_cmp p q) ≡ false = All-contains (λ y. is_lt (part_cmp p y) ≡ false) parts q (All-from_recursion (λ y. is_lt (part_cmp p y) ≡ false) parts greatest) among in
          let behind : IsUpTo p.cost p.modes q.cost q.modes = upto_from_test p.cost q.cost p.modes q.modes lower in
          let within : IsUpTo q.cost q.modes (cost_of picks) (modes_of picks) =
          subst (λ c. IsUpTo c q.modes (cost_of picks) (modes_of picks)) (sym its.costs)
          (subst (λ l. IsUpTo (cost_of (heads (box_of rows q))) l (cost_of picks) (modes_of picks)) (sym its.starts) (heads_upto rows q.spans picks s.rows_fit.each its.each has)) in
          subst (λ c. IsUpTo p.cost p.modes c t) (sym k) (subst (λ l. IsUpTo p.cost p.modes (cost_of picks) l) (sym m)
          (upto-trans p.cost q.cost (cost_of picks) p.modes q.modes (modes_of picks) behind within));
    }

-- what comes after a state that comes after the last one comes after it
after_both : (last : Option Costed) (given : Costed) (s : List ℕ) (cost : ℕ) → IsAfterLast last given.state.modes given.cost → IsBefore given.cost given.state.modes cost s → IsAfterLast last s cost
after_both None given s cost h k = tt
after_both (Some l) given s cost h k = before-trans l.cost given.cost cost l.state.modes given.state.modes s h k

pub given_search : (rows : List (List Choice)) (last : Option Costed) (cuts : List (List Pair)) (parts : List Part) (given : Costed) → IsSearch rows last cuts parts
    → IsAfterLast last given.state.modes given.cost → IsSearch rows (Some given) cuts parts
given_search rows last cuts parts given s h = record {
  rows_fit = s.rows_fit;
  queue = s.queue;
  covers = λ picks has left. s.covers picks has (record { after = after_both last given (modes_of picks) (cost_of picks) h left.after; uncut = left.uncut });
}
