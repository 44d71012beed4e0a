-- Marks that are set as at the start, one after the other.
use Rattle.std.proofs.Common.{◌≡◌, ◌+◌, ◌<◌, ◌≤◌, ℕ, Bool, false, List, [], ◌∷◌, ◌++◌, length, map, slice_get, slice_set, refl, sym, ap, ◌∙◌, arith, append_assoc, append-nil, Some}
use Rattle.std.proofs.lemmas.List.{length-append, length-map}
use Rattle.std.proofs.lemmas.Option.{same_Some}
use Rattle.control_program.specs.declared.nodes.Kind.{Kind}
use Rattle.control_program.specs.declared.nodes.Mark.{Mark}
use Rattle.control_program.specs.declared.nodes.Node.{Node}
use Rattle.control_program.specs.declared.nodes.Task.{Task}
use Rattle.control_program.specs.Flat.{Entry, fresh_entry, fresh_marked}
use Rattle.control_program.specs.Places.{entry_of, fresh_kind, fresh_mark, is_ended, marked, marked_kind, marked_task}
use Rattle.control_program.proofs.PlaceLaws.{marked-at, marked-set}

-- up to the place they are as at the start
pub record Cleared (before middle after entries : List Entry) (at : ℕ) : Type 0 where
  pub done : List Entry
  pub todo : List Entry
  pub whole : middle ≡ done ++ todo
  pub nodes : entries ≡ before ++ map fresh_entry done ++ todo ++ after
  pub place : length before + length done ≡ at

fresh-task : (t : Task) (d : Bool) → marked_task t false ≡ fresh_marked (marked_task t d)
fresh-task (Task.Reach g) d = refl
fresh-task (Task.Await f) d = refl
fresh-task (Task.Parts o n) d = refl

fresh-kind : (kind : Kind) (k : Mark) → marked_kind kind (fresh_kind kind) ≡ fresh_marked (marked_kind kind k)
fresh-kind (Kind.Once t) k = fresh-task t (is_ended k)
fresh-kind (Kind.Choose f) k = refl
fresh-kind (Kind.Repeat n) k = refl

fresh-entry : (n : Node) (k : Mark) → entry_of n (fresh_mark n) ≡ fresh_entry (entry_of n k)
fresh-entry n k = ap (λ v. (v, n.size)) (fresh-kind n.kind k)

map-push : (xs : List Entry) (y : Entry) → map fresh_entry (xs ++ y ∷ []) ≡ map fresh_entry xs ++ fresh_entry y ∷ []
map-push [] y = refl
map-push (x ∷ xs) y = ap (λ l. fresh_entry x ∷ l) (map-push xs y)

module _ (ns : List Node) (ms : List Mark) (before middle after : List Entry) (at to : ℕ) (n : Node) where
  step : (done todo : List Entry) → middle ≡ done ++ todo → marked ns ms ≡ before ++ map fresh_entry done ++ todo ++ after → length before + length done ≡ at → at < to
      → length before + length middle ≡ to → slice_get ns at ≡ Some n → Cleared before middle after (marked ns (slice_set ms at (fresh_mark n))) (at + 1)
  step done [] whole nodes place lt end h = absurd (omega (arith, ap length whole, length-append done [], place, lt, end))
  step done (y ∷ todo) whole nodes place lt end h =
      let front = before ++ map fresh_entry done in
      let here_at : length front ≡ at = omega (arith, length-append before (map fresh_entry done), length-map done fresh_entry, place) in
      let is : marked ns ms ≡ front ++ y ∷ (todo ++ after) = nodes ∙ append_assoc front (y ∷ todo) after in
      let here = marked-at ns ms front y (todo ++ after) is in
      let node : here.node ≡ n = same_Some here.node n (sym here.of_nodes ∙ ap (slice_get ns) here_at ∙ h) in
      let fresh : entry_of n (fresh_mark n) ≡ fresh_entry y =
      ap (λ v. entry_of v (fresh_mark v)) (sym node) ∙ fresh-entry here.node here.mark ∙ ap fresh_entry here.is in
      record {
        done = done ++ y ∷ [];
        todo = todo;
        whole = whole ∙ sym (append_assoc done (y ∷ []) todo);
        nodes =
            ap (λ i. marked ns (slice_set ms i (fresh_mark n))) (sym here_at)
            ∙ marked-set ns ms front y (todo ++ after) n (fresh_mark n) is (ap (slice_get ns) here_at ∙ h)
            ∙ ap (λ v. front ++ v ∷ (todo ++ after)) fresh
            ∙ sym (append_assoc front (fresh_entry y ∷ []) (todo ++ after))
            ∙ ap (λ l. l ++ (todo ++ after)) (append_assoc before (map fresh_entry done) (fresh_entry y ∷ []) ∙ ap (λ l. before ++ l) (sym (map-push done y)))
            ∙ sym (append_assoc (before ++ map fresh_entry (done ++ y ∷ [])) todo after);
        place = omega (arith, length-append done (y ∷ []), place);
      }

  pub clear_step : Cleared before middle after (marked ns ms) at → at < to → length before + length middle ≡ to → slice_get ns at ≡ Some n
      → Cleared before middle after (marked ns (slice_set ms at (fresh_mark n))) (at + 1)
  clear_step c = step c.done c.todo c.whole c.nodes c.place

none_todo : (done todo middle : List Entry) → middle ≡ done ++ todo → length middle ≤ length done → todo ≡ []
none_todo done [] middle whole le = refl
none_todo done (y ∷ todo) middle whole le = absurd (omega (arith, ap length whole, length-append done (y ∷ todo), le))

pub clear_all : (before middle after entries : List Entry) (at to : ℕ) → Cleared before middle after entries at → to ≤ at → length before + length middle ≡ to
    → entries ≡ before ++ map fresh_entry middle ++ after
clear_all before middle after entries at to c le end =
    let empty : c.todo ≡ [] = none_todo c.done c.todo middle c.whole (omega (arith, c.place, le, end)) in
    let all : middle ≡ c.done = c.whole ∙ ap (λ l. c.done ++ l) empty ∙ append-nil c.done in
    c.nodes ∙ ap (λ l. before ++ map fresh_entry c.done ++ l ++ after) empty ∙ ap (λ l. l ++ after) (append-nil (before ++ map fresh_entry c.done))
    ∙ ap (λ l. before ++ map fresh_entry l ++ after) (sym all)

pub clear_start : (before middle after entries : List Entry) (at : ℕ) → entries ≡ before ++ middle ++ after → length before ≡ at → Cleared before middle after entries at
clear_start before middle after entries at nodes place = record {
  done = [];
  todo = middle;
  whole = refl;
  nodes = nodes ∙ ap (λ l. l ++ middle ++ after) (sym (append-nil before));
  place = omega (arith, place);
}
