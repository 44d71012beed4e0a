use Rattle.prime_implicants.specs.Partial.{Partial}
use Rattle.prime_implicants.specs.Found.{IsFoundable, AgreesTo, IsChoiceFrom, Key, key_of, all_keys}
use Rattle.std.proofs.Common.{◌≡◌, ℕ, Bool, true, false, ◌<◌, ◌≤◌, ◌+◌, ◌-◌, ◌*◌, length, Some, None, get_or}
use Rattle.cca_base.specs.Sets.{has}
use Rattle.std.specs.BTreeSet.{btree_set_len}
use Rattle.prime_implicants.proofs.choices.+choosing.Given as goal

abbrev pub decreases-choose : goal.decreases-choose
decreases-choose l = 2 * (length l.partial.now - l.at) + 1

abbrev pub decreases-choose_after : goal.decreases-choose_after
decreases-choose_after l = 2 * (length l.partial.now - l.x)

abbrev pub invariant-choose-loop-v : goal.invariant-choose-loop-v
invariant-choose-loop-v l =
    record {
      same : l.partial ≡ l.initial.partial;
      sound : (t : Key → Bool) → all_keys t l.initial.found.keys ≡ true → ((p : Partial) → IsFoundable l.sizes l.rows p → t (key_of p) ≡ true) → all_keys t l.found.keys ≡ true;
      grown : (t : Key → Bool) → all_keys t l.found.keys ≡ true → all_keys t l.initial.found.keys ≡ true;
      so_far : btree_set_len l.found ≤ l.most → (v : ℕ) → v < l.v → has (get_or l.row l.x 0) v ≡ false → (p : Partial) → IsFoundable l.sizes l.rows p → AgreesTo l.x l.initial.partial p
          → get_or p l.x None ≡ Some v → IsChoiceFrom (l.x + 1) l.row p → (t : Key → Bool) → all_keys t l.found.keys ≡ true → t (key_of p) ≡ true;
    }
