use Rattle.prime_implicants.specs.Partial.{Partial}
use Rattle.prime_implicants.specs.DenseClauses.{row_unfalsified}
use Rattle.prime_implicants.specs.Found.{IsFoundable, Key, key_of, all_keys}
use Rattle.std.proofs.Common.{◌≡◌, ℕ, Bool, true, false, ◌<◌, ◌≤◌, get_or, []}
use Rattle.std.specs.BTreeSet.{btree_set_len}
use Rattle.prime_implicants.proofs.choices.all_minimal.Given as goal

abbrev pub invariant-loop-row : goal.invariant-loop-row
invariant-loop-row l =
    record {
      sound : (t : Key → Bool) → ((p : Partial) → IsFoundable l.sizes l.rows p → t (key_of p) ≡ true) → all_keys t l.found.keys ≡ true;
      every : btree_set_len l.found ≤ l.most → (k : ℕ) → k < l.row-index → (p : Partial) → IsFoundable l.sizes l.rows p → row_unfalsified p (get_or l.rows k []) ≡ false
          → (t : Key → Bool) → all_keys t l.found.keys ≡ true → t (key_of p) ≡ true;
    }
