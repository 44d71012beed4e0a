-- The own moves of a component by a command.
use Rattle.std.proofs.Common.{◌≡◌, inl, inr, ℕ, ◌+◌, ◌<◌, ◌≤◌, List, length, slice_get, slice_index, Some, refl, sym, ap, ◌∙◌, arith}
use Rattle.std.proofs.lemmas.Bool.{cases_lt}
use Rattle.std.proofs.lemmas.Option.{same_Some, slice_get-get_or, get_or_from_slice_get, slice_get_within}
use Rattle.cca_base.specs.declared.model.Move.{Move}
use Rattle.cca_base.specs.MoveIndex.{IsMoveBy}
use Rattle.cca_base.specs.PlantModel.{PlantModel}
use Rattle.cca_base.specs.Relations.{AreExactly}
use Rattle.trajectory_estimator.specs.Steps.{IsOwnTarget, NoOwn}

-- none of the first moves of a row is of the component and leaves the mode
abbrev pub NoneOf : PlantModel → ℕ → ℕ → List ℕ → ℕ → Type 0
NoneOf m c from row n = (k : ℕ) → k < n → (x : Move) → slice_get m.moves (slice_index row k) ≡ Some x → x.component ≡ c → x.source ≡ from → ⊥

pub none_more : (m : PlantModel) (c from : ℕ) (row : List ℕ) (n : ℕ) (x : Move) → slice_get m.moves (slice_index row n) ≡ Some x → (x.component ≡ c → x.source ≡ from → ⊥)
    → NoneOf m c from row n → NoneOf m c from row (n + 1)
none_more m c from row n x here other h k less y there own source = elim (cases_lt k n) [
  | inl lt ↦ h k lt y there own source
  | inr ge ↦
      let e : k ≡ n = omega (arith, less) in
      let same : y ≡ x = same_Some y x (sym there ∙ ap (λ j. slice_get m.moves (slice_index row j)) e ∙ here) in
      other (ap (λ (z : Move). z.component) (sym same) ∙ own) (ap (λ (z : Move). z.source) (sym same) ∙ source)
]

pub none_all : (m : PlantModel) (c command from : ℕ) (row : List ℕ) (n : ℕ) → AreExactly (IsMoveBy m.moves command) row → length row ≤ n → NoneOf m c from row n
    → NoOwn m c (Some command) from
none_all m c command from row n exact all h move own =
    let (i, within, there) = own.of_model in
    let here = slice_get-get_or m.moves i move within ∙ ap Some there in
    let (k, inside, at) = (exact.each i).1 (move, here, sym (same_Some command move.command own.command)) in
    let e : slice_index row k ≡ i = get_or_from_slice_get row k i 0 (slice_get-get_or row k i inside ∙ ap Some at) in
    h k (omega arith) move (ap (slice_get m.moves) e ∙ here) own.own own.source

pub own_here : (m : PlantModel) (c command from number : ℕ) (x : Move) → slice_get m.moves number ≡ Some x → x.command ≡ command → x.component ≡ c → x.source ≡ from
    → IsOwnTarget m c (Some command) from x.target
own_here m c command from number x at named own source = (
  x,
  record {
    of_model = (number, slice_get_within m.moves number x at, get_or_from_slice_get m.moves number x x at);
    command = ap Some (sym named);
    own = own;
    source = source;
  },
  refl,
)
