-- What a contract sees of rows in one list.
use Rattle.std.specs.Prelude.{◌≡◌, ◌≤◌, ◌-◌, ℕ, List, [], ◌∷◌, take, drop, refl}
use Rattle.std.specs.Coded.{Coded, code_by, coded×, coded_list, coded_ℕ}

-- the rows, how many items they have together, how many items there may be, and how many rows
pub record Rows (A : Type 0) : Type 0 where
  pub rows : List (List A)
  pub used : ℕ
  pub room : ℕ
  pub most : ℕ

-- the places where rows end, from a start on, rising, the last one behind all items
abbrev pub AreEnds : ℕ → List ℕ → ℕ → Type 0
AreEnds start [] count = start ≡ count
AreEnds start (end ∷ ends) count = (start ≤ end) × AreEnds end ends count

module _ {A : Type 0} where
  -- the rows of these items, from a start on
  abbrev pub rows_by : ℕ → List ℕ → List A → List (List A)
  rows_by start [] items = []
  rows_by start (end ∷ ends) items = take (end - start) (drop start items) ∷ rows_by end ends items

  abbrev pub rows_code : Coded A → Coded (Rows A)
  rows_code c = code_by (List (List A) × (ℕ × (ℕ × ℕ))) (coded× (coded_list (coded_list c)) (coded× coded_ℕ (coded× coded_ℕ coded_ℕ)))
      (λ r. (r.rows, (r.used, (r.room, r.most))))
      (λ p. record { rows = p.0; used = p.1.0; room = p.1.1.0; most = p.1.1.1 })
      (λ _. refl)
