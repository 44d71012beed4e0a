-- What a contract sees of a list with room.
use Rattle.std.specs.Prelude.{ℕ, List, refl}
use Rattle.std.specs.Coded.{Coded, code_by, coded×, coded_list, coded_ℕ}

-- the items, and how many there may be
pub record Bounded (A : Type 0) : Type 0 where
  pub items : List A
  pub room : ℕ

module _ {A : Type 0} where
  abbrev pub bounded : List A → ℕ → Bounded A
  bounded xs n = record { items = xs; room = n }

  abbrev pub bounded_code : Coded A → Coded (Bounded A)
  bounded_code c = code_by (List A × ℕ) (coded× (coded_list c) coded_ℕ) (λ b. (b.items, b.room)) (λ p. bounded p.0 p.1) (λ _. refl)
