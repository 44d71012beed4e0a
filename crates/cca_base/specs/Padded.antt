-- A text of at most as many bytes as a name in an array of as many, with zeros behind it.
use Rattle.std.specs.Prelude.{◌≡◌, ℕ, ◌≤◌, ◌-◌, List, ◌++◌, length, take, drop, replicate}
use Rattle.std.proofs.Common.{ap, sym, ◌∙◌, arith}
use Rattle.std.proofs.lemmas.List.{length-take-le, take-append-drop}
use Rattle.cca_base.specs.declared.limits.TheConstants.{MAX_NAME}

-- the array holds so many bytes of text, and then zeros
pub record IsPadded (len : ℕ) (bytes : List ℕ) : Type 0 where
  pub within : len ≤ MAX_NAME
  pub zeros : drop len bytes ≡ replicate (MAX_NAME - len) 0
  pub full : length bytes ≡ MAX_NAME

-- the text and zeros behind it are the array again
pub inverse_of_padded : {R : Type 0} (len : ℕ) (bytes : List ℕ) → IsPadded len bytes → (make : ℕ → List ℕ → R)
    → make (length (take len bytes)) (take len bytes ++ replicate (MAX_NAME - length (take len bytes)) 0) ≡ make len bytes
inverse_of_padded len bytes h make =
    let e : length (take len bytes) ≡ len = length-take-le len bytes (omega arith) in
    rw e (ap (make len) (ap (λ zeros. take len bytes ++ zeros) (sym h.zeros) ∙ take-append-drop len bytes))
