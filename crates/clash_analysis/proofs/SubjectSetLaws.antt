-- Members of a set of subjects.
use Rattle.std.proofs.Common.{◌≡◌, ℕ, ◌*◌, ◌/◌, ◌%◌, ◌<◌, ◌^◌, Bool, ◌||◌, eqb, List, length, set, get_or, slice_index, bit_or, sym, ap, ◌∙◌, arith, inl, inr, get_or-set_same, get_or-set_other}
use Rattle.std.proofs.lemmas.Bool.{cases_eq, eq-eqb, ne_eqb}
use Rattle.std.proofs.Math.Nat.{div-add-mod}
use Rattle.clash_analysis.specs.declared.subjects.TheConstants.{WORD_BITS}
use Rattle.cca_base.proofs.SetLaws.{members_of}
use Rattle.cca_base.specs.Sets.{has}

-- by words and places in them
same_number : (m n : ℕ) → m / WORD_BITS ≡ n / WORD_BITS → m % WORD_BITS ≡ n % WORD_BITS → m ≡ n
same_number m n d r = omega (arith, div-add-mod m WORD_BITS, div-add-mod n WORD_BITS, d, r)

pub with_in : (words : List ℕ) (n : ℕ) → n / WORD_BITS < length words → (m : ℕ)
    → has (slice_index (set words (n / WORD_BITS) (bit_or (slice_index words (n / WORD_BITS)) (1 * 2 ^ (n % WORD_BITS) % 2 ^ WORD_BITS))) (m / WORD_BITS)) (m % WORD_BITS) ≡ (eqb m n || has (slice_index words (m / WORD_BITS)) (m % WORD_BITS))
with_in words n h m =
    elim (cases_eq (m / WORD_BITS) (n / WORD_BITS)) [
      | inl e ↦ (
          let place : n % WORD_BITS < WORD_BITS = omega arith in
          let found : eqb (m % WORD_BITS) (n % WORD_BITS) ≡ eqb m n = elim (cases_eq (m % WORD_BITS) (n % WORD_BITS)) [
            | inl r ↦ eq-eqb (m % WORD_BITS) (n % WORD_BITS) r ∙ sym (eq-eqb m n (same_number m n e r))
            | inr r ↦ ne_eqb (m % WORD_BITS) (n % WORD_BITS) r ∙ sym (ne_eqb m n (λ same. r (ap (λ (k : ℕ). k % WORD_BITS) same)))
          ] in
          ap (λ (w : ℕ). has w (m % WORD_BITS)) (ap (λ (k : ℕ). get_or (set words (n / WORD_BITS) (bit_or (slice_index words (n / WORD_BITS)) (1 * 2 ^ (n % WORD_BITS) % 2 ^ WORD_BITS))) k 0) e ∙ get_or-set_same words (n / WORD_BITS) _ 0 h)
          ∙ (members_of WORD_BITS (slice_index words (n / WORD_BITS)) (n % WORD_BITS) place (m % WORD_BITS)
          ∙ (ap (λ (b : Bool). b || has (slice_index words (n / WORD_BITS)) (m % WORD_BITS)) found
          ∙ ap (λ (k : ℕ). eqb m n || has (slice_index words k) (m % WORD_BITS)) (sym e))))
      | inr ne ↦
          ap (λ (w : ℕ). has w (m % WORD_BITS)) (get_or-set_other words (n / WORD_BITS) (m / WORD_BITS) _ 0 ne)
          ∙ ap (λ (b : Bool). b || has (slice_index words (m / WORD_BITS)) (m % WORD_BITS)) (sym (ne_eqb m n (λ same. ne (ap (λ (k : ℕ). k / WORD_BITS) same))))
    ]
