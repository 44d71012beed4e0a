-- Bytes that leave a list's front, and bytes that join told bytes.
use Rattle.std.proofs.Common.{◌≡◌, ℕ, ◌+◌, ◌-◌, List, ◌++◌, length, take, drop, Option, Some, None, refl, sym, ap, ◌∙◌, append_assoc, arith, length-drop}
use Rattle.std.proofs.lemmas.List.{take-append-drop, drop-drop, take_rest}
use Rattle.std.proofs.Math.Seq.{take-add}
use Rattle.std.specs.Io.KnownBytes.{append_known}
use Rattle.titan_wire.specs.Wire.{HasRoom, less_space}

-- n bytes go from the front of what is left
pub moved_front : (xs buf : List ℕ) (at n : ℕ) → take n buf ≡ take n (take (length xs - at) (drop at xs)) → Some (drop at xs) ≡ Some (take n buf ++ drop (at + n) xs)
moved_front xs buf at n e = ap (λ (l : List ℕ). Some l) (sym (take-append-drop n (drop at xs)) ∙ ap (λ (l : List ℕ). l ++ drop n (drop at xs)) (sym (e ∙ ap (take n) (take_rest xs at))) ∙ ap (λ (l : List ℕ). take n buf ++ l) (drop-drop n at xs))

pub append_known-append : (o : Option (List ℕ)) (a b : List ℕ) → append_known (append_known o a) b ≡ append_known o (a ++ b)
append_known-append None a b = refl
append_known-append (Some x) a b = ap (λ (l : List ℕ). Some l) (append_assoc x a b)

-- n more bytes of the piece went out
pub sent_more : (old now new : Option (List ℕ)) (piece : List ℕ) (s n : ℕ) → now ≡ append_known old (take s piece) → new ≡ append_known now (take n (take (length piece - s) (drop s piece))) → new ≡ append_known old (take (s + n) piece)
sent_more old now new piece s n e f =
    f ∙ ap (λ (l : List ℕ). append_known now (take n l)) (take_rest piece s) ∙ ap (λ (o : Option (List ℕ)). append_known o (take n (drop s piece))) e
    ∙ append_known-append old (take s piece) (take n (drop s piece))
    ∙ ap (append_known old) (sym (take-add s n piece))

pub space_more : (old now new : Option ℕ) (s n : ℕ) → now ≡ less_space old s → new ≡ less_space now n → new ≡ less_space old (s + n)
space_more None now new s n e f = f ∙ ap (λ (o : Option ℕ). less_space o n) e
space_more (Some x) now new s n e f = f ∙ ap (λ (o : Option ℕ). less_space o n) e ∙ (let k : (x - s) - n ≡ x - (s + n) = omega arith in ap (λ (m : ℕ). Some m) k)

-- what is left of the piece still fits
pub room_left : (old now : Option ℕ) (piece : List ℕ) (s : ℕ) → now ≡ less_space old s → HasRoom old (length piece) → HasRoom now (length (drop s piece))
room_left None now piece s e h = rw e tt
room_left (Some x) now piece s e h = rw e (omega (arith, length-drop s piece))
