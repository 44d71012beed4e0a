-- A text that is sent in pieces.
use Rattle.std.proofs.Common.{◌≡◌, ℕ, ◌+◌, ◌-◌, ◌≤◌, List, [], ◌++◌, length, take, drop, Option, Some, None, refl, sym, ap, ◌∙◌, append_assoc, append-nil, arith, length-append}
use Rattle.std.specs.Io.KnownBytes.{append_known}
use Rattle.std.proofs.lemmas.List.{take-append-drop, take_all}
use Rattle.titan_wire.proofs.Bytes.{append_known-append}
use Rattle.titan_wire.specs.Wire.{HasRoom, less_space}
use Rattle.line_machine.specs.Sent.{SentFront}

pub append_known-nil : (o : Option (List ℕ)) → append_known o [] ≡ o
append_known-nil None = refl
append_known-nil (Some x) = ap (λ (l : List ℕ). Some l) (append-nil x)

pub less_space-none : (o : Option ℕ) → o ≡ less_space o 0
less_space-none None = refl
less_space-none (Some x) = let k : x ≡ x - 0 = omega (arith) in ap (λ (i : ℕ). Some i) k

less_twice : (o : Option ℕ) (m n : ℕ) → less_space (less_space o m) n ≡ less_space o (m + n)
less_twice None m n = refl
less_twice (Some x) m n = let k : (x - m) - n ≡ x - (m + n) = omega arith in ap (λ (i : ℕ). Some i) k

-- room for a text is room for what is left of it
room_behind : (first : Option ℕ) (a b : List ℕ) → HasRoom first (length (a ++ b)) → HasRoom (less_space first (length a)) (length b)
room_behind None a b h = tt
room_behind (Some x) a b h = omega (arith, h, length-append a b)

room_less : (o : Option ℕ) (m n : ℕ) → m ≤ n → HasRoom o n → HasRoom o m
room_less None m n le h = tt
room_less (Some x) m n le h = omega (arith, h, le)

-- ---- one text behind another

pub write_on : (out0 out out' : Option (List ℕ)) (a b : List ℕ) → out ≡ append_known out0 a → out' ≡ append_known out b → out' ≡ append_known out0 (a ++ b)
write_on out0 out out' a b e f = f ∙ ap (λ (o : Option (List ℕ)). append_known o b) e ∙ append_known-append out0 a b

pub less_on : (space0 space space' : Option ℕ) (a b : List ℕ) → space ≡ less_space space0 (length a) → space' ≡ less_space space (length b) → space' ≡ less_space space0 (length (a ++ b))
less_on space0 space space' a b e f = f ∙ ap (λ (o : Option ℕ). less_space o (length b)) e ∙ less_twice space0 (length a) (length b) ∙ ap (less_space space0) (sym (length-append a b))

pub room_on : (space0 space : Option ℕ) (a b : List ℕ) → space ≡ less_space space0 (length a) → HasRoom space0 (length (a ++ b)) → HasRoom space (length b)
room_on space0 space a b e h = rw e (room_behind space0 a b h)

-- a front of the text is out, and this is the rest
pub record IsSending (text rest : List ℕ) (out now : Option (List ℕ)) (first space : Option ℕ) : Type 0 where
  pub front : List ℕ
  pub parts : front ++ rest ≡ text
  pub written : now ≡ append_known out front
  pub less : space ≡ less_space first (length front)

module _ {text rest : List ℕ} {out now : Option (List ℕ)} {first space : Option ℕ} (s : IsSending text rest out now first space) (piece after : List ℕ) (parts : piece ++ after ≡ rest) where
  whole : (s.front ++ piece) ++ after ≡ text
  whole = append_assoc s.front piece after ∙ ap (λ (l : List ℕ). s.front ++ l) parts ∙ s.parts

  pub piece_room : HasRoom first (length text) → HasRoom space (length piece)
  piece_room h = room_less space (length piece) (length rest) (omega (arith, ap length parts, length-append piece after)) (rw (s.less) (room_behind first s.front rest (rw (s.parts) h)))

  pub piece_sent : (new : Option (List ℕ)) (less : Option ℕ) → new ≡ append_known now (take (length piece) piece) → less ≡ less_space space (length piece) → IsSending text after out new first less
  piece_sent new less e f = record {
    front = s.front ++ piece;
    parts = whole;
    written = e ∙ ap (append_known now) (take_all (length piece) piece (omega arith)) ∙ ap (λ (o : Option (List ℕ)). append_known o piece) s.written ∙ append_known-append out s.front piece;
    less = f ∙ ap (λ (o : Option ℕ). less_space o (length piece)) s.less ∙ less_twice first (length s.front) (length piece) ∙ ap (less_space first) (sym (length-append s.front piece));
  }

  pub piece_cut : (k : ℕ) (new : Option (List ℕ)) → new ≡ append_known now (take k piece) → SentFront (λ x. x ≡ text) out new
  piece_cut k new e = record {
    text = s.front ++ take k piece;
    rest = drop k piece ++ after;
    is = append_assoc s.front (take k piece) (drop k piece ++ after) ∙ ap (λ (l : List ℕ). s.front ++ l) (sym (append_assoc (take k piece) (drop k piece) after) ∙ ap (λ (l : List ℕ). l ++ after) (take-append-drop k piece) ∙ parts) ∙ s.parts;
    written = e ∙ ap (λ (o : Option (List ℕ)). append_known o (take k piece)) s.written ∙ append_known-append out s.front (take k piece);
  }
