-- A state from which no line takes memory stays one over the calls of a source.
use Rattle.std.proofs.Common.{◌≡◌, ℕ, ◌+◌, ◌<◌, ◌≤◌, ◌⊎◌, inl, inr, List, [], ◌∷◌, ◌++◌, length, Option, None, refl, sym, ap, subst, ◌∙◌, append_assoc, append-nil, arith}
use Rattle.byte_buffer.specs.Outs.{Buffered, HasRoomLeft}
use Rattle.line_machine.specs.Call.{Call, bytes_of}
use Rattle.line_machine.specs.Found.{Waits}
use Rattle.line_machine.specs.Next.{GoesOn}
use Rattle.line_machine.specs.Runs.{length_code, IsSure}
use Rattle.line_machine.specs.declared.driver.TheConstants.{OUT_ROOM}
use Rattle.line_machine.specs.declared.machine.Machine.{Ghosts}
use Rattle.line_machine.proofs.BetweenLines.{IsAt, waits}
use Rattle.line_machine.proofs.Calls.{bytes_of-append}
use Rattle.line_machine.proofs.RunsAreOne.{IsFixed}
use Rattle.line_machine.proofs.SureTextBegins.{sure_is_one}

-- no calls have no last one
pub no_last : (before : List Call) (last : Call) → [] ≡ before ++ last ∷ [] → ⊥
no_last [] last e = absurd cc
no_last (c ∷ before) last e = absurd cc

none_first : (a b : List Call) → a ++ b ≡ [] → a ≡ []
none_first [] b e = refl
none_first (c ∷ a) b e = absurd cc

-- the last one of some calls and more is the last of the first ones, or of the others
split_last : (a b before : List Call) (last : Call) → a ++ b ≡ before ++ last ∷ [] → (a ≡ before ++ last ∷ []) ⊎ ((front : List Call) × (b ≡ front ++ last ∷ []) × (before ≡ a ++ front))
split_last [] b before last e = inr (before, e, refl)
split_last (c ∷ a) b [] last e =
    let none : a ++ b ≡ [] = cc in
    let first : a ≡ [] = none_first a b none in
    inl cc
split_last (c ∷ a) b (d ∷ before) last e =
    let rest : a ++ b ≡ before ++ last ∷ [] = cc in
    elim (split_last a b before last rest) [ inl h ↦ inl cc | inr h ↦ inr (h.0, h.1, cc) ]

-- a buffer without bytes that kept its room has it still
pub still_room : (old new : Buffered) → new.bytes ≡ [] → new.capacity ≡ old.capacity → HasRoomLeft old OUT_ROOM → HasRoomLeft new OUT_ROOM
still_room old new none same h = omega (arith, ap length none)

module _ {S : Type 0} (m : Ghosts S) (first : S) where
  -- if all calls but the last one led to a state from which no line takes memory, this is one
  abbrev pub StaysSteady : List Call → S → Type 0
  StaysSteady asked s = (before : List Call) (last : Call) → asked ≡ before ++ last ∷ [] → (x : S) (text : List ℕ) → IsSure m first (bytes_of before) (GoesOn x) text → m.steady x OUT_ROOM → m.steady s OUT_ROOM

  pub steady_none : (s : S) → StaysSteady [] s
  steady_none s before last e = absurd (no_last before last e)

  module _ (fixed : IsFixed m) (given held : List ℕ) (n : ℕ) (s : S) (text : List ℕ) (at : IsAt m first given n s text) (limit : ℕ) (code : (len : ℕ) → 0 < len → len ≤ limit → length_code (m.limit_of s) (n + 1) len ≡ None) (out : Option (List ℕ)) where
    -- at the last of the newer calls the bytes so far led here
    led_here : (front : List Call) (last : Call) (had : List ℕ) → Waits limit out had (front ++ last ∷ []) → IsSure m first (given ++ (had ++ bytes_of front)) (GoesOn s) text
    led_here [] last had (now, same, ends, more) =
        subst (λ (b : List ℕ). IsSure m first (given ++ b) (GoesOn s) text) (sym (append-nil had)) (waits m first given had n s text at now.no_line (λ some. code (length had) some now.short))
    led_here (c ∷ front) last had (now, same, ends, more) = subst (λ (b : List ℕ). IsSure m first (given ++ b) (GoesOn s) text) (append_assoc had c.came (bytes_of front)) (led_here front last (had ++ c.came) more)

    bytes_before : (asked front before : List Call) → bytes_of asked ≡ given ++ held → before ≡ asked ++ front → bytes_of before ≡ given ++ (held ++ bytes_of front)
    bytes_before asked front before are e = ap bytes_of e ∙ bytes_of-append asked front ∙ ap (λ (b : List ℕ). b ++ bytes_of front) are ∙ append_assoc given held (bytes_of front)

    -- so the state that they led to is the one that is there
    is_here : (front before : List Call) (last : Call) (x : S) (t : List ℕ) → bytes_of before ≡ given ++ (held ++ bytes_of front) → Waits limit out held (front ++ last ∷ []) → IsSure m first (bytes_of before) (GoesOn x) t → x ≡ s
    is_here front before last x t are w sure =
        let one : (GoesOn x ≡ GoesOn s) × (t ≡ text) = sure_is_one m first fixed (given ++ (held ++ bytes_of front)) t text (GoesOn x) (GoesOn s) (subst (λ (b : List ℕ). IsSure m first b (GoesOn x) t) are sure) (led_here front last held w) in
        let same : GoesOn x ≡ GoesOn s = one.0 in
        cc

    pub steady_on : (asked more : List Call) → bytes_of asked ≡ given ++ held → Waits limit out held more → StaysSteady asked s → StaysSteady (asked ++ more) s
    steady_on asked more are w still before last e x t sure h =
        elim (split_last asked more before last e) [
          | inl old ↦ still before last old x t sure h
          | inr new ↦ subst (λ (y : S). m.steady y OUT_ROOM) (is_here new.0 before last x t (bytes_before asked new.0 before are new.2) (subst (Waits limit out held) new.1 w) sure) h
        ]
