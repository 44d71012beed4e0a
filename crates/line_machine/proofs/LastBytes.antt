-- The last bytes of an input and its end: what they may print.
use Rattle.std.proofs.Common.{◌≡◌, ℕ, zero, suc, ◌+◌, ◌<◌, false, eqb, List, [], ◌∷◌, ◌++◌, length, Option, Result, Ok, Err, IfOk, IfErr, OnErr, refl, sym, subst, ◌∙◌, append_assoc, append-nil, arith}
use Rattle.titan_wire.specs.Wire.{HasRoom}
use Rattle.line_machine.specs.Next.{Next, GoesOn, Stops, next_of}
use Rattle.line_machine.specs.Sent.{Sent, SentFront}
use Rattle.line_machine.specs.SentCut.{SentCut}
use Rattle.line_machine.specs.Runs.{Transition, MayPrint, Runs, Ends, MayEnd, Nothing, ByLine, ByEnd}
use Rattle.line_machine.specs.declared.machine.End.{End}
use Rattle.line_machine.specs.declared.machine.Machine.{Ghosts}
use Rattle.line_machine.specs.declared.send.Cut.{Cut}
use Rattle.line_machine.specs.declared.send.Cut.TheVariants.{ReadFault, WriteFault, Memory}
use Rattle.line_machine.proofs.SentPieces.{append_known-nil, write_on, less_on, room_on}

pub positive : (n : ℕ) → false ≡ eqb n 0 → 0 < n
positive zero e = absurd cc
positive (suc n) e = omega arith

module _ {S : Type 0} (m : Ghosts S) (s : S) (n : ℕ) where
  line_runs : (b : ℕ) (tail : List ℕ) (u : Next S) (x : List ℕ) → Transition m s (n + 1) (b ∷ tail) u x → Runs m (GoesOn s) n ((b ∷ tail) ∷ []) u x
  line_runs b tail u x h = (u, x, [], h, (refl, refl), sym (append-nil x))

  -- there are no last bytes
  ends_empty : (tail : List ℕ) → length tail ≡ 0 → (e : End) (x : List ℕ) → m.closes s n e x → Ends m s n tail e x
  ends_empty [] none e x h = record { here = GoesOn s; line = []; runs = (refl, refl); last = x; closes = subst (λ k. m.closes s k e x) (let is : n ≡ n + 0 = omega arith in is) h; parts = refl }
  ends_empty (b ∷ tail) none e x h = absurd (omega (arith, none))

  -- they are a line that ends the program
  ends_stopped : (tail : List ℕ) → 0 < length tail → (e : End) (x : List ℕ) → Transition m s (n + 1) tail (Stops e) x → Ends m s n tail e x
  ends_stopped [] some e x h = absurd (omega (arith, some))
  ends_stopped (b ∷ tail) some e x h = record { here = Stops e; line = x; runs = line_runs b tail (Stops e) x h; last = []; closes = (refl, refl); parts = sym (append-nil x) }

  -- they are a line, and then the input ends
  ends_closed : (tail : List ℕ) → 0 < length tail → (t : S) (x : List ℕ) → Transition m s (n + 1) tail (GoesOn t) x → (e : End) (y : List ℕ) → m.closes t (n + 1) e y → Ends m s n tail e (x ++ y)
  ends_closed [] some t x h e y k = absurd (omega (arith, some))
  ends_closed (b ∷ tail) some t x h e y k = record { here = GoesOn t; line = x; runs = line_runs b tail (GoesOn t) x h; last = y; closes = k; parts = refl }

  pub may_line : (tail : List ℕ) → 0 < length tail → (x : List ℕ) → MayPrint m s (n + 1) tail x → MayEnd m s n tail x
  may_line [] some x h = absurd (omega (arith, some))
  may_line (b ∷ tail) some x h = ByLine h.0 (line_runs b tail h.0 x h.1)

  -- nothing was printed
  nothing_sent : (tail : List ℕ) (out out' : Option (List ℕ)) → out' ≡ out → SentFront (MayEnd m s n tail) out out'
  nothing_sent tail out out' e = record { text = []; rest = []; is = Nothing refl; written = e ∙ sym (append_known-nil out) }

  cut_front : (c : Cut) (P : List ℕ → Type 0) (tail : List ℕ) (out out' : Option (List ℕ)) → ((x : List ℕ) → P x → MayEnd m s n tail x) → SentCut c P out out' → SentFront (MayEnd m s n tail) out out'
  cut_front ReadFault P tail out out' f h = absurd h
  cut_front WriteFault P tail out out' f h = record { text = h.text; rest = h.rest; is = f (h.text ++ h.rest) h.is; written = h.written }
  cut_front Memory P tail out out' f h = nothing_sent tail out out' h

  pub line_front : (tail : List ℕ) → 0 < length tail → (c : Cut) (out out' : Option (List ℕ)) → SentCut c (MayPrint m s (n + 1) tail) out out' → SentFront (MayEnd m s n tail) out out'
  line_front tail some c out out' h = cut_front c (MayPrint m s (n + 1) tail) tail out out' (may_line tail some) h

  -- ---- the end alone
  module _ (tail : List ℕ) (none : length tail ≡ 0) where
    pub empty_room : (space : Option ℕ) → ((x : List ℕ) → MayEnd m s n tail x → HasRoom space (length x)) → (e : End) (x : List ℕ) → m.closes s n e x → HasRoom space (length x)
    empty_room space room e x h = room x (ByEnd e (ends_empty tail none e x h))

    pub empty_sent : (r : Result End Cut) (out out' : Option (List ℕ)) (space space' : Option ℕ) → IfOk r (λ e. Sent (m.closes s n e) out out' space space') → IfOk r (λ e. Sent (Ends m s n tail e) out out' space space')
    empty_sent (Ok e) out out' space space' h = record { text = h.text; is = ends_empty tail none e h.text h.is; written = h.written; less = h.less }
    empty_sent (Err c) out out' space space' h = tt

    pub empty_front : (r : Result End Cut) (out out' : Option (List ℕ)) → IfErr r (λ c. SentCut c (λ x. (e : End) × m.closes s n e x) out out') → OnErr r (SentFront (MayEnd m s n tail) out out')
    empty_front (Ok e) out out' h = tt
    empty_front (Err c) out out' h = cut_front c (λ x. (e : End) × m.closes s n e x) tail out out' (λ x k. ByEnd k.0 (ends_empty tail none k.0 x k.1)) h

  -- ---- the end behind a line
  module _ (tail : List ℕ) (some : 0 < length tail) (t : S) {out mid : Option (List ℕ)} {space less : Option ℕ} (line : Sent (Transition m s (n + 1) tail (GoesOn t)) out mid space less) where
    pub behind_room : ((x : List ℕ) → MayEnd m s n tail x → HasRoom space (length x)) → (e : End) (y : List ℕ) → m.closes t (n + 1) e y → HasRoom less (length y)
    behind_room room e y h = room_on space less line.text y line.less (room (line.text ++ y) (ByEnd e (ends_closed tail some t line.text line.is e y h)))

    pub behind_sent : (r : Result End Cut) (out' : Option (List ℕ)) (space' : Option ℕ) → IfOk r (λ e. Sent (m.closes t (n + 1) e) mid out' less space') → IfOk r (λ e. Sent (Ends m s n tail e) out out' space space')
    behind_sent (Ok e) out' space' h = record { text = line.text ++ h.text; is = ends_closed tail some t line.text line.is e h.text h.is; written = write_on out mid out' line.text h.text line.written h.written; less = less_on space less space' line.text h.text line.less h.less }
    behind_sent (Err c) out' space' h = tt

    behind_cut : (c : Cut) (out' : Option (List ℕ)) → SentCut c (λ y. (e : End) × m.closes t (n + 1) e y) mid out' → SentFront (MayEnd m s n tail) out out'
    behind_cut ReadFault out' h = absurd h
    behind_cut WriteFault out' h = record {
      text = line.text ++ h.text;
      rest = h.rest;
      is = subst (MayEnd m s n tail) (sym (append_assoc line.text h.text h.rest)) (ByEnd h.is.0 (ends_closed tail some t line.text line.is h.is.0 (h.text ++ h.rest) h.is.1));
      written = write_on out mid out' line.text h.text line.written h.written;
    }
    behind_cut Memory out' h = record { text = line.text; rest = []; is = subst (MayEnd m s n tail) (sym (append-nil line.text)) (may_line tail some line.text (GoesOn t, line.is)); written = h ∙ line.written }

    pub behind_front : (r : Result End Cut) (out' : Option (List ℕ)) → IfErr r (λ c. SentCut c (λ y. (e : End) × m.closes t (n + 1) e y) mid out') → OnErr r (SentFront (MayEnd m s n tail) out out')
    behind_front (Ok e) out' h = tt
    behind_front (Err c) out' h = behind_cut c out' h

  -- the line ended the program
  pub stopped_sent : (tail : List ℕ) → 0 < length tail → (e : End) {out out' : Option (List ℕ)} {space space' : Option ℕ} → Sent (Transition m s (n + 1) tail (Stops e)) out out' space space' → Sent (Ends m s n tail e) out out' space space'
  stopped_sent tail some e h = record { text = h.text; is = ends_stopped tail some e h.text h.is; written = h.written; less = h.less }

  -- the line, by what was said of the end
  pub said_as : (tail : List ℕ) (t : S) {out out' : Option (List ℕ)} {space space' : Option ℕ} (o w : Option End) → o ≡ w → Sent (Transition m s (n + 1) tail (next_of t o)) out out' space space' → Sent (Transition m s (n + 1) tail (next_of t w)) out out' space space'
  said_as tail t {out} {out'} {space} {space'} o w e h = subst (λ v. Sent (Transition m s (n + 1) tail (next_of t v)) out out' space space') e h
