-- Calls that follow one another, and what they brought.
use Rattle.std.proofs.Common.{◌≡◌, ℕ, ◌≤◌, ◌⊎◌, arith, inl, inr, List, [], ◌∷◌, ◌++◌, length, Option, Some, None, Result, Ok, Err, refl, sym, ap, subst, ◌∙◌, append_assoc, append-nil}
use Rattle.std.specs.Prelude.{⊤}
use Rattle.std.proofs.KnownBytes.{prepend_known-nil}
use Rattle.std.specs.Io.KnownBytes.{prepend_known}
use Rattle.line_machine.specs.Call.{Call, bytes_of, with_calls, Notes, AllCame, AreReads}
use Rattle.line_machine.specs.Found.{IsShort, Fills, Waits, Came}
use Rattle.line_machine.specs.declared.buffer.FillStop.{FillStop}
use Rattle.line_machine.specs.declared.buffer.FillStop.TheVariants.{Fault, Memory}

pub prepend_twice : (o : Option (List ℕ)) (a b : List ℕ) → prepend_known a (prepend_known b o) ≡ prepend_known (a ++ b) o
prepend_twice None a b = refl
prepend_twice (Some x) a b = ap (λ (l : List ℕ). Some l) (sym (append_assoc a b x))

calls_none : (o : Option (List Call)) → o ≡ with_calls o []
calls_none None = refl
calls_none (Some x) = ap (λ (l : List Call). Some l) (sym (append-nil x))

calls_twice : (o : Option (List Call)) (a b : List Call) → with_calls (with_calls o a) b ≡ with_calls o (a ++ b)
calls_twice None a b = refl
calls_twice (Some x) a b = ap (λ (l : List Call). Some l) (append_assoc x a b)

pub notes_none : (o : Option (List Call)) → Notes o o []
notes_none o = inr (calls_none o)

pub notes_twice : (o o1 o2 : Option (List Call)) (a b : List Call) → Notes o o1 a → Notes o1 o2 b → Notes o o2 (a ++ b)
notes_twice o o1 o2 a b h (inl lost) = inl lost
notes_twice o o1 o2 a b (inl lost) (inr e) = inl (e ∙ ap (λ (x : Option (List Call)). with_calls x b) lost)
notes_twice o o1 o2 a b (inr f) (inr e) = inr (e ∙ ap (λ (x : Option (List Call)). with_calls x b) f ∙ calls_twice o a b)

pub bytes_of-append : (a b : List Call) → bytes_of (a ++ b) ≡ bytes_of a ++ bytes_of b
bytes_of-append [] b = refl
bytes_of-append (c ∷ a) b = ap (λ (l : List ℕ). c.came ++ l) (bytes_of-append a b) ∙ sym (append_assoc c.came (bytes_of a) (bytes_of b))

pub all_came-append : (a b : List Call) → AllCame a → AllCame b → AllCame (a ++ b)
all_came-append [] b h k = k
all_came-append (c ∷ a) b h k = (h.0, all_came-append a b h.1 k)

pub reads-append : (a b : List Call) → AreReads a → AreReads b → AreReads (a ++ b)
reads-append [] b h k = k
reads-append (c ∷ a) b h k = (h.0, reads-append a b h.1 k)

pub alive : {A : Type 0} → A ⊎ ⊥ → A
alive (inl a) = a
alive (inr b) = absurd b

-- one call of the source: what it brought stands behind what was held
record Asked (written : Option (List ℕ)) (old new : List ℕ) (left left' : Option (List ℕ)) (calls calls' : Option (List Call)) : Type 0 where
  pub came : List ℕ
  pub held : new ≡ old ++ came
  pub moved : left ≡ prepend_known came left'
  pub noted : Notes calls calls' (record { came = came; written = written } ∷ [])
  pub read : AreReads (record { came = came; written = written } ∷ [])

-- one call more
waits_on : (limit : ℕ) (written : Option (List ℕ)) (call : Call) (is : call.written ≡ written) (calls : List Call) (held : List ℕ) → Waits limit written held calls → AllCame calls → IsShort limit (held ++ bytes_of calls) → Waits limit written held (calls ++ call ∷ [])
waits_on limit written call is [] held w all short = (subst (IsShort limit) (append-nil held) short, is, λ _. refl, tt)
waits_on limit written call is (c ∷ calls) held (now, same, last, more) (some, all) short =
    (now, same, λ e. absurd (some e), waits_on limit written call is calls (held ++ c.came) more all (subst (IsShort limit) (sym (append_assoc held c.came (bytes_of calls))) short))

live_on : (over : Type 0) (calls : List Call) (written : Option (List ℕ)) (came : List ℕ) → AllCame calls → (came ≡ [] → over) → AllCame (calls ++ record { came = came; written = written } ∷ []) ⊎ over
live_on over calls written [] all h = inr (h refl)
live_on over calls written (b ∷ came) all h = inl (all_came-append calls (record { came = b ∷ came; written = written } ∷ []) all (λ e. absurd cc, tt))

-- no call yet
pub came_none : {limit : ℕ} {written : Option (List ℕ)} {old : List ℕ} {left : Option (List ℕ)} {calls : Option (List Call)} → Came ⊥ limit written old old left left calls calls
came_none {limit} {written} {old} {left} {calls} = record { asked = []; held = sym (append-nil old); moved = sym (prepend_known-nil left); noted = notes_none calls; waits = tt; reads = tt; live = inl tt }

module _ {limit : ℕ} {written : Option (List ℕ)} {old mid : List ℕ} {left left1 : Option (List ℕ)} {calls calls1 : Option (List Call)} where
  module _ (c : Came ⊥ limit written old mid left left1 calls calls1) (short : IsShort limit mid) {new : List ℕ} {left2 : Option (List ℕ)} {calls2 : Option (List Call)} where
    came_more : (over : Type 0) (a : Asked written mid new left1 left2 calls1 calls2) → (a.came ≡ [] → over) → Came over limit written old new left left2 calls calls2
    came_more over a h =
        let call : Call = record { came = a.came; written = written } in
        let bytes : bytes_of (c.asked ++ call ∷ []) ≡ bytes_of c.asked ++ a.came = bytes_of-append c.asked (call ∷ []) ∙ ap (λ (l : List ℕ). bytes_of c.asked ++ l) (append-nil a.came) in
        record {
          asked = c.asked ++ call ∷ [];
          held = a.held ∙ ap (λ (l : List ℕ). l ++ a.came) c.held ∙ append_assoc old (bytes_of c.asked) a.came ∙ ap (λ (l : List ℕ). old ++ l) (sym bytes);
          moved = c.moved ∙ ap (prepend_known (bytes_of c.asked)) a.moved ∙ prepend_twice left2 (bytes_of c.asked) a.came ∙ ap (λ (l : List ℕ). prepend_known l left2) (sym bytes);
          noted = notes_twice calls calls1 calls2 c.asked (call ∷ []) c.noted a.noted;
          waits = waits_on limit written call refl c.asked old c.waits (alive c.live) (subst (IsShort limit) c.held short);
          reads = reads-append c.asked (call ∷ []) c.reads a.read;
          live = live_on over c.asked written a.came (alive c.live) h;
        }

    -- a call that brought something
    pub came_on : (n : ℕ) (f : Fills written mid new left1 left2 calls1 calls2 (Ok n)) → (n ≡ 0 → ⊥) → Came ⊥ limit written old new left left2 calls calls2
    came_on n (bytes, count, read, held, moved, noted) some = came_more ⊥ (record { came = bytes; held = held; moved = moved; noted = noted; read = read }) (λ e. some (sym count ∙ ap length e))

    -- the last call, whatever it brought
    pub came_last : (r : Result ℕ FillStop) → Fills written mid new left1 left2 calls1 calls2 r → Came ⊤ limit written old new left left2 calls calls2
    came_last (Ok n) (bytes, count, read, held, moved, noted) = came_more ⊤ (record { came = bytes; held = held; moved = moved; noted = noted; read = read }) (λ _. tt)
    came_last (Err Fault) (same, still, noted) = came_more ⊤ (record { came = []; held = same ∙ sym (append-nil mid); moved = sym still ∙ sym (prepend_known-nil left2); noted = noted; read = (omega arith, tt) }) (λ _. tt)
    came_last (Err Memory) (same, still, none) =
        record {
          asked = c.asked;
          held = same ∙ c.held;
          moved = c.moved ∙ ap (prepend_known (bytes_of c.asked)) (sym still);
          noted = subst (λ (o : Option (List Call)). Notes calls o c.asked) (sym none) c.noted;
          waits = c.waits;
          reads = c.reads;
          live = inl (alive c.live);
        }
