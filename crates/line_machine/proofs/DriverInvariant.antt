-- The driver's invariant, its next turn and its exits.
use Rattle.std.proofs.Common.{◌≡◌, ℕ, ◌+◌, ◌≤◌, ◌<◌, inl, inr, Bool, true, false, cond, ltb, ◌⊎◌, List, [], ◌∷◌, ◌++◌, length, take, drop, Option, Some, None, Result, Ok, Err, IfOk, IfErr, OnErr, refl, sym, ap, subst, ◌∙◌, append_assoc, append-nil}
use Rattle.std.specs.Io.KnownBytes.{prepend_known, append_known, IsAtEnd}
use Rattle.std.proofs.KnownBytes.{prepend_known-nil}
use Rattle.std.proofs.lemmas.List.{take-append-drop}
use Rattle.std.proofs.lemmas.Bool.{ltb-false}
use Rattle.titan_wire.specs.Wire.{HasRoom, less_space}
use Rattle.line_machine.specs.Next.{GoesOn, Stops, next_of}
use Rattle.line_machine.specs.Lines.{last_line, HasNoLf, HasLine}
use Rattle.line_machine.specs.Found.{Came, IsShort, IsFound, IsOver, Waits}
use Rattle.line_machine.specs.declared.buffer.Found.{Found}
use Rattle.line_machine.specs.declared.buffer.Found.TheVariants.{Line, Long, Last}
use Rattle.line_machine.specs.Sent.{Sent, SentFront}
use Rattle.line_machine.specs.SentCut.{SentCut}
use Rattle.line_machine.specs.Runs.{length_code, TransitionByCode, Transition, MayPrint, Runs, IsSure, Ends, MayEnd, Nothing, ByLine, ByEnd, IsText}
use Rattle.line_machine.specs.Driven.{Prints, BySure, ByLines, ByText, HasRoomFor, OutputBy}
use Rattle.line_machine.specs.declared.send.Cut.{Cut}
use Rattle.line_machine.specs.declared.send.Cut.TheVariants.{ReadFault, WriteFault, Memory}
use Rattle.line_machine.specs.declared.machine.End.{End}
use Rattle.line_machine.specs.declared.machine.End.TheVariants.{Refused}
use Rattle.line_machine.specs.declared.machine.Machine.{Ghosts}
use Rattle.line_machine.proofs.SureTextBegins.{stays_decided}
use Rattle.line_machine.proofs.SentPieces.{append_known-nil, less_space-none, write_on, less_on, room_on}
use Rattle.line_machine.specs.Call.{Call, bytes_of, Notes, AllCame, AreReads}
use Rattle.line_machine.specs.Calls.{InTurn, DrivenInTurn}
use Rattle.line_machine.specs.declared.driver.TheConstants.{OUT_ROOM}
use Rattle.line_machine.specs.declared.machine.TheConstants.{MAX_LINES}
use Rattle.line_machine.proofs.RunsAreOne.{IsFixed}
use Rattle.line_machine.proofs.SteadyCalls.{StaysSteady, steady_none, steady_on}
use Rattle.line_machine.proofs.Calls.{prepend_twice, notes_none, notes_twice, bytes_of-append, all_came-append, reads-append, alive}
use Rattle.line_machine.proofs.BetweenLines.{IsAt, line_taken, next_at, waits, long_taken, so_far, last_run, last_closed}

-- what was found, by its kind
module _ (limit : ℕ) (held : List ℕ) (left : Option (List ℕ)) (f : Found) (h : IsFound f limit held left) where
  pub found_line : (k : ℕ) → f ≡ Line k → HasLine held k
  found_line k e = subst (λ v. IsFound v limit held left) e h

  pub found_long : f ≡ Long → HasNoLf held × (limit < length held)
  found_long e = subst (λ v. IsFound v limit held left) e h

  pub found_last : f ≡ Last → IsShort limit held × IsAtEnd left
  found_last e = subst (λ v. IsFound v limit held left) e h

few_by : (t : Bool) (x : ℕ) (o : Option ℕ) → cond t (Some x) o ≡ None → t ≡ false
few_by true x o e = absurd cc
few_by false x o e = refl

module _ {S : Type 0} (m : Ghosts S) where
  goes_by : (o : Option ℕ) (s : S) (n : ℕ) (l : List ℕ) (t : S) (p : List ℕ) → TransitionByCode m o s n l (GoesOn t) p → o ≡ None
  goes_by (Some code) s n l t p h = absurd (let e : GoesOn t ≡ Stops Refused = h.0 in cc)
  goes_by None s n l t p h = refl

  -- a line after which the program goes on isn't one too many
  takes_few : (s : S) (n : ℕ) (l : List ℕ) (t : S) (p : List ℕ) → Transition m s n l (GoesOn t) p → n ≤ MAX_LINES
  takes_few s n l t p h =
      let e = goes_by (length_code (m.limit_of s) n (length l)) s n l t p h in
      ltb-false MAX_LINES n (few_by (ltb MAX_LINES n) 19 _ e)

-- calls that brought something, and more of them
live_on : {over : Type 0} (a b : List Call) → AllCame a → AllCame b ⊎ over → AllCame (a ++ b) ⊎ over
live_on a b h (inl k) = inl (all_came-append a b h k)
live_on a b h (inr o) = inr o

module _ {S : Type 0} (m : Ghosts S) (first : S) (out0 : Option (List ℕ)) where
  -- older calls in turn, and newer ones
  turns_on : (calls more : List Call) (taken : List ℕ) → InTurn m first out0 taken calls → AllCame calls → InTurn m first out0 (taken ++ bytes_of calls) more → InTurn m first out0 taken (calls ++ more)
  turns_on [] more taken t all h = subst (λ (b : List ℕ). InTurn m first out0 b more) (append-nil taken) h
  turns_on (c ∷ calls) more taken (wrote, last, turns) (some, all) h =
      (wrote, λ e. absurd (some e), turns_on calls more (taken ++ c.came) turns all (subst (λ (b : List ℕ). InTurn m first out0 b more) (sym (append_assoc taken c.came (bytes_of calls))) h))

  -- the source is asked where the bytes that are held decide nothing
  turns_here : (given : List ℕ) (n : ℕ) (s : S) (text : List ℕ) (at : IsAt m first given n s text) (limit : ℕ) (code : (len : ℕ) → 0 < len → len ≤ limit → length_code (m.limit_of s) (n + 1) len ≡ None) (out : Option (List ℕ)) (is : out ≡ append_known out0 text)
      (calls : List Call) (held : List ℕ) → Waits limit out held calls → InTurn m first out0 (given ++ held) calls
  turns_here given n s text at limit code out is [] held w = tt
  turns_here given n s text at limit code out is (c ∷ calls) held (now, same, last, more) = (
    record { state = s; text = text; sure = waits m first given held n s text at now.no_line (λ some. code (length held) some now.short); written = same ∙ is },
    last,
    subst (λ (b : List ℕ). InTurn m first out0 b calls) (sym (append_assoc given held c.came)) (turns_here given n s text at limit code out is calls (held ++ c.came) more),
  )

module _ {S : Type 0} (m : Ghosts S) (first : S) (left0 out0 : Option (List ℕ)) (space0 : Option ℕ) where
  -- so many lines are behind it, these bytes are held, the machine is here, and the source was asked in turn
  pub record IsDriving (calls0 : Option (List Call)) (over : Type 0) (n : ℕ) (s : S) (held : List ℕ) (left out : Option (List ℕ)) (space : Option ℕ) (calls : Option (List Call)) : Type 0 where
    pub given : List ℕ
    pub text : List ℕ
    pub at : IsAt m first given n s text
    pub moved : left0 ≡ prepend_known (given ++ held) left
    pub written : out ≡ append_known out0 text
    pub less : space ≡ less_space space0 (length text)
    pub asked : List Call
    pub noted : Notes calls0 calls asked
    pub bytes : bytes_of asked ≡ given ++ held
    pub turns : InTurn m first out0 [] asked
    pub reads : AreReads asked
    pub live : AllCame asked ⊎ over
    pub steady : StaysSteady m first asked s

module _ {S : Type 0} {m : Ghosts S} {first : S} (out0 : Option (List ℕ)) where
  -- a prefix of a text that may be printed behind what was printed
  front_on : (P : List ℕ → Type 0) (taken a : List ℕ) (left out out' : Option (List ℕ)) → out ≡ append_known out0 a → ((x : List ℕ) → P x → Prints m first taken left (a ++ x))
      → SentFront P out out' → SentFront (Prints m first taken left) out0 out'
  front_on P taken a left out out' e then h =
      record { text = a ++ h.text; rest = h.rest; is = subst (Prints m first taken left) (sym (append_assoc a h.text h.rest)) (then (h.text ++ h.rest) h.is); written = write_on out0 out out' a h.text e h.written }

  -- what is said of a text that may be printed behind what was printed, and was cut short
  cut_says : (c : Cut) (P : List ℕ → Type 0) (taken a : List ℕ) (left out out' : Option (List ℕ)) → out ≡ append_known out0 a → Prints m first taken left a → ((x : List ℕ) → P x → Prints m first taken left (a ++ x))
      → SentCut c P out out' → OutputBy m first taken left out0 out' (Err c)
  cut_says ReadFault P taken a left out out' e now then h = absurd h
  cut_says WriteFault P taken a left out out' e now then h =
      record { text = a ++ h.text; rest = h.rest; is = subst (Prints m first taken left) (sym (append_assoc a h.text h.rest)) (then (h.text ++ h.rest) h.is); written = write_on out0 out out' a h.text e h.written }
  cut_says Memory P taken a left out out' e now then h =
      record { text = a; rest = []; is = subst (Prints m first taken left) (sym (append-nil a)) now; written = h ∙ e }

module _ {S : Type 0} {m : Ghosts S} {first : S} {left0 out0 : Option (List ℕ)} {space0 : Option ℕ} where
  -- no line yet
  pub starts : (calls : Option (List Call)) (held : List ℕ) → held ≡ [] → IsDriving m first left0 out0 space0 calls ⊥ 0 first held left0 out0 space0 calls
  starts calls held none = record {
    given = [];
    text = [];
    at = record { whole = []; lines = refl; count = refl; runs = (refl, refl) };
    moved = sym (ap (λ (l : List ℕ). prepend_known l left0) none ∙ prepend_known-nil left0);
    written = sym (append_known-nil out0);
    less = less_space-none space0;
    asked = [];
    noted = notes_none calls;
    bytes = sym none;
    turns = tt;
    reads = tt;
    live = inl tt;
    steady = steady_none m first first;
  }

  pub came : IsFixed m → {calls0 calls calls' : Option (List Call)} {over : Type 0} {limit n : ℕ} {s : S} {held held' : List ℕ} {left left' out : Option (List ℕ)} {space : Option ℕ} → IsDriving m first left0 out0 space0 calls0 ⊥ n s held left out space calls
      → ((len : ℕ) → 0 < len → len ≤ limit → length_code (m.limit_of s) (n + 1) len ≡ None) → Came over limit out held held' left left' calls calls' → IsDriving m first left0 out0 space0 calls0 over n s held' left' out space calls'
  came fixed {calls0} {calls} {calls'} {over} {limit} {n} {s} {held} {held'} {left} {left'} {out} {space} d code c =
      let all : (d.given ++ held) ++ bytes_of c.asked ≡ d.given ++ held' = append_assoc d.given held (bytes_of c.asked) ∙ ap (λ (l : List ℕ). d.given ++ l) (sym c.held) in
      record {
        given = d.given;
        text = d.text;
        at = d.at;
        moved = d.moved ∙ ap (prepend_known (d.given ++ held)) c.moved ∙ prepend_twice left' (d.given ++ held) (bytes_of c.asked) ∙ ap (λ (l : List ℕ). prepend_known l left') all;
        written = d.written;
        less = d.less;
        asked = d.asked ++ c.asked;
        noted = notes_twice calls0 calls calls' d.asked c.asked d.noted c.noted;
        bytes = bytes_of-append d.asked c.asked ∙ ap (λ (l : List ℕ). l ++ bytes_of c.asked) d.bytes ∙ all;
        turns = turns_on m first out0 d.asked c.asked [] d.turns (alive d.live) (subst (λ (b : List ℕ). InTurn m first out0 b c.asked) (sym d.bytes) (turns_here m first out0 d.given n s d.text d.at limit code out d.written c.asked held c.waits));
        reads = reads-append d.asked c.asked d.reads c.reads;
        live = live_on d.asked c.asked (alive d.live) c.live;
        steady = steady_on m first fixed d.given held n s d.text d.at limit code out d.asked c.asked d.bytes c.waits d.steady;
      }

  -- where a whole line was found, more may be asked for
  pub goes_on_line : {calls0 calls : Option (List Call)} {n k : ℕ} {s : S} {held : List ℕ} {left out : Option (List ℕ)} {space : Option ℕ} (f : Found) → f ≡ Line k → IsDriving m first left0 out0 space0 calls0 (IsOver (Ok f)) n s held left out space calls → IsDriving m first left0 out0 space0 calls0 ⊥ n s held left out space calls
  goes_on_line {calls0} {calls} {n} {k} {s} {held} {left} {out} {space} f e d = subst (λ v. IsDriving m first left0 out0 space0 calls0 (IsOver (Ok v)) n s held left out space calls) e d

  -- the driver asked in turn, however it ends
  pub in_turn : {calls0 calls : Option (List Call)} {over : Type 0} {n : ℕ} {s : S} {held : List ℕ} {left out out' : Option (List ℕ)} {space : Option ℕ} (r : Result End Cut) (d : IsDriving m first left0 out0 space0 calls0 over n s held left out space calls) → OutputBy m first (d.given ++ held) left out0 out' r → (r ≡ Err Memory → m.steady s OUT_ROOM → ⊥)
      → DrivenInTurn m first left0 left out0 out' calls0 calls r
  in_turn {calls0} {calls} {over} {n} {s} {held} {left} r d says keeps = record {
    driven = record { taken = d.given ++ held; moved = d.moved; says = says };
    order = record { asked = d.asked; noted = d.noted; moved = d.moved ∙ ap (λ (l : List ℕ). prepend_known l left) (sym d.bytes); turns = d.turns; reads = d.reads };
    came = sym d.bytes;
    memory = λ e before last is x text sure h. keeps e (d.steady before last is x text sure h);
  }

  pub cut_in_turn : {calls0 calls : Option (List Call)} {over : Type 0} {n : ℕ} {s : S} {held : List ℕ} {left out out' : Option (List ℕ)} {space : Option ℕ} (c : Cut) (d : IsDriving m first left0 out0 space0 calls0 over n s held left out space calls) → OutputBy m first (d.given ++ held) left out0 out' (Err c) → (c ≡ Memory → m.steady s OUT_ROOM → ⊥)
      → DrivenInTurn m first left0 left out0 out' calls0 calls (Err c)
  cut_in_turn c d says keeps = in_turn (Err c) d says (λ e. keeps cc)

  module _ {calls0 calls : Option (List Call)} {over : Type 0} {n : ℕ} {s : S} {held : List ℕ} {left out : Option (List ℕ)} {space : Option ℕ} (d : IsDriving m first left0 out0 space0 calls0 over n s held left out space calls) where
    now_prints : Prints m first (d.given ++ held) left d.text
    now_prints = BySure d.given held (GoesOn s) refl (so_far m first d.given held n s d.text d.at)

    -- ---- a whole line
    module _ {k : ℕ} (line : HasLine held k) {l : List ℕ} (is : l ≡ take k held) where
      rest_joined : (d.given ++ take (k + 1) held) ++ drop (k + 1) held ≡ d.given ++ held
      rest_joined = append_assoc d.given (take (k + 1) held) (drop (k + 1) held) ∙ ap (λ (l : List ℕ). d.given ++ l) (take-append-drop (k + 1) held)

      line_prints : (x : List ℕ) → MayPrint m s (n + 1) l x → Prints m first (d.given ++ held) left (d.text ++ x)
      line_prints x h = BySure (d.given ++ take (k + 1) held) (drop (k + 1) held) h.0 rest_joined (line_taken m first d.given held n s d.text d.at k h.0 x line (subst (λ y. Transition m s (n + 1) y h.0 x) is h.1))

      pub line_room : HasRoomFor m first left0 space0 → (x : List ℕ) → MayPrint m s (n + 1) l x → HasRoom space (length x)
      line_room room x h = room_on space0 space d.text x d.less (room (d.given ++ held) (d.text ++ x) left d.moved (line_prints x h))

      pub line_cut : (c : Cut) (out' : Option (List ℕ)) → SentCut c (MayPrint m s (n + 1) l) out out' → OutputBy m first (d.given ++ held) left out0 out' (Err c)
      line_cut c out' h = cut_says out0 c (MayPrint m s (n + 1) l) (d.given ++ held) d.text left out out' d.written now_prints line_prints h

      line_stops : (e : End) {out' : Option (List ℕ)} {space' : Option ℕ} → Sent (Transition m s (n + 1) l (Stops e)) out out' space space' → OutputBy m first (d.given ++ held) left out0 out' (Ok e)
      line_stops e {out'} {space'} h = record {
        text = d.text ++ h.text;
        written = write_on out0 out out' d.text h.text d.written h.written;
        whole = inr (subst (λ (b : List ℕ). IsSure m first b (Stops e) (d.text ++ h.text)) rest_joined (stays_decided m first (d.given ++ take (k + 1) held) (drop (k + 1) held) (d.text ++ h.text) e (line_taken m first d.given held n s d.text d.at k (Stops e) h.text line (subst (λ y. Transition m s (n + 1) y (Stops e) h.text) is h.is))));
      }

      line_goes_on : (t : S) → (m.steady s OUT_ROOM → m.steady t OUT_ROOM) → {out' : Option (List ℕ)} {space' : Option ℕ} → Sent (Transition m s (n + 1) l (GoesOn t)) out out' space space' → IsDriving m first left0 out0 space0 calls0 over (n + 1) t (drop (k + 1) held) left out' space' calls
      line_goes_on t stays {out'} {space'} h = record {
        given = d.given ++ take (k + 1) held;
        text = d.text ++ h.text;
        at = next_at m first d.given held n s d.text d.at k t h.text line (subst (λ y. Transition m s (n + 1) y (GoesOn t) h.text) is h.is);
        moved = d.moved ∙ ap (λ (l : List ℕ). prepend_known l left) (sym rest_joined);
        written = write_on out0 out out' d.text h.text d.written h.written;
        less = less_on space0 space space' d.text h.text d.less h.less;
        asked = d.asked;
        noted = d.noted;
        bytes = d.bytes ∙ sym rest_joined;
        turns = d.turns;
        reads = d.reads;
        live = d.live;
        steady = λ before last is x text sure h. stays (d.steady before last is x text sure h);
      }

      said_as : (t : S) {out' : Option (List ℕ)} {space' : Option ℕ} (o w : Option End) → o ≡ w → Sent (Transition m s (n + 1) l (next_of t o)) out out' space space' → Sent (Transition m s (n + 1) l (next_of t w)) out out' space space'
      said_as t {out'} {space'} o w e h = subst (λ v. Sent (Transition m s (n + 1) l (next_of t v)) out out' space space') e h

      pub line_ends : (t : S) {out' : Option (List ℕ)} {space' : Option ℕ} (o : Option End) (e : End) → o ≡ Some e → Sent (Transition m s (n + 1) l (next_of t o)) out out' space space' → OutputBy m first (d.given ++ held) left out0 out' (Ok e)
      line_ends t o e is_some h = line_stops e (said_as t o (Some e) is_some h)

      pub line_next : (t : S) → (m.steady s OUT_ROOM → m.steady t OUT_ROOM) → {out' : Option (List ℕ)} {space' : Option ℕ} (o : Option End) → o ≡ None → Sent (Transition m s (n + 1) l (next_of t o)) out out' space space' → IsDriving m first left0 out0 space0 calls0 over (n + 1) t (drop (k + 1) held) left out' space' calls
      line_next t stays o is_none h = line_goes_on t stays (said_as t o None is_none h)

      -- the line went out, and then there was no memory for the next one
      pub line_last : (t : S) {out' : Option (List ℕ)} {space' : Option ℕ} (o : Option End) → Sent (Transition m s (n + 1) l (next_of t o)) out out' space space' → OutputBy m first (d.given ++ held) left out0 out' (Err Memory)
      line_last t {out'} {space'} o h = record {
        text = d.text ++ h.text;
        rest = [];
        is = subst (Prints m first (d.given ++ held) left) (sym (append-nil (d.text ++ h.text))) (line_prints h.text (next_of t o, h.is));
        written = write_on out0 out out' d.text h.text d.written h.written;
      }

      -- a line that does nothing goes by
      pub line_skipped : Transition m s (n + 1) l (GoesOn s) [] → IsDriving m first left0 out0 space0 calls0 over (n + 1) s (drop (k + 1) held) left out space calls
      line_skipped h = line_goes_on s (λ k. k) (record { text = []; is = h; written = sym (append_known-nil out); less = less_space-none space })

      pub line_few : (t : S) {out' : Option (List ℕ)} {space' : Option ℕ} (o : Option End) → o ≡ None → Sent (Transition m s (n + 1) l (next_of t o)) out out' space space' → n + 1 ≤ MAX_LINES
      line_few t o is_none h = let k = said_as t o None is_none h in takes_few m s (n + 1) l t k.text k.is

    -- ---- bytes that are a line already
    module _ {code : ℕ} (clean : HasNoLf held) (some : 0 < length held) (has : length_code (m.limit_of s) (n + 1) (length held) ≡ Some code) where
      long_sure : (x : List ℕ) → x ≡ m.refusal s (n + 1) code → IsSure m first (d.given ++ held) (Stops Refused) (d.text ++ x)
      long_sure x e = subst (λ (y : List ℕ). IsSure m first (d.given ++ held) (Stops Refused) (d.text ++ y)) (sym e) (long_taken m first d.given held n s d.text d.at code clean some has)

      long_prints : (x : List ℕ) → x ≡ m.refusal s (n + 1) code → Prints m first (d.given ++ held) left (d.text ++ x)
      long_prints x e = BySure (d.given ++ held) [] (Stops Refused) (append-nil (d.given ++ held)) (long_sure x e)

      pub long_room : HasRoomFor m first left0 space0 → HasRoom space (length (m.refusal s (n + 1) code))
      long_room room = room_on space0 space d.text (m.refusal s (n + 1) code) d.less (room (d.given ++ held) (d.text ++ m.refusal s (n + 1) code) left d.moved (long_prints _ refl))

      pub long_cut : (c : Cut) (out' : Option (List ℕ)) → SentCut c (λ x. x ≡ m.refusal s (n + 1) code) out out' → OutputBy m first (d.given ++ held) left out0 out' (Err c)
      long_cut c out' h = cut_says out0 c (λ x. x ≡ m.refusal s (n + 1) code) (d.given ++ held) d.text left out out' d.written now_prints long_prints h

      pub long_refused : {out' : Option (List ℕ)} {space' : Option ℕ} → Sent (λ x. x ≡ m.refusal s (n + 1) code) out out' space space' → OutputBy m first (d.given ++ held) left out0 out' (Ok Refused)
      long_refused {out'} {space'} h = record { text = d.text ++ h.text; written = write_on out0 out out' d.text h.text d.written h.written; whole = inr (long_sure h.text h.is) }

    -- ---- no bytes come
    pub starved : HasNoLf held → (0 < length held → length_code (m.limit_of s) (n + 1) (length held) ≡ None) → OutputBy m first (d.given ++ held) left out0 out (Err ReadFault)
    starved clean h = record { state = s; text = d.text; sure = waits m first d.given held n s d.text d.at clean h; written = d.written }

    pub no_memory : OutputBy m first (d.given ++ held) left out0 out (Err Memory)
    no_memory = record { text = d.text; rest = []; is = subst (Prints m first (d.given ++ held) left) (sym (append-nil d.text)) now_prints; written = d.written }

    -- ---- the last bytes
    module _ (clean : HasNoLf held) (end : IsAtEnd left) {l : List ℕ} (is : l ≡ held) where
      last_text : (e : End) (x : List ℕ) → Ends m s n l e x → IsText m first (d.given ++ held) e (d.text ++ x)
      last_text e x h = last_closed m first d.given held n s d.text d.at e x clean (subst (λ (y : List ℕ). Ends m s n y e x) is h)

      last_prints : (x : List ℕ) → MayEnd m s n l x → Prints m first (d.given ++ held) left (d.text ++ x)
      last_prints x (Nothing e) = subst (λ (y : List ℕ). Prints m first (d.given ++ held) left y) (sym (append-nil d.text) ∙ ap (λ (y : List ℕ). d.text ++ y) (sym e)) now_prints
      last_prints x (ByLine t r) = ByLines t end (last_run m first d.given held n s d.text d.at t x clean (subst (λ (y : List ℕ). Runs m (GoesOn s) n (last_line y) t x) is r))
      last_prints x (ByEnd e h) = ByText e end (last_text e x h)

      pub last_room : HasRoomFor m first left0 space0 → (x : List ℕ) → MayEnd m s n l x → HasRoom space (length x)
      last_room room x h = room_on space0 space d.text x d.less (room (d.given ++ held) (d.text ++ x) left d.moved (last_prints x h))

      last_cut : (c : Cut) {out' : Option (List ℕ)} → (c ≡ ReadFault → ⊥) → SentFront (MayEnd m s n l) out out' → OutputBy m first (d.given ++ held) left out0 out' (Err c)
      last_cut ReadFault {out'} other h = absurd (other refl)
      last_cut WriteFault {out'} other h = front_on out0 (MayEnd m s n l) (d.given ++ held) d.text left out out' d.written last_prints h
      last_cut Memory {out'} other h = front_on out0 (MayEnd m s n l) (d.given ++ held) d.text left out out' d.written last_prints h

      pub last_ends : (r : Result End Cut) (out' : Option (List ℕ)) (space' : Option ℕ) → IfOk r (λ e. Sent (Ends m s n l e) out out' space space') → IfErr r (λ c. c ≡ ReadFault → ⊥) → OnErr r (SentFront (MayEnd m s n l) out out') → OutputBy m first (d.given ++ held) left out0 out' r
      last_ends (Ok e) out' space' h other front =
          record { text = d.text ++ h.text; written = write_on out0 out out' d.text h.text d.written h.written; whole = inl (last_text e h.text h.is, end) }
      last_ends (Err c) out' space' h other front = last_cut c other front
