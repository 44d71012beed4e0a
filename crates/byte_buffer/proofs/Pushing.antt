-- What several pushes do, one after the other, and what one that fails does.
use Rattle.std.proofs.Common.{◌≡◌, ℕ, List, [], ◌++◌, length, sym, ap, ◌∙◌, refl, subst, append_assoc, append-nil, arith}
use Rattle.std.specs.Prelude.{Result, Ok, Err, IsErr, OnOk}
use Rattle.std.specs.declared.alloc.AllocError.{AllocError}
use Rattle.std.proofs.lemmas.List.{length-append}
use Rattle.byte_buffer.specs.Outs.{Buffered, HasRoomLeft, Pushes}

-- where two texts fit, so does the first, and then the second
first_fits : (a b : List ℕ) (old : Buffered) → HasRoomLeft old (length (a ++ b)) → HasRoomLeft old (length a)
first_fits a b old h = omega (arith, length-append a b)

second_fits : (a b : List ℕ) (old mid : Buffered) → mid.bytes ≡ old.bytes ++ a → mid.capacity ≡ old.capacity → HasRoomLeft old (length (a ++ b)) → HasRoomLeft mid (length b)
second_fits a b old mid e room h = omega (arith, length-append a b, length-append old.bytes a, ap length e)

both_appended : {B E : Type 0} (a b : List ℕ) (r : Result B E) (old mid new : Buffered) → mid.bytes ≡ old.bytes ++ a → OnOk r (new.bytes ≡ mid.bytes ++ b) → OnOk r (new.bytes ≡ old.bytes ++ (a ++ b))
both_appended a b (Ok y) old mid new e h = h ∙ ap (λ (l : List ℕ). l ++ b) e ∙ append_assoc old.bytes a b
both_appended a b (Err y) old mid new e h = h

-- one text and then another are pushed as both together
pub pushed_then : {A B E : Type 0} {a b : List ℕ} {x : A} {r : Result B E} {old mid new : Buffered} → Pushes {E = E} a old (Ok x) mid → Pushes b mid r new → Pushes (a ++ b) old r new
pushed_then {A} {B} {E} {a} {b} {x} {r} {old} {mid} {new} h k = record {
  ok = both_appended a b r old mid new h.ok k.ok;
  front = (h.front.0 ++ k.front.0, k.front.1 ∙ ap (λ (l : List ℕ). l ++ k.front.0) h.front.1 ∙ append_assoc old.bytes h.front.0 k.front.0);
  succeeds = λ room. k.succeeds (second_fits a b old mid h.ok (h.stays (first_fits a b old room)) room);
  stays = λ room. let kept = h.stays (first_fits a b old room) in k.stays (second_fits a b old mid h.ok kept room) ∙ kept;
  capacity = omega arith;
}

-- nothing is pushed
pub pushed_nothing : {A E : Type 0} (x : A) (old : Buffered) → Pushes {E = E} [] old (Ok x) old
pushed_nothing x old = record { ok = sym (append-nil old.bytes); front = ([], sym (append-nil old.bytes)); succeeds = λ h. refl; stays = λ h. refl; capacity = omega arith }

no_room : {A E : Type 0} (a : List ℕ) (e : E) (old new : Buffered) → Pushes {A = A} a old (Err e) new → HasRoomLeft old (length a) → ⊥
no_room a e old new h room = let bad = h.succeeds room in absurd cc

nothing_owed : {B F : Type 0} (P : Type 0) (r : Result B F) → IsErr r → OnOk r P
nothing_owed P (Ok x) h = absurd cc
nothing_owed P (Err f) h = tt

-- a text whose front can't be pushed can't be pushed
pub stopped : {A B E F : Type 0} {a : List ℕ} (b : List ℕ) {e : E} {r : Result B F} {old new : Buffered} → Pushes {A = A} a old (Err e) new → IsErr r → Pushes (a ++ b) old r new
stopped {A} {B} {E} {F} {a} b {e} {r} {old} {new} h is_err = record {
  ok = nothing_owed (new.bytes ≡ old.bytes ++ (a ++ b)) r is_err;
  front = h.front;
  succeeds = λ room. absurd (no_room a e old new h (first_fits a b old room));
  stays = λ room. absurd (no_room a e old new h (first_fits a b old room));
  capacity = h.capacity;
}

-- a text by another spelling
pub pushed_as : {A E : Type 0} {a b : List ℕ} {r : Result A E} {old new : Buffered} → a ≡ b → Pushes a old r new → Pushes b old r new
pushed_as {A} {E} {a} {b} {r} {old} {new} e h = subst (λ (t : List ℕ). Pushes t old r new) e h

-- of the whole text a front was pushed, and the rest is left to push
pub record Continues (whole rest : List ℕ) (old mid : Buffered) : Type 0 where
  pub done : List ℕ
  pub pushed : Pushes {A = Unit {0}} {E = AllocError} done old (Ok tt) mid
  pub parts : done ++ rest ≡ whole

-- at first all is left
pub continues_from : (whole : List ℕ) (old : Buffered) → Continues whole whole old old
continues_from whole old = record { done = []; pushed = pushed_nothing tt old; parts = refl }

-- some more of it is pushed
pub continues_then : {whole rest a b : List ℕ} {old mid new : Buffered} → rest ≡ a ++ b → Continues whole rest old mid → Pushes {A = Unit {0}} {E = AllocError} a mid (Ok tt) new → Continues whole b old new
continues_then {whole} {rest} {a} {b} e h k = record {
  done = h.done ++ a;
  pushed = pushed_then h.pushed k;
  parts = append_assoc h.done a b ∙ ap (λ (l : List ℕ). h.done ++ l) (sym e) ∙ h.parts;
}

-- where some more of it can't be pushed, the whole can't
pub continues_stopped : {B F : Type 0} {whole rest a : List ℕ} (b : List ℕ) {e : AllocError} {r : Result B F} {old mid new : Buffered} → rest ≡ a ++ b → Continues whole rest old mid → Pushes {A = Unit {0}} a mid (Err e) new → IsErr r → Pushes whole old r new
continues_stopped {B} {F} {whole} {rest} {a} b is h k is_err =
    pushed_as (append_assoc h.done a b ∙ ap (λ (l : List ℕ). h.done ++ l) (sym is) ∙ h.parts) (stopped b (pushed_then h.pushed k) is_err)

-- where nothing is left, the whole was pushed
pub continues_end : {whole rest : List ℕ} {old new : Buffered} → rest ≡ [] → Continues whole rest old new → Pushes {A = Unit {0}} {E = AllocError} whole old (Ok tt) new
continues_end {whole} {rest} e h = pushed_as (sym (append-nil h.done) ∙ ap (λ (l : List ℕ). h.done ++ l) (sym e) ∙ h.parts) h.pushed
