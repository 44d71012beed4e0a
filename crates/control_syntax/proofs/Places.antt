-- What a write to the last block of a list, or to the last part of a block, does to the place.
use Rattle.std.proofs.Common.{◌≡◌, ◌<◌, ◌≤◌, ℕ, ◌-◌, List, [], ◌∷◌, ◌++◌, length, reverse, slice_set, slice_index_or, refl, sym, ap, subst, ◌∙◌, arith, append_assoc, length-append}
use Rattle.std.proofs.Math.Seq.{set-append_seam}
use Rattle.std.proofs.lemmas.List.{reverse-append, same_from_push}
use Rattle.control_syntax.specs.declared.block.Block.{Block}
use Rattle.control_syntax.specs.declared.block.Kind.{Kind}
use Rattle.control_syntax.specs.declared.part.Part.{Part}
use Rattle.control_syntax.specs.Reading.{Place, IsPutAround, block_part, closed_in, placed, put, put_in, turned_block, turned_in}

-- a list that is not empty ends with an item
record Ended {A : Type 0} (xs : List A) : Type 0 where
  front : List A
  last : A
  are : xs ≡ front ++ last ∷ []

ended : {A : Type 0} (xs : List A) → 0 < length xs → Ended xs
ended [] h = absurd (omega (arith, h))
ended (x ∷ []) h = record { front = []; last = x; are = refl }
ended (x ∷ y ∷ ys) h = let r = ended (y ∷ ys) (omega arith) in record { front = x ∷ r.front; last = r.last; are = ap (λ (zs : List _). x ∷ zs) r.are }

last_place : {A : Type 0} (front : List A) (b : A) → length (front ++ b ∷ []) - 1 ≡ length front
last_place front b = omega (arith, length-append front (b ∷ []))

set_at_last : {A : Type 0} (front : List A) (b c : A) → slice_set (front ++ b ∷ []) (length (front ++ b ∷ []) - 1) c ≡ front ++ c ∷ []
set_at_last front b c = rw (last_place front b) (set-append_seam front b [] c)

at_seam : {A : Type 0} (front : List A) (b : A) (behind : List A) (d : A) → slice_index_or (front ++ b ∷ behind) (length front) d ≡ b
at_seam [] b behind d = refl
at_seam (x ∷ front) b behind d = at_seam front b behind d

at_last : {A : Type 0} (front : List A) (b d : A) → slice_index_or (front ++ b ∷ []) (length (front ++ b ∷ []) - 1) d ≡ b
at_last front b d = rw (last_place front b) (at_seam front b [] d)

reverse_last : {A : Type 0} (front : List A) (b : A) → reverse (front ++ b ∷ []) ≡ b ∷ reverse front
reverse_last front b = reverse-append front (b ∷ [])

-- the place, by the blocks with the innermost first
abbrev place_of : List Part → List Block → Place
place_of parts blocks = record { parts = parts; open_blocks = blocks }

-- the last block, with other parts
abbrev with_parts : Block → List Part → Block
with_parts b parts = record { kind = b.kind; parts = parts }

-- places with the same parts
same_place : (own ps xs ys : List Part) (k l : Kind) (bs cs : List Block) → own ≡ ps → xs ≡ ys → k ≡ l → bs ≡ cs → place_of own (record { kind = k; parts = xs } ∷ bs) ≡ place_of ps (record { kind = l; parts = ys } ∷ cs)
same_place own ps xs ys k l bs cs e f g h = cc

module _ (parts : List Part) (front : List Block) (b : Block) where
  placed_last : placed parts (front ++ b ∷ []) ≡ place_of parts (b ∷ reverse front)
  placed_last = ap (place_of parts) (reverse_last front b)

  -- the last block is written
  written : (d : Block) (new : List Part) → placed parts (slice_set (front ++ b ∷ []) (length (front ++ b ∷ []) - 1) (with_parts (slice_index_or (front ++ b ∷ []) (length (front ++ b ∷ []) - 1) d) new))
      ≡ place_of parts (with_parts b new ∷ reverse front)
  written d new =
      let c = slice_index_or (front ++ b ∷ []) (length (front ++ b ∷ []) - 1) d in
      ap (placed parts) (set_at_last front b (with_parts c new)) ∙ ap (place_of parts) (reverse_last front (with_parts c new))
      ∙ ap (λ (x : Block). place_of parts (with_parts x new ∷ reverse front)) (at_last front b d)

  put_front : (part : Part) (d : Block) (new : List Part) → new ≡ (slice_index_or (front ++ b ∷ []) (length (front ++ b ∷ []) - 1) d).parts ++ part ∷ []
      → placed parts (slice_set (front ++ b ∷ []) (length (front ++ b ∷ []) - 1) (with_parts (slice_index_or (front ++ b ∷ []) (length (front ++ b ∷ []) - 1) d) new))
      ≡ put part (placed parts (front ++ b ∷ []))
  put_front part d new e =
      written d new
      ∙ ap (λ (ps : List Part). place_of parts (with_parts b ps ∷ reverse front)) (e ∙ ap (λ (x : Block). x.parts ++ part ∷ []) (at_last front b d))
      ∙ sym (ap (put_in part parts) (reverse_last front b))

  again_front : (part x : Part) (d : Block) (new : List Part) (place : Place) → placed parts (front ++ b ∷ []) ≡ put x place
      → ((y : Part) (xs : List Part) → (slice_index_or (front ++ b ∷ []) (length (front ++ b ∷ []) - 1) d).parts ≡ xs ++ y ∷ [] → new ≡ xs ++ part ∷ [])
      → placed parts (slice_set (front ++ b ∷ []) (length (front ++ b ∷ []) - 1) (with_parts (slice_index_or (front ++ b ∷ []) (length (front ++ b ∷ []) - 1) d) new)) ≡ put part place
  again_front part x d new place e h = written d new ∙ go place.parts place.open_blocks (sym placed_last ∙ e)
    where
      go : (ps : List Part) (bs : List Block) → place_of parts (b ∷ reverse front) ≡ put_in x ps bs → place_of parts (with_parts b new ∷ reverse front) ≡ put_in part ps bs
      go ps [] e = let none : b ∷ reverse front ≡ [] = ap (λ (p : Place). p.open_blocks) e in absurd cc
      go ps (c ∷ cs) e =
          let own : parts ≡ ps = ap (λ (p : Place). p.parts) e in
          let all : b ∷ reverse front ≡ with_parts c (c.parts ++ x ∷ []) ∷ cs = ap (λ (p : Place). p.open_blocks) e in
          let first : b ≡ with_parts c (c.parts ++ x ∷ []) = cc in
          let rest : reverse front ≡ cs = cc in
          let now = h x c.parts (ap (λ (y : Block). y.parts) (at_last front b d ∙ first)) in
          let kinds : b.kind ≡ c.kind = ap (λ (y : Block). y.kind) first in
          same_place parts ps new (c.parts ++ part ∷ []) b.kind c.kind (reverse front) cs own now kinds rest

-- ---- for all blocks

pub put_last : (parts : List Part) (bs : List Block) (part : Part) (d : Block) (new : List Part) → 0 < length bs → new ≡ (slice_index_or bs (length bs - 1) d).parts ++ part ∷ []
    → placed parts (slice_set bs (length bs - 1) (with_parts (slice_index_or bs (length bs - 1) d) new)) ≡ put part (placed parts bs)
put_last parts bs part d new some e =
    let s = ended bs some in
    let P : List Block → Type 0 =
    λ xs. new ≡ (slice_index_or xs (length xs - 1) d).parts ++ part ∷ [] → placed parts (slice_set xs (length xs - 1) (with_parts (slice_index_or xs (length xs - 1) d) new)) ≡ put part (placed parts xs)
    in
    subst P (sym s.are) (put_front parts s.front s.last part d new) e

again_last : (parts : List Part) (bs : List Block) (part x : Part) (d : Block) (new : List Part) (place : Place) → 0 < length bs → placed parts bs ≡ put x place
    → ((y : Part) (xs : List Part) → (slice_index_or bs (length bs - 1) d).parts ≡ xs ++ y ∷ [] → new ≡ xs ++ part ∷ [])
    → placed parts (slice_set bs (length bs - 1) (with_parts (slice_index_or bs (length bs - 1) d) new)) ≡ put part place
again_last parts bs part x d new place some e h =
    let s = ended bs some in
    let P : List Block → Type 0 =
    λ zs. placed parts zs ≡ put x place → ((y : Part) (xs : List Part) → (slice_index_or zs (length zs - 1) d).parts ≡ xs ++ y ∷ [] → new ≡ xs ++ part ∷ [])
    → placed parts (slice_set zs (length zs - 1) (with_parts (slice_index_or zs (length zs - 1) d) new)) ≡ put part place
    in
    subst P (sym s.are) (again_front parts s.front s.last part x d new place) e h

pub set_last_is : (parts xs : List Part) (x part : Part) → parts ≡ xs ++ x ∷ [] → slice_set parts (length parts - 1) part ≡ xs ++ part ∷ []
set_last_is parts xs x part e = rw e (set_at_last xs x part)

-- the innermost block is turned
pub turn_last : (bs : List Block) (d c : Block) → 0 < length bs → c ≡ turned_block (slice_index_or bs (length bs - 1) d).kind (slice_index_or bs (length bs - 1) d).parts
    → reverse (slice_set bs (length bs - 1) c) ≡ turned_in (reverse bs)
turn_last bs d c some e =
    let s = ended bs some in
    let P : List Block → Type 0 = λ xs. c ≡ turned_block (slice_index_or xs (length xs - 1) d).kind (slice_index_or xs (length xs - 1) d).parts → reverse (slice_set xs (length xs - 1) c) ≡ turned_in (reverse xs) in
    subst P (sym s.are) (go s.front s.last) e
  where
    go : (front : List Block) (b : Block) → c ≡ turned_block (slice_index_or (front ++ b ∷ []) (length (front ++ b ∷ []) - 1) d).kind (slice_index_or (front ++ b ∷ []) (length (front ++ b ∷ []) - 1) d).parts
        → reverse (slice_set (front ++ b ∷ []) (length (front ++ b ∷ []) - 1) c) ≡ turned_in (reverse (front ++ b ∷ []))
    go front b h =
        ap reverse (set_at_last front b c) ∙ reverse_last front c ∙ ap (λ (x : Block). x ∷ reverse front) (h ∙ ap (λ (x : Block). turned_block x.kind x.parts) (at_last front b d))
        ∙ sym (ap turned_in (reverse_last front b))

-- the same of the block that was read there
pub again_read : (parts : List Part) (bs : List Block) (part x : Part) (c : Block) (new : List Part) (place : Place) → 0 < length bs → c ≡ slice_index_or bs (length bs - 1) c → placed parts bs ≡ put x place
    → ((y : Part) (xs : List Part) → c.parts ≡ xs ++ y ∷ [] → new ≡ xs ++ part ∷ []) → placed parts (slice_set bs (length bs - 1) (with_parts c new)) ≡ put part place
again_read parts bs part x c new place some is e h =
    let P : Block → Type 0 = λ y. placed parts (slice_set bs (length bs - 1) (with_parts y new)) ≡ put part place in
    let here : (y : Part) (xs : List Part) → (slice_index_or bs (length bs - 1) c).parts ≡ xs ++ y ∷ [] → new ≡ xs ++ part ∷ [] = λ y xs k. h y xs (ap (λ (z : Block). z.parts) is ∙ k) in
    subst P (sym is) (again_last parts bs part x c new place some e here)

-- ---- around the last block

module _ (parts : List Part) (f : List Block) (a b : Block) (part : Part) where
  -- the block around the last is written
  around_front : (c : Block) (new : List Part) → c ≡ slice_index_or (f ++ a ∷ b ∷ []) (length f) c → new ≡ c.parts ++ part ∷ []
      → IsPutAround part (placed parts (f ++ a ∷ [])) b parts (slice_set (f ++ a ∷ b ∷ []) (length f) (with_parts c new))
  around_front c new is e =
      let same : c ≡ a = is ∙ at_seam f a (b ∷ []) c in
      let now : with_parts c new ≡ with_parts a (a.parts ++ part ∷ []) = ap (with_parts c) e ∙ ap (λ (y : Block). with_parts y (y.parts ++ part ∷ [])) same in
      let all = set-append_seam f a (b ∷ []) (with_parts c new) ∙ ap (λ (y : Block). f ++ y ∷ b ∷ []) now ∙ sym (append_assoc f (with_parts a (a.parts ++ part ∷ []) ∷ []) (b ∷ [])) in
      let place = ap (place_of parts) (reverse_last f (with_parts a (a.parts ++ part ∷ []))) ∙ sym (ap (put_in part parts) (reverse_last f a)) in
      (f ++ with_parts a (a.parts ++ part ∷ []) ∷ [], all, place)

second_last : (f : List Block) (a b : Block) → length (f ++ a ∷ b ∷ []) - 2 ≡ length f
second_last f a b = omega (arith, length-append f (a ∷ b ∷ []))

pub around_some : (parts : List Part) (items front : List Block) (b c : Block) (part : Part) (new : List Part) → 2 ≤ length items → c ≡ slice_index_or items (length items - 2) c → new ≡ c.parts ++ part ∷ [] → items ≡ front ++ b ∷ []
    → IsPutAround part (placed parts front) b parts (slice_set items (length items - 2) (with_parts c new))
around_some parts items front b c part new many is e are =
    let some : 0 < length front = omega (arith, many, ap length are, length-append front (b ∷ [])) in
    let s = ended front some in
    let long : items ≡ s.front ++ s.last ∷ b ∷ [] = are ∙ ap (λ (xs : List Block). xs ++ b ∷ []) s.are ∙ append_assoc s.front (s.last ∷ []) (b ∷ []) in
    let P : List Block → Type 0 =
    λ xs. c ≡ slice_index_or xs (length xs - 2) c → IsPutAround part (placed parts (s.front ++ s.last ∷ [])) b parts (slice_set xs (length xs - 2) (with_parts c new))
    in
    let Q : ℕ → Type 0 =
    λ k. c ≡ slice_index_or (s.front ++ s.last ∷ b ∷ []) k c → IsPutAround part (placed parts (s.front ++ s.last ∷ [])) b parts (slice_set (s.front ++ s.last ∷ b ∷ []) k (with_parts c new))
    in
    let here : Q (length s.front) = λ k. around_front parts s.front s.last b part c new k e in
    let there = subst P (sym long) (subst Q (sym (second_last s.front s.last b)) here) is in
    subst (λ (xs : List Block). IsPutAround part (placed parts xs) b parts (slice_set items (length items - 2) (with_parts c new))) (sym s.are) there

-- ---- the innermost block has ended

module _ (parts around_parts : List Part) (items around_items : List Block) (empty : Part) (some : 0 < length items)
    (put_around : (front : List Block) (b : Block) → items ≡ front ++ b ∷ [] → IsPutAround empty (placed parts front) b around_parts around_items) where
  pub some_left : length around_items ≡ 0 → ⊥
  some_left none =
      let s = ended items some in
      let a = put_around s.front s.last s.are in
      omega (arith, none, ap length a.1, length-append a.0 (s.last ∷ []))

  pub closed_is : (end_parts : List Part) (popped end_items : List Block) (block : Block) (part : Part) → around_items ≡ popped ++ block ∷ [] → part ≡ block_part block.kind block.parts
      → ((x : Part) (place : Place) → placed around_parts popped ≡ put x place → placed end_parts end_items ≡ put part place) → placed end_parts end_items ≡ closed_in parts (reverse items)
  closed_is end_parts popped end_items block part pops is again =
      let s = ended items some in
      let a = put_around s.front s.last s.are in
      let same = same_from_push a.0 popped s.last block (sym a.1 ∙ pops) in
      let put_there : placed around_parts popped ≡ put empty (placed parts s.front) = subst (λ (xs : List Block). placed around_parts xs ≡ put empty (placed parts s.front)) same.0 a.2 in
      let own : part ≡ block_part s.last.kind s.last.parts = is ∙ ap (λ (b : Block). block_part b.kind b.parts) (sym same.1) in
      again empty (placed parts s.front) put_there ∙ ap (λ (p : Part). put p (placed parts s.front)) own
      ∙ sym (ap (λ (bs : List Block). closed_in parts bs) (ap reverse s.are ∙ reverse_last s.front s.last))
