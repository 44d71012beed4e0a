-- Lines that run to the end of a program are that program, as it is written.
use Rattle.std.proofs.Common.{◌≡◌, ◌<◌, ◌≤◌, ◌+◌, ◌⊎◌, ◌&&◌, nat_le, max, ℕ, true, false, List, [], ◌∷◌, ◌++◌, length, Some, None, inl, inr, refl, sym, ap, subst, ◌∙◌, append_assoc, append-nil, arith}
use Rattle.std.proofs.lemmas.Bool.{leb-false, or_parts, not-false}
use Rattle.std.proofs.lemmas.Option.{same_Some}
use Rattle.list_laws.proofs.Tests.{and_false}
use Rattle.cca_base.specs.declared.formula.Formula.{Formula}
use Rattle.control_syntax.specs.declared.block.Block.{Block}
use Rattle.control_syntax.specs.declared.block.Kind.{Kind}
use Rattle.control_syntax.specs.declared.block.Kind.TheVariants as kind
use Rattle.control_syntax.specs.declared.limits.TheConstants.{MAX_LINES, MAX_BLOCKS}
use Rattle.control_syntax.specs.declared.line.Line.{Line}
use Rattle.control_syntax.specs.declared.line.Line.TheVariants as line
use Rattle.control_syntax.specs.declared.part.Part.{Part, roll-Part}
use Rattle.control_syntax.specs.declared.part.Part.TheOpen.{Part-F}
use Rattle.control_syntax.specs.Reading.{Place, Reading, block_part, nothing_read, put_in, seq, turned_block}
use Rattle.control_syntax.specs.Tests.{begins_block, is_choose, is_inside, passes_limit}
use Rattle.control_syntax.specs.Written.{IsProgram, Text, Texts, Reach, Await, Seq, Both, Choose, Either, Repeat, none, more, deepest, depth, part_of, parts_of, text_before, texts_before}
use Rattle.control_syntax.proofs.Runs.{Runs}

-- ---- the limits that are kept

module _ (count blocks : ℕ) (l : Line) (within : passes_limit count blocks l ≡ false) where
  kept : ((is_inside l && nat_le MAX_LINES count) ≡ false) × ((begins_block l && nat_le MAX_BLOCKS blocks) ≡ false)
  kept = or_parts (is_inside l && nat_le MAX_LINES count) (begins_block l && nat_le MAX_BLOCKS blocks) within

  line_left : is_inside l ≡ true → count < MAX_LINES
  line_left h = leb-false MAX_LINES count (and_false (is_inside l) (nat_le MAX_LINES count) kept.0 h)

  block_left : begins_block l ≡ true → blocks < MAX_BLOCKS
  block_left h = leb-false MAX_BLOCKS blocks (and_false (begins_block l) (nat_le MAX_BLOCKS blocks) kept.1 h)

-- between `program` and `end`
abbrev pub state : ℕ → Place → Reading
state c place = record { started = true; count = c; place = place; whole = None }

-- ---- what the lines that are left are

-- the part is that of a block that was begun, and this stands behind it
record Plain (Next : Part → List Line → Type 0) (n : ℕ) (k : Kind) (own : List Part) (ls : List Line) : Type 0 where
  texts : Texts
  rest : List Line
  flat : n + deepest texts ≤ MAX_BLOCKS
  lines : ls ≡ texts_before texts (line.Done ∷ rest)
  next : Next (block_part k (own ++ parts_of texts)) rest

-- the same of a `choose` whose `otherwise` is still to come
record Halves (Next : Part → List Line → Type 0) (n : ℕ) (k : Kind) (own : List Part) (ls : List Line) : Type 0 where
  formula : Formula
  first : Texts
  second : Texts
  rest : List Line
  is : k ≡ kind.Choose formula
  flat : n + max (deepest first) (deepest second) ≤ MAX_BLOCKS
  lines : ls ≡ texts_before first (line.Otherwise ∷ texts_before second (line.Done ∷ rest))
  next : Next (block_part (kind.Otherwise formula (own ++ parts_of first)) (parts_of second)) rest

abbrev Step : (Part → List Line → Type 0) → ℕ → Kind → List Part → List Line → Type 0
Step Next n k own ls = Plain Next n k own ls ⊎ Halves Next n k own ls

-- a part comes first
before_step : (Next : Part → List Line → Type 0) (n : ℕ) (k : Kind) (own : List Part) (x : Text) (ls : List Line) → n + depth x ≤ MAX_BLOCKS → Step Next n k (own ++ part_of x ∷ []) ls → Step Next n k own (text_before x ls)
before_step Next n k own x ls d (inl s) = inl (
    record {
      texts = more x s.texts;
      rest = s.rest;
      flat = omega (arith, d, s.flat);
      lines = ap (text_before x) s.lines;
      next = subst (λ (ps : List Part). Next (block_part k ps) s.rest) (append_assoc own (part_of x ∷ []) (parts_of s.texts)) s.next;
    }
    )
before_step Next n k own x ls d (inr s) = inr (
    record {
      formula = s.formula;
      first = more x s.first;
      second = s.second;
      rest = s.rest;
      is = s.is;
      flat = omega (arith, d, s.flat);
      lines = ap (text_before x) s.lines;
      next = subst (λ (ps : List Part). Next (block_part (kind.Otherwise s.formula ps) (parts_of s.second)) s.rest) (append_assoc own (part_of x ∷ []) (parts_of s.first)) s.next;
    }
    )

-- a block that was begun, as one part
record Opened (Next : Part → List Line → Type 0) (n : ℕ) (l : Line) (ls : List Line) : Type 0 where
  text : Text
  rest : List Line
  flat : n + depth text ≤ MAX_BLOCKS
  lines : l ∷ ls ≡ text_before text rest
  next : Next (part_of text) rest

module _ (Next : Part → List Line → Type 0) (n : ℕ) (ls : List Line) where
  open_plain : (T : Texts → Text) (k : Kind) (l : Line) → ((xs : Texts) (rest : List Line) → l ∷ texts_before xs (line.Done ∷ rest) ≡ text_before (T xs) rest) → ((xs : Texts) → block_part k (parts_of xs) ≡ part_of (T xs))
      → ((xs : Texts) → depth (T xs) ≡ deepest xs + 1) → Plain Next (n + 1) k [] ls → Opened Next n l ls
  open_plain T k l written whole deep s = record {
    text = T s.texts;
    rest = s.rest;
    flat = omega (arith, s.flat, deep s.texts);
    lines = ap (λ (y : List Line). l ∷ y) s.lines ∙ written s.texts s.rest;
    next = subst (λ (p : Part). Next p s.rest) (whole s.texts) s.next;
  }

  open_seq : Step Next (n + 1) kind.Seq [] ls → Opened Next n line.Seq ls
  open_seq (inl s) = open_plain (λ xs. Seq xs) kind.Seq line.Seq (λ xs rest. refl) (λ xs. refl) (λ xs. refl) s
  open_seq (inr s) = let never : kind.Seq ≡ kind.Choose s.formula = s.is in absurd cc

  open_both : Step Next (n + 1) kind.Both [] ls → Opened Next n line.Both ls
  open_both (inl s) = open_plain (λ xs. Both xs) kind.Both line.Both (λ xs rest. refl) (λ xs. refl) (λ xs. refl) s
  open_both (inr s) = let never : kind.Both ≡ kind.Choose s.formula = s.is in absurd cc

  open_repeat : (k : ℕ) → Step Next (n + 1) (kind.Repeat k) [] ls → Opened Next n (line.Repeat k) ls
  open_repeat k (inl s) = open_plain (λ xs. Repeat k xs) (kind.Repeat k) (line.Repeat k) (λ xs rest. refl) (λ xs. refl) (λ xs. refl) s
  open_repeat k (inr s) = let never : kind.Repeat k ≡ kind.Choose s.formula = s.is in absurd cc

  open_choose : (f : Formula) → Step Next (n + 1) (kind.Choose f) [] ls → Opened Next n (line.Choose f) ls
  open_choose f (inl s) = open_plain (λ xs. Choose f xs) (kind.Choose f) (line.Choose f) (λ xs rest. refl) (λ xs. refl) (λ xs. refl) s
  open_choose f (inr s) =
      let same : f ≡ s.formula = let e : kind.Choose f ≡ kind.Choose s.formula = s.is in cc in
      record {
        text = Either f s.first s.second;
        rest = s.rest;
        flat = omega (arith, s.flat);
        lines = ap (λ (y : List Line). line.Choose f ∷ y) s.lines;
        next = subst (λ (g : Formula). Next (block_part (kind.Otherwise g (parts_of s.first)) (parts_of s.second)) s.rest) (sym same) s.next;
      }

-- a part that is put in leaves as many blocks open
pub as_deep : (p : Part) (own : List Part) (bs : List Block) → length (put_in p own bs).open_blocks ≡ length bs
as_deep p own [] = refl
as_deep p own (b ∷ bs) = refl

module _ (part : Part) where
  -- the rest of the program, outside all blocks
  record Top (own : List Part) (ls : List Line) : Type 0 where
    texts : Texts
    flat : deepest texts ≤ MAX_BLOCKS
    lines : ls ≡ texts_before texts (line.End ∷ [])
    is : part ≡ seq (own ++ parts_of texts)

  -- the rest of the innermost block, and then of those around it
  abbrev In : List Part → List Block → Kind → List Part → List Line → Type 0
  In own [] k parts ls = Step (λ p rest. Top (own ++ p ∷ []) rest) 1 k parts ls
  In own (b ∷ bs) k parts ls = Step (λ p rest. In own bs b.kind (b.parts ++ p ∷ []) rest) (length (b ∷ bs) + 1) k parts ls

  abbrev at_blocks : List Part → List Block → List Line → Type 0
  at_blocks own [] ls = Top own ls
  at_blocks own (b ∷ bs) ls = In own bs b.kind b.parts ls

  -- what is left at a place
  abbrev At : Place → List Line → Type 0
  At place ls = at_blocks place.parts place.open_blocks ls

  in_step : (own : List Part) (bs : List Block) (k : Kind) (parts : List Part) (ls : List Line) → In own bs k parts ls → Step (λ p rest. At (put_in p own bs) rest) (length bs + 1) k parts ls
  in_step own [] k parts ls h = h
  in_step own (b ∷ bs) k parts ls h = h

  step_in : (own : List Part) (bs : List Block) (k : Kind) (parts : List Part) (ls : List Line) → Step (λ p rest. At (put_in p own bs) rest) (length bs + 1) k parts ls → In own bs k parts ls
  step_in own [] k parts ls h = h
  step_in own (b ∷ bs) k parts ls h = h

  before_at : (own : List Part) (bs : List Block) (x : Text) (ls : List Line) → length bs + depth x ≤ MAX_BLOCKS → At (put_in (part_of x) own bs) ls → at_blocks own bs (text_before x ls)
  before_at own [] x ls d h = record {
    texts = more x h.texts;
    flat = omega (arith, d, h.flat);
    lines = ap (text_before x) h.lines;
    is = h.is ∙ ap seq (append_assoc own (part_of x ∷ []) (parts_of h.texts));
  }
  before_at own (b ∷ bs) x ls d h =
      step_in own bs b.kind b.parts (text_before x ls)
      (before_step (λ p rest. At (put_in p own bs) rest) (length bs + 1) b.kind b.parts x ls (omega (arith, d)) (in_step own bs b.kind (b.parts ++ part_of x ∷ []) ls h))

  -- a block that was begun at a place comes first
  before_opened : (own : List Part) (bs : List Block) (l : Line) (ls : List Line) → Opened (λ p rest. At (put_in p own bs) rest) (length bs) l ls → at_blocks own bs (l ∷ ls)
  before_opened own bs l ls o = subst (at_blocks own bs) (sym o.lines) (before_at own bs o.text o.rest o.flat o.next)

  done_at : (own : List Part) (b : Block) (bs : List Block) (ls : List Line) → length bs + 1 ≤ MAX_BLOCKS → At (put_in (block_part b.kind b.parts) own bs) ls → In own bs b.kind b.parts (line.Done ∷ ls)
  done_at own b bs ls d h =
      step_in own bs b.kind b.parts (line.Done ∷ ls)
      (inl (record { texts = none; rest = ls; flat = omega (arith, d); lines = refl; next = subst (λ (ps : List Part). At (put_in (block_part b.kind ps) own bs) ls) (sym (append-nil b.parts)) h }))

  otherwise_step : (own : List Part) (bs : List Block) (f : Formula) (parts : List Part) (ls : List Line)
      → Step (λ p rest. At (put_in p own bs) rest) (length bs + 1) (kind.Otherwise f parts) [] ls → Step (λ p rest. At (put_in p own bs) rest) (length bs + 1) (kind.Choose f) parts (line.Otherwise ∷ ls)
  otherwise_step own bs f parts ls (inl s) = inr (
      record {
        formula = f;
        first = none;
        second = s.texts;
        rest = s.rest;
        is = refl;
        flat = omega (arith, s.flat);
        lines = ap (λ (y : List Line). line.Otherwise ∷ y) s.lines;
        next = subst (λ (ps : List Part). At (put_in (block_part (kind.Otherwise f ps) (parts_of s.texts)) own bs) s.rest) (sym (append-nil parts)) s.next;
      }
      )
  otherwise_step own bs f parts ls (inr s) = let never : kind.Otherwise f parts ≡ kind.Choose s.formula = s.is in absurd cc

  otherwise_at : (own : List Part) (bs : List Block) (k : Kind) (parts : List Part) (ls : List Line) → is_choose k ≡ true → In own bs (turned_block k parts).kind (turned_block k parts).parts ls → In own bs k parts (line.Otherwise ∷ ls)
  otherwise_at own bs (kind.Choose f) parts ls e h =
      step_in own bs (kind.Choose f) parts (line.Otherwise ∷ ls) (otherwise_step own bs f parts ls (in_step own bs (kind.Otherwise f parts) [] ls h))
  otherwise_at own bs kind.Seq parts ls e h = absurd cc
  otherwise_at own bs kind.Both parts ls e h = absurd cc
  otherwise_at own bs (kind.Otherwise f first) parts ls e h = absurd cc
  otherwise_at own bs (kind.Repeat n) parts ls e h = absurd cc

  -- ---- line by line

  -- what is found at a place with so many lines read
  abbrev Found : ℕ → List Part → List Block → List Line → Type 0
  Found c own bs ls = at_blocks own bs ls × (c + length ls ≤ MAX_LINES + 1)

  whole_end : (c : ℕ) (own : List Part) (ls : List Line) (next : Reading)
      → Runs (record { started = true; count = c; place = record { parts = []; open_blocks = [] }; whole = Some (seq own) }) ls next → next.whole ≡ Some part → (ls ≡ []) × (seq own ≡ part)
  whole_end c own [] next run some = (refl, same_Some (seq own) part (sym (ap (λ (r : Reading). r.whole) run) ∙ some))
  whole_end c own (l ∷ ls) next run some = let never : Some (seq own) ≡ None = run.0 in absurd cc

  -- a part of one line comes first
  put_found : (c : ℕ) (own : List Part) (bs : List Block) (x : Text) (l : Line) (ls : List Line) → length bs + depth x ≤ MAX_BLOCKS → text_before x ls ≡ l ∷ ls
      → Found (c + 1) (put_in (part_of x) own bs).parts (put_in (part_of x) own bs).open_blocks ls → Found c own bs (l ∷ ls)
  put_found c own bs x l ls deep is h = (subst (at_blocks own bs) is (before_at own bs x ls deep h.0), omega (arith, h.1))

  found : (ls : List Line) (c : ℕ) (own : List Part) (bs : List Block) (next : Reading) → c ≤ MAX_LINES → length bs ≤ MAX_BLOCKS → Runs (state c (record { parts = own; open_blocks = bs })) ls next → next.whole ≡ Some part
      → Found c own bs ls
  found [] c own bs next few flat run some = let never : None ≡ Some part = sym (ap (λ (r : Reading). r.whole) run) ∙ some in absurd cc
  found (line.Program ∷ ls) c own bs next few flat (going, may, run) some = let never : true ≡ false = may.place in absurd cc
  found (line.Reach g ∷ ls) c own bs next few flat (going, may, run) some =
      let p = roll-Part (Part-F.Reach g) in
      let left = line_left c (length bs) (line.Reach g) may.limit refl in
      put_found c own bs (Reach g) (line.Reach g) ls (omega (arith, flat)) refl
      (found ls (c + 1) (put_in p own bs).parts (put_in p own bs).open_blocks next (omega (arith, left)) (omega (arith, flat, as_deep p own bs)) run some)
  found (line.Await f ∷ ls) c own bs next few flat (going, may, run) some =
      let p = roll-Part (Part-F.Await f) in
      let left = line_left c (length bs) (line.Await f) may.limit refl in
      put_found c own bs (Await f) (line.Await f) ls (omega (arith, flat)) refl
      (found ls (c + 1) (put_in p own bs).parts (put_in p own bs).open_blocks next (omega (arith, left)) (omega (arith, flat, as_deep p own bs)) run some)
  found (line.Seq ∷ ls) c own bs next few flat (going, may, run) some =
      let left = line_left c (length bs) line.Seq may.limit refl in
      let room = block_left c (length bs) line.Seq may.limit refl in
      let rest = found ls (c + 1) own (record { kind = kind.Seq; parts = [] } ∷ bs) next (omega (arith, left)) (omega (arith, room)) run some in
      (before_opened own bs line.Seq ls (open_seq (λ p rest. At (put_in p own bs) rest) (length bs) ls (in_step own bs kind.Seq [] ls rest.0)), omega (arith, rest.1))
  found (line.Both ∷ ls) c own bs next few flat (going, may, run) some =
      let left = line_left c (length bs) line.Both may.limit refl in
      let room = block_left c (length bs) line.Both may.limit refl in
      let rest = found ls (c + 1) own (record { kind = kind.Both; parts = [] } ∷ bs) next (omega (arith, left)) (omega (arith, room)) run some in
      (before_opened own bs line.Both ls (open_both (λ p rest. At (put_in p own bs) rest) (length bs) ls (in_step own bs kind.Both [] ls rest.0)), omega (arith, rest.1))
  found (line.Choose f ∷ ls) c own bs next few flat (going, may, run) some =
      let left = line_left c (length bs) (line.Choose f) may.limit refl in
      let room = block_left c (length bs) (line.Choose f) may.limit refl in
      let rest = found ls (c + 1) own (record { kind = kind.Choose f; parts = [] } ∷ bs) next (omega (arith, left)) (omega (arith, room)) run some in
      (before_opened own bs (line.Choose f) ls (open_choose (λ p rest. At (put_in p own bs) rest) (length bs) ls f (in_step own bs (kind.Choose f) [] ls rest.0)), omega (arith, rest.1))
  found (line.Repeat n ∷ ls) c own bs next few flat (going, may, run) some =
      let left = line_left c (length bs) (line.Repeat n) may.limit refl in
      let room = block_left c (length bs) (line.Repeat n) may.limit refl in
      let rest = found ls (c + 1) own (record { kind = kind.Repeat n; parts = [] } ∷ bs) next (omega (arith, left)) (omega (arith, room)) run some in
      (before_opened own bs (line.Repeat n) ls (open_repeat (λ p rest. At (put_in p own bs) rest) (length bs) ls n (in_step own bs (kind.Repeat n) [] ls rest.0)), omega (arith, rest.1))
  found (line.Done ∷ ls) c own [] next few flat (going, may, run) some = let never : true ≡ false = may.matched in absurd cc
  found (line.Done ∷ ls) c own (b ∷ bs) next few flat (going, may, run) some =
      let p = block_part b.kind b.parts in
      let left = line_left c (length (b ∷ bs)) line.Done may.limit refl in
      let place = put_in p own bs in
      let rest = found ls (c + 1) place.parts place.open_blocks next (omega (arith, left)) (omega (arith, flat, as_deep p own bs)) run some in
      (done_at own b bs ls (omega (arith, flat)) rest.0, omega (arith, rest.1))
  found (line.Otherwise ∷ ls) c own [] next few flat (going, may, run) some = let never : true ≡ false = may.matched in absurd cc
  found (line.Otherwise ∷ ls) c own (b ∷ bs) next few flat (going, may, run) some =
      let left = line_left c (length (b ∷ bs)) line.Otherwise may.limit refl in
      let rest = found ls (c + 1) own (turned_block b.kind b.parts ∷ bs) next (omega (arith, left)) flat run some in
      (otherwise_at own bs b.kind b.parts ls (not-false (is_choose b.kind) may.matched) rest.0, omega (arith, rest.1))
  found (line.End ∷ ls) c own (b ∷ bs) next few flat (going, may, run) some = let never : true ≡ false = may.matched in absurd cc
  found (line.End ∷ ls) c own [] next few flat (going, may, run) some =
      let e = whole_end c own ls next run some in (
        record { texts = none; flat = omega arith; lines = ap (λ (y : List Line). line.End ∷ y) e.0; is = sym e.1 ∙ ap seq (sym (append-nil own)) },
        omega (arith, few, ap length e.0),
      )

  -- the whole program
  pub program_read : (ls : List Line) (next : Reading) → Runs nothing_read ls next → next.whole ≡ Some part → IsProgram ls part
  program_read [] next run some = let never : None ≡ Some part = sym (ap (λ (r : Reading). r.whole) run) ∙ some in absurd cc
  program_read (line.Program ∷ ls) next (going, may, run) some =
      let h = found ls 0 [] [] next (omega arith) (omega arith) run some in
      record { texts = h.0.texts; lines = ap (λ (y : List Line). line.Program ∷ y) h.0.lines; is = h.0.is; few = omega (arith, h.1); flat = h.0.flat }
  program_read (l ∷ ls) next (going, may, run) some = let never : true ≡ false = may.place in absurd cc
