-- The lines of a program, as it is written, run to its end.
use Rattle.std.proofs.Common.{◌≡◌, ◌<◌, ◌≤◌, ◌+◌, ◌&&◌, ◌||◌, nat_le, ℕ, Bool, true, false, List, [], ◌∷◌, ◌++◌, length, Some, refl, sym, ap, subst, ◌∙◌, append_assoc, append-nil, arith}
use Rattle.std.proofs.lemmas.Bool.{lt-leb}
use Rattle.control_syntax.specs.declared.block.Block.{Block}
use Rattle.control_syntax.specs.declared.block.Kind.{Kind}
use Rattle.control_syntax.specs.declared.block.Kind.TheVariants as kind
use Rattle.control_syntax.specs.declared.limits.TheConstants.{MAX_LINES, MAX_BLOCKS}
use Rattle.control_syntax.specs.declared.line.Line.{Line}
use Rattle.control_syntax.specs.declared.line.Line.TheVariants as line
use Rattle.control_syntax.specs.declared.part.Part.{Part}
use Rattle.control_syntax.specs.Reading.{Place, Reading, block_part, nothing_read, put_in, seq}
use Rattle.control_syntax.specs.Tests.{begins_block, is_inside, passes_limit}
use Rattle.control_syntax.specs.Written.{IsProgram, Text, Texts, Reach, Await, Seq, Both, Choose, Either, Repeat, none, more, deepest, depth, part_of, parts_of, text_before, texts_before}
use Rattle.control_syntax.proofs.ReadAsWritten.{state, as_deep}
use Rattle.control_syntax.proofs.Runs.{Runs}

abbrev mutual
  -- how many lines a part has
  size : Text → ℕ
  size (Reach pairs) = 1
  size (Await f) = 1
  size (Seq xs) = sizes xs + 2
  size (Both xs) = sizes xs + 2
  size (Choose f xs) = sizes xs + 2
  size (Either f xs ys) = sizes xs + sizes ys + 3
  size (Repeat n xs) = sizes xs + 2

  -- how many lines several parts have
  sizes : Texts → ℕ
  sizes none = 0
  sizes (more x xs) = size x + sizes xs

mutual
  length_text : (x : Text) (rest : List Line) → length (text_before x rest) ≡ size x + length rest
  length_text (Reach pairs) rest = omega arith
  length_text (Await f) rest = omega arith
  length_text (Seq xs) rest = omega (arith, length_texts xs (line.Done ∷ rest))
  length_text (Both xs) rest = omega (arith, length_texts xs (line.Done ∷ rest))
  length_text (Choose f xs) rest = omega (arith, length_texts xs (line.Done ∷ rest))
  length_text (Either f xs ys) rest = omega (arith, length_texts xs (line.Otherwise ∷ texts_before ys (line.Done ∷ rest)), length_texts ys (line.Done ∷ rest))
  length_text (Repeat n xs) rest = omega (arith, length_texts xs (line.Done ∷ rest))

  length_texts : (xs : Texts) (rest : List Line) → length (texts_before xs rest) ≡ sizes xs + length rest
  length_texts none rest = omega arith
  length_texts (more x xs) rest = omega (arith, length_text x (texts_before xs rest), length_texts xs rest)

-- ---- the tests of a line within the limits

within : (c n : ℕ) (l : Line) → is_inside l ≡ true → c < MAX_LINES → n < MAX_BLOCKS → passes_limit c n l ≡ false
within c n l e few flat = go (is_inside l) (begins_block l) (nat_le MAX_LINES c) (nat_le MAX_BLOCKS n) (lt-leb MAX_LINES c few) (lt-leb MAX_BLOCKS n flat)
  where
    go : (a b x y : Bool) → x ≡ false → y ≡ false → ((a && x) || (b && y)) ≡ false
    go true true false false e f = refl
    go true false false false e f = refl
    go false true false false e f = refl
    go false false false false e f = refl
    go a b true y e f = absurd cc
    go a b false true e f = absurd cc

-- a line that begins no block
within_blocks : (c n : ℕ) (l : Line) → begins_block l ≡ false → c < MAX_LINES → passes_limit c n l ≡ false
within_blocks c n l e few = go (is_inside l) (begins_block l) (nat_le MAX_LINES c) (nat_le MAX_BLOCKS n) e (lt-leb MAX_LINES c few)
  where
    go : (a b x y : Bool) → b ≡ false → x ≡ false → ((a && x) || (b && y)) ≡ false
    go true false false y e f = refl
    go false false false y e f = refl
    go a true x y e f = absurd cc
    go a false true y e f = absurd cc

-- ---- several parts, one behind the other

abbrev pub put_all : List Part → List Part → List Block → Place
put_all [] own bs = record { parts = own; open_blocks = bs }
put_all (p ∷ ps) own bs = put_all ps (put_in p own bs).parts (put_in p own bs).open_blocks

pub put_in_block : (ps own : List Part) (k : Kind) (parts : List Part) (bs : List Block) → put_all ps own (record { kind = k; parts = parts } ∷ bs) ≡ record { parts = own; open_blocks = record { kind = k; parts = parts ++ ps } ∷ bs }
put_in_block [] own k parts bs = ap (λ (y : List Part). record { parts = own; open_blocks = record { kind = k; parts = y } ∷ bs }) (sym (append-nil parts))
put_in_block (p ∷ ps) own k parts bs =
    put_in_block ps own k (parts ++ p ∷ []) bs ∙ ap (λ (y : List Part). record { parts = own; open_blocks = record { kind = k; parts = y } ∷ bs }) (append_assoc parts (p ∷ []) ps)

pub put_outside : (ps own : List Part) → put_all ps own [] ≡ record { parts = own ++ ps; open_blocks = [] }
put_outside [] own = ap (λ (y : List Part). record { parts = y; open_blocks = [] }) (sym (append-nil own))
put_outside (p ∷ ps) own = put_outside ps (own ++ p ∷ []) ∙ ap (λ (y : List Part). record { parts = y; open_blocks = [] }) (append_assoc own (p ∷ []) ps)

-- another count, which is the same
recount : (c d : ℕ) (place : Place) (ls : List Line) (next : Reading) → c ≡ d → Runs (state c place) ls next → Runs (state d place) ls next
recount c d place ls next e h = subst (λ (n : ℕ). Runs (state n place) ls next) e h

module _ (next : Reading) where
  -- the last line of a block
  done_runs : (c : ℕ) (own : List Part) (k : Kind) (parts : List Part) (bs : List Block) (rest : List Line) → c < MAX_LINES → Runs (state (c + 1) (put_in (block_part k parts) own bs)) rest next
      → Runs (state c (record { parts = own; open_blocks = record { kind = k; parts = parts } ∷ bs })) (line.Done ∷ rest) next
  done_runs c own k parts bs rest few h = (refl, record { place = refl; limit = within_blocks c (length bs + 1) line.Done refl few; matched = refl }, h)

  -- the lines inside a block, and its last
  block_runs : (xs : Texts) (k : Kind) (c : ℕ) (own : List Part) (bs : List Block) (rest : List Line) → c + (sizes xs + 2) ≤ MAX_LINES
      → (Runs (state (c + 1 + sizes xs) (put_all (parts_of xs) own (record { kind = k; parts = [] } ∷ bs))) (line.Done ∷ rest) next
      → Runs (state (c + 1) (record { parts = own; open_blocks = record { kind = k; parts = [] } ∷ bs })) (texts_before xs (line.Done ∷ rest)) next)
      → Runs (state (c + (sizes xs + 2)) (put_in (block_part k (parts_of xs)) own bs)) rest next
      → Runs (state (c + 1) (record { parts = own; open_blocks = record { kind = k; parts = [] } ∷ bs })) (texts_before xs (line.Done ∷ rest)) next
  block_runs xs k c own bs rest few inner h =
      let last = c + 1 + sizes xs in
      let P : Place → Type 0 = λ place. Runs (state last place) (line.Done ∷ rest) next in
      let end = recount (c + (sizes xs + 2)) (last + 1) (put_in (block_part k (parts_of xs)) own bs) rest next (omega arith) h in
      inner (subst P (sym (put_in_block (parts_of xs) own k [] bs)) (done_runs last own k (parts_of xs) bs rest (omega (arith, few)) end))

  mutual
    text_runs : (x : Text) (c : ℕ) (own : List Part) (bs : List Block) (rest : List Line) → length bs + depth x ≤ MAX_BLOCKS → c + size x ≤ MAX_LINES
        → Runs (state (c + size x) (put_in (part_of x) own bs)) rest next → Runs (state c (record { parts = own; open_blocks = bs })) (text_before x rest) next
    text_runs (Reach g) c own bs rest flat few h = (refl, record { place = refl; limit = within_blocks c (length bs) (line.Reach g) refl (omega (arith, few)); matched = refl }, h)
    text_runs (Await f) c own bs rest flat few h = (refl, record { place = refl; limit = within_blocks c (length bs) (line.Await f) refl (omega (arith, few)); matched = refl }, h)
    text_runs (Seq xs) c own bs rest flat few h = (
      refl,
      record { place = refl; limit = within c (length bs) line.Seq refl (omega (arith, few)) (omega (arith, flat)); matched = refl },
      block_runs xs kind.Seq c own bs rest few (texts_run xs (c + 1) own (record { kind = kind.Seq; parts = [] } ∷ bs) (line.Done ∷ rest) (omega (arith, flat)) (omega (arith, few))) h,
    )
    text_runs (Both xs) c own bs rest flat few h = (
      refl,
      record { place = refl; limit = within c (length bs) line.Both refl (omega (arith, few)) (omega (arith, flat)); matched = refl },
      block_runs xs kind.Both c own bs rest few (texts_run xs (c + 1) own (record { kind = kind.Both; parts = [] } ∷ bs) (line.Done ∷ rest) (omega (arith, flat)) (omega (arith, few))) h,
    )
    text_runs (Choose f xs) c own bs rest flat few h = (
      refl,
      record { place = refl; limit = within c (length bs) (line.Choose f) refl (omega (arith, few)) (omega (arith, flat)); matched = refl },
      block_runs xs (kind.Choose f) c own bs rest few (texts_run xs (c + 1) own (record { kind = (kind.Choose f); parts = [] } ∷ bs) (line.Done ∷ rest) (omega (arith, flat)) (omega (arith, few))) h,
    )
    text_runs (Repeat n xs) c own bs rest flat few h = (
      refl,
      record { place = refl; limit = within c (length bs) (line.Repeat n) refl (omega (arith, few)) (omega (arith, flat)); matched = refl },
      block_runs xs (kind.Repeat n) c own bs rest few (texts_run xs (c + 1) own (record { kind = (kind.Repeat n); parts = [] } ∷ bs) (line.Done ∷ rest) (omega (arith, flat)) (omega (arith, few))) h,
    )
    text_runs (Either f xs ys) c own bs rest flat few h =
        let there = c + 1 + sizes xs in
        let last = there + 1 + sizes ys in
        let P : Place → Type 0 = λ place. Runs (state last place) (line.Done ∷ rest) next in
        let end = recount (c + size (Either f xs ys)) (last + 1) (put_in (part_of (Either f xs ys)) own bs) rest next (omega arith) h in
        let done = done_runs last own (kind.Otherwise f (parts_of xs)) (parts_of ys) bs rest (omega (arith, few)) end in
        let second = texts_run ys (there + 1) own (record { kind = kind.Otherwise f (parts_of xs); parts = [] } ∷ bs) (line.Done ∷ rest) (omega (arith, flat)) (omega (arith, few))
        (subst P (sym (put_in_block (parts_of ys) own (kind.Otherwise f (parts_of xs)) [] bs)) done)
        in
        let Q : Place → Type 0 = λ place. Runs (state there place) (line.Otherwise ∷ texts_before ys (line.Done ∷ rest)) next in
        let turn : Q (record { parts = own; open_blocks = record { kind = kind.Choose f; parts = parts_of xs } ∷ bs }) =
        (refl, record { place = refl; limit = within_blocks there (length bs + 1) line.Otherwise refl (omega (arith, few)); matched = refl }, second)
        in
        let first = texts_run xs (c + 1) own (record { kind = kind.Choose f; parts = [] } ∷ bs) (line.Otherwise ∷ texts_before ys (line.Done ∷ rest)) (omega (arith, flat)) (omega (arith, few))
        (subst Q (sym (put_in_block (parts_of xs) own (kind.Choose f) [] bs)) turn)
        in
        (refl, record { place = refl; limit = within c (length bs) (line.Choose f) refl (omega (arith, few)) (omega (arith, flat)); matched = refl }, first)

    texts_run : (xs : Texts) (c : ℕ) (own : List Part) (bs : List Block) (rest : List Line) → length bs + deepest xs ≤ MAX_BLOCKS → c + sizes xs ≤ MAX_LINES
        → Runs (state (c + sizes xs) (put_all (parts_of xs) own bs)) rest next → Runs (state c (record { parts = own; open_blocks = bs })) (texts_before xs rest) next
    texts_run none c own bs rest flat few h = recount (c + 0) c (record { parts = own; open_blocks = bs }) rest next (omega arith) h
    texts_run (more x xs) c own bs rest flat few h =
        let place = put_in (part_of x) own bs in
        let behind = texts_run xs (c + size x) place.parts place.open_blocks rest (omega (arith, flat, as_deep (part_of x) own bs)) (omega (arith, few))
        (recount (c + (size x + sizes xs)) (c + size x + sizes xs) (put_all (parts_of xs) place.parts place.open_blocks) rest next (omega arith) h)
        in
        text_runs x c own bs (texts_before xs rest) (omega (arith, flat)) (omega (arith, few)) behind

-- the whole program
pub program_runs : (ls : List Line) (part : Part) → IsProgram ls part → (next : Reading) × Runs nothing_read ls next × (next.whole ≡ Some part)
program_runs ls part p =
    let xs = p.texts in
    let next : Reading = record { started = true; count = 0 + sizes xs; place = record { parts = []; open_blocks = [] }; whole = Some (seq (parts_of xs)) } in
    let few : sizes xs ≤ MAX_LINES = omega (arith, p.few, ap length p.lines, length_texts xs (line.End ∷ [])) in
    let Q : Place → Type 0 = λ place. Runs (state (0 + sizes xs) place) (line.End ∷ []) next in
    let end : Q (record { parts = parts_of xs; open_blocks = [] }) = (refl, record { place = refl; limit = refl; matched = refl }, refl) in
    let inner = texts_run next xs 0 [] [] (line.End ∷ []) (omega (arith, p.flat)) (omega (arith, few)) (subst Q (sym (put_outside (parts_of xs) [])) end) in
    let all : Runs nothing_read (line.Program ∷ texts_before xs (line.End ∷ [])) next = (refl, record { place = refl; limit = refl; matched = refl }, inner) in
    (next, subst (λ (y : List Line). Runs nothing_read y next) (sym p.lines) all, ap (λ (x : Part). Some x) (sym p.is))
