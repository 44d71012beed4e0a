-- When the lines that close, part or end blocks are unmatched, by the lines that were read.
use Rattle.std.proofs.Common.{◌≡◌, ◌+◌, ℕ, Bool, true, false, not, List, [], ◌∷◌, ◌++◌, length, count_by, cond, Some, None, refl, sym, ap, subst, ◌∙◌, append_assoc, append-nil, arith}
use Rattle.std.proofs.lemmas.List.Sums.{sum_by-cons}
use Rattle.cca_base.specs.PlantModel.{PlantModel}
use Rattle.control_syntax.specs.Codes.{IsChoose}
use Rattle.control_syntax.specs.Matched.{AreParts, EndInChoose, IsReadBehind, LimitsCountLines, ReadsAs, UnmatchedByLines, closes_block}
use Rattle.control_syntax.specs.Reading.{Place, Reading, after, block_part, moved, nothing_read, put_in, turned_block}
use Rattle.control_syntax.specs.Tests.{begins_block, is_choose, is_inside, is_unmatched}
use Rattle.control_syntax.specs.Written.{Text, Texts, Reach, Await, Seq, Both, Choose, Either, Repeat, none, more, part_of, parts_of, text_before, texts_before}
use Rattle.control_syntax.specs.declared.block.Block.{Block}
use Rattle.control_syntax.specs.declared.block.Kind.{Kind}
use Rattle.control_syntax.specs.declared.block.Kind.TheVariants as kind
use Rattle.control_syntax.specs.declared.line.Line.{Line}
use Rattle.control_syntax.specs.declared.line.Line.TheVariants as line
use Rattle.control_syntax.specs.declared.part.Part.{Part, roll-Part}
use Rattle.control_syntax.specs.declared.part.Part.TheOpen.{Part-F}
use Rattle.control_syntax.proofs.ReadAsWritten.{state, as_deep}
use Rattle.control_syntax.proofs.Runs.{MayCome, Runs, stands}
use Rattle.control_syntax.proofs.WrittenIsRead.{put_all, put_in_block, put_outside}

-- ---- what is read, by the place alone

-- where the next part goes behind lines
abbrev moves : List Line → Place → Place
moves [] place = place
moves (l ∷ ls) place = moves ls (moved l place)

-- each of the lines stands between `program` and `end`, and none is unmatched
abbrev Fit : Place → List Line → Type 0
Fit place [] = Unit {0}
Fit place (l ∷ ls) = (is_inside l ≡ true) × (is_unmatched place.open_blocks l ≡ false) × Fit (moved l place) ls

-- where some parts go outside all blocks
abbrev top : List Part → List Block → Place
top own bs = record { parts = own; open_blocks = bs }

-- lines that are read are run
reads_run : (m : PlantModel) (texts : List (List ℕ)) (r : Reading) (ls : List Line) (next : Reading) → ReadsAs m r texts ls next → Runs r ls next
reads_run m [] r ls next (none_said, same) = subst (λ (x : List Line). Runs r x next) (sym none_said) same
reads_run m (text ∷ texts) r ls next (going, (None, rest, said, later, are)) =
    subst (λ (x : List Line). Runs r x next) (sym are) (reads_run m texts r rest next later)
reads_run m (text ∷ texts) r ls next (going, (Some l, rest, (i, spells, named), later, are)) =
    subst (λ (x : List Line). Runs r x next) (sym are) (going, (stands m r i l named.0 named.1).1, reads_run m texts (after r l) rest next later)

-- no line comes once the program is whole
ends_whole : (c : ℕ) (part : Part) (ls : List Line) (next : Reading)
    → Runs (record { started = true; count = c; place = top [] []; whole = Some part }) ls next → next.whole ≡ None → ⊥
ends_whole c part [] next run unended = let never : Some part ≡ None = sym (ap (λ (x : Reading). x.whole) run) ∙ unended in absurd cc
ends_whole c part (l ∷ ls) next run unended = let never : Some part ≡ None = run.0 in absurd cc

-- what is known of lines that were read behind `program`
record Known (c : ℕ) (place : Place) (ls : List Line) (next : Reading) : Type 0 where
  place_is : next.place ≡ moves ls place
  count_is : next.count ≡ c + length ls
  fit : Fit place ls

-- one line more
one_more : (c : ℕ) (place : Place) (l : Line) (ls : List Line) (next : Reading) → is_inside l ≡ true → MayCome (state c place) l → Known (c + 1) (moved l place) ls next → Known c place (l ∷ ls) next
one_more c place l ls next here may k = record { place_is = k.place_is; count_is = omega (arith, k.count_is); fit = (here, may.matched, k.fit) }

runs_known : (ls : List Line) (c : ℕ) (place : Place) (next : Reading) → Runs (state c place) ls next → next.whole ≡ None → Known c place ls next
runs_known [] c place next run unended = record { place_is = ap (λ (x : Reading). x.place) run; count_is = omega (arith, ap (λ (x : Reading). x.count) run); fit = tt }
runs_known (line.Program ∷ ls) c place next (going, may, run) unended = let never : true ≡ false = may.place in absurd cc
runs_known (line.End ∷ ls) c place next (going, may, run) unended = absurd (ends_whole c _ ls next run unended)
runs_known (line.Reach g ∷ ls) c place next (going, may, run) unended = one_more c place (line.Reach g) ls next refl may (runs_known ls (c + 1) (moved (line.Reach g) place) next run unended)
runs_known (line.Await f ∷ ls) c place next (going, may, run) unended = one_more c place (line.Await f) ls next refl may (runs_known ls (c + 1) (moved (line.Await f) place) next run unended)
runs_known (line.Seq ∷ ls) c place next (going, may, run) unended = one_more c place line.Seq ls next refl may (runs_known ls (c + 1) (moved line.Seq place) next run unended)
runs_known (line.Both ∷ ls) c place next (going, may, run) unended = one_more c place line.Both ls next refl may (runs_known ls (c + 1) (moved line.Both place) next run unended)
runs_known (line.Choose f ∷ ls) c place next (going, may, run) unended = one_more c place (line.Choose f) ls next refl may (runs_known ls (c + 1) (moved (line.Choose f) place) next run unended)
runs_known (line.Repeat n ∷ ls) c place next (going, may, run) unended = one_more c place (line.Repeat n) ls next refl may (runs_known ls (c + 1) (moved (line.Repeat n) place) next run unended)
runs_known (line.Otherwise ∷ ls) c place next (going, may, run) unended = one_more c place line.Otherwise ls next refl may (runs_known ls (c + 1) (moved line.Otherwise place) next run unended)
runs_known (line.Done ∷ ls) c place next (going, may, run) unended = one_more c place line.Done ls next refl may (runs_known ls (c + 1) (moved line.Done place) next run unended)

known : (m : PlantModel) (texts : List (List ℕ)) (ls : List Line) (r : Reading) → IsReadBehind m texts ls r → Known 0 (top [] []) ls r
known m texts ls r read = let run = reads_run m texts nothing_read (line.Program ∷ ls) r read.0 in runs_known ls 0 (top [] []) r run.2 read.1

-- ---- lines by the open blocks

mutual
  text_on : (x : Text) (rest behind : List Line) → text_before x rest ++ behind ≡ text_before x (rest ++ behind)
  text_on (Reach g) rest behind = refl
  text_on (Await f) rest behind = refl
  text_on (Seq xs) rest behind = ap (λ (y : List Line). line.Seq ∷ y) (texts_on xs (line.Done ∷ rest) behind)
  text_on (Both xs) rest behind = ap (λ (y : List Line). line.Both ∷ y) (texts_on xs (line.Done ∷ rest) behind)
  text_on (Choose f xs) rest behind = ap (λ (y : List Line). line.Choose f ∷ y) (texts_on xs (line.Done ∷ rest) behind)
  text_on (Either f xs ys) rest behind =
      ap (λ (y : List Line). line.Choose f ∷ y)
      (texts_on xs (line.Otherwise ∷ texts_before ys (line.Done ∷ rest)) behind ∙ ap (λ (y : List Line). texts_before xs (line.Otherwise ∷ y)) (texts_on ys (line.Done ∷ rest) behind))
  text_on (Repeat n xs) rest behind = ap (λ (y : List Line). line.Repeat n ∷ y) (texts_on xs (line.Done ∷ rest) behind)

  texts_on : (xs : Texts) (rest behind : List Line) → texts_before xs rest ++ behind ≡ texts_before xs (rest ++ behind)
  texts_on none rest behind = refl
  texts_on (more x xs) rest behind = text_on x (texts_before xs rest) behind ∙ ap (text_before x) (texts_on xs rest behind)

-- one part more, behind the others
abbrev with_last : Texts → Text → Texts
with_last none x = more x none
with_last (more y ys) x = more y (with_last ys x)

last_text : (xs : Texts) (x : Text) (rest : List Line) → texts_before (with_last xs x) rest ≡ texts_before xs (text_before x rest)
last_text none x rest = refl
last_text (more y ys) x rest = ap (text_before y) (last_text ys x rest)

-- behind parts stands one more
one_part_more : (xs : Texts) (x : Text) → texts_before xs [] ++ text_before x [] ≡ texts_before (with_last xs x) []
one_part_more xs x = texts_on xs [] (text_before x []) ∙ sym (last_text xs x [])

-- the lines of an open block so far
abbrev BlockLines : Kind → List Line → Type 0
BlockLines kind.Seq own = (xs : Texts) × (own ≡ line.Seq ∷ texts_before xs [])
BlockLines kind.Both own = (xs : Texts) × (own ≡ line.Both ∷ texts_before xs [])
BlockLines (kind.Choose f) own = (xs : Texts) × (own ≡ line.Choose f ∷ texts_before xs [])
BlockLines (kind.Otherwise f first) own = (xs : Texts) × (ys : Texts) × (own ≡ line.Choose f ∷ texts_before xs (line.Otherwise ∷ texts_before ys []))
BlockLines (kind.Repeat n) own = (xs : Texts) × (own ≡ line.Repeat n ∷ texts_before xs [])

-- the lines are whole parts, and then those of the open blocks, the innermost last
abbrev Lie : List Block → List Line → Type 0
Lie [] ls = AreParts ls
Lie (b ∷ bs) ls = (before : List Line) × (own : List Line) × Lie bs before × BlockLines b.kind own × (ls ≡ before ++ own)

-- a line, and parts behind it
begun_more : (l : Line) (xs : Texts) (own : List Line) (x : Text) → own ≡ l ∷ texts_before xs [] → own ++ text_before x [] ≡ l ∷ texts_before (with_last xs x) []
begun_more l xs own x is = ap (λ (y : List Line). y ++ text_before x []) is ∙ ap (λ (y : List Line). l ∷ y) (one_part_more xs x)

block_more : (k : Kind) (own : List Line) (x : Text) → BlockLines k own → BlockLines k (own ++ text_before x [])
block_more kind.Seq own x (xs, is) = (with_last xs x, begun_more line.Seq xs own x is)
block_more kind.Both own x (xs, is) = (with_last xs x, begun_more line.Both xs own x is)
block_more (kind.Choose f) own x (xs, is) = (with_last xs x, begun_more (line.Choose f) xs own x is)
block_more (kind.Otherwise f first) own x (xs, ys, is) = (
  xs,
  with_last ys x,
  ap (λ (y : List Line). y ++ text_before x []) is ∙ ap (λ (y : List Line). line.Choose f ∷ y)
      (texts_on xs (line.Otherwise ∷ texts_before ys []) (text_before x []) ∙ ap (λ (y : List Line). texts_before xs (line.Otherwise ∷ y)) (one_part_more ys x)),
)
block_more (kind.Repeat n) own x (xs, is) = (with_last xs x, begun_more (line.Repeat n) xs own x is)

part_more : (bs : List Block) (ls : List Line) (x : Text) → Lie bs ls → Lie bs (ls ++ text_before x [])
part_more [] ls x (xs, is) = (with_last xs x, ap (λ (y : List Line). y ++ text_before x []) is ∙ one_part_more xs x)
part_more (b ∷ bs) ls x (before, own, lie, block, is) =
    (before, own ++ text_before x [], lie, block_more b.kind own x block, ap (λ (y : List Line). y ++ text_before x []) is ∙ append_assoc before own (text_before x []))

-- a part that is put there changes no open block's kind
put_lies : (p : Part) (own : List Part) (bs : List Block) (ls : List Line) → Lie bs ls → Lie (put_in p own bs).open_blocks ls
put_lies p own [] ls lie = lie
put_lies p own (b ∷ bs) ls lie = lie

-- behind `done` a block is a part
closes : (k : Kind) (own : List Line) → BlockLines k own → (x : Text) × (own ++ line.Done ∷ [] ≡ text_before x [])
closes kind.Seq own (xs, is) = (Seq xs, ap (λ (y : List Line). y ++ line.Done ∷ []) is ∙ ap (λ (y : List Line). line.Seq ∷ y) (texts_on xs [] (line.Done ∷ [])))
closes kind.Both own (xs, is) = (Both xs, ap (λ (y : List Line). y ++ line.Done ∷ []) is ∙ ap (λ (y : List Line). line.Both ∷ y) (texts_on xs [] (line.Done ∷ [])))
closes (kind.Choose f) own (xs, is) = (Choose f xs, ap (λ (y : List Line). y ++ line.Done ∷ []) is ∙ ap (λ (y : List Line). line.Choose f ∷ y) (texts_on xs [] (line.Done ∷ [])))
closes (kind.Otherwise f first) own (xs, ys, is) = (
  Either f xs ys,
  ap (λ (y : List Line). y ++ line.Done ∷ []) is ∙ ap (λ (y : List Line). line.Choose f ∷ y)
      (texts_on xs (line.Otherwise ∷ texts_before ys []) (line.Done ∷ []) ∙ ap (λ (y : List Line). texts_before xs (line.Otherwise ∷ y)) (texts_on ys [] (line.Done ∷ []))),
)
closes (kind.Repeat n) own (xs, is) = (Repeat n xs, ap (λ (y : List Line). y ++ line.Done ∷ []) is ∙ ap (λ (y : List Line). line.Repeat n ∷ y) (texts_on xs [] (line.Done ∷ [])))

turns : (k : Kind) (parts : List Part) (own : List Line) → not (is_choose k) ≡ false → BlockLines k own → BlockLines (turned_block k parts).kind (own ++ line.Otherwise ∷ [])
turns (kind.Choose f) parts own first (xs, is) =
    (xs, none, ap (λ (y : List Line). y ++ line.Otherwise ∷ []) is ∙ ap (λ (y : List Line). line.Choose f ∷ y) (texts_on xs [] (line.Otherwise ∷ [])))
turns kind.Seq parts own first block = absurd cc
turns kind.Both parts own first block = absurd cc
turns (kind.Otherwise f past) parts own first block = absurd cc
turns (kind.Repeat n) parts own first block = absurd cc

-- one line more
line_lies : (l : Line) (own : List Part) (bs : List Block) (ls : List Line) → is_inside l ≡ true → is_unmatched bs l ≡ false → Lie bs ls → Lie (moved l (top own bs)).open_blocks (ls ++ l ∷ [])
line_lies line.Program own bs ls here matched lie = absurd cc
line_lies line.End own bs ls here matched lie = absurd cc
line_lies (line.Reach g) own bs ls here matched lie = put_lies (roll-Part (Part-F.Reach g)) own bs (ls ++ line.Reach g ∷ []) (part_more bs ls (Reach g) lie)
line_lies (line.Await f) own bs ls here matched lie = put_lies (roll-Part (Part-F.Await f)) own bs (ls ++ line.Await f ∷ []) (part_more bs ls (Await f) lie)
line_lies line.Seq own bs ls here matched lie = (ls, line.Seq ∷ [], lie, (none, refl), refl)
line_lies line.Both own bs ls here matched lie = (ls, line.Both ∷ [], lie, (none, refl), refl)
line_lies (line.Choose f) own bs ls here matched lie = (ls, line.Choose f ∷ [], lie, (none, refl), refl)
line_lies (line.Repeat n) own bs ls here matched lie = (ls, line.Repeat n ∷ [], lie, (none, refl), refl)
line_lies line.Otherwise own [] ls here matched lie = absurd cc
line_lies line.Otherwise own (b ∷ bs) ls here matched (before, block, lie, lines, is) =
    (before, block ++ line.Otherwise ∷ [], lie, turns b.kind b.parts block matched lines, ap (λ (y : List Line). y ++ line.Otherwise ∷ []) is ∙ append_assoc before block (line.Otherwise ∷ []))
line_lies line.Done own [] ls here matched lie = absurd cc
line_lies line.Done own (b ∷ bs) ls here matched (before, block, lie, lines, is) =
    let part = closes b.kind block lines in
    let all : ls ++ line.Done ∷ [] ≡ before ++ text_before part.0 [] =
    ap (λ (y : List Line). y ++ line.Done ∷ []) is ∙ append_assoc before block (line.Done ∷ []) ∙ ap (λ (y : List Line). before ++ y) part.1
    in
    put_lies (block_part b.kind b.parts) own bs (ls ++ line.Done ∷ []) (subst (Lie bs) (sym all) (part_more bs before part.0 lie))

lines_lie : (ls before : List Line) (place : Place) → Fit place ls → Lie place.open_blocks before → Lie (moves ls place).open_blocks (before ++ ls)
lines_lie [] before place fit lie = subst (Lie place.open_blocks) (sym (append-nil before)) lie
lines_lie (l ∷ ls) before place (here, matched, fit) lie =
    subst (Lie (moves ls (moved l place)).open_blocks) (append_assoc before (l ∷ []) ls)
    (lines_lie ls (before ++ l ∷ []) (moved l place) fit (line_lies l place.parts place.open_blocks before here matched lie))

-- ---- open blocks by the lines

moves_on : (ls rest : List Line) (place : Place) → moves (ls ++ rest) place ≡ moves rest (moves ls place)
moves_on [] rest place = refl
moves_on (l ∷ ls) rest place = moves_on ls rest (moved l place)

-- the lines in a block, and then the line behind them
inner : (xs : Texts) (k : Kind) (own : List Part) (bs : List Block) (rest : List Line)
    → moves (texts_before xs rest) (top own (record { kind = k; parts = [] } ∷ bs)) ≡ moves rest (put_all (parts_of xs) own (record { kind = k; parts = [] } ∷ bs))
    → moves (texts_before xs rest) (top own (record { kind = k; parts = [] } ∷ bs)) ≡ moves rest (top own (record { kind = k; parts = parts_of xs } ∷ bs))
inner xs k own bs rest h = h ∙ ap (moves rest) (put_in_block (parts_of xs) own k [] bs)

mutual
  moves_text : (x : Text) (own : List Part) (bs : List Block) (rest : List Line) → moves (text_before x rest) (top own bs) ≡ moves rest (put_in (part_of x) own bs)
  moves_text (Reach g) own bs rest = refl
  moves_text (Await f) own bs rest = refl
  moves_text (Seq xs) own bs rest = inner xs kind.Seq own bs (line.Done ∷ rest) (moves_texts xs own (record { kind = kind.Seq; parts = [] } ∷ bs) (line.Done ∷ rest))
  moves_text (Both xs) own bs rest = inner xs kind.Both own bs (line.Done ∷ rest) (moves_texts xs own (record { kind = kind.Both; parts = [] } ∷ bs) (line.Done ∷ rest))
  moves_text (Choose f xs) own bs rest = inner xs (kind.Choose f) own bs (line.Done ∷ rest) (moves_texts xs own (record { kind = kind.Choose f; parts = [] } ∷ bs) (line.Done ∷ rest))
  moves_text (Either f xs ys) own bs rest =
      inner xs (kind.Choose f) own bs (line.Otherwise ∷ texts_before ys (line.Done ∷ rest)) (moves_texts xs own (record { kind = kind.Choose f; parts = [] } ∷ bs) (line.Otherwise ∷ texts_before ys (line.Done ∷ rest)))
      ∙ inner ys (kind.Otherwise f (parts_of xs)) own bs (line.Done ∷ rest) (moves_texts ys own (record { kind = kind.Otherwise f (parts_of xs); parts = [] } ∷ bs) (line.Done ∷ rest))
  moves_text (Repeat n xs) own bs rest = inner xs (kind.Repeat n) own bs (line.Done ∷ rest) (moves_texts xs own (record { kind = kind.Repeat n; parts = [] } ∷ bs) (line.Done ∷ rest))

  moves_texts : (xs : Texts) (own : List Part) (bs : List Block) (rest : List Line) → moves (texts_before xs rest) (top own bs) ≡ moves rest (put_all (parts_of xs) own bs)
  moves_texts none own bs rest = refl
  moves_texts (more x xs) own bs rest =
      moves_text x own bs (texts_before xs rest) ∙ moves_texts xs (put_in (part_of x) own bs).parts (put_in (part_of x) own bs).open_blocks rest

parts_open_nothing : (ls : List Line) → AreParts ls → (moves ls (top [] [])).open_blocks ≡ []
parts_open_nothing ls (xs, is) =
    ap (λ (y : List Line). (moves y (top [] [])).open_blocks) is
    ∙ ap (λ (p : Place). p.open_blocks) (moves_texts xs [] [] [] ∙ put_outside (parts_of xs) [])

-- where the lines end in a `choose`, it is the innermost open block
choose_is_open : (ls : List Line) (e : EndInChoose ls) → (moves ls (top [] [])).open_blocks ≡ record { kind = kind.Choose e.1; parts = parts_of e.2 } ∷ (moves e.0 (top [] [])).open_blocks
choose_is_open ls (before, f, xs, is) =
    let there = moves before (top [] []) in
    ap (λ (y : List Line). (moves y (top [] [])).open_blocks) is
    ∙ ap (λ (p : Place). p.open_blocks)
    (moves_on before (line.Choose f ∷ texts_before xs []) (top [] [])
    ∙ inner xs (kind.Choose f) there.parts there.open_blocks [] (moves_texts xs there.parts (record { kind = kind.Choose f; parts = [] } ∷ there.open_blocks) []))

-- ---- the laws

-- what an open `choose` says of the lines
choose_ends : (k : Kind) (before own ls : List Line) → IsChoose k → BlockLines k own → ls ≡ before ++ own → EndInChoose ls
choose_ends (kind.Choose f) before own ls is (xs, lines) all = (before, f, xs, all ∙ ap (λ (y : List Line). before ++ y) lines)
choose_ends kind.Seq before own ls is lines all = absurd is
choose_ends kind.Both before own ls is lines all = absurd is
choose_ends (kind.Otherwise f first) before own ls is lines all = absurd is
choose_ends (kind.Repeat n) before own ls is lines all = absurd is

pub unmatched_by_lines : UnmatchedByLines
unmatched_by_lines m texts ls r read =
    let k = known m texts ls r read in
    let blocks : r.place.open_blocks ≡ (moves ls (top [] [])).open_blocks = ap (λ (p : Place). p.open_blocks) k.place_is in
    let lie : Lie r.place.open_blocks ls = subst (λ (bs : List Block). Lie bs ls) (sym blocks) (lines_lie ls [] (top [] []) k.fit (none, refl)) in
    let parts : r.place.open_blocks ≡ [] → AreParts ls = λ e. subst (λ (bs : List Block). Lie bs ls) e lie in
    let back : AreParts ls → r.place.open_blocks ≡ [] = λ h. blocks ∙ parts_open_nothing ls h in (
      (parts, back),
      (λ u h. u (back h), λ n e. n (parts e)),
      (
        λ u e. u (record { kind = kind.Choose e.1; parts = parts_of e.2 }) (moves e.0 (top [] [])).open_blocks (blocks ∙ choose_is_open ls e) tt,
        λ n b bs is unended. let at = subst (λ (x : List Block). Lie x ls) is lie in n (choose_ends b.kind at.0 at.1 ls unended at.3 at.4),
      ),
    )

-- ---- what counts

abbrev one_if : Bool → ℕ
one_if b = cond b 1 0

line_counts : (l : Line) (own : List Part) (bs : List Block) → is_inside l ≡ true → is_unmatched bs l ≡ false
    → length bs + one_if (begins_block l) ≡ one_if (closes_block l) + length (moved l (top own bs)).open_blocks
line_counts line.Program own bs here matched = absurd cc
line_counts line.End own bs here matched = absurd cc
line_counts (line.Reach g) own bs here matched = omega (arith, as_deep (roll-Part (Part-F.Reach g)) own bs)
line_counts (line.Await f) own bs here matched = omega (arith, as_deep (roll-Part (Part-F.Await f)) own bs)
line_counts line.Seq own bs here matched = omega arith
line_counts line.Both own bs here matched = omega arith
line_counts (line.Choose f) own bs here matched = omega arith
line_counts (line.Repeat n) own bs here matched = omega arith
line_counts line.Otherwise own [] here matched = absurd cc
line_counts line.Otherwise own (b ∷ bs) here matched = omega arith
line_counts line.Done own [] here matched = absurd cc
line_counts line.Done own (b ∷ bs) here matched = omega (arith, as_deep (block_part b.kind b.parts) own bs)

abbrev begun : List Line → ℕ
begun ls = count_by begins_block ls

abbrev closed : List Line → ℕ
closed ls = count_by closes_block ls

counts : (ls : List Line) (place : Place) → Fit place ls → length place.open_blocks + begun ls ≡ closed ls + length (moves ls place).open_blocks
counts [] place fit = omega arith
counts (l ∷ ls) place (here, matched, fit) =
    omega (
      arith,
      line_counts l place.parts place.open_blocks here matched,
      counts ls (moved l place) fit,
      sum_by-cons (λ (x : Line). cond (begins_block x) 1 0) l ls,
      sum_by-cons (λ (x : Line). cond (closes_block x) 1 0) l ls,
    )

pub limits_count_lines : LimitsCountLines
limits_count_lines m texts ls r read =
    let k = known m texts ls r read in
    (omega (arith, k.count_is), omega (arith, counts ls (top [] []) k.fit, ap (λ (p : Place). length p.open_blocks) k.place_is))
