-- The table of codes is what the tests at a line find.
use Rattle.std.proofs.Common.{if◌then◌else◌, ◌≡◌, ◌≤◌, ◌⊎◌, ◌↔◌, ℕ, Bool, true, false, not, ◌||◌, ◌&&◌, nat_le, List, [], ◌∷◌, length, Option, Some, None, Result, Ok, Err, inl, inr, refl, sym, ap, subst, ◌∙◌, arith}
use Rattle.std.specs.List.{list_any}
use Rattle.std.proofs.lemmas.Bool.{le-leb, leb-true, or_left, or_right}
use Rattle.std.proofs.lemmas.Option.{same_Some}
use Rattle.list_laws.proofs.Tests.{either, never, false_true}
use Rattle.list_laws.proofs.Passing.{some_passes, passes_some}
use Rattle.cca_base.specs.declared.codes.TheConstants.{MALFORMED, NAME_UNKNOWN, LIMIT, BROKEN_GOAL, REPEATED_PAIR, UNMATCHED}
use Rattle.cca_base.specs.declared.cube.Pair.{Pair}
use Rattle.cca_base.specs.declared.events.Stop.{Stop}
use Rattle.cca_base.specs.declared.events.Stop.TheVariants as stops
use Rattle.cca_base.specs.PlantModel.{PlantModel}
use Rattle.cca_base.specs.Refusals.{Answers}
use Rattle.formula_syntax.specs.Least.{least}
use Rattle.text_base.specs.Lexemes.{Lexeme}
use Rattle.text_base.specs.Pairs.{NamedPair}
use Rattle.script_reader.specs.EventCodes.{has_item_twice, is_broken_pair}
use Rattle.script_reader.specs.Named.{component_of, mode_pair, each_pair}
use Rattle.script_reader.specs.SaidLines.{IsLeast, SaidByItem}
use Rattle.script_reader.proofs.EachPair.{comes_from, goes_to}
use Rattle.script_reader.proofs.NamedItems.{mode_names, named_twice, twice_named}
use Rattle.control_syntax.specs.Codes.{Applies, AppliesToWords, IsChoose, IsGreat, IsNamed, IsOutOfPlace, IsSaid, IsSaidByWords, IsSaidHere, IsUnmatched, NamesTwice, NamesUnknown, PassesLimit, WantsBroken}
use Rattle.control_syntax.specs.Items.{Item, Program, Reach, Await, Seq, Both, Choose, Otherwise, Repeat, Done, End, grammar}
use Rattle.control_syntax.specs.Reading.{Reading}
use Rattle.control_syntax.specs.Tests.{HasRoom, asked_pairs, begins_block, code_of, in_choose, is_choose, is_inside, is_unmatched, none_open, out_of_place, passes_limit, stop_here}
use Rattle.control_syntax.specs.declared.block.Block.{Block}
use Rattle.control_syntax.specs.declared.block.Kind.{Kind}
use Rattle.control_syntax.specs.declared.block.Kind.TheVariants as kind
use Rattle.control_syntax.specs.declared.limits.TheConstants.{MAX_LINES, MAX_BLOCKS}
use Rattle.control_syntax.specs.declared.line.Line.{Line}
use Rattle.control_syntax.specs.declared.line.Line.TheVariants as line

-- ---- tests of one value

-- a test is false exactly where its opposite is true
opposite : (b : Bool) → (b ≡ false) ↔ (not b ≡ true)
opposite true = (λ e. absurd cc, λ e. absurd cc)
opposite false = (λ e. refl, λ e. refl)

none_is : (bs : List Block) → (bs ≡ []) ↔ (none_open bs ≡ true)
none_is [] = (λ e. refl, λ e. refl)
none_is (b ∷ bs) = (λ e. absurd cc, λ e. absurd cc)

some_is : (bs : List Block) → (bs ≡ [] → ⊥) ↔ (not (none_open bs) ≡ true)
some_is [] = (λ h. absurd (h refl), λ e. absurd cc)
some_is (b ∷ bs) = (λ h. refl, λ e f. absurd cc)

choose_is : (k : Kind) → (IsChoose k → ⊥) ↔ (not (is_choose k) ≡ true)
choose_is (kind.Choose f) = (λ h. absurd (h tt), λ e. absurd cc)
choose_is kind.Seq = (λ h. refl, λ e x. x)
choose_is kind.Both = (λ h. refl, λ e x. x)
choose_is (kind.Otherwise f first) = (λ h. refl, λ e x. x)
choose_is (kind.Repeat n) = (λ h. refl, λ e x. x)

outside_is : (bs : List Block) → ((b : Block) (rest : List Block) → bs ≡ b ∷ rest → IsChoose b.kind → ⊥) ↔ (not (in_choose bs) ≡ true)
outside_is [] = (λ h. refl, λ e b rest are. absurd cc)
outside_is (b ∷ bs) = (
  λ h. (choose_is b.kind).0 (h b bs refl),
  λ e c rest are choose.
      let same : b ≡ c = cc in
      (choose_is b.kind).1 e (subst (λ (x : Block). IsChoose x.kind) (sym same) choose),
)

always_same : {A : Type 0} → A ↔ A
always_same = (λ x. x, λ x. x)

-- of three cases, where the first is none
limits : (G L B : Type 0) (t d : Bool) → (G → ⊥) → (L ↔ (t ≡ true)) → (B ↔ (d ≡ true)) → (G ⊎ (L ⊎ B)) ↔ ((t || d) ≡ true)
limits G L B t d g l b = (to, back)
  where
    to : G ⊎ (L ⊎ B) → (t || d) ≡ true
    to (inl x) = absurd (g x)
    to (inr (inl x)) = or_left t d (l.0 x)
    to (inr (inr x)) = or_right t d (b.0 x)

    back : (t || d) ≡ true → G ⊎ (L ⊎ B)
    back e = either t d e (λ h. inr (inl (l.1 h))) (λ h. inr (inr (b.1 h)))

at_least : (a b : ℕ) → (a ≤ b) ↔ (nat_le a b ≡ true)
at_least a b = (le-leb a b, leb-true a b)

-- ---- a line and its tests

module _ (m : PlantModel) (r : Reading) where
  -- the rows of the table, one by one
  pub by_row : {P : Type 0} (i : Item) (code : ℕ) → Applies m r i code → (code ≡ MALFORMED → IsOutOfPlace r i → P) → (code ≡ NAME_UNKNOWN → NamesUnknown m i → P) → (code ≡ LIMIT → PassesLimit r i → P)
      → (code ≡ BROKEN_GOAL → WantsBroken m i → P) → (code ≡ REPEATED_PAIR → NamesTwice i → P) → (code ≡ UNMATCHED → IsUnmatched r i → P) → P
  by_row i code (inl (e, h)) a b c d f g = a e h
  by_row i code (inr (inl (e, h))) a b c d f g = b e h
  by_row i code (inr (inr (inl (e, h)))) a b c d f g = c e h
  by_row i code (inr (inr (inr (inl (e, h))))) a b c d f g = d e h
  by_row i code (inr (inr (inr (inr (inl (e, h)))))) a b c d f g = f e h
  by_row i code (inr (inr (inr (inr (inr (e, h)))))) a b c d f g = g e h

  -- each test of the line decides its row of the item
  pub record Decided (i : Item) (l : Line) : Type 0 where
    pub place : IsOutOfPlace r i ↔ (out_of_place r.started l ≡ true)
    pub limit : PassesLimit r i ↔ (passes_limit r.count (length r.place.open_blocks) l ≡ true)
    pub broken : WantsBroken m i ↔ (list_any (is_broken_pair m) (asked_pairs l) ≡ true)
    pub twice : NamesTwice i ↔ (has_item_twice (asked_pairs l) ≡ true)
    pub unmatched : IsUnmatched r i ↔ (is_unmatched r.place.open_blocks l ≡ true)

  -- a code by its tests: the least that applies, or none does
  IsBy : Item → Option ℕ → Type 0
  IsBy i None = (code : ℕ) → Applies m r i code → ⊥
  IsBy i (Some code) = IsLeast (Applies m r i) code

  decide : (i : Item) (p l b t u : Bool) → (NamesUnknown m i → ⊥) → (IsOutOfPlace r i ↔ (p ≡ true)) → (PassesLimit r i ↔ (l ≡ true)) → (WantsBroken m i ↔ (b ≡ true)) → (NamesTwice i ↔ (t ≡ true))
      → (IsUnmatched r i ↔ (u ≡ true)) → IsBy i (least ((MALFORMED, p) ∷ (LIMIT, l) ∷ (BROKEN_GOAL, b) ∷ (REPEATED_PAIR, t) ∷ (UNMATCHED, u) ∷ []))
  unfolding IsBy
  decide i true l b t u n sp sl sb st su =
      (inl (refl, sp.1 refl), λ less lt a. by_row i less a (λ c x. omega (arith, c, lt)) (λ c x. omega (arith, c, lt)) (λ c x. omega (arith, c, lt)) (λ c x. omega (arith, c, lt)) (λ c x. omega (arith, c, lt)) (λ c x. omega (arith, c, lt)))
  decide i false true b t u n sp sl sb st su =
      (inr (inr (inl (refl, sl.1 refl))), λ less lt a. by_row i less a (λ c x. false_true (sp.0 x)) (λ c x. n x) (λ c x. omega (arith, c, lt)) (λ c x. omega (arith, c, lt)) (λ c x. omega (arith, c, lt)) (λ c x. omega (arith, c, lt)))
  decide i false false true t u n sp sl sb st su =
      (inr (inr (inr (inl (refl, sb.1 refl)))), λ less lt a. by_row i less a (λ c x. false_true (sp.0 x)) (λ c x. n x) (λ c x. false_true (sl.0 x)) (λ c x. omega (arith, c, lt)) (λ c x. omega (arith, c, lt)) (λ c x. omega (arith, c, lt)))
  decide i false false false true u n sp sl sb st su =
      (inr (inr (inr (inr (inl (refl, st.1 refl))))), λ less lt a. by_row i less a (λ c x. false_true (sp.0 x)) (λ c x. n x) (λ c x. false_true (sl.0 x)) (λ c x. false_true (sb.0 x)) (λ c x. omega (arith, c, lt)) (λ c x. omega (arith, c, lt)))
  decide i false false false false true n sp sl sb st su =
      (inr (inr (inr (inr (inr (refl, su.1 refl))))), λ less lt a. by_row i less a (λ c x. false_true (sp.0 x)) (λ c x. n x) (λ c x. false_true (sl.0 x)) (λ c x. false_true (sb.0 x)) (λ c x. false_true (st.0 x)) (λ c x. omega (arith, c, lt)))
  decide i false false false false false n sp sl sb st su =
      λ code a. by_row i code a (λ c x. false_true (sp.0 x)) (λ c x. n x) (λ c x. false_true (sl.0 x)) (λ c x. false_true (sb.0 x)) (λ c x. false_true (st.0 x)) (λ c x. false_true (su.0 x))

  -- ---- item by item

  lines_left : (MAX_LINES ≤ r.count) ↔ (nat_le MAX_LINES r.count ≡ true)
  lines_left = at_least MAX_LINES r.count

  blocks_left : (MAX_BLOCKS ≤ length r.place.open_blocks) ↔ (nat_le MAX_BLOCKS (length r.place.open_blocks) ≡ true)
  blocks_left = at_least MAX_BLOCKS (length r.place.open_blocks)

  nothing : ⊥ ↔ (false ≡ true)
  nothing = never (λ x. x)

  -- a line that is counted, and one that begins a block too
  line_limit : (G : Type 0) → (G → ⊥) → (G ⊎ ((MAX_LINES ≤ r.count) ⊎ ⊥)) ↔ ((nat_le MAX_LINES r.count || false) ≡ true)
  line_limit G g = limits G (MAX_LINES ≤ r.count) ⊥ (nat_le MAX_LINES r.count) false g lines_left nothing

  block_limit : (G : Type 0) → (G → ⊥)
      → (G ⊎ ((MAX_LINES ≤ r.count) ⊎ (MAX_BLOCKS ≤ length r.place.open_blocks))) ↔ ((nat_le MAX_LINES r.count || nat_le MAX_BLOCKS (length r.place.open_blocks)) ≡ true)
  block_limit G g =
      limits G (MAX_LINES ≤ r.count) (MAX_BLOCKS ≤ length r.place.open_blocks) (nat_le MAX_LINES r.count) (nat_le MAX_BLOCKS (length r.place.open_blocks)) g lines_left blocks_left

  reach_decided : (ps : List NamedPair) (qs : List Pair) → each_pair (mode_pair m) ps ≡ Some qs → Decided (Reach ps) (line.Reach qs)
  reach_decided ps qs h = record {
    place = opposite r.started;
    limit = line_limit ⊥ (λ x. x);
    broken = (
      λ x.
          let to = goes_to (mode_pair m) ps qs x.0 h x.2 in
          let same : to.0 ≡ x.1 = same_Some to.0 x.1 (sym to.2 ∙ x.3) in
          some_passes (is_broken_pair m) qs to.0 to.1 (ap (is_broken_pair m) same ∙ x.4),
      λ t.
          let q = passes_some (is_broken_pair m) qs t in
          let from = comes_from (mode_pair m) ps qs q.0 h q.1 in
          (from.0, q.0, from.1, from.2, q.2),
    );
    twice = (named_twice (component_of m) (mode_pair m) (mode_names m) ps qs h, twice_named (component_of m) (mode_pair m) (mode_names m) ps qs h);
    unmatched = nothing;
  }

  pub decided : (i : Item) (l : Line) → IsNamed m i l → (IsGreat i → ⊥) → Decided i l
  decided (Reach ps) l (qs, h, is) g = subst (Decided (Reach ps)) (sym is) (reach_decided ps qs h)
  decided Program l is g =
      subst (Decided Program) (sym is) (record { place = always_same; limit = limits ⊥ ⊥ ⊥ false false (λ x. x) nothing nothing; broken = nothing; twice = nothing; unmatched = nothing })
  decided (Await f) l is g =
      subst (Decided (Await f)) (sym is) (record { place = opposite r.started; limit = line_limit (IsGreat (Await f)) g; broken = nothing; twice = nothing; unmatched = nothing })
  decided Seq l is g = subst (Decided Seq) (sym is) (record { place = opposite r.started; limit = block_limit ⊥ g; broken = nothing; twice = nothing; unmatched = nothing })
  decided Both l is g = subst (Decided Both) (sym is) (record { place = opposite r.started; limit = block_limit ⊥ g; broken = nothing; twice = nothing; unmatched = nothing })
  decided (Choose f) l is g =
      subst (Decided (Choose f)) (sym is) (record { place = opposite r.started; limit = block_limit (IsGreat (Choose f)) g; broken = nothing; twice = nothing; unmatched = nothing })
  decided (Repeat n) l is g =
      subst (Decided (Repeat n)) (sym is) (record { place = opposite r.started; limit = block_limit (IsGreat (Repeat n)) g; broken = nothing; twice = nothing; unmatched = nothing })
  decided Otherwise l is g =
      subst (Decided Otherwise) (sym is)
      (record { place = opposite r.started; limit = line_limit ⊥ (λ x. x); broken = nothing; twice = nothing; unmatched = outside_is r.place.open_blocks })
  decided Done l is g =
      subst (Decided Done) (sym is) (record { place = opposite r.started; limit = line_limit ⊥ (λ x. x); broken = nothing; twice = nothing; unmatched = none_is r.place.open_blocks })
  decided End l is g =
      subst (Decided End) (sym is)
      (record { place = opposite r.started; limit = limits ⊥ ⊥ ⊥ false false (λ x. x) nothing nothing; broken = nothing; twice = nothing; unmatched = some_is r.place.open_blocks })

  -- ---- the room for a line

  and_both : (x y : Bool) → x ≡ true → y ≡ true → (x && y) ≡ true
  and_both true y e f = f
  and_both false y e f = false_true e

  -- a line that is taken may be counted
  pub room_here : (text : List ℕ) (l : Line) → IsSaid m r text (Ok (Some l)) → HasRoom r l
  room_here text l (i, s, said) between =
      let d = decided i l said.0 (λ g. said.1 LIMIT (inr (inr (inl (refl, inl g))))) in
      let not_full : MAX_LINES ≤ r.count → ⊥ = λ full.
      said.1 LIMIT (inr (inr (inl (refl, d.limit.1 (or_left (is_inside l && nat_le MAX_LINES r.count) (begins_block l && nat_le MAX_BLOCKS (length r.place.open_blocks)) (and_both (is_inside l) (nat_le MAX_LINES r.count) between (lines_left.0 full)))))))
      in
      omega (arith, not_full)

  -- ---- what lexemes say here

  -- the code of a line whose words are known
  abbrev pub code_here : Line → Option ℕ
  code_here l = code_of m r.started r.count r.place.open_blocks l

  by_code : (i : Item) (l : Line) → IsNamed m i l → ((code : ℕ) → AppliesToWords m i code → ⊥) → IsBy i (code_here l)
  unfolding code_of
  by_code i l named none =
      let d = decided i l named (λ g. none LIMIT (inr (refl, g))) in
      decide i (out_of_place r.started l) (passes_limit r.count (length r.place.open_blocks) l) (list_any (is_broken_pair m) (asked_pairs l)) (has_item_twice (asked_pairs l)) (is_unmatched r.place.open_blocks l)
      (λ u. none NAME_UNKNOWN (inl (refl, u))) d.place d.limit d.broken d.twice d.unmatched

  pub taken_here : (ls : List Lexeme) (l : Line) → IsSaidByWords m ls (Ok l) → None ≡ code_here l → IsSaidHere m r ls (Ok l)
  unfolding IsBy
  taken_here ls l (i, s, said) e =
      let h : IsBy i None = subst (IsBy i) (sym e) (by_code i l said.0 said.1) in
      (i, s, (said.0, h))

  pub refused_here : (ls : List Lexeme) (l : Line) (code : ℕ) → IsSaidByWords m ls (Ok l) → Some code ≡ code_here l → IsSaidHere m r ls (Err code)
  unfolding IsBy
  refused_here ls l code (i, s, said) e =
      let h : IsBy i (Some code) = subst (IsBy i) (sym e) (by_code i l said.0 said.1) in
      inr (i, s, h)

  -- ---- refusals of the words

  -- of a line whose words are refused: it isn't `program`
  not_first : (i : Item) (code : ℕ) → AppliesToWords m i code → (IsOutOfPlace r i → r.started ≡ false) × (r.started ≡ false → IsOutOfPlace r i)
  not_first Program code (inl (e, h)) = absurd h
  not_first Program code (inr (e, h)) = absurd h
  not_first (Reach ps) code h = (λ x. x, λ x. x)
  not_first (Await f) code h = (λ x. x, λ x. x)
  not_first Seq code h = (λ x. x, λ x. x)
  not_first Both code h = (λ x. x, λ x. x)
  not_first (Choose f) code h = (λ x. x, λ x. x)
  not_first Otherwise code h = (λ x. x, λ x. x)
  not_first (Repeat n) code h = (λ x. x, λ x. x)
  not_first Done code h = (λ x. x, λ x. x)
  not_first End code h = (λ x. x, λ x. x)

  malformed_first : (i : Item) → IsOutOfPlace r i → IsLeast (Applies m r i) MALFORMED
  malformed_first i h =
      (inl (refl, h), λ less lt a. by_row i less a (λ c x. omega (arith, c, lt)) (λ c x. omega (arith, c, lt)) (λ c x. omega (arith, c, lt)) (λ c x. omega (arith, c, lt)) (λ c x. omega (arith, c, lt)) (λ c x. omega (arith, c, lt)))

  wider : (i : Item) (code : ℕ) → AppliesToWords m i code → Applies m r i code
  wider i code (inl (e, h)) = inr (inl (e, h))
  wider i code (inr (e, h)) = inr (inr (inl (e, inl h)))

  -- a code of the words is at most that of a limit
  low : (i : Item) (code : ℕ) → AppliesToWords m i code → code ≤ LIMIT
  low i code (inl (e, h)) = omega (arith, e)
  low i code (inr (e, h)) = omega (arith, e)

  still_least : (i : Item) (code : ℕ) → r.started ≡ true → IsLeast (AppliesToWords m i) code → IsLeast (Applies m r i) code
  still_least i code started (h, none) =
      let small = low i code h in
      let n = not_first i code h in (
        wider i code h,
        λ less lt a.
            by_row i less a (λ c x. let f : true ≡ false = sym started ∙ n.0 x in absurd cc) (λ c x. none less lt (inl (c, x))) (λ c x. omega (arith, c, lt, small)) (λ c x. omega (arith, c, lt, small)) (λ c x. omega (arith, c, lt, small))
            (λ c x. omega (arith, c, lt, small)),
      )

  words_refused : (ls : List Lexeme) (code : ℕ) → r.started ≡ true → IsSaidByWords m ls (Err code) → IsSaidHere m r ls (Err code)
  words_refused ls code started (inl (is, none)) = inl (is, none)
  words_refused ls code started (inr (i, s, h)) = inr (i, s, still_least i code started h)

  words_early : (ls : List Lexeme) (code : ℕ) → r.started ≡ false → IsSaidByWords m ls (Err code) → IsSaidHere m r ls (Err MALFORMED)
  words_early ls code early (inl (is, none)) = inl (refl, none)
  words_early ls code early (inr (i, s, h)) = inr (i, s, malformed_first i ((not_first i code h.0).1 early))

  pub stopped_here : (ls : List Lexeme) (started : Bool) (stop : Stop) → started ≡ r.started → Answers (let x : Result Line Stop = Err stop in x) (IsSaidByWords m ls) → Answers (let x : Result Line Stop = Err (stop_here started stop) in x) (IsSaidHere m r ls)
  stopped_here ls started stops.Memory e h = tt
  stopped_here ls true (stops.Refused refusal) e h = (words_refused ls refusal.code (sym e) h.0, h.1)
  stopped_here ls false (stops.Refused refusal) e h = (words_early ls refusal.code (sym e) h.0, refl)

  -- ---- what an item says here, by what its words say

  abbrev by_option : Option ℕ → Line → Result Line ℕ
  by_option None l = Ok l
  by_option (Some code) l = Err code

  -- what a line says here whose words say so
  abbrev pub here : Result Line ℕ → Result Line ℕ
  here (Ok l) = by_option (code_here l) l
  here (Err code) = if r.started then Err code else Err MALFORMED

  option_here : (i : Item) (l : Line) (o : Option ℕ) → IsNamed m i l → IsBy i o → SaidByItem grammar (IsNamed m) (Applies m r) i (by_option o l)
  unfolding IsBy
  option_here i l None named h = (named, h)
  option_here i l (Some code) named h = h

  refusal_here : (i : Item) (code : ℕ) (b : Bool) → r.started ≡ b → IsLeast (AppliesToWords m i) code → SaidByItem grammar (IsNamed m) (Applies m r) i (if b then Err code else Err MALFORMED)
  refusal_here i code true started h = still_least i code started h
  refusal_here i code false early h = malformed_first i ((not_first i code h.0).1 early)

  pub item_here : (i : Item) (said : Result Line ℕ) → SaidByItem grammar (IsNamed m) (AppliesToWords m) i said → SaidByItem grammar (IsNamed m) (Applies m r) i (here said)
  item_here i (Ok l) h = option_here i l (code_here l) h.0 (by_code i l h.0 h.1)
  item_here i (Err code) h = refusal_here i code r.started refl h
