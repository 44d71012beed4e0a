-- What was read may be run on the model, line by line.
use Rattle.std.proofs.Common.{Contains, ◌≡◌, ◌<◌, ◌≤◌, ℕ, false, List, [], ◌∷◌, ◌++◌, All, Option, Some, None, Ok, inl, inr, refl, sym, subst, arith}
use Rattle.std.proofs.lemmas.List.Elements.{All-cons, All-head, All-nil, All-push, All-tail}
use Rattle.std.proofs.lemmas.Bool.{false_from_ne_true}
use Rattle.list_laws.proofs.Members.{all_from}
use Rattle.cca_base.specs.declared.codes.TheConstants.{NAME_UNKNOWN, LIMIT, BROKEN_GOAL, REPEATED_PAIR}
use Rattle.cca_base.specs.declared.cube.Pair.{Pair}
use Rattle.cca_base.specs.Model.{HasMode, IsFormula, is_broken}
use Rattle.cca_base.specs.PlantModel.{PlantModel}
use Rattle.formula_syntax.specs.Meanings.{names_unknown, is_deep}
use Rattle.script_reader.specs.EventCodes.{has_item_twice}
use Rattle.script_reader.specs.Named.{component_of, mode_pair}
use Rattle.script_reader.proofs.EachPair.{as_many, comes_from}
use Rattle.script_reader.proofs.EventsMayCome.{mode_is, once_each}
use Rattle.script_reader.proofs.NamedItems.{mode_names, twice_named}
use Rattle.control_syntax.specs.declared.block.Block.{Block}
use Rattle.control_syntax.specs.declared.block.Kind.{Kind}
use Rattle.control_syntax.specs.declared.block.Kind.TheVariants as kind
use Rattle.control_syntax.specs.declared.line.Line.{Line}
use Rattle.control_syntax.specs.declared.line.Line.TheVariants as line
use Rattle.control_syntax.specs.declared.part.Part.{Part, roll-Part}
use Rattle.control_syntax.specs.declared.part.Part.TheOpen.{Part-F}
use Rattle.control_syntax.specs.Codes.{Applies, IsNamed, IsSaid}
use Rattle.control_syntax.specs.Items.{Item, Program, Reach, Await, Seq, Both, Choose, Otherwise, Repeat, Done, End, IsSpelled}
use Rattle.control_syntax.specs.Kept.{IsGoal, IsSound, IsSoundBlock, IsSoundKind, MayRunSoFar}
use Rattle.control_syntax.specs.Reading.{Place, Reading, after, block_part, closed_in, inside, led, moved, put_in, seq, turned_block, turned_in}
use Rattle.formula_syntax.proofs.FormulaTexts.{formula_of}
use Rattle.control_syntax.proofs.SoundParts.{sound_await, sound_both, sound_choose, sound_reach, sound_repeat, sound_seq}

module _ (m : PlantModel) where
  -- what the line adds may be run
  abbrev IsSoundLine : Line → Type 0
  IsSoundLine (line.Reach g) = IsSound m (roll-Part (Part-F.Reach g))
  IsSoundLine (line.Await f) = IsSound m (roll-Part (Part-F.Await f))
  IsSoundLine (line.Choose f) = IsFormula m f
  IsSoundLine (line.Repeat n) = 1 ≤ n
  IsSoundLine line.Program = Unit {0}
  IsSoundLine line.Seq = Unit {0}
  IsSoundLine line.Both = Unit {0}
  IsSoundLine line.Otherwise = Unit {0}
  IsSoundLine line.Done = Unit {0}
  IsSoundLine line.End = Unit {0}

  -- ---- what an item says on which no code applies

  module _ (r : Reading) where
    item_sound : (i : Item) (l : Line) → IsSpelled i → IsNamed m i l → ((code : ℕ) → Applies m r i code → ⊥) → IsSoundLine l
    item_sound (Reach ps) l h (qs, e, is) none =
        let once = false_from_ne_true (has_item_twice qs) (λ t. none REPEATED_PAIR (inr (inr (inr (inr (inl (refl, twice_named (component_of m) (mode_pair m) (mode_names m) ps qs e t))))))) in
        let mode : (q : Pair) → Contains qs q → HasMode m q.item q.value = λ q among. let from = comes_from (mode_pair m) ps qs q e among in mode_is m from.0 q from.2 in
        let whole : (q : Pair) → Contains qs q → is_broken m.moves q.item q.value ≡ false = λ q among.
        let from = comes_from (mode_pair m) ps qs q e among in
        false_from_ne_true (is_broken m.moves q.item q.value) (λ t. none BROKEN_GOAL (inr (inr (inr (inl (refl, (from.0, q, from.1, from.2, t)))))))
        in
        let goal : IsGoal qs = (omega (arith, as_many (mode_pair m) ps qs e, h.0), once_each qs once) in
        subst IsSoundLine (sym is) (sound_reach m qs goal (all_from (λ (q : Pair). HasMode m q.item q.value) qs mode) (all_from (λ (q : Pair). is_broken m.moves q.item q.value ≡ false) qs whole))
    item_sound (Await text) l h is none =
        let known = false_from_ne_true (names_unknown m text) (λ u. none NAME_UNKNOWN (inr (inl (refl, u)))) in
        let shallow = false_from_ne_true (is_deep text) (λ d. none LIMIT (inr (inr (inl (refl, inl d))))) in
        subst IsSoundLine (sym is) (sound_await m _ (formula_of m text known shallow))
    item_sound (Choose text) l h is none =
        let known = false_from_ne_true (names_unknown m text) (λ u. none NAME_UNKNOWN (inr (inl (refl, u)))) in
        let shallow = false_from_ne_true (is_deep text) (λ d. none LIMIT (inr (inr (inl (refl, inl d))))) in
        subst IsSoundLine (sym is) (formula_of m text known shallow)
    item_sound (Repeat n) l h is none =
        let some : n < 1 → ⊥ = λ few. none LIMIT (inr (inr (inl (refl, inl (inl few))))) in
        subst IsSoundLine (sym is) (let one : 1 ≤ n = omega (arith, some) in one)
    item_sound Program l h is none = subst IsSoundLine (sym is) tt
    item_sound Seq l h is none = subst IsSoundLine (sym is) tt
    item_sound Both l h is none = subst IsSoundLine (sym is) tt
    item_sound Otherwise l h is none = subst IsSoundLine (sym is) tt
    item_sound Done l h is none = subst IsSoundLine (sym is) tt
    item_sound End l h is none = subst IsSoundLine (sym is) tt

  -- ---- places

  -- all parts of a place, and its open blocks
  record IsSoundPlace (place : Place) : Type 0 where
    parts : All (IsSound m) place.parts
    blocks : All (IsSoundBlock m) place.open_blocks

  put_sound : (part : Part) (parts : List Part) (bs : List Block) → IsSound m part → All (IsSound m) parts → All (IsSoundBlock m) bs → IsSoundPlace (put_in part parts bs)
  put_sound part parts [] h ps none = record { parts = All-push (IsSound m) parts part ps h; blocks = none }
  put_sound part parts (b ∷ bs) h ps blocks =
      let own = All-head (IsSoundBlock m) b bs blocks in
      record {
        parts = ps;
        blocks = All-cons (IsSoundBlock m) (record { kind = b.kind; parts = b.parts ++ part ∷ [] }) bs (own.0, All-push (IsSound m) b.parts part own.1 h) (All-tail (IsSoundBlock m) b bs blocks);
      }

  part_sound : (k : Kind) (parts : List Part) → IsSoundKind m k → All (IsSound m) parts → IsSound m (block_part k parts)
  part_sound kind.Seq parts h ps = sound_seq m parts ps
  part_sound kind.Both parts h ps = sound_both m parts ps
  part_sound (kind.Choose f) parts h ps = sound_choose m f (seq parts) (seq []) h (sound_seq m parts ps) (sound_seq m [] (All-nil (IsSound m)))
  part_sound (kind.Otherwise f first) parts h ps = sound_choose m f (seq first) (seq parts) h.0 (sound_seq m first h.1) (sound_seq m parts ps)
  part_sound (kind.Repeat n) parts h ps = sound_repeat m n (seq parts) h (sound_seq m parts ps)

  closed_sound : (parts : List Part) (bs : List Block) → All (IsSound m) parts → All (IsSoundBlock m) bs → IsSoundPlace (closed_in parts bs)
  closed_sound parts [] ps blocks = record { parts = ps; blocks = blocks }
  closed_sound parts (b ∷ bs) ps blocks =
      let own = All-head (IsSoundBlock m) b bs blocks in
      put_sound (block_part b.kind b.parts) parts bs (part_sound b.kind b.parts own.0 own.1) ps (All-tail (IsSoundBlock m) b bs blocks)

  turned_sound : (k : Kind) (parts : List Part) → IsSoundKind m k → All (IsSound m) parts → IsSoundBlock m (turned_block k parts)
  turned_sound (kind.Choose f) parts h ps = ((h, ps), All-nil (IsSound m))
  turned_sound kind.Seq parts h ps = (h, ps)
  turned_sound kind.Both parts h ps = (h, ps)
  turned_sound (kind.Otherwise f first) parts h ps = (h, ps)
  turned_sound (kind.Repeat n) parts h ps = (h, ps)

  turned_in_sound : (bs : List Block) → All (IsSoundBlock m) bs → All (IsSoundBlock m) (turned_in bs)
  turned_in_sound [] blocks = blocks
  turned_in_sound (b ∷ bs) blocks =
      let own = All-head (IsSoundBlock m) b bs blocks in
      All-cons (IsSoundBlock m) (turned_block b.kind b.parts) bs (turned_sound b.kind b.parts own.0 own.1) (All-tail (IsSoundBlock m) b bs blocks)

  opened_sound : (k : Kind) (place : Place) → IsSoundKind m k → IsSoundPlace place → All (IsSoundBlock m) (record { kind = k; parts = [] } ∷ place.open_blocks)
  opened_sound k place h p = All-cons (IsSoundBlock m) (record { kind = k; parts = [] }) place.open_blocks (h, All-nil (IsSound m)) p.blocks

  moved_sound : (l : Line) (place : Place) → IsSoundLine l → IsSoundPlace place → IsSoundPlace (moved l place)
  moved_sound (line.Reach g) place h p = put_sound _ place.parts place.open_blocks h p.parts p.blocks
  moved_sound (line.Await f) place h p = put_sound _ place.parts place.open_blocks h p.parts p.blocks
  moved_sound line.Seq place h p = record { parts = p.parts; blocks = opened_sound kind.Seq place tt p }
  moved_sound line.Both place h p = record { parts = p.parts; blocks = opened_sound kind.Both place tt p }
  moved_sound (line.Choose f) place h p = record { parts = p.parts; blocks = opened_sound (kind.Choose f) place h p }
  moved_sound (line.Repeat n) place h p = record { parts = p.parts; blocks = opened_sound (kind.Repeat n) place h p }
  moved_sound line.Otherwise place h p = record { parts = p.parts; blocks = turned_in_sound place.open_blocks p.blocks }
  moved_sound line.Done place h p = closed_sound place.parts place.open_blocks p.parts p.blocks
  moved_sound line.Program place h p = p
  moved_sound line.End place h p = p

  -- ---- lines

  place_of : (r : Reading) → MayRunSoFar m r → IsSoundPlace r.place
  place_of r h = record { parts = h.parts; blocks = h.blocks }

  inside_sound : (l : Line) (r : Reading) → IsSoundLine l → MayRunSoFar m r → MayRunSoFar m (inside l r)
  inside_sound l r s h = let p = moved_sound l r.place s (place_of r h) in record { parts = p.parts; blocks = p.blocks; whole = h.whole }

  after_sound : (l : Line) (r : Reading) → IsSoundLine l → MayRunSoFar m r → MayRunSoFar m (after r l)
  after_sound line.Program r s h = record { parts = h.parts; blocks = h.blocks; whole = h.whole }
  after_sound line.End r s h = record { parts = All-nil (IsSound m); blocks = All-nil (IsSoundBlock m); whole = sound_seq m r.place.parts h.parts }
  after_sound (line.Reach g) r s h = inside_sound (line.Reach g) r s h
  after_sound (line.Await f) r s h = inside_sound (line.Await f) r s h
  after_sound line.Seq r s h = inside_sound line.Seq r s h
  after_sound line.Both r s h = inside_sound line.Both r s h
  after_sound (line.Choose f) r s h = inside_sound (line.Choose f) r s h
  after_sound (line.Repeat n) r s h = inside_sound (line.Repeat n) r s h
  after_sound line.Otherwise r s h = inside_sound line.Otherwise r s h
  after_sound line.Done r s h = inside_sound line.Done r s h

  -- what is read behind a line that is taken may be run
  pub led_sound : (r : Reading) (text : List ℕ) (said : Option Line) → IsSaid m r text (Ok said) → MayRunSoFar m r → MayRunSoFar m (led r said)
  led_sound r text None s h = h
  led_sound r text (Some l) (i, (ts, e, spelled), said) h = after_sound l r (item_sound r i l spelled.1 said.0 said.1) h
