-- Lines of bytes are read as the lines that they say are run.
use Rattle.std.proofs.Common.{◌≡◌, ◌<◌, ℕ, Bool, true, false, List, [], ◌∷◌, length, Some, None, inl, inr, refl, sym, ap, subst, ◌∙◌, arith}
use Rattle.std.proofs.lemmas.Bool.{false_from_ne_true}
use Rattle.cca_base.specs.declared.codes.TheConstants.{MALFORMED, NAME_UNKNOWN, LIMIT, BROKEN_GOAL, REPEATED_PAIR, UNMATCHED}
use Rattle.cca_base.specs.PlantModel.{PlantModel}
use Rattle.control_syntax.specs.declared.line.Line.{Line}
use Rattle.control_syntax.specs.declared.part.Part.{Part}
use Rattle.control_syntax.specs.Codes.{Applies, IsNamed}
use Rattle.control_syntax.specs.Items.{Item}
use Rattle.control_syntax.specs.Reading.{Reading, after}
use Rattle.control_syntax.specs.Tests.{is_unmatched, out_of_place, passes_limit}
use Rattle.control_syntax.specs.Written.{AreLines, AreRead, MayStand}
use Rattle.control_syntax.proofs.CodesHere.{by_row, decided}

both : {P : Type 0} (b : Bool) → b ≡ true → b ≡ false → P
both true e f = absurd cc
both false e f = absurd cc

-- no code of the place applies to the line
pub record MayCome (r : Reading) (l : Line) : Type 0 where
  pub place : out_of_place r.started l ≡ false
  pub limit : passes_limit r.count (length r.place.open_blocks) l ≡ false
  pub matched : is_unmatched r.place.open_blocks l ≡ false

-- the lines come one after the other, and this was read in the end
abbrev pub Runs : Reading → List Line → Reading → Type 0
Runs r [] next = next ≡ r
Runs r (l ∷ ls) next = (r.whole ≡ None) × MayCome r l × Runs (after r l) ls next

module _ (m : PlantModel) where
  pub stands : (r : Reading) (i : Item) (l : Line) → IsNamed m i l → ((code : ℕ) → Applies m r i code → ⊥) → MayStand m i × MayCome r l
  stands r i l named none =
      let d = decided m r i l named (λ g. none LIMIT (inr (inr (inl (refl, inl g))))) in (
        record {
          known = λ x. none NAME_UNKNOWN (inr (inl (refl, x)));
          small = λ x. none LIMIT (inr (inr (inl (refl, inl x))));
          sound = λ x. none BROKEN_GOAL (inr (inr (inr (inl (refl, x)))));
          once = λ x. none REPEATED_PAIR (inr (inr (inr (inr (inl (refl, x))))));
        },
        record {
          place = false_from_ne_true (out_of_place r.started l) (λ t. none MALFORMED (inl (refl, d.place.1 t)));
          limit = false_from_ne_true (passes_limit r.count (length r.place.open_blocks) l) (λ t. none LIMIT (inr (inr (inl (refl, d.limit.1 t)))));
          matched = false_from_ne_true (is_unmatched r.place.open_blocks l) (λ t. none UNMATCHED (inr (inr (inr (inr (inr (refl, d.unmatched.1 t)))))));
        },
      )

  taken : (r : Reading) (i : Item) (l : Line) → IsNamed m i l → MayStand m i → MayCome r l → (code : ℕ) → Applies m r i code → ⊥
  taken r i l named s c code a =
      let d = decided m r i l named s.small in
      by_row m r i code a (λ e x. both (out_of_place r.started l) (d.place.0 x) c.place) (λ e x. s.known x) (λ e x. both (passes_limit r.count (length r.place.open_blocks) l) (d.limit.0 x) c.limit) (λ e x. s.sound x)
      (λ e x. s.once x) (λ e x. both (is_unmatched r.place.open_blocks l) (d.unmatched.0 x) c.matched)

  -- ---- from what is read to lines

  not_both : {P : Type 0} (part : Part) (next r : Reading) → next ≡ r → r.whole ≡ None → next.whole ≡ Some part → P
  not_both part next r e none some = let h : None ≡ Some part = sym none ∙ ap (λ (x : Reading). x.whole) (sym e) ∙ some in absurd cc

  some_texts : (texts : List (List ℕ)) (part : Part) (r next : Reading) → AreRead m r texts next → r.whole ≡ None → next.whole ≡ Some part → 0 < length texts
  some_texts [] part r next h none some = not_both part next r h none some
  some_texts (text ∷ texts) part r next h none some = omega arith

  pub to_lines : (texts : List (List ℕ)) (part : Part) (r next : Reading) → AreRead m r texts next → next.whole ≡ Some part → (ls : List Line) × AreLines m texts ls × Runs r ls next
  to_lines [] part r next h some = ([], refl, h)
  to_lines (text ∷ texts) part r next (none, (None, s, h)) some =
      let rest = to_lines texts part r next h some in
      (rest.0, inl (s, some_texts texts part r next h none some, rest.1), rest.2)
  to_lines (text ∷ texts) part r next (none, (Some l, (i, spells, said), h)) some =
      let rest = to_lines texts part (after r l) next h some in
      let may = stands r i l said.0 said.1 in
      (l ∷ rest.0, inr (i, l, rest.0, spells, may.0, said.0, refl, rest.1), (none, may.1, rest.2))

  -- ---- and back

  some_lines : (texts : List (List ℕ)) (ls : List Line) → 0 < length texts → AreLines m texts ls → 0 < length ls
  some_lines [] ls some h = absurd (omega (arith, some))
  some_lines (text ∷ texts) ls some (inl (blank, more, h)) = some_lines texts ls more h
  some_lines (text ∷ texts) ls some (inr (i, l, rest, spells, may, named, e, h)) = omega (arith, ap length e)

  going : (ls : List Line) (r next : Reading) → 0 < length ls → Runs r ls next → r.whole ≡ None
  going [] r next some h = absurd (omega (arith, some))
  going (l ∷ ls) r next some h = h.0

  pub from_lines : (texts : List (List ℕ)) (ls : List Line) (r next : Reading) → AreLines m texts ls → Runs r ls next → AreRead m r texts next
  from_lines [] ls r next e h = subst (λ (x : List Line). Runs r x next) e h
  from_lines (text ∷ texts) ls r next (inl (blank, more, lines)) h =
      (going ls r next (some_lines texts ls more lines) h, (None, blank, from_lines texts ls r next lines h))
  from_lines (text ∷ texts) ls r next (inr (i, l, rest, spells, may, named, e, lines)) h =
      let run = subst (λ (x : List Line). Runs r x next) e h in
      (run.0, (Some l, (i, spells, (named, taken r i l named may run.1)), from_lines texts rest (after r l) next lines run.2))
