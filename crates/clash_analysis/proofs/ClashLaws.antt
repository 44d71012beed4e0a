-- A clash, one entry back.
use Rattle.std.proofs.Common.{◌≡◌, ℕ, Bool, true, false, List, [], ◌∷◌, ◌++◌, length, slice_index, bit_and, refl, sym, ap, subst, ◌∙◌}
use Rattle.std.proofs.lemmas.Bool.{and_from, both_ways, false_from_ne_true}
use Rattle.cca_base.specs.Sets.{has}
use Rattle.cca_base.proofs.SetLaws.{has-and, has-empty}
use Rattle.cca_base.specs.declared.cube.Pair.{Pair}
use Rattle.clash_analysis.specs.declared.entry.Entry.{Entry}
use Rattle.clash_analysis.specs.declared.entry.Why.{Why}
use Rattle.clash_analysis.specs.declared.entry.Why.TheVariants.{Assumed, Chosen, Because}
use Rattle.clash_analysis.specs.Trails.{AreApart, narrowed, undone}
use Rattle.clash_analysis.specs.Learning.{IsBlamed, IsResolved}
use Rattle.clash_analysis.specs.Laws.{Passes}
use Rattle.clash_analysis.specs.Clashes.{IsClash, IsNoChoice, NoneHas}
use Rattle.clash_analysis.proofs.TrailLaws.{popped}
use Rattle.clash_analysis.proofs.LearnLaws.{resolved_apart, resolved_learned}
use Rattle.clash_analysis.proofs.UndoLaws.{left_long, nothing_left, others_apart}

-- sets that share nothing
pub share_none : (one other : ℕ) → bit_and one other ≡ 0 → (a : ℕ) → has other a ≡ true → has one a ≡ false
share_none one other e a h = false_from_ne_true (has one a) (λ is. both_ways (has 0 a) (has-empty a) (ap (λ s. has s a) (sym e) ∙ has-and one other a ∙ and_from (has one a) (has other a) is h))

module _ (want : List ℕ → Bool) (pairs : List Pair) (start : List ℕ) (trail : List Entry) (dom learn : List ℕ) (e : Entry) (blamed : ℕ → Bool) (clash : IsClash want pairs start (trail ++ e ∷ []) dom blamed learn) where
  apart_after : AreApart (narrowed (undone dom e) e) learn
  apart_after = subst (λ d. AreApart d learn) (popped (Passes want) pairs start dom trail e clash.right).2 clash.apart

  long_before : length (undone dom e) ≡ length start
  long_before = ap length (popped (Passes want) pairs start dom trail e clash.right).0.leads ∙ left_long (Passes want) pairs start trail

  pub back_resolved : (new : List ℕ) (more : ℕ → Bool) → IsResolved start (undone dom e) e learn new → ((v : ℕ) → blamed v ≡ true → more v ≡ true) → IsBlamed more e.subject e.why
      → IsClash want pairs start trail (undone dom e) more new
  back_resolved new more resolved grown is =
      let p = popped (Passes want) pairs start dom trail e clash.right in
      record {
        within = clash.within;
        right = p.0;
        long = resolved.long ∙ clash.long;
        learned = resolved_learned (Passes want) pairs start (undone dom e) learn new e blamed more clash.within long_before clash.long p.1 resolved grown is clash.learned;
        apart = resolved_apart (Passes want) pairs start (undone dom e) learn new e p.1 resolved apart_after;
      }

  pub back_other : bit_and (slice_index learn e.subject) e.before ≡ 0 → IsClash want pairs start trail (undone dom e) blamed learn
  back_other none =
      let p = popped (Passes want) pairs start dom trail e clash.right in
      record {
        within = clash.within;
        right = p.0;
        long = clash.long;
        learned = clash.learned;
        apart = others_apart (Passes want) pairs (undone dom e) learn e p.1 (share_none (slice_index learn e.subject) e.before none) apart_after;
      }

-- the subject of what the question says is blamed
pub blamed_assumed : (blamed : ℕ → Bool) (u : ℕ) (why : Why) → Assumed ≡ why → blamed u ≡ true → IsBlamed blamed u why
blamed_assumed blamed u why e is = subst (IsBlamed blamed u) e is

-- of what follows nothing is
pub blamed_other : (blamed : ℕ → Bool) (u : ℕ) (why : Why) → IsNoChoice why → (why ≡ Assumed → ⊥) → IsBlamed blamed u why
blamed_other blamed u Assumed plain none = absurd (none refl)
blamed_other blamed u Chosen plain none = absurd plain
blamed_other blamed u (Because set) plain none = tt

-- with nothing left to take back
pub none_has : (want : List ℕ → Bool) (pairs : List Pair) (start dom learn : List ℕ) (blamed : ℕ → Bool) → IsClash want pairs start [] dom blamed learn → NoneHas want pairs blamed
none_has want pairs start dom learn blamed clash = nothing_left (Passes want) pairs start learn blamed clash.within clash.long (subst (λ d. AreApart d learn) clash.right.leads clash.apart) clash.learned
