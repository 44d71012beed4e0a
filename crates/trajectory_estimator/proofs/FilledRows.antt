-- The numbers in the row before a record are written one by one, then row by row.
use Rattle.std.proofs.Common.{◌≡◌, ◌≢◌, ℕ, ◌<◌, ◌≤◌, ◌+◌, ◌-◌, ◌*◌, List, length, IfSome, Option, None, Some, slice_index_or, refl, sym, ap, subst, ◌∙◌, inl, inr, arith}
use Rattle.std.proofs.lemmas.Bool.{cases_lt}
use Rattle.std.proofs.lemmas.Option.{same_Some}
use Rattle.cca_base.specs.declared.limits.TheConstants.{MAX_COST}
use Rattle.trajectory_estimator.specs.Rests.{AreRestsFrom, AreTotals, IsLeastFrom, KeepsRows, MayStand, modes_of, row_at, total_of}
use Rattle.trajectory_estimator.specs.Steps.{AreCheap}
use Rattle.trajectory_estimator.specs.Windows.{room_of}
use Rattle.trajectory_estimator.specs.declared.component_query.ComponentQuery.{ComponentQuery}
use Rattle.trajectory_estimator.specs.declared.record.TheConstants.{MAX_WINDOW}
use Rattle.trajectory_estimator.specs.declared.step.Step.{Step}

-- ---- one row

module _ (x : ComponentQuery) (at : ℕ) where
  -- the numbers of the modes below a bound are written
  pub record AreWritten (bound : ℕ) (old new : List (Option ℕ)) : Type 0 where
    pub kept : KeepsRows at old new
    pub totals : (from : ℕ) → from < bound → MayStand x at from
        → (step : Option Step) × IsLeastFrom x at (row_at old (at + 1)) from step × (slice_index_or (row_at new at) from None ≡ total_of step)
    pub cheap : (most from rest : ℕ) → from < bound → AreCheap (modes_of x) most (row_at old (at + 1)) → slice_index_or (row_at new at) from None ≡ Some rest → rest ≤ most + MAX_COST

  pub written_none : (room : List (Option ℕ)) → AreWritten 0 room room
  written_none room = record {
    kept = (refl, λ other differs. refl);
    totals = λ from below may. absurd (omega (arith, below));
    cheap = λ most from rest below cheap e. absurd (omega (arith, below));
  }

  -- the row behind is as before
  pub same_behind : (bound : ℕ) (old new : List (Option ℕ)) → AreWritten bound old new → row_at new (at + 1) ≡ row_at old (at + 1)
  same_behind bound old new h = h.kept.1 (at + 1) (omega arith)

  module _ (bound : ℕ) (old now next : List (Option ℕ)) (total : Option ℕ) (h : AreWritten bound old now)
      (kept : KeepsRows at now next) (here : slice_index_or (row_at next at) bound None ≡ total)
      (others : (other : ℕ) → other ≢ bound → slice_index_or (row_at next at) other None ≡ slice_index_or (row_at now at) other None) where
    abbrev behind : List (Option ℕ)
    behind = row_at old (at + 1)

    pub written_more : (MayStand x at bound → (step : Option Step) × IsLeastFrom x at behind bound step × (total ≡ total_of step))
        → ((most : ℕ) → AreCheap (modes_of x) most behind → IfSome total (λ n. n ≤ most + MAX_COST)) → AreWritten (bound + 1) old next
    written_more least few = record {
      kept = (kept.0 ∙ h.kept.0, λ other differs. kept.1 other differs ∙ h.kept.1 other differs);
      totals = λ from below may. elim (cases_lt from bound) [
        | inl less ↦
            let (step, is, e) = h.totals from less may in
            (step, is, others from (omega (arith, less)) ∙ e)
        | inr more ↦
            let e : bound ≡ from = omega (arith, below, more) in
            subst (λ k. (step : Option Step) × IsLeastFrom x at behind k step × (slice_index_or (row_at next at) k None ≡ total_of step)) e
            (let (step, is, f) = least (subst (MayStand x at) (sym e) may) in (step, is, here ∙ f))
      ];
      cheap = λ most from rest below cheap e. elim (cases_lt from bound) [
        | inl less ↦ h.cheap most from rest less cheap (sym (others from (omega (arith, less))) ∙ e)
        | inr more ↦
            let same : bound ≡ from = omega (arith, below, more) in
            let is : total ≡ Some rest = sym here ∙ ap (λ k. slice_index_or (row_at next at) k None) same ∙ e in
            subst (λ o. IfSome o (λ n. n ≤ most + MAX_COST)) is (few most cheap)
      ];
    }

  pub all_totals : (bound : ℕ) (old new : List (Option ℕ)) → modes_of x ≤ bound → AreWritten bound old new → AreTotals x at (row_at new (at + 1)) (row_at new at)
  all_totals bound old new all h =
      subst (λ behind. AreTotals x at behind (row_at new at)) (sym (same_behind bound old new h)) (λ from mode may. h.totals from (omega (arith, mode, all)) may)

  pub all_cheap : (bound : ℕ) (old new : List (Option ℕ)) → modes_of x ≤ bound → AreWritten bound old new
      → (most : ℕ) → AreCheap (modes_of x) most (row_at old (at + 1)) → AreCheap (modes_of x) (most + MAX_COST) (row_at new at)
  all_cheap bound old new all h most cheap mode rest few e = h.cheap most mode rest (omega (arith, few, all)) cheap e

-- ---- the last row

abbrev pub AreNothing : ℕ → ℕ → List (Option ℕ) → Type 0
AreNothing at bound room = (mode : ℕ) → mode < bound → slice_index_or (row_at room at) mode None ≡ Some 0

pub nothing_none : (at : ℕ) (room : List (Option ℕ)) → AreNothing at 0 room
nothing_none at room mode below = absurd (omega (arith, below))

pub nothing_more : (at bound : ℕ) (now next : List (Option ℕ)) → AreNothing at bound now → slice_index_or (row_at next at) bound None ≡ Some 0
    → ((other : ℕ) → other ≢ bound → slice_index_or (row_at next at) other None ≡ slice_index_or (row_at now at) other None) → AreNothing at (bound + 1) next
nothing_more at bound now next h here others mode below = elim (cases_lt mode bound) [
  | inl less ↦ others mode (omega (arith, less)) ∙ h mode less
  | inr more ↦
      let e : bound ≡ mode = omega (arith, below, more) in
      subst (λ k. slice_index_or (row_at next at) k None ≡ Some 0) e here
]

-- ---- row by row

module _ (x : ComponentQuery) where
  pub rests_none : (room : List (Option ℕ)) → length room ≡ room_of x.query.now → AreNothing (length x.query.now.records) (modes_of x) room
      → AreRestsFrom x (length x.query.now.records) room
  rests_none room full last = record {
    full = full;
    last = last;
    each = λ at from below. absurd (omega (arith, from, below));
    cheap = λ at from upto mode rest few e.
        let same : at ≡ length x.query.now.records = omega (arith, from, upto) in
        let nothing : Some 0 ≡ Some rest = sym (last mode few) ∙ ap (λ k. slice_index_or (row_at room k) mode None) (sym same) ∙ e in
        omega (arith, same_Some 0 rest nothing);
  }

  -- what stands is small enough to add to
  pub rests_few : (bound : ℕ) (room : List (Option ℕ)) → AreRestsFrom x bound room → length x.query.now.records ≤ MAX_WINDOW → (at : ℕ) → bound ≤ at → at ≤ length x.query.now.records
      → AreCheap (modes_of x) (MAX_WINDOW * MAX_COST) (row_at room at)
  rests_few bound room h few at from upto mode rest has e = omega (arith, h.cheap at from upto mode rest has e, few)

  module _ (bound : ℕ) (old new : List (Option ℕ)) (h : AreRestsFrom x (bound + 1) old) (within : bound < length x.query.now.records) (kept : KeepsRows bound old new)
      (totals : AreTotals x bound (row_at new (bound + 1)) (row_at new bound))
      (few : (most : ℕ) → AreCheap (modes_of x) most (row_at old (bound + 1)) → AreCheap (modes_of x) (most + MAX_COST) (row_at new bound)) where
    each_more : (at : ℕ) → bound ≤ at → at < length x.query.now.records → AreTotals x at (row_at new (at + 1)) (row_at new at)
    each_more at from below = elim (cases_lt bound at) [
      | inl less ↦
          subst (λ row. AreTotals x at (row_at new (at + 1)) row) (sym (kept.1 at (omega (arith, less))))
          (subst (λ row. AreTotals x at row (row_at old at)) (sym (kept.1 (at + 1) (omega (arith, less)))) (h.each at (omega (arith, less)) below))
      | inr more ↦
          let same : bound ≡ at = omega (arith, from, more) in
          subst (λ k. AreTotals x k (row_at new (k + 1)) (row_at new k)) same totals
    ]

    cheap_more : (at : ℕ) → bound ≤ at → at ≤ length x.query.now.records → AreCheap (modes_of x) ((length x.query.now.records - at) * MAX_COST) (row_at new at)
    cheap_more at from upto = elim (cases_lt bound at) [
      | inl less ↦
          subst (AreCheap (modes_of x) ((length x.query.now.records - at) * MAX_COST)) (sym (kept.1 at (omega (arith, less)))) (h.cheap at (omega (arith, less)) upto)
      | inr more ↦
          let same : bound ≡ at = omega (arith, from, more) in
          let all : (length x.query.now.records - (bound + 1)) * MAX_COST + MAX_COST ≡ (length x.query.now.records - at) * MAX_COST = omega (arith, same, within) in
          subst (λ most. AreCheap (modes_of x) most (row_at new at)) all
          (subst (λ k. AreCheap (modes_of x) ((length x.query.now.records - (bound + 1)) * MAX_COST + MAX_COST) (row_at new k)) same
          (few ((length x.query.now.records - (bound + 1)) * MAX_COST) (h.cheap (bound + 1) (omega arith) (omega (arith, within)))))
    ]

    pub rests_more : AreRestsFrom x bound new
    rests_more = record {
      full = kept.0 ∙ h.full;
      last = λ mode has. ap (λ row. slice_index_or row mode None) (kept.1 (length x.query.now.records) (omega (arith, within))) ∙ h.last mode has;
      each = each_more;
      cheap = cheap_more;
    }
