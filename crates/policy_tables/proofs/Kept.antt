-- What is kept where the classes are others.
use Rattle.std.proofs.Common.{◌≡◌, ◌<◌, ◌≤◌, ◌+◌, ◌*◌, ◌↔◌, ℕ, Bool, true, false, List, length, slice_get, slice_index, slice_index_or, slice_set, Some, not, refl, sym, ap, subst, ◌∙◌, inl, inr, arith}
use Rattle.std.proofs.Math.Bool.{beq}
use Rattle.std.proofs.lemmas.Bool.{cases_lt, cases_order, false≢true}
use Rattle.std.proofs.lemmas.List.{get_or_past, get_or-set_same, get_or-set_other, length-set}
use Rattle.std.proofs.lemmas.List.Elements.{All-contains}
use Rattle.std.proofs.lemmas.Option.{same_Some, slice_get-get_or}
use Rattle.list_laws.proofs.Places.{some_at}
use Rattle.cca_base.specs.declared.cube.Pair.{Pair}
use Rattle.cca_base.specs.declared.model.Move.{Move}
use Rattle.cca_base.specs.Accepted.{CompiledModel, IsCompiled}
use Rattle.cca_base.specs.Flags.{is_set, IsSet}
use Rattle.cca_base.specs.PlantModel.{PlantModel}
use Rattle.cca_base.specs.Model.{WellFormed, IsMove, mode_counts}
use Rattle.cca_base.specs.Sets.{has}
use Rattle.cca_base.proofs.Within.{mode_within}
use Rattle.reach_laws.proofs.Needed.{move_in}
use Rattle.reach_laws.specs.Classes.{AreInside}
use Rattle.reach_laws.specs.Cells.{IsCell}
use Rattle.reversibility.specs.ClassParts.{ClassParts, IsClasses, in_row}
use Rattle.policy_tables.specs.Codes.{IsCode, cell_of}
use Rattle.policy_tables.specs.declared.code.Code.{Code}
use Rattle.policy_tables.specs.declared.code.Code.TheVariants as code
use Rattle.policy_tables.specs.Filling.{IsRightCell, MayStand, AreRightCells}
use Rattle.policy_tables.specs.Keeping.{AgreeOn, IsKept, AreKeptTo, AreKept}
use Rattle.policy_tables.proofs.Agreement.{cell_agrees}

-- ---- flags

-- answers that do not differ are the same
pub same_answers : (x y : Bool) → not (beq x y) ≡ false → x ≡ y
same_answers true true e = refl
same_answers true false e = absurd (false≢true (sym e))
same_answers false true e = absurd (false≢true (sym e))
same_answers false false e = refl

-- what is flagged at all is flagged below the length
pub flags_all : (P : ℕ → Type 0) (flags : List Bool) (n : ℕ) → length flags ≤ n → ((c : ℕ) → c < n → IsSet flags c → P c) → (c : ℕ) → IsSet flags c → P c
flags_all P flags n full each c set = elim (cases_lt c (length flags)) [
  | inl lt ↦ each c (omega (arith, lt, full)) set
  | inr past ↦ absurd (false≢true (sym (get_or_past flags c false past) ∙ set))
]

module _ (p q : ClassParts) (flags : List Bool) (n : ℕ) (h : AreKeptTo p q flags n) (move : Move) (at : slice_get q.compiled.model.moves n ≡ Some move) where
  -- what is flagged still, by what is known of the next move
  next_by : (more : List Bool) → length more ≡ length flags → ((c : ℕ) → IsSet more c → IsSet flags c)
      → (IsSet more move.component → (cubes : List (List Pair)) → slice_get q.compiled.ways n ≡ Some cubes → AgreeOn (in_row p.rows) (in_row q.rows) cubes) → AreKeptTo p q more (n + 1)
  next_by more long before here = record {
    full = long ∙ h.full;
    sets = λ c set. h.sets c (before c set);
    ways = λ c set i lt other at_other own cubes ways_at. elim (cases_lt i n) [
      | inl less ↦ h.ways c (before c set) i less other at_other own cubes ways_at
      | inr past ↦
          let e : i ≡ n = omega (arith, past, lt) in
          let same : other ≡ move = same_Some other move (sym at_other ∙ ap (slice_get q.compiled.model.moves) e ∙ at) in
          let named : c ≡ move.component = sym own ∙ ap (λ (z : Move). z.component) same in
          here (subst (IsSet more) named set) cubes (sym (ap (slice_get q.compiled.ways) e) ∙ ways_at)
    ];
  }

  pub next_unset : is_set flags move.component ≡ false → AreKeptTo p q flags (n + 1)
  next_unset unset = next_by flags refl (λ c set. set) (λ set. absurd (false≢true (sym unset ∙ set)))

  pub next_agrees : (cubes : List (List Pair)) → slice_get q.compiled.ways n ≡ Some cubes → AgreeOn (in_row p.rows) (in_row q.rows) cubes → AreKeptTo p q flags (n + 1)
  next_agrees cubes ways_at agree = next_by flags refl (λ c set. set) (λ set other other_at. subst (AgreeOn (in_row p.rows) (in_row q.rows)) (same_Some cubes other (sym ways_at ∙ other_at)) agree)

  pub next_taken : move.component < length flags → AreKeptTo p q (slice_set flags move.component false) (n + 1)
  next_taken within =
      let gone : is_set (slice_set flags move.component false) move.component ≡ false = get_or-set_same flags move.component false false within in
      next_by (slice_set flags move.component false) (length-set flags move.component false) (λ c set. elim (cases_order c move.component) [
        | inl e ↦ absurd (false≢true (sym (ap (is_set (slice_set flags move.component false)) e ∙ gone) ∙ set))
        | inr (inl lt) ↦ sym (get_or-set_other flags move.component c false false (λ e. omega (arith, e, lt))) ∙ set
        | inr (inr gt) ↦ sym (get_or-set_other flags move.component c false false (λ e. omega (arith, e, gt))) ∙ set
      ])
      (λ set. absurd (false≢true (sym gone ∙ set)))

-- all moves are gone through
pub kept_all : (p q : ClassParts) → IsCompiled q.compiled → (flags : List Bool) (n : ℕ) → length q.compiled.model.moves ≤ n → AreKeptTo p q flags n → AreKept p q flags
kept_all p q is flags n past h = record {
  full = h.full;
  kept = λ c set. record {
    sets = h.sets c set;
    agree = record {
      class = λ x. ap (λ r. has r x) (h.sets c set).class;
      ways = λ move of own cube prime.
          let i : ℕ = of.0 in
          let at : slice_get q.compiled.model.moves i ≡ Some move = slice_get-get_or q.compiled.model.moves i move of.1 ∙ ap (λ z. Some z) of.2 in
          let cubes = some_at q.compiled.ways i (omega (arith, of.1, is.ways_full)) in
          All-contains (λ z. AreInside (in_row p.rows) z ↔ AreInside (in_row q.rows) z) cubes.0 cube
          (h.ways c set i (omega (arith, of.1, past)) move at own cubes.0 cubes.1)
          (((is.ways i move cubes.0 at cubes.1).each cube).1 prime);
    };
  };
}

-- ---- cells

-- it may stand where it did
stands_still : (p q : ClassParts) → IsClasses p → IsClasses q → (c : ℕ) → c < length p.compiled.model.components → c < length q.compiled.model.components
    → slice_index p.rows c ≡ slice_index q.rows c → slice_index p.chains c ≡ slice_index q.chains c → (from : ℕ) → MayStand p c from → MayStand q c from
stands_still p q is_p is_q c within_p within_q row chain from stands = elim stands [
  | inl inside ↦ inl (sym (ap (λ r. has r from) row) ∙ inside)
  | inr on ↦ inr ((is_q.chains c from within_q).0 (sym (ap (λ r. has r from) chain) ∙ (is_p.chains c from within_p).1 on))
]

-- the cells that are kept are right
pub kept_right : (p q : ClassParts) → IsClasses p → IsClasses q → p.compiled ≡ q.compiled → (ways : List (List (List Pair))) (c : ℕ) → c < length q.compiled.model.components → IsKept p q c → (codes : List Code)
    → AreRightCells p ways c codes → AreRightCells q ways c codes
kept_right p q is_p is_q same ways c within kept codes h =
    let count_is : slice_index (mode_counts p.compiled.model) c ≡ slice_index (mode_counts q.compiled.model) c = ap (λ (b : CompiledModel). slice_index (mode_counts b.model) c) same in
    let within_p : c < length p.compiled.model.components = subst (λ (b : CompiledModel). c < length b.model.components) (sym same) within in
    record {
      full = h.full ∙ ap (λ n. n * n) count_is;
      each = λ from to lt below.
          let right = h.each from to (subst (λ n. to < n) (sym count_is) lt) (subst (λ n. from * n + to < n * n) (sym count_is) below) in
          let place : from * slice_index (mode_counts p.compiled.model) c + to ≡ from * slice_index (mode_counts q.compiled.model) c + to = ap (λ n. from * n + to) count_is in
          let y : Code = slice_index_or codes (from * slice_index (mode_counts p.compiled.model) c + to) code.Never in
          let y_is : y ≡ slice_index_or codes (from * slice_index (mode_counts q.compiled.model) c + to) code.Never = ap (λ k. slice_index_or codes k code.Never) place in
          subst (λ z. IsRightCell q c from to (cell_of ways z) × IsCode ways z) y_is (
            record {
              policy = λ stands. cell_agrees q.compiled (in_row p.rows) (in_row q.rows) c kept.agree from to (cell_of ways y)
                  (subst (λ (b : CompiledModel). IsCell b (in_row p.rows) c from to (cell_of ways y)) same
                  (right.0.policy (stands_still q p is_q is_p c within within_p (sym kept.sets.class) (sym kept.sets.chain) from stands)));
              outside = λ none. right.0.outside (λ stands. none (stands_still p q is_p is_q c within_p within kept.sets.class kept.sets.chain from stands));
            },
            right.1,
          );
    }

-- a move's component is one of the model
pub named_within : (m : PlantModel) → WellFormed m → (i : ℕ) (move : Move) → slice_get m.moves i ≡ Some move → move.component < length m.components
named_within m w i move at =
    let fits : IsMove m move = All-contains (IsMove m) m.moves move w.moves (move_in m i move at) in
    mode_within m move.component move.source fits.source
