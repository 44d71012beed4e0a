-- The unit that is power-cycled and reset, and what no version allows beside it.
use Rattle.std.proofs.Common.{◌≡◌, ◌+◌, ◌⊎◌, ℕ, zero, suc, false, inl, inr, List, [], ◌∷◌, Contains, slice_index, refl, sym, ap, subst, ◌∙◌, arith}
use Rattle.std.specs.Prelude.{IsTrue}
use Rattle.std.proofs.lemmas.Bool.{false≢true}
use Rattle.std.proofs.lemmas.List.Elements.{All-nil}
use Rattle.cca_base.specs.declared.model.Move.{Move}
use Rattle.cca_base.proofs.NextModes.{repair_parts, of_chain_sound}
use Rattle.cca_base.specs.Model.{WellFormed, IsFormula, IsNext, IsMended, IsInChain, RepairChain, is_broken, RepairsFit}
use Rattle.cca_base.specs.Repairs.{Mending}
use Rattle.list_laws.proofs.Few.{two_at, below_one}
use Rattle.cca_laws.proofs.SmallModels.{small_fits, failures_fit, own_used}
use Rattle.cca_laws.proofs.EdgeExamples.{always_fits}
use Rattle.cca_laws.proofs.FreeMoves.{free_step}
use Rattle.cca_laws.proofs.FirstVersion.{own_next}
use Rattle.cca_laws.specs.Examples.{free_repair}
use Rattle.cca_laws.specs.ChainExamples.{power_move, reset_move, unit, UnitIsWellFormed, OnlyInSecond, NextIsLatched, MendedIsOk, OkHasNoMended, ChainOfHung, MendingsOfHung, MendingsOfLatched, MendingsOfOk, TwoCommandsMend, NoChainGoesRound, NoRepairStays, OneNextMode, OnlyRepairsEnter, OnlyRepairsLeave}

-- ---- next modes

-- from hung to latched, or from latched to ok
abbrev Link : ℕ → ℕ → ℕ → Type 0
Link c mode next = (0 ≡ c) × (((2 ≡ mode) × (1 ≡ next)) ⊎ ((1 ≡ mode) × (0 ≡ next)))

link : (c mode next : ℕ) → (h : IsNext unit.moves c mode next) → Contains unit.moves h.repair → Link c mode next
link c mode next h (zero, lt, e) =
    let parts = repair_parts c mode h.repair h.mends in (
      ap (λ (y : Move). y.component) e ∙ parts.1,
      inl (ap (λ (y : Move). y.source) e ∙ parts.2, ap (λ (y : Move). y.target) e ∙ h.target),
    )
link c mode next h (suc zero, lt, e) =
    let parts = repair_parts c mode h.repair h.mends in (
      ap (λ (y : Move). y.component) e ∙ parts.1,
      inr (ap (λ (y : Move). y.source) e ∙ parts.2, ap (λ (y : Move). y.target) e ∙ h.target),
    )
link c mode next h (suc (suc k), lt, e) = absurd (omega arith)

after_hung : (c next : ℕ) → IsNext unit.moves c 2 next → next ≡ 1
after_hung c next h = elim (link c 2 next h h.of_model).1 [
  | inl hung ↦ sym hung.1
  | inr latched ↦ absurd (omega (arith, latched.0))
]

after_latched : (c next : ℕ) → IsNext unit.moves c 1 next → next ≡ 0
after_latched c next h = elim (link c 1 next h h.of_model).1 [
  | inl hung ↦ absurd (omega (arith, hung.0))
  | inr latched ↦ sym latched.1
]

power_next : IsNext unit.moves 0 2 1
power_next = own_next unit.moves power_move (0, omega arith, refl) refl

reset_next : IsNext unit.moves 0 1 0
reset_next = own_next unit.moves reset_move (1, omega arith, refl) refl

pub next_is_latched : NextIsLatched
next_is_latched mode = (after_hung 0 mode, λ same. subst (IsNext unit.moves 0 2) (sym same) power_next)

-- ---- chains

from_ok : (mode : ℕ) → IsInChain unit.moves 0 0 mode → mode ≡ 0
from_ok mode h = of_chain_sound unit.moves 0 0 mode h refl

from_latched : (mode : ℕ) → IsInChain unit.moves 0 1 mode → (mode ≡ 0) ⊎ (mode ≡ 1)
from_latched mode (zero, e) = inr (sym e)
from_latched mode (suc n, p) = inl (from_ok mode (n, subst (λ x. RepairChain unit.moves 0 x mode n) (after_latched 0 p.0 p.1) p.2))

from_hung : (mode : ℕ) → IsInChain unit.moves 0 2 mode → (mode ≡ 0) ⊎ ((mode ≡ 1) ⊎ (mode ≡ 2))
from_hung mode (zero, e) = inr (inr (sym e))
from_hung mode (suc n, p) = elim (from_latched mode (n, subst (λ x. RepairChain unit.moves 0 x mode n) (after_hung 0 p.0 p.1) p.2)) [
  | inl ok ↦ inl ok
  | inr latched ↦ inr (inl latched)
]

to_latched : IsInChain unit.moves 0 2 1
to_latched = (1, (1, power_next, refl))

to_ok : IsInChain unit.moves 0 2 0
to_ok = (2, (1, power_next, (0, reset_next, refl)))

pub chain_of_hung : ChainOfHung
chain_of_hung mode = (from_hung mode, back)
  where
    back : (mode ≡ 0) ⊎ ((mode ≡ 1) ⊎ (mode ≡ 2)) → IsInChain unit.moves 0 2 mode
    back (inl ok) = subst (IsInChain unit.moves 0 2) (sym ok) to_ok
    back (inr (inl latched)) = subst (IsInChain unit.moves 0 2) (sym latched) to_latched
    back (inr (inr hung)) = (0, sym hung)

pub mended_is_ok : MendedIsOk
unfolding to_ok
mended_is_ok mode = (
  λ h. elim (from_hung mode (h.count, h.chain)) [
    | inl ok ↦ ok
    | inr (inl latched) ↦ absurd (false≢true (sym (subst (λ x. is_broken unit.moves 0 x ≡ false) latched h.sound)))
    | inr (inr hung) ↦ absurd (false≢true (sym (subst (λ x. is_broken unit.moves 0 x ≡ false) hung h.sound)))
  ],
  λ same. subst (IsMended unit.moves 0 2) (sym same) (record { broken = refl; sound = refl; count = 2; chain = to_ok.1 }),
)

pub ok_has_no_mended : OkHasNoMended
ok_has_no_mended mode h = false≢true h.broken

-- ---- mendings

-- a state of one component that is a mending of another stands in the chain of its mode
only_mode : (from : ℕ) (s : List ℕ) → Mending unit (from ∷ []) s → (mode : ℕ) × (s ≡ mode ∷ []) × IsInChain unit.moves 0 from mode
only_mode from [] h = absurd (omega (arith, h.full))
only_mode from (mode ∷ []) h = (mode, refl, h.each 0 (omega arith))
only_mode from (mode ∷ other ∷ rest) h = absurd (omega (arith, h.full))

mending_to : (from to : ℕ) → IsInChain unit.moves 0 from to → Mending unit (from ∷ []) (to ∷ [])
mending_to from to h = record {
  full = refl;
  each = below_one (λ c. IsInChain unit.moves c (slice_index (from ∷ []) c) (slice_index (to ∷ []) c)) h;
}

pub mendings_of_hung : MendingsOfHung
mendings_of_hung s = (on, back)
  where
    on : Mending unit (2 ∷ []) s → (s ≡ 0 ∷ []) ⊎ ((s ≡ 1 ∷ []) ⊎ (s ≡ 2 ∷ []))
    on h = let stands = only_mode 2 s h in elim (from_hung stands.0 stands.2) [
      | inl ok ↦ inl (stands.1 ∙ ap (λ x. x ∷ []) ok)
      | inr (inl latched) ↦ inr (inl (stands.1 ∙ ap (λ x. x ∷ []) latched))
      | inr (inr hung) ↦ inr (inr (stands.1 ∙ ap (λ x. x ∷ []) hung))
    ]

    back : (s ≡ 0 ∷ []) ⊎ ((s ≡ 1 ∷ []) ⊎ (s ≡ 2 ∷ [])) → Mending unit (2 ∷ []) s
    back (inl ok) = subst (Mending unit (2 ∷ [])) (sym ok) (mending_to 2 0 to_ok)
    back (inr (inl latched)) = subst (Mending unit (2 ∷ [])) (sym latched) (mending_to 2 1 to_latched)
    back (inr (inr hung)) = subst (Mending unit (2 ∷ [])) (sym hung) (mending_to 2 2 (0, refl))

pub mendings_of_latched : MendingsOfLatched
mendings_of_latched s = (on, back)
  where
    on : Mending unit (1 ∷ []) s → (s ≡ 0 ∷ []) ⊎ (s ≡ 1 ∷ [])
    on h = let stands = only_mode 1 s h in elim (from_latched stands.0 stands.2) [
      | inl ok ↦ inl (stands.1 ∙ ap (λ x. x ∷ []) ok)
      | inr latched ↦ inr (stands.1 ∙ ap (λ x. x ∷ []) latched)
    ]

    back : (s ≡ 0 ∷ []) ⊎ (s ≡ 1 ∷ []) → Mending unit (1 ∷ []) s
    back (inl ok) = subst (Mending unit (1 ∷ [])) (sym ok) (mending_to 1 0 (1, (0, reset_next, refl)))
    back (inr latched) = subst (Mending unit (1 ∷ [])) (sym latched) (mending_to 1 1 (0, refl))

pub mendings_of_ok : MendingsOfOk
mendings_of_ok s = (
  λ h. let stands = only_mode 0 s h in stands.1 ∙ ap (λ x. x ∷ []) (from_ok stands.0 stands.2),
  λ same. subst (Mending unit (0 ∷ [])) (sym same) (mending_to 0 0 (0, refl)),
)

-- ---- the model

-- a chain goes down, from hung to latched to ok
chain_falls : (c from to n : ℕ) → RepairChain unit.moves c from to n → to + n ≡ from
chain_falls c from to zero e = omega (arith, e)
chain_falls c from to (suc n) p =
    let rest = chain_falls c p.0 to n p.2 in
    elim (link c from p.0 p.1 p.1.of_model).1 [
      | inl hung ↦ omega (arith, rest, hung.0, hung.1)
      | inr latched ↦ omega (arith, rest, latched.0, latched.1)
    ]

one_target : (c mode a b : ℕ) → IsNext unit.moves c mode a → IsNext unit.moves c mode b → a ≡ b
one_target c mode a b p q =
    let first = chain_falls c mode a 1 (a, p, refl) in
    let other = chain_falls c mode b 1 (b, q, refl) in
    omega (arith, first, other)

repairs_fit : RepairsFit 2 unit.moves
repairs_fit = record {
  one_target = one_target;
  no_cycle = λ c mode n p. let falls = chain_falls c mode mode (suc n) p in omega (arith, falls);
  at_once = λ first. absurd (omega (arith, first));
  only_repairs_enter = two_at (λ (move : Move). IsTrue (is_broken unit.moves move.component move.target) → IsTrue move.repair) power_move reset_move (λ e. refl) (λ e. refl);
  only_repairs_leave = two_at (λ (move : Move). IsTrue (is_broken unit.moves move.component move.source) → IsTrue move.repair) power_move reset_move (λ e. refl) (λ e. refl);
}

well_formed : WellFormed unit
well_formed = small_fits unit refl (inr refl) (All-nil (IsFormula unit))
    (two_at (λ (move : Move). IsFormula unit move.guard) power_move reset_move (always_fits unit) (always_fits unit)) (failures_fit unit refl) repairs_fit

pub unit_is_well_formed : UnitIsWellFormed
unit_is_well_formed = (well_formed, own_used unit.moves refl)

pub only_in_second : OnlyInSecond
only_in_second version h = elim h.version [
  | inl first ↦ absurd (false≢true (sym (h.repairs.at_once first 0 2 1 power_next)))
  | inr second ↦ second
]

-- ---- a plan

pub two_commands_mend : TwoCommandsMend
two_commands_mend = (
  1 ∷ [],
  record { step = free_step unit power_move (0, omega arith, refl) refl (2 ∷ []) refl; back = inl refl },
  (0 ∷ [], record { step = free_step unit reset_move (1, omega arith, refl) refl (1 ∷ []) refl; back = inl refl }, refl),
)

-- ---- what no version allows

-- the moves of the unit and one more
abbrev with_repairs : Move → List Move
with_repairs x = power_move ∷ reset_move ∷ x ∷ []

pub no_chain_goes_round : NoChainGoesRound
no_chain_goes_round version h =
    let loop : Move = free_repair 0 0 2 2 in
    h.no_cycle 0 2 2 (
      1,
      own_next (with_repairs loop) power_move (0, omega arith, refl) refl,
      (0, own_next (with_repairs loop) reset_move (1, omega arith, refl) refl, (2, own_next (with_repairs loop) loop (2, omega arith, refl) refl, refl)),
    )

pub no_repair_stays : NoRepairStays
no_repair_stays version h = let stay : Move = free_repair 0 2 2 0 in h.no_cycle 0 2 0 (2, own_next (stay ∷ []) stay (0, omega arith, refl) refl, refl)

pub one_next_mode : OneNextMode
one_next_mode version h =
    let short : Move = free_repair 0 2 0 2 in
    omega (arith, h.one_target 0 2 1 0 (own_next (with_repairs short) power_move (0, omega arith, refl) refl) (own_next (with_repairs short) short (2, omega arith, refl) refl))

pub only_repairs_enter : OnlyRepairsEnter
only_repairs_enter version h = false≢true (h.only_repairs_enter 2 power_move (omega arith) refl)

pub only_repairs_leave : OnlyRepairsLeave
only_repairs_leave version h = false≢true (h.only_repairs_leave 2 power_move (omega arith) refl)
