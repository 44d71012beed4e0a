-- What a step costs by the gates that a value stands for.
use Rattle.std.proofs.Common.{◌≡◌, ◌≢◌, ℕ, ◌<◌, Bool, true, false, List, length, map, get_or, slice_index_or, Option, Some, None, IfSome, IsNone, refl, sym, ap, subst, ◌∙◌, inl, inr, arith}
use Rattle.std.proofs.lemmas.List.{get_or-map, length-map}
use Rattle.std.proofs.lemmas.Option.{same_Some}
use Rattle.std.specs.Option.{unwrap_or}
use Rattle.cca_base.specs.declared.model.Move.{Move}
use Rattle.cca_base.specs.LeastCosts.{IsChange}
use Rattle.cca_base.specs.Model.{WellFormed}
use Rattle.cca_base.specs.PlantModel.{PlantModel}
use Rattle.cca_base.specs.Successors.{ChangeCosts}
use Rattle.cca_base.proofs.CheapCosts.{change_cheap}
use Rattle.cca_base.proofs.Commands.{same_move}
use Rattle.cca_laws.proofs.CostLaws.{one_change}
use Rattle.successors.proofs.Changes.{change_is}
use Rattle.trajectory_estimator.specs.Asked.{Asked, entry_of}
use Rattle.trajectory_estimator.specs.Steps.{IsLeaving, IsOwnTarget, IsStepCost, NoOwn}
use Rattle.trajectory_estimator.specs.WalkLaws.{some_gate}
use Rattle.trajectory_estimator.specs.Walks.{StepBy, StepCosts, nothing_known, record_at, stands_for}
use Rattle.trajectory_estimator.specs.declared.leaving.Leaving.{Leaving}
use Rattle.trajectory_estimator.specs.declared.record.Record.{Record}
use Rattle.window_laws.specs.Columns.{Sends}
use Rattle.window_laws.specs.Trajectories.{Entry}

-- ---- where an open gate sends a component

-- the command that is read is that of the record's entry
pub read_command : (q : Asked) (at : ℕ) (records : List Record) (d : Record) → map entry_of records ≡ q.records → at < length q.records
    → (get_or records at d).command ≡ (record_at q at).command
read_command q at records d e within =
    let inside : at < length records = omega (arith, ap length e, length-map records entry_of) in
    ap (λ (z : Entry). z.command) (sym (get_or-map entry_of records at d nothing_known inside) ∙ ap (λ (l : List Entry). slice_index_or l at nothing_known) e)

-- along its own move, or nowhere
pub sent_open : (m : PlantModel) (c : ℕ) (k : Option ℕ) (from : ℕ) (own : Option ℕ) (to : ℕ) → IfSome own (IsOwnTarget m c k from) → (IsNone own → NoOwn m c k from)
    → to ≡ unwrap_or own from → Sends m c k true from to
sent_open m c k from None to some none e = inr (none refl, e)
sent_open m c k from (Some own) to (move, is, leads) none e = inl (move, is, e ∙ leads)

-- ---- what a step costs

-- a gate sends a component to one mode
sends_one : (m : PlantModel) → WellFormed m → (c : ℕ) (k : Option ℕ) (gate : Bool) (from a b : ℕ) → Sends m c k gate from a → Sends m c k gate from b → a ≡ b
sends_one m good c k false from a b e f = e ∙ sym f
sends_one m good c k true from a b (inr (none, e)) (inr (also, f)) = e ∙ sym f
sends_one m good c k true from a b (inl (move, own, e)) (inr (none, f)) = absurd (none move own)
sends_one m good c k true from a b (inr (none, e)) (inl (move, own, f)) = absurd (none move own)
sends_one m good c k true from a b (inl (x, own, e)) (inl (y, also, f)) =
    let same : x ≡ y = same_move m.moves good.commands x y own.of_model also.of_model (same_Some x.command y.command (sym own.command ∙ also.command)) (own.source ∙ sym also.source) in
    e ∙ (ap (λ (z : Move). z.target) same ∙ sym f)

-- so a step by a gate has one cost
costs_one : (m : PlantModel) → WellFormed m → (c : ℕ) (k : Option ℕ) (gate : Bool) (from to a b : ℕ) → StepCosts m c k gate from to a → StepCosts m c k gate from to b → a ≡ b
costs_one m good c k gate from to a b (nominal, sends, change) (other, leads, costs) =
    one_change m c from nominal to a b change (subst (λ z. ChangeCosts m c from z to b) (sends_one m good c k gate from other nominal leads sends) costs)

-- and so has one by what a value stands for
pub step_one : (q : Asked) (c at value from to a b : ℕ) → WellFormed q.model → StepBy q c at value from to a → StepBy q c at value from to b → a ≡ b
step_one q c at value from to a b good x y =
    let (gate, stands) = some_gate value x.small in
    costs_one q.model good c (record_at q at).command gate from to a b (x.each gate stands) (y.each gate stands)

module _ (q : Asked) (c at from to : ℕ) (good : WellFormed q.model) where
  abbrev Sent : Bool → ℕ → Type 0
  Sent gate nominal = Sends q.model c (record_at q at).command gate from nominal

  abbrev Costs : ℕ → Option ℕ → Type 0
  Costs nominal r = IsChange q.model c from nominal to r

  -- where the value stands for this gate alone
  one_gate : (value nominal : ℕ) (gate : Bool) (r : Option ℕ) → value < 3 → stands_for value gate ≡ true → ((other : Bool) → stands_for value other ≡ true → other ≡ gate)
      → Sent gate nominal → Costs nominal r → IsStepCost q c at value from to r
  one_gate value nominal gate None small stands only sends none = λ own step.
      let (other, leads, costs) = step.each gate stands in
      none own (subst (λ z. ChangeCosts q.model c from z to own) (sends_one q.model good c (record_at q at).command gate from other nominal leads sends) costs)
  one_gate value nominal gate (Some own) small stands only sends costs = (
    record {
      small = small;
      each = λ other other_stands. subst (λ g. StepCosts q.model c (record_at q at).command g from to own) (sym (only other other_stands)) (nominal, sends, costs);
    },
    change_cheap q.model good c from nominal to own costs,
  )

  only_shut : (gate : Bool) → stands_for 0 gate ≡ true → gate ≡ false
  only_shut false e = refl
  only_shut true e = sym e

  only_open : (gate : Bool) → stands_for 1 gate ≡ true → gate ≡ true
  only_open true e = refl
  only_open false e = e

  by_shut : (r : Option ℕ) → Costs from r → IsStepCost q c at 0 from to r
  by_shut r costs = one_gate 0 from false r (omega arith) refl only_shut refl costs

  by_open : (nominal : ℕ) (r : Option ℕ) → Sent true nominal → Costs nominal r → IsStepCost q c at 1 from to r
  by_open nominal r sends costs = one_gate 1 nominal true r (omega arith) refl only_open sends costs

  -- a cost that is known is that of the change, and the other way round
  known : (nominal own : ℕ) (r : Option ℕ) → Costs nominal r → r ≡ Some own → ChangeCosts q.model c from nominal to own
  known nominal own r costs e = subst (IsChange q.model c from nominal to) e costs

  known_by : (nominal own : ℕ) (r : Option ℕ) → Costs nominal r → ChangeCosts q.model c from nominal to own → r ≡ Some own
  known_by nominal own None none costs = absurd (none own costs)
  known_by nominal own (Some cost) is costs = ap Some (one_change q.model c from nominal to cost own is costs)

  -- where it stands for either
  by_either : (nominal : ℕ) (shut ajar r : Option ℕ) → Sent true nominal → Costs from shut → Costs nominal ajar → IfSome r (λ own. (shut ≡ Some own) × (ajar ≡ Some own))
      → (IsNone r → (own : ℕ) → shut ≡ Some own → ajar ≡ Some own → ⊥) → IsStepCost q c at 2 from to r
  by_either nominal shut ajar None sends still moved some none = λ own step.
      let (stays, e, first) = step.each false refl in
      let (other, leads, second) = step.each true refl in
      none refl own
      (known_by from own shut still (subst (λ z. ChangeCosts q.model c from z to own) e first))
      (known_by nominal own ajar moved (subst (λ z. ChangeCosts q.model c from z to own) (sends_one q.model good c (record_at q at).command true from other nominal leads sends) second))
  by_either nominal shut ajar (Some own) sends still moved some none = (
    record { small = omega arith; each = by_gate },
    change_cheap q.model good c from from to own (known from own shut still some.0),
  )
    where
      by_gate : (gate : Bool) → stands_for 2 gate ≡ true → StepCosts q.model c (record_at q at).command gate from to own
      by_gate false e = (from, refl, known from own shut still some.0)
      by_gate true e = (nominal, sends, known nominal own ajar moved some.1)

module _ (q : Asked) (c at to : ℕ) (l : Leaving) (h : IsLeaving q c at l) (inside : to < length l.failures.now) where
  -- what a change by this target costs, where failures cost what is noted
  abbrev Changed : ℕ → Option ℕ → Type 0
  Changed nominal r = (to ≡ nominal → r ≡ Some 0) × (to ≢ nominal → r ≡ slice_index_or l.failures.now to None)

  changes : (nominal : ℕ) (r : Option ℕ) → Changed nominal r → IsChange q.model c l.from nominal to r
  changes nominal r is = change_is q.model c l.from nominal to (slice_index_or l.failures.now to None) r (h.least to inside) is.0 is.1

  -- by a shut gate
  pub cost_shut : (value : ℕ) (r : Option ℕ) → value ≡ 0 → Changed l.from r → IsStepCost q c at value l.from to r
  cost_shut value r e is = subst (λ v. IsStepCost q c at v l.from to r) (sym e) (by_shut q c at l.from to h.model r (changes l.from r is))

  -- by an open gate
  pub cost_open : (value : ℕ) (r : Option ℕ) → value ≡ 1 → Changed l.open r → IsStepCost q c at value l.from to r
  cost_open value r e is = subst (λ v. IsStepCost q c at v l.from to r) (sym e) (by_open q c at l.from to h.model l.open r h.sends (changes l.open r is))

  -- by a gate that may be either
  pub cost_either : (value : ℕ) (shut ajar r : Option ℕ) → value ≡ 2 → Changed l.from shut → Changed l.open ajar
      → IfSome r (λ own. (shut ≡ Some own) × (ajar ≡ Some own)) → (IsNone r → (own : ℕ) → shut ≡ Some own → ajar ≡ Some own → ⊥) → IsStepCost q c at value l.from to r
  cost_either value shut ajar r e first second some none =
      subst (λ v. IsStepCost q c at v l.from to r) (sym e)
      (by_either q c at l.from to h.model l.open shut ajar r h.sends (changes l.from shut first) (changes l.open ajar second) some none)
