-- Cuts by which a gate is really other than the one that a walk goes by.
use Rattle.std.proofs.Common.{◌≡◌, ◌≢◌, inl, inr, ℕ, ◌<◌, Bool, true, false, List, length, slice_get, slice_index, Some, Option, All, Contains, refl, sym, ap, subst, ◌∙◌, arith}
use Rattle.std.proofs.lemmas.List.Elements.{All-contains}
use Rattle.std.proofs.lemmas.Option.{get_or_from_slice_get, same_Some}
use Rattle.list_laws.proofs.Members.{all_from, at_member, member_at}
use Rattle.cca_base.specs.declared.cube.Pair.{Pair}
use Rattle.cca_base.specs.declared.model.Move.{Move}
use Rattle.cca_base.specs.PlantModel.{PlantModel}
use Rattle.cca_base.specs.Accepted.{AreWays}
use Rattle.cca_base.specs.Implicants.{source_pair}
use Rattle.cca_base.specs.Model.{HasMode, IsMove}
use Rattle.cca_base.specs.MoveIndex.{IsMoveNamed}
use Rattle.cca_base.specs.State.{Extends, IsState}
use Rattle.cca_base.proofs.Commands.{same_component}
use Rattle.cca_base.proofs.Within.{mode_within}
use Rattle.group_search.specs.Questions.{IsWhole}
use Rattle.trajectory_estimator.specs.Asked.{Asked}
use Rattle.trajectory_estimator.specs.Clashes.{AreOwn, AreWalks, Blames, IsAgainst, IsClashOf, IsCutWith, IsGateOf, IsKnown, IsNamedAt, MayFail, MayHold, knows}
use Rattle.trajectory_estimator.specs.Queries.{IsAsked}
use Rattle.trajectory_estimator.specs.Walks.{IsWalk, gate_place, record_at, stands_for}
use Rattle.trajectory_estimator.specs.Windows.{HasGate, IsWindow, state_before, window_of}
use Rattle.trajectory_estimator.specs.declared.before.Before.{Before}
use Rattle.trajectory_estimator.proofs.KnownModes.{blames_more, known_by_group, value_stands}
use Rattle.trajectory_estimator.proofs.RealGates.{before_state, extends_or_fails, gate_closed, gate_open, open_is, shut_is, some_gate}
use Rattle.window_laws.specs.Columns.{IsGate}

-- values of the group with the gate that the move's component goes by, and the move's source
pub record IsGateCut (b : Before) (move : Move) (cut : List Pair) : Type 0 where
  pub own : AreOwn b.paths cut
  pub gate : (values : List ℕ) → Extends values cut → IsGateOf b move.component values
  pub source : Blames b cut (source_pair move)

pub gate_cut_on : (b : Before) (move : Move) (old new : List Pair) → IsGateCut b move old → IsCutWith b old new → IsGateCut b move new
gate_cut_on b move old new is with_it = record {
  own = with_it.own;
  gate = λ values extends. is.gate values (with_it.more values extends);
  source = blames_more b old new (source_pair move) with_it.more is.source;
}

module _ (b : Before) (asked : IsAsked b.paths.query.now) (number : ℕ) (named : IsNamedAt b number) (move : Move) (read : slice_get b.paths.query.now.model.moves number ≡ Some move) where
  abbrev q : Asked
  q = b.paths.query.now

  abbrev m : PlantModel
  m = q.model

  abbrev k : Option ℕ
  k = (record_at q b.at).command

  its : named.named.0 ≡ move
  its = same_Some named.named.0 move (sym named.named.1 ∙ read)

  command : k ≡ Some move.command
  command = named.sent ∙ ap Some (sym named.named.2 ∙ ap (λ (z : Move). z.command) its)

  pub source : slice_get b.modes.now move.component ≡ Some move.source
  source = subst (λ (z : Move). slice_get b.modes.now z.component ≡ Some z.source) its named.named.3

  among : Contains m.moves move
  among = at_member m.moves number move read

  pub inside : move.component < length m.components
  inside = mode_within m move.component move.source (All-contains (IsMove m) m.moves move asked.model.moves among).source

  module _ (cubes : List (List Pair)) (ways : AreWays m move cubes) where
    pair_within : (cube : List Pair) → Contains cubes cube → (p : Pair) → Contains cube p → p.item < length m.components
    pair_within cube inner p here = mode_within m p.item p.value (All-contains (λ (z : Pair). HasMode m z.item z.value) cube p ((ways.each cube).0 inner).modes here)

    pub ways_within : All (All (λ p. p.item < length b.modes.now)) cubes
    ways_within = all_from (All (λ p. p.item < length b.modes.now)) cubes (λ cube inner. all_from (λ p. p.item < length b.modes.now) cube (λ p here.
        omega (arith, pair_within cube inner p here, b.full)))

    -- ---- a solution with the cut

    module _ (cut : List Pair) (is : IsGateCut b move cut) (values costs : List ℕ) (solves : IsWindow q values costs) (extends : Extends values cut) where
      abbrev s : List ℕ
      s = state_before q values b.at

      state : IsState m s
      state = before_state q values b.at asked.model asked.anchor solves.places b.within (λ c inner. (slice_index costs c, solves.walks c inner))

      its_source : slice_get s move.component ≡ Some move.source
      its_source = value_stands s move.component move.source (omega (arith, inside, state.full)) (is.source values solves.places extends)

      gate : HasGate q values b.at
      gate = solves.gates b.at b.within

      stands : stands_for (slice_index values (gate_place q move.component b.at)) gate.gate ≡ true
      stands =
          gate.stands move.component move (record { of_model = among; command = command; own = refl; source = sym (get_or_from_slice_get s move.component move.source 0 its_source) })

      no_shut : slice_index b.paths.values.now (gate_place q move.component b.at) ≡ 0 → (cube : List Pair) → Contains cubes cube → All (Blames b cut) cube → ⊥
      no_shut e cube inner blames =
          let held : Extends s cube = all_from (λ (p : Pair). slice_get s p.item ≡ Some p.value) cube (λ p here.
          value_stands s p.item p.value (omega (arith, pair_within cube inner p here, state.full)) (All-contains (Blames b cut) cube p blames here values solves.places extends)) in
          shut_is m s k gate.gate (slice_index values (gate_place q move.component b.at)) (is.gate values extends ∙ e) stands gate.is_gate
          (gate_open m asked.model move among cubes ways k command s state its_source cube inner held)

      no_open : slice_index b.paths.values.now (gate_place q move.component b.at) ≡ 1 → All (λ cube. (p : Pair) × IsAgainst cube p × Blames b cut p) cubes → ⊥
      no_open e blames =
          open_is m s k gate.gate (slice_index values (gate_place q move.component b.at)) (is.gate values extends ∙ e) stands gate.is_gate
          (gate_closed m asked.model move among cubes ways k command s state its_source (λ cube inner.
          let (p, (o, here, same, other), blame) = All-contains (λ (x : List Pair). (p : Pair) × IsAgainst x p × Blames b cut p) cubes cube blames inner in
          (o, here, λ there. other (sym (get_or_from_slice_get s o.item o.value 0 there) ∙ ap (slice_index s) same ∙ blame values solves.places extends))))

    pub shut_clash : (cut : List Pair) → IsGateCut b move cut → slice_index b.paths.values.now (gate_place q move.component b.at) ≡ 0 → (cube : List Pair) → Contains cubes cube → All (Blames b cut) cube
        → IsClashOf b.paths cut
    shut_clash cut is e cube inner blames = record { own = is.own; clash = λ values costs solves extends. no_shut cut is values costs solves extends e cube inner blames }

    pub open_clash : (cut : List Pair) → IsGateCut b move cut → slice_index b.paths.values.now (gate_place q move.component b.at) ≡ 1
        → All (λ cube. (p : Pair) × IsAgainst cube p × Blames b cut p) cubes → IsClashOf b.paths cut
    open_clash cut is e blames = record { own = is.own; clash = λ values costs solves extends. no_open cut is values costs solves extends e blames }

    -- ---- a group of all components, whose gate isn't another one

    module _ (walks : AreWalks b.paths) (whole : IsWhole (window_of q) b.paths.names.now b.paths.group) where
      abbrev own_state : List ℕ
      own_state = state_before q b.paths.values.now b.at

      abbrev own_value : ℕ
      own_value = slice_index b.paths.values.now (gate_place q move.component b.at)

      all_walks : (c : ℕ) → c < length m.components → (cost : ℕ) × IsWalk q c b.paths.values.now cost
      all_walks c inner = walks c inner (whole c inner)

      is_state : IsState m own_state
      is_state = before_state q b.paths.values.now b.at asked.model asked.anchor b.paths.full b.within all_walks

      own_source : slice_get own_state move.component ≡ Some move.source
      own_source = subst (λ l. slice_get l move.component ≡ Some move.source) b.state source

      is_known : (c : ℕ) → c < length m.components → knows b c ≡ true
      is_known c inner = known_by_group b c (whole c inner)

      has_gate : (gate : Bool) → IsGate m own_state k gate → stands_for own_value gate ≡ true → HasGate q b.paths.values.now b.at
      has_gate gate is stands = record {
        gate = gate;
        is_gate = is;
        stands = λ c other is_own.
            let commands : other.command ≡ move.command = same_Some other.command move.command (sym is_own.command ∙ command) in
            let same : move.component ≡ c = sym (same_component m.moves asked.model.commands other move is_own.of_model among commands) ∙ is_own.own in
            subst (λ d. stands_for (slice_index b.paths.values.now (gate_place q d b.at)) gate ≡ true) same stands;
      }

      pub none_open : own_value ≡ 1 → (cube : List Pair) → Contains cubes cube → MayHold b cube → HasGate q b.paths.values.now b.at
      none_open e cube inner may =
          let held : Extends own_state cube = all_from (λ (p : Pair). slice_get own_state p.item ≡ Some p.value) cube (λ p here.
          subst (λ l. slice_get l p.item ≡ Some p.value) b.state (may p here (is_known p.item (pair_within cube inner p here)))) in
          has_gate true (gate_open m asked.model move among cubes ways k command own_state is_state own_source cube inner held) (subst (λ v. stands_for v true ≡ true) (sym e) refl)

      pub none_shut : own_value ≡ 0 → All (MayFail b) cubes → HasGate q b.paths.values.now b.at
      none_shut e may =
          has_gate false
          (gate_closed m asked.model move among cubes ways k command own_state is_state own_source (λ cube inner. elim (extends_or_fails own_state cube) [
            | inr fails ↦ fails
            | inl held ↦ absurd (All-contains (MayFail b) cubes cube may inner (all_from (IsKnown b) cube (λ p here.
                let item : p.item < length m.components = pair_within cube inner p here in
                let there : slice_get b.modes.now p.item ≡ Some p.value =
                subst (λ l. slice_get l p.item ≡ Some p.value) (sym b.state) (All-contains (λ (z : Pair). slice_get own_state z.item ≡ Some z.value) cube p held here) in
                record { component = omega (arith, item, b.full); known = is_known p.item item; stands = get_or_from_slice_get b.modes.now p.item p.value 0 there })))
          ])) (subst (λ v. stands_for v false ≡ true) (sym e) refl)

      pub none_either : own_value ≢ 1 → own_value ≢ 0 → HasGate q b.paths.values.now b.at
      none_either other another =
          let (cost, walk) = all_walks move.component inside in
          let small : own_value < 3 = (walk.steps.each b.at b.within).small in
          let e : own_value ≡ 2 = omega (arith, small, other, another) in
          elim (some_gate m asked.model move among cubes ways k command own_state is_state own_source) [
            | inl is ↦ has_gate true is (subst (λ v. stands_for v true ≡ true) (sym e) refl)
            | inr is ↦ has_gate false is (subst (λ v. stands_for v false ≡ true) (sym e) refl)
          ]

-- where the command names no move, its gate is shut, whatever the walks go by
pub none_named : (b : Before) (command : ℕ) → IsAsked b.paths.query.now → (record_at b.paths.query.now b.at).command ≡ Some command
    → ((i : ℕ) → IsMoveNamed b.paths.query.now.model.moves b.modes.now command i → ⊥) → HasGate b.paths.query.now b.paths.values.now b.at
none_named b command asked sent none =
    let q : Asked = b.paths.query.now in
    let s : List ℕ = state_before q b.paths.values.now b.at in
    let no_move : (move : Move) → Contains q.model.moves move → (record_at q b.at).command ≡ Some move.command → slice_get b.modes.now move.component ≡ Some move.source → ⊥ = λ move among own source.
    none among.0 (move, member_at q.model.moves move among, same_Some move.command command (sym own ∙ sent), source) in
    record {
      gate = false;
      is_gate = λ move commanded. no_move move commanded.of_model commanded.command (subst (λ l. slice_get l move.component ≡ Some move.source) (sym b.state) commanded.source);
      stands = λ c move is_own.
          let inside = mode_within q.model move.component move.source (All-contains (IsMove q.model) q.model.moves move asked.model.moves is_own.of_model).source in
          absurd (no_move move is_own.of_model is_own.command (value_stands b.modes.now move.component move.source (omega (arith, inside, b.full))
          (ap (λ l. slice_index l move.component) b.state ∙ ap (slice_index s) is_own.own ∙ sym is_own.source)));
    }
