use Rattle.std.proofs.Common.{◌≡◌, ◌<◌, ℕ, List, Some, length, map, slice_get, slice_index_or, true, false, refl, sym, ap, subst, ◌∙◌}
use Rattle.std.proofs.lemmas.Bool.{both_ways}
use Rattle.std.proofs.lemmas.List.Elements.{All-contains}
use Rattle.std.proofs.lemmas.Option.{get_or_from_slice_get, same_Some, slice_get_within}
use Rattle.list_laws.proofs.Members.{at_member}
use Rattle.cca_base.specs.declared.model.Move.{Move}
use Rattle.cca_base.specs.MoveIndex.{IsMoveNamed}
use Rattle.cca_base.specs.Model.{IsMove, WellFormed}
use Rattle.cca_base.specs.PlantModel.{PlantModel}
use Rattle.cca_base.proofs.Within.{mode_within}
use Rattle.group_search.specs.Questions.{IsWhole, in_group}
use Rattle.trajectory_estimator.specs.Asked.{entry_of}
use Rattle.trajectory_estimator.specs.Clashes.{AreWalks, IsClashOf}
use Rattle.trajectory_estimator.specs.Queries.{IsAsked}
use Rattle.trajectory_estimator.specs.Walks.{nothing_known, record_at}
use Rattle.trajectory_estimator.specs.Windows.{HasGate, window_of}
use Rattle.trajectory_estimator.specs.declared.before.Before.{Before}
use Rattle.trajectory_estimator.specs.declared.group_paths.GroupPaths.{GroupPaths}
use Rattle.trajectory_estimator.specs.declared.record.Record.{Record}
use Rattle.trajectory_estimator.proofs.GateCuts.{none_named}
use Rattle.trajectory_estimator.proofs.Records.{entry_at}
use Rattle.window_laws.specs.Trajectories.{Entry}
use Rattle.trajectory_estimator.proofs.gate.gate_clash.Goals as goal

-- the move that is named is one of those that are read
named_within : (x y : GroupPaths) (m : PlantModel) (moves : List Move) (s : List ℕ) (command number : ℕ) → x ≡ y → m ≡ y.query.now.model → moves ≡ m.moves
    → IsMoveNamed x.query.now.model.moves s command number → number < length moves
named_within x y m moves s command number same again moves_are (move, at, of, stands) =
    let all : x.query.now.model.moves ≡ moves = ap (λ (z : GroupPaths). z.query.now.model.moves) same ∙ ap (λ (z : PlantModel). z.moves) (sym again) ∙ sym moves_are in
    slice_get_within moves number move (ap (λ (l : List Move). slice_get l number) (sym all) ∙ at)

read_within : (m n : PlantModel) (moves : List Move) (number : ℕ) (x : Move) → n ≡ m → WellFormed n → moves ≡ n.moves → slice_get moves number ≡ Some x → x.component < length m.components
read_within m n moves number x same good all at =
    let its : slice_get n.moves number ≡ Some x = ap (λ (l : List Move). slice_get l number) (sym all) ∙ at in
    subst (λ (z : PlantModel). x.component < length z.components) same (mode_within n x.component x.source (All-contains (IsMove n) n.moves x good.moves (at_member n.moves number x its)).source)

-- the record's command is the one that is read
sent_at : (b : Before) (x : GroupPaths) (at : ℕ) (records : List Record) (d : Record) (command : ℕ) → b.paths ≡ x → b.at ≡ at → map entry_of records ≡ x.query.now.records → at < length x.query.now.records
    → (slice_index_or records at d).command ≡ Some command → (record_at b.paths.query.now b.at).command ≡ Some command
sent_at b x at records d command same there all within e =
    let here : record_at x.query.now at ≡ entry_of (slice_index_or records at d) =
    get_or_from_slice_get x.query.now.records at (entry_of (slice_index_or records at d)) nothing_known (entry_at records x.query.now.records at d all within) in
    ap (λ (z : GroupPaths). (record_at z.query.now b.at).command) same ∙ ap (λ i. (record_at x.query.now i).command) there ∙ ap (λ (z : Entry). z.command) here ∙ e

-- the move that is named is the one that is read, whose component the group has
named_own : (b : Before) (x : GroupPaths) (m : PlantModel) (moves : List Move) (number : ℕ) (step : Move) → b.paths ≡ x → m ≡ x.query.now.model → moves ≡ m.moves → slice_get moves number ≡ Some step
    → in_group x.names.now x.group step.component ≡ true → (move : Move) → slice_get b.paths.query.now.model.moves number ≡ Some move → in_group b.paths.names.now b.paths.group move.component ≡ true
named_own b x m moves number step same again moves_are read own move at =
    let all : b.paths.query.now.model.moves ≡ moves = ap (λ (z : GroupPaths). z.query.now.model.moves) same ∙ ap (λ (z : PlantModel). z.moves) (sym again) ∙ sym moves_are in
    let one : step ≡ move = same_Some step move (sym read ∙ ap (λ (l : List Move). slice_get l number) (sym all) ∙ at) in
    subst (λ (z : Move). in_group b.paths.names.now b.paths.group z.component ≡ true) one
    (subst (λ (z : GroupPaths). in_group z.names.now z.group step.component ≡ true) (sym same) own)

pub returns-in_default-named-clause-none : goal.returns-in_default-named-clause-none
returns-in_default-named-clause-none c e whole =
    let b = c.of-before.result in
    let x = c.args.paths.now in
    let sent = sent_at b x c.args.at c.records.result.now _ c.in-Some.command c.of-before.ensures.paths c.of-before.ensures.at c.records.ensures.value c.requires.at c.in-Some.is in
    let asked : IsAsked b.paths.query.now = subst (λ (z : GroupPaths). IsAsked z.query.now) (sym c.of-before.ensures.paths) c.records.ensures.asked in
    subst (λ i. HasGate x.query.now x.values.now i) c.of-before.ensures.at
    (subst (λ (z : GroupPaths). HasGate z.query.now z.values.now b.at) c.of-before.ensures.paths (none_named b c.in-Some.command asked sent (c.in_default-named.ensures.none refl)))

pub get-requires : goal.get-requires
get-requires c =
    let b = c.of-before.result in
    named_within b.paths c.args.paths.now c.model.result.now c.moves.result.now b.modes.now c.in-Some.command c.in-Some-named.number c.of-before.ensures.paths c.model.ensures.value c.moves.ensures.value
    c.in-Some-named.ensures.some

pub has-requires : goal.has-requires
has-requires c =
    read_within c.args.paths.now.query.now.model c.model.result.now c.moves.result.now c.in-Some-named.number c.get.result.now c.model.ensures.value c.moves.ensures.well_formed c.moves.ensures.value c.get.ensures.value

pub returns-then-not-has-clause-none : goal.returns-then-not-has-clause-none
returns-then-not-has-clause-none c e whole =
    let within = read_within c.args.paths.now.query.now.model c.model.result.now c.moves.result.now c.in-Some-named.number c.get.result.now c.model.ensures.value c.moves.ensures.well_formed c.moves.ensures.value
    c.get.ensures.value in
    absurd (both_ways c.has.result c.if-not-has.true (c.has.ensures ∙ whole c.get.result.now.component within))

pub cause_against-requires-clause-walks : goal.cause_against-requires-clause-walks
cause_against-requires-clause-walks c = subst (λ (x : GroupPaths). AreWalks x) (sym c.of-before.ensures.paths) c.requires.walks

pub cause_against-requires-clause-named : goal.cause_against-requires-clause-named
cause_against-requires-clause-named c =
    let b = c.of-before.result in
    let x = c.args.paths.now in
    record {
      command = c.in-Some.command;
      sent = sent_at b x c.args.at c.records.result.now _ c.in-Some.command c.of-before.ensures.paths c.of-before.ensures.at c.records.ensures.value c.requires.at c.in-Some.is;
      named = c.in-Some-named.ensures.some;
      own = named_own b x c.model.result.now c.moves.result.now c.in-Some-named.number c.get.result.now c.of-before.ensures.paths c.model.ensures.value c.moves.ensures.value c.get.ensures.value
          (sym c.has.ensures ∙ c.if-not-has.false);
    }

pub returns-clause-clash : goal.returns-clause-clash
returns-clause-clash c = subst (λ (x : GroupPaths). c.cause_against.result ≡ true → IsClashOf x c.cause_against.new.cut.items) c.of-before.ensures.paths c.cause_against.ensures.clash

pub returns-clause-none : goal.returns-clause-none
returns-clause-none c =
    let x = c.args.paths.now in
    subst (λ i. c.cause_against.result ≡ false → IsWhole (window_of x.query.now) x.names.now x.group → HasGate x.query.now x.values.now i) c.of-before.ensures.at
    (subst (λ (z : GroupPaths). c.cause_against.result ≡ false → IsWhole (window_of z.query.now) z.names.now z.group → HasGate z.query.now z.values.now c.of-before.result.at)
    c.of-before.ensures.paths c.cause_against.ensures.none)
