use Rattle.std.proofs.Common.{◌∙◌, List, length, ap}
use Rattle.cca_base.specs.Accepted.{AreWays}
use Rattle.cca_base.specs.declared.cube.Pair.{Pair}
use Rattle.cca_base.specs.declared.limits.TheConstants.{MAX_WAYS}
use Rattle.guard_compiler.specs.Conjunctions.{with_guard}
use Rattle.guard_compiler.proofs.WaysMeaning.{AreStatesOf, all_ways, component_inside, many_ways, states_of}
use Rattle.prime_implicants.specs.Primes.{AreAllPrimes, IfEvery}
use Rattle.prime_implicants.specs.declared.answer.Primes.{Primes}
use Rattle.prime_implicants.specs.declared.answer.Primes.TheVariants.{Every, More}
use Rattle.guard_compiler.proofs.guards.guard_implicants.Goals as goal

every : (r : Primes) (P Q : List (List Pair) → Type 0) → ((cubes : List (List Pair)) → P cubes → Q cubes) → IfEvery r P → IfEvery r Q
every (Every cubes) P Q f h = f cubes h
every More P Q f h = tt

pub with_value-requires-clause-subject : goal.with_value-requires-clause-subject
with_value-requires-clause-subject c =
    component_inside c.args.model.now c.args.the_move.now.component c.args.the_move.now.source c.in_ok-asked.asked.sizes c.requires.from.source c.in_ok-asked.ensures.sizes

states : (c : goal.After-drop-fixed-3) → AreStatesOf c.args.model.now (with_guard c.args.the_move.now c.args.guard.now) c.in_ok-states.states
states c = states_of c.args.model.now (with_guard c.args.the_move.now c.args.guard.now) c.in_ok-asked.asked c.in_ok-fixed.fixed c.in_ok-states.states c.len.result (record {
  count = c.len.ensures ∙ ap length c.components.ensures.value;
  source = c.requires.from.source;
  asks = c.in_ok-asked.ensures;
  fixed_sizes = c.in_ok-fixed.ensures.sizes;
  fixes = c.in_ok-fixed.ensures.met;
  states_sizes = c.in_ok-states.ensures.sizes;
  projects = c.in_ok-states.ensures.exact;
})

pub returns-clause-every : goal.returns-clause-every
returns-clause-every c =
    let m = c.args.model.now in
    let move = with_guard c.args.the_move.now c.args.guard.now in
    every c.in_ok-found.found (AreAllPrimes c.in_ok-states.states MAX_WAYS) (AreWays m move) (λ cubes all. all_ways m move c.in_ok-states.states MAX_WAYS cubes (states c) all) c.in_ok-found.ensures.every

pub returns-clause-more : goal.returns-clause-more
returns-clause-more c =
    let many = many_ways c.args.model.now (with_guard c.args.the_move.now c.args.guard.now) c.in_ok-states.states (states c) in
    (λ h. many.0 (c.in_ok-found.ensures.more.0 h), λ h. c.in_ok-found.ensures.more.1 (many.1 h))
