use Rattle.std.proofs.Common.{◌∙◌, List, length, ap}
use Rattle.cca_base.specs.declared.cube.Pair.{Pair}
use Rattle.prime_implicants.specs.Primes.{AreAllPrimes, IfEvery}
use Rattle.prime_implicants.specs.declared.answer.Primes.{Primes}
use Rattle.prime_implicants.specs.declared.answer.Primes.TheVariants.{Every, More}
use Rattle.guard_compiler.specs.Wishes.{AreImplicants}
use Rattle.guard_compiler.proofs.WishMeaning.{AreStatesAgainst, states_against, all_implicants, many_implicants}
use Rattle.guard_compiler.proofs.wishes.whole_wish.Goals as goal

every : (r : Primes) (P Q : List (List Pair) → Type 0) → ((cubes : List (List Pair)) → P cubes → Q cubes) → IfEvery r P → IfEvery r Q
every (Every cubes) P Q f h = f cubes h
every More P Q f h = tt

-- the clauses that were projected are those of the states from which the formula follows
against : (c : goal.After-drop-asked-3) → AreStatesAgainst c.args.model.now c.args.formula.now c.in_ok-states.states
against c = states_against c.args.model.now c.args.formula.now c.in_ok-asked.asked c.in_ok-states.states c.len.result (c.len.ensures ∙ ap length c.components.ensures.value) c.in_ok-asked.ensures
    c.in_ok-states.ensures.sizes c.in_ok-states.ensures.exact

pub returns-clause-every : goal.returns-clause-every
returns-clause-every c =
    let m = c.args.model.now in
    let f = c.args.formula.now in
    every c.in_ok-found.found (AreAllPrimes c.in_ok-states.states c.args.most) (AreImplicants m f)
    (λ cubes all. all_implicants m f c.in_ok-states.states c.args.most cubes (against c) all) c.in_ok-found.ensures.every

pub returns-clause-more : goal.returns-clause-more
returns-clause-more c =
    let both = many_implicants c.args.model.now c.args.formula.now c.in_ok-states.states c.args.most (against c) in
    (λ h. both.0 (c.in_ok-found.ensures.more.0 h), λ h. c.in_ok-found.ensures.more.1 (both.1 h))
