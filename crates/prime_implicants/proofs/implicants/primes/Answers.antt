use Rattle.std.proofs.Common.{◌≤◌, length}
use Rattle.prime_implicants.specs.Found.{is_proper, AreMany, AreOrdered}
use Rattle.prime_implicants.specs.Primes.{AreAllPrimes, AreMorePrimes}
use Rattle.prime_implicants.proofs.FoundAnswers.{AreFinished, AreSound, HasEvery, all_primes, more_primes, not_more, proper_key}
use Rattle.prime_implicants.proofs.implicants.primes.Goals.{After-drop-rows-in-Some, After-drop-rows-2}
use Rattle.prime_implicants.proofs.implicants.primes.Goals as goal

pub cubes_of-requires : goal.cubes_of-requires
cubes_of-requires c =
    let sizes = c.args.clauses.now.sizes in
    let rows = c.complete.new.rows.items in
    let sound : AreSound sizes rows c.in-Some.found.keys = rw (c.as_slice-sizes.ensures.value, c.as_slice.ensures.value) at (rw c.in-Some.is at c.in_ok-found.ensures.sound) in
    sound is_proper (λ p f. proper_key sizes rows p c.as_slice-sizes.ensures.few (λ y h. c.in_ok-complete.ensures.zero y (c.in_ok-rows.ensures.zero y h)) f)

answered : (c : After-drop-rows-in-Some) → AreAllPrimes c.args.clauses.now c.args.most c.in_ok-cubes_of-in-Some.field-0
answered c =
    let sizes = c.args.clauses.now.sizes in
    let rows = c.complete.new.rows.items in
    let sound : AreSound sizes rows c.in-Some.found.keys = rw (c.as_slice-sizes.ensures.value, c.as_slice.ensures.value) at (rw c.in-Some.is at c.in_ok-found.ensures.sound) in
    let every : HasEvery sizes rows c.in-Some.found.keys = rw (c.as_slice-sizes.ensures.value, c.as_slice.ensures.value) at (rw c.in-Some.is at c.in_ok-found.ensures.every) in
    let few : length c.in-Some.found.keys ≤ c.args.most = rw c.in-Some.is at c.in_ok-found.ensures.few in
    let ordered : AreOrdered c.in-Some.found.keys = rw c.in-Some.is at c.in_ok-found.ensures.ordered in
    let finished : AreFinished c.args.clauses.now c.in_ok-rows.rows.items rows = record {
      of = c.in_ok-rows.ensures.unfalsified;
      complete = c.in_ok-complete.ensures.complete;
    } in
    rw c.in_ok-cubes_of-in-Some.ensures (all_primes c.args.clauses.now c.in_ok-rows.rows.items rows c.args.most c.in-Some.found.keys finished sound every ordered few)

pub returns-in-Some-clause-every : goal.returns-in-Some-clause-every
returns-in-Some-clause-every c = answered c

pub returns-in-Some-clause-more : goal.returns-in-Some-clause-more
returns-in-Some-clause-more c = ((λ h. absurd h), (λ m. not_more c.args.clauses.now c.args.most c.in_ok-cubes_of-in-Some.field-0 (answered c) m))

more_of : (c : After-drop-rows-2) → AreMorePrimes c.args.clauses.now c.args.most
more_of c =
    let sizes = c.args.clauses.now.sizes in
    let rows = c.complete.new.rows.items in
    let many : AreMany sizes rows c.args.most = rw (c.as_slice-sizes.ensures.value, c.as_slice.ensures.value) at (rw c.in-None.is at c.in_ok-found.ensures.more) in
    let finished : AreFinished c.args.clauses.now c.in_ok-rows.rows.items rows = record {
      of = c.in_ok-rows.ensures.unfalsified;
      complete = c.in_ok-complete.ensures.complete;
    } in
    more_primes c.args.clauses.now c.in_ok-rows.rows.items rows c.args.most finished many

pub returns-clause-more : goal.returns-clause-more
returns-clause-more c = ((λ h. more_of c), (λ m. tt))
