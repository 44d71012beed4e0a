use Rattle.std.proofs.Common.{◌≡◌, ◌<◌, true, eqb, length, take, refl, ◌∙◌, arith}
use Rattle.std.proofs.lemmas.Bool.{eq-eqb, or_left}
use Rattle.clash_analysis.specs.Subjects.{is_in}
use Rattle.clash_analysis.specs.Clashes.{AreNoChoices, IsClash}
use Rattle.clash_analysis.specs.Laws.{Passes}
use Rattle.clash_analysis.proofs.ClimbLaws.{front_plain}
use Rattle.clash_analysis.proofs.VisitLaws.{pair_learned}
use Rattle.world_search.proofs.answer.blame_pair.Goals as goal

pub returns-clause-blamed : goal.returns-clause-blamed
returns-clause-blamed c want pairs among all t =
    let old = c.args.work.now in
    let p = c.args.pair in
    let ready = c.requires.ready in
    let blamed = is_in c.with_subject-blamed.result in
    let is : blamed p.item ≡ true = c.with_subject-blamed.ensures p.item ∙ or_left (eqb p.item p.item) (is_in c.no_subject.result p.item) (eq-eqb p.item p.item refl) in
    let inside : p.item < length old.start.items = omega (arith, c.requires.subject, ready.shape.dom) in
    let clash : IsClash want pairs c.deref.result.now (take old.long c.as_slice.result.now) c.deref_mut.result.now blamed c.deref_mut-2.result.now =
    rw (c.deref.ensures.value, c.deref_mut.ensures.value, c.deref_mut-2.ensures.value, c.as_slice.ensures.value) (record {
      within = all;
      right = t;
      long = ready.shape.learn;
      learned = pair_learned (Passes want) pairs old.start.items old.learn.items p blamed all inside among is c.requires.lost.learned;
      apart = c.requires.lost.apart;
    }) in
    let plain : AreNoChoices (take old.long c.as_slice.result.now) = rw c.as_slice.ensures.value (front_plain old.marks.items old.levels old.trail.items old.long ready.levels (omega (arith, c.requires.levels))) in
    c.blame.ensures want pairs plain clash
