use Rattle.std.proofs.Common.{◌≡◌, ◌+◌, length, take, slice_index, ap, subst, sym, ◌∙◌}
use Rattle.clash_analysis.specs.Subjects.{is_in}
use Rattle.clash_analysis.specs.Clashes.{IsClash}
use Rattle.clash_analysis.specs.Learning.{IsLearned}
use Rattle.clash_analysis.specs.Trails.{IsTrail}
use Rattle.clash_analysis.specs.Laws.{Passes}
use Rattle.world_search.proofs.FurtherLaws.{analysed, clash_on, IsLowered, learn_is, lowered, right_again}
use Rattle.world_search.proofs.learn.learn_further.Goals as goal

pub returns-in_default-clause-blamed : goal.returns-in_default-clause-blamed
returns-in_default-clause-blamed c want pairs clashed =
    let old = c.args.work.now in
    let clash : IsClash want pairs c.deref.result.now (take old.long c.deref_mut-3.result.now) c.deref_mut.result.now (is_in c.no_subject-blamed.result) c.deref_mut-2.result.now =
    rw (c.deref.ensures.value, c.deref_mut.ensures.value, c.deref_mut-2.ensures.value, c.deref_mut-3.ensures.value) (clash_on old want pairs (is_in c.no_subject-blamed.result) clashed) in
    c.in_default.ensures.analysed want pairs clash (λ _. c.no_subject-blamed.ensures)

pub returns-clause-right : goal.returns-clause-right
returns-clause-right c _ want pairs clashed =
    let old = c.args.work.now in
    let level = c.in-Some.level in
    let clash : IsClash want pairs c.deref.result.now (take old.long c.deref_mut-3.result.now) c.deref_mut.result.now (is_in c.no_subject-blamed.result) c.deref_mut-2.result.now =
    rw (c.deref.ensures.value, c.deref_mut.ensures.value, c.deref_mut-2.ensures.value, c.deref_mut-3.ensures.value) (clash_on old want pairs (is_in c.no_subject-blamed.result) clashed) in
    let right : IsTrail (Passes want) pairs old.start.items (take (slice_index old.marks.items level + 1) c.analyse-learned.new.trail) c.analyse-learned.new.dom =
    rw (c.deref.ensures.value, c.deref-2.ensures.value) at (c.in-Some.ensures.analysed want pairs clash (λ _. c.no_subject-blamed.ensures)).0 in
    right_again old c.analyse-learned.new.dom c.analyse-learned.new.learn c.clear.new.learn c.analyse-learned.new.trail level c.index.result.now c.requires.ready c.in-Some.ensures.less c.index.ensures
    (c.analyse-learned.ensures.dom ∙ ap length c.deref_mut.ensures.value) (c.analyse-learned.ensures.trail ∙ ap length c.deref_mut-3.ensures.value)
    want pairs right

pub returns-clause-kept : goal.returns-clause-kept
returns-clause-kept c want pairs clashed before =
    let old = c.args.work.now in
    let clash : IsClash want pairs c.deref.result.now (take old.long c.deref_mut-3.result.now) c.deref_mut.result.now (is_in c.no_subject-blamed.result) c.deref_mut-2.result.now =
    rw (c.deref.ensures.value, c.deref_mut.ensures.value, c.deref_mut-2.ensures.value, c.deref_mut-3.ensures.value) (clash_on old want pairs (is_in c.no_subject-blamed.result) clashed) in
    let learned : IsLearned (Passes want) c.analyse-learned.new.learn = (c.in-Some.ensures.analysed want pairs clash (λ _. c.no_subject-blamed.ensures)).1 in
    let same : c.deref-3.result.now ≡ c.analyse-learned.new.learn =
    c.deref-3.ensures.value ∙ learn_is old c.analyse-learned.new.learn (c.analyse-learned.ensures.learn ∙ ap length c.deref_mut-2.ensures.value) in
    rw (c.note_clash.ensures.slots, c.note_clash.ensures.kept) (c.keep.ensures.kept want (subst (IsLearned (Passes want)) (sym same) learned) before)

pub returns-clause-ready : goal.returns-clause-ready
returns-clause-ready c _ =
    let old = c.args.work.now in
    let level = c.in-Some.level in
    let one = c.requires.clash in
    let clash : IsClash one.0 one.1 c.deref.result.now (take old.long c.deref_mut-3.result.now) c.deref_mut.result.now (is_in c.no_subject-blamed.result) c.deref_mut-2.result.now =
    rw (c.deref.ensures.value, c.deref_mut.ensures.value, c.deref_mut-2.ensures.value, c.deref_mut-3.ensures.value) (clash_on old one.0 one.1 (is_in c.no_subject-blamed.result) one.2) in
    let right : IsTrail (Passes one.0) one.1 old.start.items (take (slice_index old.marks.items level + 1) c.analyse-learned.new.trail) c.analyse-learned.new.dom =
    rw (c.deref.ensures.value, c.deref-2.ensures.value) at (c.in-Some.ensures.analysed one.0 one.1 clash (λ _. c.no_subject-blamed.ensures)).0 in
    let low : IsLowered old (analysed old c.analyse-learned.new.dom c.analyse-learned.new.learn c.clear.new.learn c.analyse-learned.new.trail level c.index.result.now) =
    lowered old c.analyse-learned.new.dom c.analyse-learned.new.learn c.clear.new.learn c.analyse-learned.new.trail level c.index.result.now c.requires.ready c.in-Some.ensures.less c.index.ensures
    (c.analyse-learned.ensures.dom ∙ ap length c.deref_mut.ensures.value) (c.analyse-learned.ensures.trail ∙ ap length c.deref_mut-3.ensures.value)
    (c.analyse-learned.ensures.learn ∙ ap length c.deref_mut-2.ensures.value) (c.clear.ensures.long ∙ ap length c.deref_mut-4.ensures.value) (rw (c.deref-2.ensures.value, c.deref_mut-3.ensures.value) at c.in-Some.ensures.kept)
    (rw c.deref-2.ensures.value at c.in-Some.ensures.levels) (rw (c.deref-2.ensures.value, c.deref_mut.ensures.value) at c.in-Some.ensures.inside) one.0 one.1 right in
    low.ready

pub returns-clause-below : goal.returns-clause-below
returns-clause-below c _ =
    let old = c.args.work.now in
    let level = c.in-Some.level in
    let one = c.requires.clash in
    let clash : IsClash one.0 one.1 c.deref.result.now (take old.long c.deref_mut-3.result.now) c.deref_mut.result.now (is_in c.no_subject-blamed.result) c.deref_mut-2.result.now =
    rw (c.deref.ensures.value, c.deref_mut.ensures.value, c.deref_mut-2.ensures.value, c.deref_mut-3.ensures.value) (clash_on old one.0 one.1 (is_in c.no_subject-blamed.result) one.2) in
    let right : IsTrail (Passes one.0) one.1 old.start.items (take (slice_index old.marks.items level + 1) c.analyse-learned.new.trail) c.analyse-learned.new.dom =
    rw (c.deref.ensures.value, c.deref-2.ensures.value) at (c.in-Some.ensures.analysed one.0 one.1 clash (λ _. c.no_subject-blamed.ensures)).0 in
    let low : IsLowered old (analysed old c.analyse-learned.new.dom c.analyse-learned.new.learn c.clear.new.learn c.analyse-learned.new.trail level c.index.result.now) =
    lowered old c.analyse-learned.new.dom c.analyse-learned.new.learn c.clear.new.learn c.analyse-learned.new.trail level c.index.result.now c.requires.ready c.in-Some.ensures.less c.index.ensures
    (c.analyse-learned.ensures.dom ∙ ap length c.deref_mut.ensures.value) (c.analyse-learned.ensures.trail ∙ ap length c.deref_mut-3.ensures.value)
    (c.analyse-learned.ensures.learn ∙ ap length c.deref_mut-2.ensures.value) (c.clear.ensures.long ∙ ap length c.deref_mut-4.ensures.value) (rw (c.deref-2.ensures.value, c.deref_mut-3.ensures.value) at c.in-Some.ensures.kept)
    (rw c.deref-2.ensures.value at c.in-Some.ensures.levels) (rw (c.deref-2.ensures.value, c.deref_mut.ensures.value) at c.in-Some.ensures.inside) one.0 one.1 right in
    low.below

pub returns-clause-weight : goal.returns-clause-weight
returns-clause-weight c _ =
    let old = c.args.work.now in
    let level = c.in-Some.level in
    let one = c.requires.clash in
    let clash : IsClash one.0 one.1 c.deref.result.now (take old.long c.deref_mut-3.result.now) c.deref_mut.result.now (is_in c.no_subject-blamed.result) c.deref_mut-2.result.now =
    rw (c.deref.ensures.value, c.deref_mut.ensures.value, c.deref_mut-2.ensures.value, c.deref_mut-3.ensures.value) (clash_on old one.0 one.1 (is_in c.no_subject-blamed.result) one.2) in
    let right : IsTrail (Passes one.0) one.1 old.start.items (take (slice_index old.marks.items level + 1) c.analyse-learned.new.trail) c.analyse-learned.new.dom =
    rw (c.deref.ensures.value, c.deref-2.ensures.value) at (c.in-Some.ensures.analysed one.0 one.1 clash (λ _. c.no_subject-blamed.ensures)).0 in
    let low : IsLowered old (analysed old c.analyse-learned.new.dom c.analyse-learned.new.learn c.clear.new.learn c.analyse-learned.new.trail level c.index.result.now) =
    lowered old c.analyse-learned.new.dom c.analyse-learned.new.learn c.clear.new.learn c.analyse-learned.new.trail level c.index.result.now c.requires.ready c.in-Some.ensures.less c.index.ensures
    (c.analyse-learned.ensures.dom ∙ ap length c.deref_mut.ensures.value) (c.analyse-learned.ensures.trail ∙ ap length c.deref_mut-3.ensures.value)
    (c.analyse-learned.ensures.learn ∙ ap length c.deref_mut-2.ensures.value) (c.clear.ensures.long ∙ ap length c.deref_mut-4.ensures.value) (rw (c.deref-2.ensures.value, c.deref_mut-3.ensures.value) at c.in-Some.ensures.kept)
    (rw c.deref-2.ensures.value at c.in-Some.ensures.levels) (rw (c.deref-2.ensures.value, c.deref_mut.ensures.value) at c.in-Some.ensures.inside) one.0 one.1 right in
    low.weight
