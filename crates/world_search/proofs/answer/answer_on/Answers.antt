use Rattle.std.proofs.Common.{◌≡◌, ◌<◌, ◌++◌, ℕ, true, length, slice_index, refl, sym, ap, subst, ◌∙◌}
use Rattle.std.proofs.lemmas.List.{with_items_is}
use Rattle.std.proofs.lemmas.List.Elements.{All-contains}
use Rattle.cca_base.specs.declared.cube.Pair.{Pair}
use Rattle.clash_analysis.specs.Trails.{AllWithin}
use Rattle.clash_analysis.specs.Laws.{Passes}
use Rattle.cca_base.specs.Sets.{has}
use Rattle.cca_base.specs.declared.limits.TheConstants.{MAX_CHOICES}
use Rattle.world_search.specs.declared.store.Store.{Store}
use Rattle.world_search.specs.declared.work.Work.{Work}
use Rattle.world_search.specs.Assumed.{IsHeld}
use Rattle.world_search.specs.Choices.{AllMetBy, AreOf}
use Rattle.world_search.specs.Stores.{AreKept}
use Rattle.world_search.specs.Worlds.{HasAll}
use Rattle.world_search.proofs.StepLaws.{dom_same, none, within_before}
use Rattle.world_search.proofs.WorkLaws.{moved_below}
use Rattle.world_search.proofs.answer.answer_on.Goals as goal

pub search_world-requires-clause-right : goal.search_world-requires-clause-right
search_world-requires-clause-right c = (c.args.pairs.now, c.assume_all.ensures.right none (c.restart_at.ensures.right none c.args.pairs.now))

pub returns-in-Some-clause-answer : goal.returns-in-Some-clause-answer
returns-in-Some-clause-answer c want holds all =
    let old = c.args.space.now in
    let pairs = c.args.pairs.now in
    let same = c.is_mended.ensures.same in
    let start = c.assume_all.ensures.moved.longer.start ∙ c.restart_at.ensures.start ∙ ap (λ (w : Work). w.start.items) same.work in
    c.blame_pair.ensures.blamed want pairs c.in-Some.ensures.among (subst (AllWithin (Passes want)) (sym start) all) (c.assume_all.ensures.right want (c.restart_at.ensures.right want pairs))

pub returns-in-Some-search_world-clause-kept : goal.returns-in-Some-search_world-clause-kept
returns-in-Some-search_world-clause-kept c want met all kept =
    let old = c.args.space.now in
    let pairs = c.args.pairs.now in
    let same = c.is_mended.ensures.same in
    let start = c.assume_all.ensures.moved.longer.start ∙ c.restart_at.ensures.start ∙ ap (λ (w : Work). w.start.items) same.work in
    c.search_world.ensures.kept want pairs met (subst (AllWithin (Passes want)) (sym start) all) (c.assume_all.ensures.right want (c.restart_at.ensures.right want pairs))
    (subst (λ (l : Store). AreKept l want) (sym same.store) kept)

pub returns-in-Some-search_world-clause-answer : goal.returns-in-Some-search_world-clause-answer
returns-in-Some-search_world-clause-answer c want looked all =
    let old = c.args.space.now in
    let pairs = c.args.pairs.now in
    let same = c.is_mended.ensures.same in
    let start = c.assume_all.ensures.moved.longer.start ∙ c.restart_at.ensures.start ∙ ap (λ (w : Work). w.start.items) same.work in
    c.in-Some-search_world.ensures.blamed want pairs looked.met (subst (λ (l : Store). AreKept l want) (sym same.store) looked.learned) (subst (AllWithin (Passes want)) (sym start) all)
    (c.assume_all.ensures.right want (c.restart_at.ensures.right want pairs))

pub returns-clause-kept : goal.returns-clause-kept
returns-clause-kept c want met all kept =
    let old = c.args.space.now in
    let pairs = c.args.pairs.now in
    let same = c.is_mended.ensures.same in
    let start = c.assume_all.ensures.moved.longer.start ∙ c.restart_at.ensures.start ∙ ap (λ (w : Work). w.start.items) same.work in
    c.search_world.ensures.kept want pairs met (subst (AllWithin (Passes want)) (sym start) all) (c.assume_all.ensures.right want (c.restart_at.ensures.right want pairs))
    (subst (λ (l : Store). AreKept l want) (sym same.store) kept)

pub returns-clause-answer : goal.returns-clause-answer
returns-clause-answer c =
    let old = c.args.space.now in
    let pairs = c.args.pairs.now in
    let mended = c.is_mended.new.space in
    let same = c.is_mended.ensures.same in
    let begun = c.restart_at.new.work in
    let asked = c.assume_all.new.work in
    let trial = c.search_world.new.trial in
    let clauses = c.args.rules.now.clauses.items ++ c.args.beside.now in
    let is : c.copy_from_slice.new.self.items ≡ trial =
    c.copy_from_slice.ensures.items ∙ c.deref-2.ensures.value ∙ with_items_is mended.trial trial (c.search_world.ensures.long ∙ ap length c.deref_mut.ensures.value ∙ sym mended.trial.ok.0) in
    let dom : begun.dom.items ≡ old.work.start.items = c.restart_at.ensures.dom ∙ ap (λ (w : Work). w.start.items) same.work in
    let t = c.restart_at.ensures.right none pairs in
    let fewer : (v a : ℕ) → has (slice_index asked.dom.items v) a ≡ true → has (slice_index old.work.start.items v) a ≡ true = λ v a held.
    subst (λ d. has (slice_index d v) a ≡ true) dom
    (within_before begun asked pairs t (c.assume_all.ensures.right none t) c.assume_all.ensures.moved.longer.start c.restart_at.ensures.levels (moved_below begun asked c.assume_all.ensures.moved) v a held) in
    let long : length asked.dom.items ≡ length old.work.start.items = dom_same begun asked c.restart_at.ensures.ready c.assume_all.ensures.ready c.assume_all.ensures.moved.longer.start ∙ ap length dom in
    let left = c.in_default-search_world.ensures.left refl in
    subst (λ w. AreOf old.work.start.items w × AllMetBy w clauses × HasAll pairs w) (sym is) (
      λ v h. fewer v (slice_index trial v) (left v (subst (λ n. v < n) (sym long) h)),
      c.in_default-search_world.ensures.met refl,
      λ p among.
          let inside = (All-contains (λ (p : Pair). (p.item < length old.base.items) × (p.value < MAX_CHOICES)) pairs p c.requires.asked among).0 in
          All-contains (IsHeld asked.dom.items) pairs p (c.in_default.ensures.held refl) among (slice_index trial p.item) (left p.item (subst (λ n. p.item < n) (sym (long ∙ c.requires.buffers.subjects)) inside)),
    )
