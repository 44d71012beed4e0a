use Rattle.std.proofs.Common.{◌≡◌, ◌+◌, ◌≤◌, true, length, take, sym, ap, subst, ◌∙◌}
use Rattle.std.specs.Prelude.{All}
use Rattle.std.proofs.lemmas.List.Elements.{All-nil}
use Rattle.cca_base.specs.declared.limits.TheConstants.{MAX_CHOICES}
use Rattle.clause_form.specs.declared.clause.Clauses.{Clauses}
use Rattle.clash_analysis.specs.Ends.{count_all}
use Rattle.world_search.specs.declared.store.Slot.{Slot}
use Rattle.world_search.specs.Stores.{clause_of}
use Rattle.world_search.specs.Spaces.{AreWords}
use Rattle.world_search.specs.Words.{met}
use Rattle.world_search.proofs.SizeLaws.{room_below}
use Rattle.world_search.proofs.SpaceLaws.{begun_space, stuck_space}
use Rattle.world_search.proofs.problem.Problem.begin.Goals as goal

pub begin_with-space-requires-clause-room : goal.begin_with-space-requires-clause-room
begin_with-space-requires-clause-room c =
    let s = c.args.space.now in
    let base = s.base.items in
    subst (λ l. count_all MAX_CHOICES l ≤ length s.work.trail.items + length l) (sym c.deref.ensures.value)
    (subst (λ n. count_all MAX_CHOICES base ≤ n + length base) (sym c.requires.room) (room_below MAX_CHOICES c.args.self.now.sizes base c.requires.buffers.base c.requires.sizes))

pub returns-clause-space : goal.returns-clause-space
returns-clause-space c =
    let s = c.args.space.now in
    let buffers = c.requires.buffers in
    let clauses = c.args.self.now.clauses in
    let words = c.self.inside.rules.clauses.items in
    let same = (subst (λ (x : Clauses). AreWords x words) c.self.view_is c.self.invariant.words).same in
    let seen = c.deref.ensures.value in
    let store = c.forget.new.store in
    let start = c.begin_with-space.new.work.start.items in
    let after = c.begin_with-space.ensures in
    record {
      buffers = record {
        shape = after.shape;
        subjects = after.start ∙ ap length seen ∙ buffers.base;
        base = buffers.base;
        world = buffers.world;
        trial = buffers.trial;
        mending = buffers.mending;
        store = c.forget.ensures.store (length c.args.self.now.sizes) buffers.store;
      };
      room = after.room ∙ c.requires.room;
      sizes = c.requires.sizes;
      learned = λ xs world. subst (λ n. All (λ (l : Slot). met xs (clause_of l) ≡ true) (take n store.slots.items)) (sym c.forget.ensures.kept) (All-nil (λ (l : Slot). met xs (clause_of l) ≡ true));
      stuck = λ is. stuck_space clauses words same c.deref.result.now s.base.items start seen (after.stuck is);
      roomy = after.roomy;
      begun = λ is. begun_space clauses words same c.deref.result.now s.base.items start seen (after.within is) (after.all is);
    }
