use Rattle.std.proofs.Common.{[], true, false, get_or, refl, ◌∙◌, subst}
use Rattle.std.proofs.lemmas.List.{length-set}
use Rattle.world_search.specs.declared.store.Slot.{Slot}
use Rattle.world_search.specs.Followed.{IsFollowed}
use Rattle.world_search.specs.Stores.{AreSlotsMetIn, clause_of}
use Rattle.world_search.specs.Words.{IsMetIn}
use Rattle.world_search.proofs.FollowLaws.{dom_long, followed_then, one_kept}
use Rattle.world_search.proofs.propagate.visit_slots.Goals as goal

abbrev no_slot : Slot
no_slot = record { literals = []; long = 0 }

pub shared_ref_as_front-visit_slot : goal.shared_ref_as_front-visit_slot
shared_ref_as_front-visit_slot c = (c.requires.slots c.loop-k.k no_slot c.loop-k-test.true).room

pub returns-then-visit_slot-clause-followed : goal.returns-then-visit_slot-clause-followed
returns-then-visit_slot-clause-followed c =
    let slots = c.args.slots.now in
    let words = clause_of (get_or slots c.loop-k.k no_slot) in
    followed_then (AreSlotsMetIn slots) (IsMetIn words) (one_kept slots c.loop-k.k no_slot words c.loop-k-test.true refl) c.args.work.now c.loop-k.work c.visit_slot.new.work true c.loop-k.invariant.followed
    (subst (λ b. IsFollowed (IsMetIn words) c.loop-k.work c.visit_slot.new.work b) c.if-visit_slot.true c.visit_slot.ensures.followed)

pub loop-k-preserved : goal.loop-k-preserved
loop-k-preserved c =
    let slots = c.args.slots.now in
    let words = clause_of (get_or slots c.loop-k.k no_slot) in
    let old = c.loop-k.work in
    let new = c.visit_slot.new.work in
    let last : IsFollowed (IsMetIn words) old new false = subst (λ b. IsFollowed (IsMetIn words) old new b) c.if-visit_slot.false c.visit_slot.ensures.followed in
    record {
      followed = followed_then (AreSlotsMetIn slots) (IsMetIn words) (one_kept slots c.loop-k.k no_slot words c.loop-k-test.true refl) c.args.work.now old new false c.loop-k.invariant.followed last;
      head = c.visit_slot.ensures.head ∙ c.loop-k.invariant.head;
      long = dom_long old new c.loop-k.invariant.followed.ready last.ready last.moved ∙ c.loop-k.invariant.long;
      notes = length-set c.loop-k.notes c.loop-k.k c.visit_slot.new.note ∙ c.loop-k.invariant.notes;
    }
