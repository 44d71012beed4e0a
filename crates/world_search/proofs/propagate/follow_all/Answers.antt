use Rattle.std.proofs.Common.{◌++◌, true, false, List, Bool, ℕ, ◌∙◌, subst}
use Rattle.world_search.specs.Followed.{IsFollowed}
use Rattle.world_search.specs.Stores.{AreSlotsMetIn}
use Rattle.world_search.specs.Asked.{AreAllMetIn}
use Rattle.world_search.specs.Words.{AreMetIn}
use Rattle.world_search.proofs.FollowLaws.{dom_long, followed_then, met_back, met_front}
use Rattle.world_search.proofs.propagate.follow_all.Goals as goal
use Rattle.world_search.proofs.propagate.follow_all.Goals.{then-follow_trail-via-then-follow_trail, then-follow_trail-via-else-follow_trail+then-visit_all, then-follow_trail-via-else-follow_trail+else-visit_all+then-visit_slots}

pub returns-then-follow_trail-clause-followed : goal.returns-then-follow_trail-clause-followed
returns-then-follow_trail-clause-followed c =
    let rules = c.args.rules.now.clauses.items in
    let beside = c.args.beside.now in
    let slots = c.args.slots.now in
    let holds : (List ℕ → Bool) → Type 0 = AreAllMetIn (rules ++ beside) slots in
    let one = c.args.work.now in
    let two = c.again.work in
    let three = c.follow_trail.new.work in
    let first = followed_then holds (AreMetIn rules) (λ want is. met_front rules beside want is.met) one two three c.follow_trail.result c.again.invariant.followed c.follow_trail.ensures.followed in
    elim c.then-follow_trail.branch [
      | then-follow_trail-via-then-follow_trail w ↦ rw w.work-is (subst (λ b. IsFollowed holds one three b) w.if-follow_trail.true first)
      | then-follow_trail-via-else-follow_trail+then-visit_all w ↦ rw w.work-is
          (followed_then holds (AreMetIn beside) (λ want is. met_back rules beside want is.met) one three w.visit_all.new.work true (subst (λ b. IsFollowed holds one three b) w.if-follow_trail.false first)
          (subst (λ b. IsFollowed (AreMetIn beside) three w.visit_all.new.work b) w.if-visit_all.true w.visit_all.ensures.followed))
      | then-follow_trail-via-else-follow_trail+else-visit_all+then-visit_slots w ↦ rw w.work-is
          (followed_then holds (AreSlotsMetIn slots) (λ want is. is.learned) one w.visit_all.new.work w.visit_slots.new.work true
          (followed_then holds (AreMetIn beside) (λ want is. met_back rules beside want is.met) one three w.visit_all.new.work false (subst (λ b. IsFollowed holds one three b) w.if-follow_trail.false first)
          (subst (λ b. IsFollowed (AreMetIn beside) three w.visit_all.new.work b) w.if-visit_all.false w.visit_all.ensures.followed))
          (subst (λ b. IsFollowed (AreSlotsMetIn slots) w.visit_all.new.work w.visit_slots.new.work b) w.if-visit_slots.true w.visit_slots.ensures.followed))
    ]

pub returns-then-work-clause-followed : goal.returns-then-work-clause-followed
returns-then-work-clause-followed c =
    let rules = c.args.rules.now.clauses.items in
    let beside = c.args.beside.now in
    let slots = c.args.slots.now in
    let holds : (List ℕ → Bool) → Type 0 = AreAllMetIn (rules ++ beside) slots in
    let one = c.args.work.now in
    let two = c.again.work in
    let three = c.follow_trail.new.work in
    let four = c.visit_all.new.work in
    let five = c.visit_slots.new.work in
    followed_then holds (AreSlotsMetIn slots) (λ want is. is.learned) one four five false
    (followed_then holds (AreMetIn beside) (λ want is. met_back rules beside want is.met) one three four false
    (followed_then holds (AreMetIn rules) (λ want is. met_front rules beside want is.met) one two three false c.again.invariant.followed (subst (λ b. IsFollowed (AreMetIn rules) two three b) c.if-follow_trail.false c.follow_trail.ensures.followed))
    (subst (λ b. IsFollowed (AreMetIn beside) three four b) c.if-visit_all.false c.visit_all.ensures.followed))
    (subst (λ b. IsFollowed (AreSlotsMetIn slots) four five b) c.if-visit_slots.false c.visit_slots.ensures.followed)

pub again-preserved : goal.again-preserved
again-preserved c =
    let rules = c.args.rules.now.clauses.items in
    let beside = c.args.beside.now in
    let slots = c.args.slots.now in
    let holds : (List ℕ → Bool) → Type 0 = AreAllMetIn (rules ++ beside) slots in
    let one = c.args.work.now in
    let two = c.again.work in
    let three = c.follow_trail.new.work in
    let four = c.visit_all.new.work in
    let five = c.visit_slots.new.work in
    let followed : IsFollowed holds one five false =
    followed_then holds (AreSlotsMetIn slots) (λ want is. is.learned) one four five false
    (followed_then holds (AreMetIn beside) (λ want is. met_back rules beside want is.met) one three four false
    (followed_then holds (AreMetIn rules) (λ want is. met_front rules beside want is.met) one two three false c.again.invariant.followed (subst (λ b. IsFollowed (AreMetIn rules) two three b) c.if-follow_trail.false c.follow_trail.ensures.followed))
    (subst (λ b. IsFollowed (AreMetIn beside) three four b) c.if-visit_all.false c.visit_all.ensures.followed))
    (subst (λ b. IsFollowed (AreSlotsMetIn slots) four five b) c.if-visit_slots.false c.visit_slots.ensures.followed) in
    record {
      followed = followed;
      long = dom_long one five c.requires.ready followed.ready followed.moved;
      notes = c.visit_slots.ensures.notes ∙ c.again.invariant.notes;
    }
