use Rattle.std.proofs.Common.{◌≡◌, false, sym, ap, subst, ◌∙◌}
use Rattle.bounded_list.specs.Bounded.{bounded}
use Rattle.control_laws.proofs.PushedPairs.{named}
use Rattle.control_program.specs.Goals.{FitsRoom}
use Rattle.control_program.proofs.GoalLaws.{pushed_fits, pushed_room}
use Rattle.control_program.proofs.goals.put.Goals as goal

pub push-requires : goal.push-requires
push-requires c =
    let new : named c.args.pair.item c.args.goal.now.items ≡ false = ap (named c.args.pair.item) (sym c.as_slice.ensures.items) ∙ sym c.is_named.ensures ∙ c.if-not-is_named.true in
    pushed_room c.args.goal.now c.args.pair c.requires.fits c.requires.among new

pub returns-then-not-is_named-clause-fits : goal.returns-then-not-is_named-clause-fits
returns-then-not-is_named-clause-fits c =
    let old = c.args.goal.now in
    let new : named c.args.pair.item old.items ≡ false = ap (named c.args.pair.item) (sym c.as_slice.ensures.items) ∙ sym c.is_named.ensures ∙ c.if-not-is_named.true in
    subst FitsRoom (ap (λ l. bounded l old.room) (sym c.push.ensures.items) ∙ ap (bounded c.push.new.self.items) (sym c.push.ensures.room)) (pushed_fits old c.args.pair c.requires.fits c.requires.among new)
