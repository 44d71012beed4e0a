use Rattle.std.proofs.Common.{◌≢◌, ◌∙◌, ◌+◌, ◌<◌, ◌≤◌, ℕ, List, [], ◌∷◌, length, slice_index, sym, subst, arith, length-append}
use Rattle.std.proofs.lemmas.Bool.{true≢false}
use Rattle.cca_base.specs.declared.cube.Pair.{Pair}
use Rattle.world_search.specs.Worlds.{IsSolution}
use Rattle.consistency.proofs.BackboneLaws.{none_yet, passed, noted, all_noted, varied_not_forced}
use Rattle.consistency.proofs.backbone.backbone.Goals as goal
use Rattle.consistency.proofs.backbone.backbone.Goals.{then-has+then-not-has_subject+then-is_other_found, then-has+then-not-has_subject+else-is_other_found, else-has, else-has-via-then-has+else-not-has_subject, else-has-via-else-has}

pub loop-item-init : goal.loop-item-init
loop-item-init c =
    let clauses = c.args.problem.now.clauses in
    let base = c.args.space.now.base.items in
    rw c.clear.ensures.items (record {
      space = c.differing-varied.ensures.space;
      base = c.differing-varied.ensures.base;
      done = none_yet clauses base c.args.components c.args.vars;
      varied = c.differing-varied.ensures.varied;
      few = omega arith;
      room = c.clear.ensures.room;
    })

pub loop-item-preserved : goal.loop-item-preserved
loop-item-preserved c =
    let clauses = c.args.problem.now.clauses in
    let base = c.args.space.now.base.items in
    let first = c.args.components in
    let vars = c.args.vars in
    let n = c.loop-item.item in
    let inv = c.loop-item.invariant in
    let values : List ℕ = c.args.world.now in
    let one : IsSolution clauses base values = c.requires.world in
    let room : first + n < length values = omega arith in
    let at : ℕ → Pair = λ x. record { item = n; value = x } in
    elim c.if-has.branch [
      | then-has+then-not-has_subject+then-is_other_found w ↦
          let xs : List ℕ = w.is_other_found.new.space.world.items in
          let world : IsSolution clauses base xs = subst (λ (b : List ℕ). IsSolution clauses b xs) inv.base (w.is_other_found.ensures.world w.if-is_other_found.true) in
          let apart : slice_index xs (first + n) ≢ slice_index values (first + n) = w.is_other_found.ensures.other w.if-is_other_found.true in
          rw (w.space-is, w.pairs-is, w.varied-is) (record {
            space = w.is_other_found.ensures.space;
            base = w.is_other_found.ensures.base ∙ inv.base;
            done = passed clauses base first vars n c.loop-item.pairs.items inv.done (λ x asked all. apart (all xs world ∙ sym (all values one)));
            varied = w.with_differing-varied.ensures clauses base one (subst (IsSolution clauses base) (sym w.world.ensures) world) inv.varied;
            few = omega (arith, inv.few);
            room = inv.room;
          })
      | then-has+then-not-has_subject+else-is_other_found w ↦
          rw (w.space-is, w.pairs-is, w.varied-is, w.push.ensures.items) (record {
            space = w.is_other_found.ensures.space;
            base = w.is_other_found.ensures.base ∙ inv.base;
            done = noted clauses base first vars n c.loop-item.pairs.items inv.done (slice_index values (first + n)) (sym c.has.ensures ∙ w.if-has.true)
                (λ xs world. w.is_other_found.ensures.none w.if-is_other_found.false xs (subst (λ (b : List ℕ). IsSolution clauses b xs) (sym inv.base) world)) values one;
            varied = inv.varied;
            few = omega (arith, inv.few, length-append c.loop-item.pairs.items (at (slice_index values (first + n)) ∷ []));
            room = w.push.ensures.room ∙ inv.room;
          })
      | else-has w ↦ rw (w.space-is, w.pairs-is, w.varied-is) (record {
        space = inv.space;
        base = inv.base;
        done = passed clauses base first vars n c.loop-item.pairs.items inv.done (λ x asked all. elim w.else-has.branch [
          | else-has-via-then-has+else-not-has_subject w' ↦ varied_not_forced clauses base first (at x) (inv.varied (first + n) (sym w'.has_subject.ensures ∙ w'.if-not-has_subject.false)) all
          | else-has-via-else-has w' ↦ true≢false (sym asked ∙ (sym c.has.ensures ∙ w'.if-has.false))
        ]);
        varied = inv.varied;
        few = omega (arith, inv.few);
        room = inv.room;
      })
    ]

pub returns-clause-pairs : goal.returns-clause-pairs
returns-clause-pairs c =
    let long = c.requires.world.full in
    let front : c.args.components ≤ length c.args.space.now.base.items = subst (λ m. c.args.components ≤ m) (sym c.requires.space.buffers.base) c.requires.front in
    all_noted c.args.problem.now.clauses c.args.space.now.base.items c.args.components c.args.vars c.loop-item.item c.loop-item.pairs.items c.loop-item.invariant.done
    (omega (arith, long, front))
