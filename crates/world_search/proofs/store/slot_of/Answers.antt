use Rattle.std.proofs.Common.{◌+◌, ◌<◌, length, take, sym, subst, ◌∙◌, arith}
use Rattle.std.proofs.lemmas.List.{length-set, take_more_set}
use Rattle.std.proofs.lemmas.List.Elements.{All-push}
use Rattle.world_search.specs.declared.words.WordLiteral.{WordLiteral}
use Rattle.world_search.specs.Words.{AreInside}
use Rattle.world_search.proofs.StoreLaws.{AreAmong, among_push, among_skip, met_among, word_of}
use Rattle.world_search.proofs.store.slot_of.Goals as goal
use Rattle.world_search.proofs.store.slot_of.Goals.{then-learn-v-ne0+else-long-ge-SLOT_LITERALS, else-learn-v-ne0}

pub loop-v-preserved : goal.loop-v-preserved
loop-v-preserved c =
    let learn = c.args.learn.now in
    let words = c.loop-v.literals in
    let long = c.loop-v.long in
    let v = c.loop-v.v in
    let kept = c.loop-v.invariant in
    elim c.if-learn-v-ne0.branch [
      | then-learn-v-ne0+else-long-ge-SLOT_LITERALS w ↦
          let next = sym (take_more_set words long (word_of learn v) (omega (arith, kept.wide, w.if-long-ge-SLOT_LITERALS.false))) in
          rw (w.literals-is, w.long-is) (record {
            wide = length-set words long (word_of learn v) ∙ kept.wide;
            room = omega (arith, w.if-long-ge-SLOT_LITERALS.false);
            inside = subst (AreInside (length learn)) next (All-push (λ (x : WordLiteral). x.subject < length learn) (take long words) (word_of learn v) kept.inside c.loop-v-test.true);
            all = subst (λ ws. AreAmong learn ws (v + 1)) next (among_push learn (take long words) v kept.all);
          })
      | else-learn-v-ne0 w ↦ rw (w.literals-is, w.long-is) (record {
        wide = kept.wide;
        room = kept.room;
        inside = kept.inside;
        all = among_skip learn (take long words) v w.if-learn-v-ne0.false kept.all;
      })
    ]

pub returns-clause-clause : goal.returns-clause-clause
returns-clause-clause c = met_among c.args.learn.now (take c.loop-v.long c.loop-v.literals) c.loop-v.v c.loop-v-test.false c.loop-v.invariant.all
