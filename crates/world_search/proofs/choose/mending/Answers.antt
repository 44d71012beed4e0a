use Rattle.std.proofs.Common.{get_or, slice_index, ap, sym, subst, ◌∙◌}
use Rattle.std.specs.Prelude.{All}
use Rattle.std.proofs.lemmas.Bool.{and_parts, both_ways}
use Rattle.std.proofs.lemmas.List.{take_all}
use Rattle.cca_base.specs.Sets.{has}
use Rattle.cca_base.proofs.SetLaws.{has-and}
use Rattle.clash_analysis.specs.Learning.{IsOut}
use Rattle.world_search.specs.declared.words.WordLiteral.{WordLiteral}
use Rattle.world_search.specs.Words.{literals_of, met}
use Rattle.world_search.proofs.ClauseLaws.{met_at, out_push}
use Rattle.world_search.proofs.choose.mending.Goals as goal

abbrev some_word : WordLiteral
some_word = record { subject = 0; values = 0 }

pub returns-then-common-ne0-clause-open : goal.returns-then-common-ne0-clause-open
returns-then-common-ne0-clause-open c =
    let i = c.loop-literal.literal-index in
    let here = get_or c.args.literals.now i some_word in
    let parts = and_parts _ _ (sym (has-and (slice_index c.args.dom.now here.subject) here.values c.least.result) ∙ c.least.ensures.has) in
    let inside = c.requires.inside i some_word c.loop-literal-test.true in
    record {
      subject = inside;
      small = c.least.ensures.small;
      left = parts.0;
      other = (
        slice_index c.args.trial.now here.subject,
        λ same. both_ways (met c.args.trial.now c.args.literals.now) c.requires.untrue
            (met_at c.args.trial.now c.args.literals.now i some_word c.loop-literal-test.true (ap (has here.values) same ∙ parts.1)),
        c.requires.trial here.subject inside,
      );
    }

pub loop-literal-preserved : goal.loop-literal-preserved
loop-literal-preserved c = out_push c.args.dom.now c.args.literals.now c.loop-literal.literal-index some_word c.loop-literal-test.true c.loop-literal.invariant c.if-common-ne0.false

pub returns-clause-none : goal.returns-clause-none
returns-clause-none c _ =
    subst (λ ws. All (IsOut c.args.dom.now) (literals_of ws)) (take_all c.loop-literal.literal-index c.args.literals.now c.loop-literal-test.false) c.loop-literal.invariant
