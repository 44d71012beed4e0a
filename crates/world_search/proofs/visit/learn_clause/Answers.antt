use Rattle.std.proofs.Common.{◌<◌, get_or, take, set, slice_index, bit_or, bit_and, subst, sym, ◌∙◌, length-set}
use Rattle.clash_analysis.specs.Learning.{IsClauseOf}
use Rattle.world_search.specs.declared.words.WordLiteral.{WordLiteral}
use Rattle.world_search.specs.Words.{literal_of, literals_of}
use Rattle.world_search.proofs.ClauseLaws.{clause_more, more_literals}
use Rattle.world_search.proofs.visit.learn_clause.Goals as goal

abbrev some_word : WordLiteral
some_word = record { subject = 0; values = 0 }

pub loop-literal-preserved : goal.loop-literal-preserved
loop-literal-preserved c =
    let i = c.loop-literal.literal-index in
    let here = get_or c.args.literals.now i some_word in
    let learn = c.loop-literal.learn in
    record {
      long = length-set learn here.subject _ ∙ c.loop-literal.invariant.long;
      clause = subst (λ l. IsClauseOf c.args.start.now l (set learn here.subject (bit_or (slice_index learn here.subject) (bit_and here.values (slice_index c.args.start.now here.subject))))) (sym (more_literals c.args.literals.now i some_word c.loop-literal-test.true))
          (clause_more c.args.start.now learn (literals_of (take i c.args.literals.now)) (literal_of here) (subst (λ n. here.subject < n) (c.requires.long ∙ sym c.loop-literal.invariant.long) (c.requires.inside i some_word c.loop-literal-test.true)) c.loop-literal.invariant.clause);
    }
