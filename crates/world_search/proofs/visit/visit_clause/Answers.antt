use Rattle.std.proofs.Common.{◌≡◌, ◌≢◌, ◌<◌, ℕ, ◌-◌, length, get_or, slice_index, bit_and, refl, ap, subst, sym, ◌∙◌, arith}
use Rattle.std.specs.Prelude.{All}
use Rattle.std.proofs.lemmas.Bool.{false≢true}
use Rattle.std.proofs.lemmas.List.{get_or_read}
use Rattle.clash_analysis.specs.Laws.{Passes}
use Rattle.clash_analysis.specs.Subjects.{is_in}
use Rattle.clash_analysis.specs.Trails.{AreApart}
use Rattle.clash_analysis.specs.Learning.{IsClauseOf, IsLearned}
use Rattle.clash_analysis.proofs.VisitLaws.{open_literal}
use Rattle.world_search.specs.declared.words.WordLiteral.{WordLiteral}
use Rattle.world_search.specs.Words.{OthersOut, literal_of, literals_of}
use Rattle.world_search.proofs.ClauseLaws.{all_out, clause_clash, met_literals, one_or_out, some_common, some_more}
use Rattle.world_search.proofs.WorkLaws.{learn_is, moved_not, ready_learn, relearned}
use Rattle.world_search.proofs.visit.visit_clause.Goals as goal

abbrev some_word : WordLiteral
some_word = record { subject = 0; values = 0 }

pub narrow-requires-clause-some : goal.narrow-requires-clause-some
narrow-requires-clause-some c =
    let here = get_or c.args.literals.now c.in-Some.place some_word in
    let less : c.in-Some.place < length c.args.literals.now = omega (arith, c.in-Some.ensures.place) in
    let left : c.index-left.result.now ≡ slice_index c.args.work.now.dom.items here.subject = get_or_read c.args.work.now.dom.items here.subject c.index-left.result.now (c.requires.inside c.in-Some.place some_word less) c.index-left.ensures 0 in
    some_common (slice_index c.args.work.now.dom.items here.subject) here.values (omega (arith, left))
    (subst (λ d. bit_and (slice_index d here.subject) here.values ≢ 0) c.deref.ensures.value (c.in-Some.ensures.open some_word less))

pub narrow-requires-clause-more : goal.narrow-requires-clause-more
narrow-requires-clause-more c =
    let here = get_or c.args.literals.now c.in-Some.place some_word in
    let less : c.in-Some.place < length c.args.literals.now = omega (arith, c.in-Some.ensures.place) in
    let left : c.index-left.result.now ≡ slice_index c.args.work.now.dom.items here.subject = get_or_read c.args.work.now.dom.items here.subject c.index-left.result.now (c.requires.inside c.in-Some.place some_word less) c.index-left.ensures 0 in
    some_more (slice_index c.args.work.now.dom.items here.subject) here.values (omega (arith, left)) (omega arith)
    (subst (λ (d : ℕ). bit_and d (18446744073709551615 - here.values) ≢ 0) left c.if-left-literal-ne0.true)

pub returns-then-place-literals-clause-followed : goal.returns-then-place-literals-clause-followed
returns-then-place-literals-clause-followed c =
    let words = c.args.literals.now in
    let old = c.args.work.now in
    let shape = c.requires.ready.shape in
    let same : length c.learn_clause.new.learn ≡ length old.learn.items = c.learn_clause.ensures.long ∙ ap length c.deref_mut.ensures.value in
    let is = learn_is old c.learn_clause.new.learn same in
    let out = all_out old.dom.items words (subst (OthersOut old.dom.items words) c.if-place-literals.true (subst (λ d. OthersOut d words c.in-Some.place) c.deref.ensures.value c.in-Some.ensures.others)) in
    record {
      ready = ready_learn old c.learn_clause.new.learn same c.requires.ready;
      moved = moved_not old (relearned old c.learn_clause.new.learn) refl refl refl refl refl;
      right = λ want pairs holds t. t;
      clear = λ e. absurd (false≢true (sym e));
      clash = λ found want holds all. subst (λ l. IsLearned (Passes want) l × AreApart old.dom.items l) (sym is)
          (clause_clash old.start.items old.dom.items c.learn_clause.new.learn words (subst (λ n. All (λ (w : WordLiteral). w.subject < n) words) shape.dom c.requires.inside)
          (subst (λ s. IsClauseOf s (literals_of words) c.learn_clause.new.learn) c.deref-then-place-literals.ensures.value c.learn_clause.ensures.clause) out want holds all);
    }

pub returns-then-left-literal-ne0-clause-followed : goal.returns-then-left-literal-ne0-clause-followed
returns-then-left-literal-ne0-clause-followed c =
    let words = c.args.literals.now in
    let old = c.args.work.now in
    let less : c.in-Some.place < length words = omega (arith, c.in-Some.ensures.place) in
    record {
      ready = c.narrow.ensures.ready;
      moved = c.narrow.ensures.moved;
      right = λ want pairs holds. c.narrow.ensures.right want pairs
          (open_literal (Passes want) (literals_of words) (met_literals want words holds) old.dom.items (literal_of (get_or words c.in-Some.place some_word)) (is_in c.others-because.result)
          (λ v among. subst (λ n. v < n) (c.len.ensures ∙ old.dom.ok.0) (c.others-because.ensures.inside v among))
          (one_or_out old.dom.items words c.in-Some.place some_word (is_in c.others-because.result) less (subst (λ d. OthersOut d words c.in-Some.place) c.deref.ensures.value c.in-Some.ensures.others) c.others-because.ensures.all));
      clear = λ _ v. ap (λ l. slice_index l v) c.narrow.ensures.put.learn ∙ c.requires.clear v;
      clash = λ found. absurd (false≢true found);
    }
