use Rattle.std.proofs.Common.{◌≡◌, ◌+◌, ◌^◌, ◌<◌, length, sym, ap, subst, ◌∙◌, arith}
use Rattle.std.specs.Prelude.{All}
use Rattle.std.proofs.lemmas.List.{length-set}
use Rattle.group_search.specs.Columns.{IsColumn, NoColumn, StandsOrNot}
use Rattle.group_search.proofs.BoxLaws.{EachBelow, each_more}
use Rattle.group_search.proofs.path_box.PathBox.fill.Goals as goal

pub loop-component-preserved : goal.loop-component-preserved
loop-component-preserved g c =
    let p = c.args.problem.now in let q = g.P.Paths.means.question p in
    let call = c.column-stand in let was = c.loop-component in let n = was.component in let masks = c.args.masks.now in
    let seen : c.words_of-words.result.now ≡ masks = c.words_of-words.ensures.same in
    let less : n < q.count = omega (arith, c.loop-component-test.true, c.count-component-end.ensures) in
    record {
      masks = was.invariant.masks;
      shape = call.ensures.others.shape;
      stands = ap length c.set.ensures ∙ length-set was.self.stands n call.result ∙ was.invariant.stands;
      each = subst (λ s. EachBelow q masks call.new.columns s (n + 1)) (sym c.set.ensures)
          (each_more q (g.met.P.Paths.own_places p) masks was.self.columns call.new.columns was.self.stands n call.result less was.invariant.stands call.ensures.others
          (λ s. subst (λ m. IsColumn q m n call.new.columns) seen (call.ensures.stands s)) (λ s. subst (λ m. NoColumn q m n) seen (call.ensures.none s)) was.invariant.each);
    }

pub returns-clause-ready : goal.returns-clause-ready
returns-clause-ready g c = record {
  masks = ap length c.loop-component.invariant.masks ∙ c.requires.masks;
  words = subst (All (λ w. w < 2 ^ 64)) (sym c.loop-component.invariant.masks) c.words_of-words.ensures.words;
  shape = c.loop-component.invariant.shape;
  stands = c.loop-component.invariant.stands;
  each = λ d less.
      let q = g.P.Paths.means.question c.args.problem.now in let box = c.loop-component.self in
      subst (λ m. StandsOrNot q (record { masks = m; columns = box.columns; stands = box.stands }) d) (sym c.loop-component.invariant.masks)
      (c.loop-component.invariant.each d (omega (arith, less, c.loop-component-test.false, c.count-component-end.ensures)));
}
