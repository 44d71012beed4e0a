use Rattle.std.proofs.Common.{◌<◌, refl, arith, ◌∙◌, add-one, length}
use Rattle.prime_implicants.proofs.DenseClauseLaws.{length-within}
use Rattle.prime_implicants.proofs.Completeness.{start, complete_step, same_step, from_end, IsClosed}
use Rattle.prime_implicants.proofs.completion.complete.Goals as goal

pub loop-x-init : goal.loop-x-init
loop-x-init c = record { wide = c.requires.wide; zero = λ y h. h; same = λ a w t. refl; so_far = λ q w f b. start c.args.sizes.now c.args.rows.now.items q w f b }

pub loop-x-preserved : goal.loop-x-preserved
loop-x-preserved c =
    let inside : c.loop-x.x < length c.args.sizes.now = omega (arith, c.len-x-end.ensures) in
    let closed : IsClosed c.args.sizes.now c.loop-x.x c.loop-x.rows.items c.saturate.new.rows.items = λ q w. c.in_ok-saturate.ensures.unfalsified q w in
    record {
      wide = c.in_ok-saturate.ensures.wide;
      zero = λ y h. c.in_ok-saturate.ensures.zero y (c.loop-x.invariant.zero y h);
      same = λ a w t. same_step c.args.sizes.now c.loop-x.rows.items c.saturate.new.rows.items c.loop-x.x inside closed a w t ∙ c.loop-x.invariant.same a w t;
      so_far = λ q w f b.
          complete_step c.args.sizes.now c.args.rows.now.items c.loop-x.rows.items c.saturate.new.rows.items c.loop-x.x inside closed
          (λ p v g d. c.loop-x.invariant.so_far p v g d) q w (rw add-one at f) b;
    }

pub returns-clause-complete : goal.returns-clause-complete
returns-clause-complete c = record {
  same = c.loop-x.invariant.same;
  complete = λ q w b. c.loop-x.invariant.so_far q w (from_end q c.loop-x.x (omega (arith, c.len-x-end.ensures, length-within c.args.sizes.now q w))) b;
}
