use Rattle.std.proofs.Common.{rules, length, ◌≡◌, ◌∙◌, ◌<◌, ◌&&◌, ◌||◌, ap, sym, take, List, ℕ, Bool, true}
use Rattle.std.specs.List.{list_all}
use Rattle.std.proofs.lemmas.List.Folds.{list_all_more}
use Rattle.prime_implicants.specs.DenseClauses.{is_wide, all_unfalsified, row_unfalsified, union_rows}
use mathlib.Core.Bool.{or-and_distrib_right}
use Rattle.prime_implicants.proofs.DenseClauseLaws.{wide-all, list_all_get}
use Rattle.prime_implicants.proofs.gathering.resolve_on.Goals as goal

pub join_row-requires-clause-out : goal.join_row-requires-clause-out
join_row-requires-clause-out c =
    c.loop-row.invariant.same (is_wide (length c.args.sizes.now)) (wide-all (length c.args.sizes.now) c.args.left.now c.args.right.now c.requires.left c.requires.right)

pub loop-row-preserved : goal.loop-row-preserved
loop-row-preserved c =
    let row = c.row-item.result in
    let i = c.loop-row.row-index in
    let inside : i < length c.args.left.now = c.loop-row-test.true in
    record {
      unfalsified_at = λ q w.
          let joined : all_unfalsified q c.join_row.new.out.items ≡ (all_unfalsified q c.loop-row.out.items && (row_unfalsified q row || all_unfalsified q c.args.right.now)) = search rules in
          let was = c.loop-row.invariant.unfalsified_at q w in
          joined ∙ ap (λ b. b && (row_unfalsified q row || all_unfalsified q c.args.right.now)) was
          ∙ sym (or-and_distrib_right (all_unfalsified q (take i c.args.left.now)) (row_unfalsified q row) (all_unfalsified q c.args.right.now))
          ∙ ap (λ r. (all_unfalsified q (take i c.args.left.now) && row_unfalsified q r) || all_unfalsified q c.args.right.now) c.row-item.is
          ∙ ap (λ b. b || all_unfalsified q c.args.right.now) (sym (list_all_more (row_unfalsified q) c.args.left.now i row inside));
      same = λ p h.
          let test : List ℕ → Bool = λ r. list_all (λ other. p (union_rows r other)) c.args.right.now in
          let there = list_all_get test c.args.left.now i row inside h in
          let here : test row ≡ true = ap test c.row-item.is ∙ there in
          let before = c.loop-row.invariant.same p h in
          let lemma = c.in_ok-join_row.ensures.same in
          lemma p before here;
    }
