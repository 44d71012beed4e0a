use Rattle.std.proofs.Common.{rules, ◌≡◌, ◌∙◌, ap, length, replicate}
use Rattle.std.proofs.lemmas.List.{length-replicate}
use Rattle.prime_implicants.specs.Partial.{given}
use Rattle.prime_implicants.specs.DenseClauses.{row_unfalsified, is_zero}
use Rattle.prime_implicants.proofs.DenseClauseLaws.{row_unfalsified-never, zero-never}
use Rattle.prime_implicants.proofs.rows.row_of.Goals as goal

pub loop-literal-init : goal.loop-literal-init
loop-literal-init c =
    let start : c.in_ok-row.row ≡ replicate c.args.n 0 = search rules in
    record {
      wide = ap length start ∙ length-replicate c.args.n 0;
      unfalsified_at = λ xs e. ap (row_unfalsified (given xs)) start ∙ row_unfalsified-never (given xs) c.args.n;
      zero = λ y h. ap (is_zero y) start ∙ zero-never y c.args.n;
    }
