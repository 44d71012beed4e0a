use Rattle.std.proofs.Common.{◌≡◌, ◌∙◌, ap, bit_or, get_or, set}
use Rattle.std.proofs.lemmas.List.{get_or_read}
use Rattle.prime_implicants.specs.Partial.{given}
use Rattle.prime_implicants.specs.DenseClauses.{row_unfalsified}
use Rattle.prime_implicants.proofs.PartialValueLaws.{row_unfalsified-widened}
use Rattle.prime_implicants.proofs.rows.or_literal.Goals as goal

pub returns-clause-unfalsified : goal.returns-clause-unfalsified
returns-clause-unfalsified c = λ xs e.
    let row = c.args.row.now in
    let i = c.args.literal.now.subject in
    let s = c.args.literal.now.values in
    let read = get_or_read row i c.get.result.now c.requires c.get.ensures.item 0 in
    let both : c.union-both.result ≡ bit_or (get_or row i 0) s = c.union-both.ensures.value ∙ ap (λ z. bit_or z s) read in
    ap (row_unfalsified (given xs)) (c.set.ensures ∙ ap (set row i) both) ∙ row_unfalsified-widened xs row i s e c.requires
