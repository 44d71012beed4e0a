use Rattle.std.proofs.Common.{rules, arith, ◌≡◌, ◌<◌, ◌∙◌, ◌++◌, ◌∷◌, [], ap, sym, bit_or, length, get_or, take}
use Rattle.std.proofs.lemmas.List.{get_or_read}
use Rattle.prime_implicants.specs.DenseClauses.{union_rows}
use Rattle.prime_implicants.proofs.PartialValueLaws.{union_rows-step}
use Rattle.prime_implicants.proofs.dense_clause.union.Goals as goal

pub loop-i-preserved : goal.loop-i-preserved
loop-i-preserved c =
    let i = c.loop-i.i in
    let a = c.args.a.now in
    let b = c.args.b.now in
    let in_a : i < length a = omega arith in
    let in_b : i < length b = omega (arith, c.requires) in
    let set = c.union.ensures.value ∙ ap (λ s. bit_or s c.get-in-loop-i.result.now) (get_or_read a i c.get.result.now in_a c.get.ensures.item 0)
    ∙ ap (λ s. bit_or (get_or a i 0) s) (get_or_read b i c.get-in-loop-i.result.now in_b c.get-in-loop-i.ensures.item 0) in
    let pushed : c.push.new.self ≡ c.loop-i.both ++ c.union.result ∷ [] = search rules in
    pushed ∙ ap (λ r. r ++ c.union.result ∷ []) c.loop-i.invariant ∙ ap (λ s. union_rows (take i a) (take i b) ++ s ∷ []) set ∙ sym (union_rows-step a b i in_a in_b)
