use Rattle.std.proofs.Common.{rules, ◌≡◌, ◌∙◌, ap, sym, ◌&&◌, true, false, get_or, set, ◌++◌, ◌∷◌, []}
use Rattle.std.proofs.lemmas.List.{get_or_read}
use Rattle.std.proofs.lemmas.Bool.{eqb-true}
use Rattle.list_laws.proofs.Tests.{and_with}
use Rattle.cca_base.specs.Sets.{has}
use Rattle.prime_implicants.specs.DenseClauses.{all_unfalsified}
use Rattle.prime_implicants.proofs.DenseClauseLaws.{has_set, lacks_set, all_unfalsified-push}
use Rattle.prime_implicants.proofs.gathering.push_fixed.Goals as goal

pub returns-then-has-clause-unfalsified : goal.returns-then-has-clause-unfalsified
returns-then-has-clause-unfalsified c = λ q h.
    let read = get_or_read c.args.row.now c.args.x c.get.result.now c.requires c.get.ensures.item 0 in
    let tested : has c.get.result.now c.args.v ≡ true = cc in
    let there : has (get_or c.args.row.now c.args.x 0) c.args.v ≡ true = ap (λ s. has s c.args.v) (sym read) ∙ tested in
    and_with _ _ (has_set q c.args.row.now c.args.x c.args.v (eqb-true _ _ h) c.requires there)

pub returns-clause-unfalsified : goal.returns-clause-unfalsified
returns-clause-unfalsified c = λ q h.
    let read = get_or_read c.args.row.now c.args.x c.get.result.now c.requires c.get.ensures.item 0 in
    let tested : has c.get.result.now c.args.v ≡ false = cc in
    let there : has (get_or c.args.row.now c.args.x 0) c.args.v ≡ false = ap (λ s. has s c.args.v) (sym read) ∙ tested in
    let pushed : c.push.new.self.items ≡ c.args.out.now.items ++ (set c.args.row.now c.args.x 0 ∷ []) = search rules in
    ap (all_unfalsified q) pushed ∙ all_unfalsified-push q _ c.args.out.now.items
    ∙ ap (λ b. all_unfalsified q c.args.out.now.items && b) (sym (lacks_set q c.args.row.now c.args.x c.args.v (eqb-true _ _ h) c.requires there))
