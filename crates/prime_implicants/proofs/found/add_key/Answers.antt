use Rattle.std.proofs.Common.{◌∙◌, ap, sym}
use Rattle.std.proofs.lemmas.Map.Lookups.{exact_bytes}
use Rattle.std.specs.List.{list_all}
use Rattle.prime_implicants.proofs.KeySets.{list_all-insert_key}
use Rattle.prime_implicants.proofs.found.add_key.Goals as goal

pub returns : goal.returns
returns c = λ t.
    let keys = c.in_ok-insert.ensures.keys in
    ap (list_all (λ k. t k.items)) keys ∙ list_all-insert_key _ (λ k. t k.items) (λ a b e. ap t (sym (exact_bytes a.items b.items e))) c.args.found.now.keys c.args.key
