use Rattle.prime_implicants.specs.Found.{key_from}
use Rattle.std.proofs.Common.{rules, ◌≡◌, ◌∙◌, ◌∷◌, ◌++◌, ap, sym, length, ◌<◌, get_or, None, []}
use Rattle.std.specs.List.{filter}
use Rattle.std.specs.Option.{is_some}
use Rattle.prime_implicants.proofs.KeySets.{key_step}
use Rattle.prime_implicants.proofs.found.make_key.Goals as goal

pub loop-i-preserved : goal.loop-i-preserved
loop-i-preserved c =
    let q = c.args.partial.now in
    let i = c.loop-i.i in
    let inside : i < length q = search rules in
    let pushed : c.push_pair.new.key.items ≡ c.loop-i.key.items ++ key_from i (get_or q i None ∷ []) = search rules in
    let n = length (filter (λ o. is_some o) q) in
    pushed ∙ ap (λ z. z ++ key_from i (get_or q i None ∷ [])) c.loop-i.invariant ∙ ap (λ z. n ∷ z) (sym (key_step q i inside))
