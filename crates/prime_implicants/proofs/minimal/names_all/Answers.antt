use Rattle.prime_implicants.specs.DenseClauses.{mentions}
use Rattle.std.specs.Option.{is_none}
use Rattle.std.proofs.Common.{rules, ◌≡◌, ◌<◌, ◌||◌, ℕ, Bool, length, sym, false, None, get_or}
use Rattle.prime_implicants.proofs.FalsifyingChoices.{fails_below}
use Rattle.prime_implicants.proofs.minimal.names_all.Goals as goal

pub returns-then-is_unnamed : goal.returns-then-is_unnamed
returns-then-is_unnamed c =
    let test : ℕ → Bool = λ i. is_none (get_or c.args.partial.now i None) || mentions i c.args.row.now in
    let inside : c.loop-i.i < length c.args.partial.now = search rules in
    let here : test c.loop-i.i ≡ false = search rules in
    sym (fails_below (length c.args.partial.now) test c.loop-i.i inside here)
