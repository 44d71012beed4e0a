use Rattle.std.proofs.Common.{◌≡◌, ◌∷◌, [], ◌++◌, ◌<◌, ℕ, List, length, get_or, take, sym, ap, ◌∙◌, arith, length-set}
use Rattle.std.proofs.lemmas.List.{length-take-le, take_more, take_more_set}
use Rattle.cca_base.specs.declared.cube.Pair.{Pair}
use Rattle.cca_base.specs.Repairs.{pairs_of}
use Rattle.cca_base.proofs.StatePairs.{pairs_grow}
use Rattle.consistency.proofs.pairs.put_pairs.Goals as goal

pub loop-item-preserved : goal.loop-item-preserved
loop-item-preserved c =
    let s : List ℕ = c.args.modes.now in
    let i = c.loop-item.item in
    let pairs : List Pair = c.loop-item.pairs in
    let within : i < length s = omega (arith, c.loop-item-test.true) in
    let room : i < length pairs = omega (arith, c.loop-item.invariant.long, c.requires.room) in
    let size : i ≡ length (take i s) = sym (length-take-le i s (omega arith)) in
    record {
      pairs = take_more_set pairs i (record { item = i; value = get_or s i 0 }) room
          ∙ ap (λ (ps : List Pair). ps ++ record { item = i; value = get_or s i 0 } ∷ []) c.loop-item.invariant.pairs
          ∙ sym (pairs_grow (take i s) i (get_or s i 0) size)
          ∙ ap pairs_of (sym (take_more s i 0 within));
      long = length-set pairs i _ ∙ c.loop-item.invariant.long;
    }
