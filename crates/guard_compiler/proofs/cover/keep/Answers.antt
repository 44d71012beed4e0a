use Rattle.std.proofs.Common.{rules, ◌≡◌, ◌↔◌, ◌⊎◌, ◌<◌, [], true, false, length, take, All, get_or, sym, subst, ◌∙◌, ap}
use Rattle.std.specs.List.{insert, list_any}
use Rattle.cca_base.specs.Cube.{IsBeforeCube, IsPart}
use Rattle.guard_compiler.specs.Cover.{AreApart, IsCovered, is_subsequence}
use Rattle.guard_compiler.proofs.KeptCubes.{IsPlace, covered_adds_nothing, insert_apart, insert_covers, others}
use Rattle.guard_compiler.proofs.cover.keep.Goals as goal

pub returns-then-is_covered-clause-covers : goal.returns-then-is_covered-clause-covers
returns-then-is_covered-clause-covers c =
    let known : list_any (λ part. is_subsequence part c.args.cube) c.args.cubes.now.items ≡ true = search rules in
    covered_adds_nothing c.args.cubes.now.items c.args.cube known

pub returns-clause-apart : goal.returns-clause-apart
returns-clause-apart c =
    let cubes = c.args.cubes.now.items in
    let cube = c.args.cube in
    let place = c.place_of-place.result in
    let new : list_any (λ part. is_subsequence part cube) cubes ≡ false = search rules in
    let dropped : c.as_slice-2.result.now ≡ others cubes cube = c.as_slice-2.ensures.value ∙ c.drop_covered.ensures in
    let inserted : c.insert.new.self.items ≡ insert (others cubes cube) place cube = (c.in_ok-insert.ensures {u = tt}).items ∙ ap (λ z. insert z place cube) c.drop_covered.ensures in
    let before : All (λ other. IsBeforeCube cube other → ⊥) (take place c.as_slice-2.result.now) = c.place_of-place.ensures.before in
    let after : place < length c.as_slice-2.result.now → IsBeforeCube cube (get_or c.as_slice-2.result.now place []) = c.place_of-place.ensures.after in
    let at : IsPlace c.as_slice-2.result.now cube place = record { within = c.place_of-place.ensures.within; before = before; after = after } in
    subst AreApart (sym inserted) (insert_apart cubes cube place c.requires.cubes c.requires.cube new (subst (λ z. IsPlace z cube place) dropped at))

pub returns-clause-covers : goal.returns-clause-covers
returns-clause-covers c = λ x.
    let cubes = c.args.cubes.now.items in
    let cube = c.args.cube in
    let place = c.place_of-place.result in
    let new : list_any (λ part. is_subsequence part cube) cubes ≡ false = search rules in
    let inserted : c.insert.new.self.items ≡ insert (others cubes cube) place cube = (c.in_ok-insert.ensures {u = tt}).items ∙ ap (λ z. insert z place cube) c.drop_covered.ensures in
    subst (λ z. IsCovered z x ↔ (IsCovered cubes x ⊎ IsPart cube x)) (sym inserted) (insert_covers cubes cube place c.requires.cubes c.requires.cube new x)
