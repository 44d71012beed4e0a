use Rattle.std.proofs.Common.{◌≡◌, ◌+◌, ◌<◌, List, length, take, ap, sym, subst, arith}
use Rattle.cca_base.specs.declared.cube.Pair.{Pair}
use Rattle.guard_compiler.specs.Cover.{AreApart, IsLeastOver, IsOver}
use Rattle.guard_compiler.proofs.LeastUnionLaws.{CoversPairs, covers_all, covers_no_union, covers_union}
use Rattle.guard_compiler.proofs.unions.keep_unions.Goals as goal
use Rattle.guard_compiler.proofs.unions.keep_unions.Goals.{in-Some+in_ok-keep, in_default}

pub loop-second-preserved : goal.loop-second-preserved
loop-second-preserved c =
    let old = c.args.cubes.now.items in
    let mid = c.loop-second.cubes.items in
    let first = c.args.first.now in
    let second = c.second-item.result in
    let seconds = c.args.seconds.now in
    let i = c.loop-second.second-index in
    let inside : i < length seconds = omega arith in
    elim c.match-branch-2.branch [
      | in-Some+in_ok-keep w ↦
          let same : c.match-branch-2.cubes.items ≡ w.keep.new.cubes.items = ap (λ z. z.items) w.cubes-is in
          let least : IsLeastOver first second w.in-Some.union = rw w.in-Some.is at (c.in_ok-union.ensures {u = tt}) in
          record {
            apart = subst AreApart (sym same) (w.in_ok-keep.ensures {u = tt}).apart;
            covers = subst (λ z. CoversPairs old z first (take (i + 1) seconds)) (sym same)
                (covers_union old mid w.keep.new.cubes.items first second w.in-Some.union seconds i inside c.second-item.is least (w.in_ok-keep.ensures {u = tt}).covers c.loop-second.invariant.covers);
          }
      | in_default w ↦
          let same : c.match-branch-2.cubes.items ≡ mid = ap (λ z. z.items) w.cubes-is in
          let none : (cube : List Pair) → IsOver first second cube → ⊥ = rw w.in_default.is at (c.in_ok-union.ensures {u = tt}) in
          record {
            apart = subst AreApart (sym same) c.loop-second.invariant.apart;
            covers = subst (λ z. CoversPairs old z first (take (i + 1) seconds)) (sym same) (covers_no_union old mid first second seconds i inside c.second-item.is none c.loop-second.invariant.covers);
          }
    ]

pub returns-clause-covers : goal.returns-clause-covers
returns-clause-covers c =
    covers_all c.args.cubes.now.items c.loop-second.cubes.items c.args.first.now c.args.seconds.now c.loop-second.second-index (omega arith) c.loop-second.invariant.covers
