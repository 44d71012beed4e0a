use Rattle.std.proofs.Common.{◌≡◌, ◌<◌, true, ◌∷◌, length, set, sym, subst, ◌∙◌, arith}
use Rattle.std.proofs.lemmas.List.Elements.{All-rest}
use Rattle.group_search.specs.Halves.{IsBack}
use Rattle.group_search.specs.declared.halves.Half.{Half}
use Rattle.group_search.proofs.HalfLaws.{IsGoing, going_back, going_on, taken}
use Rattle.group_search.proofs.find.go_back.Goals as goal

pub returns-then-half-ne0-clause-back : goal.returns-then-half-ne0-clause-back
returns-then-half-ne0-clause-back g c _ =
    let start = c.args.boxed.now.masks in let masks = c.loop-half.boxed.masks in let begun = c.args.halves.now.items in
    let half = c.in-Some.half in let older = c.pop.new.self.items in
    let back : IsBack start (set masks half.item half.left) begun (taken half ∷ older) =
    going_back start masks begun c.loop-half.halves.items older half c.loop-half.invariant.going c.in-Some.ensures.items (λ e. omega (arith, e, c.if-half-ne0.true)) in
    subst (IsBack start c.put.new.self.masks begun) {x = taken half ∷ older} (sym c.push.ensures.items)
    (subst (λ m. IsBack start m begun (taken half ∷ older)) {x = set masks half.item half.left} (sym c.put.ensures.masks) back)

pub loop-half-preserved : goal.loop-half-preserved
loop-half-preserved g c =
    let start = c.args.boxed.now.masks in let masks = c.loop-half.boxed.masks in let begun = c.args.halves.now.items in
    let half = c.in-Some.half in let older = c.pop.new.self.items in
    let q = g.P.Paths.means.question c.args.problem.now in
    record {
      ready = c.put-in-Some.ensures.ready;
      own = All-rest (λ (h : Half). (h.item < length q.of) × (true ≡ true)) half older c.loop-half.halves.items c.in-Some.ensures.items c.loop-half.invariant.own;
      going = subst (λ m. IsGoing start m begun older) {x = set masks half.item half.before} (sym c.put-in-Some.ensures.masks)
          (going_on start masks begun c.loop-half.halves.items older half c.loop-half.invariant.going c.in-Some.ensures.items (omega (arith, c.if-half-ne0.false)));
      room = c.pop.ensures.room ∙ c.loop-half.invariant.room;
    }
