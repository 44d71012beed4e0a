use Rattle.std.proofs.Common.{◌≡◌, ◌∙◌, ◌<◌, ◌≤◌, ◌^◌, ℕ, List, [], ◌∷◌, ◌++◌, inl, inr, true, length, slice_index, sym, subst, ap, arith}
use Rattle.std.proofs.lemmas.Bool.{cases_lt, le-ltb, true≢false, false≢true}
use Rattle.std.proofs.lemmas.List.Elements.{All-push}
use Rattle.std.proofs.lemmas.Result.{on_ok_weaker}
use Rattle.cca_base.specs.declared.cube.Pair.{Pair}
use Rattle.cca_base.specs.declared.limits.TheConstants.{MAX_CHOICES}
use Rattle.cca_base.specs.Sets.{has}
use Rattle.cca_base.proofs.SetLaws.{has_above}
use Rattle.world_search.specs.Assumed.{AreAsked}
use Rattle.world_search.specs.Worlds.{HasAll, IsSolution}
use Rattle.consistency.specs.Lowest.{IsLowest}
use Rattle.consistency.proofs.FirstLaws.{lowest_found}
use Rattle.consistency.proofs.first.put_lowest.Goals as goal
use Rattle.consistency.proofs.first.put_lowest.Goals.{else-has_value-via-then-has_value+in_ok-is_put+else-branch, else-has_value-via-else-has_value}

-- what is in the set of a word is below the word's width
small_member : (word n : ℕ) → word < 2 ^ MAX_CHOICES → has word n ≡ true → n < MAX_CHOICES
small_member word n fits is = elim (cases_lt n MAX_CHOICES) [
  | inl less ↦ less
  | inr more ↦ absurd (false≢true (sym (le-ltb n MAX_CHOICES more) ∙ has_above MAX_CHOICES word n fits more ∙ is))
]

-- a question may ask for the pair
abbrev IsAsked : ℕ → Pair → Type 0
IsAsked n p = (p.item < n) × (p.value < MAX_CHOICES)

pub is_put-requires-clause-value : goal.is_put-requires-clause-value
is_put-requires-clause-value c = small_member c.left-left.result c.loop-lower.lower c.left-left.type_inv (sym c.has_value.ensures ∙ c.if-has_value.true)

pub returns-then-branch-clause-asked : goal.returns-then-branch-clause-asked
returns-then-branch-clause-asked c =
    let n = length c.args.problem.now.sizes in
    let old = c.loop-lower.pairs in
    let pair : Pair = record { item = c.args.subject; value = c.loop-lower.lower } in
    let before : AreAsked n old = subst (AreAsked n) (sym c.loop-lower.invariant.pairs) c.requires.asked in
    let small : c.loop-lower.lower < MAX_CHOICES = small_member c.left-left.result c.loop-lower.lower c.left-left.type_inv (sym c.has_value.ensures ∙ c.if-has_value.true) in
    subst (AreAsked n) (sym (c.in_ok-is_put.ensures.put c.if-branch.true)) (All-push (IsAsked n) old pair before (c.requires.subject, small))

pub returns-then-branch-clause-lowest : goal.returns-then-branch-clause-lowest
returns-then-branch-clause-lowest c =
    let clauses = c.args.problem.now.clauses in
    let base = c.args.space.now.base.items in
    let found : c.copy_from_slice.new.self ≡ c.is_put.new.space.world.items = c.copy_from_slice.ensures.after ∙ c.world.ensures in
    let put = c.in_ok-is_put.ensures in
    let is = c.if-branch.true in
    lowest_found clauses base c.args.pairs.now c.is_put.new.pairs c.args.subject c.loop-lower.lower c.copy_from_slice.new.self
    (subst (IsSolution clauses base) (sym found) (subst (λ (b : List ℕ). IsSolution clauses b c.is_put.new.space.world.items) c.loop-lower.invariant.base (put.world is)))
    (subst (HasAll c.is_put.new.pairs) (sym found) (put.has is))
    (put.put is ∙ ap (λ (l : List Pair). l ++ record { item = c.args.subject; value = c.loop-lower.lower } ∷ []) c.loop-lower.invariant.pairs)
    c.loop-lower.invariant.lowest

pub loop-lower-preserved : goal.loop-lower-preserved
loop-lower-preserved c =
    let clauses = c.args.problem.now.clauses in
    let inv = c.loop-lower.invariant in
    let v = c.args.subject in
    let x = c.loop-lower.lower in
    elim c.else-has_value.branch [
      | else-has_value-via-then-has_value+in_ok-is_put+else-branch w ↦ rw (w.space-is, w.pairs-is) (record {
        space = w.in_ok-is_put.ensures.space;
        base = w.in_ok-is_put.ensures.base ∙ inv.base;
        pairs = w.in_ok-is_put.ensures.same w.if-branch.false ∙ inv.pairs;
        world = inv.world;
        lowest = λ ys world all.
            let low : x ≤ slice_index ys v = inv.lowest ys world all in
            let other : slice_index ys v ≡ x → ⊥ = w.in_ok-is_put.ensures.none w.if-branch.false ys (subst (λ (b : List ℕ). IsSolution clauses b ys) (sym inv.base) world) (subst (λ (l : List Pair). HasAll l ys) (sym inv.pairs) all) in
            omega (arith, low, other);
      })
      | else-has_value-via-else-has_value w ↦ rw (w.space-is, w.pairs-is) (record {
        space = inv.space;
        base = inv.base;
        pairs = inv.pairs;
        world = inv.world;
        lowest = λ ys world all.
            let low : x ≤ slice_index ys v = inv.lowest ys world all in
            let is : has c.left-left.result (slice_index ys v) ≡ true = c.left-left.ensures.world ys world in
            let other : slice_index ys v ≡ x → ⊥ = λ e. true≢false (sym (subst (λ (a : ℕ). has c.left-left.result a ≡ true) e is) ∙ (sym c.has_value.ensures ∙ w.if-has_value.false)) in
            omega (arith, low, other);
      })
    ]

pub returns-clause-asked : goal.returns-clause-asked
returns-clause-asked c =
    let n = length c.args.problem.now.sizes in
    let old = c.loop-lower.pairs in
    let before : AreAsked n old = subst (AreAsked n) (sym c.loop-lower.invariant.pairs) c.requires.asked in
    let value : ℕ = slice_index c.args.world.now c.args.subject in
    let small : value < MAX_CHOICES = small_member c.left-left.result value c.left-left.type_inv (c.left-left.ensures.world c.args.world.now c.requires.world) in
    let pair : Pair = record { item = c.args.subject; value = value } in
    on_ok_weaker c.push.result (λ put. subst (AreAsked n) (sym put) (All-push (IsAsked n) old pair before (c.requires.subject, small))) c.push.ensures.ok

pub returns-clause-lowest : goal.returns-clause-lowest
returns-clause-lowest c =
    let clauses = c.args.problem.now.clauses in
    let base = c.args.space.now.base.items in
    let old = c.args.pairs.now in
    let v = c.args.subject in
    let inv = c.loop-lower.invariant in
    let value : ℕ = slice_index c.args.world.now v in
    let pair : Pair = record { item = v; value = value } in
    let end : value ≤ c.loop-lower.lower = c.loop-lower-test.false in
    on_ok_weaker c.push.result (λ put. subst (λ (xs : List ℕ). IsLowest clauses base old v xs c.push.new.self) (sym inv.world) (record {
      world = c.requires.world;
      has = c.requires.has;
      lowest = λ ys world all. let low : c.loop-lower.lower ≤ slice_index ys v = inv.lowest ys world all in omega (arith, end, low);
      put = put ∙ ap (λ (l : List Pair). l ++ pair ∷ []) inv.pairs;
    })) c.push.ensures.ok
