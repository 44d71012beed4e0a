use Rattle.std.proofs.Common.{◌≡◌, ◌+◌, ◌<◌, ℕ, false, All, length, slice_get, Some, sym, ap, subst, ◌∙◌, arith}
use Rattle.std.proofs.lemmas.Option.{get_or_from_slice_get}
use Rattle.cca_base.specs.Accepted.{CompiledModel}
use Rattle.reversibility.specs.ClassParts.{ClassParts, in_row}
use Rattle.reversibility.proofs.OpenMoves.{cubes_within}
use Rattle.policy_tables.specs.Keeping.{AgreeOn, AreKeptTo}
use Rattle.policy_tables.proofs.Kept.{next_unset, next_agrees, next_taken, kept_all, named_within}
use Rattle.policy_tables.proofs.keeping.flag_kept.Goals.{then-get+then-not-agree, else-get, else-get-via-then-get+else-not-agree, else-get-via-else-get}
use Rattle.policy_tables.proofs.keeping.flag_kept.Goals as goal

pub get-requires-in-loop-i : goal.get-requires-in-loop-i
get-requires-in-loop-i c =
    let q : ClassParts = c.args.other.now in
    let moves_are = c.moves-moves.ensures.value ∙ ap (λ z. z.moves) (c.model.ensures.value ∙ ap (λ z. z.model) c.compiled-compiled.ensures.value) in
    let at : slice_get q.compiled.model.moves c.loop-i.i ≡ Some c.get.result.now = subst (λ l. slice_get l c.loop-i.i ≡ Some c.get.result.now) moves_are c.get.ensures.value in
    omega (arith, named_within q.compiled.model c.compiled-compiled.ensures.classes.compiled.accepted.well_formed c.loop-i.i c.get.result.now at, c.loop-i.invariant.full)

-- the ways of the move name components alone
ways_within : (c : goal.After-rows-then-get) (n : ℕ) → n ≡ length c.args.other.now.compiled.model.components → All (λ cube. All (λ p. p.item < n) cube) c.as_slice.result.now
ways_within c n full =
    let q : ClassParts = c.args.other.now in
    let moves_are = c.moves-moves.ensures.value ∙ ap (λ z. z.moves) (c.model.ensures.value ∙ ap (λ z. z.model) c.compiled-compiled.ensures.value) in
    let at : slice_get q.compiled.model.moves c.loop-i.i ≡ Some c.get.result.now = subst (λ l. slice_get l c.loop-i.i ≡ Some c.get.result.now) moves_are c.get.ensures.value in
    let ways_at : slice_get q.compiled.ways c.loop-i.i ≡ Some c.get-then-get.result.now =
    subst (λ l. slice_get l c.loop-i.i ≡ Some c.get-then-get.result.now) (c.ways.ensures.value ∙ ap (λ z. z.ways) c.compiled-compiled.ensures.value) c.get-then-get.ensures.value in
    subst (All (λ cube. All (λ p. p.item < n) cube)) (sym c.as_slice.ensures)
    (cubes_within q.compiled c.compiled-compiled.ensures.classes.compiled (in_row q.rows) c.loop-i.i c.get.result.now c.get-then-get.result.now at ways_at n full)

pub agree-requires-clause-one : goal.agree-requires-clause-one
agree-requires-clause-one c =
    ways_within c (length c.rows.result.now) (ap length c.rows.ensures.value ∙ c.rows.ensures.classes.rows_full ∙ ap (λ (b : CompiledModel). length b.model.components) c.requires.model)

pub agree-requires-clause-other : goal.agree-requires-clause-other
agree-requires-clause-other c = ways_within c (length c.rows-then-get.result.now) (ap length c.rows-then-get.ensures.value ∙ c.rows-then-get.ensures.classes.rows_full)

pub loop-i-preserved : goal.loop-i-preserved
loop-i-preserved c =
    let p : ClassParts = c.args.one.now in
    let q : ClassParts = c.args.other.now in
    let i = c.loop-i.i in
    let moves_are = c.moves-moves.ensures.value ∙ ap (λ z. z.moves) (c.model.ensures.value ∙ ap (λ z. z.model) c.compiled-compiled.ensures.value) in
    let at : slice_get q.compiled.model.moves i ≡ Some c.get.result.now = subst (λ l. slice_get l i ≡ Some c.get.result.now) moves_are c.get.ensures.value in
    elim c.if-get.branch [
      | then-get+then-not-agree w ↦ subst (λ l. AreKeptTo p q l (i + 1)) (sym (w.flags-is ∙ w.set.ensures)) (next_taken p q c.loop-i.flags i c.loop-i.invariant c.get.result.now at
          (omega (arith, named_within q.compiled.model c.compiled-compiled.ensures.classes.compiled.accepted.well_formed i c.get.result.now at, c.loop-i.invariant.full)))
      | else-get w ↦ subst (λ l. AreKeptTo p q l (i + 1)) (sym w.flags-is) (elim w.else-get.branch [
        | else-get-via-then-get+else-not-agree v ↦
            let ways_at : slice_get q.compiled.ways i ≡ Some v.get-then-get.result.now =
            subst (λ l. slice_get l i ≡ Some v.get-then-get.result.now) (v.ways.ensures.value ∙ ap (λ z. z.ways) c.compiled-compiled.ensures.value) v.get-then-get.ensures.value in
            next_agrees p q c.loop-i.flags i c.loop-i.invariant c.get.result.now at v.get-then-get.result.now ways_at
            (subst (AgreeOn (in_row p.rows) (in_row q.rows)) v.as_slice.ensures
            (subst (λ l. AgreeOn (in_row p.rows) (in_row l) v.as_slice.result.now) v.rows-then-get.ensures.value
            (subst (λ l. AgreeOn (in_row l) (in_row v.rows-then-get.result.now) v.as_slice.result.now) v.rows.ensures.value (v.agree.ensures v.if-not-agree.false))))
        | else-get-via-else-get v ↦ next_unset p q c.loop-i.flags i c.loop-i.invariant c.get.result.now at
            (get_or_from_slice_get c.loop-i.flags c.get.result.now.component c.get-in-loop-i.result.now false c.get-in-loop-i.ensures.value ∙ v.if-get.false)
      ])
    ]

pub returns : goal.returns
returns c =
    let q : ClassParts = c.args.other.now in
    let moves_are = c.moves-moves.ensures.value ∙ ap (λ z. z.moves) (c.model.ensures.value ∙ ap (λ z. z.model) c.compiled-compiled.ensures.value) in
    kept_all c.args.one.now q c.compiled-compiled.ensures.classes.compiled c.loop-i.flags c.loop-i.i (omega (arith, c.loop-i-test.false, c.len-i-end.ensures, ap length moves_are)) c.loop-i.invariant
