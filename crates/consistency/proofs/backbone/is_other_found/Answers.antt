use Rattle.std.proofs.Common.{◌≡◌, ◌∙◌, inl, inr, ℕ, List, [], true, slice_index, sym, subst, arith}
use Rattle.std.proofs.lemmas.Bool.{cases_eq, true≢false}
use Rattle.cca_base.specs.declared.cube.Pair.{Pair}
use Rattle.cca_base.specs.Sets.{has}
use Rattle.world_search.specs.Worlds.{IsSolution}
use Rattle.consistency.proofs.PairLaws.{has_last, has_more, has_none}
use Rattle.consistency.proofs.backbone.is_other_found.Goals as goal
use Rattle.consistency.proofs.backbone.is_other_found.Goals.{then-other-value+then-has_value+in-Clash, else-other-value, else-other-value-via-then-other-value+else-has_value, else-other-value-via-else-other-value}

pub returns-in-Agrees-clause-other : goal.returns-in-Agrees-clause-other
returns-in-Agrees-clause-other c _ same =
    let pair : Pair = record { item = c.args.subject; value = c.loop-other.other } in
    c.if-other-value.true (sym (has_last [] pair c.ask.new.space.world.items c.in-Agrees.ensures.answer.1) ∙ same)

pub loop-other-preserved : goal.loop-other-preserved
loop-other-preserved c =
    let clauses = c.args.problem.now.clauses in
    let inv = c.loop-other.invariant in
    let v = c.args.subject in
    let pair : Pair = record { item = v; value = c.loop-other.other } in
    elim c.if-other-value.branch [
      | then-other-value+then-has_value+in-Clash w ↦ rw w.space-is (record {
        space = w.ask.ensures.space;
        base = w.ask.ensures.base ∙ inv.base;
        none = λ xs world low. elim (cases_eq (slice_index xs v) c.loop-other.other) [
          | inl is ↦ absurd (w.in-Clash.ensures.answer xs (subst (λ (b : List ℕ). IsSolution clauses b xs) (sym (w.ask.ensures.base ∙ inv.base)) world)
              (λ p among _. has_more [] pair xs (has_none xs) is p among))
          | inr ne ↦ inv.none xs world (omega arith)
        ];
      })
      | else-other-value w ↦ rw w.space-is (record {
        space = inv.space;
        base = inv.base;
        none = λ xs world low. elim (cases_eq (slice_index xs v) c.loop-other.other) [
          | inl is ↦ elim w.else-other-value.branch [
            | else-other-value-via-then-other-value+else-has_value w' ↦
                let left : has c.left-left.result (slice_index xs v) ≡ true = c.left-left.ensures.world xs world in
                absurd (true≢false (sym (subst (λ (a : ℕ). has c.left-left.result a ≡ true) is left) ∙ (sym w'.has_value.ensures ∙ w'.if-has_value.false)))
            | else-other-value-via-else-other-value w' ↦ is ∙ w'.if-other-value.false
          ]
          | inr ne ↦ inv.none xs world (omega arith)
        ];
      })
    ]
