use Rattle.std.proofs.Common.{◌≡◌, ◌∷◌, [], ◌||◌, length, map, sym, ap, ◌∙◌, arith}
use Rattle.std.proofs.lemmas.Result.{IfOk-weaker}
use Rattle.clause_form.specs.declared.clause.Clause.{Clause}
use Rattle.clause_form.specs.Clauses.{AreBelow, AreOthers, all_met}
use Rattle.clause_form.specs.Formulas.{combine}
use Rattle.clause_form.proofs.LiteralAlone.{alone_met, of_alone}
use Rattle.clause_form.proofs.combination.combined.Goals as goal

alone : (c : goal.After-drop-more) → map (λ (z : Clause). z.literals) c.args.more.items ≡ (c.in-Some.literal ∷ []) ∷ []
alone c = ap (map (λ (z : Clause). z.literals)) (sym c.deref-2.ensures.value) ∙ c.in-Some.ensures.all

pub returns-in-Some-clause-met : goal.returns-in-Some-clause-met
returns-in-Some-clause-met c =
    IfOk-weaker c.lengthened.result _ _
    (λ r says xs h. says xs ∙ ap (λ b. all_met xs c.args.clauses.items || b) (sym (alone_met xs c.args.more.items c.in-Some.literal (alone c)))
    ∙ ap (λ b. combine b (all_met xs c.args.clauses.items) (all_met xs c.args.more.items)) (sym c.if-all.false))
    c.lengthened.ensures.met

pub returns-in-Some-clause-below : goal.returns-in-Some-clause-below
returns-in-Some-clause-below c =
    let l = c.in-Some.literal in
    let n = length c.args.sizes.now in
    IfOk-weaker c.lengthened.result _ _
    (λ r below. below n (of_alone (AreBelow n) c.args.more.items l (alone c) c.requires.of_more 0 l (omega arith)) c.requires.below)
    c.lengthened.ensures.below

pub returns-in-Some-clause-names : goal.returns-in-Some-clause-names
returns-in-Some-clause-names c =
    let l = c.in-Some.literal in
    IfOk-weaker c.lengthened.result _ _
    (λ r names x own others. names x (of_alone (AreOthers x) c.args.more.items l (alone c) others 0 l (omega arith)) own)
    c.lengthened.ensures.names
