use Rattle.std.proofs.Common.{◌++◌, ℕ, Bool, List, length, take, sym, ap, subst, ◌∙◌, arith}
use Rattle.std.specs.Prelude.{Contains}
use Rattle.world_search.specs.Followed.{IsFollowed}
use Rattle.world_search.specs.Asked.{AreAllMetIn}
use Rattle.world_search.specs.Words.{AreInside, IsMetIn}
use Rattle.world_search.proofs.FollowLaws.{dom_long}
use Rattle.world_search.proofs.StepLaws.{followed_step, store_noted, one_inside, one_of, step_then}
use Rattle.world_search.proofs.search.step.Goals as goal

pub returns-then-follow_all-clause-step : goal.returns-then-follow_all-clause-step
returns-then-follow_all-clause-step c =
    let rules = c.args.rules.now.clauses.items in
    let beside = c.args.beside.now in
    let kept = c.args.store.now.kept in
    let slots = take kept c.args.store.now.slots.items in
    let old = c.args.work.now in
    let mid = c.follow_all.new.work in
    let followed : IsFollowed (AreAllMetIn (rules ++ beside) slots) old mid c.follow_all.result =
    subst (λ s. IsFollowed (AreAllMetIn (rules ++ beside) (take kept s)) old mid c.follow_all.result) c.as_slice.ensures.value c.follow_all.ensures.followed in
    followed_step (AreAllMetIn (rules ++ beside) slots) old mid c.follow_all.result c.requires.ready followed

pub returns-then-follow_all-clause-outcome : goal.returns-then-follow_all-clause-outcome
returns-then-follow_all-clause-outcome c =
    let rules = c.args.rules.now.clauses.items in
    let beside = c.args.beside.now in
    let kept = c.args.store.now.kept in
    let slots = take kept c.args.store.now.slots.items in
    let old = c.args.work.now in
    let mid = c.follow_all.new.work in
    let followed : IsFollowed (AreAllMetIn (rules ++ beside) slots) old mid c.follow_all.result =
    subst (λ s. IsFollowed (AreAllMetIn (rules ++ beside) (take kept s)) old mid c.follow_all.result) c.as_slice.ensures.value c.follow_all.ensures.followed in
    followed.clash c.if-follow_all.true

pub returns-in_default-clause-step : goal.returns-in_default-clause-step
returns-in_default-clause-step c =
    let rules = c.args.rules.now.clauses.items in
    let beside = c.args.beside.now in
    let kept = c.args.store.now.kept in
    let slots = take kept c.args.store.now.slots.items in
    let old = c.args.work.now in
    let mid = c.follow_all.new.work in
    let followed : IsFollowed (AreAllMetIn (rules ++ beside) slots) old mid c.follow_all.result =
    subst (λ s. IsFollowed (AreAllMetIn (rules ++ beside) (take kept s)) old mid c.follow_all.result) c.as_slice.ensures.value c.follow_all.ensures.followed in
    followed_step (AreAllMetIn (rules ++ beside) slots) old mid c.follow_all.result c.requires.ready followed

pub late_pair-late-requires-clause-store : goal.late_pair-late-requires-clause-store
late_pair-late-requires-clause-store c =
    let old = c.args.work.now in
    let mid = c.follow_all.new.work in
    let f = c.follow_all.ensures.followed in
    store_noted (length old.dom.items) (length mid.dom.items) c.args.store.now c.follow_all.new.notes (sym (dom_long old mid c.requires.ready f.ready f.moved)) (c.follow_all.ensures.notes ∙ ap length c.deref_mut.ensures.value) c.requires.store

pub choose_value-requires-clause-inside : goal.choose_value-requires-clause-inside
choose_value-requires-clause-inside c =
    let rules = c.args.rules.now.clauses.items in
    let beside = c.args.beside.now in
    let old = c.args.work.now in
    let mid = c.follow_all.new.work in
    let f = c.follow_all.ensures.followed in
    let x = c.in-Some.clause.now in
    let among : Contains (rules ++ beside) x = subst (λ l. Contains (l ++ beside) x) c.as_slice-2.ensures.value c.in-Some.ensures.among in
    subst (λ l. AreInside (length mid.dom.items) l) (sym c.as_slice-3.ensures.value)
    (subst (λ n. AreInside n x.literals.items) (sym (dom_long old mid c.requires.ready f.ready f.moved)) (one_inside rules beside x among (length old.dom.items) c.requires.inside c.requires.beside))

pub returns-then-choose_value-clause-step : goal.returns-then-choose_value-clause-step
returns-then-choose_value-clause-step c =
    let rules = c.args.rules.now.clauses.items in
    let beside = c.args.beside.now in
    let kept = c.args.store.now.kept in
    let slots = take kept c.args.store.now.slots.items in
    let old = c.args.work.now in
    let mid = c.follow_all.new.work in
    let followed : IsFollowed (AreAllMetIn (rules ++ beside) slots) old mid c.follow_all.result =
    subst (λ s. IsFollowed (AreAllMetIn (rules ++ beside) (take kept s)) old mid c.follow_all.result) c.as_slice.ensures.value c.follow_all.ensures.followed in
    let x = c.in-Some.clause.now in
    let words = c.as_slice-3.result.now in
    let among : Contains (rules ++ beside) x = subst (λ l. Contains (l ++ beside) x) c.as_slice-2.ensures.value c.in-Some.ensures.among in
    let met : (want : List ℕ → Bool) → AreAllMetIn (rules ++ beside) slots want → IsMetIn words want = λ want is. subst (λ l. IsMetIn l want) (sym c.as_slice-3.ensures.value) (one_of rules beside x among slots want is) in
    step_then (AreAllMetIn (rules ++ beside) slots) (IsMetIn words) met old mid c.choose_value.new.work (followed_step (AreAllMetIn (rules ++ beside) slots) old mid c.follow_all.result c.requires.ready followed) c.choose_value.ensures.step

pub returns-then-choose_value-clause-outcome : goal.returns-then-choose_value-clause-outcome
returns-then-choose_value-clause-outcome c want is =
    let rules = c.args.rules.now.clauses.items in
    let beside = c.args.beside.now in
    let kept = c.args.store.now.kept in
    let slots = take kept c.args.store.now.slots.items in
    let x = c.in-Some.clause.now in
    let words = c.as_slice-3.result.now in
    let among : Contains (rules ++ beside) x = subst (λ l. Contains (l ++ beside) x) c.as_slice-2.ensures.value c.in-Some.ensures.among in
    let met : (want : List ℕ → Bool) → AreAllMetIn (rules ++ beside) slots want → IsMetIn words want = λ want is. subst (λ l. IsMetIn l want) (sym c.as_slice-3.ensures.value) (one_of rules beside x among slots want is) in
    c.choose_value.ensures.clash c.if-choose_value.true want (met want is)

pub returns-else-choose_value-clause-step : goal.returns-else-choose_value-clause-step
returns-else-choose_value-clause-step c =
    let rules = c.args.rules.now.clauses.items in
    let beside = c.args.beside.now in
    let kept = c.args.store.now.kept in
    let slots = take kept c.args.store.now.slots.items in
    let old = c.args.work.now in
    let mid = c.follow_all.new.work in
    let followed : IsFollowed (AreAllMetIn (rules ++ beside) slots) old mid c.follow_all.result =
    subst (λ s. IsFollowed (AreAllMetIn (rules ++ beside) (take kept s)) old mid c.follow_all.result) c.as_slice.ensures.value c.follow_all.ensures.followed in
    let x = c.in-Some.clause.now in
    let words = c.as_slice-3.result.now in
    let among : Contains (rules ++ beside) x = subst (λ l. Contains (l ++ beside) x) c.as_slice-2.ensures.value c.in-Some.ensures.among in
    let met : (want : List ℕ → Bool) → AreAllMetIn (rules ++ beside) slots want → IsMetIn words want = λ want is. subst (λ l. IsMetIn l want) (sym c.as_slice-3.ensures.value) (one_of rules beside x among slots want is) in
    step_then (AreAllMetIn (rules ++ beside) slots) (IsMetIn words) met old mid c.choose_value.new.work (followed_step (AreAllMetIn (rules ++ beside) slots) old mid c.follow_all.result c.requires.ready followed) c.choose_value.ensures.step

pub returns-else-choose_value-clause-outcome : goal.returns-else-choose_value-clause-outcome
returns-else-choose_value-clause-outcome c =
    let rules = c.args.rules.now.clauses.items in
    let beside = c.args.beside.now in
    let kept = c.args.store.now.kept in
    let slots = take kept c.args.store.now.slots.items in
    let old = c.args.work.now in
    let mid = c.follow_all.new.work in
    let followed : IsFollowed (AreAllMetIn (rules ++ beside) slots) old mid c.follow_all.result =
    subst (λ s. IsFollowed (AreAllMetIn (rules ++ beside) (take kept s)) old mid c.follow_all.result) c.as_slice.ensures.value c.follow_all.ensures.followed in
    let first = followed_step (AreAllMetIn (rules ++ beside) slots) old mid c.follow_all.result c.requires.ready followed in
    let tried = c.choose_value.ensures.tried c.if-choose_value.false in
    (tried.0, omega (arith, tried.1, first.weight))
