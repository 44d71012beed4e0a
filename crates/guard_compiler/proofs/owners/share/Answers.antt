use Rattle.std.proofs.Common.{◌≡◌, ◌<◌, ◌++◌, ◌==◌, ◌∙◌, ℕ, List, Bool, [], not, length, get_or, set, filter, true, ap, sym, subst, arith}
use Rattle.std.proofs.lemmas.List.Elements.{All-filter}
use Rattle.clause_form.specs.declared.clause.Clause.{Clause}
use Rattle.clause_form.specs.Clauses.{AreValues, AreBelow, AllBelow, all_met, names_one}
use Rattle.guard_compiler.specs.Shared.{AreSharedOut, owned_by}
use Rattle.guard_compiler.proofs.SharedClauses.{shared_more, fewer_named, empty}
use Rattle.guard_compiler.proofs.owners.share.Goals as goal

pub project_subject-requires-clause-clauses : goal.project_subject-requires-clause-clauses
project_subject-requires-clause-clauses c =
    let test : Clause → Bool = names_one (λ u. u == c.args.x) in
    let named : c.of-with.result ≡ filter test c.args.left.now.items = c.of-with.ensures ∙ c.in_ok-naming.ensures ∙ ap (filter test) c.as_slice.ensures.value in
    let same : c.in_ok-copy.field-0 ≡ c.args.sizes.now = c.in_ok-copy.ensures in
    subst (λ (z : List ℕ). AllBelow (length z) c.of-with.result) (sym same)
    (subst (AllBelow (length c.args.sizes.now)) (sym named) (All-filter test (λ (z : Clause). AreBelow (length c.args.sizes.now) z.literals) c.args.left.now.items c.requires.below))

named_some : (c : goal.After-drop-with-3) → 0 < length (filter (names_one (λ u. u == c.args.x)) c.args.left.now.items)
named_some c =
    let count : length c.of-with.result ≡ length (filter (names_one (λ u. u == c.args.x)) c.args.left.now.items) = ap length (c.of-with.ensures ∙ c.in_ok-naming.ensures ∙ ap (filter (names_one (λ u. u == c.args.x))) c.as_slice.ensures.value) in
    omega (arith, count, c.len.ensures, c.if-len-eq0.false)

pub returns : goal.returns
returns c = record {
  below = subst (AllBelow (length c.args.sizes.now)) (sym c.keep_others.ensures)
      (All-filter (λ z. not (names_one (λ u. u == c.args.x) z)) (λ (z : Clause). AreBelow (length c.args.sizes.now) z.literals) c.args.left.now.items c.requires.below);
  fewer = subst (λ (z : List Clause). length z < length c.args.left.now.items) (sym c.keep_others.ensures) (fewer_named c.args.left.now.items c.args.x (named_some c));
  shared = λ given h.
      let test : Clause → Bool = names_one (λ u. u == c.args.x) in
      let sizes = c.args.sizes.now in
      let left = c.args.left.now.items in
      let named : c.of-with.result ≡ filter test left = c.of-with.ensures ∙ c.in_ok-naming.ensures ∙ ap (filter test) c.as_slice.ensures.value in
      let none : c.in_ok-project_subject.field-0.clauses ≡ [] = empty c.in_ok-project_subject.field-0.clauses (omega (arith, c.len-2.ensures, c.if-len-gt0.false)) in
      let rules : c.push_owned.new.rules ≡ c.args.rules.now ++ owned_by c.args.x (filter test left) =
      c.in_ok-push_owned.ensures ∙ ap (λ z. c.args.rules.now ++ owned_by c.args.x z) (c.as_slice-2.ensures ∙ named) in
      let choose : (xs : List ℕ) → AreValues sizes xs → (v : ℕ) × (v < get_or sizes c.args.x 0) × (all_met (set xs c.args.x v) (filter test left) ≡ true) =
      λ xs k.
      let same : c.in_ok-copy.field-0 ≡ sizes = c.in_ok-copy.ensures in
      let found = (c.in_ok-project_subject.ensures.exact xs (subst (λ z. AreValues z xs) (sym same) k)).0 (ap (all_met xs) none) in
      (found.0, subst (λ z. found.0 < get_or z c.args.x 0) same found.1, subst (λ z. all_met (set xs c.args.x found.0) z ≡ true) named found.2) in
      subst (λ z. AreSharedOut sizes c.args.components given z c.keep_others.new.clauses.items) (sym rules)
      (subst (AreSharedOut sizes c.args.components given (c.args.rules.now ++ owned_by c.args.x (filter test left))) (sym c.keep_others.ensures)
      (shared_more sizes c.args.components given c.args.rules.now left c.args.x h c.requires.variable c.requires.subject (named_some c) choose));
}
