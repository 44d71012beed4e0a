use Rattle.std.proofs.Common.{◌≡◌, ◌==◌, ◌&&◌, ℕ, Bool, List, not, length, filter, ap, ◌∙◌, sym, subst, set, get_or}
use Rattle.std.proofs.lemmas.List.Elements.{All-filter}
use Rattle.clause_form.specs.declared.clause.Clause.{Clause}
use Rattle.clause_form.specs.Clauses.{AllOthers, AreBelow, AreOthers, AreValues, all_met, meets, names_one, any_below}
use Rattle.clause_form.proofs.SomeValue.{any_same, any_and}
use Rattle.clause_form.proofs.OtherSubjects.{all_met_others, all_parted, others_unnamed}
use Rattle.elimination.proofs.removal.without.Goals as goal

pub resolvents-requires-clause-below : goal.resolvents-requires-clause-below
resolvents-requires-clause-below c =
    let test : Clause → Bool = names_one (λ u. u == c.args.subject) in
    let named : c.deref-2.result.now ≡ filter test c.args.clauses.items = c.deref-2.ensures.value ∙ c.in_ok-named.ensures ∙ ap (filter test) c.deref.ensures.value in
    rw named (All-filter test (λ (z : Clause). AreBelow (length c.args.sizes.now) z.literals) c.args.clauses.items c.requires.below)

pub combined-requires-clause-below : goal.combined-requires-clause-below
combined-requires-clause-below c =
    rw c.keep_others.ensures (All-filter (λ z. not (names_one (λ u. u == c.args.subject) z)) (λ (z : Clause). AreBelow (length c.args.sizes.now) z.literals) c.args.clauses.items c.requires.below)

-- what is left of the clauses, and what took the place of the others
module _ (sizes : List ℕ) (x : ℕ) (clauses left named more : List Clause) (is_left : left ≡ filter (λ z. not (names_one (λ u. u == x) z)) clauses)
    (is_named : named ≡ filter (names_one (λ u. u == x)) clauses)
    (met : (xs : List ℕ) → AreValues sizes xs → all_met xs more ≡ any_below (get_or sizes x 0) (λ v. all_met (set xs x v) named)) where
  abbrev test : Clause → Bool
  test = names_one (λ u. u == x)

  others : AllOthers x left
  others = subst (AllOthers x) (sym is_left) (others_unnamed x clauses)

  parted : (xs : List ℕ) (v : ℕ) → (all_met xs left && all_met (set xs x v) named) ≡ all_met (set xs x v) clauses
  parted xs v =
      ap (λ b. b && all_met (set xs x v) named) (sym (all_met_others x v xs left others))
      ∙ ap (λ (z : List Clause). all_met (set xs x v) z && all_met (set xs x v) named) is_left
      ∙ ap (λ (z : List Clause). all_met (set xs x v) (filter (λ z. not (test z)) clauses) && all_met (set xs x v) z) is_named
      ∙ sym (all_parted (meets (set xs x v)) test clauses)

  all_without : (r : List Clause) → ((xs : List ℕ) → AreValues sizes xs → all_met xs r ≡ (all_met xs left && all_met xs more))
      → (xs : List ℕ) → AreValues sizes xs → all_met xs r ≡ any_below (get_or sizes x 0) (λ v. all_met (set xs x v) clauses)
  all_without r says xs h =
      let n = get_or sizes x 0 in
      says xs h ∙ ap (λ b. all_met xs left && b) (met xs h) ∙ sym (any_and n (all_met xs left) (λ v. all_met (set xs x v) named))
      ∙ any_same n _ _ (parted xs)

pub returns : goal.returns
returns c =
    let x = c.args.subject in
    let clauses = c.args.clauses.items in
    let named : c.deref-2.result.now ≡ filter (names_one (λ u. u == x)) clauses = c.deref-2.ensures.value ∙ c.in_ok-named.ensures ∙ ap (filter (names_one (λ u. u == x))) c.deref.ensures.value in
    record {
      met = all_without c.args.sizes.now x clauses c.keep_others.new.clauses.items c.deref-2.result.now c.in_ok-more.more.items c.keep_others.ensures named c.in_ok-more.ensures.met c.in_ok-rest.rest.items c.in_ok-rest.ensures.met;
      below = c.in_ok-rest.ensures.below;
      gone = c.in_ok-rest.ensures.names x (subst (AllOthers x) (sym c.keep_others.ensures) (others_unnamed x clauses)) c.in_ok-more.ensures.gone;
      names = λ y h. c.in_ok-rest.ensures.names y
          (subst (AllOthers y) (sym c.keep_others.ensures) (All-filter (λ z. not (names_one (λ u. u == x) z)) (λ (z : Clause). AreOthers y z.literals) clauses h))
          (c.in_ok-more.ensures.names y (subst (AllOthers y) (sym named) (All-filter (names_one (λ u. u == x)) (λ (z : Clause). AreOthers y z.literals) clauses h)));
    }
