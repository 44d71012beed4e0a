-- How many states come after the last one given: a measure for loops that call `next`.
use Rattle.std.proofs.Common.{◌≡◌, inl, inr, ℕ, ◌<◌, ◌≤◌, Bool, true, false, cond, List, [], ◌∷◌, Contains, Some, None, Option, refl, sym, ap, subst, arith}
use Rattle.std.specs.List.{AllZip, sum_by}
use Rattle.std.specs.Ordering.{is_lt}
use Rattle.std.proofs.lemmas.List.Sums.{sum_by-cons, sum_by-le-sum_by}
use Rattle.list_laws.proofs.Members.{contains_cases, contains_none}
use Rattle.list_laws.proofs.Orders.{lt_less}
use Rattle.cca_base.specs.declared.choice.Choice.{Choice}
use Rattle.cost_search.specs.declared.costed.Costed.{Costed}
use Rattle.cost_search.specs.Search.{Searched, IsFirstLeft, IsAfterLast, rank_cmp}
use Rattle.cost_search.specs.Queue.{modes_of, cost_of}
use Rattle.cost_search.specs.Left.{count_states, is_after_last, states_left}
use Rattle.cost_search.proofs.Ranks.{before-trans, not_before_itself}

fewer_or_same : (a b : Bool) → (a ≡ true → b ≡ true) → cond a 1 0 ≤ cond b 1 0
fewer_or_same true true f = omega arith
fewer_or_same true false f = absurd (let no = f refl in cc)
fewer_or_same false true f = omega arith
fewer_or_same false false f = omega arith

count-le : (rows : List (List Choice)) (test more : List Choice → Bool) → ((picks : List Choice) → test picks ≡ true → more picks ≡ true) → count_states rows test ≤ count_states rows more
count-le [] test more f = fewer_or_same (test []) (more []) (f [])
count-le (row ∷ rows) test more f =
    sum_by-le-sum_by (λ x. count_states rows (λ picks. test (x ∷ picks))) (λ x. count_states rows (λ picks. more (x ∷ picks))) row
    (λ x. count-le rows (λ picks. test (x ∷ picks)) (λ picks. more (x ∷ picks)) (λ picks. f (x ∷ picks)))

fewer_sums : (f g : Choice → ℕ) (row : List Choice) (y : Choice) → ((x : Choice) → f x ≤ g x) → Contains row y → f y < g y → sum_by f row < sum_by g row
fewer_sums f g [] y le among lt = absurd (contains_none y among)
fewer_sums f g (x ∷ row) y le among lt =
    let here : f x ≤ g x = le x in
    let rest : sum_by f row ≤ sum_by g row = sum_by-le-sum_by f g row le in
    elim (contains_cases x y row among) [
      | inl e ↦ (let less : f x < g x = subst (λ z. f z < g z) (sym e) lt in omega (arith, sum_by-cons f x row, sum_by-cons g x row))
      | inr there ↦ omega (arith, fewer_sums f g row y le there lt, sum_by-cons f x row, sum_by-cons g x row)
    ]

strictly_fewer : (a b : Bool) → a ≡ false → b ≡ true → cond a 1 0 < cond b 1 0
strictly_fewer true b e f = absurd (cc)
strictly_fewer false true e f = omega arith
strictly_fewer false false e f = absurd (cc)

count-lt : (rows : List (List Choice)) (test more : List Choice → Bool) (picks : List Choice) → ((ps : List Choice) → test ps ≡ true → more ps ≡ true) → AllZip Contains rows picks
    → test picks ≡ false → more picks ≡ true → count_states rows test < count_states rows more
count-lt [] test more [] f has out inside = strictly_fewer (test []) (more []) out inside
count-lt [] test more (y ∷ picks) f has out inside = absurd has
count-lt (row ∷ rows) test more [] f has out inside = absurd has
count-lt (row ∷ rows) test more (y ∷ picks) f has out inside =
    fewer_sums (λ x. count_states rows (λ ps. test (x ∷ ps))) (λ x. count_states rows (λ ps. more (x ∷ ps))) row y
    (λ x. count-le rows (λ ps. test (x ∷ ps)) (λ ps. more (x ∷ ps)) (λ ps. f (x ∷ ps))) has.0
    (count-lt rows (λ ps. test (y ∷ ps)) (λ ps. more (y ∷ ps)) picks (λ ps. f (y ∷ ps)) has.1 out inside)

after_again : (last : Option Costed) (given : Costed) (picks : List Choice) → IsAfterLast last given.state.modes given.cost → is_after_last (Some given) picks ≡ true → is_after_last last picks ≡ true
after_again None given picks h e = refl
after_again (Some l) given picks h e =
    ap is_lt (before-trans l.cost given.cost (cost_of picks) l.state.modes given.state.modes (modes_of picks) h
    (lt_less (rank_cmp given.cost given.state.modes (cost_of picks) (modes_of picks)) e))

after_tested : (last : Option Costed) (picks : List Choice) → IsAfterLast last (modes_of picks) (cost_of picks) → is_after_last last picks ≡ true
after_tested None picks h = refl
after_tested (Some l) picks h = ap is_lt h

-- after a state is given, fewer come after the last one given
pub fewer_left : (v : Searched) (given : Costed) → IsFirstLeft v given.state.modes given.cost → states_left (record v { last = Some given }) < states_left v
fewer_left v given n =
    let chosen = n.left.chosen in
    let picks = chosen.picks in
    count-lt v.rows (is_after_last (Some given)) (is_after_last v.last) picks (λ ps. after_again v.last given ps n.left.after) chosen.each
    (subst (λ m. is_lt (rank_cmp given.cost given.state.modes (cost_of picks) m) ≡ false) chosen.modes
    (subst (λ k. is_lt (rank_cmp given.cost given.state.modes k given.state.modes) ≡ false) chosen.total (not_before_itself given.cost given.state.modes)))
    (after_tested v.last picks (subst (λ m. IsAfterLast v.last m (cost_of picks)) chosen.modes (subst (λ k. IsAfterLast v.last given.state.modes k) chosen.total n.left.after)))
