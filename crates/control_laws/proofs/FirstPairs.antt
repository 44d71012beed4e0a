-- The goal of a turn has the first pair of each component.
use Rattle.std.proofs.Common.{◌≡◌, ◌≢◌, ◌==◌, ℕ, Bool, not, true, List, [], ◌∷◌, ◌++◌, Contains, filter, inl, inr, refl, sym, ap, subst, ◌∙◌, arith}
use Rattle.std.proofs.lemmas.Bool.Decides.{nat_tests}
use Rattle.std.proofs.lemmas.List.Elements.{All-nil, All-cons, All-head, All-tail, All-weaker, filter-append, filter_passes}
use Rattle.std.proofs.lemmas.List.Kept.{AllPairs-cons, AllPairs-filter}
use Rattle.list_laws.proofs.Elements.{contains_middle}
use Rattle.list_laws.proofs.Members.{contains_cases, contains_here, contains_none, contains_there, from_filter, to_filter}
use Rattle.cca_base.specs.declared.cube.Pair.{Pair}
use Rattle.cca_base.specs.Cube.{Lacks}
use Rattle.control_laws.specs.Laws.{FirstOfEach, GoalsAreCubes, InOrderAsked}
use Rattle.control_laws.specs.Turns.{firsts}

differs : (a b : ℕ) → not (a == b) ≡ true → b ≢ a
differs a b h = λ e. grind (arith, nat_tests, h, e)

differing : (a b : ℕ) → a ≢ b → not (b == a) ≡ true
differing a b h = grind (arith, nat_tests, h)

pub goals_are_cubes : GoalsAreCubes
goals_are_cubes [] = λ i j d lt within. absurd (omega arith)
goals_are_cubes (p ∷ asked) =
    AllPairs-cons (λ q r. q.item ≢ r.item) p (filter (λ q. not (q.item == p.item)) (firsts asked))
    (All-weaker (λ q. not (q.item == p.item) ≡ true) (λ q. p.item ≢ q.item) (λ q h. differs q.item p.item h) (filter (λ q. not (q.item == p.item)) (firsts asked))
    (filter_passes (λ q. not (q.item == p.item)) (firsts asked)))
    (AllPairs-filter (λ q r. q.item ≢ r.item) (λ q. not (q.item == p.item)) (firsts asked) (goals_are_cubes asked))

is_first : (asked : List Pair) (p : Pair) → Contains (firsts asked) p → (before after : List Pair) × (asked ≡ before ++ p ∷ after) × Lacks p.item before
is_first [] p among = absurd (contains_none p among)
is_first (q ∷ asked) p among = elim (contains_cases q p (filter (λ r. not (r.item == q.item)) (firsts asked)) among) [
  | inl here ↦ ([], asked, ap (λ r. r ∷ asked) here, All-nil (λ r. r.item ≢ p.item))
  | inr there ↦
      let kept = from_filter (λ r. not (r.item == q.item)) (firsts asked) p there in
      let rest = is_first asked p kept.1 in
      (q ∷ rest.0, rest.1, ap (λ l. q ∷ l) rest.2, All-cons (λ r. r.item ≢ p.item) q rest.0 (differs p.item q.item kept.0) rest.3)
]

in_goal : (before after : List Pair) (p : Pair) → Lacks p.item before → Contains (firsts (before ++ p ∷ after)) p
in_goal [] after p lacks = contains_here p p (filter (λ r. not (r.item == p.item)) (firsts after)) refl
in_goal (q ∷ before) after p lacks =
    contains_there q p (filter (λ r. not (r.item == q.item)) (firsts (before ++ p ∷ after)))
    (to_filter (λ r. not (r.item == q.item)) (firsts (before ++ p ∷ after)) p (differing q.item p.item (All-head (λ r. r.item ≢ p.item) q before lacks))
    (in_goal before after p (All-tail (λ r. r.item ≢ p.item) q before lacks)))

pub first_of_each : FirstOfEach
first_of_each asked p = (
  is_first asked p,
  λ h. subst (λ l. Contains (firsts l) p) (sym h.2) (in_goal h.0 h.1 p h.3),
)

pub of_asked : (asked : List Pair) (p : Pair) → Contains (firsts asked) p → Contains asked p
of_asked asked p among =
    let first = is_first asked p among in
    subst (λ l. Contains l p) (sym first.2) (contains_middle first.0 first.1 p)

pub in_order_asked : InOrderAsked
in_order_asked [] behind = (firsts behind, refl)
in_order_asked (p ∷ before) behind =
    let others : Pair → Bool = λ q. not (q.item == p.item) in
    let on = in_order_asked before behind in (
      filter others on.0,
      ap (λ (l : List Pair). p ∷ filter others l) on.1 ∙ ap (λ (l : List Pair). p ∷ l) (filter-append others (firsts before) on.0),
    )
