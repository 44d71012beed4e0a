-- The first pair of each component, as pairs come one behind the other.
use Rattle.std.proofs.Common.{◌≡◌, ◌==◌, ◌||◌, ℕ, Bool, true, false, not, cond, List, [], ◌∷◌, ◌++◌, filter, refl, sym, ap, ◌∙◌, append-nil, arith}
use Rattle.std.specs.List.{list_any}
use Rattle.std.proofs.lemmas.Bool.{eqb-true, eq-eqb}
use Rattle.std.proofs.lemmas.Bool.Decides.{nat_tests}
use Rattle.cca_base.specs.declared.cube.Pair.{Pair}
use Rattle.control_laws.specs.Turns.{firsts}

-- whether some pair is of the component
abbrev pub named : ℕ → List Pair → Bool
named item pairs = list_any (λ p. p.item == item) pairs

-- a component that is dropped is not the other one
kept_named : (c item : ℕ) (q : Pair) (rest pairs : List Pair) (b : Bool) → (c == item) ≡ false → (q.item == c) ≡ b → named item rest ≡ named item pairs
    → named item (cond (not b) (q ∷ rest) rest) ≡ named item (q ∷ pairs)
kept_named c item q rest pairs true h e k = k ∙ ap (λ b. b || named item pairs) (sym (ap (λ n. n == item) (eqb-true q.item c e) ∙ h))
kept_named c item q rest pairs false h e k = ap (λ b. (q.item == item) || b) k

named-others : (c item : ℕ) (pairs : List Pair) → (c == item) ≡ false → named item (filter (λ q. not (q.item == c)) pairs) ≡ named item pairs
named-others c item [] h = refl
named-others c item (q ∷ pairs) h = kept_named c item q (filter (λ r. not (r.item == c)) pairs) pairs (q.item == c) h refl (named-others c item pairs h)

filter-push : (test : Pair → Bool) (pairs : List Pair) (p : Pair) → filter test (pairs ++ p ∷ []) ≡ filter test pairs ++ cond (test p) (p ∷ []) []
filter-push test [] p = refl
filter-push test (q ∷ pairs) p = by (test q) (filter-push test pairs p)
  where
    by : (b : Bool) → filter test (pairs ++ p ∷ []) ≡ filter test pairs ++ cond (test p) (p ∷ []) []
        → cond b (q ∷ filter test (pairs ++ p ∷ [])) (filter test (pairs ++ p ∷ [])) ≡ cond b (q ∷ filter test pairs) (filter test pairs) ++ cond (test p) (p ∷ []) []
    by true h = ap (λ l. q ∷ l) h
    by false h = h

-- the first pairs behind another one, by whether it is of the other's component, and whether these have it
behind : (x p : Pair) (goal : List Pair) (a b : Bool) → (x.item == p.item) ≡ a → named p.item goal ≡ b
    → x ∷ filter (λ q. not (q.item == x.item)) (cond b goal (goal ++ p ∷ []))
    ≡ cond (a || b) (x ∷ filter (λ q. not (q.item == x.item)) goal) ((x ∷ filter (λ q. not (q.item == x.item)) goal) ++ p ∷ [])
behind x p goal true true h k = refl
behind x p goal false true h k = refl
behind x p goal true false h k =
    ap (λ l. x ∷ l) (filter-push (λ q. not (q.item == x.item)) goal p
    ∙ ap (λ b. filter (λ q. not (q.item == x.item)) goal ++ cond (not b) (p ∷ []) []) (eq-eqb p.item x.item (sym (eqb-true x.item p.item h)))
    ∙ append-nil (filter (λ q. not (q.item == x.item)) goal))
behind x p goal false false h k =
    ap (λ l. x ∷ l) (filter-push (λ q. not (q.item == x.item)) goal p
    ∙ ap (λ b. filter (λ q. not (q.item == x.item)) goal ++ cond (not b) (p ∷ []) []) (differs x.item p.item h))
  where
    differs : (m n : ℕ) → (m == n) ≡ false → (n == m) ≡ false
    differs m n e = grind (arith, nat_tests, e)

-- what one more asked pair adds
firsts-push : (asked : List Pair) (p : Pair) → firsts (asked ++ p ∷ []) ≡ cond (named p.item (firsts asked)) (firsts asked) (firsts asked ++ p ∷ [])
firsts-push [] p = refl
firsts-push (x ∷ asked) p =
    let rest = filter (λ q. not (q.item == x.item)) (firsts asked) in
    ap (λ l. x ∷ filter (λ q. not (q.item == x.item)) l) (firsts-push asked p)
    ∙ behind x p (firsts asked) (x.item == p.item) (named p.item (firsts asked)) refl refl
    ∙ ap (λ b. cond b (x ∷ rest) ((x ∷ rest) ++ p ∷ [])) (named_either x p (firsts asked) (x.item == p.item) refl)
  where
    named_either : (x p : Pair) (goal : List Pair) (a : Bool) → (x.item == p.item) ≡ a → (a || named p.item goal) ≡ (a || named p.item (filter (λ q. not (q.item == x.item)) goal))
    named_either x p goal true h = refl
    named_either x p goal false h = sym (named-others x.item p.item goal h)

pub push_named : (asked : List Pair) (p : Pair) → named p.item (firsts asked) ≡ true → firsts (asked ++ p ∷ []) ≡ firsts asked
push_named asked p h = firsts-push asked p ∙ ap (λ b. cond b (firsts asked) (firsts asked ++ p ∷ [])) h

pub push_new : (asked : List Pair) (p : Pair) → named p.item (firsts asked) ≡ false → firsts (asked ++ p ∷ []) ≡ firsts asked ++ p ∷ []
push_new asked p h = firsts-push asked p ∙ ap (λ b. cond b (firsts asked) (firsts asked ++ p ∷ [])) h
