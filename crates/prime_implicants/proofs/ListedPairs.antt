-- Pairs that are listed as numbers.
use Rattle.std.proofs.Common.{◌≡◌, ℕ, suc, ◌<◌, ◌≤◌, true, ◌&&◌, List, [], ◌∷◌, ◌++◌, length, refl, sym, ◌∙◌, ap, subst, arith, get_or, drop, ltb, leb, All, length-append}
use Rattle.std.proofs.lemmas.List.Kept.{AllPairs-cons}
use Rattle.std.proofs.lemmas.List.Elements.{All-cons}
use Rattle.std.proofs.lemmas.Bool.Decides.{nat_tests}
use Rattle.std.proofs.lemmas.Bool.{and_parts, ltb-true}
use Rattle.std.proofs.Math.Seq.{get_or-append_seam}
use Rattle.std.proofs.Math.ListN.{get_or-append}
use Rattle.cca_base.specs.declared.limits.TheConstants.{MAX_ROWS}
use Rattle.cca_base.specs.declared.cube.Pair.{Pair}
use Rattle.cca_base.specs.Cube.{IsRising, Lacks}
use Rattle.prime_implicants.specs.Found.{pairs_listed, pairs_of_key, are_listed_from, is_proper}
use Rattle.prime_implicants.proofs.PartialPairs.{pair_of}

-- the pair is in the range of its type, and its subject is not below k
abbrev pub IsFit : ℕ → Pair → Type 0
IsFit k p = (k ≤ p.item) × (p.item < MAX_ROWS) × (p.value < 256)

pub most_true : (m n : ℕ) → leb m n ≡ true → m ≤ n
most_true m n e = grind (arith, nat_tests)

later : (k i : ℕ) (ps : List Pair) → k ≤ i → All (IsFit (suc i)) ps → All (IsFit k) ps
later k i ps h f j d l = let g = f j d l in (omega (arith, g.0), g.1, g.2)

listed_fit : (k : ℕ) (flat : List ℕ) → are_listed_from k flat ≡ true → All (IsFit k) (pairs_listed flat)
listed_fit k [] e = λ j d l. absurd (omega arith)
listed_fit k (i ∷ []) e = absurd (cc)
listed_fit k (i ∷ v ∷ rest) e =
    let parts = and_parts (leb k i && ltb i MAX_ROWS) (ltb v 256 && are_listed_from (suc i) rest) e in
    let item = and_parts (leb k i) (ltb i MAX_ROWS) parts.0 in
    let value = and_parts (ltb v 256) (are_listed_from (suc i) rest) parts.1 in
    All-cons (IsFit k) (pair_of i v) (pairs_listed rest) (most_true k i item.0, ltb-true i MAX_ROWS item.1, ltb-true v 256 value.0)
    (later k i (pairs_listed rest) (most_true k i item.0) (listed_fit (suc i) rest value.1))

after : (i : ℕ) (ps : List Pair) → All (IsFit (suc i)) ps → All (λ r. i < r.item) ps
after i ps f j d l = omega (arith, (f j d l).0)

listed_rising : (k : ℕ) (flat : List ℕ) → are_listed_from k flat ≡ true → IsRising (pairs_listed flat)
listed_rising k [] e = λ i j d before l. absurd (omega arith)
listed_rising k (i ∷ []) e = absurd (cc)
listed_rising k (i ∷ v ∷ rest) e =
    let parts = and_parts (leb k i && ltb i MAX_ROWS) (ltb v 256 && are_listed_from (suc i) rest) e in
    let value = and_parts (ltb v 256) (are_listed_from (suc i) rest) parts.1 in
    AllPairs-cons (λ p r. p.item < r.item) (pair_of i v) (pairs_listed rest) (after i (pairs_listed rest) (listed_fit (suc i) rest value.1)) (listed_rising (suc i) rest value.1)

proper_fit : (key : List ℕ) → is_proper key ≡ true → All (IsFit 0) (pairs_of_key key)
proper_fit [] e = absurd (cc)
proper_fit (n ∷ rest) e = listed_fit 0 rest e

proper_rising : (key : List ℕ) → is_proper key ≡ true → IsRising (pairs_of_key key)
proper_rising [] e = absurd (cc)
proper_rising (n ∷ rest) e = listed_rising 0 rest e

-- ---- one pair after another

listed_two : (rest : List ℕ) → 2 ≤ length rest → pairs_listed rest ≡ pair_of (get_or rest 0 0) (get_or rest 1 0) ∷ pairs_listed (drop 2 rest)
listed_two [] h = absurd (omega arith)
listed_two (i ∷ []) h = absurd (omega arith)
listed_two (i ∷ v ∷ rest) h = refl

inside : (cube ps : List Pair) (p : Pair) → length cube < length (cube ++ p ∷ ps)
inside cube ps p = omega (arith, length-append cube (p ∷ ps))

fit_seam : (cube ps : List Pair) (p : Pair) → All (IsFit 0) (cube ++ p ∷ ps) → IsFit 0 p
fit_seam cube ps p f = subst (IsFit 0) (get_or-append_seam cube p ps p) (f (length cube) p (inside cube ps p))

pub lacks_seam : (cube ps : List Pair) (p : Pair) → IsRising (cube ++ p ∷ ps) → Lacks p.item cube
lacks_seam cube ps p up k d l e =
    let before = up k (length cube) d l (inside cube ps p) in
    omega (arith, before, ap (λ z. z.item) (get_or-append cube (p ∷ ps) d k l), ap (λ z. z.item) (get_or-append_seam cube p ps d), e)

-- the next pair fits, and the cube so far has none of its subject
pub next_pair : (key rest : List ℕ) (cube : List Pair) → is_proper key ≡ true → cube ++ pairs_listed rest ≡ pairs_of_key key → 2 ≤ length rest
    → (get_or rest 0 0 < MAX_ROWS) × (get_or rest 1 0 < 256) × Lacks (get_or rest 0 0) cube
next_pair key rest cube proper done h =
    let p = pair_of (get_or rest 0 0) (get_or rest 1 0) in
    let all : pairs_of_key key ≡ cube ++ p ∷ pairs_listed (drop 2 rest) = sym done ∙ ap (λ z. cube ++ z) (listed_two rest h) in
    let fit = fit_seam cube (pairs_listed (drop 2 rest)) p (subst (All (IsFit 0)) all (proper_fit key proper)) in
    (fit.1, fit.2, lacks_seam cube (pairs_listed (drop 2 rest)) p (subst IsRising all (proper_rising key proper)))
