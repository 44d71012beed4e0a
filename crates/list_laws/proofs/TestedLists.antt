-- Tests of lists that grow by one element.
use Rattle.std.proofs.Common.{◌≡◌, ◌<◌, ◌||◌, ◌&&◌, Bool, true, List, [], ◌∷◌, ◌++◌, length, All, sym, ap, subst, ◌∙◌, arith}
use Rattle.std.specs.List.{list_all}
use Rattle.std.proofs.lemmas.Bool.{and_parts, and_from}
use Rattle.std.proofs.lemmas.List.{length_push, length-append}
use Rattle.std.proofs.lemmas.List.Elements.{All-take, All-get_or, All-push}
use Rattle.std.proofs.lemmas.List.Folds.{list_all-append}
use Rattle.std.proofs.Math.Seq.{get_or-append_seam, take-append_seam}
use Rattle.std.proofs.Math.Bool.{and_assoc, or_assoc}
use mathlib.Core.Bool.{and-true, or_comm, or-and_distrib_left}

pub or_swap : (a b c : Bool) → ((a || b) || c) ≡ ((a || c) || b)
or_swap a b c = or_assoc a b c ∙ ap (λ x. a || x) (or_comm b c) ∙ sym (or_assoc a c b)

-- one more clause of several that one literal list is put into
pub row_step : (k o a b : Bool) → ((k && (o || a)) && (o || b)) ≡ (k && (o || (a && b)))
row_step k o a b = and_assoc k (o || a) (o || b) ∙ ap (λ x. k && x) (sym (or-and_distrib_left o a b))

-- ---- a list of clauses that keeps some of those gone through

pub kept_push : {X : Type 0} (p : X → Bool) (kept more done : List X) (x : X) → more ≡ kept ++ x ∷ [] → list_all p kept ≡ list_all p done → list_all p more ≡ list_all p (done ++ x ∷ [])
kept_push p kept more done x e h = ap (list_all p) e ∙ (list_all-append p kept (x ∷ []) ∙ (ap (λ v. v && list_all p (x ∷ [])) h ∙ sym (list_all-append p done (x ∷ []))))

pub fewer_push : {X : Type 0} (p : X → Bool) (kept more done : List X) (x : X) → more ≡ kept ++ x ∷ [] → (list_all p done ≡ true → list_all p kept ≡ true) → list_all p (done ++ x ∷ []) ≡ true → list_all p more ≡ true
fewer_push p kept more done x e h all =
    let parts = and_parts (list_all p done) (list_all p (x ∷ [])) (sym (list_all-append p done (x ∷ [])) ∙ all) in
    ap (list_all p) e ∙ (list_all-append p kept (x ∷ []) ∙ and_from _ _ (h parts.0) parts.1)

pub kept_skip : {X : Type 0} (p : X → Bool) (kept done : List X) (x : X) → p x ≡ true → list_all p kept ≡ list_all p done → list_all p kept ≡ list_all p (done ++ x ∷ [])
kept_skip p kept done x px h = h ∙ sym (list_all-append p done (x ∷ []) ∙ (ap (λ v. list_all p done && (v && true)) px ∙ and-true (list_all p done)))

pub fewer_skip : {X : Type 0} (p : X → Bool) (kept done : List X) (x : X) → (list_all p done ≡ true → list_all p kept ≡ true) → list_all p (done ++ x ∷ []) ≡ true → list_all p kept ≡ true
fewer_skip p kept done x h all = h (and_parts (list_all p done) (list_all p (x ∷ [])) (sym (list_all-append p done (x ∷ [])) ∙ all)).0

pub All-before : {X : Type 0} (P : X → Type 0) (done : List X) (x : X) → All P (done ++ x ∷ []) → All P done
All-before P done x h = subst (All P) (take-append_seam done (x ∷ [])) (All-take P (length done) (done ++ x ∷ []) h)

pub All-last : {X : Type 0} (P : X → Type 0) (done : List X) (x : X) → All P (done ++ x ∷ []) → P x
All-last P done x h =
    let here : length done < length (done ++ x ∷ []) = omega (arith, length_push done x) in
    subst P (get_or-append_seam done x [] x) (All-get_or P (done ++ x ∷ []) (length done) x here h)

pub below_push : {X : Type 0} (P : X → Type 0) (kept more done : List X) (x : X) → more ≡ kept ++ x ∷ [] → (All P done → All P kept) → All P (done ++ x ∷ []) → All P more
below_push P kept more done x e h all = subst (All P) (sym e) (All-push P kept x (h (All-before P done x all)) (All-last P done x all))

-- what comes next, of which those gone through are a part
pub All-at_seam : {X : Type 0} (P : X → Type 0) (done : List X) (x : X) (rest : List X) → All P (done ++ x ∷ rest) → P x
All-at_seam P done x rest h =
    let here : length done < length (done ++ x ∷ rest) = omega (arith, length-append done (x ∷ rest)) in
    subst P (get_or-append_seam done x rest x) (All-get_or P (done ++ x ∷ rest) (length done) x here h)

-- one more element of which a test is asked
pub all_push : {X : Type 0} (p : X → Bool) (old : Bool) (done : List X) (x : X) → ((old && list_all p done) && p x) ≡ (old && list_all p (done ++ x ∷ []))
all_push p old done x = and_assoc old (list_all p done) (p x) ∙ ap (λ b. old && b) (sym (list_all-append p done (x ∷ []) ∙ ap (λ b. list_all p done && b) (and-true (p x))))
