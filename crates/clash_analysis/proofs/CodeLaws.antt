-- Steps of the loops over a trail.
use Rattle.std.proofs.Common.{◌≡◌, ◌≢◌, ◌⊎◌, inl, inr, ℕ, ◌+◌, ◌-◌, ◌<◌, ◌≤◌, Bool, true, false, List, [], ◌∷◌, ◌++◌, length, get_or, take, set, slice_index, bit_and, sym, ap, subst, ◌∙◌, arith}
use Rattle.std.specs.Prelude.{All}
use Rattle.std.proofs.lemmas.List.{append_assoc, take_all, take_more}
use Rattle.std.proofs.lemmas.List.Elements.{All-push}
use Rattle.cca_base.specs.Sets.{has}
use Rattle.cca_base.specs.declared.cube.Pair.{Pair}
use Rattle.clash_analysis.specs.declared.entry.Entry.{Entry}
use Rattle.clash_analysis.specs.declared.entry.Why.TheVariants.{Because}
use Rattle.clash_analysis.specs.declared.subjects.SubjectSet.{SubjectSet}
use Rattle.clash_analysis.specs.Subjects.{is_in}
use Rattle.clash_analysis.specs.Trails.{AreApartBut, IsTrail, undone}
use Rattle.clash_analysis.specs.Learning.{IsLearned, SharesNone}
use Rattle.clash_analysis.specs.Laws.{Passes}
use Rattle.clash_analysis.proofs.ClashLaws.{share_none}
use Rattle.clash_analysis.proofs.TrailLaws.{popped, pushed}
use Rattle.clash_analysis.proofs.UndoLaws.{learned_entry}

pub take_last : {X : Type 0} (xs : List X) (i : ℕ) (d : X) → 0 < i → i ≤ length xs → take i xs ≡ take (i - 1) xs ++ get_or xs (i - 1) d ∷ []
take_last xs i d h k = let e : i ≡ (i - 1) + 1 = omega arith in ap (λ n. take n xs) e ∙ take_more xs (i - 1) d (omega arith)

pub undone_more : (want : List ℕ → Bool) (pairs : List Pair) (start : List ℕ) (front back : List Entry) (dom : List ℕ) (i : ℕ) (d : Entry) → 0 < i → i ≤ length back
    → IsTrail (Passes want) pairs start (front ++ take i back) dom → IsTrail (Passes want) pairs start (front ++ take (i - 1) back) (undone dom (get_or back (i - 1) d))
undone_more want pairs start front back dom i d h k t =
    let split : front ++ take i back ≡ (front ++ take (i - 1) back) ++ get_or back (i - 1) d ∷ [] = ap (λ (l : List Entry). front ++ l) (take_last back i d h k) ∙ sym (append_assoc front (take (i - 1) back) (get_or back (i - 1) d ∷ [])) in
    (popped (Passes want) pairs start dom (front ++ take (i - 1) back) (get_or back (i - 1) d) (subst (λ l. IsTrail (Passes want) pairs start l dom) split t)).0

pub shares_none : (learn : List ℕ) (u : ℕ) (e : Entry) → (e.subject ≡ u) ⊎ (bit_and (slice_index learn e.subject) e.before ≡ 0) → SharesNone learn u e
shares_none learn u e (inl same) other a h = absurd (other same)
shares_none learn u e (inr none) other a h = share_none (slice_index learn e.subject) e.before none a h

pub shares_more : (learn : List ℕ) (u : ℕ) (back : List Entry) (i : ℕ) (d : Entry) → i < length back → All (SharesNone learn u) (take i back) → SharesNone learn u (get_or back i d) → All (SharesNone learn u) (take (i + 1) back)
shares_more learn u back i d h all last = subst (All (SharesNone learn u)) (sym (take_more back i d h)) (All-push (SharesNone learn u) (take i back) (get_or back i d) all last)

pub shares_all : (learn : List ℕ) (u : ℕ) (back : List Entry) (i : ℕ) → length back ≤ i → All (SharesNone learn u) (take i back) → All (SharesNone learn u) back
shares_all learn u back i h all = subst (All (SharesNone learn u)) (take_all i back h) all

pub narrowed_trail : (want : List ℕ → Bool) (pairs : List Pair) (start dom learn : List ℕ) (u : ℕ) (because : SubjectSet) (trail : List Entry) → length learn ≡ length dom → u < length dom
    → ((v a : ℕ) → v ≢ u → has (slice_index learn v) a ≡ true → is_in because v ≡ true) → ((v : ℕ) → is_in because v ≡ true → v < length learn)
    → IsTrail (Passes want) pairs start trail dom → IsLearned (Passes want) learn → AreApartBut u dom learn
    → ((a : ℕ) × (has (slice_index dom u) a ≡ true) × (has (slice_index learn u) a ≡ true)) → ((a : ℕ) × (has (slice_index dom u) a ≡ true) × (has (slice_index learn u) a ≡ false))
    → IsTrail (Passes want) pairs start (trail ++ record { subject = u; before = slice_index dom u; kept = slice_index learn u; why = Because because } ∷ []) (set dom u (bit_and (slice_index dom u) (slice_index learn u)))
narrowed_trail want pairs start dom learn u because trail long inside others within t learned apart left less =
    pushed (Passes want) pairs start dom trail (record { subject = u; before = slice_index dom u; kept = slice_index learn u; why = Because because }) t
    (learned_entry (Passes want) pairs dom learn u because long inside learned apart others (λ v is. subst (λ n. v < n) long (within v is)) left less)
