-- The keys of an object rise in byte order.
use Rattle.std.proofs.Common.{◌≡◌, ℕ, List, [], ◌∷◌, Ordering, Less, Equal, Greater, All, AllPairs, nat_cmp, refl, ap, ◌∙◌, arith}
use Rattle.std.specs.Cmp.Lexicographic.{slice_cmp}
use Rattle.std.specs.Ordering.{match_ordering, ordering_reverse}
use Rattle.std.proofs.lemmas.Cmp.{nat_list_cmp_total}
use Rattle.std.proofs.lemmas.List.Elements.{All-nil, All-cons, All-head, All-tail, All-weaker}
use Rattle.std.proofs.lemmas.List.Kept.{AllPairs-cons}
use Rattle.list_laws.proofs.Pairwise.{AllPairs-head, AllPairs-tail}
use Rattle.serde_json.specs.Data.{Data, Members, no_members, member, put}
use Rattle.trace_text.specs.Json.{Member, with_members}
use Rattle.trace_text.specs.JsonLaws.{keys, IsBelow, KeysRise}

above_at : (o : Ordering) (x : List ℕ) (a b c : Members) → All (IsBelow x) (keys a) → All (IsBelow x) (keys b) → All (IsBelow x) (keys c) → All (IsBelow x) (keys (match_ordering o a b c))
above_at Less x a b c h j k = h
above_at Equal x a b c h j k = j
above_at Greater x a b c h j k = k

-- what comes before the key and before all keys comes before all of them with it
above : (x k : List ℕ) (d : Data) (ms : Members) → IsBelow x k → All (IsBelow x) (keys ms) → All (IsBelow x) (keys (put k d ms))
above x k d no_members h all = All-cons (IsBelow x) k [] h (All-nil (IsBelow x))
above x k d (member l e ms) h all =
    let more = All-cons (IsBelow x) k (l ∷ keys ms) h all in
    let later = All-cons (IsBelow x) l (keys (put k d ms)) (All-head (IsBelow x) l (keys ms) all) (above x k d ms h (All-tail (IsBelow x) l (keys ms) all)) in
    above_at (slice_cmp nat_cmp k l) x (member k d (member l e ms)) (member l d ms) (member l e (put k d ms)) more all later

rising_at : (o : Ordering) (k l : List ℕ) (d e : Data) (ms : Members) → slice_cmp nat_cmp k l ≡ o → AllPairs IsBelow (l ∷ keys ms) → AllPairs IsBelow (keys (put k d ms))
    → AllPairs IsBelow (keys (match_ordering o (member k d (member l e ms)) (member l d ms) (member l e (put k d ms))))
rising_at Less k l d e ms is h later =
    let rest = All-weaker (IsBelow l) (IsBelow k) (λ y j. nat_list_cmp_total.trans k l y is j) (keys ms) (AllPairs-head IsBelow l (keys ms) h) in
    AllPairs-cons IsBelow k (l ∷ keys ms) (All-cons (IsBelow k) l (keys ms) is rest) h
rising_at Equal k l d e ms is h later = h
rising_at Greater k l d e ms is h later =
    let below : IsBelow l k = nat_list_cmp_total.antisymm l k ∙ ap ordering_reverse is in
    AllPairs-cons IsBelow l (keys (put k d ms)) (above l k d ms below (AllPairs-head IsBelow l (keys ms) h)) later

rising_put : (k : List ℕ) (d : Data) (ms : Members) → AllPairs IsBelow (keys ms) → AllPairs IsBelow (keys (put k d ms))
rising_put k d no_members h = AllPairs-cons IsBelow k [] (All-nil (IsBelow k)) h
rising_put k d (member l e ms) h = rising_at (slice_cmp nat_cmp k l) k l d e ms refl h (rising_put k d ms (AllPairs-tail IsBelow l (keys ms) h))

rising_with : (ms : Members) (ps : List Member) → AllPairs IsBelow (keys ms) → AllPairs IsBelow (keys (with_members ms ps))
rising_with ms [] h = h
rising_with ms (p ∷ ps) h = rising_with (put p.0 p.1 ms) ps (rising_put p.0 p.1 ms h)

pub keys_rise : KeysRise
keys_rise ps = rising_with no_members ps (λ i j d before within. absurd (omega arith))
