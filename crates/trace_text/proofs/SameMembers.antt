-- An object has the members that it is made of.
use Rattle.std.proofs.Common.{◌≡◌, ◌≢◌, ◌⊎◌, inl, inr, ℕ, List, [], ◌∷◌, Ordering, Less, Equal, Greater, AllPairs, Contains, nat_cmp, refl, sym, ap, ◌∙◌}
use Rattle.std.specs.Cmp.Lexicographic.{slice_cmp}
use Rattle.std.specs.Ordering.{match_ordering}
use Rattle.std.proofs.lemmas.List.Elements.{All-contains}
use Rattle.list_laws.proofs.Pairwise.{AllPairs-head, AllPairs-tail}
use Rattle.list_laws.proofs.Orders.{same_list}
use Rattle.list_laws.proofs.Members.{contains_cases, contains_here, contains_there, contains_none}
use Rattle.serde_json.specs.Data.{Data, Members, no_members, member, put}
use Rattle.trace_text.specs.Json.{Member, with_members}
use Rattle.trace_text.specs.JsonLaws.{listed, MembersStay}

abbrev one : List ℕ → Data → Member
one k d = (k, d)

-- the key is none of the members'
abbrev IsNew : List ℕ → Members → Type 0
IsNew k ms = (p : Member) → Contains (listed ms) p → p.0 ≡ k → ⊥

from_put_at : (o : Ordering) (k l : List ℕ) (d e : Data) (ms : Members) (p : Member) → slice_cmp nat_cmp k l ≡ o → (Contains (listed (put k d ms)) p → (one k d ≡ p) ⊎ Contains (listed ms) p)
    → Contains (listed (match_ordering o (member k d (member l e ms)) (member l d ms) (member l e (put k d ms)))) p → (one k d ≡ p) ⊎ Contains (listed (member l e ms)) p
from_put_at Less k l d e ms p is later h = contains_cases (one k d) p (listed (member l e ms)) h
from_put_at Equal k l d e ms p is later h = elim (contains_cases (one l d) p (listed ms) h) [
  | inl this ↦ inl (ap (λ (x : List ℕ). one x d) (same_list k l is) ∙ this)
  | inr there ↦ inr (contains_there (one l e) p (listed ms) there)
]
from_put_at Greater k l d e ms p is later h = elim (contains_cases (one l e) p (listed (put k d ms)) h) [
  | inl this ↦ inr (contains_here (one l e) p (listed ms) this)
  | inr there ↦ elim (later there) [
    | inl new ↦ inl new
    | inr old ↦ inr (contains_there (one l e) p (listed ms) old)
  ]
]

from_put : (k : List ℕ) (d : Data) (ms : Members) (p : Member) → Contains (listed (put k d ms)) p → (one k d ≡ p) ⊎ Contains (listed ms) p
from_put k d no_members p h = contains_cases (one k d) p [] h
from_put k d (member l e ms) p h = from_put_at (slice_cmp nat_cmp k l) k l d e ms p refl (from_put k d ms p) h

to_put_at : (o : Ordering) (k l : List ℕ) (d e : Data) (ms : Members) (p : Member) → slice_cmp nat_cmp k l ≡ o → IsNew k (member l e ms)
    → ((one k d ≡ p) ⊎ Contains (listed ms) p → Contains (listed (put k d ms)) p) → (one k d ≡ p) ⊎ Contains (listed (member l e ms)) p
    → Contains (listed (match_ordering o (member k d (member l e ms)) (member l d ms) (member l e (put k d ms)))) p
to_put_at Less k l d e ms p is new later (inl this) = contains_here (one k d) p (listed (member l e ms)) this
to_put_at Less k l d e ms p is new later (inr old) = contains_there (one k d) p (listed (member l e ms)) old
to_put_at Equal k l d e ms p is new later h = absurd (new (one l e) (contains_here (one l e) (one l e) (listed ms) refl) (sym (same_list k l is)))
to_put_at Greater k l d e ms p is new later (inl this) = contains_there (one l e) p (listed (put k d ms)) (later (inl this))
to_put_at Greater k l d e ms p is new later (inr old) = elim (contains_cases (one l e) p (listed ms) old) [
  | inl here ↦ contains_here (one l e) p (listed (put k d ms)) here
  | inr there ↦ contains_there (one l e) p (listed (put k d ms)) (later (inr there))
]

to_put : (k : List ℕ) (d : Data) (ms : Members) (p : Member) → IsNew k ms → (one k d ≡ p) ⊎ Contains (listed ms) p → Contains (listed (put k d ms)) p
to_put k d no_members p new (inl this) = contains_here (one k d) p [] this
to_put k d no_members p new (inr old) = absurd (contains_none p old)
to_put k d (member l e ms) p new h = to_put_at (slice_cmp nat_cmp k l) k l d e ms p refl new (to_put k d ms p (λ q among. new q (contains_there (one l e) q (listed ms) among))) h

from_with : (ms : Members) (ps : List Member) (p : Member) → Contains (listed (with_members ms ps)) p → Contains (listed ms) p ⊎ Contains ps p
from_with ms [] p h = inl h
from_with ms (q ∷ ps) p h = elim (from_with (put q.0 q.1 ms) ps p h) [
  | inl inside ↦ elim (from_put q.0 q.1 ms p inside) [
    | inl this ↦ inr (contains_here q p ps this)
    | inr old ↦ inl old
  ]
  | inr there ↦ inr (contains_there q p ps there)
]

abbrev HasOtherKey : Member → Member → Type 0
HasOtherKey p q = p.0 ≢ q.0

-- the keys of the rest are new behind the first member too
new_behind : (q : Member) (ms : Members) (ps : List Member) → AllPairs HasOtherKey (q ∷ ps) → ((r : Member) → Contains (q ∷ ps) r → IsNew r.0 ms) → (r : Member) → Contains ps r → IsNew r.0 (put q.0 q.1 ms)
new_behind q ms ps different new r among t inside e = elim (from_put q.0 q.1 ms t inside) [
  | inl this ↦ All-contains (HasOtherKey q) ps r (AllPairs-head HasOtherKey q ps different) among (ap (λ (x : Member). x.0) this ∙ e)
  | inr old ↦ new r (contains_there q r ps among) t old e
]

to_with : (ms : Members) (ps : List Member) (p : Member) → AllPairs HasOtherKey ps → ((q : Member) → Contains ps q → IsNew q.0 ms) → Contains (listed ms) p ⊎ Contains ps p → Contains (listed (with_members ms ps)) p
to_with ms [] p different new (inl old) = old
to_with ms [] p different new (inr among) = absurd (contains_none p among)
to_with ms (q ∷ ps) p different new h =
    let put_at : (one q.0 q.1 ≡ p) ⊎ Contains (listed ms) p → Contains (listed (put q.0 q.1 ms)) p = to_put q.0 q.1 ms p (new q (contains_here q q ps refl)) in
    let further : Contains (listed (put q.0 q.1 ms)) p ⊎ Contains ps p → Contains (listed (with_members (put q.0 q.1 ms) ps)) p =
    to_with (put q.0 q.1 ms) ps p (AllPairs-tail HasOtherKey q ps different) (new_behind q ms ps different new) in
    elim h [
      | inl old ↦ further (inl (put_at (inr old)))
      | inr among ↦ elim (contains_cases q p ps among) [
        | inl this ↦ further (inl (put_at (inl this)))
        | inr there ↦ further (inr there)
      ]
    ]

pub members_stay : MembersStay
members_stay ps different p = (
  λ h. elim (from_with no_members ps p h) [
    | inl inside ↦ absurd (contains_none p inside)
    | inr among ↦ among
  ],
  λ h. to_with no_members ps p different (λ q among t inside e. contains_none t inside) (inr h),
)
