-- Pairs that clash, of which one after another is left out.
use Rattle.std.proofs.Common.{◌≡◌, ◌≢◌, ◌==◌, ◌+◌, ◌-◌, ◌<◌, ◌≤◌, ◌++◌, not, ℕ, List, [], ◌∷◌, Some, length, take, All, Contains, inl, inr, sym, ap, subst, ◌∙◌, arith, refl}
use Rattle.std.proofs.lemmas.Bool.{eq-eqb, not_from_true, false≢true}
use Rattle.std.specs.List.{slice_get}
use Rattle.std.proofs.lemmas.List.{append-nil, take_more}
use Rattle.std.proofs.lemmas.Option.{get_or_from_slice_get}
use Rattle.std.proofs.lemmas.List.Elements.{All-nil, All-contains, All-push, Contains-append_left, Contains-append_right, Contains-append_cases}
use Rattle.std.proofs.lemmas.List.Kept.{AllPairs-filter}
use Rattle.list_laws.proofs.Members.{all_from, contains_cases, contains_here, contains_none, from_filter, to_filter}
use Rattle.cca_base.specs.declared.cube.Pair.{Pair}
use Rattle.cca_base.specs.PlantModel.{PlantModel}
use Rattle.cca_base.specs.Cube.{IsCube, IsPart, Lacks}
use Rattle.cca_base.specs.Repairs.{pairs_of}
use Rattle.cca_base.specs.Shown.{Clash}
use Rattle.cca_base.proofs.CubeLaws.{IsCube-push, both_cube}
use Rattle.clash_analysis.specs.declared.subjects.SubjectSet.{SubjectSet}
use Rattle.consistency.specs.Conflict.{without, IsMinimalClash}
use Rattle.consistency.specs.Cores.{IsCore, pairs_in}
use Rattle.clash_analysis.specs.Subjects.{is_in}
use Rattle.consistency.proofs.MinimalConflict.{more_clash}
use Rattle.cca_base.proofs.Trying.{lacks_at, without_one}

abbrev Differ : Pair → Pair → Type 0
Differ p q = p.item ≢ q.item

-- a pair of the one list or of the other
cases_both : (kept left other : List Pair) → ((q : Pair) → Contains kept q → Contains other q) → ((q : Pair) → Contains left q → Contains other q) → (q : Pair) → Contains (kept ++ left) q → Contains other q
cases_both kept left other one two q among = elim (Contains-append_cases kept left q among) [
  | inl front ↦ one q front
  | inr behind ↦ two q behind
]

-- what is among others is so without a pair's component
without_within : (less more : List Pair) (p : Pair) → ((q : Pair) → Contains less q → Contains more q) → (q : Pair) → Contains (without p less) q → Contains (without p more) q
without_within less more p within q among =
    let left = from_filter (λ r. not (r.item == p.item)) less q among in
    to_filter (λ r. not (r.item == p.item)) more q left.0 (within q left.1)

-- a pair that is left without another's component is not that one
not_itself : (pairs : List Pair) (p q : Pair) → Contains (without p pairs) q → p ≡ q → ⊥
not_itself pairs p q among e =
    let left = from_filter (λ r. not (r.item == p.item)) pairs q among in
    false≢true (sym (not_from_true (q.item == p.item) (eq-eqb q.item p.item (λ d. (sym e d).item))) ∙ left.0)

-- the last of so many pairs stands behind the others
last_taken : (xs : List Pair) (n : ℕ) (p : Pair) → 0 < n → n ≤ length xs → slice_get xs (n - 1) ≡ Some p → take n xs ≡ take (n - 1) xs ++ p ∷ []
last_taken xs n p some room is =
    let same : n ≡ n - 1 + 1 = omega (arith, some) in
    let here : n - 1 < length xs = omega (arith, some, room) in
    ap (λ (k : ℕ). take k xs) same ∙ (take_more xs (n - 1) p here ∙ ap (λ (x : Pair). take (n - 1) xs ++ x ∷ []) (get_or_from_slice_get xs (n - 1) p p is))

module _ (m : PlantModel) (seen pairs : List Pair) where
  -- these are kept, each needed beside the others, and these are left
  pub record IsShrinking (kept left : List Pair) : Type 0 where
    pub kept_cube : IsCube kept
    pub left_cube : IsCube left
    pub apart : All (λ q. Lacks q.item kept) left
    pub among : (q : Pair) → Contains (kept ++ left) q → Contains pairs q
    pub clash : Clash m seen (kept ++ left)
    pub minimal : (p : Pair) → Contains kept p → Clash m seen (without p (kept ++ left)) → ⊥

  pub none_kept : IsCube pairs → Clash m seen pairs → IsShrinking [] pairs
  none_kept cube clash = record {
    kept_cube = λ i j d before within. absurd (omega (arith, within));
    left_cube = cube;
    apart = all_from (λ q. Lacks q.item []) pairs (λ q among. All-nil (λ p. p.item ≢ q.item));
    among = λ q among. among;
    clash = clash;
    minimal = λ p among. absurd (contains_none p among);
  }

  pub last_left : (kept xs : List Pair) (n : ℕ) (p : Pair) → 0 < n → n ≤ length xs → slice_get xs (n - 1) ≡ Some p → IsShrinking kept (take n xs) → IsShrinking kept (take (n - 1) xs ++ p ∷ [])
  last_left kept xs n p some room is h = subst (IsShrinking kept) (last_taken xs n p some room is) h

  module _ (kept left : List Pair) (p : Pair) (h : IsShrinking kept (left ++ p ∷ [])) where
    fewer : (q : Pair) → Contains (kept ++ left) q → Contains (kept ++ (left ++ p ∷ [])) q
    fewer = cases_both kept left (kept ++ (left ++ p ∷ []))
        (λ q front. Contains-append_left kept (left ++ p ∷ []) q front)
        (λ q behind. Contains-append_right kept (left ++ p ∷ []) q (Contains-append_left left (p ∷ []) q behind))

    pub front : IsCube left × Lacks p.item left
    front = (
      subst IsCube (append-nil left) (without_one left [] p h.left_cube),
      subst (Lacks p.item) (append-nil left) (lacks_at left (p ∷ []) 0 p h.left_cube (omega arith) refl),
    )

    apart_left : All (λ q. Lacks q.item kept) left
    apart_left = all_from (λ q. Lacks q.item kept) left (λ q among. All-contains (λ r. Lacks r.item kept) (left ++ p ∷ []) q h.apart (Contains-append_left left (p ∷ []) q among))

    pub others_cube : IsCube (kept ++ left)
    others_cube = both_cube kept left h.kept_cube front.0 apart_left

    pub others_among : (q : Pair) → Contains (kept ++ left) q → Contains pairs q
    others_among q among = h.among q (fewer q among)

    pub last_lacks : Lacks p.item kept
    last_lacks = All-contains (λ r. Lacks r.item kept) (left ++ p ∷ []) p h.apart (Contains-append_right left (p ∷ []) p (contains_here p p [] refl))

    -- where the others clash, those of their core go on
    pub left_out : (core : SubjectSet) → IsCore m seen (kept ++ left) core → IsShrinking kept (pairs_in core left)
    left_out core clash =
        let in_left : (q : Pair) → Contains (pairs_in core left) q → Contains left q = λ q there. (from_filter (λ (r : Pair). is_in core r.item) left q there).1 in
        let less : (q : Pair) → Contains (kept ++ pairs_in core left) q → Contains (kept ++ left) q =
        cases_both kept (pairs_in core left) (kept ++ left) (λ q front. Contains-append_left kept left q front) (λ q behind. Contains-append_right kept left q (in_left q behind)) in
        record {
          kept_cube = h.kept_cube;
          left_cube = AllPairs-filter Differ (λ (q : Pair). is_in core q.item) left front.0;
          apart = all_from (λ q. Lacks q.item kept) (pairs_in core left) (λ q there. All-contains (λ r. Lacks r.item kept) left q apart_left (in_left q there));
          among = λ q there. others_among q (less q there);
          clash = more_clash m seen (pairs_in core (kept ++ left)) (kept ++ pairs_in core left)
              (λ q there.
              let both = from_filter (λ (r : Pair). is_in core r.item) (kept ++ left) q there in
              elim (Contains-append_cases kept left q both.1) [
                | inl first ↦ Contains-append_left kept (pairs_in core left) q first
                | inr behind ↦ Contains-append_right kept (pairs_in core left) q (to_filter (λ (r : Pair). is_in core r.item) left q both.0 behind)
              ])
              clash;
          minimal = λ q there again. h.minimal q there (more_clash m seen (without q (kept ++ pairs_in core left)) (without q (kept ++ (left ++ p ∷ [])))
              (without_within (kept ++ pairs_in core left) (kept ++ (left ++ p ∷ [])) q (λ r one. fewer r (less r one))) again);
        }

    -- where they don't, the pair is kept
    pub one_kept : (Clash m seen (kept ++ left) → ⊥) → IsShrinking (kept ++ p ∷ []) left
    one_kept fits =
        let more : (q : Pair) → Contains ((kept ++ p ∷ []) ++ left) q → Contains (kept ++ (left ++ p ∷ [])) q =
        cases_both (kept ++ p ∷ []) left (kept ++ (left ++ p ∷ []))
        (cases_both kept (p ∷ []) (kept ++ (left ++ p ∷ [])) (λ q first. Contains-append_left kept (left ++ p ∷ []) q first) (λ q last. Contains-append_right kept (left ++ p ∷ []) q (Contains-append_right left (p ∷ []) q last)))
        (λ q behind. Contains-append_right kept (left ++ p ∷ []) q (Contains-append_left left (p ∷ []) q behind)) in
        let back : (q : Pair) → Contains (kept ++ (left ++ p ∷ [])) q → Contains ((kept ++ p ∷ []) ++ left) q =
        cases_both kept (left ++ p ∷ []) ((kept ++ p ∷ []) ++ left)
        (λ q first. Contains-append_left (kept ++ p ∷ []) left q (Contains-append_left kept (p ∷ []) q first))
        (cases_both left (p ∷ []) ((kept ++ p ∷ []) ++ left) (λ q behind. Contains-append_right (kept ++ p ∷ []) left q behind) (λ q last. Contains-append_left (kept ++ p ∷ []) left q (Contains-append_right kept (p ∷ []) q last))) in
        -- what is left without the pair are the others
        let rest : (q : Pair) → Contains (without p ((kept ++ p ∷ []) ++ left)) q → Contains (kept ++ left) q =
        λ q there.
        let stays = from_filter (λ r. not (r.item == p.item)) ((kept ++ p ∷ []) ++ left) q there in
        elim (Contains-append_cases (kept ++ p ∷ []) left q stays.1) [
          | inl either ↦ elim (Contains-append_cases kept (p ∷ []) q either) [
            | inl first ↦ Contains-append_left kept left q first
            | inr last ↦ elim (contains_cases p q [] last) [
              | inl e ↦ absurd (not_itself ((kept ++ p ∷ []) ++ left) p q there e)
              | inr none ↦ absurd (contains_none q none)
            ]
          ]
          | inr behind ↦ Contains-append_right kept left q behind
        ]
        in
        record {
          kept_cube = IsCube-push kept p h.kept_cube last_lacks;
          left_cube = front.0;
          apart = all_from (λ q. Lacks q.item (kept ++ p ∷ [])) left (λ q there.
              All-push (λ r. r.item ≢ q.item) kept p (All-contains (λ r. Lacks r.item kept) left q apart_left there)
              (λ same. All-contains (λ r. r.item ≢ p.item) left q front.1 there (sym same)));
          among = λ q there. h.among q (more q there);
          clash = more_clash m seen (kept ++ (left ++ p ∷ [])) ((kept ++ p ∷ []) ++ left) back h.clash;
          minimal = λ q there again. elim (Contains-append_cases kept (p ∷ []) q there) [
            | inl first ↦ h.minimal q first (more_clash m seen (without q ((kept ++ p ∷ []) ++ left)) (without q (kept ++ (left ++ p ∷ []))) (without_within ((kept ++ p ∷ []) ++ left) (kept ++ (left ++ p ∷ [])) q more) again)
            | inr last ↦ elim (contains_cases p q [] last) [
              | inl e ↦ fits (more_clash m seen (without p ((kept ++ p ∷ []) ++ left)) (kept ++ left) rest (subst (λ x. Clash m seen (without x ((kept ++ p ∷ []) ++ left))) (sym e) again))
              | inr none ↦ absurd (contains_none q none)
            ]
          ];
        }

  pub none_left : (kept : List Pair) → IsShrinking kept [] → (s : List ℕ) → IsPart pairs (pairs_of s) → IsMinimalClash m s seen kept
  none_left kept h s part = record {
    part = all_from (Contains (pairs_of s)) kept (λ q there. All-contains (Contains (pairs_of s)) pairs q part (h.among q (Contains-append_left kept [] q there)));
    clash = subst (Clash m seen) (append-nil kept) h.clash;
    minimal = λ q there again. h.minimal q there (subst (λ ps. Clash m seen (without q ps)) (sym (append-nil kept)) again);
  }
