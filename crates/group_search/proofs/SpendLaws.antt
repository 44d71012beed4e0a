-- What cuts that the least paths hold take from components.
use Rattle.std.proofs.Common.{◌≡◌, ◌≢◌, inl, inr, ℕ, suc, ◌+◌, ◌-◌, ◌<◌, ◌≤◌, ◌^◌, ◌==◌, Bool, true, false, not, cond, List, [], ◌∷◌, length, take, slice_get, slice_index, get_or, set, min, Option, Some, None, All, IfSome, refl, sym, ap, subst, ◌∙◌, arith}
use Rattle.std.specs.Option.{option_eq}
use Rattle.std.proofs.lemmas.Bool.{cases_eq, true≢false}
use Rattle.std.proofs.lemmas.Bool.Decides.{eqb_tells}
use Rattle.std.proofs.lemmas.List.{get_or-set_same, get_or-set_other, length-set}
use Rattle.std.proofs.lemmas.List.Elements.{All-cons, All-head, All-more, All-nil, All-tail, All-weaker}
use Rattle.list_laws.proofs.Places.{get_at}
use Rattle.cca_base.specs.State.{Extends}
use Rattle.cca_base.specs.declared.cube.Pair.{Pair}
use Rattle.group_search.specs.Bounds.{AllStand, EachPays, IsHeld, LeavesAt, Pays, PaysBeside}
use Rattle.group_search.specs.Columns.{IsBox}
use Rattle.group_search.specs.Questions.{Question, CostsAtLeast, IsCut, IsSolution, cost_in, in_group}
use Rattle.bounded_list.specs.Bounded.{Bounded}
use Rattle.group_search.specs.declared.best.Best.{Best}
use Rattle.group_search.specs.declared.focus.Focus.{Focus}
use Rattle.group_search.specs.declared.halves.Half.{Half}
use Rattle.group_search.proofs.StoreLaws.{rooms_kept}
use Rattle.group_search.specs.Works.{HasRoom, IsWork, KeepsBox}
use Rattle.group_search.specs.declared.path_box.PathBox.{PathBox}
use Rattle.group_search.specs.declared.work.Work.{Work}
use Rattle.group_search.proofs.PayLaws.{pays_beside}
use Rattle.group_search.proofs.PriceLaws.{alone, no_pair}
use Rattle.group_search.proofs.Sums.{sum_add, sum_at, sum_one, sum_zero}

-- ---- the components of pairs

pub option_same : (o : Option ℕ) (x : ℕ) → not (option_eq (λ (a b : ℕ). a == b) o (Some x)) ≡ false → o ≡ Some x
option_same None x e = absurd (true≢false e)
option_same (Some y) x e = elim (eqb_tells y x) [
  | inl same ↦ ap Some same.1
  | inr other ↦ absurd (true≢false (ap not (sym other.0) ∙ e))
]

module _ (components : List ℕ) (pairs : List Pair) (amount : ℕ) (old : List ℕ) where
  -- what was spent there rose by the amount
  abbrev pub IsTaken : List ℕ → ℕ → Type 0
  IsTaken now c = min (slice_index old c + amount) (2 ^ 64 - 1) ≤ slice_index now c

  -- it did at the components of the first pairs
  pub record AreTaken (now : List ℕ) (last : Option ℕ) (k : ℕ) : Type 0 where
    pub long : length now ≡ length old
    pub kept : (c : ℕ) → slice_index old c ≤ slice_index now c
    pub at_last : IfSome last (IsTaken now)
    pub more : All (λ p. IsTaken now (slice_index components p.item)) (take k pairs)

  pub taken_begins : AreTaken old None 0
  taken_begins = record { long = refl; kept = λ c. omega arith; at_last = tt; more = All-nil (λ (p : Pair). IsTaken old (slice_index components p.item)) }

  -- the next pair, of the same component as the last
  pub taken_same : (now : List ℕ) (last : Option ℕ) (k : ℕ) → k < length pairs → last ≡ Some (slice_index components (get_or pairs k no_pair).item)
      → AreTaken now last k → AreTaken now (Some (slice_index components (get_or pairs k no_pair).item)) (k + 1)
  taken_same now last k inside is t =
      let here : IsTaken now (slice_index components (get_or pairs k no_pair).item) = subst (λ o. IfSome o (IsTaken now)) is t.at_last in
      record { long = t.long; kept = t.kept; at_last = here; more = All-more (λ (p : Pair). IsTaken now (slice_index components p.item)) pairs k no_pair inside t.more here }

  -- or of another one
  pub taken_more : (now : List ℕ) (last : Option ℕ) (k put : ℕ) → k < length pairs → slice_index components (get_or pairs k no_pair).item < length now
      → slice_index now (slice_index components (get_or pairs k no_pair).item) ≤ put → min (slice_index now (slice_index components (get_or pairs k no_pair).item) + amount) (2 ^ 64 - 1) ≤ put
      → AreTaken now last k → AreTaken (set now (slice_index components (get_or pairs k no_pair).item) put) (Some (slice_index components (get_or pairs k no_pair).item)) (k + 1)
  taken_more now last k put inside within grown taken t =
      let c = slice_index components (get_or pairs k no_pair).item in
      let new = set now c put in
      let its : slice_index new c ≡ put = get_or-set_same now c put 0 within in
      let grows : (d : ℕ) → slice_index now d ≤ slice_index new d = λ d. elim (cases_eq d c) [
        | inl same ↦ subst (λ e. slice_index now e ≤ slice_index new e) (sym same) (omega (arith, its, grown))
        | inr other ↦ omega (arith, get_or-set_other now c d put 0 other)
      ] in
      let here : IsTaken new c = let before = t.kept c in omega (arith, before, taken, its) in
      record {
        long = length-set now c put ∙ t.long;
        kept = λ d. let before = t.kept d in let after = grows d in omega (arith, before, after);
        at_last = here;
        more = All-more (λ (p : Pair). IsTaken new (slice_index components p.item)) pairs k no_pair inside
            (All-weaker (λ (p : Pair). IsTaken now (slice_index components p.item)) (λ (p : Pair). IsTaken new (slice_index components p.item))
            (λ p is. let after = grows (slice_index components p.item) in omega (arith, is, after)) (take k pairs) t.more)
            here;
      }

-- ---- a cut

-- values that don't extend a cut lack one of its pairs
lacking : (values : List ℕ) (cut : List Pair) → All (λ p. p.item < length values) cut → (Extends values cut → ⊥)
    → (k : ℕ) × (k < length cut) × (slice_index values (get_or cut k no_pair).item ≢ (get_or cut k no_pair).value)
lacking values [] within none = absurd (none (All-nil (λ (p : Pair). slice_get values p.item ≡ Some p.value)))
lacking values (p ∷ cut) within none = elim (cases_eq (slice_index values p.item) p.value) [
  | inl same ↦
      let first = get_at values p.item p.value (All-head (λ (r : Pair). r.item < length values) p cut within) same in
      let rest = lacking values cut (All-tail (λ (r : Pair). r.item < length values) p cut within) (λ all. none (All-cons (λ (r : Pair). slice_get values r.item ≡ Some r.value) p cut first all)) in
      let less = rest.1 in
      (suc rest.0, omega (arith, less), rest.2)
  | inr other ↦ (0, omega arith, other)
]

-- the component of the pair at the place
abbrev pub of_pair : Question → List Pair → ℕ → ℕ
of_pair q cut k = slice_index q.of (get_or cut k no_pair).item

module _ (q : Question) (test : ℕ → Bool) (b : PathBox) (spent : List ℕ) (cut : List Pair) (own : All (λ c. c < q.count) q.of)
    (whole : (values costs : List ℕ) → q.solves values costs → length values ≡ length q.of) (is_cut : IsCut q cut) (held : All (IsHeld q test b) cut) where
  -- each solution pays at one of the pairs
  paid_at : (left : Option ℕ) (values costs : List ℕ) → All (LeavesAt q test b spent left) cut → IsSolution q test b.masks values costs
      → (k : ℕ) × (k < length cut) × PaysBeside left (slice_index b.columns.costs (of_pair q cut k)) (slice_index spent (of_pair q cut k)) (slice_index costs (of_pair q cut k))
  paid_at left values costs leaves x =
      let long = whole values costs x.solves in
      let within : All (λ p. p.item < length values) cut = λ k d inside. let at = held k d inside in omega (arith, long, at.place) in
      let lacks = lacking values cut within (λ all. is_cut values costs x.solves all) in
      (lacks.0, lacks.1, leaves lacks.0 no_pair lacks.1 values costs x lacks.2)

  pub none_left : (least : ℕ) → All (LeavesAt q test b spent None) cut → CostsAtLeast q test b.masks least
  none_left least leaves values costs x = let paid = paid_at None values costs leaves x in absurd paid.2

  pub limit_left : (more amount limit : ℕ) → All (LeavesAt q test b spent (Some amount)) cut → EachPays q test b.masks b.columns.costs spent more → 0 < amount
      → limit ≤ cost_in q.count test b.columns.costs + more + amount → CostsAtLeast q test b.masks limit
  limit_left more amount limit leaves pays some limited values costs x =
      let paid = paid_at (Some amount) values costs leaves x in
      let at = held paid.0 no_pair paid.1 in
      elim paid.2 [
        | inl none ↦ absurd (omega (arith, some, none))
        | inr beside ↦
            let all = pays_beside q test b.columns.costs spent more costs (of_pair q cut paid.0) amount (own (get_or cut paid.0 no_pair).item 0 at.place) at.own beside (pays values costs x) in
            omega (arith, limited, all)
      ]

  module _ (new : List ℕ) (more amount : ℕ) (kept : (c : ℕ) → slice_index spent c ≤ slice_index new c)
      (taken : All (λ p. min (slice_index spent (slice_index q.of p.item) + amount) (2 ^ 64 - 1) ≤ slice_index new (slice_index q.of p.item)) cut) (small : more + amount < 2 ^ 64) where
    -- one component pays the amount besides
    pays_there : (costs : List ℕ) (c : ℕ) → c < q.count → test c ≡ true → slice_index b.columns.costs c + slice_index spent c + amount ≤ slice_index costs c
        → min (slice_index spent c + amount) (2 ^ 64 - 1) ≤ slice_index new c → Pays q test b.columns.costs spent more costs → Pays q test b.columns.costs new (more + amount) costs
    pays_there costs c inside its beside rises pays =
        let before = pays.paid in
        let total = pays.total in
        let below = sum_at q.count test before c inside its in
        record {
          paid = λ d. before d + cond (d == c) amount 0;
          costs_more = λ d less is.
              let old = pays.costs_more d less is in
              let under = pays.within d less in
              elim (eqb_tells d c) [
                | inl same ↦
                    let part : cond (d == c) amount 0 ≡ amount = ap (λ t. cond t amount 0) same.0 in
                    let there : slice_index b.columns.costs d + slice_index spent d + amount ≤ slice_index costs d =
                    subst (λ e. slice_index b.columns.costs e + slice_index spent e + amount ≤ slice_index costs e) (sym same.1) beside in
                    omega (arith, under, part, there)
                | inr other ↦
                    let part : cond (d == c) amount 0 ≡ 0 = ap (λ t. cond t amount 0) other.0 in
                    omega (arith, old, part)
              ];
          within = λ d less.
              let under = pays.within d less in
              let grown = kept d in
              elim (eqb_tells d c) [
                | inl same ↦
                    let part : cond (d == c) amount 0 ≡ amount = ap (λ t. cond t amount 0) same.0 in
                    let there : min (slice_index spent d + amount) (2 ^ 64 - 1) ≤ slice_index new d = subst (λ e. min (slice_index spent e + amount) (2 ^ 64 - 1) ≤ slice_index new e) (sym same.1) rises in
                    let little : before d ≤ more = subst (λ e. before e ≤ more) (sym same.1) (omega (arith, below, total)) in
                    omega (arith, under, part, there, little, small)
                | inr other ↦
                    let part : cond (d == c) amount 0 ≡ 0 = ap (λ t. cond t amount 0) other.0 in
                    omega (arith, under, grown, part)
              ];
          total =
              let parts = sum_add q.count test before (λ d. cond (d == c) amount 0) in
              let one = sum_one q.count test c amount inside its in
              omega (arith, total, parts, one);
        }

    -- after the cut each solution pays more
    pub pays_more : All (LeavesAt q test b spent (Some amount)) cut → EachPays q test b.masks b.columns.costs spent more → EachPays q test b.masks b.columns.costs new (more + amount)
    pays_more leaves each values costs x =
        let pays = each values costs x in
        let paid = paid_at (Some amount) values costs leaves x in
        let at = held paid.0 no_pair paid.1 in
        elim paid.2 [
          | inl none ↦ record {
            paid = pays.paid;
            costs_more = pays.costs_more;
            within = λ d less. let under = pays.within d less in let grown = kept d in omega (arith, under, grown);
            total = let total = pays.total in omega (arith, total, none);
          }
          | inr beside ↦ pays_there costs (of_pair q cut paid.0) (own (get_or cut paid.0 no_pair).item 0 at.place) at.own beside (taken paid.0 no_pair paid.1) pays
        ]

-- the cut at a place

-- the same of other names for what is the same
module _ (q : Question) (group : Option ℕ) (names other : List ℕ) (b box : PathBox) (cut : List Pair) (named : names ≡ other) (boxed : b ≡ box) where
  pub held_same : All (IsHeld q (in_group names group) b) cut → All (IsHeld q (in_group other group) box) cut
  held_same held = subst (λ n. All (IsHeld q (in_group n group) box) cut) named (subst (λ z. All (IsHeld q (in_group names group) z) cut) boxed held)

  pub leaves_same : (spent same : List ℕ) (left next : Option ℕ) → spent ≡ same → left ≡ next → All (LeavesAt q (in_group names group) b spent left) cut → All (LeavesAt q (in_group other group) box same next) cut
  leaves_same spent same left next e f leaves =
      subst (λ n. All (LeavesAt q (in_group n group) box same next) cut) named
      (subst (λ z. All (LeavesAt q (in_group names group) z same next) cut) boxed
      (subst (λ s. All (LeavesAt q (in_group names group) b s next) cut) e (subst (λ l. All (LeavesAt q (in_group names group) b spent l) cut) f leaves)))

-- nothing is spent at first
pub pays_first : (q : Question) (test : ℕ → Bool) (b : PathBox) (spent : List ℕ) (more : ℕ) → more ≡ 0 → IsBox q b → AllStand q test b → EachPays q test b.masks b.columns.costs spent more
pays_first q test b spent more none ready stand values costs x = record {
  paid = λ c. 0;
  costs_more = λ c less own.
      let either = ready.each c less in
      let column = either.stands (stand c less own) in
      let least = column.least values costs (alone q test c b.masks values costs own x) in
      omega (arith, least);
  within = λ c less. omega arith;
  total = none ∙ sym (sum_zero q.count test);
}

-- a work whose numbers alone were changed
pub work_kept : (q : Question) (old new : Work) → IsWork q old → KeepsBox old new → HasRoom q new.spending → IsWork q new
work_kept q old new work kept room = record {
  ready = subst (IsBox q) (sym kept.boxed) work.ready;
  cuts = subst (All (IsCut q)) (sym kept.cuts) work.cuts;
  names = ap length kept.names ∙ work.names;
  room = room;
  rooms = rooms_kept (length q.of) q.count old new (record {
    members = ap (λ (f : Focus). f.members.room) kept.focus;
    cuts = ap (λ (f : Focus). f.cuts.room) kept.focus;
    cut = ap (λ (b : Bounded Pair). b.room) kept.cut;
    halves = ap (λ (b : Bounded Half). b.room) kept.halves;
    marks = ap length kept.marks;
    values = ap (λ (b : Best). length b.found.values) kept.best;
    costs = ap (λ (b : Best). length b.found.costs) kept.best;
  }) work.rooms;
}
