-- Boxes of which a place has fewer values, and the solutions inside.
use Rattle.std.proofs.Common.{◌≡◌, inl, inr, ℕ, ◌+◌, ◌^◌, ◌<◌, ◌≤◌, ◌==◌, Bool, true, not, ◌&&◌, List, length, get_or, set, take, ◌++◌, [], ◌∷◌, None, refl, sym, ap, subst, ◌∙◌, arith}
use Rattle.std.specs.Prelude.{All, nat_lt}
use Rattle.std.proofs.lemmas.Bool.{and_from, and_parts, both_ways, cases_eq, eq-eqb, lt-ltb, ne_eqb}
use Rattle.std.proofs.lemmas.List.{get_or_default, get_or-set_other, get_or-set_same, get_or-take, set-get_or, set-set, take-take, take_more}
use Rattle.std.proofs.lemmas.Nat.Bits.{bit_at-pow_other, bit_at-pow_same}
use Rattle.cca_base.specs.Sets.{has}
use Rattle.group_search.specs.Answers.{IsFirstLeast, IsLowerBox, NoneLower}
use Rattle.group_search.specs.Floors.{AreJoined, HasFloors, IsSettled, every}
use Rattle.group_search.specs.Lowered.{IsLowered}
use Rattle.group_search.specs.Questions.{Question, CostsAtLeast, IsInside, IsSolution, IsWithin, cost_in, in_group}
use Rattle.group_search.specs.declared.columns.Chosen.{Chosen}
use Rattle.group_search.proofs.ValueLaws.{low_member}
use Rattle.group_search.proofs.FloorLaws.{floors_joined}
use Rattle.group_search.proofs.LowerValues.{lowering_fixes, lowering_improves}

-- the values that the word has, of those that are lower
abbrev pub HasLower : ℕ → ℕ → ℕ → Type 0
HasLower word before value = (a : ℕ) → has word a ≡ (has before a && nat_lt a value)

module _ (q : Question) (masks : List ℕ) (place word : ℕ) (long : length masks ≡ length q.of) (at : place < length q.of) where
  abbrev with_word : List ℕ
  with_word = set masks place word

  word_there : get_or with_word place 0 ≡ word
  word_there = get_or-set_same masks place word 0 (omega (arith, long, at))

  has_here : (values : List ℕ) → IsInside q every with_word values → has word (get_or values place 0) ≡ true
  has_here values inside = subst (λ w. has w (get_or values place 0) ≡ true) word_there (inside place at refl)

  -- what is inside with the word is inside with the place's own word, which has no fewer
  inside_old : (test : ℕ → Bool) (values : List ℕ) → IsWithin word (get_or masks place 0) → IsInside q test with_word values → IsInside q test masks values
  inside_old test values fewer inside p less own = elim (cases_eq p place) [
    | inl same ↦
        let its : has (get_or with_word p 0) (get_or values p 0) ≡ true = inside p less own in
        let here : has word (get_or values p 0) ≡ true = subst (λ w. has w (get_or values p 0) ≡ true) (ap (λ i. get_or with_word i 0) same ∙ word_there) its in
        subst (λ i. has (get_or masks i 0) (get_or values p 0) ≡ true) (sym same) (fewer (get_or values p 0) here)
    | inr other ↦ subst (λ w. has w (get_or values p 0) ≡ true) (get_or-set_other masks place p word 0 other) (inside p less own)
  ]

  -- what is inside is inside with the word, which has its value
  inside_put : (test : ℕ → Bool) (values : List ℕ) → IsInside q test masks values → (test (get_or q.of place 0) ≡ true → has word (get_or values place 0) ≡ true) → IsInside q test with_word values
  inside_put test values inside is p less own = elim (cases_eq p place) [
    | inl same ↦
        let here : has word (get_or values place 0) ≡ true = is (subst (λ i. test (get_or q.of i 0) ≡ true) same own) in
        subst (λ i. has (get_or with_word i 0) (get_or values i 0) ≡ true) (sym same) (subst (λ w. has w (get_or values place 0) ≡ true) (sym word_there) here)
    | inr other ↦ subst (λ w. has w (get_or values p 0) ≡ true) (sym (get_or-set_other masks place p word 0 other)) (inside p less own)
  ]

  floors_fewer : (names : List ℕ) (x : Chosen) → IsWithin word (get_or masks place 0) → HasFloors q masks names x → HasFloors q with_word names x
  floors_fewer names x fewer f = record {
    paths = f.paths;
    floors = λ values costs s test. f.floors values costs (record { solves = s.solves; inside = inside_old every values fewer s.inside }) test;
  }

  -- paths that are settled stay so where the word has their value
  settled_fewer : (names : List ℕ) (limit : ℕ) (x : Chosen) → IsWithin word (get_or masks place 0) → has word (get_or x.values place 0) ≡ true → IsSettled q masks names limit x
      → IsSettled q with_word names limit x
  settled_fewer names limit x fewer is s = record {
    floored = record {
      has = floors_fewer names x fewer s.floored.has;
      inside = inside_put every x.values s.floored.inside (λ own. is);
      less = s.floored.less;
    };
    solves = s.solves;
  }

  -- ---- the lower values alone

  lower_within : (value : ℕ) → HasLower word (get_or masks place 0) value → IsWithin word (get_or masks place 0)
  lower_within value e a is = (and_parts (has (get_or masks place 0) a) (nat_lt a value) (sym (e a) ∙ is)).0

  lower_has : (value : ℕ) → HasLower word (get_or masks place 0) value → (values : List ℕ) → IsInside q every masks values → get_or values place 0 < value → has word (get_or values place 0) ≡ true
  lower_has value e values inside less =
      let v = get_or values place 0 in
      e v ∙ and_from (has (get_or masks place 0) v) (nat_lt v value) (inside place at refl) (lt-ltb v value less)

  lower_none : (limit value : ℕ) → HasLower word (get_or masks place 0) value → CostsAtLeast q every with_word limit → NoneLower q masks limit place value
  lower_none limit value e none x s cheap less =
      let there = inside_put every x.values s.inside (λ own. lower_has value e x.values s.inside less) in
      let least = none x.values x.costs (record { solves = s.solves; inside = there }) in
      omega (arith, least, cheap)

-- what a call reads of the place's value
module _ (q : Question) (masks names : List ℕ) (x : Chosen) (place limit value : ℕ) (at : place < length q.of) (s : IsSettled q masks names limit x) (held : value ≡ get_or x.values place value) where
  held_read : value ≡ get_or x.values place 0
  held_read = held ∙ get_or_default x.values place value 0 (omega (arith, s.floored.has.paths.places, at))

  pub held_small : length masks ≡ length q.of → All (λ w. w < 2 ^ 64) masks → value < 64
  held_small long words =
      let small = low_member (get_or masks place 0) (get_or x.values place 0) (words place 0 (omega (arith, long, at))) (s.floored.inside place at refl) in
      omega (arith, small, held_read)

-- what a call reads of the place, and the lower values of that
module _ (q : Question) (masks names : List ℕ) (x : Chosen) (place limit before value lower : ℕ) (long : length masks ≡ length q.of) (at : place < length q.of) (s : IsSettled q masks names limit x)
    (word : before ≡ get_or masks place before) (held : value ≡ get_or x.values place value) where
  word_read : before ≡ get_or masks place 0
  word_read = word ∙ get_or_default masks place before 0 (omega (arith, long, at))

  value_read : value ≡ get_or x.values place 0
  value_read = held_read q masks names x place limit value at s held

  module _ (is : HasLower lower before value) where
    lower_read : HasLower lower (get_or masks place 0) (get_or x.values place 0)
    lower_read = subst (λ w. HasLower lower w (get_or x.values place 0)) word_read (subst (λ v. HasLower lower before v) value_read is)

    module _ (put : List ℕ) (e : put ≡ set masks place lower) where
      pub once_floors : HasFloors q put names x
      once_floors = subst (λ m. HasFloors q m names x) (sym e) (floors_fewer q masks place lower long at names x (lower_within q masks place lower long at (get_or x.values place 0) lower_read) s.floored.has)

      pub once_none : CostsAtLeast q every put limit → NoneLower q masks limit place (get_or x.values place 0)
      once_none none = lower_none q masks place lower long at limit (get_or x.values place 0) lower_read (subst (λ m. CostsAtLeast q every m limit) e none)

      pub once_back : set put place before ≡ masks
      once_back = ap (λ m. set m place before) e ∙ set-set masks place lower before ∙ ap (set masks place) word_read ∙ set-get_or masks place 0

-- ---- one place, lowered again and again

-- the place has some of its values alone, each of them that is no more than this one among them
pub record IsLowering (place value : ℕ) (old new : List ℕ) : Type 0 where
  pub word : ℕ
  pub put : new ≡ set old place word
  pub fewer : IsWithin word (get_or old place 0)
  pub low : (a : ℕ) → has (get_or old place 0) a ≡ true → a ≤ value → has word a ≡ true

pub lowering_begins : (place value : ℕ) (old : List ℕ) → IsLowering place value old old
lowering_begins place value old = record {
  word = get_or old place 0;
  put = sym (set-get_or old place 0);
  fewer = λ a is. is;
  low = λ a is le. is;
}

module _ (q : Question) (place : ℕ) (old new : List ℕ) (long : length old ≡ length q.of) (at : place < length q.of) where
  word_at : (word : ℕ) → new ≡ set old place word → get_or new place 0 ≡ word
  word_at word put = ap (λ l. get_or l place 0) put ∙ get_or-set_same old place word 0 (omega (arith, long, at))

  pub lowering_goes_on : (value next : ℕ) (newer : List ℕ) → IsLowering place value old new → IsLowerBox place value new newer → next < value → IsLowering place next old newer
  lowering_goes_on value next newer l b less =
      let its = word_at l.word l.put in
      record {
        word = b.lower;
        put = b.put ∙ ap (λ m. set m place b.lower) l.put ∙ set-set old place l.word b.lower;
        fewer = λ a is.
            let both = and_parts (has (get_or new place 0) a) (nat_lt a value) (sym (b.has_lower a) ∙ is) in
            l.fewer a (subst (λ w. has w a ≡ true) its both.0);
        low = λ a is le.
            b.has_lower a ∙ and_from (has (get_or new place 0) a) (nat_lt a value) (subst (λ w. has w a ≡ true) (sym its) (l.low a is (omega (arith, le, less)))) (lt-ltb a value (omega (arith, le, less)));
      }

  -- no lower value where it ends is no lower value where it began
  pub lowering_none : (limit value : ℕ) → IsLowering place value old new → NoneLower q new limit place value → NoneLower q old limit place value
  lowering_none limit value l none x s cheap less =
      let is = l.low (get_or x.values place 0) (s.inside place at refl) (omega (arith, less)) in
      let there = inside_put q old place l.word long at every x.values s.inside (λ own. is) in
      none x (record { solves = s.solves; inside = subst (λ m. IsInside q every m x.values) (sym l.put) there }) cheap less

  pub lowering_inside : (value : ℕ) → IsLowering place value old new → (values : List ℕ) → IsInside q every new values → IsInside q every old values
  lowering_inside value l values inside = inside_old q old place l.word long at every values l.fewer (subst (λ m. IsInside q every m values) l.put inside)

  lowering_set : (value word : ℕ) → IsLowering place value old new → set new place word ≡ set old place word
  lowering_set value word l = ap (λ m. set m place word) l.put ∙ set-set old place l.word word

-- paths of groups that are joined
settled_joined : (q : Question) (masks old new : List ℕ) (limit : ℕ) (x : Chosen) → length old ≡ q.count → AreJoined old new → IsSettled q masks old limit x → IsSettled q masks new limit x
settled_joined q masks old new limit x long h s =
    let f = s.floored in
    record {
      floored = record {
        has = record { paths = f.has.paths; floors = floors_joined q masks old new x.costs long h f.has.floors };
        inside = f.inside;
        less = f.less;
      };
      solves = s.solves;
    }

-- the place has its value alone
module _ (q : Question) (masks seen put names joined : List ℕ) (x : Chosen) (place limit value word : ℕ) (long : length masks ≡ length q.of) (at : place < length q.of) (s : IsSettled q masks names limit x)
    (held : value ≡ get_or x.values place value) (same : seen ≡ masks) (e : put ≡ set seen place word) where
  put_there : put ≡ set masks place word
  put_there = e ∙ ap (λ m. set m place word) same

  pub alone_settled : length names ≡ q.count → AreJoined names joined → has word value ≡ true → ((a : ℕ) → has word a ≡ true → a ≡ value) → IsSettled q put joined limit x
  alone_settled named j has_it alone =
      let read = held_read q masks names x place limit value at s held in
      let fewer : IsWithin word (get_or masks place 0) = λ a is. subst (λ v. has (get_or masks place 0) v ≡ true) (sym (alone a is ∙ read)) (s.floored.inside place at refl) in
      subst (λ m. IsSettled q m joined limit x) (sym put_there)
      (settled_fewer q masks place word long at joined limit x fewer (subst (λ v. has word v ≡ true) read has_it) (settled_joined q masks names joined limit x named j s))

  pub alone_put : (old : List ℕ) → length old ≡ length q.of → IsLowering place (get_or x.values place 0) old masks → word ≡ 2 ^ value → put ≡ set old place (2 ^ get_or x.values place 0)
  alone_put old old_long l is =
      let read = held_read q masks names x place limit value at s held in
      put_there ∙ lowering_set q place old masks old_long at (get_or x.values place 0) word l ∙ ap (set old place) (is ∙ ap (λ v. 2 ^ v) read)

-- ---- places that are fixed one after the other

-- the values that agree with these below the place, and are inside
pub record IsFixed (q : Question) (base : List ℕ) (count : ℕ) (s masks : List ℕ) : Type 0 where
  pub gives : (t : List ℕ) → length t ≡ length q.of → IsInside q every masks t → IsInside q every base t × (take count t ≡ take count s)
  pub takes : (t : List ℕ) → IsInside q every base t → take count t ≡ take count s → IsInside q every masks t

-- solutions of the first box below the limit
abbrev pub Cheaper : Question → List ℕ → ℕ → List ℕ → Type 0
Cheaper q base limit t = (costs : List ℕ) × IsSolution q every base t costs × (cost_in q.count every costs < limit)

own_value : (value : ℕ) → has (2 ^ value) value ≡ true
own_value value = ap (λ b. b == 1) (bit_at-pow_same value)

alone_value : (value a : ℕ) → has (2 ^ value) a ≡ true → a ≡ value
alone_value value a is = elim (cases_eq a value) [
  | inl same ↦ same
  | inr other ↦ absurd (both_ways (has (2 ^ value) a) (ap (λ b. b == 1) (bit_at-pow_other value a other)) is)
]

taken_more : (c : ℕ) (u t : List ℕ) → c < length u → c < length t → take c u ≡ take c t → get_or u c 0 ≡ get_or t c 0 → take (c + 1) u ≡ take (c + 1) t
taken_more c u t hu ht below here =
    take_more u c 0 hu ∙ ap (λ (l : List ℕ). l ++ get_or u c 0 ∷ []) below ∙ ap (λ n. take c t ++ n ∷ []) here ∙ sym (take_more t c 0 ht)

module _ (q : Question) (base : List ℕ) (c : ℕ) (s masks t : List ℕ) (long : length masks ≡ length q.of) (at : c < length q.of) (f : IsFixed q base c s masks)
    (t_long : length t ≡ length q.of) (t_inside : IsInside q every masks t) where
  abbrev value : ℕ
  value = get_or t c 0

  value_within : IsWithin (2 ^ value) (get_or masks c 0)
  value_within a is = subst (λ v. has (get_or masks c 0) v ≡ true) (sym (alone_value value a is)) (t_inside c at refl)

  pub fixed_more : (put : List ℕ) → put ≡ set masks c (2 ^ value) → IsFixed q base (c + 1) t put
  fixed_more put e =
      let own = (f.gives t t_long t_inside).1 in
      subst (λ m. IsFixed q base (c + 1) t m) (sym e) (record {
        gives = λ u u_long inside.
            let before = inside_old q masks c (2 ^ value) long at every u value_within inside in
            let first = f.gives u u_long before in
            let same = alone_value value (get_or u c 0) (has_here q masks c (2 ^ value) long at u inside) in
            (first.0, taken_more c u t (omega (arith, u_long, at)) (omega (arith, t_long, at)) (first.1 ∙ sym own) same);
        takes = λ u inside same.
            let below : take c u ≡ take c t = sym (take-take c (c + 1) u (omega arith)) ∙ ap (take c) same ∙ take-take c (c + 1) t (omega arith) in
            let here : get_or u c 0 ≡ value = sym (get_or-take (c + 1) u c 0 (omega arith)) ∙ ap (λ (l : List ℕ). get_or l c 0) same ∙ get_or-take (c + 1) t c 0 (omega arith) in
            inside_put q masks c (2 ^ value) long at every u (f.takes u inside (below ∙ own)) (λ its. subst (λ v. has (2 ^ value) v ≡ true) (sym here) (own_value value));
      })

  pub lowered_more : (limit : ℕ) (costs : List ℕ) → ((u : List ℕ) → Cheaper q base limit u → length u ≡ length q.of) → q.solves t costs → cost_in q.count every costs < limit
      → NoneLower q masks limit c value → IsLowered (Cheaper q base limit) c s → IsLowered (Cheaper q base limit) (c + 1) t
  lowered_more limit costs longs solves cheap none l =
      let gives = f.gives t t_long t_inside in
      let want : Cheaper q base limit t = (costs, record { solves = solves; inside = gives.0 }, cheap) in
      let improved = lowering_improves (Cheaper q base limit) c s t l want gives.1 in
      lowering_fixes (Cheaper q base limit) (length q.of) c t longs at improved
      (λ u other same less.
      let there = f.takes u other.1.inside (same ∙ gives.1) in
      none (record { values = u; costs = other.0 }) (record { solves = other.1.solves; inside = there }) other.2 less)

-- at the end it is the first of those that cost the least
pub first_least : (q : Question) (base masks names : List ℕ) (count least : ℕ) (x : Chosen) → ((values costs : List ℕ) → IsSolution q every base values costs → least ≤ cost_in q.count every costs)
    → IsFixed q base count x.values masks → IsSettled q masks names (least + 1) x → IsLowered (Cheaper q base (least + 1)) count x.values → IsFirstLeast q base count x
first_least q base masks names count least x floor f s l =
    let inside = (f.gives x.values s.floored.has.paths.places s.floored.inside).0 in
    let low = s.floored.less in
    record {
      solution = record { solves = s.solves; inside = inside };
      least = λ y other. let under = floor y.values y.costs other in omega (arith, under, low);
      first = λ y other. l.first y.values (y.costs, other.solution, omega (arith, other.costs_this, low));
    }

-- a component whose name is not that of the group is another one
pub other_component : (names : List ℕ) (c d group : ℕ) → group ≡ get_or names d 0 → not (get_or names c 0 == group) ≡ true → not (c == d) ≡ true
other_component names c d group named other = elim (cases_eq c d) [
  | inl same ↦
      let is : get_or names c 0 ≡ group = ap (λ k. get_or names k 0) same ∙ sym named in
      absurd (both_ways (not (get_or names c 0 == group)) (ap not (eq-eqb (get_or names c 0) group is)) other)
  | inr differs ↦ ap not (ne_eqb c d differs)
]

-- the group that is read is that of the place's component
pub group_read : (q : Question) (owned : All (λ c. c < q.count) q.of) (names components : List ℕ) (place group : ℕ) → length names ≡ q.count → components ≡ q.of → place < length q.of
    → group ≡ get_or names (get_or components place 0) group → group ≡ get_or names (get_or q.of place 0) 0
group_read q owned names components place group long all at read =
    let under : get_or q.of place 0 < q.count = owned place 0 at in
    read ∙ ap (λ l. get_or names (get_or l place 0) group) all ∙ get_or_default names (get_or q.of place 0) group 0 (omega (arith, under, long))

-- what all cost, by the names and costs that a call reads
pub cost_read : (q : Question) (names costs seen read : List ℕ) (cost : ℕ) → length names ≡ q.count → seen ≡ names → read ≡ costs → cost ≡ cost_in (length seen) (in_group seen None) read
    → cost ≡ cost_in q.count every costs
cost_read q names costs seen read cost long e f is =
    is ∙ ap (λ l. cost_in (length l) (in_group l None) read) e ∙ ap (λ l. cost_in (length names) (in_group names None) l) f ∙ ap (λ n. cost_in n every costs) long
