-- Boxes of which a place gets another set of values.
use Rattle.std.proofs.Common.{◌≡◌, ◌≢◌, ◌⊎◌, inl, inr, ℕ, zero, suc, ◌+◌, ◌^◌, ◌<◌, Bool, true, false, List, [], ◌∷◌, ◌++◌, length, get_or, set, slice_index, slice_index_or, None, refl, sym, ap, subst, ◌∙◌, arith, get_or-set_same, get_or-set_other}
use Rattle.std.specs.Prelude.{All}
use Rattle.std.proofs.lemmas.Bool.{eqb-true}
use Rattle.std.proofs.lemmas.List.{length-append, length-set, get_or_append_left, get_or_push}
use Rattle.std.proofs.lemmas.List.Elements.{All-set}
use Rattle.list_laws.proofs.Orders.{below_next}
use Rattle.cca_base.specs.Relations.{numbers_below}
use Rattle.cca_base.specs.Sets.{has}
use Rattle.group_search.specs.Questions.{Question, IsInside, IsSolution, IsWithin}
use Rattle.group_search.specs.Columns.{CostsMore, IsBox, IsColumn, KeepsOthers, NoColumn, StandsOrNot, itself}
use Rattle.group_search.specs.declared.columns.Columns.{Columns}
use Rattle.group_search.specs.declared.path_box.PathBox.{PathBox}

pub same_or_other : (x y : ℕ) → (x ≡ y) ⊎ (x ≢ y)
same_or_other x y = grind arith

-- what a component costs depends on its own places alone
abbrev pub OwnPlaces : Question → Type 0
OwnPlaces q = (c cost : ℕ) (values others : List ℕ) → ((place : ℕ) → place < length q.of → slice_index q.of place ≡ c → slice_index values place ≡ slice_index others place)
    → q.has_cost c values cost → q.has_cost c others cost

-- the places of the component may have the same
abbrev pub SameAt : Question → ℕ → List ℕ → List ℕ → Type 0
SameAt q c masks other = (place : ℕ) → place < length q.of → slice_index q.of place ≡ c → slice_index masks place ≡ slice_index other place

pub same_back : (q : Question) (c : ℕ) (masks other : List ℕ) → SameAt q c masks other → SameAt q c other masks
same_back q c masks other same place less is = sym (same place less is)

pub inside_same : (q : Question) (c : ℕ) (masks other values : List ℕ) → SameAt q c masks other → IsInside q (itself c) masks values → IsInside q (itself c) other values
inside_same q c masks other values same inside place less own =
    subst (λ m. has m (slice_index values place) ≡ true) (same place less (eqb-true (slice_index q.of place) c own)) (inside place less own)

pub solution_same : (q : Question) (c : ℕ) (masks other values costs : List ℕ) → SameAt q c masks other → IsSolution q (itself c) masks values costs → IsSolution q (itself c) other values costs
solution_same q c masks other values costs same is = record { solves = is.solves; inside = inside_same q c masks other values same is.inside }

pub none_same : (q : Question) (c : ℕ) (masks other : List ℕ) → SameAt q c masks other → NoColumn q masks c → NoColumn q other c
none_same q c masks other same none values costs is = none values costs (solution_same q c other masks values costs (same_back q c masks other same) is)

-- the column of another component
pub column_same : (q : Question) (own : OwnPlaces q) (c d : ℕ) (masks other : List ℕ) (old new : Columns) → d < q.count → d ≢ c → SameAt q d masks other → KeepsOthers q c old new
    → IsColumn q masks d old → IsColumn q other d new
column_same q own c d masks other old new less differs same kept is =
    let cost = kept.costs d less differs in
    let value : (place : ℕ) → place < length q.of → slice_index q.of place ≡ d → slice_index new.values place ≡ slice_index old.values place =
    λ place within its. kept.values place within (λ e. differs (sym its ∙ e)) in
    let back = same_back q d masks other same in
    record {
      inside = λ place within its.
          let at = eqb-true (slice_index q.of place) d its in
          subst (λ v. has (slice_index other place) v ≡ true) (sym (value place within at)) (inside_same q d masks other old.values same is.inside place within its);
      cost = subst (q.has_cost d new.values) (sym cost) (own d (slice_index old.costs d) old.values new.values (λ place within its. sym (value place within its)) is.cost);
      cheap = omega (arith, cost, is.cheap);
      least = λ values costs sol. let low = is.least values costs (solution_same q d other masks values costs back sol) in omega (arith, cost, low);
      more = λ place values costs within its sol leaves.
          let price = kept.prices place within (λ e. differs (sym its ∙ e)) in
          let dear = is.more place values costs within its (solution_same q d other masks values costs back sol) (λ e. leaves (e ∙ sym (value place within its))) in
          subst (λ p. CostsMore p (slice_index new.costs d) (slice_index costs d)) (sym price) (subst (λ n. CostsMore (slice_index_or old.prices place None) n (slice_index costs d)) (sym cost) dear);
    }

-- the box after the place has another set, and its component a new column
abbrev boxed : Columns → List ℕ → List Bool → PathBox
boxed columns masks stands = record { masks = masks; columns = columns; stands = stands }

put_box : (q : Question) (own : OwnPlaces q) (old : PathBox) (place mask c : ℕ) (columns : Columns) (stood : Bool) → IsBox q old → place < length q.of → mask < 2 ^ 64
    → slice_index q.of place ≡ c → c < q.count → KeepsOthers q c old.columns columns
    → (stood ≡ true → IsColumn q (set old.masks place mask) c columns) → (stood ≡ false → NoColumn q (set old.masks place mask) c)
    → IsBox q (boxed columns (set old.masks place mask) (set old.stands c stood))
put_box q own old place mask c columns stood is within fits at under kept column none =
    let put = set old.masks place mask in
    let same : (d : ℕ) → d ≢ c → SameAt q d old.masks put = λ d differs p less its.
    sym (get_or-set_other old.masks place p mask 0 (λ e. differs (sym its ∙ ap (slice_index q.of) e ∙ at))) in
    let box = boxed columns put (set old.stands c stood) in
    let each : (d : ℕ) → d < q.count → StandsOrNot q box d = λ d less. elim (same_or_other d c) [
      | inl e ↦
          let here : slice_index_or box.stands d false ≡ stood = ap (λ k. get_or box.stands k false) e ∙ get_or-set_same old.stands c stood false (omega (arith, under, is.stands)) in
          record {
            stands = λ s. subst (λ k. IsColumn q put k columns) (sym e) (column (sym here ∙ s));
            none = λ s. subst (NoColumn q put) (sym e) (none (sym here ∙ s));
          }
      | inr differs ↦
          let here : slice_index_or box.stands d false ≡ slice_index_or old.stands d false = get_or-set_other old.stands c d stood false differs in
          record {
            stands = λ s. column_same q own c d old.masks put old.columns columns less differs (same d differs) kept ((is.each d less).stands (sym here ∙ s));
            none = λ s. none_same q d old.masks put (same d differs) ((is.each d less).none (sym here ∙ s));
          }
    ] in
    record {
      masks = length-set old.masks place mask ∙ is.masks;
      words = All-set (λ w. w < 2 ^ 64) old.masks place mask fits is.words;
      shape = kept.shape;
      stands = length-set old.stands c stood ∙ is.stands;
      each = each;
    }

-- the same, by what a call was given and what it wrote
pub put_read : (q : Question) (own : OwnPlaces q) (few : All (λ c. c < q.count) q.of) (old : PathBox) (place mask : ℕ) (components seen wrote : List ℕ) (columns : Columns) (stands : List Bool) (stood : Bool) → IsBox q old → place < length q.of → mask < 2 ^ 64
    → components ≡ q.of → wrote ≡ set old.masks place mask → seen ≡ wrote → KeepsOthers q (slice_index components place) old.columns columns
    → (stood ≡ true → IsColumn q seen (slice_index components place) columns) → (stood ≡ false → NoColumn q seen (slice_index components place))
    → stands ≡ set old.stands (slice_index components place) stood → IsBox q (record { masks = wrote; columns = columns; stands = stands })
put_read q own few old place mask components seen wrote columns stands stood is within fits all put shown kept column none set_there =
    let c = slice_index components place in
    let at : slice_index q.of place ≡ c = ap (λ l. slice_index l place) (sym all) in
    let ready = put_box q own old place mask c columns stood is within fits at (subst (λ k. k < q.count) at (few place 0 within)) kept
    (λ s. subst (λ m. IsColumn q m c columns) (shown ∙ put) (column s)) (λ s. subst (λ m. NoColumn q m c) (shown ∙ put) (none s)) in
    subst (λ m. IsBox q (boxed columns m stands)) (sym put) (subst (λ s. IsBox q (boxed columns (set old.masks place mask) s)) (sym set_there) ready)

-- ---- a place that may have less

module _ (q : Question) (old : PathBox) (place mask : ℕ) (is : IsBox q old) (within : place < length q.of) (less : IsWithin mask (slice_index old.masks place)) where
  abbrev narrowed : List ℕ
  narrowed = set old.masks place mask

  -- what the place may have it might have before
  wider : (p a : ℕ) → has (slice_index narrowed p) a ≡ true → has (slice_index old.masks p) a ≡ true
  wider p a h = elim (same_or_other p place) [
    | inl e ↦
        let here : slice_index narrowed p ≡ mask = ap (λ k. get_or narrowed k 0) e ∙ get_or-set_same old.masks place mask 0 (omega (arith, within, is.masks)) in
        ap (λ k. has (slice_index old.masks k) a) e ∙ less a (sym (ap (λ m. has m a) here) ∙ h)
    | inr differs ↦ sym (ap (λ m. has m a) (get_or-set_other old.masks place p mask 0 differs)) ∙ h
  ]

  wider_solution : (d : ℕ) (values costs : List ℕ) → IsSolution q (itself d) narrowed values costs → IsSolution q (itself d) old.masks values costs
  wider_solution d values costs s = record { solves = s.solves; inside = λ p under own. wider p (slice_index values p) (s.inside p under own) }

  -- its column stays where it keeps its value
  pub narrow_box : mask < 2 ^ 64 → has mask (slice_index old.columns.values place) ≡ true → IsBox q (boxed old.columns narrowed old.stands)
  narrow_box fits keeps = record {
    masks = length-set old.masks place mask ∙ is.masks;
    words = All-set (λ w. w < 2 ^ 64) old.masks place mask fits is.words;
    shape = is.shape;
    stands = is.stands;
    each = λ d under. record {
      stands = λ s.
          let column = (is.each d under).stands s in
          record {
            inside = λ p here own. elim (same_or_other p place) [
              | inl e ↦
                  ap (λ k. has (get_or narrowed k 0) (slice_index old.columns.values k)) e
                  ∙ (ap (λ m. has m (slice_index old.columns.values place)) (get_or-set_same old.masks place mask 0 (omega (arith, within, is.masks))) ∙ keeps)
              | inr differs ↦ ap (λ m. has m (slice_index old.columns.values p)) (get_or-set_other old.masks place p mask 0 differs) ∙ column.inside p here own
            ];
            cost = column.cost;
            cheap = column.cheap;
            least = λ values costs h. column.least values costs (wider_solution d values costs h);
            more = λ p values costs here own h other. column.more p values costs here own (wider_solution d values costs h) other;
          };
      none = λ s values costs h. (is.each d under).none s values costs (wider_solution d values costs h);
    };
  }

-- as many components as there are have their columns, or none
abbrev pub EachBelow : Question → List ℕ → Columns → List Bool → ℕ → Type 0
EachBelow q masks columns stands n = (c : ℕ) → c < n → StandsOrNot q (boxed columns masks stands) c

-- the next one has, too
pub each_more : (q : Question) (own : OwnPlaces q) (masks : List ℕ) (old new : Columns) (stands : List Bool) (n : ℕ) (stood : Bool) → n < q.count → length stands ≡ q.count → KeepsOthers q n old new
    → (stood ≡ true → IsColumn q masks n new) → (stood ≡ false → NoColumn q masks n) → EachBelow q masks old stands n → EachBelow q masks new (set stands n stood) (n + 1)
each_more q own masks old new stands n stood less long kept column none each c under = elim (below_next c n under) [
  | inl before ↦
      let here : slice_index_or (set stands n stood) c false ≡ slice_index_or stands c false = get_or-set_other stands n c stood false (λ e. omega (arith, e, before)) in
      let is = each c before in
      record {
        stands = λ s. column_same q own n c masks masks old new (omega (arith, before, less)) (λ e. omega (arith, e, before)) (λ place within its. refl) kept (is.stands (sym here ∙ s));
        none = λ s. is.none (sym here ∙ s);
      }
  | inr e ↦
      let here : slice_index_or (set stands n stood) c false ≡ stood = ap (λ k. get_or (set stands n stood) k false) e ∙ get_or-set_same stands n stood false (omega (arith, less, long)) in
      record {
        stands = λ s. subst (λ k. IsColumn q masks k new) (sym e) (column (sym here ∙ s));
        none = λ s. subst (NoColumn q masks) (sym e) (none (sym here ∙ s));
      }
]

-- ---- numbers of components

pub numbers_long : (n : ℕ) → length (numbers_below n) ≡ n
numbers_long zero = refl
numbers_long (suc n) = let rest = numbers_long n in length-append (numbers_below n) (n ∷ []) ∙ omega (arith, rest)
