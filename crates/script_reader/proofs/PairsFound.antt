-- What is found of a line's pairs, with one pair more.
use Rattle.std.proofs.Common.{◌≡◌, ℕ, ◌<◌, ◌≤◌, Bool, true, false, ◌||◌, ◌==◌, eqb, List, [], ◌∷◌, ◌++◌, length, length-append, map, Option, Some, None, All, Contains, refl, sym, ap, subst, ◌∙◌, arith}
use Rattle.std.specs.List.{list_any, AllByRecursion, IsDistinct}
use Rattle.std.proofs.lemmas.Bool.{or_parts, eqb-true, eq-eqb}
use Rattle.std.proofs.Math.Bool.{or-false}
use Rattle.std.proofs.lemmas.List.{length-map}
use Rattle.std.proofs.lemmas.List.Elements.{All-contains, All-map}
use Rattle.std.proofs.lemmas.List.Folds.{list_any-append}
use Rattle.list_laws.proofs.Members.{all_from}
use Rattle.cca_base.specs.declared.cube.Pair.{Pair}
use Rattle.cca_base.specs.PlantModel.{PlantModel}
use Rattle.cca_base.specs.Sets.{has}
use Rattle.cca_base.proofs.NextModes.{few_below}
use Rattle.cca_base.proofs.Within.{mode_within, value_within}
use Rattle.text_base.specs.Chain.{◌>>=◌}
use Rattle.text_base.specs.Pairs.{NamedPair}
use Rattle.script_reader.specs.declared.found.Found.{Found}
use Rattle.script_reader.specs.declared.named.Naming.{Naming}
use Rattle.script_reader.specs.declared.named.Naming.TheVariants.{Modes, Values}
use Rattle.script_reader.specs.EventCodes.{has_item, has_item_twice}
use Rattle.script_reader.specs.Named.{stands_for, each_pair}
use Rattle.script_reader.specs.Asked.{count, is_unfit, AreFound, IsFound, IsFoundOf}
use Rattle.script_reader.proofs.EachPair.{comes_from}
use Rattle.script_reader.proofs.EventsMayCome.{mode_is, value_is}

-- ---- what names stand for, with one name more

one_more : (a : Pair) (o : Option (List Pair)) (last : Option Pair)
    → ((o >>= λ qs. last >>= λ q. Some (qs ++ q ∷ [])) >>= λ qs. Some (a ∷ qs)) ≡ ((o >>= λ qs. Some (a ∷ qs)) >>= λ qs. last >>= λ q. Some (qs ++ q ∷ []))
one_more a None last = refl
one_more a (Some qs) None = refl
one_more a (Some qs) (Some q) = refl

by_first : (first : Option Pair) (o p : Option (List Pair)) (last : Option Pair) → p ≡ (o >>= λ qs. last >>= λ q. Some (qs ++ q ∷ []))
    → (first >>= λ a. p >>= λ qs. Some (a ∷ qs)) ≡ ((first >>= λ a. o >>= λ qs. Some (a ∷ qs)) >>= λ qs. last >>= λ q. Some (qs ++ q ∷ []))
by_first None o p last e = refl
by_first (Some a) o p last e = ap (λ (x : Option (List Pair)). x >>= λ qs. Some (a ∷ qs)) e ∙ one_more a o last

each_with_last : (f : NamedPair → Option Pair) (named : List NamedPair) (n : NamedPair) → each_pair f (named ++ n ∷ []) ≡ (each_pair f named >>= λ qs. f n >>= λ q. Some (qs ++ q ∷ []))
each_with_last f [] n = refl
each_with_last f (p ∷ ps) n = by_first (f p) (each_pair f ps) (each_pair f (ps ++ n ∷ [])) (f n) (each_with_last f ps n)

-- ---- tests of pairs, with one pair more

any_with_last : (test : Pair → Bool) (qs : List Pair) (q : Pair) → list_any test (qs ++ q ∷ []) ≡ (list_any test qs || test q)
any_with_last test qs q = list_any-append test qs (q ∷ []) ∙ ap (λ (b : Bool). list_any test qs || b) (or-false (test q))

exchange : (a b t h : Bool) → ((a || b) || (t || h)) ≡ ((a || t) || (b || h))
exchange true b t h = refl
exchange false true true h = refl
exchange false true false h = refl
exchange false false t h = refl

flips_by : (a b : ℕ) (x y : Bool) → (a == b) ≡ x → (b == a) ≡ y → x ≡ y
flips_by a b true true p q = refl
flips_by a b false false p q = refl
flips_by a b true false p q = let e : true ≡ false = sym (eq-eqb b a (sym (eqb-true a b p))) ∙ q in absurd cc
flips_by a b false true p q = let e : true ≡ false = sym (eq-eqb a b (sym (eqb-true b a q))) ∙ p in absurd cc

eqb_flips : (a b : ℕ) → (a == b) ≡ (b == a)
eqb_flips a b = flips_by a b (a == b) (b == a) refl refl

twice_with_last : (qs : List Pair) (q : Pair) → has_item_twice (qs ++ q ∷ []) ≡ (has_item_twice qs || has_item qs q.item)
twice_with_last [] q = refl
twice_with_last (p ∷ ps) q =
    ap (λ (b : Bool). b || has_item_twice (ps ++ q ∷ [])) (any_with_last (λ (x : Pair). x.item == p.item) ps q)
    ∙ ap (λ (b : Bool). (has_item ps p.item || (q.item == p.item)) || b) (twice_with_last ps q)
    ∙ exchange (has_item ps p.item) (q.item == p.item) (has_item_twice ps) (has_item ps q.item)
    ∙ ap (λ (b : Bool). (has_item ps p.item || has_item_twice ps) || (b || has_item ps q.item)) (eqb_flips q.item p.item)

-- the list tells whether an item stands among the pairs, where none stands twice
twice_by_list : (twice : Bool) (qs items : List Pair) (item : ℕ) → twice ≡ has_item_twice qs → (twice ≡ false → items ≡ qs) → (twice || has_item items item) ≡ (has_item_twice qs || has_item qs item)
twice_by_list true qs items item e kept = ap (λ (b : Bool). b || has_item qs item) e
twice_by_list false qs items item e kept = ap (λ (l : List Pair). has_item l item) (kept refl) ∙ ap (λ (b : Bool). b || has_item qs item) e

module _ (naming : Naming) (m : PlantModel) (pending : List Pair) (mirrored : ℕ) where
  -- what is found with one pair more
  pub record IsFoundWith (q : Pair) (f : Found) (items : List Pair) (g : Found) : Type 0 where
    pub unknown : g.unknown ≡ f.unknown
    pub unfit : g.unfit ≡ (f.unfit || is_unfit naming m q)
    pub twice : g.twice ≡ (f.twice || has_item items q.item)
    pub is_pending : g.pending ≡ (f.pending || has_item pending q.item)
    pub is_mirrored : g.mirrored ≡ (f.mirrored || has mirrored q.item)

  or_same : (test : Pair → Bool) (qs : List Pair) (q : Pair) (b c : Bool) → c ≡ (b || test q) → b ≡ list_any test qs → c ≡ list_any test (qs ++ q ∷ [])
  or_same test qs q b c e h = e ∙ ap (λ (x : Bool). x || test q) h ∙ sym (any_with_last test qs q)

  are_found : (qs : List Pair) (q : Pair) (f g : Found) (items new : List Pair) → AreFound naming m pending mirrored qs f items → IsFoundWith q f items g
      → (g.twice ≡ false → new ≡ items ++ q ∷ []) → AreFound naming m pending mirrored (qs ++ q ∷ []) g new
  are_found qs q f g items new h w put = record {
    unfit = or_same (is_unfit naming m) qs q f.unfit g.unfit w.unfit h.unfit;
    twice = w.twice ∙ twice_by_list f.twice qs items q.item h.twice h.kept ∙ sym (twice_with_last qs q);
    is_pending = or_same (λ (p : Pair). has_item pending p.item) qs q f.pending g.pending w.is_pending h.is_pending;
    is_mirrored = or_same (λ (p : Pair). has mirrored p.item) qs q f.mirrored g.mirrored w.is_mirrored h.is_mirrored;
    kept = λ once. put once ∙ ap (λ (l : List Pair). l ++ q ∷ []) (h.kept (or_parts f.twice (has_item items q.item) (sym w.twice ∙ once)).0);
  }

  found_more : (o : Option (List Pair)) (q : Pair) (f g : Found) (items new : List Pair) → IsFound naming m pending mirrored o f items → f.unknown ≡ false → IsFoundWith q f items g
      → (g.twice ≡ false → new ≡ items ++ q ∷ []) → IsFound naming m pending mirrored (o >>= λ qs. Some (qs ++ q ∷ [])) g new
  found_more None q f g items new h known w put = let e : true ≡ false = sym h ∙ known in absurd cc
  found_more (Some qs) q f g items new h known w put = (w.unknown ∙ known, are_found qs q f g items new h.1 w put)

  -- one pair more
  pub pair_noted : (before : List NamedPair) (n : NamedPair) (q : Pair) (f g : Found) (items new : List Pair) → Some q ≡ stands_for naming m n → f.unknown ≡ false → IsFoundWith q f items g
      → (g.twice ≡ false → new ≡ items ++ q ∷ []) → IsFoundOf naming m pending mirrored before f items → IsFoundOf naming m pending mirrored (before ++ n ∷ []) g new
  pair_noted before n q f g items new e known w put h =
      let o = each_pair (stands_for naming m) before in
      let same : each_pair (stands_for naming m) (before ++ n ∷ []) ≡ (o >>= λ qs. Some (qs ++ q ∷ [])) =
      each_with_last (stands_for naming m) before n ∙ ap (λ (x : Option Pair). o >>= λ qs. x >>= λ y. Some (qs ++ y ∷ [])) (sym e) in
      subst (λ (x : Option (List Pair)). IsFound naming m pending mirrored x g new) (sym same) (found_more o q f g items new h known w put)

  abbrev no_pairs : Option (List Pair)
  no_pairs = None

  none_then : (o : Option (List Pair)) → (o >>= λ qs. no_pairs) ≡ no_pairs
  none_then None = refl
  none_then (Some qs) = refl

  -- a name more that stands for nothing
  pub none_noted : (before : List NamedPair) (n : NamedPair) (g : Found) (new : List Pair) → None ≡ stands_for naming m n → g.unknown ≡ true → IsFoundOf naming m pending mirrored (before ++ n ∷ []) g new
  none_noted before n g new e unknown =
      let o = each_pair (stands_for naming m) before in
      let same : each_pair (stands_for naming m) (before ++ n ∷ []) ≡ None =
      each_with_last (stands_for naming m) before n ∙ ap (λ (x : Option Pair). o >>= λ qs. x >>= λ y. Some (qs ++ y ∷ [])) (sym e) ∙ none_then o in
      subst (λ (x : Option (List Pair)). IsFound naming m pending mirrored x g new) (sym same) unknown

  unknown_still : (o : Option (List Pair)) (last : Option Pair) (f : Found) (items new : List Pair) → IsFound naming m pending mirrored o f items → f.unknown ≡ true
      → IsFound naming m pending mirrored (o >>= λ qs. last >>= λ q. Some (qs ++ q ∷ [])) f new
  unknown_still None last f items new h unknown = unknown
  unknown_still (Some qs) last f items new h unknown = let e : true ≡ false = sym unknown ∙ h.0 in absurd cc

  -- behind a name that stands for nothing
  pub nothing_noted : (before : List NamedPair) (n : NamedPair) (f : Found) (items new : List Pair) → f.unknown ≡ true → IsFoundOf naming m pending mirrored before f items → IsFoundOf naming m pending mirrored (before ++ n ∷ []) f new
  nothing_noted before n f items new unknown h =
      subst (λ (x : Option (List Pair)). IsFound naming m pending mirrored x f new) (sym (each_with_last (stands_for naming m) before n))
      (unknown_still (each_pair (stands_for naming m) before) (stands_for naming m n) f items new h unknown)

-- ---- room

pub below : (naming : Naming) (m : PlantModel) (n : NamedPair) (q : Pair) → stands_for naming m n ≡ Some q → q.item < count naming m
below Modes m n q e = mode_within m q.item q.value (mode_is m n q e)
below Values m n q e = value_within m q.item q.value (value_is m n q e)

differs : (item : ℕ) (ps : List Pair) → has_item ps item ≡ false → AllByRecursion (λ y. eqb item y ≡ false) (map (λ (p : Pair). p.item) ps)
differs item [] h = tt
differs item (p ∷ ps) h = let parts = or_parts (p.item == item) (has_item ps item) h in (eqb_flips item p.item ∙ parts.0, differs item ps parts.1)

distinct : (ps : List Pair) → has_item_twice ps ≡ false → IsDistinct eqb (map (λ (p : Pair). p.item) ps)
unfolding IsDistinct
distinct [] h = tt
distinct (p ∷ ps) h = let parts = or_parts (has_item ps p.item) (has_item_twice ps) h in (differs p.item ps parts.0, distinct ps parts.1)

few : (n : ℕ) (ps : List Pair) → has_item_twice ps ≡ false → All (λ (p : Pair). p.item < n) ps → length ps ≤ n
few n ps once within =
    let items = map (λ (p : Pair). p.item) ps in
    let all : All (λ (x : ℕ). x < n) items = All-map (λ (x : ℕ). x < n) (λ (p : Pair). p.item) ps within in
    let long = few_below n items (distinct ps once) (λ x among. All-contains (λ (x : ℕ). x < n) items x all among) in
    omega (arith, long, length-map ps (λ (p : Pair). p.item))

new_fits : (n : ℕ) (qs : List Pair) (q : Pair) → (has_item_twice qs || has_item qs q.item) ≡ false → All (λ (p : Pair). p.item < n) (qs ++ q ∷ []) → length qs < n
new_fits n qs q once within =
    let long = few n (qs ++ q ∷ []) (twice_with_last qs q ∙ once) within in
    omega (arith, long, length-append qs (q ∷ []))

module _ (naming : Naming) (m : PlantModel) (pending : List Pair) (mirrored : ℕ) where
  room_by : (before : List NamedPair) (o : Option (List Pair)) (n : NamedPair) (q : Pair) (f : Found) (items : List Pair) → each_pair (stands_for naming m) before ≡ o → IsFound naming m pending mirrored o f items
      → stands_for naming m n ≡ Some q → f.unknown ≡ false → (f.twice || has_item items q.item) ≡ false → length items < count naming m
  room_by before None n q f items is h e known once = let b : true ≡ false = sym h ∙ known in absurd cc
  room_by before (Some qs) n q f items is h e known once =
      let same : each_pair (stands_for naming m) (before ++ n ∷ []) ≡ Some (qs ++ q ∷ []) =
      each_with_last (stands_for naming m) before n
      ∙ ap (λ (x : Option (List Pair)). x >>= λ qs. stands_for naming m n >>= λ y. Some (qs ++ y ∷ [])) is
      ∙ ap (λ (x : Option Pair). x >>= λ y. Some (qs ++ y ∷ [])) e in
      let each : (p : Pair) → Contains (qs ++ q ∷ []) p → p.item < count naming m = λ p among. let from = comes_from (stands_for naming m) (before ++ n ∷ []) (qs ++ q ∷ []) p same among in below naming m from.0 p from.2 in
      let one = sym (twice_by_list f.twice qs items q.item h.1.twice h.1.kept) ∙ once in
      let long = new_fits (count naming m) qs q one (all_from (λ (p : Pair). p.item < count naming m) (qs ++ q ∷ []) each) in
      subst (λ (l : List Pair). length l < count naming m) (sym (h.1.kept (or_parts f.twice (has_item items q.item) once).0)) long

  -- a pair of a new item has room
  pub has_room : (before : List NamedPair) (n : NamedPair) (q : Pair) (f : Found) (items : List Pair) → IsFoundOf naming m pending mirrored before f items
      → Some q ≡ stands_for naming m n → f.unknown ≡ false → (f.twice || has_item items q.item) ≡ false → length items < count naming m
  has_room before n q f items h e known once = room_by before (each_pair (stands_for naming m) before) n q f items refl h (sym e) known once
