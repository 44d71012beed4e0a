-- Parts that have their turns one behind the other, as far as a loop has come.
use Rattle.std.proofs.Common.{◌≡◌, ◌+◌, ◌<◌, ◌≤◌, ◌&&◌, ℕ, Bool, true, false, List, [], ◌++◌, length, Option, Some, None, refl, sym, ap, subst, ◌∙◌, arith, append_assoc, append-nil}
use Rattle.std.proofs.lemmas.List.{length-append}
use Rattle.std.proofs.Math.Bool.{and-true, and_assoc}
use Rattle.cca_base.specs.declared.cube.Pair.{Pair}
use Rattle.cca_base.specs.PlantModel.{PlantModel}
use Rattle.control_laws.specs.Rest.{Rest as rest, Rests as rests, joined}
use Rattle.control_program.specs.Flat.{Entry, count, size, laid, all_laid}
use Rattle.control_program.specs.Goals.{with_pairs}
use Rattle.control_program.specs.Marks.{Tree, Trees, none, more, rest_of, rests_of, has_ended, is_nothing, is_none, IsProper, AreProper}
use Rattle.control_program.specs.Places.{StandsAt, StandAt}
use Rattle.control_program.specs.Turned.{AllBecame, HasTurned, HaveTurned}
use Rattle.control_program.proofs.GoalLaws.{with_pairs-append}
use Rattle.control_program.proofs.PartTurns.{none_became, seq_stops, all_go}
use Rattle.control_program.proofs.Sizes.{before as plus, all_laid-append, all_laid-before, length-laid}

-- some parts are done, the others are as they were; what the others become makes what all become
pub record Along (in_order : Bool) (m : PlantModel) (e : List ℕ) (front : List Entry) (xs : Trees) (after : List Entry) (goal : List Pair) (entries : List Entry) (all : List Pair)
    (place gone parts : ℕ) (over : Bool) : Type 0 where
  pub own : List Pair
  pub done : Trees
  pub todo : Trees
  pub nodes : entries ≡ (front ++ all_laid done []) ++ all_laid todo after
  pub at : length (front ++ all_laid done []) ≡ place
  pub many : count todo + gone ≡ parts
  pub asks : all ≡ with_pairs goal own
  pub proper : AreProper todo
  pub ended : over ≡ is_none (rests_of done)
  pub goes : (others : List Pair) (ys : Trees) → AllBecame in_order m e todo others ys → AllBecame in_order m e xs (own ++ others) (plus done ys)

plus-plus : (xs ys zs : Trees) → plus (plus xs ys) zs ≡ plus xs (plus ys zs)
plus-plus none ys zs = refl
plus-plus (more x xs) ys zs = ap (more x) (plus-plus xs ys zs)

plus-none : (xs : Trees) → plus xs none ≡ xs
plus-none none = refl
plus-none (more x xs) = ap (more x) (plus-none xs)

is_none-joined : (o : Option rest) (ys : rests) → is_none (joined o ys) ≡ (is_nothing o && is_none ys)
is_none-joined None ys = refl
is_none-joined (Some r) ys = refl

is_none-plus : (xs ys : Trees) → is_none (rests_of (plus xs ys)) ≡ (is_none (rests_of xs) && is_none (rests_of ys))
unfolding rest_of
is_none-plus none ys = refl
is_none-plus (more x xs) ys =
    is_none-joined (rest_of x) (rests_of (plus xs ys)) ∙ ap (λ b. is_nothing (rest_of x) && b) (is_none-plus xs ys)
    ∙ sym (and_assoc (is_nothing (rest_of x)) (is_none (rests_of xs)) (is_none (rests_of ys))) ∙ ap (λ b. b && is_none (rests_of ys)) (sym (is_none-joined (rest_of x) (rests_of xs)))

and-false : (b : Bool) → (b && false) ≡ false
and-false true = refl
and-false false = refl

-- the first of the parts that are left
pub record FirstLeft (todo : Trees) : Type 0 where
  pub part : Tree
  pub others : Trees
  pub is : todo ≡ more part others

pub first_left : (todo : Trees) (gone parts : ℕ) → count todo + gone ≡ parts → gone < parts → FirstLeft todo
first_left none gone parts e lt = absurd (omega (arith, e, lt))
first_left (more x xs) gone parts e lt = record { part = x; others = xs; is = refl }

none_left : (todo : Trees) (gone parts : ℕ) → count todo + gone ≡ parts → parts ≤ gone → todo ≡ none
none_left none gone parts e le = refl
none_left (more x xs) gone parts e le = absurd (omega (arith, e, le))

laid_done : (front : List Entry) (done : Trees) (rest : List Entry) → (front ++ all_laid done []) ++ rest ≡ front ++ all_laid done rest
laid_done front done rest = append_assoc front (all_laid done []) rest ∙ ap (λ l. front ++ l) (sym (all_laid-append done rest))

module _ (m : PlantModel) (e : List ℕ) where
  pub along_start : (in_order : Bool) (entries : List Entry) (at parts : ℕ) (goal : List Pair) (s : StandAt entries at parts)
      → Along in_order m e s.before s.trees s.after goal entries goal at 0 parts true
  unfolding laid rest_of
  along_start in_order entries at parts goal s = record {
    own = [];
    done = none;
    todo = s.trees;
    nodes = s.nodes ∙ ap (λ l. l ++ all_laid s.trees s.after) (sym (append-nil s.before));
    at = ap length (append-nil s.before) ∙ s.place;
    many = omega (arith, s.number);
    asks = refl;
    proper = s.proper;
    ended = refl;
    goes = λ others ys h. h;
  }

  module _ (in_order : Bool) (front : List Entry) (xs : Trees) (after : List Entry) (goal : List Pair) (entries : List Entry) (all : List Pair)
      (place gone parts : ℕ) (over : Bool) (a : Along in_order m e front xs after goal entries all place gone parts over) where
    pub along_from : length front ≤ place
    along_from = omega (arith, a.at, length-append front (all_laid a.done []))

    pub part_proper : (f : FirstLeft a.todo) → IsProper f.part × AreProper f.others
    unfolding IsProper
    part_proper f = subst AreProper f.is a.proper

    pub part_nodes : (f : FirstLeft a.todo) → entries ≡ (front ++ all_laid a.done []) ++ laid f.part (all_laid f.others after)
    unfolding laid
    part_nodes f = a.nodes ∙ ap (λ v. (front ++ all_laid a.done []) ++ all_laid v after) f.is

    abbrev pub along_stands : FirstLeft a.todo → StandsAt entries place
    along_stands f = record {
      before = front ++ all_laid a.done [];
      tree = f.part;
      after = all_laid f.others after;
      place = a.at;
      nodes = part_nodes f;
      proper = (part_proper f).0;
    }

    step_nodes : (f : FirstLeft a.todo) (next : Tree)
        → (front ++ all_laid a.done []) ++ laid next (all_laid f.others after) ≡ (front ++ all_laid (plus a.done (more next none)) []) ++ all_laid f.others after
    unfolding laid
    step_nodes f next =
        laid_done front a.done (laid next (all_laid f.others after))
        ∙ ap (λ l. front ++ l) (sym (all_laid-before a.done (more next none) (all_laid f.others after)))
        ∙ sym (laid_done front (plus a.done (more next none)) (all_laid f.others after))

    step_at : (f : FirstLeft a.todo) (next : Tree) → size next ≡ size f.part → length (front ++ all_laid (plus a.done (more next none)) []) ≡ place + size f.part
    unfolding laid
    step_at f next same =
        let whole : all_laid (plus a.done (more next none)) [] ≡ all_laid a.done [] ++ laid next [] = all_laid-before a.done (more next none) [] ∙ all_laid-append a.done (laid next []) in
        omega (
          arith,
          same,
          a.at,
          ap length whole,
          length-append front (all_laid a.done []),
          length-append front (all_laid (plus a.done (more next none)) []),
          length-append (all_laid a.done []) (laid next []),
          length-laid next [],
        )

    step_ended : (next : Tree) (d : Bool) → d ≡ has_ended next → (over && d) ≡ is_none (rests_of (plus a.done (more next none)))
    unfolding rest_of
    step_ended next d h =
        ap (λ b. b && d) a.ended ∙ ap (λ b. is_none (rests_of a.done) && b) (h ∙ sym (is_none-joined (rest_of next) rests.none ∙ and-true (is_nothing (rest_of next))))
        ∙ sym (is_none-plus a.done (more next none))

    pub along_step : (f : FirstLeft a.todo) (d : Bool) (entries' : List Entry) (all' : List Pair)
        → HasTurned m e (front ++ all_laid a.done []) f.part (all_laid f.others after) all d entries' all' → (in_order ≡ true → d ≡ true)
        → Along in_order m e front xs after goal entries' all' (place + size f.part) (gone + 1) parts (over && d)
    along_step f d entries' all' h ended = record {
      own = a.own ++ h.own;
      done = plus a.done (more h.next none);
      todo = f.others;
      nodes = h.nodes ∙ step_nodes f h.next;
      at = step_at f h.next h.became.size;
      many = omega (arith, a.many, ap count f.is);
      asks = h.asks ∙ ap (λ l. with_pairs l h.own) a.asks ∙ sym (with_pairs-append goal a.own h.own);
      proper = (part_proper f).1;
      ended = step_ended h.next d h.left;
      goes = λ others ys k.
          subst (λ o. AllBecame in_order m e xs o (plus (plus a.done (more h.next none)) ys)) (sym (append_assoc a.own h.own others))
          (subst (λ v. AllBecame in_order m e xs (a.own ++ (h.own ++ others)) v) (sym (plus-plus a.done (more h.next none) ys))
          (a.goes (h.own ++ others) (more h.next ys)
          (subst (λ v. AllBecame in_order m e v (h.own ++ others) (more h.next ys)) (sym f.is)
          (all_go m e in_order f.part h.next f.others ys h.own others (λ o. sym h.left ∙ ended o) h.became k))));
    }

    pub along_finish : parts ≤ gone → HaveTurned in_order m e front xs after goal over entries all
    unfolding laid
    along_finish le =
        let empty : a.todo ≡ none = none_left a.todo gone parts a.many le in
        record {
          own = a.own;
          next = a.done;
          became =
              subst (λ o. AllBecame in_order m e xs o a.done) (append-nil a.own)
              (subst (λ v. AllBecame in_order m e xs (a.own ++ []) v) (plus-none a.done)
              (a.goes [] none (subst (λ v. AllBecame in_order m e v [] none) (sym empty) (none_became m e in_order))));
          nodes = a.nodes ∙ ap (λ v. (front ++ all_laid a.done []) ++ all_laid v after) empty ∙ laid_done front a.done after;
          asks = a.asks;
          left = a.ended;
        }

  stop_left : (done : Trees) (next : Tree) (others : Trees) → has_ended next ≡ false → false ≡ is_none (rests_of (plus done (more next others)))
  unfolding rest_of
  stop_left done next others left =
      sym (is_none-plus done (more next others)
      ∙ ap (λ b. is_none (rests_of done) && b) (is_none-joined (rest_of next) (rests_of others) ∙ ap (λ b. b && is_none (rests_of others)) left)
      ∙ and-false (is_none (rests_of done)))

  pub along_stop : (front : List Entry) (xs : Trees) (after : List Entry) (goal : List Pair) (entries : List Entry) (all : List Pair) (place gone parts : ℕ) (over : Bool)
      (a : Along true m e front xs after goal entries all place gone parts over) (f : FirstLeft a.todo) (entries' : List Entry) (all' : List Pair)
      → HasTurned m e (front ++ all_laid a.done []) f.part (all_laid f.others after) all false entries' all' → HaveTurned true m e front xs after goal false entries' all'
  unfolding laid
  along_stop front xs after goal entries all place gone parts over a f entries' all' h = record {
    own = a.own ++ h.own;
    next = plus a.done (more h.next f.others);
    became =
        a.goes h.own (more h.next f.others)
        (subst (λ v. AllBecame true m e v h.own (more h.next f.others)) (sym f.is)
        (seq_stops m e f.part h.next f.others h.own (sym h.left) (part_proper true front xs after goal entries all place gone parts over a f).1 h.became));
    nodes =
        h.nodes ∙ laid_done front a.done (laid h.next (all_laid f.others after))
        ∙ ap (λ l. front ++ l) (sym (all_laid-before a.done (more h.next f.others) after));
    asks = h.asks ∙ ap (λ l. with_pairs l h.own) a.asks ∙ sym (with_pairs-append goal a.own h.own);
    left = stop_left a.done h.next f.others (sym h.left);
  }
