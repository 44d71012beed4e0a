-- Pairs that are asked for one after the other make the goal of the first of each component, and there is room for them.
use Rattle.std.proofs.Common.{◌≡◌, ◌==◌, ◌||◌, ◌<◌, ◌≤◌, ℕ, Bool, true, false, cond, eqb, List, [], ◌∷◌, ◌++◌, length, map, refl, sym, ap, subst, ◌∙◌, append-nil, append_assoc, arith}
use Rattle.std.specs.List.{IsDistinct, list_any}
use Rattle.std.specs.Cmp.{nat_eq_equiv}
use Rattle.std.proofs.lemmas.List.{length-append, length-map, map-append}
use Rattle.std.proofs.lemmas.List.Elements.{All-contains, All-map, All-push}
use Rattle.std.proofs.lemmas.Map.Keys.{IsDistinct-push}
use Rattle.bounded_list.specs.Bounded.{Bounded, bounded}
use Rattle.cca_base.proofs.NextModes.{few_below}
use Rattle.cca_base.specs.declared.cube.Pair.{Pair}
use Rattle.control_laws.specs.Turns.{firsts}
use Rattle.control_laws.proofs.PushedPairs.{named, push_named, push_new}
use Rattle.control_program.specs.Goals.{FitsRoom, with_pair, with_pairs}

pub with_pairs-append : (goal xs ys : List Pair) → with_pairs goal (xs ++ ys) ≡ with_pairs (with_pairs goal xs) ys
with_pairs-append goal [] ys = refl
with_pairs-append goal (x ∷ xs) ys = with_pairs-append (with_pair goal x) xs ys

with_pair-firsts : (asked : List Pair) (p : Pair) → with_pair (firsts asked) p ≡ firsts (asked ++ p ∷ [])
with_pair-firsts asked p = by (named p.item (firsts asked)) refl
  where
    by : (b : Bool) → named p.item (firsts asked) ≡ b → with_pair (firsts asked) p ≡ firsts (asked ++ p ∷ [])
    by true e = ap (λ b. cond b (firsts asked) (firsts asked ++ p ∷ [])) e ∙ sym (push_named asked p e)
    by false e = ap (λ b. cond b (firsts asked) (firsts asked ++ p ∷ [])) e ∙ sym (push_new asked p e)

-- the goal of pairs that were asked for, with others behind them
pub with_pairs-firsts : (asked own : List Pair) → with_pairs (firsts asked) own ≡ firsts (asked ++ own)
with_pairs-firsts asked [] = ap firsts (sym (append-nil asked))
with_pairs-firsts asked (p ∷ own) =
    ap (λ g. with_pairs g own) (with_pair-firsts asked p) ∙ with_pairs-firsts (asked ++ p ∷ []) own ∙ ap firsts (append_assoc asked (p ∷ []) own)

or_parts : (a b : Bool) → (a || b) ≡ false → (a ≡ false) × (b ≡ false)
or_parts false b h = (refl, h)
or_parts true b h = let no : true ≡ false = h in absurd cc

-- a component of no pair is no item of theirs
unnamed : (goal : List Pair) (item : ℕ) → named item goal ≡ false → list_any (eqb item) (map (λ p. p.item) goal) ≡ false
unnamed [] item h = refl
unnamed (q ∷ goal) item h =
    let parts = or_parts (q.item == item) (named item goal) h in
    ap (λ b. b || list_any (eqb item) (map (λ p. p.item) goal)) (nat_eq_equiv.symm item q.item ∙ parts.0) ∙ unnamed goal item parts.1

module _ (goal : Bounded Pair) (p : Pair) (f : FitsRoom goal) (among : p.item < goal.room) (new : named p.item goal.items ≡ false) where
  -- a pair of another component may be put behind the others
  pub pushed_fits : FitsRoom (bounded (goal.items ++ p ∷ []) goal.room)
  pushed_fits = record {
    distinct =
        subst (IsDistinct eqb) (sym (map-append (λ (q : Pair). q.item) goal.items (p ∷ [])))
        (IsDistinct-push nat_eq_equiv (map (λ q. q.item) goal.items) p.item f.distinct (unnamed goal.items p.item new));
    among = All-push (λ q. q.item < goal.room) goal.items p f.among among;
  }

  -- there is room for it
  pub pushed_room : length goal.items < goal.room
  pushed_room =
      let all : List ℕ = map (λ (q : Pair). q.item) (goal.items ++ p ∷ []) in
      let few : length all ≤ goal.room = few_below goal.room all pushed_fits.distinct
      (λ x h. All-contains (λ (n : ℕ). n < goal.room) all x (All-map (λ (n : ℕ). n < goal.room) (λ (q : Pair). q.item) (goal.items ++ p ∷ []) pushed_fits.among) h) in
      omega (arith, few, length-map (goal.items ++ p ∷ []) (λ (q : Pair). q.item), length-append goal.items (p ∷ []))
