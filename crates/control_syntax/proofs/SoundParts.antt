-- Parts that are made of sound parts are sound.
use Rattle.std.proofs.Common.{◌≡◌, ◌≤◌, ℕ, false, List, [], ◌∷◌, map, All, sym, subst}
use Rattle.std.specs.List.{flat_map}
use Rattle.std.proofs.lemmas.List.Elements.{All-append, All-cons, All-head, All-nil, All-tail, All-weaker}
use Rattle.cca_base.specs.declared.cube.Pair.{Pair}
use Rattle.cca_base.specs.declared.formula.Formula.{Formula}
use Rattle.cca_base.specs.Model.{HasMode, IsFormula, is_broken}
use Rattle.cca_base.specs.PlantModel.{PlantModel}
use Rattle.control_syntax.specs.declared.part.Part.{Part, roll-Part}
use Rattle.control_syntax.specs.declared.part.Part.TheOpen.{Part-F}
use Rattle.control_syntax.specs.declared.part.Part.TheFolds.{fold-roll-Part, map-Part}
use Rattle.control_syntax.specs.Kept.{IsGoal, IsSound, goals_of, goals_step}
use Rattle.control_syntax.specs.Program.{formulas_of, formulas_step, numbers_of, numbers_step, pairs_of, pairs_step}
use Rattle.control_syntax.specs.Reading.{seq}

-- what holds of all that the parts list holds of all of it
flat_all : {X : Type 0} (P : X → Type 0) (of : Part → List X) (parts : List Part) → All (λ p. All P (of p)) parts → All P (flat_map (λ xs. xs) (map of parts))
flat_all P of [] h = All-nil P
flat_all P of (p ∷ parts) h =
    All-append P (of p) (flat_map (λ xs. xs) (map of parts)) (All-head (λ q. All P (of q)) p parts h) (flat_all P of parts (All-tail (λ q. All P (of q)) p parts h))

module _ (m : PlantModel) where
  -- the five facts of which soundness is made
  record Facts (pairs : List Pair) (formulas : List Formula) (numbers : List ℕ) (goals : List (List Pair)) : Type 0 where
    modes : All (λ p. HasMode m p.item p.value) pairs
    texts : All (IsFormula m) formulas
    unbroken : All (λ p. is_broken m.moves p.item p.value ≡ false) pairs
    once : All (λ n. 1 ≤ n) numbers
    asked : All IsGoal goals

  abbrev FactsOf : Part → Type 0
  FactsOf p = Facts (pairs_of p) (formulas_of p) (numbers_of p) (goals_of p)

  facts : (p : Part) → IsSound m p → FactsOf p
  facts p h = record { modes = h.may_run.range.modes; texts = h.may_run.range.formulas; unbroken = h.may_run.sound; once = h.may_run.once; asked = h.goals }

  sound : (p : Part) → FactsOf p → IsSound m p
  sound p h = record { may_run = record { range = record { modes = h.modes; formulas = h.texts }; sound = h.unbroken; once = h.once }; goals = h.asked }

  -- of a part by its layer
  rolled : (x : Part-F Part)
      → Facts (pairs_step (map-Part Part (List Pair) pairs_of x)) (formulas_step (map-Part Part (List Formula) formulas_of x)) (numbers_step (map-Part Part (List ℕ) numbers_of x))
      (goals_step (map-Part Part (List (List Pair)) goals_of x))
      → IsSound m (roll-Part x)
  rolled x h = sound (roll-Part x) (
      record {
        modes = subst (All (λ p. HasMode m p.item p.value)) (sym (fold-roll-Part (List Pair) pairs_step x)) h.modes;
        texts = subst (All (IsFormula m)) (sym (fold-roll-Part (List Formula) formulas_step x)) h.texts;
        unbroken = subst (All (λ p. is_broken m.moves p.item p.value ≡ false)) (sym (fold-roll-Part (List Pair) pairs_step x)) h.unbroken;
        once = subst (All (λ n. 1 ≤ n)) (sym (fold-roll-Part (List ℕ) numbers_step x)) h.once;
        asked = subst (All IsGoal) (sym (fold-roll-Part (List (List Pair)) goals_step x)) h.asked;
      }
      )

  -- ---- form by form

  pub sound_reach : (g : List Pair) → IsGoal g → All (λ p. HasMode m p.item p.value) g → All (λ p. is_broken m.moves p.item p.value ≡ false) g → IsSound m (roll-Part (Part-F.Reach g))
  sound_reach g goal modes unbroken =
      rolled (Part-F.Reach g) (record { modes = modes; texts = All-nil (IsFormula m); unbroken = unbroken; once = All-nil (λ n. 1 ≤ n); asked = All-cons IsGoal g [] goal (All-nil IsGoal) })

  pub sound_await : (f : Formula) → IsFormula m f → IsSound m (roll-Part (Part-F.Await f))
  sound_await f h =
      rolled (Part-F.Await f) (
      record {
        modes = All-nil (λ p. HasMode m p.item p.value);
        texts = All-cons (IsFormula m) f [] h (All-nil (IsFormula m));
        unbroken = All-nil (λ p. is_broken m.moves p.item p.value ≡ false);
        once = All-nil (λ n. 1 ≤ n);
        asked = All-nil IsGoal;
      }
      )

  -- of all parts of a list
  all_facts : (parts : List Part) → All (IsSound m) parts
      → Facts (flat_map (λ xs. xs) (map pairs_of parts)) (flat_map (λ xs. xs) (map formulas_of parts)) (flat_map (λ xs. xs) (map numbers_of parts)) (flat_map (λ xs. xs) (map goals_of parts))
  all_facts parts h =
      let mode : Pair → Type 0 = λ p. HasMode m p.item p.value in
      let unbroken : Pair → Type 0 = λ p. is_broken m.moves p.item p.value ≡ false in
      let once : ℕ → Type 0 = λ n. 1 ≤ n in
      record {
        modes = flat_all mode pairs_of parts (All-weaker (IsSound m) (λ p. All mode (pairs_of p)) (λ p s. (facts p s).modes) parts h);
        texts = flat_all (IsFormula m) formulas_of parts (All-weaker (IsSound m) (λ p. All (IsFormula m) (formulas_of p)) (λ p s. (facts p s).texts) parts h);
        unbroken = flat_all unbroken pairs_of parts (All-weaker (IsSound m) (λ p. All unbroken (pairs_of p)) (λ p s. (facts p s).unbroken) parts h);
        once = flat_all once numbers_of parts (All-weaker (IsSound m) (λ p. All once (numbers_of p)) (λ p s. (facts p s).once) parts h);
        asked = flat_all IsGoal goals_of parts (All-weaker (IsSound m) (λ p. All IsGoal (goals_of p)) (λ p s. (facts p s).asked) parts h);
      }

  pub sound_seq : (parts : List Part) → All (IsSound m) parts → IsSound m (seq parts)
  sound_seq parts h = rolled (Part-F.Seq parts) (all_facts parts h)

  pub sound_both : (parts : List Part) → All (IsSound m) parts → IsSound m (roll-Part (Part-F.Both parts))
  sound_both parts h = rolled (Part-F.Both parts) (all_facts parts h)

  pub sound_choose : (f : Formula) (a b : Part) → IsFormula m f → IsSound m a → IsSound m b → IsSound m (roll-Part (Part-F.Choose f a b))
  sound_choose f a b text h k =
      let x = facts a h in
      let y = facts b k in
      rolled (Part-F.Choose f a b) (
      record {
        modes = All-append (λ p. HasMode m p.item p.value) (pairs_of a) (pairs_of b) x.modes y.modes;
        texts = All-append (IsFormula m) (f ∷ formulas_of a) (formulas_of b) (All-cons (IsFormula m) f (formulas_of a) text x.texts) y.texts;
        unbroken = All-append (λ p. is_broken m.moves p.item p.value ≡ false) (pairs_of a) (pairs_of b) x.unbroken y.unbroken;
        once = All-append (λ n. 1 ≤ n) (numbers_of a) (numbers_of b) x.once y.once;
        asked = All-append IsGoal (goals_of a) (goals_of b) x.asked y.asked;
      }
      )

  pub sound_repeat : (n : ℕ) (a : Part) → 1 ≤ n → IsSound m a → IsSound m (roll-Part (Part-F.Repeat n a))
  sound_repeat n a one h =
      let x = facts a h in
      rolled (Part-F.Repeat n a) (record { modes = x.modes; texts = x.texts; unbroken = x.unbroken; once = All-cons (λ k. 1 ≤ k) n (numbers_of a) one x.once; asked = x.asked })
