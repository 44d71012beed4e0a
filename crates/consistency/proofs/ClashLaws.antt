-- What an answer to a state's pairs says of that state.
use Rattle.std.proofs.Common.{◌≡◌, ◌≢◌, ◌+◌, ◌≤◌, ℕ, List, [], ◌∷◌, length, All, Contains, None, inl, inr, take, refl, sym, ap, ◌∙◌, arith}
use Rattle.list_laws.proofs.Members.{all_from, contains_cases, contains_none}
use Rattle.std.proofs.lemmas.List.Kept.{AllPairs-cons}
use Rattle.cca_base.specs.declared.cube.Pair.{Pair}
use Rattle.cca_base.specs.PlantModel.{PlantModel}
use Rattle.cca_base.specs.Cube.{IsCube}
use Rattle.cca_base.specs.Repairs.{pairs_from, pairs_of}
use Rattle.cca_base.specs.State.{IsState, HasValue}
use Rattle.cca_base.proofs.StatePairs.{pairs_have_modes}
use Rattle.clause_form.specs.declared.clause.Clauses.{Clauses}
use Rattle.clause_form.specs.Formulas.{AreClausesOf}
use Rattle.world_search.specs.declared.answer.Answer.{Answer}
use Rattle.world_search.specs.declared.answer.Answer.TheVariants.{Agrees, Clash}
use Rattle.world_search.specs.Worlds.{IsAnswer}
use Rattle.consistency.specs.Base.{IsBase}
use Rattle.consistency.specs.Cores.{IsShowing}
use Rattle.consistency.proofs.AnswersOfModel.{answer_fits}
use Rattle.consistency.proofs.Fitting.{own_shows}

abbrev Differ : Pair → Pair → Type 0
Differ p q = p.item ≢ q.item

least_item : (k : ℕ) (s : List ℕ) (q : Pair) → Contains (pairs_from k s) q → k ≤ q.item
least_item k [] q among = absurd (contains_none q among)
least_item k (x ∷ s) q among = elim (contains_cases (record { item = k; value = x }) q (pairs_from (k + 1) s) among) [
  | inl e ↦ let same : k ≡ q.item = ap (λ (p : Pair). p.item) e in omega (arith, same)
  | inr there ↦ omega (arith, least_item (k + 1) s q there)
]

cube_from : (k : ℕ) (s : List ℕ) → IsCube (pairs_from k s)
cube_from k [] = λ i j d less h. absurd (omega (arith, h))
cube_from k (x ∷ s) =
    AllPairs-cons Differ (record { item = k; value = x }) (pairs_from (k + 1) s)
    (all_from (Differ (record { item = k; value = x })) (pairs_from (k + 1) s) (λ q among same. omega (arith, same, least_item (k + 1) s q among)))
    (cube_from (k + 1) s)

-- a state has one pair of each component
pub pairs_cube : (s : List ℕ) → IsCube (pairs_of s)
pairs_cube s = cube_from 0 s

module _ (m : PlantModel) (s : List ℕ) (seen : List Pair) (c : Clauses) (base : List ℕ) (of : AreClausesOf m None None c) (b : IsBase c.sizes (length m.components) [] seen base)
    (state : IsState m s) (seen_in : All (λ p. HasValue m p.item p.value) seen) (world : List ℕ) where
  pub answer_shows : (answer : Answer) → IsAnswer c.clauses base world (pairs_of s) answer → IsShowing m s seen answer
  answer_shows Agrees answer =
      let found = answer_fits m (pairs_of s) seen None c base of b (pairs_have_modes m s state) seen_in world Agrees answer in
      let fits = found.2.fits in
      own_shows m s seen state (found.0, fits.state, fits.extends, (found.1, fits.world, fits.agrees))
  answer_shows (Clash set) answer = λ t is extends shows.
      answer_fits m (pairs_of s) seen None c base of b (pairs_have_modes m s state) seen_in world (Clash set) answer t shows.0
      (record { fits = record { state = is; extends = extends; world = shows.1; agrees = shows.2 }; denies = refl })

-- what a slice of the room shows, once a state's pairs are put in
pub own_pairs : (s modes : List ℕ) (n : ℕ) (new shown : List Pair) → modes ≡ s → n ≡ length s → shown ≡ new → take (length modes) new ≡ pairs_of modes → take n shown ≡ pairs_of s
own_pairs s modes n new shown same count is put = ap (take n) is ∙ ap (λ (k : ℕ). take k new) (count ∙ ap length (sym same)) ∙ put ∙ ap pairs_of same
