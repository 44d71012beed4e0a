-- What some state shows, as clashes and as worlds of a state.
use Rattle.std.proofs.Common.{◌≡◌, ◌-◌, ◌<◌, ℕ, List, None, refl, length, get_or, take, drop, sym, ap, subst, ◌∙◌, arith}
use Rattle.std.proofs.lemmas.List.{take_all, length-drop, get_or_default}
use Rattle.cca_base.specs.declared.cube.Pair.{Pair}
use Rattle.cca_base.specs.PlantModel.{PlantModel}
use Rattle.cca_base.specs.Repairs.{pairs_of}
use Rattle.cca_base.specs.Shown.{CanShow, Clash}
use Rattle.cca_base.specs.State.{IsState}
use Rattle.cca_base.proofs.StateLaws.{same_state}
use Rattle.consistency.specs.Cores.{IsCore, IsFitting, IsShowable}
use Rattle.world_search.specs.declared.answer.Answer.TheVariants.{Agrees}
use Rattle.world_search.specs.declared.answer.Answer.TheVariants as answers
use Rattle.clash_analysis.specs.declared.subjects.SubjectSet.{SubjectSet}
use Rattle.cca_base.proofs.StatePairs.{extends_own}

-- where some state shows what is seen there is no clash
pub showable_fits : (m : PlantModel) (modes seen : List Pair) → IsShowable m seen modes → Clash m seen modes → ⊥
showable_fits m modes seen (s, state, extends, shows) clash = clash s state extends shows

module _ (m : PlantModel) (s : List ℕ) (seen : List Pair) (state : IsState m s) where
  -- the one state that extends a state's own pairs is this one
  pub own_shows : IsShowable m seen (pairs_of s) → CanShow m s seen
  own_shows (t, is_state, extends, shows) = subst (λ x. CanShow m x seen) (same_state s t (is_state.full ∙ sym state.full) extends) shows

  pub own_clash : Clash m seen (pairs_of s) → CanShow m s seen → ⊥
  own_clash clash = clash s state (extends_own s)

-- an item of a list that is another by an equation
pub read_here : (xs ys : List Pair) (n : ℕ) (d : Pair) → xs ≡ ys → n < length xs → get_or ys n (get_or xs n d) ≡ get_or xs n d
read_here xs ys n d e within = ap (λ (ps : List Pair). get_or ps n (get_or xs n d)) (sym e) ∙ get_or_default xs n (get_or xs n d) d within

-- what a slice has from a place on
pub rest_of : (xs ys : List Pair) (n : ℕ) → ys ≡ xs → take (length ys - n) (drop n ys) ≡ drop n xs
rest_of xs ys n e = take_all (length ys - n) (drop n ys) (omega (arith, length-drop n ys)) ∙ ap (drop n) e

-- where nothing is denied, what fits shows the modes, and a clash names a core of them
pub fitting_shows : (m : PlantModel) (modes seen : List Pair) → IsFitting m modes seen None Agrees → IsShowable m seen modes
fitting_shows m modes seen found = let fits = found.2.fits in (found.0, fits.state, fits.extends, (found.1, fits.world, fits.agrees))

pub fitting_core : (m : PlantModel) (modes seen : List Pair) (set : SubjectSet) → IsFitting m modes seen None (answers.Clash set) → IsCore m seen modes set
fitting_core m modes seen set none s state extends (w, world, agrees) =
    none s w (record { fits = record { state = state; extends = extends; world = world; agrees = agrees }; denies = refl })
