-- What the lines behind a model ask for: wishes, each by the weights and the modes that the lines before it set.
use Rattle.std.specs.Prelude.{◌≡◌, ◌⊎◌, ℕ, List, [], ◌∷◌, Option, Result, length, map, replicate, slice_index_or, slice_set}
use Rattle.cca_base.specs.declared.codes.TheConstants.{MANY}
use Rattle.cca_base.specs.declared.cube.Pair.{Pair}
use Rattle.cca_base.specs.declared.formula.Formula.{Formula}
use Rattle.cca_base.specs.PlantModel.{PlantModel}
use Rattle.cca_base.specs.State.{start_modes}
use Rattle.goal_interpreter.specs.declared.target.TheConstants.{MAX_IMPLICANTS}
use Rattle.guard_compiler.specs.Wishes.{HasFewImplicants, HasManyImplicants}
use Rattle.model_form.specs.LinesEnds.{Asked, ReadsLines, refused_at, with_item}
use Rattle.want_lines.specs.Requests.{IsRequestOf}
use Rattle.want_lines.specs.declared.request.Request.{Request}
use Rattle.want_lines.specs.declared.request.Request.TheVariants.{Weight, At, Want}

-- what the modes weigh, and where the components stand
pub record Settings : Type 0 where
  pub weights : List (List ℕ)
  pub modes : List ℕ

-- a formula that is wished for, by these weights and from these modes
pub record Wish : Type 0 where
  pub settings : Settings
  pub formula : Formula

-- no mode weighs anything
abbrev pub no_weights : PlantModel → List (List ℕ)
no_weights m = map (λ c. replicate (length c.modes) 0) m.components

-- at first no mode weighs anything, and each component stands in its start mode
abbrev pub first_settings : PlantModel → Settings
first_settings m = record { weights = no_weights m; modes = start_modes m }

-- the pair's mode has this weight
abbrev pub with_weight : Pair → ℕ → List (List ℕ) → List (List ℕ)
with_weight p weight rows = slice_set rows p.item (slice_set (slice_index_or rows p.item []) p.value weight)

-- the components of the pairs stand in these modes
abbrev pub put_in : List ℕ → List Pair → List ℕ
put_in modes [] = modes
put_in modes (p ∷ ps) = put_in (slice_set modes p.item p.value) ps

-- the wishes of some lines, and how these end
abbrev pub Wishes : Type 0
Wishes = Asked Wish

module _ (m : PlantModel) where
  -- what a line asks for, whatever was set before it
  abbrev pub IsAsked : Settings → List ℕ → Result (Option Request) ℕ → Type 0
  IsAsked x line said = IsRequestOf m line said

  -- a request and the later lines: weights and modes are set for these; a wish with too many implicants is refused, and any other stands before their wishes
  abbrev pub FollowsBy : Request → Settings → ℕ → (Settings → Wishes → Type 0) → Wishes → Type 0
  FollowsBy (Weight p weight) x n Later r = Later (record x { weights = with_weight p weight x.weights }) r
  FollowsBy (At pairs) x n Later r = Later (record x { modes = put_in x.modes pairs }) r
  FollowsBy (Want formula) x n Later r =
      (HasManyImplicants m formula MAX_IMPLICANTS × (r ≡ refused_at n MANY))
      ⊎ (HasFewImplicants m formula MAX_IMPLICANTS × (rest : Wishes) × Later x rest × (r ≡ with_item (record { settings = x; formula = formula }) rest))

  -- what the lines behind n lines ask for
  abbrev pub ReadsWishes : Settings → ℕ → List (List ℕ) → Wishes → Type 0
  ReadsWishes x n ls r = ReadsLines IsAsked FollowsBy x n ls r
