-- What the lines of a form ask for, told without a machine: by what the lines before set, and by the text of each thing that is asked for.
use Rattle.std.specs.Prelude.{◌≡◌, ℕ, Bool, List, [], ◌∷◌, ◌++◌, Option, Result}
use Rattle.cca_base.specs.PlantModel.{PlantModel}
use Rattle.cca_base.specs.Refusals.{bare}
use Rattle.line_machine.specs.Next.{Next, GoesOn}
use Rattle.line_machine.specs.declared.machine.End.{End}
use Rattle.line_machine.specs.declared.machine.End.TheVariants.{Ended}
use Rattle.model_form.specs.Answers.{Answer, answer, refused_answer}
use Rattle.model_form.specs.LinesEnds.{LinesEnd, AllRead, RefusedAt, Asked, ReadsLines, refused_at, with_item}
use Rattle.model_form.specs.ModelSteps.{GoesOnIn, RefusesLine}
use Rattle.model_form.specs.declared.limits.TheConstants.{MAX_LINE}
use Rattle.line_forms.specs.LineMeaning.{LineMeaning}

-- what an item comes to: it sets something for the later lines; it asks for a thing, and leaves this set; or its line is refused
pub data Effect (S X : Type 0) : Type 0 where
  Sets : (y : S) → Effect S X
  Asks : (x : X) → (y : S) → Effect S X
  Denies : (code : ℕ) → Effect S X

-- the later lines behind an item that comes to this
abbrev pub FollowsEffect : {S X : Type 0} → Effect S X → ℕ → (S → Asked X → Type 0) → Asked X → Type 0
FollowsEffect (Sets y) n Later r = Later y r
FollowsEffect {S} {X} (Asks x y) n Later r = (rest : Asked X) × Later y rest × (r ≡ with_item x rest)
FollowsEffect (Denies code) n Later r = r ≡ refused_at n code

-- things that are asked for are told one behind the other, each where the one before it left off
module _ {T X : Type 0} (Shows : T → X → T → List ℕ → Type 0) where
  -- the texts of things, from here to there
  abbrev pub Shown : T → List X → T → List ℕ → Type 0
  Shown t [] y text = (y ≡ t) × (text ≡ [])
  Shown t (x ∷ xs) y text = (v : T) × (first rest : List ℕ) × Shows t x v first × Shown v xs y rest × (text ≡ first ++ rest)

-- what is told at the end of the lines
abbrev pub ending_by : {T : Type 0} → Bool → PlantModel → (T → List ℕ) → T → LinesEnd → Answer
ending_by json m closing t AllRead = answer Ended (closing t)
ending_by json m closing t (RefusedAt line code) = refused_answer json m line (bare code)

-- a form where it stands: what was told leads to a place, and what was set to settings
module _ {L S T X : Type 0} (json : Bool) (m : PlantModel) (at : T → S → L) (Shows : T → X → T → List ℕ → Type 0) where
  -- what the form does for an item that comes to this
  abbrev pub ServesEffect : Effect S X → T → ℕ → Next L → List ℕ → Type 0
  ServesEffect (Sets y) t n u text = GoesOnIn (at t y) u text
  ServesEffect (Asks x y) t n u text = (v : T) × Shows t x v text × (u ≡ GoesOn (at v y))
  ServesEffect (Denies code) t n u text = RefusesLine json m n (bare code) u text

module _ {L R S T X : Type 0} (form : LineMeaning L R) (json : Bool) (m : PlantModel) (at : T → S → L)
    (IsSaid : S → List ℕ → Result (Option R) ℕ → Type 0) (Follows : R → S → ℕ → (S → Asked X → Type 0) → Asked X → Type 0)
    (Leads : R → S → Effect S X → Type 0) (Shows : T → X → T → List ℕ → Type 0) (Ties : T → S → Type 0) (closing : T → List ℕ) where
  -- a form's state says and does what an item comes to, where its place and its settings go together, and they go on to
  pub record Tells : Type 1 where
    pub model : (t : T) (s : S) → form.model_of (at t s) ≡ m
    pub limit : (t : T) (s : S) → form.limit_of (at t s) ≡ MAX_LINE
    pub words : (t : T) (s : S) → form.is_json (at t s) ≡ json
    pub closes : (t : T) (s : S) (n : ℕ) → form.closing (at t s) n ≡ answer Ended (closing t)
    pub says : (t : T) (s : S) (l : List ℕ) (said : Result (Option R) ℕ) → Ties t s → form.said (at t s) l said → IsSaid s l said
    pub said : (t : T) (s : S) (l : List ℕ) (said : Result (Option R) ℕ) → Ties t s → IsSaid s l said → form.said (at t s) l said
    pub follows : (r : R) (s : S) (f : Effect S X) (n : ℕ) (Later : S → Asked X → Type 0) (a : Asked X) → Leads r s f → FollowsEffect f n Later a → Follows r s n Later a
    pub leads : (r : R) (s : S) (n : ℕ) (Later : S → Asked X → Type 0) (a : Asked X) → Follows r s n Later a → (f : Effect S X) × Leads r s f × FollowsEffect f n Later a
    pub does : (r : R) (t : T) (s : S) (n : ℕ) (u : Next L) (text : List ℕ) → Ties t s → form.serves r (at t s) n u text → (f : Effect S X) × Leads r s f × ServesEffect json m at Shows f t n u text
    pub serves : (r : R) (t : T) (s : S) (f : Effect S X) (n : ℕ) (u : Next L) (text : List ℕ) → Ties t s → Leads r s f → ServesEffect json m at Shows f t n u text → form.serves r (at t s) n u text
    pub sets : (r : R) (t : T) (s y : S) → Ties t s → Leads r s (Sets y) → Ties t y
    pub asks : (r : R) (t v : T) (s y : S) (x : X) (text : List ℕ) → Ties t s → Leads r s (Asks x y) → Shows t x v text → Ties v y

  -- what is printed of the lines behind n lines: the texts of what they ask for, and then that of how they end
  pub record TellsLines (t : T) (s : S) (n : ℕ) (ls : List (List ℕ)) (e : End) (text : List ℕ) : Type 0 where
    pub asked : Asked X
    pub told : List ℕ
    pub last : T
    pub reads : ReadsLines IsSaid Follows s n ls asked
    pub shown : Shown Shows t asked.items last told
    pub end : e ≡ (ending_by json m closing last asked.ending).end
    pub parts : text ≡ told ++ (ending_by json m closing last asked.ending).text
