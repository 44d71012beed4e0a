-- What is asked for by the lines behind a model and what is done for it go together.
use Rattle.std.proofs.Common.{◌≡◌, ◌⊎◌, ℕ, false, inl, inr, List, [], ◌∷◌, refl, sym, subst, ◌∙◌}
use Rattle.cca_base.specs.Accepted.{CompiledModel, IsCompiled}
use Rattle.cca_base.specs.declared.codes.TheConstants.{MANY}
use Rattle.cca_base.specs.declared.formula.Formula.{Formula}
use Rattle.goal_interpreter.specs.Targets.{IsTargetFor}
use Rattle.goal_interpreter.specs.declared.target.Target.{Target}
use Rattle.goal_interpreter.specs.declared.target.Target.TheVariants.{Found, Nowhere, Many}
use Rattle.goal_interpreter.specs.declared.target.TheConstants.{MAX_IMPLICANTS}
use Rattle.goal_interpreter.proofs.OneAnswer.{few_or_many}
use Rattle.guard_compiler.specs.Wishes.{HasFewImplicants, HasManyImplicants}
use Rattle.line_forms.specs.Asked.{Effect, Sets, Asks, Denies, FollowsEffect, ServesEffect, Shown, Tells}
use Rattle.line_machine.specs.Next.{Next, GoesOn}
use Rattle.want_lines.specs.declared.request.Request.{Request}
use Rattle.want_lines.specs.declared.request.Request.TheVariants.{Weight, At, Want}
use Rattle.want_form.specs.Answered.{TargetText, WishText, WishesText}
use Rattle.want_form.specs.WishMachine.{WishState, AnswersBy, ServesRequest, wish_lines}
use Rattle.want_form.specs.Wishes.{Settings, Wish, Wishes, IsAsked, FollowsBy, with_weight, put_in}

module _ (b : CompiledModel) where
  -- the lines with these settings; what was told changes nothing
  abbrev pub at : Unit {0} → Settings → WishState
  at t x = record { compiled = b; settings = x }

  -- a wish has its text
  abbrev pub Shows : Unit {0} → Wish → Unit {0} → List ℕ → Type 0
  Shows t w y text = WishText b w text

  -- what a request comes to
  abbrev pub Leads : Request → Settings → Effect Settings Wish → Type 0
  Leads (Weight p weight) x f = f ≡ Sets (record { weights = with_weight p weight x.weights; modes = x.modes })
  Leads (At pairs) x f = f ≡ Sets (record { weights = x.weights; modes = put_in x.modes pairs })
  Leads (Want formula) x f =
      (HasManyImplicants b.model formula MAX_IMPLICANTS × (f ≡ Denies MANY))
      ⊎ (HasFewImplicants b.model formula MAX_IMPLICANTS × (f ≡ Asks (record { settings = x; formula = formula }) x))

  pub leads_one : (r : Request) (x : Settings) (f g : Effect Settings Wish) → Leads r x f → Leads r x g → f ≡ g
  leads_one (Weight p weight) x f g h k = h ∙ sym k
  leads_one (At pairs) x f g h k = h ∙ sym k
  leads_one (Want formula) x f g (inl (many, h)) (inl (again, k)) = h ∙ sym k
  leads_one (Want formula) x f g (inl (many, h)) (inr (few, k)) = absurd (few_or_many b.model formula MAX_IMPLICANTS few many)
  leads_one (Want formula) x f g (inr (few, h)) (inl (many, k)) = absurd (few_or_many b.model formula MAX_IMPLICANTS few many)
  leads_one (Want formula) x f g (inr (few, h)) (inr (again, k)) = h ∙ sym k

  module _ (n : ℕ) (Later : Settings → Wishes → Type 0) (a : Wishes) where
    -- the later lines by what a request comes to
    abbrev By : Effect Settings Wish → Type 0
    By f = FollowsEffect f n Later a

    follows : (r : Request) (x : Settings) (f : Effect Settings Wish) → Leads r x f → By f → FollowsBy b.model r x n Later a
    follows (Weight p weight) x f h k = subst By h k
    follows (At pairs) x f h k = subst By h k
    follows (Want formula) x f (inl (many, h)) k = inl (many, subst By h k)
    follows (Want formula) x f (inr (few, h)) k = let (rest, later, is) = subst By h k in inr (few, rest, later, is)

    pub leads : (r : Request) (x : Settings) → FollowsBy b.model r x n Later a → (f : Effect Settings Wish) × Leads r x f × By f
    leads (Weight p weight) x h = (Sets (record { weights = with_weight p weight x.weights; modes = x.modes }), refl, h)
    leads (At pairs) x h = (Sets (record { weights = x.weights; modes = put_in x.modes pairs }), refl, h)
    leads (Want formula) x (inl (many, is)) = (Denies MANY, inl (many, refl), is)
    leads (Want formula) x (inr (few, rest, later, is)) = (Asks (record { settings = x; formula = formula }) x, inr (few, refl), (rest, later, is))

  module _ (n : ℕ) (u : Next WishState) (text : List ℕ) (x : Settings) where
    -- what is done by what a request comes to
    abbrev Does : Effect Settings Wish → Type 0
    Does f = ServesEffect false b.model at Shows f tt n u text

    answered : (formula : Formula) (target : Target) → IsTargetFor b x.weights x.modes formula target → AnswersBy target (at tt x) n u text → (f : Effect Settings Wish) × Leads (Want formula) x f × Does f
    answered formula (Found state weight goal) is h = (Asks (record { settings = x; formula = formula }) x, inr (is.few, refl), (tt, (Found state weight goal, is, h.1), h.0))
    answered formula Nowhere is h = (Asks (record { settings = x; formula = formula }) x, inr (is.0, refl), (tt, (Nowhere, is, h.1), h.0))
    answered formula Many is h = (Denies MANY, inl (is, refl), h)

    pub does : (r : Request) → ServesRequest r (at tt x) n u text → (f : Effect Settings Wish) × Leads r x f × Does f
    does (Weight p weight) h = (Sets (record { weights = with_weight p weight x.weights; modes = x.modes }), refl, h)
    does (At pairs) h = (Sets (record { weights = x.weights; modes = put_in x.modes pairs }), refl, h)
    does (Want formula) (target, is, h) = answered formula target is h

    answers : (target : Target) → u ≡ GoesOn (at tt x) → TargetText b x.modes target text → AnswersBy target (at tt x) n u text
    answers (Found state weight goal) next h = (next, h)
    answers Nowhere next h = (next, h)
    answers Many next h = absurd h

    serves : (r : Request) (f : Effect Settings Wish) → Leads r x f → Does f → ServesRequest r (at tt x) n u text
    serves (Weight p weight) f h k = subst Does h k
    serves (At pairs) f h k = subst Does h k
    serves (Want formula) f (inl (many, h)) k = (Many, many, subst Does h k)
    serves (Want formula) f (inr (few, h)) k =
        let (y, (target, is, words), next) = subst Does h k in
        (target, is, answers target next words)

  pub tells : IsCompiled b → Tells wish_lines false b.model at (IsAsked b.model) (FollowsBy b.model) Leads Shows (λ t x. Unit {0}) (λ t. [])
  tells compiled = record {
    model = λ t x. refl;
    limit = λ t x. refl;
    words = λ t x. refl;
    closes = λ t x n. refl;
    says = λ t x l said tie h. h.1;
    said = λ t x l said tie h. (compiled, h);
    follows = λ r x f n Later a h k. follows n Later a r x f h k;
    leads = λ r x n Later a h. leads n Later a r x h;
    does = λ r t x n u text tie h. does n u text x r h;
    serves = λ r t x f n u text tie h k. serves n u text x r f h k;
    sets = λ r t x y tie h. tt;
    asks = λ r t v x y w text tie h k. tt;
  }

  -- the texts of wishes are shown one behind the other
  pub wishes_shown : (ws : List Wish) (text : List ℕ) → WishesText b ws text → Shown Shows tt ws tt text
  wishes_shown [] text h = (refl, h)
  wishes_shown (w ∷ ws) text (first, rest, one, more, parts) = (tt, first, rest, one, wishes_shown ws rest more, parts)

  pub shown_wishes : (ws : List Wish) (t y : Unit {0}) (text : List ℕ) → Shown Shows t ws y text → WishesText b ws text
  shown_wishes [] t y text h = h.1
  shown_wishes (w ∷ ws) t y text (v, first, rest, one, more, parts) = (first, rest, one, shown_wishes ws v y rest more, parts)
