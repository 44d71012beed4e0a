-- The machine of the lines behind a model in which target states are asked for.
use Rattle.std.specs.Prelude.{◌≡◌, ⊤, ℕ, false, List, []}
use Rattle.cca_base.specs.Accepted.{CompiledModel, IsCompiled}
use Rattle.cca_base.specs.Refusals.{bare}
use Rattle.cca_base.specs.declared.codes.TheConstants.{MANY}
use Rattle.cca_base.specs.declared.cube.Pair.{Pair}
use Rattle.goal_interpreter.specs.Targets.{IsTargetFor}
use Rattle.goal_interpreter.specs.declared.target.Target.{Target}
use Rattle.goal_interpreter.specs.declared.target.Target.TheVariants.{Found, Nowhere, Many}
use Rattle.line_forms.specs.LinesMachine.{lines_machine}
use Rattle.line_forms.specs.LineMeaning.{LineMeaning}
use Rattle.line_machine.specs.Next.{Next, GoesOn}
use Rattle.line_machine.specs.declared.machine.End.TheVariants.{Ended}
use Rattle.line_machine.specs.declared.machine.Machine.{Ghosts}
use Rattle.model_form.specs.declared.limits.TheConstants.{MAX_LINE}
use Rattle.model_form.specs.Answers.{answer}
use Rattle.model_form.specs.FormMachine.{form_machine}
use Rattle.model_form.specs.FormStates.{FormState}
use Rattle.model_form.specs.LineMachines.{form_of_lines}
use Rattle.model_form.specs.ModelSteps.{GoesOnIn, RefusesLine}
use Rattle.model_form.specs.declared.form.ModelForm.{Ghosts as FormGhosts}
use Rattle.model_form.specs.declared.lines.OfLines.{OfLines}
use Rattle.want_lines.specs.Requests.{FitsModel, IsRequestOf}
use Rattle.want_lines.specs.declared.request.Request.{Request}
use Rattle.want_lines.specs.declared.request.Request.TheVariants.{Weight, At, Want}
use Rattle.want_form.specs.Answered.{TargetText}
use Rattle.want_form.specs.Wishes.{Settings, first_settings, put_in, with_weight}

-- where the lines stand: the compiled model, what the modes weigh, and where the components stand
pub record WishState : Type 0 where
  pub compiled : CompiledModel
  pub settings : Settings

-- before the first line behind the model
abbrev pub wish_first : CompiledModel → WishState
wish_first b = record { compiled = b; settings = first_settings b.model }

-- the pair's mode has this weight
abbrev pub weighed : WishState → Pair → ℕ → WishState
weighed x p weight = record { compiled = x.compiled; settings = record { weights = with_weight p weight x.settings.weights; modes = x.settings.modes } }

-- the components of the pairs are in these modes
abbrev pub put_at : WishState → List Pair → WishState
put_at x pairs = record { compiled = x.compiled; settings = record { weights = x.settings.weights; modes = put_in x.settings.modes pairs } }

-- the answer for a wish: a target or none is printed, and the state stays; a wish with too many implicants is refused
abbrev pub AnswersBy : Target → WishState → ℕ → Next WishState → List ℕ → Type 0
AnswersBy (Found state weight goal) x n u text = (u ≡ GoesOn x) × TargetText x.compiled x.settings.modes (Found state weight goal) text
AnswersBy Nowhere x n u text = (u ≡ GoesOn x) × TargetText x.compiled x.settings.modes Nowhere text
AnswersBy Many x n u text = RefusesLine false x.compiled.model n (bare MANY) u text

-- what a request leads to: a weight or modes are set, or a wish is answered
abbrev pub ServesRequest : Request → WishState → ℕ → Next WishState → List ℕ → Type 0
ServesRequest (Weight p weight) x n u text = GoesOnIn (weighed x p weight) u text
ServesRequest (At pairs) x n u text = GoesOnIn (put_at x pairs) u text
ServesRequest (Want formula) x n u text = (target : Target) × IsTargetFor x.compiled x.settings.weights x.settings.modes formula target × AnswersBy target x n u text

-- what a line says and what is done for it: a request of the accepted model is served, and the lines may end anywhere
abbrev pub wish_lines : LineMeaning WishState Request
wish_lines = record {
  model_of = λ x. x.compiled.model;
  is_json = λ x. false;
  limit_of = λ x. MAX_LINE;
  said = λ x line said. IsCompiled x.compiled × IsRequestOf x.compiled.model line said;
  fits = λ x request. FitsModel x.compiled.model request;
  serves = ServesRequest;
  closing = λ x n. answer Ended [];
  awaits = λ x n. ⊤;
  steady = λ x n. ⊥;
}

-- the machine of the lines, which may end anywhere
abbrev pub wish_machine : Ghosts WishState
wish_machine = lines_machine wish_lines

-- what the form says at the line `script`
abbrev pub want_form : FormGhosts OfLines WishState
want_form = form_of_lines wish_first

-- the machine of the form `want`
abbrev pub want_machine : Ghosts (FormState OfLines WishState)
want_machine = form_machine want_form wish_machine
