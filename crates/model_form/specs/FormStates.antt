-- Where a form that reads a model stands.
use Rattle.std.specs.Prelude.{false}
use Rattle.cca_base.specs.Model.{empty_model}
use Rattle.line_machine.specs.Next.{Next, GoesOn, Stops}
use Rattle.model_syntax.specs.Lines.{ModelSoFar}

-- in its model, or behind it, where its own machine takes the lines
pub data FormState (F : Type 0) (B : Type 0) : Type 0 where
  InModel : (form : F) → (read : ModelSoFar) → FormState F B
  Behind : (state : B) → FormState F B

-- what is read of a model before its first line
abbrev pub nothing_read : ModelSoFar
nothing_read = record { model = empty_model 1; begun = false }

-- a form before the first line of its model
abbrev pub form_first : {F B : Type 0} → F → FormState F B
form_first form = InModel form nothing_read

-- where the form's own machine goes on, the form stands behind its model
abbrev pub behind_next : {F B : Type 0} → Next B → Next (FormState F B)
behind_next (GoesOn b) = GoesOn (Behind b)
behind_next (Stops e) = Stops e
