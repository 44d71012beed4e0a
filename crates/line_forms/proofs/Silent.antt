-- A form that prints nothing at the end of its input.
use Rattle.std.proofs.Common.{◌≡◌, false, [], refl}
use Rattle.cca_base.specs.PlantModel.{PlantModel}
use Rattle.line_forms.specs.Asked.{ending_by}
use Rattle.model_form.specs.LinesEnds.{LinesEnd, AllRead, RefusedAt, ending}

-- only how the lines end is told
pub same_ending : {T : Type 0} (m : PlantModel) (t : T) (lines : LinesEnd) → ending_by false m (λ (x : T). []) t lines ≡ ending m lines
same_ending m t AllRead = refl
same_ending m t (RefusedAt line code) = refl
