use Rattle.std.proofs.Common.{◌≡◌, All, length, drop}
use Rattle.cca_base.specs.Model.{HasMode}
use Rattle.cca_base.specs.PlantModel.{PlantModel}
use Rattle.cca_base.specs.State.{IsState}
use Rattle.want_form.specs.Wishes.{put_in}
use Rattle.want_form.proofs.wishing.put_all.Given as goal

-- the pairs so far are put in, and each model that the plant fitted it fits
abbrev pub invariant-loop-pair : goal.invariant-loop-pair
invariant-loop-pair l =
    (length l.plant ≡ length l.fn.plant) × (put_in l.plant (drop l.pair-index l.pairs) ≡ put_in l.fn.plant l.pairs)
    × ((m : PlantModel) → IsState m l.fn.plant → All (λ p. HasMode m p.item p.value) l.pairs → IsState m l.plant)
