-- What adding up the bounds comes to.
use Rattle.cca_base.specs.Accepted.{SumFits}
use Rattle.cca_base.specs.PlantModel.{PlantModel}
use Rattle.cca_base.specs.Bounds.{AreBounds}
use Rattle.acceptance.specs.declared.bounds.Bounds.{Bounds}
use Rattle.acceptance.specs.declared.bounds.Bounds.TheVariants.{Fit, PassAt}
use Rattle.acceptance.specs.Refusals.{IsTooDeep}

-- the bounds, which add up to no more than they may, or the component at which they pass that
abbrev pub AreBoundsOrDeep : PlantModel → Bounds → Type 0
AreBoundsOrDeep m (Fit bounds) = AreBounds m bounds × SumFits bounds
AreBoundsOrDeep m (PassAt c) = IsTooDeep m c
