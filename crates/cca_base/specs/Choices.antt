-- Rows of choices: what each component may become, and at what cost.
use Rattle.std.specs.Prelude.{◌≡◌, ◌≢◌, ◌≤◌, List, length, All, AllPairs}
use Rattle.std.specs.Ordering.{nat_cmp, on, then_cmp}
use Rattle.std.specs.declared.cmp.Ordering.{Ordering}
use Rattle.std.specs.declared.cmp.Ordering.TheVariants.{Less}
use Rattle.cca_base.specs.declared.choice.Choice.{Choice}
use Rattle.cca_base.specs.declared.limits.TheConstants.{MAX_COST, MAX_ROWS}

-- choices by cost, and then by mode
abbrev pub choice_cmp : Choice → Choice → Ordering
choice_cmp = then_cmp (on (λ x. x.cost) nat_cmp) (on (λ x. x.mode) nat_cmp)

-- choices that rise by cost and then by mode, each mode once, none too dear
pub record IsRow (row : List Choice) : Type 0 where
  pub rising : AllPairs (λ x y. choice_cmp x y ≡ Less) row
  pub once : AllPairs (λ x y. x.mode ≢ y.mode) row
  pub cheap : All (λ x. x.cost ≤ MAX_COST) row

-- as many rows at most as there are numbers of components
pub record AreRows (rows : List (List Choice)) : Type 0 where
  pub few : length rows ≤ MAX_ROWS
  pub each : All IsRow rows
