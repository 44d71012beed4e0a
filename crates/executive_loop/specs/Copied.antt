-- Copies of what an executive keeps, as lists.
use Rattle.std.specs.Prelude.{◌≡◌, []}
use Rattle.std.specs.Option.{option_map}
use Rattle.cca_base.specs.declared.limits.TheConstants.{MAX_COMPONENTS, MAX_VARIABLES}
use Rattle.executive_loop.specs.declared.shown.Copies.{Copies}
use Rattle.executive_loop.specs.declared.shown.Lists.{Lists}
use Rattle.executive_loop.specs.Parts.{ExecutiveParts}

-- what the executive has pending, wants and saw last
pub record AreListsOf (x : ExecutiveParts) (lists : Lists) : Type 0 where
  pub pending : lists.pending.pairs ≡ x.state.pending
  pub goal : option_map (λ g. g.pairs) lists.goal ≡ x.state.goal
  pub last_seen : lists.last_seen.pairs ≡ x.last_seen

-- nothing is copied yet, and there is room for the lists of any model
pub record AreEmptyCopies (c : Copies) : Type 0 where
  pub pending : c.pending ≡ record { items = []; room = MAX_VARIABLES }
  pub goal : c.goal ≡ record { items = []; room = MAX_COMPONENTS }
  pub last_seen : c.last_seen ≡ record { items = []; room = MAX_VARIABLES }
  pub estimate : c.estimate ≡ record { items = []; room = MAX_COMPONENTS }
