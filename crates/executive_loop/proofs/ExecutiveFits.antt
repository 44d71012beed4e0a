-- What an executive keeps fits its model after each event.
use Rattle.std.proofs.Common.{◌≡◌, List, Option, None, IfSome, sym, subst}
use Rattle.cca_base.specs.declared.cube.Pair.{Pair}
use Rattle.cca_base.specs.declared.events.Event.{Event}
use Rattle.cca_base.specs.Accepted.{CompiledModel}
use Rattle.cca_base.specs.Orders.{IsSorted}
use Rattle.cca_base.specs.Plans.{Promising}
use Rattle.cca_base.specs.Trace.{ExecutiveState, Changes, MayCome}
use Rattle.policy_tables.specs.Tables.{TableParts}
use Rattle.trace_laws.proofs.FitsStay.{stays_fitting}
use Rattle.executive_loop.specs.Covering.{AreTablesOf}
use Rattle.executive_loop.specs.Parts.{ExecutiveParts, IsExecutive}

-- an event that is no tick, seen from outside as from the fields, leaves an executive with the same tables or none
pub still_executive : (x given : ExecutiveParts) (b : CompiledModel) (e : Event) (y : ExecutiveState) (seen : List Pair) (tables : Option TableParts)
    → IsExecutive x → x ≡ given → MayCome given.compiled.model given.state.pending given.state.mirrored e → b ≡ x.compiled → Changes b.model (IsSorted b.order) x.state e y
    → IfSome tables (AreTablesOf x.compiled) → IsExecutive (record { compiled = x.compiled; state = y; last_seen = seen; tables = tables })
still_executive x given b e y seen tables before same may own changes of = record {
  compiled = before.compiled;
  fits = stays_fitting x.compiled before.compiled (Promising x.compiled) x.state y e None before.fits
      (subst (λ (z : ExecutiveParts). MayCome z.compiled.model z.state.pending z.state.mirrored e) (sym same) may)
      (subst (λ (z : CompiledModel). Changes z.model (IsSorted z.order) x.state e y) own changes);
  tables = of;
}
