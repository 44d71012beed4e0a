use Rattle.std.proofs.Common.{◌≡◌, length}
use Rattle.group_search.specs.Columns.{AreColumns}
use Rattle.group_search.proofs.BoxLaws.{EachBelow}
use Rattle.group_search.proofs.path_box.PathBox.fill.Given as goal

abbrev pub invariant-loop-component : goal.invariant-loop-component
invariant-loop-component g l = record {
  masks : l.self.masks ≡ l.masks;
  shape : AreColumns (g.P.Paths.means.question l.problem) l.self.columns;
  stands : length l.self.stands ≡ (g.P.Paths.means.question l.problem).count;
  each : EachBelow (g.P.Paths.means.question l.problem) l.masks l.self.columns l.self.stands l.component;
}
