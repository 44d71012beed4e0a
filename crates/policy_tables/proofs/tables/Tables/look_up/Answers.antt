use Rattle.std.proofs.Common.{◌∙◌, ap, sym, subst}
use Rattle.cca_base.specs.Model.{HasMode}
use Rattle.reach_laws.specs.Cells.{IsCell, cell_at}
use Rattle.reversibility.specs.ClassParts.{in_row}
use Rattle.policy_tables.specs.Tables.{TableParts, IsTables}
use Rattle.policy_tables.proofs.Choices.{choice_from}
use Rattle.policy_tables.proofs.CodeAt.{code_at, code_is}
use Rattle.policy_tables.proofs.Filled.{filled_tables, modes_read}
use Rattle.policy_tables.proofs.tables.Tables.look_up.Goals as goal

pub read-requires : goal.read-requires
read-requires g c =
    let s = c.self.inside in
    let counted = modes_read s.classes.compiled.model c.args.c (c.components.ensures.value ∙ ap (λ z. z.components) (c.model.ensures.value ∙ ap (λ z. z.model) c.compiled.ensures.value))
    c.get-component.ensures.value c.len-modes.ensures in
    let has_mode : (mode : _) → HasMode c.args.self.now.classes.compiled.model c.args.c mode → HasMode s.classes.compiled.model c.args.c mode =
    λ mode. subst (λ (t : TableParts). HasMode t.classes.compiled.model c.args.c mode) (sym c.self.view_is) in
    code_is s.classes s.ways s.tables.items c.self.invariant.0.filled c.args.c c.args.from c.args.to (has_mode c.args.from c.requires.from) c.index.result.now c.len-modes.result c.get-code.result.now
    c.index.ensures counted c.get-code.ensures.value (has_mode c.args.to c.requires.to)

pub returns-clause-place : goal.returns-clause-place
returns-clause-place g c =
    let s = c.self.inside in
    let counted = modes_read s.classes.compiled.model c.args.c (c.components.ensures.value ∙ ap (λ z. z.components) (c.model.ensures.value ∙ ap (λ z. z.model) c.compiled.ensures.value))
    c.get-component.ensures.value c.len-modes.ensures in
    let has_from = subst (λ (t : TableParts). HasMode t.classes.compiled.model c.args.c c.args.from) (sym c.self.view_is) c.requires.from in
    c.read.ensures
    ∙ code_at s.classes s.ways s.tables.items c.self.invariant.0.filled c.args.c c.args.from c.args.to has_from c.index.result.now c.len-modes.result c.get-code.result.now
    c.index.ensures counted c.get-code.ensures.value
    ∙ ap (λ (t : TableParts). cell_at t.classes.compiled.model t.cells c.args.c c.args.from c.args.to) c.self.view_is

pub returns-clause-cell : goal.returns-clause-cell
returns-clause-cell g c =
    let s = c.self.inside in
    let t = c.args.self.now in
    let is : IsTables t = subst IsTables c.self.view_is (filled_tables s.classes s.ways s.tables.items c.self.invariant.0.classes c.self.invariant.0.filled) in
    subst (IsCell t.classes.compiled (in_row t.classes.rows) c.args.c c.args.from c.args.to) (sym (returns-clause-place g c))
    (is.cells.policy c.args.c c.args.from c.args.to c.requires.from c.requires.to c.requires.stands)

pub returns-clause-chosen : goal.returns-clause-chosen
returns-clause-chosen g c =
    let s = c.self.inside in
    let t = c.args.self.now in
    let is : IsTables t = subst IsTables c.self.view_is (filled_tables s.classes s.ways s.tables.items c.self.invariant.0.classes c.self.invariant.0.filled) in
    choice_from t.classes is.classes c.args.c c.args.from c.args.to c.requires.from _ (returns-clause-cell g c)
