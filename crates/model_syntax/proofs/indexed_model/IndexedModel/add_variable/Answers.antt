use Rattle.std.proofs.Common.{ℕ, ◌≡◌, List, Some, length, map, Bor, sym, ap, subst, ◌∙◌}
use Rattle.std.specs.Prelude.{nat_eq}
use Rattle.std.specs.Cmp.Lexicographic.{pointwise}
use Rattle.indexmap.specs.IndexMap.{Updates}
use Rattle.cca_base.specs.declared.formula.Subject.TheVariants as subjects
use Rattle.cca_base.specs.declared.model.Variable.{Variable}
use Rattle.cca_base.specs.Model.{WellFormed}
use Rattle.formula_syntax.specs.Lookups.{subject_of}
use Rattle.model_syntax.specs.Reader.{IsIndexed}
use Rattle.model_syntax.proofs.AddedParts.{may_be_variable, variable_is_kept, short_name}
use Rattle.model_syntax.proofs.IndexedGrowth.{names_reserved, variable_indexed}
use Rattle.model_syntax.proofs.indexed_model.IndexedModel.add_variable.Goals as goal

abbrev words : List (Bor (List ℕ)) → List (List ℕ)
words ws = map (λ (w : Bor (List ℕ)). w.now) ws

pub names_of-requires : goal.names_of-requires
names_of-requires c = (may_be_variable c.args.self.now c.args.name.now (words c.args.values.now) c.requires.code).0.all_short

pub of-name-requires : goal.of-name-requires
of-name-requires c = short_name c.args.name.now (may_be_variable c.args.self.now c.args.name.now (words c.args.values.now) c.requires.code).0.short

pub add_variable-requires : goal.add_variable-requires
add_variable-requires c =
    let good = subst WellFormed c.self.view_is c.variables.ensures.well_formed in
    rw (c.self.view_is, c.of-name.ensures, c.in_ok-values.ensures)
    (variable_is_kept c.args.self.now c.args.name.now (words c.args.values.now) c.args.sensed good c.requires.bare.0 c.requires.bare.1 c.requires.code)

pub invariant_of-self : goal.invariant_of-self
invariant_of-self c = names_reserved _ _ _ c.self.invariant c.reserve.new.self c.reserve.ensures.entries

pub invariant_of-self-2 : goal.invariant_of-self-2
invariant_of-self-2 c =
    let m = c.self.inside.model in
    let x : Variable = record { name = c.of-name.result; values = c.in_ok-values.values; sensed = c.args.sensed } in
    let free = (may_be_variable c.args.self.now c.args.name.now (words c.args.values.now) c.requires.code).0.free in
    let count : c.len-number.result ≡ length m.variables = c.len-number.ensures ∙ (λ i. length (c.variables.ensures.value i)) in
    let updates = subst (λ n. Updates (pointwise nat_eq) c.reserve.new.self c.insert_new.new.map c.of-name.result (Some (subjects.Variable n))) count c.insert_new.ensures in
    subst (λ n. IsIndexed n c.insert_new.new.map c.self.inside.numbers) (sym c.in_ok-add_variable.ensures.ok)
    (variable_indexed m c.reserve.new.self c.self.inside.numbers (names_reserved _ _ _ c.self.invariant c.reserve.new.self c.reserve.ensures.entries) c.insert_new.new.map x (ap (λ n. subject_of n x.name) c.self.view_is ∙ ap (subject_of c.args.self.now) c.of-name.ensures ∙ free) updates)
