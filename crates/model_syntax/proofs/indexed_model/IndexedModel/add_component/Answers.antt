use Rattle.std.proofs.Common.{◌≡◌, ℕ, List, Some, length, map, Bor, sym, ap, subst, ◌∙◌, arith}
use Rattle.std.specs.Prelude.{nat_eq, is_some, unwrap_or}
use Rattle.std.specs.Cmp.Lexicographic.{pointwise}
use Rattle.indexmap.specs.IndexMap.{Updates}
use Rattle.cca_base.specs.declared.formula.Subject.TheVariants as subjects
use Rattle.cca_base.specs.declared.model.Component.{Component}
use Rattle.cca_base.specs.Model.{WellFormed}
use Rattle.formula_syntax.specs.Lookups.{subject_of}
use Rattle.model_syntax.specs.Codes.{start_mode}
use Rattle.model_syntax.specs.Reader.{IsIndexed}
use Rattle.model_syntax.proofs.AddedParts.{may_be_component, component_is_kept, start_found, short_name, few_choices}
use Rattle.model_syntax.proofs.IndexedGrowth.{names_reserved, component_indexed}
use Rattle.model_syntax.proofs.indexed_model.IndexedModel.add_component.Goals as goal

abbrev words : List (Bor (List ℕ)) → List (List ℕ)
words ws = map (λ (w : Bor (List ℕ)). w.now) ws

pub unwrap-start-requires : goal.unwrap-start-requires
unwrap-start-requires c =
    let h = may_be_component c.args.self.now c.args.name.now (words c.args.modes.now) c.args.start.now c.requires.code in
    ap is_some c.start_mode.ensures.start ∙ h.found

pub names_of-requires : goal.names_of-requires
names_of-requires c = (may_be_component c.args.self.now c.args.name.now (words c.args.modes.now) c.args.start.now c.requires.code).names.all_short

pub of-name-requires : goal.of-name-requires
of-name-requires c = short_name c.args.name.now (may_be_component c.args.self.now c.args.name.now (words c.args.modes.now) c.args.start.now c.requires.code).names.short

pub overflow_cast-start : goal.overflow_cast-start
overflow_cast-start c =
    let h = may_be_component c.args.self.now c.args.name.now (words c.args.modes.now) c.args.start.now c.requires.code in
    let e : unwrap_or (start_mode (words c.args.modes.now) c.args.start.now) 0 ≡ c.unwrap-start.result = ap (λ o. unwrap_or o 0) (sym c.start_mode.ensures.start ∙ c.unwrap-start.ensures) in
    let within = start_found (words c.args.modes.now) c.args.start.now h.found in
    let few = few_choices (words c.args.modes.now) h.names.few in
    omega (arith, e, within, few)

pub add_component-requires : goal.add_component-requires
add_component-requires c =
    let e : unwrap_or (start_mode (words c.args.modes.now) c.args.start.now) 0 ≡ c.unwrap-start.result = ap (λ o. unwrap_or o 0) (sym c.start_mode.ensures.start ∙ c.unwrap-start.ensures) in
    let good = subst WellFormed c.self.view_is c.components.ensures.well_formed in
    rw (c.self.view_is, c.of-name.ensures, c.in_ok-modes.ensures, ← e)
    (component_is_kept c.args.self.now c.args.name.now (words c.args.modes.now) c.args.start.now good c.requires.bare c.requires.code)

pub invariant_of-self : goal.invariant_of-self
invariant_of-self c = names_reserved _ _ _ c.self.invariant c.reserve.new.self c.reserve.ensures.entries

pub invariant_of-self-2 : goal.invariant_of-self-2
invariant_of-self-2 c =
    let m = c.self.inside.model in
    let x : Component = record { name = c.of-name.result; modes = c.in_ok-modes.modes; start = c.unwrap-start.result } in
    let free = (may_be_component c.args.self.now c.args.name.now (words c.args.modes.now) c.args.start.now c.requires.code).names.free in
    let count : c.len-number.result ≡ length m.components = c.len-number.ensures ∙ (λ i. length (c.components.ensures.value i)) in
    let updates = subst (λ n. Updates (pointwise nat_eq) c.reserve.new.self c.insert_new.new.map c.of-name.result (Some (subjects.Component n))) count c.insert_new.ensures in
    subst (λ n. IsIndexed n c.insert_new.new.map c.self.inside.numbers) (sym c.in_ok-add_component.ensures.ok)
    (component_indexed m c.reserve.new.self c.self.inside.numbers (names_reserved _ _ _ c.self.invariant c.reserve.new.self c.reserve.ensures.entries) c.insert_new.new.map x (ap (λ n. subject_of n x.name) c.self.view_is ∙ ap (subject_of c.args.self.now) c.of-name.ensures ∙ free) updates)
