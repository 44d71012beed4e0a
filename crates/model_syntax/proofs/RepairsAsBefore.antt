-- In the first version the codes of repairs are what they were.
use Rattle.std.proofs.Common.{◌≡◌, ◌==◌, ◌||◌, ◌&&◌, Bool, true, not, [], ◌∷◌, ◌++◌, ap, inl, inr}
use Rattle.std.specs.Cmp.{both_ways}
use Rattle.std.specs.List.{list_any}
use Rattle.std.proofs.lemmas.Bool.{cases_Bool, and_parts, and_from, or_cases, or_left, or_right, eq-eqb, not_from_false}
use Rattle.std.proofs.lemmas.List.Elements.{Contains-append_left}
use Rattle.std.proofs.lemmas.List.Folds.{Any-from_list_any}
use Rattle.list_laws.proofs.Passing.{some_passes}
use Rattle.cca_base.specs.declared.model.Move.{Move}
use Rattle.cca_base.specs.PlantModel.{PlantModel}
use Rattle.cca_base.specs.Model.{is_broken}
use Rattle.model_syntax.specs.Codes.{leads_to, leads_unmarked, is_move_into_broken, is_repair_into_broken, is_into_broken, stands_in_chain}
use Rattle.model_syntax.specs.RepairLaws.{touches_broken, FirstVersionAsBefore}

module _ (m : PlantModel) (x : Move) (first : m.version ≡ 1) where
  abbrev broken : Bool
  broken = is_broken m.moves x.component x.target

  abbrev led : Bool
  led = list_any (leads_to x.component x.source) (m.moves ++ x ∷ [])

  is_first : (m.version == 1) ≡ true
  is_first = eq-eqb m.version 1 first

  -- an ordinary move that leads there leads there
  led_on : list_any (leads_unmarked x.component x.source) m.moves ≡ true → led ≡ true
  led_on h =
      let found = Any-from_list_any (leads_unmarked x.component x.source) m.moves h in
      some_passes (leads_to x.component x.source) (m.moves ++ x ∷ []) found.1 (Contains-append_left m.moves (x ∷ []) found.1 (found.0, found.2, found.3))
      (and_parts (not found.1.repair) (found.1.component == x.component && found.1.target == x.source) found.4).1

  on : is_into_broken m x ≡ true → touches_broken m.moves x ≡ true
  on h = elim (or_cases (is_move_into_broken m.moves x) (m.version == 1 && is_repair_into_broken m.moves x) h) [
    | inl move ↦ elim (or_cases (not x.repair && broken) (x.repair && list_any (leads_unmarked x.component x.source) m.moves) move) [
      | inl into ↦ or_left broken (x.repair && led) (and_parts (not x.repair) broken into).1
      | inr breaks ↦
          let parts = and_parts x.repair (list_any (leads_unmarked x.component x.source) m.moves) breaks in
          or_right broken (x.repair && led) (and_from x.repair led parts.0 (led_on parts.1))
    ]
    | inr repairs ↦
        let parts = and_parts x.repair (broken || led) (and_parts (m.version == 1) (is_repair_into_broken m.moves x) repairs).1 in
        elim (or_cases broken led parts.1) [
          | inl into ↦ or_left broken (x.repair && led) into
          | inr there ↦ or_right broken (x.repair && led) (and_from x.repair led parts.0 there)
        ]
  ]

  by_repair : x.repair ≡ true → (broken || led) ≡ true → is_into_broken m x ≡ true
  by_repair repair h = or_right (is_move_into_broken m.moves x) (m.version == 1 && is_repair_into_broken m.moves x)
      (and_from (m.version == 1) (is_repair_into_broken m.moves x) is_first (and_from x.repair (broken || led) repair h))

  back : touches_broken m.moves x ≡ true → is_into_broken m x ≡ true
  back h = elim (or_cases broken (x.repair && led) h) [
    | inl into ↦ elim (cases_Bool x.repair) [
      | inl repair ↦ by_repair repair (or_left broken led into)
      | inr plain ↦ or_left (is_move_into_broken m.moves x) (m.version == 1 && is_repair_into_broken m.moves x)
          (or_left (not x.repair && broken) (x.repair && list_any (leads_unmarked x.component x.source) m.moves) (and_from (not x.repair) broken (not_from_false x.repair plain) into))
    ]
    | inr there ↦ let parts = and_parts x.repair led there in by_repair parts.0 (or_right broken led parts.1)
  ]

pub first_version_as_before : FirstVersionAsBefore
first_version_as_before m x first = (
  both_ways (is_into_broken m x) (touches_broken m.moves x) (on m x first) (back m x first),
  ap (λ b. not b && (x.repair && stands_in_chain m x.component x.target x.source)) (eq-eqb m.version 1 first),
)
