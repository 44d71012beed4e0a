-- The model without any part is well formed, and one of the first version is well formed in the second.
use Rattle.std.proofs.Common.{ℕ, inr, refl, arith}
use Rattle.cca_base.specs.PlantModel.{PlantModel}
use Rattle.cca_base.specs.Model.{WellFormed, IsVersion, RepairsFit, empty_model, in_second}
use Rattle.cca_base.proofs.Growth.{with_lists}

pub empty_well_formed : (version : ℕ) → IsVersion version → WellFormed (empty_model version)
empty_well_formed version known = record {
  version = known;
  limits = record { components = omega arith; variables = omega arith; rules = omega arith; moves = omega arith; failures = omega arith };
  names = record { each = λ k d h. absurd (omega arith); different = λ i j d h k. absurd (omega arith) };
  command_names = record { each = λ k d h. absurd (omega arith); different = λ i j d h k. absurd (omega arith) };
  components = λ k d h. absurd (omega arith);
  variables = λ k d h. absurd (omega arith);
  rules = λ k d h. absurd (omega arith);
  moves = λ k d h. absurd (omega arith);
  failures = λ k d h. absurd (omega arith);
  repairs = record {
    one_target = λ c mode a b p q. absurd (omega (arith, p.of_model.1));
    no_cycle = λ c mode n p. absurd (omega (arith, p.1.of_model.1));
    at_once = λ first c mode next p. absurd (omega (arith, p.of_model.1));
    only_repairs_enter = λ k d h. absurd (omega arith);
    only_repairs_leave = λ k d h. absurd (omega arith);
  };
  commands = λ i j d h k. absurd (omega arith);
  first_use = λ i command move e h. absurd cc;
}

-- the rules of the first version are those of the second, and one more
second_fits : (m : PlantModel) → RepairsFit m.version m.moves → RepairsFit 2 m.moves
second_fits m h = record {
  one_target = h.one_target;
  no_cycle = h.no_cycle;
  at_once = λ first. absurd cc;
  only_repairs_enter = h.only_repairs_enter;
  only_repairs_leave = h.only_repairs_leave;
}

pub second_well_formed : (m : PlantModel) → WellFormed m → WellFormed (in_second m)
second_well_formed m h =
    with_lists m 2 m.rules m.moves m.failures h
    (inr refl, record { components = h.limits.components; variables = h.limits.variables; rules = h.limits.rules; moves = h.limits.moves; failures = h.limits.failures })
    h.rules h.moves h.failures (second_fits m h.repairs, h.commands, h.first_use)
