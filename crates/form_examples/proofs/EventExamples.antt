-- Lines of a script are read as the guide spells them.
use Rattle.std.proofs.Common.{refl}
use Rattle.text_base.specs.Pairs.{pair_at}
use Rattle.script_reader.specs.Items.{only_pairs, fault_at, mirror_at}
use Rattle.form_examples.specs.EventExamples.{EventsAreSpelt}

pub events_are_spelt : EventsAreSpelt
unfolding pair_at only_pairs fault_at mirror_at
events_are_spelt = record {
  goal = (_, refl, refl);
  clear = (_, refl, refl);
  observe = (_, refl, refl);
  fault = (_, refl, refl);
  mirror = (_, refl, refl);
  reset = (_, refl, refl);
  tick = (_, refl, refl);
  comment = (_, refl, refl);
  another = (_, refl, refl);
  one_more = (_, refl, refl);
}
