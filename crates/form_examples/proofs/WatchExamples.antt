-- Lines of a watch are read as the guide spells them.
use Rattle.std.proofs.Common.{refl, arith}
use Rattle.form_examples.specs.WatchExamples.{WatchLinesAreSpelt}

pub watch_lines_are_spelt : WatchLinesAreSpelt
watch_lines_are_spelt = record {
  sent = (_, refl, (refl, (refl, tt)));
  observe = (_, refl, (refl, (omega arith, ((refl, (refl, tt)), tt))));
  reset = (_, refl, (refl, tt));
  tick = (_, refl, (refl, tt));
}
