-- A run with proofs that ends has an input that a check accepts.
use Rattle.std.proofs.Common.{refl, arith}
use Rattle.std.specs.Prelude.{codes}
use Rattle.check_form.specs.CheckScript.{is_trace_line}
use Rattle.titan_top.specs.Laws.{RunsHaveOwnTraces}
use Rattle.titan_top.specs.OwnTraces.{IsTraceLine}

trace_line : IsTraceLine (codes "trace")
unfolding is_trace_line
trace_line = record { is = refl; clean = (refl, (refl, (refl, (refl, (refl, tt))))); short = omega arith }

pub runs_have_own_traces : RunsHaveOwnTraces
runs_have_own_traces front text input parts runs few written = record { front = front; trace = codes "trace"; text = text; parts = parts; runs = runs; between = trace_line; few = few; written = written }
