-- What a handle owns.
use base.Fml.{Fml, feq}
use base.Stored.{Coded}
use denote.RawPtr.{Ptr, null_ptr}
use Rattle.std.specs.Prelude.{Option}
use Rattle.std.specs.declared.option.Option.TheVariants.{Some, None}
use Rattle.std.specs.Coded.{coded_option}
use Rattle.std.specs.Box.Ownership.{box_owns}
use Rattle.std.specs.Global.{Global}
use Rattle.std.specs.contracts.impls.GlobalAllocator.TheImpl.{ghosts}
use denote.RattleType.{RattleType}
use Rattle.model_form.specs.contracts.with_model.WithModel as with_model
use Rattle.run_form.specs.contracts.run.RunAs as run_as
use Rattle.run_form.specs.contracts.script.Script as script
use Rattle.line_forms.specs.contracts.lines.Lines as lines
use Rattle.steady_events.specs.contracts.event_place.EventPlace as event_place
use Rattle.run_form.specs.RunMachine.{run_machine}
use Rattle.titan_session.specs.contracts.session.Session as session

-- sessions of `run`, as values of the machine
abbrev pub the_row : RattleType
the_row = session.the_row (with_model.the_row run_as.the_row (lines.the_row script.the_row event_place.the_row)) run_machine

-- what a handle owns, by what it holds: of nothing the pointer is null, of a session it is that of a box
abbrev pub handle_owns : Global → Ptr → Option the_row.Denot → Fml
handle_owns alloc p None = feq Ptr p null_ptr
handle_owns alloc p (Some x) = box_owns (ghosts.dealloc_token alloc) the_row p x

-- what a handle holds has a code
abbrev pub kept_coded : Coded (Option the_row.Denot)
kept_coded = coded_option the_row.coded
