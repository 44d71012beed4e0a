use Rattle.std.proofs.Common.{◌≡◌, ◌++◌, false, ℕ, Some, IfSome, Ok, ap, subst}
use Rattle.cca_base.specs.PlantModel.{PlantModel}
use Rattle.cca_base.specs.Refusals.{bare, stop_code}
use Rattle.trace_text.specs.Json.{refusal_text}
use Rattle.program_form.specs.Stages.{ReadsTo, RunsWell, stage_of}
use Rattle.program_form.proofs.ReadPrograms.{reads_on, refuses, well_read}
use Rattle.program_form.proofs.programmed.Programmed.take_line.Goals as goal

pub begin-requires : goal.begin-requires
begin-requires c =
    let same : c.new-model.result ≡ c.self.inside.executive.compiled.model = cc in
    record { well = subst (λ (m : PlantModel). IfSome c.in-Ok.runner (RunsWell m)) same (well_read c.new-model.result c.in-Reading.reader c.args.line.now c.in-Ok.runner c.read_program.new.reader c.in-Ok.ensures.answer) }

pub returns-in_ok-begin-in-Ok-clause-serves : goal.returns-in_ok-begin-in-Ok-clause-serves
returns-in_ok-begin-in-Ok-clause-serves c =
    let same : c.new-model.result ≡ c.self.inside.executive.compiled.model = cc in
    let read = subst (λ (m : PlantModel). ReadsTo m c.in-Reading.reader c.args.line.now (Ok c.in-Ok.runner) c.read_program.new.reader) same c.in-Ok.ensures.answer in
    reads_on _ _ c.self.view_is c.args.number c.args.line.now c.in-Reading.reader c.read_program.new.reader (ap stage_of c.in-Reading.is) c.in-Ok.runner _ c.args.out.now read c.in_ok-begin-in-Ok.ensures

pub returns-in_ok-refuse_stop_to-in-Err-clause-serves : goal.returns-in_ok-refuse_stop_to-in-Err-clause-serves
returns-in_ok-refuse_stop_to-in-Err-clause-serves c =
    let same : c.new-model.result ≡ c.self.inside.executive.compiled.model = cc in
    refuses _ _ c.self.view_is c.args.number c.args.line.now c.in-Reading.reader c.read_program.new.reader (ap stage_of c.in-Reading.is) c.new-model.result c.in-Err.stop c.args.out.now c.refuse_stop_to.new.out same c.in-Err.ensures.answer
    (subst (λ (m : PlantModel). (code : ℕ) × (stop_code c.in-Err.stop ≡ Some code) × (c.refuse_stop_to.new.out.bytes ≡ c.args.out.now.bytes ++ refusal_text false m c.args.number (bare code))) c.model-in-Err.ensures c.in_ok-refuse_stop_to-in-Err.ensures.ok)
