use Rattle.std.proofs.Common.{◌≡◌, ◌⊎◌, Some, sym, ap, subst, ◌∙◌}
use Rattle.titan_top.specs.FormFront.{IsFrontOf}
use Rattle.titan_top.specs.Meanings.{meaning_of}
use Rattle.titan_top.specs.Output.{IsOutcome, IsCut, NothingRefused, SomeRefused, SomeRejected}
use Rattle.titan_top.specs.Statuses.{status_of}
use Rattle.titan_top.specs.Streams.{HasRoomForWords, OfInput, input_for}
use Rattle.titan_top.specs.Wire.{WritesAs}
use Rattle.titan_top.specs.Words.{asked}
use Rattle.titan_top.specs.declared.status.Status.TheVariants.{Ended, Rejected, Refused, Memory}
use Rattle.titan_top.specs.declared.words.Form.TheVariants.{Run, Show, Trial, Check}
use Rattle.run_form.specs.declared.notation.Notation.TheVariants.{Words}
use Rattle.titan_top.proofs.EverySource.{only_check, whole_at_end, form_silent, show_to_script}
use Rattle.titan_top.proofs.FormAnswers.{usage_room, form_prints, form_streams}
use Rattle.titan_top.proofs.FormStatuses.{no_read, form_ended, form_refused, form_rejected, ended_where, refused_where, rejected_where, completes}
use Rattle.titan_top.proofs.Fronts.{form_front}
use Rattle.titan_top.proofs.Memory.{words_memory}
use Rattle.titan_top.proofs.Promised.{all_also, all_promised}
use Rattle.titan_top.proofs.OwnTraces.{own_where}
use Rattle.titan_top.proofs.TraceIsChecked.{check_is_checked}
use Rattle.titan_top.proofs.WordsOfForms.{all_words, form_writes, the_form, usage_answers, usage_completes}
use Rattle.titan_top.proofs.top.titan.Goals as goal

-- ---- words of no form

pub send_usage-requires : goal.send_usage-requires
send_usage-requires g c = usage_room (g.S.Source.left c.args.source.now) (g.K.Sink.space c.args.sink.now) (subst (λ f. HasRoomForWords f (g.S.Source.left c.args.source.now) (g.K.Sink.space c.args.sink.now)) (sym (rw c.deref.ensures.value at c.in-None.ensures)) c.requires)

pub returns-in-None-clause-checked : goal.returns-in-None-clause-checked
returns-in-None-clause-checked g c = check_is_checked c.args.words.now.items _

pub returns-in-None-clause-text : goal.returns-in-None-clause-text
returns-in-None-clause-text g c = usage_answers c.args.words.now.items (sym (rw c.deref.ensures.value at c.in-None.ensures)) _ _ _ _ c.send_usage.ensures.sent

pub returns-in-None-clause-complete : goal.returns-in-None-clause-complete
returns-in-None-clause-complete g c read write =
    usage_completes c.args.words.now.items (sym (rw c.deref.ensures.value at c.in-None.ensures)) _ _ c.send_usage.ensures.only (λ e. write (c.send_usage.ensures.fault e))

-- ---- words of a form

pub returns-in-Some-clause-text : goal.returns-in-Some-clause-text
returns-in-Some-clause-text g c =
    subst (λ t. OfInput (asked c.args.words.now.items) (g.S.Source.left c.args.source.now) (λ b. WritesAs t (g.K.Sink.written c.args.sink.now) (g.K.Sink.written c.drive_form.new.sink) (IsOutcome c.args.words.now.items b))) (sym c.status_of.ensures)
    (form_writes c.args.words.now.items c.in-Some.form (rw c.deref.ensures.value at c.in-Some.ensures) (status_of c.drive_form.result) (g.S.Source.left c.args.source.now) (g.K.Sink.written c.args.sink.now) (g.K.Sink.written c.drive_form.new.sink) (form_prints c.in-Some.form (g.S.Source.left c.args.source.now) (g.S.Source.left c.drive_form.new.source) (g.K.Sink.written c.args.sink.now) (g.K.Sink.written c.drive_form.new.sink) _ _ c.drive_form.result c.drive_form.ensures.driven))

pub returns-in-Some-clause-checked : goal.returns-in-Some-clause-checked
returns-in-Some-clause-checked g c = check_is_checked c.args.words.now.items _

pub returns-in-Some-clause-ended : goal.returns-in-Some-clause-ended
returns-in-Some-clause-ended g c e = all_words c.args.words.now.items c.in-Some.form (rw c.deref.ensures.value at c.in-Some.ensures) NothingRefused (g.S.Source.left c.args.source.now) (form_ended c.in-Some.form c.drive_form.result (input_for (Some c.in-Some.form) (g.S.Source.left c.args.source.now)) (g.K.Sink.written c.args.sink.now) (g.K.Sink.written c.drive_form.new.sink) (form_prints c.in-Some.form (g.S.Source.left c.args.source.now) (g.S.Source.left c.drive_form.new.source) (g.K.Sink.written c.args.sink.now) (g.K.Sink.written c.drive_form.new.sink) _ _ c.drive_form.result c.drive_form.ensures.driven) (sym c.status_of.ensures ∙ e))

pub returns-in-Some-clause-refused : goal.returns-in-Some-clause-refused
returns-in-Some-clause-refused g c e = all_words c.args.words.now.items c.in-Some.form (rw c.deref.ensures.value at c.in-Some.ensures) SomeRefused (g.S.Source.left c.args.source.now) (form_refused c.in-Some.form c.drive_form.result (input_for (Some c.in-Some.form) (g.S.Source.left c.args.source.now)) (g.K.Sink.written c.args.sink.now) (g.K.Sink.written c.drive_form.new.sink) (form_prints c.in-Some.form (g.S.Source.left c.args.source.now) (g.S.Source.left c.drive_form.new.source) (g.K.Sink.written c.args.sink.now) (g.K.Sink.written c.drive_form.new.sink) _ _ c.drive_form.result c.drive_form.ensures.driven) (sym c.status_of.ensures ∙ e))

pub returns-in-Some-clause-rejected : goal.returns-in-Some-clause-rejected
returns-in-Some-clause-rejected g c e = all_words c.args.words.now.items c.in-Some.form (rw c.deref.ensures.value at c.in-Some.ensures) SomeRejected (g.S.Source.left c.args.source.now) (form_rejected c.in-Some.form c.drive_form.result (input_for (Some c.in-Some.form) (g.S.Source.left c.args.source.now)) (g.K.Sink.written c.args.sink.now) (g.K.Sink.written c.drive_form.new.sink) (form_prints c.in-Some.form (g.S.Source.left c.args.source.now) (g.S.Source.left c.drive_form.new.source) (g.K.Sink.written c.args.sink.now) (g.K.Sink.written c.drive_form.new.sink) _ _ c.drive_form.result c.drive_form.ensures.driven) (sym c.status_of.ensures ∙ e))

pub returns-in-Some-clause-ended_where : goal.returns-in-Some-clause-ended_where
returns-in-Some-clause-ended_where g c read write =
    rw c.status_of.ensures (all_words c.args.words.now.items c.in-Some.form (rw c.deref.ensures.value at c.in-Some.ensures) (λ f input. NothingRefused f input → (status_of c.drive_form.result ≡ Ended) ⊎ (status_of c.drive_form.result ≡ Memory)) (g.S.Source.left c.args.source.now)
    (ended_where c.in-Some.form (input_for (Some c.in-Some.form) (g.S.Source.left c.args.source.now)) c.drive_form.result (g.K.Sink.written c.args.sink.now) (g.K.Sink.written c.drive_form.new.sink) (form_prints c.in-Some.form (g.S.Source.left c.args.source.now) (g.S.Source.left c.drive_form.new.source) (g.K.Sink.written c.args.sink.now) (g.K.Sink.written c.drive_form.new.sink) _ _ c.drive_form.result c.drive_form.ensures.driven) (c.drive_form.ensures.faults.complete read write)))

pub returns-in-Some-clause-refused_where : goal.returns-in-Some-clause-refused_where
returns-in-Some-clause-refused_where g c read write =
    rw c.status_of.ensures (all_words c.args.words.now.items c.in-Some.form (rw c.deref.ensures.value at c.in-Some.ensures) (λ f input. SomeRefused f input → (status_of c.drive_form.result ≡ Refused) ⊎ (status_of c.drive_form.result ≡ Memory)) (g.S.Source.left c.args.source.now)
    (refused_where c.in-Some.form (input_for (Some c.in-Some.form) (g.S.Source.left c.args.source.now)) c.drive_form.result (g.K.Sink.written c.args.sink.now) (g.K.Sink.written c.drive_form.new.sink) (form_prints c.in-Some.form (g.S.Source.left c.args.source.now) (g.S.Source.left c.drive_form.new.source) (g.K.Sink.written c.args.sink.now) (g.K.Sink.written c.drive_form.new.sink) _ _ c.drive_form.result c.drive_form.ensures.driven) (c.drive_form.ensures.faults.complete read write)))

pub returns-in-Some-clause-rejected_where : goal.returns-in-Some-clause-rejected_where
returns-in-Some-clause-rejected_where g c read write =
    rw c.status_of.ensures (all_words c.args.words.now.items c.in-Some.form (rw c.deref.ensures.value at c.in-Some.ensures) (λ f input. SomeRejected f input → (status_of c.drive_form.result ≡ Rejected) ⊎ (status_of c.drive_form.result ≡ Memory)) (g.S.Source.left c.args.source.now)
    (rejected_where c.in-Some.form (input_for (Some c.in-Some.form) (g.S.Source.left c.args.source.now)) c.drive_form.result (g.K.Sink.written c.args.sink.now) (g.K.Sink.written c.drive_form.new.sink) (form_prints c.in-Some.form (g.S.Source.left c.args.source.now) (g.S.Source.left c.drive_form.new.source) (g.K.Sink.written c.args.sink.now) (g.K.Sink.written c.drive_form.new.sink) _ _ c.drive_form.result c.drive_form.ensures.driven) (c.drive_form.ensures.faults.complete read write)))

pub returns-in-Some-clause-own_traces : goal.returns-in-Some-clause-own_traces
returns-in-Some-clause-own_traces g c read write check =
    rw c.status_of.ensures (own_where c.in-Some.form (the_form c.args.words.now.items c.in-Some.form (rw c.deref.ensures.value at c.in-Some.ensures) Check check) (g.S.Source.left c.args.source.now) c.drive_form.result (g.K.Sink.written c.args.sink.now) (g.K.Sink.written c.drive_form.new.sink) (form_prints c.in-Some.form (g.S.Source.left c.args.source.now) (g.S.Source.left c.drive_form.new.source) (g.K.Sink.written c.args.sink.now) (g.K.Sink.written c.drive_form.new.sink) _ _ c.drive_form.result c.drive_form.ensures.driven) (c.drive_form.ensures.faults.complete read write))

pub returns-in-Some-clause-complete : goal.returns-in-Some-clause-complete
returns-in-Some-clause-complete g c read write =
    rw c.status_of.ensures (completes (input_for (asked c.args.words.now.items) (g.S.Source.left c.args.source.now)) c.drive_form.result (g.K.Sink.written c.args.sink.now) (g.K.Sink.written c.drive_form.new.sink) (IsOutcome c.args.words.now.items) (form_writes c.args.words.now.items c.in-Some.form (rw c.deref.ensures.value at c.in-Some.ensures) (status_of c.drive_form.result) (g.S.Source.left c.args.source.now) (g.K.Sink.written c.args.sink.now) (g.K.Sink.written c.drive_form.new.sink) (form_prints c.in-Some.form (g.S.Source.left c.args.source.now) (g.S.Source.left c.drive_form.new.source) (g.K.Sink.written c.args.sink.now) (g.K.Sink.written c.drive_form.new.sink) _ _ c.drive_form.result c.drive_form.ensures.driven)) (c.drive_form.ensures.faults.complete read write))

pub returns-in-Some-clause-only_check : goal.returns-in-Some-clause-only_check
returns-in-Some-clause-only_check g c e = sym (rw c.deref.ensures.value at c.in-Some.ensures) ∙ ap Some (only_check c.in-Some.form (g.S.Source.left c.args.source.now) (g.S.Source.left c.drive_form.new.source) (g.K.Sink.written c.args.sink.now) (g.K.Sink.written c.drive_form.new.sink) c.drive_form.result (form_streams c.in-Some.form (g.S.Source.left c.args.source.now) (g.S.Source.left c.drive_form.new.source) (g.K.Sink.written c.args.sink.now) (g.K.Sink.written c.drive_form.new.sink) _ _ c.drive_form.result c.drive_form.ensures.driven) (sym c.status_of.ensures ∙ e))

pub returns-in-Some-clause-to_script : goal.returns-in-Some-clause-to_script
returns-in-Some-clause-to_script g c show e = show_to_script c.in-Some.form (g.S.Source.left c.args.source.now) (g.S.Source.left c.drive_form.new.source) (g.K.Sink.written c.args.sink.now) (g.K.Sink.written c.drive_form.new.sink) c.drive_form.result (the_form c.args.words.now.items c.in-Some.form (rw c.deref.ensures.value at c.in-Some.ensures) Show show) (form_streams c.in-Some.form (g.S.Source.left c.args.source.now) (g.S.Source.left c.drive_form.new.source) (g.K.Sink.written c.args.sink.now) (g.K.Sink.written c.drive_form.new.sink) _ _ c.drive_form.result c.drive_form.ensures.driven) (sym c.status_of.ensures ∙ e)

pub returns-in-Some-clause-memory : goal.returns-in-Some-clause-memory
returns-in-Some-clause-memory g c words e = words_memory (g.S.Source.left c.args.source.now) (g.S.Source.left c.drive_form.new.source) (g.K.Sink.written c.args.sink.now) (g.K.Sink.written c.drive_form.new.sink) _ _ c.drive_form.result c.in-Some.form (the_form c.args.words.now.items c.in-Some.form (rw c.deref.ensures.value at c.in-Some.ensures) (Run Words) words) c.drive_form.ensures.driven (sym c.status_of.ensures ∙ e)

pub returns-in-Some-clause-trial_not_asked : goal.returns-in-Some-clause-trial_not_asked
returns-in-Some-clause-trial_not_asked g c = λ seed is. c.drive_form.ensures.not_asked seed (the_form c.args.words.now.items c.in-Some.form (rw c.deref.ensures.value at c.in-Some.ensures) (Trial seed) is)

pub returns-in-Some-clause-trial_not_read : goal.returns-in-Some-clause-trial_not_read
returns-in-Some-clause-trial_not_read g c = λ seed is fault. no_read c.drive_form.result (sym c.status_of.ensures ∙ fault) (c.drive_form.ensures.not_read seed (the_form c.args.words.now.items c.in-Some.form (rw c.deref.ensures.value at c.in-Some.ensures) (Trial seed) is))

pub returns-in-None-clause-promised : goal.returns-in-None-clause-promised
returns-in-None-clause-promised g c = all_promised c.args.words.now.items _

pub returns-in-None-clause-also : goal.returns-in-None-clause-also
returns-in-None-clause-also g c = all_also c.args.words.now.items _

pub returns-in-Some-clause-promised : goal.returns-in-Some-clause-promised
returns-in-Some-clause-promised g c = all_promised c.args.words.now.items _

pub returns-in-Some-clause-also : goal.returns-in-Some-clause-also
returns-in-Some-clause-also g c = all_also c.args.words.now.items _

pub returns-in-Some-clause-front : goal.returns-in-Some-clause-front
returns-in-Some-clause-front g c form words cut =
    let here = form_front c.in-Some.form (g.S.Source.left c.drive_form.new.source) (g.S.Source.left c.args.source.now) (g.K.Sink.written c.args.sink.now) (g.K.Sink.written c.drive_form.new.sink) c.drive_form.result (form_streams c.in-Some.form (g.S.Source.left c.args.source.now) (g.S.Source.left c.drive_form.new.source) (g.K.Sink.written c.args.sink.now) (g.K.Sink.written c.drive_form.new.sink) _ _ c.drive_form.result c.drive_form.ensures.driven) (subst IsCut c.status_of.ensures cut) in
    let asked_so = subst (λ f. OfInput f (g.S.Source.left c.args.source.now) (λ input. IsFrontOf c.in-Some.form input (g.S.Source.left c.drive_form.new.source) (g.K.Sink.written c.args.sink.now) (g.K.Sink.written c.drive_form.new.sink))) (rw c.deref.ensures.value at c.in-Some.ensures) here in
    subst (λ f. OfInput (asked c.args.words.now.items) (g.S.Source.left c.args.source.now) (λ input. IsFrontOf f input (g.S.Source.left c.drive_form.new.source) (g.K.Sink.written c.args.sink.now) (g.K.Sink.written c.drive_form.new.sink))) (the_form c.args.words.now.items c.in-Some.form (rw c.deref.ensures.value at c.in-Some.ensures) form words) asked_so

pub returns-in-Some-clause-whole : goal.returns-in-Some-clause-whole
returns-in-Some-clause-whole g c form words reads e =
    whole_at_end c.in-Some.form (g.S.Source.left c.args.source.now) (g.S.Source.left c.drive_form.new.source) (g.K.Sink.written c.args.sink.now) (g.K.Sink.written c.drive_form.new.sink) c.drive_form.result (subst (λ f. (meaning_of f).reads_to_end) (sym (the_form c.args.words.now.items c.in-Some.form (rw c.deref.ensures.value at c.in-Some.ensures) form words)) reads) (form_streams c.in-Some.form (g.S.Source.left c.args.source.now) (g.S.Source.left c.drive_form.new.source) (g.K.Sink.written c.args.sink.now) (g.K.Sink.written c.drive_form.new.sink) _ _ c.drive_form.result c.drive_form.ensures.driven) (sym c.status_of.ensures ∙ e)

pub returns-in-Some-clause-silent : goal.returns-in-Some-clause-silent
returns-in-Some-clause-silent g c form words silent e =
    form_silent c.in-Some.form (g.S.Source.left c.args.source.now) (g.S.Source.left c.drive_form.new.source) (g.K.Sink.written c.args.sink.now) (g.K.Sink.written c.drive_form.new.sink) c.drive_form.result (subst (λ f. (meaning_of f).is_silent) (sym (the_form c.args.words.now.items c.in-Some.form (rw c.deref.ensures.value at c.in-Some.ensures) form words)) silent) (form_streams c.in-Some.form (g.S.Source.left c.args.source.now) (g.S.Source.left c.drive_form.new.source) (g.K.Sink.written c.args.sink.now) (g.K.Sink.written c.drive_form.new.sink) _ _ c.drive_form.result c.drive_form.ensures.driven) (sym c.status_of.ensures ∙ e)
