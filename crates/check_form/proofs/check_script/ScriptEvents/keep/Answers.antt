use Rattle.std.proofs.Common.{◌≡◌, [], ◌∷◌, ◌++◌, sym, ap, subst, ◌∙◌}
use Rattle.cca_base.specs.declared.events.Event.{Event}
use Rattle.check_form.specs.CheckScript.{ScriptSoFar, with_event}
use Rattle.check_form.specs.CheckStages.{KeepsScript, script_of}
use Rattle.check_form.proofs.CheckEvents.{kept}
use Rattle.check_form.proofs.check_script.ScriptEvents.keep.Goals as goal

pub returns-clause-keeps : goal.returns-clause-keeps
returns-clause-keeps c =
    let s = script_of c.args.self.now in
    let e = c.args.event in
    let after = c.in_ok-known.known.pending.pairs in
    let new : ScriptSoFar = record { events = c.push_back.new.self.items; pending = after; mirrored = c.in_ok-known.known.mirrored } in
    let events : c.push_back.new.self.items ≡ s.events ++ e ∷ [] = c.in_ok-push_back.ensures.items in
    let same : with_event s e after ≡ new = (λ i. record { events = (sym events) i; pending = after; mirrored = (sym c.in_ok-known.ensures.mirrored) i }) in
    subst (KeepsScript c.args.model.now) same (kept c.args.model.now s e after c.requires.keeps c.requires.may_come c.in_ok-known.ensures.pending c.in_ok-known.ensures.rising)
