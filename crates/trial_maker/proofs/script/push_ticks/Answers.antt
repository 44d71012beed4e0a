use Rattle.std.proofs.Common.{◌≡◌, ◌+◌, ◌-◌, ◌++◌, ℕ, List, drop, ap, sym, ◌∙◌, arith}
use Rattle.std.proofs.lemmas.List.{append-nil}
use Rattle.std.specs.String.{string_bytes}
use Rattle.trial_maker.specs.Documents.{text_of, ticks}
use Rattle.trial_maker.specs.Draws.{each}
use Rattle.trial_maker.specs.ScriptLines.{tick_lines}
use Rattle.trial_maker.proofs.LinesSoFar.{drawn_more}
use Rattle.trial_maker.proofs.TicksInTurn.{no_tick, ticks_from}
use Rattle.trial_maker.proofs.script.push_ticks.Goals as goal

pub loop-tick-preserved : goal.loop-tick-preserved
loop-tick-preserved c =
    let t = c.loop-tick.tick in
    let x = c.loop-tick.draws.number in
    let before = string_bytes c.loop-tick.out in
    let from = sym (ticks_from t x (omega arith) (omega arith)) in
    let next : t + 1 - 1 ≡ t = omega arith in
    let text = c.in_ok-push_tick.ensures.0 in
    let number = c.in_ok-push_tick.ensures.1 in (
      rw (next, text, number)
          (drawn_more tick_lines before t (drop t ticks) x ∙ ap (λ (drawn : List (List ℕ) × ℕ). before ++ text_of drawn.0) from ∙ c.loop-tick.invariant.0),
      rw (next, number) (ap (λ (drawn : List (List ℕ) × ℕ). drawn.1) from ∙ c.loop-tick.invariant.1),
    )

pub returns : goal.returns
returns c =
    let last : c.loop-tick.tick - 1 ≡ 200 = omega arith in
    let out = string_bytes c.loop-tick.out in
    let done = sym (ap (λ n. drop n ticks) last ∙ no_tick) in (
      sym (append-nil out) ∙ ap (λ (left : List ℕ). out ++ text_of (each tick_lines left c.loop-tick.draws.number).0) done ∙ c.loop-tick.invariant.0,
      ap (λ (left : List ℕ). (each tick_lines left c.loop-tick.draws.number).1) done ∙ c.loop-tick.invariant.1,
    )
