use Rattle.std.proofs.Common.{map, sym, arith}
use Rattle.std.proofs.lemmas.List.{length-map}
use Rattle.trace_text.specs.Names.{rows_of}
use Rattle.trace_text.proofs.ChosenRows.{no_choices, reading_goes_on, reading_ends}
use Rattle.list_laws.proofs.WordsByPlace.{word_at}
use Rattle.trace_text.proofs.read_parts.read_each.Goals as goal

pub returns-in-None : goal.returns-in-None
returns-in-None c =
    no_choices (rows_of c.args.rows) (map (λ w. w.now) c.args.words.now) c.loop-i.i _ _ (sym c.in-Some.ensures.row) (word_at c.args.words.now c.loop-i.i _ c.loop-i-test.true) c.in-None.ensures

pub loop-i-preserved : goal.loop-i-preserved
loop-i-preserved c =
    let read = c.in-Some-read_choice.ensures in
    rw c.in_ok-push-in-Some-read_choice.ensures.ok
    (reading_goes_on (rows_of c.args.rows) (map (λ w. w.now) c.args.words.now) c.loop-i.chosen c.loop-i.i c.in-Some-read_choice.choice _ _ c.loop-i.invariant (sym c.in-Some.ensures.row)
    (word_at c.args.words.now c.loop-i.i _ c.loop-i-test.true) read.0 read.1)

pub returns : goal.returns
returns c =
    let words = length-map c.args.words.now (λ w. w.now) in
    let rows = c.requires.full in
    reading_ends (rows_of c.args.rows) (map (λ w. w.now) c.args.words.now) c.loop-i.chosen c.loop-i.i (omega (arith, rows, c.loop-i-test.false)) (omega (arith, words, c.loop-i-test.false)) c.loop-i.invariant
