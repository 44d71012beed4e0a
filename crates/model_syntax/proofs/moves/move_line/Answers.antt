use Rattle.std.proofs.Common.{true, map, refl}
use Rattle.text_base.specs.Lexemes.{lexeme_of}
use Rattle.model_syntax.specs.Items.{shown_ends}
use Rattle.model_syntax.specs.Lines.{IsNextOfText, move_next}
use Rattle.formula_syntax.proofs.SoundReadings.{sound_is_formula}
use Rattle.model_syntax.proofs.MoveLines.{answers_weaker, ends_unknown, guard_faulty, guard_sound}
use Rattle.model_syntax.proofs.moves.move_line.Goals as goal

pub returns-in_default-ends_of : goal.returns-in_default-ends_of
returns-in_default-ends_of c =
    let m = c.args.model.now in
    let ls = map lexeme_of c.args.guard.now in
    let h = rw (c.named.ensures, c.in-Some.is) at c.in_ok-reading.ensures in
    rw c.refused-in_default-ends_of.ensures
    (ends_unknown m ls c.args.repair (shown_ends c.args.ends) c.args.command.now c.in-Some.reading c.in_default-ends_of.ensures.ends h, refl, refl)

pub take_move-requires : goal.take_move-requires
take_move-requires c =
    let h = rw (c.named.ensures, c.in-Some.is, c.in-Sound.is) at c.in_ok-reading.ensures in
    record {
      guard = sound_is_formula true c.args.model.now (map lexeme_of c.args.guard.now) c.in-Sound.formula _ h;
      source = c.in-Some-ends_of.ensures.source;
      target = c.in-Some-ends_of.ensures.target;
      number = c.command_number-number.ensures;
      bare = c.requires;
    }

pub returns-in-Faulty : goal.returns-in-Faulty
returns-in-Faulty c =
    let m = c.args.model.now in
    let ls = map lexeme_of c.args.guard.now in
    let h = rw (c.named.ensures, c.in-Some.is, c.in-Faulty.is) at c.in_ok-reading.ensures in
    rw c.refused-in-Faulty.ensures
    (guard_faulty m ls c.args.repair (shown_ends c.args.ends) c.args.command.now _ c.in-Faulty.code c.in-Some-ends_of.ensures.ends h, refl, refl)

pub returns-in-Sound : goal.returns-in-Sound
returns-in-Sound c =
    let m = c.args.model.now in
    let ls = map lexeme_of c.args.guard.now in
    let h = rw (c.named.ensures, c.in-Some.is, c.in-Sound.is) at c.in_ok-reading.ensures in
    let leads = guard_sound m ls c.args.repair (shown_ends c.args.ends) c.args.command.now _ _ _ c.in-Sound.formula _ c.command_number-number.result c.command_number-number.ensures c.in-Some-ends_of.ensures.ends h in
    answers_weaker c.take_move.result m c.take_move.new.model _ (IsNextOfText ls (move_next m c.args.repair (shown_ends c.args.ends) c.args.command.now)) leads c.take_move.ensures
