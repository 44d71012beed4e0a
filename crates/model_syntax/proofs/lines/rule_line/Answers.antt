use Rattle.std.proofs.Common.{map, sym, subst, refl}
use Rattle.text_base.specs.Lexemes.{lexeme_of}
use Rattle.model_syntax.specs.Lines.{Goes, IsNextOfText, rule_next}
use Rattle.model_syntax.proofs.FormulaLines.{rule_refused, rule_full, rule_added, rule_well_formed}
use Rattle.model_syntax.proofs.lines.rule_line.Goals as goal

pub returns-then-has_full_rules : goal.returns-then-has_full_rules
returns-then-has_full_rules c =
    let m = c.args.model.now in
    let ls = map lexeme_of c.args.tokens.now in
    let h = rw (c.named.ensures, c.in-Some-Sound.is, c.in-Some-Sound.field-0-is) at c.in_ok-read_strictly.ensures in
    rw c.refused-then-has_full_rules.ensures (rule_full m ls _ _ (sym c.if-has_full_rules.ensures.value) h, refl, refl)

pub add_rule-requires : goal.add_rule-requires
add_rule-requires c =
    let h = rw (c.named.ensures, c.in-Some-Sound.is, c.in-Some-Sound.field-0-is) at c.in_ok-read_strictly.ensures in
    rule_well_formed c.args.model.now (map lexeme_of c.args.tokens.now) _ _ c.has_full_rules.ensures.well_formed (sym c.if-has_full_rules.ensures.value) h

pub returns-in-Some-Faulty : goal.returns-in-Some-Faulty
returns-in-Some-Faulty c =
    let m = c.args.model.now in
    let ls = map lexeme_of c.args.tokens.now in
    let h = rw (c.named.ensures, c.in-Some-Faulty.is, c.in-Some-Faulty.field-0-is) at c.in_ok-read_strictly.ensures in
    rw c.refused-in-Some-Faulty.ensures (rule_refused m ls _ _ refl h, refl, refl)

pub returns-in_ok-add_rule-in-Some-Sound : goal.returns-in_ok-add_rule-in-Some-Sound
returns-in_ok-add_rule-in-Some-Sound c =
    let m = c.args.model.now in
    let ls = map lexeme_of c.args.tokens.now in
    let h = rw (c.named.ensures, c.in-Some-Sound.is, c.in-Some-Sound.field-0-is) at c.in_ok-read_strictly.ensures in
    subst (λ n. IsNextOfText ls (rule_next m) (Goes n)) (sym c.in_ok-add_rule-in-Some-Sound.ensures.ok) (rule_added m ls _ _ (sym c.if-has_full_rules.ensures.value) h)
