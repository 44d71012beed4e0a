-- The line in words of a refusal that names nothing besides its code fits into the room for refusals.
use Rattle.std.proofs.Common.{◌≡◌, ◌+◌, ◌<◌, ◌≤◌, ◌^◌, ℕ, Bool, true, false, List, [], ◌∷◌, ◌++◌, length, cond, sym, subst, arith}
use Rattle.std.specs.Prelude.{codes, ◌==◌}
use Rattle.std.specs.Fmt.{decimal}
use Rattle.std.proofs.lemmas.Fmt.{length-decimal-le}
use Rattle.std.proofs.lemmas.List.{length-append}
use Rattle.cca_base.specs.PlantModel.{PlantModel}
use Rattle.cca_base.specs.Refusals.{bare}
use Rattle.cca_base.specs.declared.codes.TheConstants as known
use Rattle.trace_text.specs.Refusals.{code_name, refusal_line}
use Rattle.trace_text.specs.declared.refusal.TheConstants.{REFUSAL_ROOM}

-- one of two short texts is short
either : (b : Bool) (x y : List ℕ) → length x ≤ 14 → length y ≤ 14 → length (cond b x y) ≤ 14
either true x y h k = h
either false x y h k = k

short_name : (code : ℕ) → length (code_name code) ≤ 14
short_name code =
    either (code == known.MALFORMED) (codes "malformed") _ (omega arith)
    (either (code == known.NAME_UNKNOWN) (codes "name_unknown") _ (omega arith)
    (either (code == known.NAME_REPEATED) (codes "name_repeated") _ (omega arith)
    (either (code == known.LIMIT) (codes "limit") _ (omega arith)
    (either (code == known.AMBIGUOUS) (codes "ambiguous") _ (omega arith)
    (either (code == known.INTO_BROKEN) (codes "into_broken") _ (omega arith)
    (either (code == known.UNMARKED_EXIT) (codes "unmarked_exit") _ (omega arith)
    (either (code == known.TWO_MENDS) (codes "two_mends") _ (omega arith)
    (either (code == known.CLASH) (codes "clash") _ (omega arith)
    (either (code == known.WAYS) (codes "ways") _ (omega arith)
    (either (code == known.CYCLE) (codes "cycle") _ (omega arith)
    (either (code == known.DEEP) (codes "deep") _ (omega arith)
    (either (code == known.NOT_SENSED) (codes "not_sensed") _ (omega arith)
    (either (code == known.BROKEN_GOAL) (codes "broken_goal") _ (omega arith)
    (either (code == known.REPEATED_PAIR) (codes "repeated_pair") _ (omega arith)
    (either (code == known.MIRRORED) (codes "mirrored") _ (omega arith)
    (either (code == known.ENDS_EARLY) (codes "ends_early") _ (omega arith)
    (either (code == known.LONG_LINE) (codes "long_line") _ (omega arith)
    (either (code == known.TOO_MANY_LINES) (codes "too_many_lines") _ (omega arith)
    (either (code == known.REPAIR_CYCLE) (codes "repair_cycle") _ (omega arith)
    (either (code == known.MANY) (codes "many") _ (omega arith)
    (either (code == known.UNMATCHED) (codes "unmatched") [] (omega arith) (omega arith))))))))))))))))))))))

-- five texts, one behind the other
five : (a b c d e : List ℕ) → length (a ++ b ++ c ++ d ++ e) ≡ length a + length b + length c + length d + length e
five a b c d e = omega (arith, length-append a b, length-append (a ++ b) c, length-append (a ++ b ++ c) d, length-append (a ++ b ++ c ++ d) e)

pub refusal_fits : (m : PlantModel) (line code : ℕ) → line < 2 ^ 64 → code < 256 → length (refusal_line m line (bare code)) ≤ REFUSAL_ROOM
unfolding refusal_line
refusal_fits m line code few small =
    let digits : length (decimal line) ≤ 20 = length-decimal-le 20 line (omega arith) (omega arith) few in
    let others : length (decimal code) ≤ 20 = length-decimal-le 20 code (omega arith) (omega arith) (omega (arith, small)) in
    let parts = five (codes "refused " ++ decimal line) (32 ∷ decimal code) (32 ∷ code_name code) [] (10 ∷ []) in
    subst (λ (n : ℕ). n ≤ REFUSAL_ROOM) (sym parts) (omega (arith, digits, others, short_name code, length-append (codes "refused ") (decimal line)))
