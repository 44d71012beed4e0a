-- The line of a refusal.
use Rattle.std.specs.Prelude.{ℕ, List, [], ◌∷◌, ◌++◌, codes, if◌then◌else◌, ◌==◌}
use Rattle.std.specs.Fmt.{decimal}
use Rattle.cca_base.specs.declared.codes.TheConstants.{MALFORMED, NAME_UNKNOWN, NAME_REPEATED, LIMIT, AMBIGUOUS, INTO_BROKEN, UNMARKED_EXIT, TWO_MENDS, CLASH, WAYS, CYCLE, DEEP, NOT_SENSED, BROKEN_GOAL, REPEATED_PAIR, MIRRORED, ENDS_EARLY, LONG_LINE, TOO_MANY_LINES, REPAIR_CYCLE, MANY, UNMATCHED}
use Rattle.cca_base.specs.declared.events.Detail.{Detail}
use Rattle.cca_base.specs.declared.events.Detail.TheVariants.{Nothing, Pairs, OfMove, Components}
use Rattle.cca_base.specs.declared.events.Refusal.{Refusal}
use Rattle.cca_base.specs.PlantModel.{PlantModel}
use Rattle.trace_text.specs.Names.{pairs_text, components_text, move_text_at}

-- the name of a code
abbrev pub code_name : ℕ → List ℕ
code_name code =
    if code == MALFORMED then codes "malformed"
    else (if code == NAME_UNKNOWN then codes "name_unknown"
    else (if code == NAME_REPEATED then codes "name_repeated"
    else (if code == LIMIT then codes "limit"
    else (if code == AMBIGUOUS then codes "ambiguous"
    else (if code == INTO_BROKEN then codes "into_broken"
    else (if code == UNMARKED_EXIT then codes "unmarked_exit"
    else (if code == TWO_MENDS then codes "two_mends"
    else (if code == CLASH then codes "clash"
    else (if code == WAYS then codes "ways"
    else (if code == CYCLE then codes "cycle"
    else (if code == DEEP then codes "deep"
    else (if code == NOT_SENSED then codes "not_sensed"
    else (if code == BROKEN_GOAL then codes "broken_goal"
    else (if code == REPEATED_PAIR then codes "repeated_pair"
    else (if code == MIRRORED then codes "mirrored"
    else (if code == ENDS_EARLY then codes "ends_early"
    else (if code == LONG_LINE then codes "long_line"
    else (if code == TOO_MANY_LINES then codes "too_many_lines"
    else (if code == REPAIR_CYCLE then codes "repair_cycle"
    else (if code == MANY then codes "many"
    else (if code == UNMATCHED then codes "unmatched"
    else [])))))))))))))))))))))

-- what a refusal names besides its code, behind the code's name
abbrev pub detail_text : PlantModel → Detail → List ℕ
detail_text m Nothing = []
detail_text m (Pairs cube) = pairs_text m.components cube
detail_text m (OfMove k) = move_text_at m m.moves k
detail_text m (Components list) = components_text m.components list

-- the line of a refusal
unfoldable pub refusal_line : PlantModel → ℕ → Refusal → List ℕ
refusal_line m line r = codes "refused " ++ decimal line ++ 32 ∷ decimal r.code ++ 32 ∷ code_name r.code ++ detail_text m r.detail ++ 10 ∷ []
