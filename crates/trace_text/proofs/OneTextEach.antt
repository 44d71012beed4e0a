-- No two values that fit a model have one text.
use Rattle.std.proofs.Common.{◌≡◌, ℕ, Bool, true, false, cond, List, [], ◌∷◌, ◌++◌, All, length, map, refl, sym, ap, ◌∙◌, arith}
use Rattle.std.specs.Prelude.{codes}
use Rattle.std.specs.Fmt.{decimal}
use Rattle.std.proofs.lemmas.Fmt.{decimal_injective}
use Rattle.std.proofs.lemmas.List.Elements.{All-head, All-tail, All-weaker}
use Rattle.std.proofs.lemmas.Slice.Eq.{bytes_eq-Decides}
use Rattle.cca_base.specs.declared.events.PlanEnd.{PlanEnd}
use Rattle.cca_base.specs.declared.events.PlanEnd.TheVariants as plans
use Rattle.cca_base.specs.declared.events.Reply.{Reply}
use Rattle.cca_base.specs.declared.events.Reply.TheVariants.{Idle, Send, Achieved, Unreachable}
use Rattle.cca_base.specs.declared.events.Shown.{Shown}
use Rattle.cca_base.specs.declared.events.Shown.TheVariants.{Estimated, Unexplained, Holding}
use Rattle.cca_base.specs.declared.events.TickReport.{TickReport}
use Rattle.cca_base.specs.PlantModel.{PlantModel}
use Rattle.cca_base.specs.Names.{AreNames, is_name}
use Rattle.cca_base.specs.Model.{WellFormed}
use Rattle.model_syntax.proofs.PrintedLines.{name_there}
use Rattle.trace_text.specs.declared.trace_line.TraceLine.{TraceLine}
use Rattle.trace_text.specs.declared.trace_line.TraceLine.TheVariants.{Tick, World, Plan, Back}
use Rattle.trace_text.specs.Names.{Row, mode_row, value_row, name_at, pair_text_at}
use Rattle.trace_text.specs.TraceLines.{TellsLinesApart, FitsLine, FitsPlan, FitsReply, FitsShown, HasCommand}
use Rattle.trace_text.specs.LineWords.{mode_words, reply_words, shown_words, report_words, plan_words, line_words, value_words, is_only_long}
use Rattle.trace_text.proofs.ChosenRows.{name_at_injective, choice_words_injective, length-choice_words}
use Rattle.trace_text.proofs.RowsOfModels.{HasRowNames, mode_rows, value_rows, state_is_chosen, values_are_chosen}
use Rattle.trace_text.proofs.PairsApart.{pair_one}
use Rattle.trace_text.proofs.WordsApart.{others}
use Rattle.trace_text.proofs.LinesAsWords.{words_of_one_text}

row_choices : (rows : List Row) → All HasRowNames rows → All (λ row. AreNames row.choices) rows
row_choices rows h = All-weaker HasRowNames (λ row. AreNames row.choices) (λ row k. k.choices) rows h

append_parts : (a b : List (List ℕ)) (r s : List (List ℕ)) → length a ≡ length b → a ++ r ≡ b ++ s → (a ≡ b) × (r ≡ s)
append_parts [] [] r s h e = (refl, e)
append_parts [] (y ∷ ys) r s h e = absurd (omega arith)
append_parts (x ∷ xs) [] r s h e = absurd (omega arith)
append_parts (x ∷ xs) (y ∷ ys) r s h e =
    let heads : x ≡ y = cc in
    let rest : xs ++ r ≡ ys ++ s = cc in
    let more : (xs ≡ ys) × (r ≡ s) = append_parts xs ys r s (omega arith) rest in
    let words : x ∷ xs ≡ y ∷ ys = let t : xs ≡ ys = more.0 in cc in
    (words, more.1)

-- ---- replies

reply_one : (m : PlantModel) → WellFormed m → (a b : Reply) → FitsReply m a → FitsReply m b → reply_words m a ≡ reply_words m b → a ≡ b
reply_one m h Idle Idle p q e = refl
reply_one m h Idle (Send k) p q e = absurd (others (codes "idle") (codes "send") [] (name_at m.commands k ∷ []) refl e)
reply_one m h Idle Achieved p q e = absurd (others (codes "idle") (codes "achieved") [] [] refl e)
reply_one m h Idle (Unreachable c k) p q e = absurd (others (codes "idle") (codes "unreachable") [] (pair_text_at m.components c k ∷ []) refl e)
reply_one m h (Send j) Idle p q e = absurd (others (codes "send") (codes "idle") (name_at m.commands j ∷ []) [] refl e)
reply_one m h (Send j) (Send k) p q e =
    let same : name_at m.commands j ≡ name_at m.commands k = cc in ap Send (name_at_injective m.commands j k h.command_names p.of_model q.of_model same)
reply_one m h (Send j) Achieved p q e = absurd (others (codes "send") (codes "achieved") (name_at m.commands j ∷ []) [] refl e)
reply_one m h (Send j) (Unreachable c k) p q e = absurd (others (codes "send") (codes "unreachable") (name_at m.commands j ∷ []) (pair_text_at m.components c k ∷ []) refl e)
reply_one m h Achieved Idle p q e = absurd (others (codes "achieved") (codes "idle") [] [] refl e)
reply_one m h Achieved (Send k) p q e = absurd (others (codes "achieved") (codes "send") [] (name_at m.commands k ∷ []) refl e)
reply_one m h Achieved Achieved p q e = refl
reply_one m h Achieved (Unreachable c k) p q e = absurd (others (codes "achieved") (codes "unreachable") [] (pair_text_at m.components c k ∷ []) refl e)
reply_one m h (Unreachable b j) Idle p q e = absurd (others (codes "unreachable") (codes "idle") (pair_text_at m.components b j ∷ []) [] refl e)
reply_one m h (Unreachable b j) (Send k) p q e = absurd (others (codes "unreachable") (codes "send") (pair_text_at m.components b j ∷ []) (name_at m.commands k ∷ []) refl e)
reply_one m h (Unreachable b j) Achieved p q e = absurd (others (codes "unreachable") (codes "achieved") (pair_text_at m.components b j ∷ []) [] refl e)
reply_one m h (Unreachable b j) (Unreachable c k) p q e =
    let same : pair_text_at m.components b j ≡ pair_text_at m.components c k = cc in
    let parts : (b ≡ c) × (j ≡ k) = pair_one m h b j c k p q same in
    ap (λ x. Unreachable x j) parts.0 ∙ ap (λ x. Unreachable c x) parts.1

-- ---- what ticks show

shown_one : (m : PlantModel) → WellFormed m → (a b : Shown) → FitsShown m a → FitsShown m b → shown_words m a ≡ shown_words m b → a ≡ b
shown_one m h (Estimated cost state reply) (Estimated cost' state' reply') p q e =
    let costs : decimal cost ≡ decimal cost' = cc in
    let rest : mode_words m.components state.modes ++ reply_words m reply ≡ mode_words m.components state'.modes ++ reply_words m reply' = cc in
    let one = state_is_chosen m state.modes p.1 in
    let two = state_is_chosen m state'.modes q.1 in
    let many : length (mode_words m.components state.modes) ≡ length (mode_words m.components state'.modes) =
    length-choice_words (map mode_row m.components) state.modes one ∙ sym (length-choice_words (map mode_row m.components) state'.modes two) in
    let parts = append_parts (mode_words m.components state.modes) (mode_words m.components state'.modes) (reply_words m reply) (reply_words m reply') many rest in
    let modes : state.modes ≡ state'.modes = choice_words_injective (map mode_row m.components) state.modes state'.modes (row_choices (map mode_row m.components) (mode_rows m h)) one two parts.0 in
    let replies : reply ≡ reply' = reply_one m h reply reply' p.2 q.2 parts.1 in
    let same : cost ≡ cost' = decimal_injective cost cost' p.0 q.0 costs in
    let states : state ≡ state' = ap (λ (x : List ℕ). record { modes = x }) modes in
    cc
shown_one m h (Estimated cost state reply) Unexplained p q e = absurd (others (codes "cost") (codes "unexplained") (decimal cost ∷ codes "modes" ∷ mode_words m.components state.modes ++ reply_words m reply) [] refl e)
shown_one m h (Estimated cost state reply) Holding p q e = absurd (others (codes "cost") (codes "holding") (decimal cost ∷ codes "modes" ∷ mode_words m.components state.modes ++ reply_words m reply) [] refl e)
shown_one m h Unexplained (Estimated cost state reply) p q e = absurd (others (codes "unexplained") (codes "cost") [] (decimal cost ∷ codes "modes" ∷ mode_words m.components state.modes ++ reply_words m reply) refl e)
shown_one m h Unexplained Unexplained p q e = refl
shown_one m h Unexplained Holding p q e = absurd (others (codes "unexplained") (codes "holding") [] [] refl e)
shown_one m h Holding (Estimated cost state reply) p q e = absurd (others (codes "holding") (codes "cost") [] (decimal cost ∷ codes "modes" ∷ mode_words m.components state.modes ++ reply_words m reply) refl e)
shown_one m h Holding Unexplained p q e = absurd (others (codes "holding") (codes "unexplained") [] [] refl e)
shown_one m h Holding Holding p q e = refl

-- ---- plans

names_one : (m : PlantModel) → AreNames m.commands → (js ks : List ℕ) → All (HasCommand m) js → All (HasCommand m) ks → map (name_at m.commands) js ≡ map (name_at m.commands) ks → js ≡ ks
names_one m h [] [] p q e = refl
names_one m h [] (k ∷ ks) p q e = absurd cc
names_one m h (j ∷ js) [] p q e = absurd cc
names_one m h (j ∷ js) (k ∷ ks) p q e =
    let first : name_at m.commands j ≡ name_at m.commands k = cc in
    let rest : map (name_at m.commands) js ≡ map (name_at m.commands) ks = cc in
    let heads : j ≡ k = name_at_injective m.commands j k h (All-head (HasCommand m) j js p).of_model (All-head (HasCommand m) k ks q).of_model first in
    let tails : js ≡ ks = names_one m h js ks (All-tail (HasCommand m) j js p) (All-tail (HasCommand m) k ks q) rest in
    cc

-- a plan without the space more is told from a long one
not_long : (names : List (List ℕ)) (ks : List ℕ) → is_only_long names ks ≡ false → codes "long" ∷ [] ≡ map (name_at names) ks → ⊥
not_long names [] is e = absurd cc
not_long names (k ∷ []) is e =
    let same : codes "long" ≡ name_at names k = cc in
    let no : false ≡ true = sym is ∙ (bytes_eq-Decides (name_at names k) (codes "long")).1 (sym same) in
    absurd cc
not_long names (k ∷ l ∷ ks) is e = absurd cc

long_one : (names : List (List ℕ)) (ks : List ℕ) → codes "long" ∷ [] ≡ plan_words names (plans.Plan ks) → ⊥
long_one names ks e = go (is_only_long names ks) refl e
  where
    go : (b : Bool) → is_only_long names ks ≡ b → codes "long" ∷ [] ≡ cond b ([] ∷ []) [] ++ map (name_at names) ks → ⊥
    go true is h = others (codes "long") [] [] (map (name_at names) ks) refl h
    go false is h = not_long names ks is h

no_empty_name : (m : PlantModel) → AreNames m.commands → (ks : List ℕ) (words : List (List ℕ)) → All (HasCommand m) ks → [] ∷ words ≡ map (name_at m.commands) ks → ⊥
no_empty_name m h [] words p e = absurd cc
no_empty_name m h (k ∷ ks) words p e =
    let name : is_name (name_at m.commands k) ≡ true = (name_there m.commands k h (All-head (HasCommand m) k ks p).of_model).name in
    let none : List ℕ = [] in
    let empty : none ≡ name_at m.commands k = cc in
    let no : false ≡ true = ap is_name empty ∙ name in
    absurd cc

plan_one : (m : PlantModel) → WellFormed m → (a b : PlanEnd) → FitsPlan m a → FitsPlan m b → plan_words m.commands a ≡ plan_words m.commands b → a ≡ b
plan_one m h plans.Long plans.Long p q e = refl
plan_one m h plans.Long (plans.Plan ks) p q e = absurd (long_one m.commands ks e)
plan_one m h (plans.Plan js) plans.Long p q e = absurd (long_one m.commands js (sym e))
plan_one m h (plans.Plan js) (plans.Plan ks) p q e = ap plans.Plan (go (is_only_long m.commands js) (is_only_long m.commands ks) e)
  where
    go : (b c : Bool) → cond b ([] ∷ []) [] ++ map (name_at m.commands) js ≡ cond c ([] ∷ []) [] ++ map (name_at m.commands) ks → js ≡ ks
    go true true t = let rest : map (name_at m.commands) js ≡ map (name_at m.commands) ks = cc in names_one m h.command_names js ks p q rest
    go true false t = absurd (no_empty_name m h.command_names ks (map (name_at m.commands) js) q t)
    go false true t = absurd (no_empty_name m h.command_names js (map (name_at m.commands) ks) p (sym t))
    go false false t = names_one m h.command_names js ks p q t

-- ---- lines

report_one : (r s : TickReport) → r.tick ≡ s.tick → r.shown ≡ s.shown → r ≡ s
report_one r s ticks shown = ap (λ (n : ℕ). record { tick = n; shown = r.shown }) ticks ∙ ap (λ (x : Shown). record { tick = s.tick; shown = x }) shown

line_one : (m : PlantModel) → WellFormed m → (a b : TraceLine) → FitsLine m a → FitsLine m b → line_words m a ≡ line_words m b → a ≡ b
line_one m h (Tick r) (Tick s) p q e =
    let numbers : decimal r.tick ≡ decimal s.tick = cc in
    let rest : shown_words m r.shown ≡ shown_words m s.shown = cc in
    let ticks : r.tick ≡ s.tick = decimal_injective r.tick s.tick p.0 q.0 numbers in
    let same : r.shown ≡ s.shown = shown_one m h r.shown s.shown p.1 q.1 rest in
    ap Tick (report_one r s ticks same)
line_one m h (Tick r) (World w) p q e = absurd (others (codes "tick") (codes "world") (report_words m r) (value_words m.variables w.values) refl e)
line_one m h (Tick r) (Plan end) p q e = absurd (others (codes "tick") (codes "plan") (report_words m r) (plan_words m.commands end) refl e)
line_one m h (Tick r) (Back end) p q e = absurd (others (codes "tick") (codes "back") (report_words m r) (plan_words m.commands end) refl e)
line_one m h (World w) (Tick r) p q e = absurd (others (codes "world") (codes "tick") (value_words m.variables w.values) (report_words m r) refl e)
line_one m h (World v) (World w) p q e =
    let rest : value_words m.variables v.values ≡ value_words m.variables w.values = cc in
    let values : v.values ≡ w.values =
    choice_words_injective (map value_row m.variables) v.values w.values (row_choices (map value_row m.variables) (value_rows m h)) (values_are_chosen m v.values p) (values_are_chosen m w.values q) rest in
    ap (λ (x : List ℕ). World (record { values = x })) values
line_one m h (World w) (Plan end) p q e = absurd (others (codes "world") (codes "plan") (value_words m.variables w.values) (plan_words m.commands end) refl e)
line_one m h (World w) (Back end) p q e = absurd (others (codes "world") (codes "back") (value_words m.variables w.values) (plan_words m.commands end) refl e)
line_one m h (Plan end) (Tick r) p q e = absurd (others (codes "plan") (codes "tick") (plan_words m.commands end) (report_words m r) refl e)
line_one m h (Plan end) (World w) p q e = absurd (others (codes "plan") (codes "world") (plan_words m.commands end) (value_words m.variables w.values) refl e)
line_one m h (Plan a) (Plan b) p q e = let rest : plan_words m.commands a ≡ plan_words m.commands b = cc in ap Plan (plan_one m h a b p q rest)
line_one m h (Plan a) (Back b) p q e = absurd (others (codes "plan") (codes "back") (plan_words m.commands a) (plan_words m.commands b) refl e)
line_one m h (Back end) (Tick r) p q e = absurd (others (codes "back") (codes "tick") (plan_words m.commands end) (report_words m r) refl e)
line_one m h (Back end) (World w) p q e = absurd (others (codes "back") (codes "world") (plan_words m.commands end) (value_words m.variables w.values) refl e)
line_one m h (Back a) (Plan b) p q e = absurd (others (codes "back") (codes "plan") (plan_words m.commands a) (plan_words m.commands b) refl e)
line_one m h (Back a) (Back b) p q e = let rest : plan_words m.commands a ≡ plan_words m.commands b = cc in ap Back (plan_one m h a b p q rest)

pub lines_are_told_apart : TellsLinesApart
lines_are_told_apart m h a b p q e = line_one m h a b p q (words_of_one_text m h a b p q e)
