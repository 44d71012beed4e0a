-- Each word of a line is a short word, or two short words with = between them.
use Rattle.std.proofs.Common.{◌≡◌, ◌≢◌, ◌<◌, ◌≤◌, ◌^◌, ℕ, zero, suc, Bool, true, false, cond, not, ◌==◌, ◌⊎◌, inl, inr, List, [], ◌∷◌, ◌++◌, All, length, map, refl, ap, arith}
use Rattle.std.specs.Prelude.{codes, nat_le}
use Rattle.std.specs.List.{list_all}
use Rattle.std.specs.Char.{is_ascii_digit, is_ascii_lowercase}
use Rattle.std.specs.Fmt.{decimal}
use Rattle.std.proofs.lemmas.Bool.{and_parts, and_from, or_left, or_right, leb-true}
use Rattle.std.proofs.lemmas.Fmt.{length-decimal-le}
use Rattle.std.proofs.lemmas.List.{length-append}
use Rattle.std.proofs.lemmas.List.Elements.{All-append, All-cons, All-head, All-nil, All-same, All-tail, All-weaker}
use Rattle.cca_base.specs.declared.limits.TheConstants.{MAX_NAME}
use Rattle.cca_base.specs.declared.model.Component.{Component}
use Rattle.cca_base.specs.declared.events.PlanEnd.{PlanEnd}
use Rattle.cca_base.specs.declared.events.PlanEnd.TheVariants as plans
use Rattle.cca_base.specs.declared.events.Reply.{Reply}
use Rattle.cca_base.specs.declared.events.Reply.TheVariants.{Idle, Send, Achieved, Unreachable}
use Rattle.cca_base.specs.declared.events.Shown.{Shown}
use Rattle.cca_base.specs.declared.events.Shown.TheVariants.{Estimated, Unexplained, Holding}
use Rattle.cca_base.specs.PlantModel.{PlantModel}
use Rattle.cca_base.specs.Names.{is_word, is_word_byte, is_reserved}
use Rattle.cca_base.specs.Model.{WellFormed}
use Rattle.text_base.specs.Tokens.{is_digits}
use Rattle.model_syntax.proofs.PrintedLines.{decimal_digits}
use Rattle.trace_text.specs.declared.trace_line.TraceLine.{TraceLine}
use Rattle.trace_text.specs.declared.trace_line.TraceLine.TheVariants.{Tick, World, Plan, Back}
use Rattle.trace_text.specs.Names.{Row, mode_row, value_row, name_at, choice_text, pair_text_at}
use Rattle.trace_text.specs.TraceLines.{FitsLine, FitsShown}
use Rattle.trace_text.specs.LineWords.{mode_words, reply_words, shown_words, report_words, plan_words, line_words, choice_words, value_words, is_only_long}
use Rattle.cca_base.proofs.ModelNames.{IsName, HasNames, word_bytes, model_names}
use Rattle.trace_text.proofs.RowsOfModels.{HasRowNames, mode_rows, value_rows}
use Rattle.trace_text.proofs.WordsApart.{Lacks, name_lacks}

-- letters, digits and _, not more than a name may have
pub record IsShortWord (word : List ℕ) : Type 0 where
  pub plain : list_all is_word_byte word ≡ true
  pub short : length word ≤ MAX_NAME

-- two short words with = between them
pub record IsChoiceWord (word : List ℕ) : Type 0 where
  pub name : List ℕ
  pub choice : List ℕ
  pub is : word ≡ name ++ 61 ∷ choice
  pub of_name : IsShortWord name
  pub of_choice : IsShortWord choice

-- a word of a line
abbrev pub IsLineWord : List ℕ → Type 0
IsLineWord word = IsShortWord word ⊎ IsChoiceWord word

-- ---- bytes and length

-- a word has none of the other bytes
pub word_lacks : (end : ℕ) → is_word_byte end ≡ false → 61 ≢ end → (word : List ℕ) → IsLineWord word → Lacks end word
word_lacks end other apart word (inl h) = name_lacks end other word h.plain
word_lacks end other apart word (inr h) =
    All-same (λ b. b ≢ end) word (h.name ++ 61 ∷ h.choice) h.is
    (All-append (λ b. b ≢ end) h.name (61 ∷ h.choice) (name_lacks end other h.name h.of_name.plain)
    (All-cons (λ b. b ≢ end) 61 h.choice apart (name_lacks end other h.choice h.of_choice.plain)))

pub word_length : (word : List ℕ) → IsLineWord word → length word ≤ 65
word_length word (inl h) = omega (arith, h.short)
word_length word (inr h) = omega (arith, ap length h.is, length-append h.name (61 ∷ h.choice), h.of_name.short, h.of_choice.short)

-- ---- short words

none_short : IsShortWord []
none_short = record { plain = refl; short = omega arith }

name_short : (name : List ℕ) → IsName name → IsShortWord name
name_short name h =
    let parts = and_parts (is_word name) _ h in
    let limits = and_parts (nat_le (length name) MAX_NAME) (not (is_reserved name)) parts.1 in
    record { plain = word_bytes name h; short = leb-true (length name) MAX_NAME limits.0 }

pub name_at_short : (names : List (List ℕ)) (k : ℕ) → All IsName names → IsShortWord (name_at names k)
name_at_short [] k h = none_short
name_at_short (x ∷ xs) zero h = name_short x (All-head IsName x xs h)
name_at_short (x ∷ xs) (suc k) h = name_at_short xs k (All-tail IsName x xs h)

-- words that are written out are tested
written : (word : List ℕ) → list_all is_word_byte word ≡ true → nat_le (length word) MAX_NAME ≡ true → IsShortWord word
written word h k = record { plain = h; short = leb-true (length word) MAX_NAME k }

digits_plain : (bs : List ℕ) → list_all is_ascii_digit bs ≡ true → list_all is_word_byte bs ≡ true
digits_plain [] h = refl
digits_plain (b ∷ bs) h =
    let both = and_parts (is_ascii_digit b) (list_all is_ascii_digit bs) h in
    and_from (is_word_byte b) (list_all is_word_byte bs) (or_left _ (b == 95) (or_right (is_ascii_lowercase b) (is_ascii_digit b) both.0)) (digits_plain bs both.1)

decimal_short : (n : ℕ) → n < 2 ^ 64 → IsShortWord (decimal n)
decimal_short n h = record { plain = go (decimal n) (decimal_digits n (omega arith)); short = omega (arith, length-decimal-le 20 n (omega arith) (omega arith) h) }
  where
    go : (ds : List ℕ) → is_digits ds ≡ true → list_all is_word_byte ds ≡ true
    go [] e = refl
    go (b ∷ bs) e = digits_plain (b ∷ bs) e

-- ---- choices

choice_formed : (name : List ℕ) (choices : List (List ℕ)) (k : ℕ) → IsName name → All IsName choices → IsLineWord (choice_text name choices k)
choice_formed name choices k h p = inr (record { name = name; choice = name_at choices k; is = refl; of_name = name_short name h; of_choice = name_at_short choices k p })

pub choices_formed : (rows : List Row) (ks : List ℕ) → All HasRowNames rows → All IsLineWord (choice_words rows ks)
choices_formed [] ks h = All-nil IsLineWord
choices_formed (r ∷ rs) [] h = All-nil IsLineWord
choices_formed (r ∷ rs) (k ∷ ks) h =
    let first = All-head HasRowNames r rs h in
    All-cons IsLineWord (choice_text r.name r.choices k) (choice_words rs ks) (choice_formed r.name r.choices k first.name first.choices.each) (choices_formed rs ks (All-tail HasRowNames r rs h))

pub pair_formed : (cs : List Component) (c mode : ℕ) → All HasNames cs → IsLineWord (pair_text_at cs c mode)
pair_formed [] c mode h = inl none_short
pair_formed (x ∷ xs) zero mode h = let first = All-head HasNames x xs h in choice_formed x.name x.modes mode first.0 first.1
pair_formed (x ∷ xs) (suc c) mode h = pair_formed xs c mode (All-tail HasNames x xs h)

-- ---- the words of a line

one_more : (word : List ℕ) (words : List (List ℕ)) → IsLineWord word → All IsLineWord words → All IsLineWord (word ∷ words)
one_more word words h k = All-cons IsLineWord word words h k

one_short : (word : List ℕ) (words : List (List ℕ)) → IsShortWord word → All IsLineWord words → All IsLineWord (word ∷ words)
one_short word words h k = one_more word words (inl h) k

reply_formed : (m : PlantModel) → WellFormed m → (reply : Reply) → All IsLineWord (reply_words m reply)
reply_formed m h Idle = one_short (codes "idle") [] (written (codes "idle") refl refl) (All-nil IsLineWord)
reply_formed m h (Send k) =
    one_short (codes "send") (name_at m.commands k ∷ []) (written (codes "send") refl refl) (one_short (name_at m.commands k) [] (name_at_short m.commands k h.command_names.each) (All-nil IsLineWord))
reply_formed m h Achieved = one_short (codes "achieved") [] (written (codes "achieved") refl refl) (All-nil IsLineWord)
reply_formed m h (Unreachable c mode) =
    one_short (codes "unreachable") (pair_text_at m.components c mode ∷ []) (written (codes "unreachable") refl refl)
    (one_more (pair_text_at m.components c mode) [] (pair_formed m.components c mode (model_names m h)) (All-nil IsLineWord))

shown_formed : (m : PlantModel) → WellFormed m → (shown : Shown) → FitsShown m shown → All IsLineWord (shown_words m shown)
shown_formed m h (Estimated cost state reply) fits =
    let pairs : All IsLineWord (mode_words m.components state.modes) = choices_formed (map mode_row m.components) state.modes (mode_rows m h) in
    let rest = mode_words m.components state.modes ++ reply_words m reply in
    one_short (codes "cost") (decimal cost ∷ codes "modes" ∷ rest) (written (codes "cost") refl refl)
    (one_short (decimal cost) (codes "modes" ∷ rest) (decimal_short cost fits.0)
    (one_short (codes "modes") rest (written (codes "modes") refl refl) (All-append IsLineWord (mode_words m.components state.modes) (reply_words m reply) pairs (reply_formed m h reply))))
shown_formed m h Unexplained fits = one_short (codes "unexplained") [] (written (codes "unexplained") refl refl) (All-nil IsLineWord)
shown_formed m h Holding fits = one_short (codes "holding") [] (written (codes "holding") refl refl) (All-nil IsLineWord)

commands_short : (names : List (List ℕ)) → All IsName names → (plan : List ℕ) → All IsShortWord (map (name_at names) plan)
commands_short names h [] = All-nil IsShortWord
commands_short names h (k ∷ ks) = All-cons IsShortWord (name_at names k) (map (name_at names) ks) (name_at_short names k h) (commands_short names h ks)

-- no word of a plan is a choice
pub plan_short : (names : List (List ℕ)) → All IsName names → (end : PlanEnd) → All IsShortWord (plan_words names end)
plan_short names h plans.Long = All-cons IsShortWord (codes "long") [] (written (codes "long") refl refl) (All-nil IsShortWord)
plan_short names h (plans.Plan plan) = go (is_only_long names plan)
  where
    go : (b : Bool) → All IsShortWord (cond b ([] ∷ []) [] ++ map (name_at names) plan)
    go true = All-cons IsShortWord [] (map (name_at names) plan) none_short (commands_short names h plan)
    go false = commands_short names h plan

pub line_formed : (m : PlantModel) → WellFormed m → (value : TraceLine) → FitsLine m value → All IsLineWord (line_words m value)
line_formed m h (Tick report) fits =
    one_short (codes "tick") (report_words m report) (written (codes "tick") refl refl)
    (one_short (decimal report.tick) (shown_words m report.shown) (decimal_short report.tick fits.0) (shown_formed m h report.shown fits.1))
line_formed m h (World world) fits =
    one_short (codes "world") (value_words m.variables world.values) (written (codes "world") refl refl) (choices_formed (map value_row m.variables) world.values (value_rows m h))
line_formed m h (Plan end) fits =
    one_short (codes "plan") (plan_words m.commands end) (written (codes "plan") refl refl)
    (All-weaker IsShortWord IsLineWord (λ w k. inl k) (plan_words m.commands end) (plan_short m.commands h.command_names.each end))
line_formed m h (Back end) fits =
    one_short (codes "back") (plan_words m.commands end) (written (codes "back") refl refl)
    (All-weaker IsShortWord IsLineWord (λ w k. inl k) (plan_words m.commands end) (plan_short m.commands h.command_names.each end))
