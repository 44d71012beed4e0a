-- The names of a well-formed model, and details of refusals, are ASCII.
use Rattle.std.proofs.Common.{◌≡◌, ℕ, zero, suc, ◌<◌, true, List, [], ◌∷◌, drop, All, IsAscii, flat_map, arith}
use Rattle.std.specs.List.{list_all}
use Rattle.std.proofs.lemmas.List.Elements.{All-head, All-tail, All-weaker}
use Rattle.std.proofs.lemmas.Str.Ascii.{IsAscii-cons}
use Rattle.std.proofs.lemmas.Str.{IsAscii-append}
use Rattle.cca_base.specs.declared.cube.Pair.{Pair}
use Rattle.cca_base.specs.declared.model.Component.{Component}
use Rattle.cca_base.specs.declared.model.Move.{Move}
use Rattle.cca_base.specs.declared.events.Detail.{Detail}
use Rattle.cca_base.specs.declared.events.Detail.TheVariants.{Nothing, Pairs, OfMove, Components}
use Rattle.cca_base.specs.PlantModel.{PlantModel}
use Rattle.cca_base.specs.Model.{WellFormed}
use Rattle.cca_base.specs.Names.{is_word_byte}
use Rattle.cca_base.proofs.ModelNames.{IsName, HasNames, word_bytes, model_names}
use Rattle.trace_text.specs.Names.{name_at, pair_text_at, component_name, mode_name, mode_text_at, move_text, move_text_at}
use Rattle.trace_text.specs.Refusals.{detail_text}
use Rattle.trace_text.specs.Json.{HasAsciiNames}

-- ---- ASCII

ascii_none : IsAscii []
ascii_none i = omega arith

ascii_tail : (xs : List ℕ) → IsAscii xs → IsAscii (drop 1 xs)
ascii_tail [] h = h
ascii_tail (x ∷ xs) h = λ i. h (suc i)

ascii_each : {X : Type 0} (f : X → List ℕ) → ((x : X) → IsAscii (f x)) → (xs : List X) → IsAscii (flat_map f xs)
ascii_each f h [] = ascii_none
ascii_each f h (x ∷ xs) = IsAscii-append (f x) (flat_map f xs) (h x) (ascii_each f h xs)

-- ---- names

word_below : (b : ℕ) → is_word_byte b ≡ true → b < 128
word_below b h = grind arith

words_below : (bs : List ℕ) → list_all is_word_byte bs ≡ true → IsAscii bs
words_below [] h = ascii_none
words_below (b ∷ bs) h = grind (arith, word_below b, words_below bs, IsAscii-cons b bs)

name_ascii : (name : List ℕ) → IsName name → IsAscii name
name_ascii name h = words_below name (word_bytes name h)

-- a name at a place, where it is there
at_ascii : (names : List (List ℕ)) → All IsName names → (k : ℕ) → IsAscii (name_at names k)
at_ascii [] h k = ascii_none
at_ascii (name ∷ names) h zero = name_ascii name (All-head IsName name names h)
at_ascii (name ∷ names) h (suc k) = at_ascii names (All-tail IsName name names h) k

pub command_ascii : (m : PlantModel) → WellFormed m → (k : ℕ) → IsAscii (name_at m.commands k)
command_ascii m h k = at_ascii m.commands h.command_names.each k

-- ---- components

pub ascii_components : (m : PlantModel) → WellFormed m → All HasAsciiNames m.components
ascii_components m h = All-weaker HasNames HasAsciiNames (λ c names. record { name = name_ascii c.name names.0; modes = at_ascii c.modes names.1 }) m.components (model_names m h)

component_ascii : (cs : List Component) → All HasAsciiNames cs → (c : ℕ) → IsAscii (component_name cs c)
component_ascii [] h c = ascii_none
component_ascii (x ∷ cs) h zero = (All-head HasAsciiNames x cs h).name
component_ascii (x ∷ cs) h (suc c) = component_ascii cs (All-tail HasAsciiNames x cs h) c

mode_ascii : (cs : List Component) → All HasAsciiNames cs → (c mode : ℕ) → IsAscii (mode_name cs c mode)
mode_ascii [] h c mode = ascii_none
mode_ascii (x ∷ cs) h zero mode = (All-head HasAsciiNames x cs h).modes mode
mode_ascii (x ∷ cs) h (suc c) mode = mode_ascii cs (All-tail HasAsciiNames x cs h) c mode

-- ---- details

part_ascii : (between : ℕ) → between < 128 → (cs : List Component) → All HasAsciiNames cs → (c mode : ℕ) → IsAscii (mode_text_at between cs c mode)
part_ascii between small [] h c mode = ascii_none
part_ascii between small (x ∷ cs) h zero mode =
    let names = All-head HasAsciiNames x cs h in IsAscii-append x.name (between ∷ name_at x.modes mode) names.name (IsAscii-cons between (name_at x.modes mode) small (names.modes mode))
part_ascii between small (x ∷ cs) h (suc c) mode = part_ascii between small cs (All-tail HasAsciiNames x cs h) c mode

pair_ascii : (cs : List Component) → All HasAsciiNames cs → (c mode : ℕ) → IsAscii (pair_text_at cs c mode)
pair_ascii = part_ascii 61 (omega arith)

move_ascii : (m : PlantModel) → WellFormed m → (x : Move) → IsAscii (move_text m x)
move_ascii m h x =
    let source = part_ascii 32 (omega arith) m.components (ascii_components m h) x.component x.source in
    IsAscii-append (mode_text_at 32 m.components x.component x.source) (32 ∷ name_at m.commands x.command) source
    (IsAscii-cons 32 (name_at m.commands x.command) (omega arith) (command_ascii m h x.command))

moves_ascii : (m : PlantModel) → WellFormed m → (moves : List Move) (k : ℕ) → IsAscii (move_text_at m moves k)
moves_ascii m h [] k = ascii_none
moves_ascii m h (x ∷ moves) zero = IsAscii-cons 32 (move_text m x) (omega arith) (move_ascii m h x)
moves_ascii m h (x ∷ moves) (suc k) = moves_ascii m h moves k

detail_ascii : (m : PlantModel) → WellFormed m → (d : Detail) → IsAscii (detail_text m d)
detail_ascii m h Nothing = ascii_none
detail_ascii m h (Pairs cube) =
    ascii_each (λ (p : Pair). 32 ∷ pair_text_at m.components p.item p.value)
    (λ p. IsAscii-cons 32 (pair_text_at m.components p.item p.value) (omega arith) (pair_ascii m.components (ascii_components m h) p.item p.value)) cube
detail_ascii m h (OfMove k) = moves_ascii m h m.moves k
detail_ascii m h (Components list) =
    ascii_each (λ (c : ℕ). 32 ∷ component_name m.components c)
    (λ c. IsAscii-cons 32 (component_name m.components c) (omega arith) (component_ascii m.components (ascii_components m h) c)) list

-- ---- by the model

pub model_component_ascii : (m : PlantModel) → WellFormed m → (c : ℕ) → IsAscii (component_name m.components c)
model_component_ascii m h c = component_ascii m.components (ascii_components m h) c

pub model_mode_ascii : (m : PlantModel) → WellFormed m → (c mode : ℕ) → IsAscii (mode_name m.components c mode)
model_mode_ascii m h c mode = mode_ascii m.components (ascii_components m h) c mode

pub bare_detail_ascii : (m : PlantModel) → WellFormed m → (d : Detail) → IsAscii (drop 1 (detail_text m d))
bare_detail_ascii m h d = ascii_tail (detail_text m d) (detail_ascii m h d)
