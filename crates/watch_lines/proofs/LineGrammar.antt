-- An item is read from its spelling, and from nothing else.
use Rattle.std.proofs.Common.{◌≡◌, ℕ, List, [], ◌∷◌, codes, Option, Some, None, refl, sym, ap, subst, ◌∙◌}
use Rattle.std.specs.Option.{option_map}
use Rattle.std.proofs.lemmas.Option.{same_Some}
use Rattle.text_base.specs.Chain.{◌>>=◌}
use Rattle.text_base.specs.Lexemes.{Lexeme, word, name_word_at, next_is}
use Rattle.text_base.specs.Lists.{ended, AreNameWords}
use Rattle.text_base.proofs.ChainLaws.{bind_some, then, after, next_read}
use Rattle.text_base.proofs.FormGrammar.{ended_read}
use Rattle.text_base.proofs.NameGrammar.{reads_name, name_read}
use Rattle.script_reader.specs.Items as scripts
use Rattle.script_reader.proofs.ItemGrammar as grammar
use Rattle.script_reader.specs.SaidLines.{AreSpelling}
use Rattle.watch_lines.specs.Items.{Item, Sent, Observe, Reset, Tick, IsSpelled, grammar as lines, line_spelled, only_name}

-- ---- a name alone

abbrev only_then : List ℕ × List Lexeme → Option (List ℕ)
only_then name = ended name.0 name.1

reads_only_name : (name : List ℕ) → AreNameWords (name ∷ []) → only_name (word name ∷ []) ≡ Some name
unfolding only_name
reads_only_name name h = then (reads_name name [] h.0) only_then

only_name_read : (ls : List Lexeme) (name : List ℕ) → only_name ls ≡ Some name → (ls ≡ word name ∷ []) × AreNameWords (name ∷ [])
unfolding only_name
only_name_read ls name e =
    let P : List ℕ → Type 0 = λ n. (ls ≡ word n ∷ []) × AreNameWords (n ∷ []) in
    let a = bind_some (name_word_at ls) only_then name e in
    let d = ended_read a.0.0 name a.0.1 a.2 in
    let read = name_read ls a.0 a.1 in
    subst P d.1 (read.0 ∙ after (word a.0.0) d.0, (read.1, tt))

-- ---- items

abbrev pub sent_word : Lexeme
sent_word = word (codes "sent")

-- an item of a script, where it may stand here too
abbrev pub of_script : scripts.Item → Option Item
of_script (scripts.Observe pairs) = Some (Observe pairs)
of_script scripts.Reset = Some Reset
of_script scripts.Tick = Some Tick
of_script (scripts.Goal pairs) = None
of_script scripts.Clear = None
of_script (scripts.Fault pair) = None
of_script (scripts.Mirror name) = None

-- what the words say, by what stands behind the word sent
abbrev pub item_from : Option (List Lexeme) → List Lexeme → Option Item
item_from (Some rest) ls = option_map Sent (only_name rest)
item_from None ls = scripts.item_of ls >>= of_script

abbrev pub item_in : List Lexeme → Option Item
item_in ls = item_from (next_is sent_word ls) ls

item_again : (i : Item) → IsSpelled i → item_in (line_spelled i) ≡ Some i
item_again (Sent command) h = ap (option_map Sent) (reads_only_name command h)
item_again (Observe pairs) h = then (grammar.item_again (scripts.Observe pairs) h) of_script
item_again Reset h = refl
item_again Tick h = refl

script_written : (ls : List Lexeme) (i : scripts.Item) (j : Item) → scripts.item_of ls ≡ Some i → of_script i ≡ Some j → AreSpelling lines ls j
script_written ls (scripts.Observe pairs) j e f = subst (AreSpelling lines ls) (same_Some (Observe pairs) j f) (grammar.item_written ls (scripts.Observe pairs) e)
script_written ls scripts.Reset j e f = subst (AreSpelling lines ls) (same_Some Reset j f) (grammar.item_written ls scripts.Reset e)
script_written ls scripts.Tick j e f = subst (AreSpelling lines ls) (same_Some Tick j f) (grammar.item_written ls scripts.Tick e)
script_written ls (scripts.Goal pairs) j e f = absurd cc
script_written ls scripts.Clear j e f = absurd cc
script_written ls (scripts.Fault pair) j e f = absurd cc
script_written ls (scripts.Mirror name) j e f = absurd cc

sent_written : (rest : List Lexeme) (o : Option (List ℕ)) (i : Item) → only_name rest ≡ o → option_map Sent o ≡ Some i → AreSpelling lines (sent_word ∷ rest) i
sent_written rest None i e f = absurd cc
sent_written rest (Some name) i e f =
    let read = only_name_read rest name e in
    subst (AreSpelling lines (sent_word ∷ rest)) (same_Some (Sent name) i f) (after sent_word read.0, read.1)

written_from : (ls : List Lexeme) (o : Option (List Lexeme)) (i : Item) → next_is sent_word ls ≡ o → item_from o ls ≡ Some i → AreSpelling lines ls i
written_from ls (Some rest) i e f = subst (λ (x : List Lexeme). AreSpelling lines x i) (sym (next_read sent_word ls rest e)) (sent_written rest (only_name rest) i refl f)
written_from ls None i e f =
    let a = bind_some (scripts.item_of ls) of_script i f in
    script_written ls a.0 i a.1 a.2

-- words from which an item is read are its spelling, and the other way round
pub item_written : (ls : List Lexeme) (i : Item) → item_in ls ≡ Some i → AreSpelling lines ls i
item_written ls i e = written_from ls (next_is sent_word ls) i refl e

pub item_read : (ls : List Lexeme) (i : Item) → AreSpelling lines ls i → item_in ls ≡ Some i
item_read ls i (e, h) = ap item_in e ∙ item_again i h
