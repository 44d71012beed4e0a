-- What the words of a line say, by the rows of the table of codes.
use Rattle.std.proofs.Common.{◌≡◌, ℕ, Bool, true, false, List, ◌∷◌, Option, Some, None, Result, Ok, Err, inl, inr, refl, sym, ap, subst, ◌∙◌, arith}
use Rattle.std.specs.Option.{option_map}
use Rattle.list_laws.proofs.Tests.{false_true}
use Rattle.cca_base.specs.declared.codes.TheConstants.{MALFORMED, NAME_UNKNOWN, REPEATED_PAIR}
use Rattle.cca_base.specs.declared.cube.Pair.{Pair}
use Rattle.cca_base.specs.declared.events.Event.TheVariants as event
use Rattle.cca_base.specs.declared.events.Stop.{Stop}
use Rattle.cca_base.specs.declared.events.Stop.TheVariants as stops
use Rattle.cca_base.specs.PlantModel.{PlantModel}
use Rattle.cca_base.specs.Refusals.{Answers}
use Rattle.formula_syntax.specs.Lookups.{place_of}
use Rattle.text_base.specs.Chain.{◌>>=◌}
use Rattle.text_base.specs.Lexemes.{Lexeme, next_is}
use Rattle.text_base.specs.Pairs.{NamedPair}
use Rattle.text_base.proofs.ChainLaws.{then}
use Rattle.script_reader.specs.EventCodes.{observe_code}
use Rattle.script_reader.specs.EventLines.{named_event, unless}
use Rattle.script_reader.specs.Items as scripts
use Rattle.script_reader.specs.Named.{value_pair, each_pair}
use Rattle.script_reader.proofs.TableOfCodes as table
use Rattle.watch_lines.specs.Items.{Item, Sent, Observe, Reset, Tick, only_name}
use Rattle.watch_lines.specs.WatchEvents.{IsEventOfItem, IsEventOfScript, IsEventOfWords, IsLeastCode, IsTaken}
use Rattle.watch_lines.specs.declared.watch_event.WatchEvent.{WatchEvent}
use Rattle.watch_lines.specs.declared.watch_event.WatchEvent.TheVariants as watched
use Rattle.watch_lines.proofs.LineGrammar.{item_from, item_in, item_read, item_written, of_script, sent_word}

-- what is read where the word sent doesn't come first
read_in : (ls : List Lexeme) (o : Option scripts.Item) → next_is sent_word ls ≡ None → scripts.item_of ls ≡ o → item_in ls ≡ (o >>= of_script)
read_in ls o none e = ap (λ (x : Option (List Lexeme)). item_from x ls) none ∙ then e of_script

module _ (m : PlantModel) (pending : List Pair) (sent : Bool) where
  -- ---- a command

  sent_unknown : (command : List ℕ) → None ≡ place_of m.commands command → IsLeastCode m pending sent (Sent command) NAME_UNKNOWN
  sent_unknown command h = (inl (refl, sym h), λ less lt a. elim a [ inl (c, x) ↦ omega (arith, c, lt) | inr (c, x) ↦ omega (arith, c, lt) ])

  -- the command is declared
  known : (command : List ℕ) (k : ℕ) → Some k ≡ place_of m.commands command → place_of m.commands command ≡ None → ⊥
  known command k h none = let both : Some k ≡ None = h ∙ none in absurd cc

  sent_twice : (command : List ℕ) (k : ℕ) → Some k ≡ place_of m.commands command → sent ≡ true → IsLeastCode m pending sent (Sent command) REPEATED_PAIR
  sent_twice command k h t = (inr (refl, t), λ less lt a. elim a [ inl (c, x) ↦ known command k h x | inr (c, x) ↦ omega (arith, c, lt) ])

  sent_taken : (command : List ℕ) (k : ℕ) → Some k ≡ place_of m.commands command → sent ≡ false → IsTaken m pending sent (Sent command) (watched.Sent k)
  sent_taken command k h t = ((k, sym h, refl), λ code a. elim a [ inl (c, x) ↦ known command k h x | inr (c, x) ↦ false_true (sym t ∙ x) ])

  -- ---- observations

  -- what a script makes of the same pairs
  in_script : (pairs : List NamedPair) (o : Option (List Pair)) → o ≡ each_pair (value_pair m) pairs → table.Says m pending 0 (scripts.Observe pairs) (named_event event.Observe (observe_code m pending 0) o)
  in_script pairs o h =
      subst (λ (x : Option (List Pair)). table.Says m pending 0 (scripts.Observe pairs) (named_event event.Observe (observe_code m pending 0) x)) (sym h) (table.says m pending 0 (scripts.Observe pairs))

  pub values_unknown : (pairs : List NamedPair) → None ≡ each_pair (value_pair m) pairs → IsLeastCode m pending sent (Observe pairs) NAME_UNKNOWN
  values_unknown pairs h = in_script pairs None h

  module _ (pairs : List NamedPair) (qs : List Pair) (h : Some qs ≡ each_pair (value_pair m) pairs) where
    with_code : (o : Option ℕ) → o ≡ observe_code m pending 0 qs → table.Says m pending 0 (scripts.Observe pairs) (unless o (event.Observe qs))
    with_code o e = subst (λ (x : Option ℕ). table.Says m pending 0 (scripts.Observe pairs) (unless x (event.Observe qs))) (sym e) (in_script pairs (Some qs) h)

    pub values_refused : (code : ℕ) → Some code ≡ observe_code m pending 0 qs → IsLeastCode m pending sent (Observe pairs) code
    values_refused code e = with_code (Some code) e

    pub values_taken : None ≡ observe_code m pending 0 qs → IsTaken m pending sent (Observe pairs) (watched.Observe qs)
    values_taken e = let s = with_code None e in ((qs, sym h, refl), s.1)

  -- ---- words

  -- words from which false_true item is read are malformed
  unformed : (ls : List Lexeme) → item_in ls ≡ None → IsEventOfWords m pending sent ls (Err MALFORMED)
  unformed ls none = inl (refl, λ i s. let both : None ≡ Some i = sym none ∙ item_read ls i s in absurd cc)

  -- words from which an item is read say what it says
  pub formed : (ls : List Lexeme) (i : Item) (r : Result WatchEvent ℕ) → item_in ls ≡ Some i → IsEventOfItem m pending sent i r → IsEventOfWords m pending sent ls r
  formed ls i (Ok e) is h = (i, item_written ls i is, h)
  formed ls i (Err code) is h = inr (i, item_written ls i is, h)

  -- ---- items of a script

  module _ (ls : List Lexeme) (other : next_is sent_word ls ≡ None) where
    of_item : (i : scripts.Item) (r : Result WatchEvent ℕ) → scripts.item_of ls ≡ Some i → IsEventOfScript m pending sent i r → IsEventOfWords m pending sent ls r
    of_item (scripts.Observe pairs) r e h = formed ls (Observe pairs) r (read_in ls (Some (scripts.Observe pairs)) other e) h
    of_item scripts.Reset r e h = subst (IsEventOfWords m pending sent ls) (sym h) (formed ls Reset (Ok watched.Reset) (read_in ls (Some scripts.Reset) other e) (refl, λ code never. never))
    of_item scripts.Tick r e h = subst (IsEventOfWords m pending sent ls) (sym h) (formed ls Tick (Ok watched.Tick) (read_in ls (Some scripts.Tick) other e) (refl, λ code never. never))
    of_item (scripts.Goal pairs) r e h = subst (IsEventOfWords m pending sent ls) (sym h) (unformed ls (read_in ls (Some (scripts.Goal pairs)) other e))
    of_item scripts.Clear r e h = subst (IsEventOfWords m pending sent ls) (sym h) (unformed ls (read_in ls (Some scripts.Clear) other e))
    of_item (scripts.Fault pair) r e h = subst (IsEventOfWords m pending sent ls) (sym h) (unformed ls (read_in ls (Some (scripts.Fault pair)) other e))
    of_item (scripts.Mirror name) r e h = subst (IsEventOfWords m pending sent ls) (sym h) (unformed ls (read_in ls (Some (scripts.Mirror name)) other e))

    -- what a call answered of the item
    pub item_answer : (i : scripts.Item) (r : Result WatchEvent Stop) → scripts.item_of ls ≡ Some i → Answers r (IsEventOfScript m pending sent i) → Answers r (IsEventOfWords m pending sent ls)
    item_answer i (Ok e) is h = of_item i (Ok e) is h
    item_answer i (Err stops.Memory) is h = tt
    item_answer i (Err (stops.Refused refusal)) is h = (of_item i (Err refusal.code) is h.0, h.1)

    -- words without an item
    pub no_item : None ≡ scripts.item_of ls → IsEventOfWords m pending sent ls (Err MALFORMED)
    no_item e = unformed ls (read_in ls None other (sym e))

-- what is read behind the word sent
sent_read : (ls : List Lexeme) (o : Option (List ℕ)) → o ≡ only_name ls → item_in (sent_word ∷ ls) ≡ option_map Sent o
sent_read ls o e = ap (option_map Sent) (sym e)

-- behind the word sent
module _ (m : PlantModel) (pending : List Pair) (sent : Bool) (ls : List Lexeme) where
  pub says_unformed : None ≡ only_name ls → IsEventOfWords m pending sent (sent_word ∷ ls) (Err MALFORMED)
  says_unformed e = unformed m pending sent (sent_word ∷ ls) (sent_read ls None e)

  module _ (command : List ℕ) (e : Some command ≡ only_name ls) where
    says : (r : Result WatchEvent ℕ) → IsEventOfItem m pending sent (Sent command) r → IsEventOfWords m pending sent (sent_word ∷ ls) r
    says r h = formed m pending sent (sent_word ∷ ls) (Sent command) r (sent_read ls (Some command) e) h

    pub says_unknown : None ≡ place_of m.commands command → IsEventOfWords m pending sent (sent_word ∷ ls) (Err NAME_UNKNOWN)
    says_unknown h = says (Err NAME_UNKNOWN) (sent_unknown m pending sent command h)

    pub says_twice : (k : ℕ) → Some k ≡ place_of m.commands command → sent ≡ true → IsEventOfWords m pending sent (sent_word ∷ ls) (Err REPEATED_PAIR)
    says_twice k h t = says (Err REPEATED_PAIR) (sent_twice m pending sent command k h t)

    pub says_sent : (k : ℕ) → Some k ≡ place_of m.commands command → sent ≡ false → IsEventOfWords m pending sent (sent_word ∷ ls) (Ok (watched.Sent k))
    says_sent k h t = says (Ok (watched.Sent k)) (sent_taken m pending sent command k h t)
