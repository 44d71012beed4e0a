-- A line says one thing, or has one code.
use Rattle.std.proofs.Common.{◌≡◌, ℕ, Bool, List, [], Result, refl, sym, ap, subst, ◌∙◌}
use Rattle.std.proofs.lemmas.Option.{same_Some}
use Rattle.cca_base.specs.declared.cube.Pair.{Pair}
use Rattle.cca_base.specs.PlantModel.{PlantModel}
use Rattle.script_reader.proofs.OneSaid.{item_once, one_said}
use Rattle.watch_lines.specs.Items.{Item, Sent, Observe, Reset, Tick, IsSpelled, grammar, line_spelled}
use Rattle.watch_lines.specs.WatchEvents.{Applies, IsEventOfItem, IsNamed, WatchEventsAreOne}
use Rattle.watch_lines.specs.declared.watch_event.WatchEvent.{WatchEvent}
use Rattle.watch_lines.specs.declared.watch_event.WatchEvent.TheVariants as event
use Rattle.watch_lines.proofs.LineGrammar.{item_read}

-- an item has a first word
some_words : (i : Item) → [] ≡ line_spelled i → ⊥
some_words (Sent command) e = absurd cc
some_words (Observe pairs) e = absurd cc
some_words Reset e = absurd cc
some_words Tick e = absurd cc

one_named : (m : PlantModel) (i : Item) (e f : WatchEvent) → IsNamed m i e → IsNamed m i f → e ≡ f
one_named m (Sent command) e f (a, h, is) (b, k, was) = is ∙ ap (λ (x : ℕ). event.Sent x) (same_Some a b (sym h ∙ k)) ∙ sym was
one_named m (Observe pairs) e f (a, h, is) (b, k, was) = is ∙ ap (λ (x : List Pair). event.Observe x) (same_Some a b (sym h ∙ k)) ∙ sym was
one_named m Reset e f h k = h ∙ sym k
one_named m Tick e f h k = h ∙ sym k

-- items that are spelled alike are one
one_item : (i j : Item) → line_spelled i ≡ line_spelled j → IsSpelled i → IsSpelled j → i ≡ j
one_item i j e h k = same_Some i j (sym (item_read (line_spelled i) i (refl, h)) ∙ item_read (line_spelled i) j (e, k))

module _ (m : PlantModel) (pending : List Pair) (sent : Bool) where
  spelled_alike : (i j : Item) (a b : Result WatchEvent ℕ) → line_spelled i ≡ line_spelled j → IsSpelled i → IsSpelled j → IsEventOfItem m pending sent i a → IsEventOfItem m pending sent j b → a ≡ b
  spelled_alike i j a b e h k x y =
      item_once grammar (IsNamed m) (Applies m pending sent) (one_named m) j a b (subst (λ (z : Item). IsEventOfItem m pending sent z a) (one_item i j e h k) x) y

pub watch_events_are_one : WatchEventsAreOne
watch_events_are_one m pending sent line a b h k = one_said grammar (IsNamed m) (Applies m pending sent) line some_words (spelled_alike m pending sent) a b h k
