-- What is asked for, by what was found of a line.
use Rattle.std.proofs.Common.{◌≡◌, ℕ, Bool, true, false, ◌||◌, cond, codes, List, [], ◌∷◌, Option, Some, None, Result, Ok, Err, refl, sym, ap, ◌∙◌}
use Rattle.std.specs.List.{list_any}
use Rattle.std.specs.Option.{option_map}
use Rattle.cca_base.specs.declared.codes.TheConstants.{MALFORMED, NOT_SENSED, BROKEN_GOAL, REPEATED_PAIR, MIRRORED}
use Rattle.cca_base.specs.declared.cube.Pair.{Pair}
use Rattle.cca_base.specs.declared.events.Event.{Event}
use Rattle.cca_base.specs.declared.events.Event.TheVariants as event
use Rattle.cca_base.specs.PlantModel.{PlantModel}
use Rattle.text_base.specs.Chain.{◌>>=◌}
use Rattle.text_base.specs.Lexemes.{Lexeme, word, is_lexeme, name_word_at}
use Rattle.text_base.specs.Lists.{ended}
use Rattle.text_base.specs.Pairs.{NamedPair, pair_at}
use Rattle.text_base.specs.Tokens.{Tok}
use Rattle.script_reader.specs.declared.asked.Asked.{Asked}
use Rattle.script_reader.specs.declared.asked.Asked.TheVariants as asked
use Rattle.script_reader.specs.declared.found.Found.{Found}
use Rattle.script_reader.specs.declared.named.Naming.TheVariants.{Modes, Values}
use Rattle.script_reader.specs.Items.{Item, Goal, Clear, Observe, Fault, Mirror, Reset, Tick, item_of, only_pairs, pairs_item, fault_at, mirror_at}
use Rattle.script_reader.specs.Named.{stands_for, each_pair}
use Rattle.script_reader.specs.EventCodes.{goal_code, observe_code, has_item, has_item_twice, is_broken_pair}
use Rattle.script_reader.specs.EventLines.{unless, named_event, event_of, event_here, event_by, by_tokens}
use Rattle.script_reader.specs.Asked.{event_with, asked_with, said_with, formed, is_unfit, IsFound, IsFoundIn, goal_asked, observe_asked, AsksWhatMayCome, is_left_out}
use Rattle.script_reader.proofs.EventsMayCome.{tokens_come}
use Rattle.script_reader.proofs.ItemGrammar.{from_observe, from_fault, from_mirror, from_reset, from_tick}

-- ---- goals and observations

goal_by : (unfit twice : Bool) (qs items : List Pair) → (twice ≡ false → items ≡ qs)
    → asked_with items (cond unfit (Err BROKEN_GOAL) (cond twice (Err REPEATED_PAIR) (Ok asked.Goal))) ≡ unless (cond unfit (Some BROKEN_GOAL) (cond twice (Some REPEATED_PAIR) None)) (event.Goal qs)
goal_by true twice qs items kept = refl
goal_by false true qs items kept = refl
goal_by false false qs items kept = ap (λ (l : List Pair). Ok (event.Goal l)) (kept refl)

observe_by : (unfit twice pending mirrored : Bool) (qs items : List Pair) → (twice ≡ false → items ≡ qs)
    → asked_with items (cond unfit (Err NOT_SENSED) (cond (twice || pending) (Err REPEATED_PAIR) (cond mirrored (Err MIRRORED) (Ok asked.Observe))))
    ≡ unless (cond unfit (Some NOT_SENSED) (cond (twice || pending) (Some REPEATED_PAIR) (cond mirrored (Some MIRRORED) None))) (event.Observe qs)
observe_by true twice pending mirrored qs items kept = refl
observe_by false true pending mirrored qs items kept = refl
observe_by false false true mirrored qs items kept = refl
observe_by false false false true qs items kept = refl
observe_by false false false false qs items kept = ap (λ (l : List Pair). Ok (event.Observe l)) (kept refl)

module _ (m : PlantModel) (pending : List Pair) (mirrored : ℕ) where
  goal_of : (o : Option (List Pair)) (f : Found) (items : List Pair) → IsFound Modes m pending mirrored o f items → asked_with items (goal_asked f) ≡ named_event event.Goal (goal_code m) o
  unfolding goal_code
  goal_of None f items h = rw h refl
  goal_of (Some qs) f items h =
      let a = h.1 in
      rw h.0 (goal_by f.unfit f.twice qs items a.kept
      ∙ ap (λ (b : Bool). unless (cond b (Some BROKEN_GOAL) (cond f.twice (Some REPEATED_PAIR) None)) (event.Goal qs)) a.unfit
      ∙ ap (λ (b : Bool). unless (cond (list_any (is_broken_pair m) qs) (Some BROKEN_GOAL) (cond b (Some REPEATED_PAIR) None)) (event.Goal qs)) a.twice)

  observe_of : (o : Option (List Pair)) (f : Found) (items : List Pair) → IsFound Values m pending mirrored o f items → asked_with items (observe_asked f) ≡ named_event event.Observe (observe_code m pending mirrored) o
  unfolding observe_code
  observe_of None f items h = rw h refl
  observe_of (Some qs) f items h =
      let a = h.1 in
      let answer : Bool → Bool → Bool → Bool → Result Event ℕ = λ u t p k. unless (cond u (Some NOT_SENSED) (cond (t || p) (Some REPEATED_PAIR) (cond k (Some MIRRORED) None))) (event.Observe qs) in
      rw h.0 (observe_by f.unfit f.twice f.pending f.mirrored qs items a.kept
      ∙ ap (λ (b : Bool). answer b f.twice f.pending f.mirrored) a.unfit
      ∙ ap (λ (b : Bool). answer (list_any (is_unfit Values m) qs) b f.pending f.mirrored) a.twice
      ∙ ap (λ (b : Bool). answer (list_any (is_unfit Values m) qs) (has_item_twice qs) b f.mirrored) a.is_pending
      ∙ ap (λ (b : Bool). answer (list_any (is_unfit Values m) qs) (has_item_twice qs) (list_any (λ (p : Pair). has_item pending p.item) qs) b) a.is_mirrored)

  goal_form : (o : Option (List NamedPair)) (f : Found) (items : List Pair) → IsFoundIn Modes m pending mirrored o (Some f) items → asked_with items (goal_asked f) ≡ formed (event_of m pending mirrored) (option_map Goal o)
  goal_form None f items h = absurd cc
  goal_form (Some named) f items h = goal_of (each_pair (stands_for Modes m) named) f items h

  -- what a goal asks for, by what was found of its pairs
  pub goal_said : (ls : List Lexeme) (f : Found) (items : List Pair) → IsFoundIn Modes m pending mirrored (only_pairs ls) (Some f) items → asked_with items (goal_asked f) ≡ formed (event_of m pending mirrored) (pairs_item Goal ls)
  goal_said ls f items h = goal_form (only_pairs ls) f items h

  observe_form : (o : Option (List NamedPair)) (f : Found) (items : List Pair) → IsFoundIn Values m pending mirrored o (Some f) items → asked_with items (observe_asked f) ≡ formed (event_of m pending mirrored) (option_map Observe o)
  observe_form None f items h = absurd cc
  observe_form (Some named) f items h = observe_of (each_pair (stands_for Values m) named) f items h

  -- the same of observations
  pub observe_said : (ls : List Lexeme) (f : Found) (items : List Pair) → IsFoundIn Values m pending mirrored (only_pairs ls) (Some f) items → asked_with items (observe_asked f) ≡ formed (event_of m pending mirrored) (pairs_item Observe ls)
  observe_said ls f items h = observe_form (only_pairs ls) f items h

  -- ---- lines that set no goals

  -- the item says the same where no line sets a goal
  abbrev SaysSame : Option Item → Type 0
  SaysSame o = formed (event_of m pending mirrored) o ≡ formed (event_here m pending mirrored) o

  same_by : (b : Bool) (o p : Option Item) → SaysSame o → SaysSame p → SaysSame (cond b o p)
  same_by true o p h k = h
  same_by false o p h k = k

  same_observe : (o : Option (List NamedPair)) → SaysSame (option_map Observe o)
  same_observe None = refl
  same_observe (Some named) = refl

  same_fault_end : (p : NamedPair) (ls : List Lexeme) → SaysSame (ended (Fault p) ls)
  same_fault_end p [] = refl
  same_fault_end p (l ∷ ls) = refl

  same_fault_at : (o : Option (NamedPair × List Lexeme)) → SaysSame (o >>= λ pair. ended (Fault pair.0) pair.1)
  same_fault_at None = refl
  same_fault_at (Some pair) = same_fault_end pair.0 pair.1

  same_fault : (ls : List Lexeme) → SaysSame (fault_at ls)
  unfolding fault_at
  same_fault ls = same_fault_at (pair_at ls)

  same_mirror_end : (name : List ℕ) (ls : List Lexeme) → SaysSame (ended (Mirror name) ls)
  same_mirror_end name [] = refl
  same_mirror_end name (l ∷ ls) = refl

  same_mirror_at : (o : Option (List ℕ × List Lexeme)) → SaysSame (o >>= λ name. ended (Mirror name.0) name.1)
  same_mirror_at None = refl
  same_mirror_at (Some name) = same_mirror_end name.0 name.1

  same_mirror : (ls : List Lexeme) → SaysSame (mirror_at ls)
  unfolding mirror_at
  same_mirror ls = same_mirror_at (name_word_at ls)

  same_reset : (ls : List Lexeme) → SaysSame (ended Reset ls)
  same_reset [] = refl
  same_reset (l ∷ ls) = refl

  same_tick : (ls : List Lexeme) → SaysSame (ended Tick ls)
  same_tick [] = refl
  same_tick (l ∷ ls) = refl

  -- an item, by whether its word is goal or clear
  abbrev item_by : Bool → Bool → Lexeme → List Lexeme → Option Item
  item_by goal clear l ls = cond goal (pairs_item Goal ls) (cond clear (ended Clear ls) (from_observe l ls))

  same_others : (l : Lexeme) (ls : List Lexeme) → SaysSame (from_observe l ls)
  same_others l ls =
      let tick = same_by (is_lexeme (word (codes "tick")) l) (ended Tick ls) None (same_tick ls) refl in
      let reset = same_by (is_lexeme (word (codes "reset")) l) (ended Reset ls) (from_tick l ls) (same_reset ls) tick in
      let mirror = same_by (is_lexeme (word (codes "mirror")) l) (mirror_at ls) (from_reset l ls) (same_mirror ls) reset in
      let fault = same_by (is_lexeme (word (codes "fault")) l) (fault_at ls) (from_mirror l ls) (same_fault ls) mirror in
      same_by (is_lexeme (word (codes "observe")) l) (pairs_item Observe ls) (from_fault l ls) (same_observe (only_pairs ls)) fault

  other_by : (goal clear : Bool) (l : Lexeme) (ls : List Lexeme) → (goal || clear) ≡ false → SaysSame (item_by goal clear l ls)
  other_by true clear l ls h = absurd cc
  other_by false true l ls h = absurd cc
  other_by false false l ls h = same_others l ls

  left_goal : (o : Option (List NamedPair)) → formed (event_here m pending mirrored) (option_map Goal o) ≡ Err MALFORMED
  left_goal None = refl
  left_goal (Some named) = refl

  left_clear : (ls : List Lexeme) → formed (event_here m pending mirrored) (ended Clear ls) ≡ Err MALFORMED
  left_clear [] = refl
  left_clear (l ∷ ls) = refl

  left_by : (goal clear : Bool) (l : Lexeme) (ls : List Lexeme) → (goal || clear) ≡ true → formed (event_here m pending mirrored) (item_by goal clear l ls) ≡ Err MALFORMED
  left_by true clear l ls h = left_goal (only_pairs ls)
  left_by false true l ls h = left_clear ls
  left_by false false l ls h = absurd cc

  -- a line that would set or clear a goal, where none does
  pub left_out : (goals : Bool) (l : Lexeme) (ls : List Lexeme) → is_left_out goals l ≡ true → Err MALFORMED ≡ formed (event_by goals m pending mirrored) (item_of (l ∷ ls))
  left_out true l ls h = absurd cc
  left_out false l ls h = sym (left_by (is_lexeme (word (codes "goal")) l) (is_lexeme (word (codes "clear")) l) l ls h)

  -- all other lines
  pub not_left_out : (goals : Bool) (l : Lexeme) (ls : List Lexeme) → is_left_out goals l ≡ false → formed (event_of m pending mirrored) (item_of (l ∷ ls)) ≡ formed (event_by goals m pending mirrored) (item_of (l ∷ ls))
  not_left_out true l ls h = refl
  not_left_out false l ls h = other_by (is_lexeme (word (codes "goal")) l) (is_lexeme (word (codes "clear")) l) l ls h

  -- ---- lines

  -- what is asked for may come
  pub asks_what_may_come : (goals : Bool) (read : Result (List Tok) ℕ) (pairs : List Pair) (r : Result (Option Asked) ℕ) → said_with pairs r ≡ by_tokens (event_by goals m pending mirrored) read → AsksWhatMayCome m pending mirrored pairs r
  asks_what_may_come goals read pairs (Err code) h = tt
  asks_what_may_come goals read pairs (Ok None) h = tt
  asks_what_may_come goals read pairs (Ok (Some a)) h = tokens_come m pending mirrored (event_with pairs a) goals read (sym h)
