-- What a line says is what its item does; the line is malformed exactly where it spells none, or where lines set no goals and it would.
use Rattle.std.proofs.Common.{◌≡◌, ◌↔◌, ◌⊎◌, ℕ, false, true, List, [], ◌∷◌, map, Option, Some, None, Result, Ok, Err, inl, inr, refl, sym, ap, ◌∙◌, arith}
use Rattle.list_laws.proofs.Tests.{same_ok}
use Rattle.cca_base.specs.declared.codes.TheConstants.{MALFORMED}
use Rattle.cca_base.specs.declared.cube.Pair.{Pair}
use Rattle.cca_base.specs.declared.events.Event.{Event}
use Rattle.cca_base.specs.PlantModel.{PlantModel}
use Rattle.text_base.specs.Tokens.{Tok, tokens_of}
use Rattle.text_base.specs.Lexemes.{lexeme}
use Rattle.script_reader.specs.Items.{Item, Goal, Clear, Observe, Fault, Mirror, Reset, Tick, item_of, spelling, IsSpelled}
use Rattle.script_reader.specs.EventLines.{event_of, event_here, event_by, as_event, by_form, by_tokens, event_line}
use Rattle.script_reader.specs.Laws.{Spells, IsMalformed, SetsGoal}
use Rattle.script_reader.proofs.ItemGrammar.{item_again, item_written}
use Rattle.script_reader.proofs.TableOfCodes.{says, Says, applies_above}

code_is : (code : ℕ) → ◌≡◌ {A = Result (Option Event) ℕ} (Err code) (Err MALFORMED) → code ≡ MALFORMED
code_is code h = cc

-- an item has a first word
some_words : (i : Item) → [] ≡ spelling i → ⊥
some_words (Goal pairs) e = absurd cc
some_words Clear e = absurd cc
some_words (Observe pairs) e = absurd cc
some_words (Fault pair) e = absurd cc
some_words (Mirror name) e = absurd cc
some_words Reset e = absurd cc
some_words Tick e = absurd cc

pub none_is : (r : Result Event ℕ) → as_event r ≡ Ok None → ⊥
none_is (Ok e) k = absurd cc
none_is (Err code) k = absurd cc

-- what items say, as what their lines do
module _ (asks : Item → Result Event ℕ) where
  by_spelled : (ts : List Tok) (i : Item) → map lexeme ts ≡ spelling i → IsSpelled i → by_tokens asks (Ok ts) ≡ as_event (asks i)
  by_spelled [] i e h = absurd (some_words i e)
  by_spelled (t ∷ ts) i e h = ap (by_form asks) (ap item_of e ∙ item_again i h)

  said_by : (line : List ℕ) (i : Item) → Spells line i → by_tokens asks (tokens_of line) ≡ as_event (asks i)
  said_by line i (ts, e, spelled, h) = ap (by_tokens asks) e ∙ by_spelled ts i spelled h

  -- the line spells none, or an item that is malformed itself
  abbrev SaysMalformed : List ℕ → Type 0
  SaysMalformed line = IsMalformed line ⊎ ((i : Item) × Spells line i × (as_event (asks i) ≡ Err MALFORMED))

  form_malformed : (line : List ℕ) (t : Tok) (ts : List Tok) (o : Option Item) → tokens_of line ≡ Ok (t ∷ ts) → item_of (map lexeme (t ∷ ts)) ≡ o → by_form asks o ≡ Err MALFORMED → SaysMalformed line
  form_malformed line t ts None e f h =
      inl (inr (
        t,
        ts,
        e,
        λ i spells.
            let same = same_ok spells.0 (t ∷ ts) (sym spells.1 ∙ e) in
            let read : item_of (map lexeme (t ∷ ts)) ≡ Some i = ap (λ (x : List Tok). item_of (map lexeme x)) (sym same) ∙ ap item_of spells.2 ∙ item_again i spells.3 in
            let both : None ≡ Some i = sym f ∙ read in
            absurd cc,
      ))
  form_malformed line t ts (Some i) e f h = let w = item_written (map lexeme (t ∷ ts)) i f in inr (i, (t ∷ ts, e, w.0, w.1), h)

  tokens_malformed : (line : List ℕ) (t : Result (List Tok) ℕ) → tokens_of line ≡ t → by_tokens asks t ≡ Err MALFORMED → SaysMalformed line
  tokens_malformed line (Err at) e h = inl (inl (at, e))
  tokens_malformed line (Ok []) e h = absurd cc
  tokens_malformed line (Ok (t ∷ ts)) e h = form_malformed line t ts (item_of (map lexeme (t ∷ ts))) e refl h

  no_form : (line : List ℕ) (t : Tok) (ts : List Tok) (o : Option Item) → tokens_of line ≡ Ok (t ∷ ts) → ((i : Item) → Spells line i → ⊥) → item_of (map lexeme (t ∷ ts)) ≡ o → by_form asks o ≡ Err MALFORMED
  no_form line t ts None e none f = refl
  no_form line t ts (Some i) e none f = let w = item_written (map lexeme (t ∷ ts)) i f in absurd (none i (t ∷ ts, e, w.0, w.1))

  from_malformed : (line : List ℕ) → IsMalformed line → by_tokens asks (tokens_of line) ≡ Err MALFORMED
  from_malformed line (inl (at, e)) = ap (by_tokens asks) e
  from_malformed line (inr (t, ts, e, none)) =
      ap (by_tokens asks) e ∙ no_form line t ts (item_of (map lexeme (t ∷ ts))) e none refl

module _ (m : PlantModel) (pending : List Pair) (mirrored : ℕ) where
  -- no item is malformed
  well_formed : (i : Item) (r : Result Event ℕ) → Says m pending mirrored i r → as_event r ≡ Err MALFORMED → ⊥
  well_formed i (Ok e) h k = absurd cc
  well_formed i (Err code) h k =
      let same : code ≡ MALFORMED = code_is code k in
      omega (arith, applies_above m pending mirrored i code h.0, same)

  form_nothing : (o : Option Item) → by_form (event_of m pending mirrored) o ≡ Ok None → ⊥
  form_nothing None h = absurd cc
  form_nothing (Some i) h = none_is (event_of m pending mirrored i) h

  tokens_nothing : (t : Result (List Tok) ℕ) → by_tokens (event_of m pending mirrored) t ≡ Ok None → t ≡ Ok []
  tokens_nothing (Err at) h = absurd cc
  tokens_nothing (Ok []) h = refl
  tokens_nothing (Ok (t ∷ ts)) h = absurd (form_nothing (item_of (map lexeme (t ∷ ts))) h)

  pub nothing_said : (line : List ℕ) → (event_line m pending mirrored line ≡ Ok None) ↔ (tokens_of line ≡ Ok [])
  unfolding event_line
  nothing_said line = (tokens_nothing (tokens_of line), λ h. ap (by_tokens (event_of m pending mirrored)) h)

  pub item_said : (line : List ℕ) (i : Item) → Spells line i → event_line m pending mirrored line ≡ as_event (event_of m pending mirrored i)
  unfolding event_line
  item_said line i spells = said_by (event_of m pending mirrored) line i spells

  -- no item is malformed itself
  no_item : (line : List ℕ) → SaysMalformed (event_of m pending mirrored) line → IsMalformed line
  no_item line (inl h) = h
  no_item line (inr (i, spells, h)) = absurd (well_formed i (event_of m pending mirrored i) (says m pending mirrored i) h)

  pub malformed_said : (line : List ℕ) → (event_line m pending mirrored line ≡ Err MALFORMED) ↔ IsMalformed line
  unfolding event_line
  malformed_said line = (λ h. no_item line (tokens_malformed (event_of m pending mirrored) line (tokens_of line) refl h), from_malformed (event_of m pending mirrored) line)

  -- ---- where lines set and clear no goals

  here_malformed : (i : Item) → SetsGoal i → as_event (event_here m pending mirrored i) ≡ Err MALFORMED
  here_malformed (Goal pairs) h = refl
  here_malformed Clear h = refl
  here_malformed (Observe pairs) h = absurd h
  here_malformed (Fault pair) h = absurd h
  here_malformed (Mirror name) h = absurd h
  here_malformed Reset h = absurd h
  here_malformed Tick h = absurd h

  as_elsewhere : (i : Item) → (SetsGoal i → ⊥) → event_here m pending mirrored i ≡ event_of m pending mirrored i
  as_elsewhere (Goal pairs) h = absurd (h tt)
  as_elsewhere Clear h = absurd (h tt)
  as_elsewhere (Observe pairs) h = refl
  as_elsewhere (Fault pair) h = refl
  as_elsewhere (Mirror name) h = refl
  as_elsewhere Reset h = refl
  as_elsewhere Tick h = refl

  elsewhere_well : (i : Item) → (SetsGoal i → ⊥) → as_event (event_here m pending mirrored i) ≡ Err MALFORMED → ⊥
  elsewhere_well i none h = well_formed i (event_of m pending mirrored i) (says m pending mirrored i) (ap as_event (sym (as_elsewhere i none)) ∙ h)

  sets_goal : (i : Item) → as_event (event_here m pending mirrored i) ≡ Err MALFORMED → SetsGoal i
  sets_goal (Goal pairs) h = tt
  sets_goal Clear h = tt
  sets_goal (Observe pairs) h = absurd (elsewhere_well (Observe pairs) (λ x. x) h)
  sets_goal (Fault pair) h = absurd (elsewhere_well (Fault pair) (λ x. x) h)
  sets_goal (Mirror name) h = absurd (elsewhere_well (Mirror name) (λ x. x) h)
  sets_goal Reset h = absurd (elsewhere_well Reset (λ x. x) h)
  sets_goal Tick h = absurd (elsewhere_well Tick (λ x. x) h)

  only_goals : (line : List ℕ) → SaysMalformed (event_here m pending mirrored) line → IsMalformed line ⊎ ((i : Item) × Spells line i × SetsGoal i)
  only_goals line (inl h) = inl h
  only_goals line (inr (i, spells, h)) = inr (i, spells, sets_goal i h)

  malformed_here : (line : List ℕ) → IsMalformed line ⊎ ((i : Item) × Spells line i × SetsGoal i) → by_tokens (event_here m pending mirrored) (tokens_of line) ≡ Err MALFORMED
  malformed_here line (inl h) = from_malformed (event_here m pending mirrored) line h
  malformed_here line (inr (i, spells, h)) = said_by (event_here m pending mirrored) line i spells ∙ here_malformed i h

  pub goal_is_malformed : (line : List ℕ) → (by_tokens (event_by false m pending mirrored) (tokens_of line) ≡ Err MALFORMED) ↔ (IsMalformed line ⊎ ((i : Item) × Spells line i × SetsGoal i))
  goal_is_malformed line = (λ h. only_goals line (tokens_malformed (event_here m pending mirrored) line (tokens_of line) refl h), malformed_here line)

  pub others_stay : (line : List ℕ) (i : Item) → Spells line i → (SetsGoal i → ⊥) → by_tokens (event_by false m pending mirrored) (tokens_of line) ≡ event_line m pending mirrored line
  others_stay line i spells none = said_by (event_here m pending mirrored) line i spells ∙ ap as_event (as_elsewhere i none) ∙ sym (item_said line i spells)

  pub all_stay : (line : List ℕ) → by_tokens (event_by true m pending mirrored) (tokens_of line) ≡ event_line m pending mirrored line
  unfolding event_line
  all_stay line = refl
