-- What an event's line says doesn't depend on the version of its model.
use Rattle.std.proofs.Common.{◌≡◌, ℕ, ◌+◌, List, [], ◌∷◌, Option, Some, None, Result, Ok, Err, refl, sym, ap, subst}
use Rattle.cca_base.specs.PlantModel.{PlantModel}
use Rattle.cca_base.specs.declared.cube.Pair.{Pair}
use Rattle.cca_base.specs.declared.events.Event.{Event}
use Rattle.model_form.specs.Limits.{line_code, unless_long}
use Rattle.run_form.specs.Document.{Document, SaysBy, SaysScript, line_says}
use Rattle.script_reader.specs.EventCodes.{goal_code, observe_code, mirror_code}
use Rattle.script_reader.specs.EventLines.{event_line, event_of, by_tokens}
use Rattle.script_reader.specs.Items.{Item, Goal, Clear, Observe, Fault, Mirror, Reset, Tick}
use Rattle.text_base.specs.Tokens.{tokens_of}
use Rattle.trace_laws.specs.Events.{mirrored_after}
use Rattle.version_laws.specs.Laws.{at_version}
use Rattle.migrate_form.specs.MigrateLaws.{document_at}

module _ (m : PlantModel) (v : ℕ) where
  event_of_alike : (pending : List Pair) (mirrored : ℕ) (item : Item) → event_of (at_version v m) pending mirrored item ≡ event_of m pending mirrored item
  unfolding goal_code observe_code mirror_code
  event_of_alike pending mirrored (Goal pairs) = refl
  event_of_alike pending mirrored Clear = refl
  event_of_alike pending mirrored (Observe pairs) = refl
  event_of_alike pending mirrored (Fault pair) = refl
  event_of_alike pending mirrored (Mirror name) = refl
  event_of_alike pending mirrored Reset = refl
  event_of_alike pending mirrored Tick = refl

  event_line_alike : (pending : List Pair) (mirrored : ℕ) (l : List ℕ) → event_line (at_version v m) pending mirrored l ≡ event_line m pending mirrored l
  unfolding event_line
  event_line_alike pending mirrored l = λ i. by_tokens (λ item. event_of_alike pending mirrored item i) (tokens_of l)

  by_alike : (said : Result (Option Event) ℕ) (pending : List Pair) (mirrored n : ℕ) (P Q : List Pair → ℕ → Document → Type 0) (r : Document)
      → ((after : List Pair) (mirrors : ℕ) (d : Document) → P after mirrors d → Q after mirrors (document_at v d))
      → SaysBy said m pending mirrored n P r → SaysBy said (at_version v m) pending mirrored n Q (document_at v r)
  by_alike (Err code) pending mirrored n P Q r on h = ap (document_at v) h
  by_alike (Ok None) pending mirrored n P Q r on h = on pending mirrored r h
  by_alike (Ok (Some e)) pending mirrored n P Q r on (after, rest, known, later, is) =
      (after, document_at v rest, known, on after (mirrored_after mirrored e) rest later, ap (document_at v) is)

  -- a script says the same document of the model in another version
  pub script_at : (ls : List (List ℕ)) (pending : List Pair) (mirrored n : ℕ) (r : Document) → SaysScript m pending mirrored n ls r → SaysScript (at_version v m) pending mirrored n ls (document_at v r)
  script_at [] pending mirrored n r h = ap (document_at v) h
  script_at (l ∷ ls) pending mirrored n r h =
      let same : line_says m pending mirrored (n + 1) l ≡ line_says (at_version v m) pending mirrored (n + 1) l = ap (unless_long (line_code (n + 1) l)) (sym (event_line_alike pending mirrored l)) in
      subst (λ (said : Result (Option Event) ℕ). SaysBy said (at_version v m) pending mirrored (n + 1) (λ after mirrors d. SaysScript (at_version v m) after mirrors (n + 1) ls d) (document_at v r)) same
      (by_alike (line_says m pending mirrored (n + 1) l) pending mirrored (n + 1) (λ after mirrors d. SaysScript m after mirrors (n + 1) ls d) (λ after mirrors d. SaysScript (at_version v m) after mirrors (n + 1) ls d) r
      (λ after mirrors d. script_at ls after mirrors (n + 1) d) h)
