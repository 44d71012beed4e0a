-- What is printed of a tick, and of a refusal, doesn't depend on the version of the model.
use Rattle.std.proofs.Common.{◌≡◌, ℕ, List, [], ◌∷◌, ◌++◌, codes, refl, ap}
use Rattle.std.specs.Fmt.{decimal}
use Rattle.serde_json.specs.Data.{number, unsigned, object}
use Rattle.cca_base.specs.PlantModel.{PlantModel}
use Rattle.cca_base.specs.declared.events.Detail.{Detail}
use Rattle.cca_base.specs.declared.events.Detail.TheVariants.{Nothing, Pairs, OfMove, Components}
use Rattle.cca_base.specs.declared.events.Refusal.{Refusal}
use Rattle.cca_base.specs.declared.events.Reply.{Reply}
use Rattle.cca_base.specs.declared.events.Reply.TheVariants.{Idle, Send, Achieved, Unreachable}
use Rattle.cca_base.specs.declared.events.Route.{Route}
use Rattle.cca_base.specs.declared.events.Shown.{Shown}
use Rattle.cca_base.specs.declared.events.Shown.TheVariants.{Estimated, Unexplained, Holding}
use Rattle.cca_base.specs.declared.events.TickReport.{TickReport}
use Rattle.cca_base.specs.declared.state.World.{World}
use Rattle.plan_checker.specs.Reasons.{Printed}
use Rattle.run_form.specs.TickProofs.{text_if, tick_text}
use Rattle.trace_text.specs.Json.{Member, members_of, modes_object, reply_members, shown_members, report_object, json_line, report_json}
use Rattle.trace_text.specs.ProofLines.{world_line, route_text}
use Rattle.trace_text.specs.Refusals.{code_name, detail_text, refusal_line}
use Rattle.trace_text.specs.LineWords.{mode_words, reply_words, shown_words}
use Rattle.trace_text.specs.Reports.{report_line}
use Rattle.trace_text.specs.Words.{spaced_line}
use Rattle.version_laws.specs.Laws.{at_version}

-- what holds of each kind of reply holds of every reply
of_each_reply : (P : Reply → Type 0) → P Idle → ((k : ℕ) → P (Send k)) → P Achieved → ((c mode : ℕ) → P (Unreachable c mode)) → (r : Reply) → P r
of_each_reply P idle send achieved unreachable Idle = idle
of_each_reply P idle send achieved unreachable (Send k) = send k
of_each_reply P idle send achieved unreachable Achieved = achieved
of_each_reply P idle send achieved unreachable (Unreachable c mode) = unreachable c mode

module _ (m : PlantModel) (v : ℕ) where
  abbrev other : PlantModel
  other = at_version v m

  -- ---- lines

  reply_alike : (reply : Reply) → reply_words other reply ≡ reply_words m reply
  reply_alike = of_each_reply (λ r. reply_words other r ≡ reply_words m r) refl (λ k. refl) refl (λ c mode. refl)

  shown_alike : (shown : Shown) → shown_words other shown ≡ shown_words m shown
  shown_alike (Estimated cost state reply) =
      ap (λ (t : List (List ℕ)). codes "cost" ∷ decimal cost ∷ codes "modes" ∷ mode_words m.components state.modes ++ t) (reply_alike reply)
  shown_alike Unexplained = refl
  shown_alike Holding = refl

  pub report_alike : (r : TickReport) → report_line other r ≡ report_line m r
  unfolding report_line
  report_alike r = ap (λ (t : List (List ℕ)). spaced_line (codes "tick") (decimal r.tick ∷ t)) (shown_alike r.shown)

  world_alike : (w : World) → world_line other w ≡ world_line m w
  unfolding world_line
  world_alike w = refl

  route_alike : (r : Route) → route_text other r ≡ route_text m r
  unfolding route_text
  route_alike r = refl

  pub tick_alike : (t : Printed) → tick_text other t ≡ tick_text m t
  tick_alike t = λ i. report_alike t.report i ++ text_if (λ w. world_alike w i) t.world ++ text_if (λ r. route_alike r i) t.route

  -- ---- JSON

  reply_members_alike : (reply : Reply) → reply_members other reply ≡ reply_members m reply
  reply_members_alike = of_each_reply (λ r. reply_members other r ≡ reply_members m r) refl (λ k. refl) refl (λ c mode. refl)

  shown_members_alike : (shown : Shown) → shown_members other shown ≡ shown_members m shown
  shown_members_alike (Estimated cost state reply) =
      ap (λ (members : List Member). members ++ (codes "cost", number (unsigned cost)) ∷ (codes "modes", modes_object m.components state.modes) ∷ []) (reply_members_alike reply)
  shown_members_alike Unexplained = refl
  shown_members_alike Holding = refl

  pub json_alike : (r : TickReport) → report_json other r ≡ report_json m r
  unfolding report_object
  json_alike r = ap (λ (members : List Member). json_line (object (members_of (members ++ (codes "tick", number (unsigned r.tick)) ∷ [])))) (shown_members_alike r.shown)

  -- ---- refusals

  detail_alike : (detail : Detail) → detail_text other detail ≡ detail_text m detail
  detail_alike Nothing = refl
  detail_alike (Pairs cube) = refl
  detail_alike (OfMove k) = refl
  detail_alike (Components list) = refl

  pub refusal_alike : (line : ℕ) (r : Refusal) → refusal_line other line r ≡ refusal_line m line r
  unfolding refusal_line
  refusal_alike line r = ap (λ (t : List ℕ). codes "refused " ++ decimal line ++ 32 ∷ decimal r.code ++ 32 ∷ code_name r.code ++ t ++ 10 ∷ []) (detail_alike r.detail)
