-- Reports and refusals as lines of JSON.
use Rattle.std.specs.Prelude.{ℕ, Bool, true, false, List, [], ◌∷◌, ◌++◌, codes, drop, fold, IsAscii}
use Rattle.serde_json.specs.Data.{Data, number, unsigned, string, object, Members, no_members, put}
use Rattle.serde_json.specs.Written.{compact_text}
use Rattle.cca_base.specs.declared.model.Component.{Component}
use Rattle.cca_base.specs.declared.events.Reply.{Reply}
use Rattle.cca_base.specs.declared.events.Reply.TheVariants.{Idle, Send, Achieved, Unreachable}
use Rattle.cca_base.specs.declared.events.Shown.{Shown}
use Rattle.cca_base.specs.declared.events.Shown.TheVariants.{Estimated, Unexplained, Holding}
use Rattle.cca_base.specs.declared.events.TickReport.{TickReport}
use Rattle.cca_base.specs.declared.events.Refusal.{Refusal}
use Rattle.cca_base.specs.PlantModel.{PlantModel}
use Rattle.trace_text.specs.Names.{name_at, component_name, mode_name}
use Rattle.trace_text.specs.Refusals.{code_name, detail_text, refusal_line}

-- a member of an object: its key and its value
abbrev pub Member : Type 0
Member = List ℕ × Data

-- the members with more of them, each put at its place in byte order; a later one takes the place of an earlier one of the same key
abbrev pub with_members : Members → List Member → Members
with_members ms more = fold (λ before p. put p.0 p.1 before) ms more

-- the members of a JSON object
abbrev pub members_of : List Member → Members
members_of members = with_members no_members members

-- each component's name with the name of its mode
abbrev pub modes_members : List Component → List ℕ → List Member
modes_members [] modes = []
modes_members (c ∷ cs) [] = []
modes_members (c ∷ cs) (mode ∷ modes) = (c.name, string (name_at c.modes mode)) ∷ modes_members cs modes

-- the state, as an object of the components' names
unfoldable pub modes_object : List Component → List ℕ → Data
modes_object components modes = object (members_of (modes_members components modes))

-- what a reply says, by the names of the model
abbrev pub reply_members : PlantModel → Reply → List Member
reply_members m Idle = (codes "answer", string (codes "idle")) ∷ []
reply_members m (Send k) = (codes "answer", string (codes "send")) ∷ (codes "command", string (name_at m.commands k)) ∷ []
reply_members m Achieved = (codes "answer", string (codes "achieved")) ∷ []
reply_members m (Unreachable c mode) =
    (codes "answer", string (codes "unreachable")) ∷ (codes "component", string (component_name m.components c)) ∷ (codes "mode", string (mode_name m.components c mode)) ∷ []

-- what a tick shows
abbrev pub shown_members : PlantModel → Shown → List Member
shown_members m (Estimated cost state reply) = reply_members m reply ++ (codes "cost", number (unsigned cost)) ∷ (codes "modes", modes_object m.components state.modes) ∷ []
shown_members m Unexplained = (codes "answer", string (codes "unexplained")) ∷ []
shown_members m Holding = (codes "answer", string (codes "holding")) ∷ []

-- a report as an object
unfoldable pub report_object : PlantModel → TickReport → Data
report_object m r = object (members_of (shown_members m r.shown ++ (codes "tick", number (unsigned r.tick)) ∷ []))

-- a refusal's detail as it stands in an object: that of a plain line, without the space before it
unfoldable pub bare_detail : PlantModel → Refusal → List ℕ
bare_detail m r = drop 1 (detail_text m r.detail)

-- a refusal as an object
unfoldable pub refusal_object : PlantModel → ℕ → Refusal → Data
refusal_object m line r =
    object (members_of (
    (codes "code", number (unsigned r.code)) ∷ (codes "detail", string (bare_detail m r)) ∷ (codes "line", number (unsigned line)) ∷ (codes "refused", string (code_name r.code)) ∷ []
    ))

-- an object's line: its text without spaces, and the line's end
unfoldable pub json_line : Data → List ℕ
json_line d = compact_text d ++ 10 ∷ []

-- the line of a tick's report
abbrev pub report_json : PlantModel → TickReport → List ℕ
report_json m r = json_line (report_object m r)

-- the line of a refusal
abbrev pub refusal_json : PlantModel → ℕ → Refusal → List ℕ
refusal_json m line r = json_line (refusal_object m line r)

-- the line of a refusal, as JSON or in words
abbrev pub refusal_text : Bool → PlantModel → ℕ → Refusal → List ℕ
refusal_text false m line r = refusal_line m line r
refusal_text true m line r = refusal_json m line r

-- the names of a component and of its modes are ASCII
pub record HasAsciiNames (c : Component) : Type 0 where
  pub name : IsAscii c.name
  pub modes : (mode : ℕ) → IsAscii (name_at c.modes mode)
