-- Lines of JSON, byte for byte.
use Rattle.std.specs.Prelude.{◌≡◌, ℕ, List, [], ◌∷◌, ◌++◌, codes}
use Rattle.cca_base.specs.declared.cube.Pair.{Pair}
use Rattle.cca_base.specs.declared.codes.TheConstants.{CLASH, ENDS_EARLY}
use Rattle.cca_base.specs.declared.events.Detail.TheVariants.{Nothing, Pairs}
use Rattle.cca_base.specs.declared.events.Reply.TheVariants.{Idle, Send, Unreachable}
use Rattle.cca_base.specs.declared.events.Shown.TheVariants.{Estimated, Holding}
use Rattle.cca_base.specs.declared.model.Component.{Component}
use Rattle.cca_base.specs.PlantModel.{PlantModel}
use Rattle.cca_base.specs.Model.{empty_model}
use Rattle.trace_text.specs.Json.{report_json, refusal_json}

-- a text and the line's end
abbrev pub line : List ℕ → List ℕ
line text = text ++ 10 ∷ []

-- a valve and its driver, of which a report tells the names
abbrev pub valve_names : PlantModel
valve_names = record (empty_model 1) {
  components =
      record { name = codes "drv"; modes = codes "off" ∷ codes "on" ∷ []; start = 0 }
      ∷ record { name = codes "valve"; modes = codes "closed" ∷ codes "open" ∷ codes "stuck" ∷ []; start = 0 } ∷ [];
  commands = codes "drv_on" ∷ codes "drv_off" ∷ codes "v_open" ∷ [];
}

-- the first tick sends the command for the driver
abbrev pub ValveSends : Type 0
ValveSends = report_json valve_names (record { tick = 1; shown = Estimated 0 (record { modes = 0 ∷ 0 ∷ [] }) (Send 0) })
    ≡ line (codes "{\"answer\":\"send\",\"command\":\"drv_on\",\"cost\":0,\"modes\":{\"drv\":\"off\",\"valve\":\"closed\"},\"tick\":1}")

-- a mode that cannot be reached stands beside its component
abbrev pub ValveIsUnreachable : Type 0
ValveIsUnreachable = report_json valve_names (record { tick = 12; shown = Estimated 4 (record { modes = 1 ∷ 2 ∷ [] }) (Unreachable 1 1) })
    ≡ line (codes "{\"answer\":\"unreachable\",\"component\":\"valve\",\"cost\":4,\"mode\":\"open\",\"modes\":{\"drv\":\"on\",\"valve\":\"stuck\"},\"tick\":12}")

-- a tick without an estimate shows nothing more
abbrev pub HoldingIsShort : Type 0
HoldingIsShort = report_json valve_names (record { tick = 3; shown = Holding }) ≡ line (codes "{\"answer\":\"holding\",\"tick\":3}")

-- a component of one mode
abbrev pub unit : List ℕ → Component
unit name = record { name = name; modes = codes "on" ∷ []; start = 0 }

-- three components in the order in which they are declared
abbrev pub three_units : PlantModel
three_units = record (empty_model 1) { components = unit (codes "c2") ∷ unit (codes "c10") ∷ unit (codes "c1") ∷ [] }

-- they are shown in byte order
abbrev pub TenBeforeTwo : Type 0
TenBeforeTwo = report_json three_units (record { tick = 1; shown = Estimated 0 (record { modes = 0 ∷ 0 ∷ 0 ∷ [] }) Idle })
    ≡ line (codes "{\"answer\":\"idle\",\"cost\":0,\"modes\":{\"c1\":\"on\",\"c10\":\"on\",\"c2\":\"on\"},\"tick\":1}")

-- an input that ends before its first line
abbrev pub EndsAtOnce : Type 0
EndsAtOnce = refusal_json (empty_model 1) 0 (record { code = ENDS_EARLY; detail = Nothing }) ≡ line (codes "{\"code\":17,\"detail\":\"\",\"line\":0,\"refused\":\"ends_early\"}")

-- the pairs of a clash
abbrev pub clashing : List Pair
clashing = record { item = 0; value = 1 } ∷ record { item = 1; value = 1 } ∷ []

-- they are named without a space before them
abbrev pub ClashNamesPairs : Type 0
ClashNamesPairs = refusal_json valve_names 20 (record { code = CLASH; detail = Pairs clashing })
    ≡ line (codes "{\"code\":9,\"detail\":\"drv=on valve=open\",\"line\":20,\"refused\":\"clash\"}")
