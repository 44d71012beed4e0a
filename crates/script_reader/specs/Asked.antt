-- What an event line asks for, apart from its pairs, and what is found of its pairs one by one.
use Rattle.std.specs.Prelude.{◌≡◌, ℕ, Bool, true, false, not, ◌&&◌, ◌||◌, codes, if◌then◌else◌, List, [], ◌∷◌, ◌++◌, length, Option, Some, None, Result, Ok, Err, IfOk, IfSome}
use Rattle.std.specs.List.{list_any}
use Rattle.cca_base.specs.declared.codes.TheConstants.{MALFORMED, NAME_UNKNOWN, NOT_SENSED, BROKEN_GOAL, REPEATED_PAIR, MIRRORED}
use Rattle.cca_base.specs.declared.cube.Pair.{Pair}
use Rattle.cca_base.specs.declared.events.Event.{Event}
use Rattle.cca_base.specs.declared.events.Event.TheVariants as event
use Rattle.cca_base.specs.PlantModel.{PlantModel}
use Rattle.cca_base.specs.Sets.{has}
use Rattle.cca_base.specs.Trace.{MayCome}
use Rattle.text_base.specs.Lexemes.{Lexeme, is_lexeme, word}
use Rattle.text_base.specs.Pairs.{NamedPair}
use Rattle.script_reader.specs.declared.asked.Asked.{Asked}
use Rattle.script_reader.specs.declared.asked.Asked.TheVariants as asked
use Rattle.script_reader.specs.declared.found.Found.{Found}
use Rattle.script_reader.specs.declared.named.Naming.{Naming}
use Rattle.script_reader.specs.declared.named.Naming.TheVariants.{Modes, Values}
use Rattle.script_reader.specs.EventCodes.{has_item, has_item_twice, is_sensed, is_broken_pair}
use Rattle.script_reader.specs.Items.{Item}
use Rattle.script_reader.specs.Named.{stands_for, each_pair}

-- the event that is asked for, where these are its pairs
abbrev pub event_with : List Pair → Asked → Event
event_with pairs asked.Goal = event.Goal pairs
event_with pairs asked.Clear = event.Clear
event_with pairs asked.Observe = event.Observe pairs
event_with pairs (asked.Fault pair) = event.Fault pair
event_with pairs (asked.Mirror v) = event.Mirror v
event_with pairs asked.Reset = event.Reset
event_with pairs asked.Tick = event.Tick

-- what is said of an item, where these are its pairs
abbrev pub asked_with : List Pair → Result Asked ℕ → Result Event ℕ
asked_with pairs (Ok a) = Ok (event_with pairs a)
asked_with pairs (Err code) = Err code

-- what is said of a line, where these are its pairs
abbrev pub said_with : List Pair → Result (Option Asked) ℕ → Result (Option Event) ℕ
said_with pairs (Ok None) = Ok None
said_with pairs (Ok (Some a)) = Ok (Some (event_with pairs a))
said_with pairs (Err code) = Err code

-- what an item says, where the line has a form
abbrev pub formed : (Item → Result Event ℕ) → Option Item → Result Event ℕ
formed says None = Err MALFORMED
formed says (Some item) = says item

-- how many components there are, or variables
abbrev pub count : Naming → PlantModel → ℕ
count Modes m = length m.components
count Values m = length m.variables

-- the pair has a broken mode, or its variable is not sensed
abbrev pub is_unfit : Naming → PlantModel → Pair → Bool
is_unfit Modes m p = is_broken_pair m p
is_unfit Values m p = not (is_sensed m p.item)

-- what is found of pairs: which codes apply to them; the list has them where none is of an item twice
pub record AreFound (naming : Naming) (m : PlantModel) (pending : List Pair) (mirrored : ℕ) (qs : List Pair) (f : Found) (items : List Pair) : Type 0 where
  pub unfit : f.unfit ≡ list_any (is_unfit naming m) qs
  pub twice : f.twice ≡ has_item_twice qs
  pub is_pending : f.pending ≡ list_any (λ p. has_item pending p.item) qs
  pub is_mirrored : f.mirrored ≡ list_any (λ p. has mirrored p.item) qs
  pub kept : f.twice ≡ false → items ≡ qs

-- a name that stands for nothing, or what is found of the pairs that the names stand for
abbrev pub IsFound : Naming → PlantModel → List Pair → ℕ → Option (List Pair) → Found → List Pair → Type 0
IsFound naming m pending mirrored None f items = f.unknown ≡ true
IsFound naming m pending mirrored (Some qs) f items = (f.unknown ≡ false) × AreFound naming m pending mirrored qs f items

-- what is found of these names
abbrev pub IsFoundOf : Naming → PlantModel → List Pair → ℕ → List NamedPair → Found → List Pair → Type 0
IsFoundOf naming m pending mirrored named f items = IsFound naming m pending mirrored (each_pair (stands_for naming m) named) f items

-- so much was found of some names
abbrev pub IsFoundBefore : Naming → PlantModel → List Pair → ℕ → Found → List Pair → Type 0
IsFoundBefore naming m pending mirrored f items = (before : List NamedPair) × IsFoundOf naming m pending mirrored before f items

-- where the first was found of some names, the second is found with one name more
abbrev pub IsFoundNext : Naming → PlantModel → List Pair → ℕ → NamedPair → Found → List Pair → Found → List Pair → Type 0
IsFoundNext naming m pending mirrored n f items g new = (before : List NamedPair) → IsFoundOf naming m pending mirrored before f items → IsFoundOf naming m pending mirrored (before ++ n ∷ []) g new

-- what is found of the pairs that a line has, if it has the form
abbrev pub IsFoundIn : Naming → PlantModel → List Pair → ℕ → Option (List NamedPair) → Option Found → List Pair → Type 0
IsFoundIn naming m pending mirrored None found items = found ≡ None
IsFoundIn naming m pending mirrored (Some named) None items = ⊥
IsFoundIn naming m pending mirrored (Some named) (Some f) items = IsFoundOf naming m pending mirrored named f items

-- what a goal asks for, or its least code, by what is found
abbrev pub goal_asked : Found → Result Asked ℕ
goal_asked f = if f.unknown then Err NAME_UNKNOWN else (if f.unfit then Err BROKEN_GOAL else (if f.twice then Err REPEATED_PAIR else Ok asked.Goal))

-- the same of observations
abbrev pub observe_asked : Found → Result Asked ℕ
observe_asked f = if f.unknown then Err NAME_UNKNOWN else (if f.unfit then Err NOT_SENSED else (if f.twice || f.pending then Err REPEATED_PAIR else (if f.mirrored then Err MIRRORED else Ok asked.Observe)))

-- the event that is asked for, if one is, may come
abbrev pub AsksWhatMayCome : PlantModel → List Pair → ℕ → List Pair → Result (Option Asked) ℕ → Type 0
AsksWhatMayCome m pending mirrored pairs answer = IfOk answer (λ a. IfSome a (λ x. MayCome m pending mirrored (event_with pairs x)))

-- this, where nothing follows
abbrev pub ended_asked : Asked → List Lexeme → Result Asked ℕ
ended_asked a [] = Ok a
ended_asked a (l ∷ ls) = Err MALFORMED

-- the word goal or clear
abbrev pub sets_goal : Lexeme → Bool
sets_goal l = is_lexeme (word (codes "goal")) l || is_lexeme (word (codes "clear")) l

-- a line that would set or clear a goal, where none does
abbrev pub is_left_out : Bool → Lexeme → Bool
is_left_out goals l = not goals && sets_goal l
