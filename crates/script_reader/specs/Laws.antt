-- The table of codes of event lines, in words of the names that stand in a line.
use Rattle.std.specs.Prelude.{◌≡◌, ◌⊎◌, ℕ, true, false, List, [], ◌∷◌, map, Some, None, Ok, Err, Contains}
use Rattle.text_base.specs.Tokens.{Tok, tokens_of}
use Rattle.text_base.specs.Lexemes.{lexeme}
use Rattle.text_base.specs.Pairs.{NamedPair}
use Rattle.cca_base.specs.declared.codes.TheConstants.{NAME_UNKNOWN, NOT_SENSED, BROKEN_GOAL, REPEATED_PAIR, MIRRORED}
use Rattle.cca_base.specs.declared.cube.Pair.{Pair}
use Rattle.cca_base.specs.declared.events.Event.{Event}
use Rattle.cca_base.specs.declared.events.Event.TheVariants as event
use Rattle.cca_base.specs.PlantModel.{PlantModel}
use Rattle.cca_base.specs.Model.{is_broken}
use Rattle.cca_base.specs.Sets.{has}
use Rattle.script_reader.specs.Items.{Item, Goal, Clear, Observe, Fault, Mirror, Reset, Tick, spelling, IsSpelled}
use Rattle.script_reader.specs.Named.{variable_of, mode_pair, value_pair, each_pair}
use Rattle.script_reader.specs.EventCodes.{is_sensed}
use Rattle.script_reader.specs.SaidLines.{IsLeast}

-- the tokens of the line spell the item
abbrev pub Spells : List ℕ → Item → Type 0
Spells line i = (ts : List Tok) × (tokens_of line ≡ Ok ts) × (map lexeme ts ≡ spelling i) × IsSpelled i

-- the line has a byte that belongs to nothing, or it has tokens that spell no item
abbrev pub IsMalformed : List ℕ → Type 0
IsMalformed line = ((at : ℕ) × (tokens_of line ≡ Err at)) ⊎ ((t : Tok) × (ts : List Tok) × (tokens_of line ≡ Ok (t ∷ ts)) × ((i : Item) → Spells line i → ⊥))

-- a name of the line is no component, or no mode of it; or it is no variable, or no value of it
abbrev pub NamesUnknown : PlantModel → Item → Type 0
NamesUnknown m (Goal pairs) = (p : NamedPair) × Contains pairs p × (mode_pair m p ≡ None)
NamesUnknown m (Observe pairs) = (p : NamedPair) × Contains pairs p × (value_pair m p ≡ None)
NamesUnknown m (Fault pair) = mode_pair m pair ≡ None
NamesUnknown m (Mirror name) = variable_of m name ≡ None
NamesUnknown m i = ⊥

-- the line observes the variable, or mirrors it
abbrev pub NamesVariable : PlantModel → Item → ℕ → Type 0
NamesVariable m (Observe pairs) v = (p : NamedPair) × Contains pairs p × (variable_of m p.name ≡ Some v)
NamesVariable m (Mirror name) v = variable_of m name ≡ Some v
NamesVariable m (Goal pairs) v = ⊥
NamesVariable m (Fault pair) v = ⊥
NamesVariable m Clear v = ⊥
NamesVariable m Reset v = ⊥
NamesVariable m Tick v = ⊥

-- a variable that the line observes or mirrors is not sensed
abbrev pub NamesUnsensed : PlantModel → Item → Type 0
NamesUnsensed m item = (v : ℕ) × NamesVariable m item v × (is_sensed m v ≡ false)

-- a pair of a goal has a broken mode
abbrev pub WantsBroken : PlantModel → Item → Type 0
WantsBroken m (Goal pairs) = (p : NamedPair) × (q : Pair) × Contains pairs p × (mode_pair m p ≡ Some q) × (is_broken m.moves q.item q.value ≡ true)
WantsBroken m i = ⊥

-- a later pair has the name of the first, or two of the later ones have one name
abbrev pub HaveNameTwice : List NamedPair → Type 0
HaveNameTwice [] = ⊥
HaveNameTwice (p ∷ ps) = ((q : NamedPair) × Contains ps q × (q.name ≡ p.name)) ⊎ HaveNameTwice ps

-- a name stands twice in the line
abbrev pub NamesTwice : Item → Type 0
NamesTwice (Goal pairs) = HaveNameTwice pairs
NamesTwice (Observe pairs) = HaveNameTwice pairs
NamesTwice i = ⊥

-- a variable that the line observes or mirrors has a pending observation
abbrev pub NamesPending : PlantModel → List Pair → Item → Type 0
NamesPending m pending item = (v : ℕ) × (p : Pair) × NamesVariable m item v × Contains pending p × (p.item ≡ v)

-- a variable that the line observes or mirrors is mirrored
abbrev pub NamesMirrored : PlantModel → ℕ → Item → Type 0
NamesMirrored m mirrored item = (v : ℕ) × NamesVariable m item v × (has mirrored v ≡ true)

-- the code applies to the line, with these pending observations and these mirrored variables
abbrev pub Applies : PlantModel → List Pair → ℕ → Item → ℕ → Type 0
Applies m pending mirrored item code =
    ((code ≡ NAME_UNKNOWN) × NamesUnknown m item)
    ⊎ (((code ≡ NOT_SENSED) × NamesUnsensed m item)
    ⊎ (((code ≡ BROKEN_GOAL) × WantsBroken m item)
    ⊎ (((code ≡ REPEATED_PAIR) × (NamesTwice item ⊎ NamesPending m pending item))
    ⊎ ((code ≡ MIRRORED) × NamesMirrored m mirrored item))))

-- the code applies, and none that is less
abbrev pub IsLeastCode : PlantModel → List Pair → ℕ → Item → ℕ → Type 0
IsLeastCode m pending mirrored item code = IsLeast (Applies m pending mirrored item) code

-- the event is the one that the line's words name
abbrev pub IsNamed : PlantModel → Item → Event → Type 0
IsNamed m (Goal pairs) e = (qs : List Pair) × (each_pair (mode_pair m) pairs ≡ Some qs) × (e ≡ event.Goal qs)
IsNamed m (Observe pairs) e = (qs : List Pair) × (each_pair (value_pair m) pairs ≡ Some qs) × (e ≡ event.Observe qs)
IsNamed m (Fault pair) e = (q : Pair) × (mode_pair m pair ≡ Some q) × (e ≡ event.Fault q)
IsNamed m (Mirror name) e = (v : ℕ) × (variable_of m name ≡ Some v) × (e ≡ event.Mirror v)
IsNamed m Clear e = e ≡ event.Clear
IsNamed m Reset e = e ≡ event.Reset
IsNamed m Tick e = e ≡ event.Tick

-- the item sets or clears a goal
abbrev pub SetsGoal : Item → Type 0
SetsGoal (Goal pairs) = Unit {0}
SetsGoal Clear = Unit {0}
SetsGoal (Observe pairs) = ⊥
SetsGoal (Fault pair) = ⊥
SetsGoal (Mirror name) = ⊥
SetsGoal Reset = ⊥
SetsGoal Tick = ⊥
