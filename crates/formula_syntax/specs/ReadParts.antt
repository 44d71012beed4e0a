-- What parts of a formula's text say, while a text is read from left to right.
use Rattle.std.specs.Prelude.{ℕ, ◌+◌, Bool, true, false, ◌||◌, ◌&&◌, if◌then◌else◌, nat_lt, max, min, List, [], ◌∷◌, ◌++◌, Option, Some, None}
use Rattle.cca_base.specs.declared.formula.Formula.{Formula, roll-Formula}
use Rattle.cca_base.specs.declared.formula.Formula.TheOpen.{Formula-F}
use Rattle.cca_base.specs.declared.formula.Subject.{Subject}
use Rattle.cca_base.specs.declared.limits.TheConstants.{MAX_DEPTH}
use Rattle.cca_base.specs.PlantModel.{PlantModel}
use Rattle.cca_base.specs.Sets.{has, with_number}
use Rattle.formula_syntax.specs.declared.read_part.ReadPart.{ReadPart}
use Rattle.formula_syntax.specs.declared.read_part.ReadPart.TheVariants.{Sound, Faulty}
use Rattle.formula_syntax.specs.declared.read_parts.ReadParts.{ReadParts}
use Rattle.formula_syntax.specs.declared.read_parts.ReadParts.TheVariants as parts
use Rattle.formula_syntax.specs.declared.atom.Atom.{Atom}
use Rattle.formula_syntax.specs.declared.atom.Atom.TheVariants.{Known, Unknown}
use Rattle.formula_syntax.specs.declared.formula_parser.Connective.{Connective}
use Rattle.formula_syntax.specs.declared.formula_parser.Connective.TheVariants as link
use Rattle.formula_syntax.specs.declared.formula_parser.Junction.{Junction}
use Rattle.formula_syntax.specs.declared.formula_parser.Junction.TheVariants as junction
use Rattle.cca_base.specs.declared.codes.TheConstants.{NAME_UNKNOWN, NAME_REPEATED, LIMIT}
use Rattle.formula_syntax.specs.Lookups.{subject_of, value_of}

-- the formula, one deeper than its parts
abbrev pub deeper : Formula → ℕ → ReadPart
deeper formula depth = if nat_lt depth MAX_DEPTH then Sound formula (depth + 1) else Faulty LIMIT

-- not the part
abbrev pub negated : ReadPart → ReadPart
negated (Sound formula depth) = deeper (roll-Formula (Formula-F.Not formula)) depth
negated (Faulty code) = Faulty code

-- the part in parentheses
abbrev pub enclosed : ReadPart → ReadPart
enclosed (Sound formula depth) = deeper formula depth
enclosed (Faulty code) = Faulty code

-- the formula that the word between two parts makes
abbrev pub link_of : Connective → Formula → Formula → Formula
link_of link.Implies f g = roll-Formula (Formula-F.Implies f g)
link_of link.Iff f g = roll-Formula (Formula-F.Iff f g)

-- two parts with a word between them
abbrev pub linked : Connective → ReadPart → ReadPart → ReadPart
linked l (Sound f d) (Sound g e) = deeper (link_of l f g) (max d e)
linked l (Sound f d) (Faulty e) = Faulty e
linked l (Faulty c) (Sound g e) = Faulty c
linked l (Faulty c) (Faulty e) = Faulty (min c e)

-- one part
abbrev pub one : ReadPart → ReadParts
one (Sound formula depth) = parts.One formula depth
one (Faulty code) = parts.Faulty code

-- one part more
abbrev pub more : ReadParts → ReadPart → ReadParts
more (parts.One f d) (Sound g e) = parts.Many (f ∷ g ∷ []) (max d e)
more (parts.Many fs d) (Sound g e) = parts.Many (fs ++ g ∷ []) (max d e)
more (parts.Faulty c) (Sound g e) = parts.Faulty c
more (parts.One f d) (Faulty e) = parts.Faulty e
more (parts.Many fs d) (Faulty e) = parts.Faulty e
more (parts.Faulty c) (Faulty e) = parts.Faulty (min c e)

-- the formula that the parts make with this word between them
abbrev pub junction_of : Junction → List Formula → Formula
junction_of junction.And fs = roll-Formula (Formula-F.All fs)
junction_of junction.Or fs = roll-Formula (Formula-F.Any fs)

-- the parts with this word between them
abbrev pub joined : Junction → ReadParts → ReadPart
joined j (parts.One f d) = Sound f d
joined j (parts.Many fs d) = deeper (junction_of j fs) d
joined j (parts.Faulty c) = Faulty c

-- the parts with `and` between them
abbrev pub all_of : ReadParts → ReadPart
all_of = joined junction.And

-- the parts with `or` between them
abbrev pub any_of : ReadParts → ReadPart
any_of = joined junction.Or

-- an atom that begins with this subject
abbrev pub begun : Option Subject → Atom
begun None = Unknown
begun (Some subject) = Known subject 0 false

-- an atom that begins with this name
abbrev pub named : PlantModel → List ℕ → Atom
named m name = begun (subject_of m name)

-- one value more, by its number; a strict reading marks one that came before
abbrev pub counted : Bool → Subject → ℕ → Bool → Option ℕ → Atom
counted strict subject values repeated None = Unknown
counted strict subject values repeated (Some k) = Known subject (with_number values k) (repeated || (strict && has values k))

-- one value more
abbrev pub with_value : Bool → PlantModel → Atom → List ℕ → Atom
with_value strict m Unknown text = Unknown
with_value strict m (Known subject values repeated) text = counted strict subject values repeated (value_of m subject text)

-- what the atom says
abbrev pub among : Atom → ReadPart
among Unknown = Faulty NAME_UNKNOWN
among (Known subject values true) = Faulty NAME_REPEATED
among (Known subject values false) = Sound (roll-Formula (Formula-F.Among subject values)) 1
