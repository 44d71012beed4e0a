-- What is true of the objects that are printed.
use Rattle.std.specs.Prelude.{◌≡◌, ◌≢◌, ◌↔◌, ℕ, List, [], ◌∷◌, ◌++◌, All, AllPairs, Contains}
use Rattle.std.specs.Ordering.{nat_cmp}
use Rattle.std.specs.declared.cmp.Ordering.TheVariants.{Less}
use Rattle.std.specs.Cmp.Lexicographic.{slice_cmp}
use Rattle.serde_json.specs.Data.{string, Members, no_members, member}
use Rattle.serde_json.specs.Written.{compact_text}
use Rattle.cca_base.specs.PlantModel.{PlantModel}
use Rattle.cca_base.specs.Model.{WellFormed}
use Rattle.trace_text.specs.Json.{Member, members_of}

-- the members of an object as a list, first to last
abbrev pub listed : Members → List Member
listed no_members = []
listed (member k d ms) = (k, d) ∷ listed ms

-- the keys of an object, first to last
abbrev pub keys : Members → List (List ℕ)
keys no_members = []
keys (member k d ms) = k ∷ keys ms

-- a text comes before another in byte order
abbrev pub IsBelow : List ℕ → List ℕ → Type 0
IsBelow x y = slice_cmp nat_cmp x y ≡ Less

-- whatever an object is made of, each of its keys comes before the later ones in byte order
abbrev pub KeysRise : Type 0
KeysRise = (ps : List Member) → AllPairs IsBelow (keys (members_of ps))

-- an object that is made of members with different keys has those members and no others
abbrev pub MembersStay : Type 0
MembersStay = (ps : List Member) → AllPairs (λ p q. p.0 ≢ q.0) ps → (p : Member) → Contains (listed (members_of ps)) p ↔ Contains ps p

-- JSON writes the text between quotation marks and without escapes
abbrev pub IsPlain : List ℕ → Type 0
IsPlain text = compact_text (string text) ≡ 34 ∷ text ++ 34 ∷ []

-- in a well-formed model the names of components, modes and commands are written without escapes
abbrev pub NamesArePlain : Type 0
NamesArePlain = (m : PlantModel) → WellFormed m → All (λ c. IsPlain c.name × All IsPlain c.modes) m.components × All IsPlain m.commands
