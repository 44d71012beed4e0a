-- Some lines of the document of seed 0, and whole documents by their checksums.
use Rattle.std.specs.Prelude.{◌≡◌, ℕ, ◌+◌, ◌-◌, ◌*◌, ◌/◌, ◌%◌, ◌^◌, List, fold, codes, Some, slice_get, length}
use Rattle.trial_maker.specs.Draws.{next_number, draw}
use Rattle.trial_maker.specs.Documents.{document_lines, document}

-- a document has a line at a number, counted from 1
abbrev pub HasLine : ℕ → ℕ → List ℕ → Type 0
HasLine seed number line = slice_get (document_lines seed) (number - 1) ≡ Some line

-- the number behind 0, and what the first draw divides
abbrev pub FirstNumber : Type 0
FirstNumber = (next_number 0 ≡ 1442695040888963407) × (next_number 0 / 2 ^ 33 ≡ 167951807)

-- a first draw of 3 gives 2
abbrev pub FirstDraw : Type 0
FirstDraw = (draw 3 0).0 ≡ 2

-- the first guard that is drawn
abbrev pub FirstGuard : Type 0
FirstGuard = HasLine 0 150 (codes "move c0_1 a->b by k0_1_0 when c0_0=c")

-- the first goal, behind all draws of moves and failures
abbrev pub FirstGoal : Type 0
FirstGoal = HasLine 0 579 (codes "goal c4_5=b,c5_3=a")

-- the first fault
abbrev pub FirstFault : Type 0
FirstFault = HasLine 0 591 (codes "fault c4_2=x")

-- a checksum of some bytes: they are the digits of a number in base 31, of which 64 bits are kept
abbrev pub checksum : List ℕ → ℕ
checksum bytes = fold (λ sum byte. (sum * 31 + byte) % 2 ^ 64) 0 bytes

-- a document has so many lines and bytes, with this checksum
pub record HasCounts (seed line_count byte_count sum : ℕ) : Type 0 where
  pub lines : length (document_lines seed) ≡ line_count
  pub bytes : length (document seed) ≡ byte_count
  pub digits : checksum (document seed) ≡ sum

-- the whole document of the least seed
abbrev pub LeastSeed : Type 0
LeastSeed = HasCounts 0 805 17124 7060342069679021904

-- that of another seed
abbrev pub SeedSeven : Type 0
SeedSeven = HasCounts 7 801 17072 4207979679328940639

-- that of the greatest seed
abbrev pub GreatestSeed : Type 0
GreatestSeed = HasCounts 18446744073709551615 796 17007 5482147909937647794
